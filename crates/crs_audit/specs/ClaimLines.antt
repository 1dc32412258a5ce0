-- The line of an audit.
use Rattle.std.specs.Prelude.{ℕ, List, [], ◌∷◌, ◌++◌, codes, decimal}
use Rattle.crs_audit.specs.declared.words.AuditWord.{AuditWord}
use Rattle.crs_audit.specs.declared.words.AuditWord.TheVariants as words

abbrev pub word_text : AuditWord → List ℕ
word_text words.Form = codes "form"
word_text words.Chronicle = codes "chronicle"
word_text words.Mark = codes "mark"
word_text words.Entry = codes "entry"
word_text words.Fit = codes "fit"
word_text words.Bounds = codes "bounds"
word_text words.Window = codes "window"
word_text words.Text = codes "text"
word_text words.Twice = codes "twice"

-- of the first faulty line of an output
abbrev pub fault_line : ℕ → AuditWord → List ℕ
fault_line line word = codes "audit line " ++ decimal line ++ codes " " ++ word_text word ++ 10 ∷ []

-- of an output with so many claims, of which none has a fault
abbrev pub ok_line : ℕ → List ℕ
ok_line claims = codes "audit ok " ++ decimal claims ++ 10 ∷ []
