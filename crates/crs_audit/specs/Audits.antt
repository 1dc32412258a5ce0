-- Which fault a claim of an output has, by the models and the log; and what the audit of an output is.
use Rattle.std.specs.Prelude.{◌≡◌, ◌≢◌, ◌⊎◌, ℕ, ◌+◌, true, List, [], ◌∷◌, ◌++◌, length, map, Option, Some, None, slice_get, Result, Ok, Err, if◌then◌else◌}
use Rattle.std.specs.List.{AllZip}
use Rattle.std.specs.Str.{bytes_eq}
use Rattle.crs_base.specs.Entry.{Entry}
use Rattle.crs_base.specs.Lines.{Line, lines_of, bytes_of}
use Rattle.crs_base.specs.Words.{IsIn, Ordered}
use Rattle.crs_stn.specs.Bound.{MeetsInPart}
use Rattle.crs_model.specs.declared.recognition.Mark.{Mark}
use Rattle.crs_model.specs.Models.{Chronicle, Window}
use Rattle.crs_model.specs.Matching.{IsAssignment}
use Rattle.crs_model.specs.Partial.{dates_of}
use Rattle.crs_model.specs.Verdicts.{IsMet}
use Rattle.crs_log.specs.Reading.{numbered}
use Rattle.crs_log.specs.Run.{Setting, at_start}
use Rattle.crs_log.specs.Recognitions.{View, scope_in}
use Rattle.crs_report.specs.OutputLines.{recognition_line}
use Rattle.crs_audit.specs.declared.words.AuditWord.{AuditWord}
use Rattle.crs_audit.specs.declared.words.AuditWord.TheVariants as words
use Rattle.crs_audit.specs.Claims.{Claim, Said, Other, Formless, Claims, said_of}
use Rattle.crs_audit.specs.Notes.{number_of, notes_of, last_view}

-- what claims are judged by: the models' chronicles, and a log with what it is read with: the setting, and the texts that are known at first
pub record Ground : Type 0 where
  pub chronicles : List (Chronicle (List ℕ))
  pub setting : Setting
  pub texts : List (List ℕ)
  pub log : List ℕ

abbrev pub chronicle_named : List (Chronicle (List ℕ)) → List ℕ → Option (Chronicle (List ℕ))
chronicle_named [] name = None
chronicle_named (c ∷ cs) name = if bytes_eq c.name name then Some c else chronicle_named cs name

-- what recognition reads behind the last accepted mark of this number
abbrev pub view_at : Ground → Mark → Option View
view_at g mark = last_view (notes_of g.setting (at_start g.texts) (numbered (lines_of g.log))) (number_of mark)

-- the entries of the pool with these arrival numbers, which are one for each event and none twice
pub record AreCited (c : Chronicle (List ℕ)) (pool : List (Entry (List ℕ))) (numbers : List ℕ) (entries : List (Entry (List ℕ))) : Type 0 where
  pub each : length numbers ≡ length c.events
  pub distinct : Ordered (λ m n. m ≢ n) numbers
  pub given : AllZip (λ n e. (e.arrival ≡ n) × IsIn e pool) numbers entries

-- Either this doesn't hold, and the verdict is the word; or it does, and what follows of it says the verdict.
abbrev pub Unless : AuditWord → Option AuditWord → (P : Type 0) → (P → Type 0) → Type 0
Unless word verdict P Else = ((P → ⊥) × (verdict ≡ Some word)) ⊎ ((p : P) × Else p)

-- The verdict of a claim that the line of these bytes makes, where earlier claims were these: the first word that applies, or none.
abbrev pub IsVerdict : Ground → List (List ℕ × List ℕ) → List ℕ → Claim → Option AuditWord → Type 0
IsVerdict g earlier bytes claim verdict =
    Unless words.Chronicle verdict ((c : Chronicle (List ℕ)) × (chronicle_named g.chronicles claim.name ≡ Some c)) (λ c.
    Unless words.Mark verdict ((v : View) × (view_at g claim.mark ≡ Some v)) (λ v.
    Unless words.Entry verdict ((entries : List (Entry (List ℕ))) × AreCited c.0 (scope_in c.0 v.0).pool claim.numbers entries) (λ e.
    Unless words.Fit verdict ((values : List (List ℕ)) × IsAssignment c.0 (scope_in c.0 v.0).pool (record { entries = e.0; values = values })) (λ a.
    Unless words.Bounds verdict (MeetsInPart c.0.bounds (dates_of (map Some e.0))) (λ b.
    Unless words.Window verdict ((w : Window (List ℕ)) → IsIn w c.0.windows → IsMet (slice_get a.0) (map Some e.0) v.0.settled v.0.horizon w) (λ w.
    Unless words.Text verdict (bytes ++ 10 ∷ [] ≡ recognition_line true c.0 claim.mark (record { entries = e.0; values = a.0 })) (λ t.
    Unless words.Twice verdict (IsIn (claim.name, claim.numbers) earlier → ⊥) (λ o. verdict ≡ None))))))))

-- the first faulty line with its word, or the number of claims where none has a fault
abbrev pub Answer : Type 0
Answer = Result ℕ (ℕ × AuditWord)

-- an earlier claim, by its chronicle's name and the numbers that it cites
abbrev pub Earlier : Type 0
Earlier = List ℕ × List ℕ

-- what a line brings, of this number and these bytes: a claim with a fault ends the audit, and behind one without it the rest is told of it
abbrev pub IsLineAudit : Ground → ℕ → List Earlier → List ℕ → Said → Answer → (List Earlier → Type 0) → Type 0
IsLineAudit g n earlier bytes Other answer Rest = Rest earlier
IsLineAudit g n earlier bytes Formless answer Rest = answer ≡ Err (n, words.Form)
IsLineAudit g n earlier bytes (Claims claim) answer Rest =
    ((word : AuditWord) × IsVerdict g earlier bytes claim (Some word) × (answer ≡ Err (n, word)))
    ⊎ (IsVerdict g earlier bytes claim None × Rest ((claim.name, claim.numbers) ∷ earlier))

-- the audit of lines of which the first has the number n, where earlier claims were these
abbrev pub IsAuditFrom : Ground → ℕ → List Earlier → List Line → Answer → Type 0
IsAuditFrom g n earlier [] answer = answer ≡ Ok (length earlier)
IsAuditFrom g n earlier (l ∷ ls) answer =
    IsLineAudit g n earlier (bytes_of l) (said_of l) answer (λ claims. IsAuditFrom g (n + 1) claims ls answer)

-- the audit of an output
abbrev pub IsAudit : Ground → List ℕ → Answer → Type 0
IsAudit g output answer = IsAuditFrom g 1 [] (lines_of output) answer
