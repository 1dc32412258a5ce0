use Rattle.std.proofs.Common.{◌≡◌, ◌++◌, drop, map}
use Rattle.crs_model.specs.Renaming as renamed
use Rattle.crs_parse.specs.HeldStatements as held
use Rattle.crs_parse.proofs.numbering.numbers.Given as goal

-- those so far and those of what is left
abbrev pub invariant-loop-t : goal.invariant-loop-t
invariant-loop-t l = record {
  told : map (renamed.text_in l.symbols.texts) l.out ++ map (λ t. t.now) (drop l.t-index l.texts) ≡ map (λ t. t.now) l.texts;
  held : held.AreHeld l.symbols.texts (map (λ t. t.now) (drop l.t-index l.texts));
}
