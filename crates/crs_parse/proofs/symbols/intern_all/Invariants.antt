use Rattle.std.proofs.Common.{◌≡◌, drop, map, true}
use Rattle.std.specs.List.{AllByRecursion}
use Rattle.crs_base.specs.Symbols.{is_symbol, with_texts}
use Rattle.crs_parse.specs.Grows.{Grows}
use Rattle.crs_parse.proofs.symbols.intern_all.Given as goal

-- the texts so far with those of what is left
abbrev pub invariant-loop-t : goal.invariant-loop-t
invariant-loop-t l = record {
  told : with_texts l.symbols.texts (map (λ t. t.now) (drop l.t-index l.texts)) ≡ with_texts l.fn.symbols.texts (map (λ t. t.now) l.texts);
  grows : Grows (map (λ t. t.now) l.texts) l.fn.symbols.texts l.symbols.texts;
  limit : l.symbols.limit ≡ l.fn.symbols.limit;
  symbols : AllByRecursion (λ t. is_symbol t ≡ true) (map (λ t. t.now) (drop l.t-index l.texts));
}
