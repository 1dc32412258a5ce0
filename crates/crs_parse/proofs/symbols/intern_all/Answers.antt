use Rattle.std.proofs.Common.{◌≡◌, ◌<◌, ◌∙◌, ℕ, List, [], ◌∷◌, drop, get_or, suc, length, map, ap, drop-cons, add-one, Bor}
use Rattle.crs_parse.proofs.Grows.{grows_then, grows_one, is_in_at}
use Rattle.crs_parse.proofs.Overfull.{refused_overfull}
use Rattle.crs_parse.proofs.Pushed.{held_step}
use Rattle.crs_base.specs.Symbols.{is_symbol, with_texts}
use Rattle.std.proofs.Common.{true}
use Rattle.crs_parse.proofs.symbols.intern_all.Goals as goal

pub loop-t-preserved : goal.loop-t-preserved
loop-t-preserved c =
    let xs : List (Bor (List ℕ)) = c.args.texts.now in
    let i : ℕ = c.loop-t.t-index in
    let d : Bor (List ℕ) = record { ref_ptr = (0, 0); now = [] } in
    let within : i < length xs = c.loop-t-test.true in
    let p : get_or xs i d ∷ drop (suc i) xs ≡ drop i xs = rw (drop-cons xs i d) in
    record {
      told = ap (λ n. with_texts c.intern.new.self.texts (map (λ (t : Bor (List ℕ)). t.now) (drop n xs))) (add-one i)
          ∙ ap (λ ts. with_texts ts (map (λ (t : Bor (List ℕ)). t.now) (drop (suc i) xs))) c.in-Ok.ensures.ok
          ∙ ap (λ zs. with_texts c.loop-t.symbols.texts (map (λ (t : Bor (List ℕ)). t.now) zs)) p
          ∙ c.loop-t.invariant.told;
      grows = grows_then _ _ _ _ c.loop-t.invariant.grows (grows_one _ _ _ (get_or xs i d).now (is_in_at xs i d within) c.in-Ok.ensures.ok);
      limit = c.in-Ok.ensures.limit ∙ c.loop-t.invariant.limit;
      symbols = held_step (λ t. is_symbol t ≡ true) (λ (t : Bor (List ℕ)). t.now) xs d i within c.loop-t.invariant.symbols;
    }

pub returns-in-Err-clause-refused : goal.returns-in-Err-clause-refused
returns-in-Err-clause-refused c =
    let xs : List (Bor (List ℕ)) = c.args.texts.now in
    let i : ℕ = c.loop-t.t-index in
    let d : Bor (List ℕ) = record { ref_ptr = (0, 0); now = [] } in
    let within : i < length xs = c.loop-t-test.true in
    let p : get_or xs i d ∷ drop (suc i) xs ≡ drop i xs = rw (drop-cons xs i d) in
    refused_overfull c.in-Err.e c.loop-t.symbols c.args.symbols.now.limit (get_or xs i d).now (map (λ t. t.now) (drop (suc i) xs)) _ c.loop-t.invariant.limit c.in-Err.ensures.refused
    (ap (λ zs. with_texts c.loop-t.symbols.texts (map (λ (t : Bor (List ℕ)). t.now) zs)) p ∙ c.loop-t.invariant.told)
