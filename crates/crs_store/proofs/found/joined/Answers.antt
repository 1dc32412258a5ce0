use Rattle.std.proofs.Common.{Global, ℕ, ◌≡◌, List, ◌++◌, length, map, take, drop, append-nil, sym, ap, ◌∙◌, arith}
use Rattle.std.specs.declared.vec.Vec.{Vec}
use Rattle.std.proofs.lemmas.List.{drop_all, length-map, take_all}
use Rattle.crs_model.specs.declared.recognition.Recognition.{Recognition}
use Rattle.crs_store.specs.Found.{numbered}
use Rattle.crs_store.proofs.found.joined.Goals as goal

-- what is written through a slice of it
written_back : (n : ℕ) (xs ys : List Recognition) → n ≡ length ys → length xs ≡ length ys → take n (xs ++ drop (length xs) ys) ≡ xs
written_back n xs ys e l = ap (λ (t : List Recognition). take n (xs ++ t)) (drop_all (length xs) ys (omega arith)) ∙ ap (take n) (append-nil xs) ∙ take_all n xs (omega arith)

pub returns-clause-all : goal.returns-clause-all
returns-clause-all c =
    let number = c.args.to.now.number in
    let mark = c.args.to.now.mark in
    let rs = c.args.found.now.items in
    let were : c.deref_mut.result.now ≡ rs = c.deref_mut.ensures.value ∙ ap (λ (v : Vec Recognition Global). v.items) c.replace-all.ensures.value in
    let told : c.number_all.new.found ≡ map (numbered number mark) rs = c.number_all.ensures ∙ ap (map (numbered number mark)) were in
    let back = written_back c.replace-all.result.len c.number_all.new.found c.replace-all.result.items c.replace-all.result.ok.0 (ap length told ∙ length-map rs (numbered number mark) ∙ ap length (sym (ap (λ (v : Vec Recognition Global). v.items) c.replace-all.ensures.value))) in
    (c.in_ok-append.ensures {u = tt}).items ∙ ap (λ (xs : List Recognition). xs ++ c.args.ripe.items) (back ∙ told)
