use Rattle.std.proofs.Common.{rules, ◌≡◌, ℕ, ◌+◌, Bool, List, [], ◌∷◌, length, map, refl, sym, subst, arith, Option}
use Rattle.std.specs.Prelude.{vec_items, Ok}
use Rattle.crs_base.specs.Lines.{Line, lines_of}
use Rattle.crs_base.specs.SeenLines.{line_seen}
use Rattle.crs_audit.specs.declared.words.AuditWord.{AuditWord}
use Rattle.crs_audit.specs.Audits.{IsAuditFrom, IsAudit}
use Rattle.crs_audit.proofs.Counting.{at_most_next}
use Rattle.crs_audit.proofs.Lines.{Stands, one_line, fault_there}
use Rattle.crs_audit.proofs.auditing.judge_all.Goals as goal

none_left : (bs : List ℕ) → length bs ≡ 0 → lines_of bs ≡ []
none_left [] e = refl
none_left (b ∷ bs) e = absurd cc

pub returns-in-Some-clause-refused : goal.returns-in-Some-clause-refused
returns-in-Some-clause-refused c = λ g ground.
    let texts = c.args.ground.now.symbols.now.texts in
    let old = map vec_items c.loop-rest.noted.keys in
    let new = map vec_items c.judge_line.new.noted.keys in
    let l = line_seen c.first_line.result.0 in
    let ls = lines_of c.first_line.result.1.now in
    let All = IsAudit g c.args.output.now in
    let s : Stands texts old c.loop-rest.claims (λ earlier answer. IsAuditFrom g (c.loop-rest.number + 1) earlier (l ∷ ls) answer) All =
    subst (λ (xs : List Line). Stands texts old c.loop-rest.claims (λ earlier answer. IsAuditFrom g (c.loop-rest.number + 1) earlier xs answer) All) c.first_line.ensures.line (c.loop-rest.invariant.told g ground) in
    let told : Bool × Option AuditWord = (c.in_ok-is_claim.is_claim, c.in_ok-is_claim.verdict) in
    fault_there texts g (c.loop-rest.number + 1) All l ls old new c.loop-rest.claims told c.in-Some.word c.in-Some.is s (c.in_ok-is_claim.ensures g s.earlier ground s.noted)

pub loop-rest-preserved : goal.loop-rest-preserved
loop-rest-preserved c = record {
  told = λ g ground.
      let texts = c.args.ground.now.symbols.now.texts in
      let old = map vec_items c.loop-rest.noted.keys in
      let new = map vec_items c.judge_line.new.noted.keys in
      let l = line_seen c.first_line.result.0 in
      let ls = lines_of c.first_line.result.1.now in
      let All = IsAudit g c.args.output.now in
      let s : Stands texts old c.loop-rest.claims (λ earlier answer. IsAuditFrom g (c.loop-rest.number + 1) earlier (l ∷ ls) answer) All =
      subst (λ (xs : List Line). Stands texts old c.loop-rest.claims (λ earlier answer. IsAuditFrom g (c.loop-rest.number + 1) earlier xs answer) All) c.first_line.ensures.line (c.loop-rest.invariant.told g ground) in
      let told : Bool × Option AuditWord = (c.in_ok-is_claim.is_claim, c.in_ok-is_claim.verdict) in
      one_line texts g (c.loop-rest.number + 1) All l ls old new c.loop-rest.claims c.claims_on-claims.result told c.claims_on-claims.ensures c.in_default.is s (c.in_ok-is_claim.ensures g s.earlier ground s.noted);
  few = at_most_next c.in_ok-is_claim.is_claim c.loop-rest.claims c.claims_on-claims.result c.loop-rest.number c.claims_on-claims.ensures c.loop-rest.invariant.few;
  within = (let k = c.first_line.ensures.shorter in let m = c.loop-rest.invariant.within in omega arith);
}

pub returns : goal.returns
returns c = record {
  ok = λ g ground.
      let s = c.loop-rest.invariant.told g ground in
      let none : length c.loop-rest.rest.now ≡ 0 = search rules in
      s.on (Ok c.loop-rest.claims)
      (subst (λ (xs : List Line). IsAuditFrom g (c.loop-rest.number + 1) s.earlier xs (Ok c.loop-rest.claims)) (sym (none_left c.loop-rest.rest.now none)) (λ i. Ok (sym s.many i)));
  refused = tt;
}
