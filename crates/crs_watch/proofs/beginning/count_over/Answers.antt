use Rattle.std.proofs.Common.{rules, ◌≤◌, length, map, arith, sym, subst}
use Rattle.std.proofs.lemmas.Int.{to_z-of_z}
use mir.Val.{SFits}
use mir.Syntax.{w64}
use Rattle.crs_base.specs.declared.symbols.Sym.{Sym}
use Rattle.crs_base.specs.Entry.{Entry}
use Rattle.crs_history.specs.Keyed.{IsLike}
use Rattle.crs_history.specs.Looking.{IsBetween, Finds}
use Rattle.crs_history.proofs.Finding.{found_short, of_found}
use Rattle.crs_model.specs.Bindings.{look_of}
use Rattle.crs_model.specs.Matching.{PatternIs}
use Rattle.crs_model.specs.SeenModels.{term_of, pattern_of}
use Rattle.crs_model.specs.Verdicts.{IsDatedIn}
use Rattle.crs_model.proofs.Beginning.{count_sifted}
use Rattle.crs_watch.specs.Known.{AreTold}
use Rattle.crs_watch.proofs.Counting.{count_iff, count_left, counts_to}
use Rattle.crs_watch.proofs.Telling.{have_told}
use Rattle.crs_watch.proofs.beginning.count_over.Goals as goal

pub returns : goal.returns
returns c = λ small low settled stands.
    let look = look_of c.args.binding.now in
    let p = pattern_of c.args.pattern.now in
    let g = c.args.stretch in
    let range = c.find-found.result in
    let known = c.known_of-known.result in
    let L = IsLike p.name known in
    let told : AreTold look p.terms known = subst (λ ts. AreTold look (map term_of ts) known) c.as_slice.ensures c.known_of-known.ensures in
    let short : length range ≤ length c.args.history.now.entries = found_short _ _ _ _ _ c.find-found.ensures.held in
    let fits : SFits w64 g.from = search rules in
    let fits2 : SFits w64 g.to = search rules in
    let found : Finds L g.from g.to settled range = simp to_z-of_z at (c.find-found.ensures.stands (simp to_z-of_z low) settled stands) in
    let like : (e : Entry Sym) → PatternIs look p e → L e = λ e q. record { named = sym q.name; has = have_told look look p.terms known e.args told (λ v s is. is) q.terms } in
    counts_to (PatternIs look p) (λ e. IsDatedIn g.from g.to e × PatternIs look p e) range settled c.args.most c.count_of.result
    (λ n k. count_sifted (λ e. IsDatedIn g.from g.to e × PatternIs look p e) (IsBetween g.from g.to) (λ e d. record { since = (d.0).0; before = (d.0).1 }) settled found.0 n found.1
    (count_left (λ e. IsDatedIn g.from g.to e × PatternIs look p e) L found.0 range n (λ e q. like e q.1) found.2
    (count_iff (PatternIs look p) (λ e. IsDatedIn g.from g.to e × PatternIs look p e) range n (λ e i q. let m = (of_found L g.from g.to settled range found e i).1 in ((m.since, m.before), q)) (λ e i q. q.1) k)))
    (c.count_of.ensures (omega arith))
