use Rattle.std.proofs.Common.{◌≡◌, ◌⊎◌, ◌+◌, ℕ, suc, Bool, true, false, refl, inl, inr, arith, ◌∙◌}
use Rattle.crs_base.specs.Seen.{entry_of}
use Rattle.crs_model.specs.Bindings.{look_of}
use Rattle.crs_model.specs.SeenModels.{body_of}
use Rattle.crs_model.specs.HasProgress.{Hits, Breaks, Spares}
use Rattle.crs_model.proofs.WindowLaws.{settled_progress}
use Rattle.crs_watch.proofs.settling.settle.Goals as goal
use Rattle.crs_watch.proofs.settling.settle.Goals.{then-hit, else-hit}

next : (m n : ℕ) → m ≡ n + 1 → m ≡ suc n
next m n e = omega arith

pub returns-then-p-clause-progress : goal.returns-then-p-clause-progress
returns-then-p-clause-progress c = λ room settled h late p.
    let look = look_of c.args.binding.now in
    let body = body_of c.args.window.now.body in
    let g = c.args.stretch in
    let x = entry_of c.args.entry.now in
    let H = Hits look body g.from g.to x in
    let counts : (H × (c.if-hit.result ≡ suc c.args.p.count)) ⊎ ((H → ⊥) × (c.if-hit.result ≡ c.args.p.count)) =
    elim c.if-hit.branch [ then-hit w ↦ inl (c.hits-hit.ensures.yes w.if-hit.true, next _ _ (w.result-is ∙ w.one_more.ensures.more room)) | else-hit w ↦ inr (c.hits-hit.ensures.no w.if-hit.false, w.result-is) ] in
    settled_progress look body g.from g.to settled x h c.args.p.count c.if-hit.result c.args.p.broken c.args.p.broken late p counts (inl (inl c.if-p.true, c.if-p.true))

told : {B N : Type 0} (b old : Bool) → old ≡ false → (b ≡ true → B) → (b ≡ false → N) → (((old ≡ true) ⊎ B) × (b ≡ true)) ⊎ ((old ≡ false) × N × (b ≡ false))
told true old whole f g = inl (inr (f refl), refl)
told false old whole f g = inr (whole, g refl, refl)

pub returns-else-p-clause-progress : goal.returns-else-p-clause-progress
returns-else-p-clause-progress c = λ room settled h late p.
    let look = look_of c.args.binding.now in
    let body = body_of c.args.window.now.body in
    let g = c.args.stretch in
    let x = entry_of c.args.entry.now in
    let H = Hits look body g.from g.to x in
    let counts : (H × (c.if-hit.result ≡ suc c.args.p.count)) ⊎ ((H → ⊥) × (c.if-hit.result ≡ c.args.p.count)) =
    elim c.if-hit.branch [ then-hit w ↦ inl (c.hits-hit.ensures.yes w.if-hit.true, next _ _ (w.result-is ∙ w.one_more.ensures.more room)) | else-hit w ↦ inr (c.hits-hit.ensures.no w.if-hit.false, w.result-is) ] in
    settled_progress look body g.from g.to settled x h c.args.p.count c.if-hit.result c.args.p.broken c.breaks-broken.result late p counts
    (told {B = Breaks look body g.from g.to x} {N = Spares look body g.from g.to x} c.breaks-broken.result c.args.p.broken c.if-p.false c.breaks-broken.ensures.yes c.breaks-broken.ensures.no)
