-- The first fault of a statement, by the first of some of its parts.
use Rattle.std.proofs.Common.{◌≡◌, Bool, true, false, cond, ◌||◌, [], ◌∷◌, Option, Some, None, refl, sym, ◌∙◌, true≢false}
use Rattle.crs_parse.specs.Faults.{first_of}
use Rattle.crs_model.specs.declared.models.ModelWord.{ModelWord}
use Rattle.crs_model.specs.declared.models.ModelWord.TheVariants.{Twice, Name as NameWord, Arity as ArityWord, Value as ValueWord, Point as PointWord, Bound as BoundWord, Window as WindowWord, Limit as LimitWord, Events as EventsWord, Unbound as UnboundWord}

abbrev naming : Bool → Bool → Bool → Option ModelWord
naming a b c = first_of ((NameWord, a) ∷ (ArityWord, b) ∷ (ValueWord, c) ∷ [])

none_some : (w : ModelWord) → Some w ≡ None → ⊥
none_some w e = cc

-- a fault of the part that names something declared
pub naming_found : (t a b c : Bool) (r : Option ModelWord) (w : ModelWord) → t ≡ false → Some w ≡ naming a b c
    → cond t (Some Twice) (cond a (Some NameWord) (cond b (Some ArityWord) (cond c (Some ValueWord) r))) ≡ Some w
naming_found true a b c r w h k = absurd (true≢false h)
naming_found false true b c r w h k = sym k
naming_found false false true c r w h k = sym k
naming_found false false false true r w h k = sym k
naming_found false false false false r w h k = absurd (none_some w k)

abbrev ranging : Bool → Bool → Bool → Bool → Option ModelWord
ranging d e f g = first_of ((PointWord, d) ∷ (BoundWord, e) ∷ (WindowWord, f) ∷ (LimitWord, g) ∷ [])

some_none : (w : ModelWord) → None ≡ Some w → ⊥
some_none w e = cc

-- a fault of a window's range, where its body has none
pub range_found : (a b c d e f g : Bool) (r : Option ModelWord) (w : ModelWord) → None ≡ naming a b c → Some w ≡ ranging d e f g
    → cond a (Some NameWord) (cond b (Some ArityWord) (cond c (Some ValueWord) (cond d (Some PointWord) (cond e (Some BoundWord) (cond f (Some WindowWord) (cond (g || false) (Some LimitWord) r)))))) ≡ Some w
range_found true b c d e f g r w h k = absurd (some_none NameWord h)
range_found false true c d e f g r w h k = absurd (some_none ArityWord h)
range_found false false true d e f g r w h k = absurd (some_none ValueWord h)
range_found false false false true e f g r w h k = sym k
range_found false false false false true f g r w h k = sym k
range_found false false false false false true g r w h k = sym k
range_found false false false false false false true r w h k = sym k
range_found false false false false false false false r w h k = absurd (none_some w k)

-- a fault of what an `emit` names
pub emit_named : (a b : Bool) (r : Option ModelWord) (w : ModelWord) → Some w ≡ first_of ((NameWord, a) ∷ (ArityWord, b) ∷ []) → cond a (Some NameWord) (cond b (Some ArityWord) r) ≡ Some w
emit_named true b r w k = sym k
emit_named false true r w k = sym k
emit_named false false r w k = absurd (none_some w k)

-- the answer of two tests one behind the other
pub either_first : (r a b : Bool) → r ≡ a → r ≡ true → r ≡ (a || b)
either_first r true b e k = e
either_first r false b e k = absurd (true≢false (sym k ∙ e))

pub either_last : (r q a b : Bool) → q ≡ a → q ≡ false → r ≡ b → r ≡ (a || b)
either_last r q true b e k f = absurd (true≢false (sym e ∙ k))
either_last r q false b e k f = f

-- the words at the close of a chronicle
pub closing_unbound : (a b : Bool) → a ≡ false → b ≡ true → Some UnboundWord ≡ cond a (Some EventsWord) (cond b (Some UnboundWord) None)
closing_unbound true b h k = absurd (true≢false h)
closing_unbound false true h k = refl
closing_unbound false false h k = absurd (true≢false (sym k))

pub closing_none : (a b : Bool) → a ≡ false → b ≡ false → None ≡ cond a (Some EventsWord) (cond b (Some UnboundWord) None)
closing_none true b h k = absurd (true≢false h)
closing_none false true h k = absurd (true≢false k)
closing_none false false h k = refl
