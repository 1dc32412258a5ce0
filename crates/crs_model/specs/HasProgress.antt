-- The progress of windows: the count of entries, and whether a `hold` is broken.
use Rattle.std.specs.Prelude.{◌≡◌, ◌⊎◌, ℕ, ◌≤◌, ◌<◌, ℤ, pos, ◌≤ℤ◌, ◌<ℤ◌, Bool, true, false, List, None, IfSome, IsSomeAnd, slice_get}
use Rattle.crs_base.specs.Words.{IsIn}
use Rattle.crs_base.specs.Entry.{Entry}
use Rattle.crs_base.specs.Values.{Attribute, IsChange, NewIs, HasValue}
use Rattle.crs_model.specs.Models.{Chronicle, Pattern, Body, NoEvent, Occurs, Hold}
use Rattle.crs_model.specs.Matching.{Binding, PatternIs}
use Rattle.crs_model.specs.Partial.{Partial}
use Rattle.crs_model.specs.Verdicts.{IsDatedIn, IsHeld, IsCount, IsSpoilt, IsStretch, BodyIsBound}

module _ {S : Type 0} where
  -- the count is enough, whatever comes: the window has no upper bound, and wants no more
  abbrev pub IsEnough : Body S → ℕ → Type 0
  IsEnough (NoEvent p) n = ⊥
  IsEnough (Occurs least most p) n = (most ≡ None) × (least ≤ n)
  IsEnough (Hold name terms value) n = ⊥

  -- the count is above what the window wants
  abbrev pub IsAbove : Body S → ℕ → Type 0
  IsAbove (NoEvent p) n = 0 < n
  IsAbove (Occurs least most p) n = IsSomeAnd most (λ m. m < n)
  IsAbove (Hold name terms value) n = ⊥

  -- the count decides, whatever comes: it is enough, or above what the window wants
  abbrev pub IsDecisive : Body S → ℕ → Type 0
  IsDecisive body n = IsEnough body n ⊎ IsAbove body n

  -- so many entries at least are of the pattern and dated in the stretch
  abbrev pub IsReached : List (Entry S) → Binding S → Pattern S → ℤ → ℤ → ℕ → Type 0
  IsReached entries look p from to n = (c : ℕ) × IsCount entries look p from to c × (n ≤ c)

  -- how many entries count: those of the pattern dated in the stretch, or some of them that decide, and none for a `hold`
  abbrev pub IsCounted : List (Entry S) → Binding S → Body S → ℤ → ℤ → ℕ → Type 0
  IsCounted entries look (NoEvent p) from to n = IsCount entries look p from to n ⊎ (IsDecisive (NoEvent p) n × IsReached entries look p from to n)
  IsCounted entries look (Occurs least most p) from to n = IsCount entries look p from to n ⊎ (IsDecisive (Occurs least most p) n × IsReached entries look p from to n)
  IsCounted entries look (Hold name terms value) from to n = n ≡ 0

  -- a `hold` whose value at some date of the stretch before h isn't the wanted one, or of which a change dated in the stretch brings another
  abbrev pub IsBroken : List (Entry S) → Binding S → Body S → ℤ → ℤ → ℤ → Type 0
  IsBroken entries look (NoEvent p) from to h = ⊥
  IsBroken entries look (Occurs least most p) from to h = ⊥
  IsBroken entries look (Hold name terms value) from to h = IsSpoilt entries look (Hold name terms value) from to h

  -- the attribute has the wanted value at each date of the stretch before h, and each change dated in the stretch brings it
  pub record IsWholeFor (entries : List (Entry S)) (a : Attribute S) (v : S) (from to h : ℤ) : Type 0 where
    pub values : (t : ℤ) → from ≤ℤ t → t <ℤ to → t <ℤ h → HasValue a entries t v
    pub changes : (e : Entry S) → IsIn e entries → IsChange a e → IsDatedIn from to e → NewIs v e

  -- not broken
  abbrev pub IsUnbroken : List (Entry S) → Binding S → Body S → ℤ → ℤ → ℤ → Type 0
  IsUnbroken entries look (NoEvent p) from to h = Unit {0}
  IsUnbroken entries look (Occurs least most p) from to h = Unit {0}
  IsUnbroken entries look (Hold name terms value) from to h = (a : Attribute S) (v : S) → IsHeld look name terms value a v → IsWholeFor entries a v from to h

  -- the count, and whether it is broken
  pub record IsProgress (entries : List (Entry S)) (look : Binding S) (body : Body S) (from to h : ℤ) (count : ℕ) (broken : Bool) : Type 0 where
    pub counted : IsCounted entries look body from to count
    pub is_broken : broken ≡ true → IsBroken entries look body from to h
    pub is_whole : broken ≡ false → IsUnbroken entries look body from to h

  -- the count is one that the window wants
  abbrev pub IsInRange : Body S → ℕ → Type 0
  IsInRange (NoEvent p) n = n ≡ 0
  IsInRange (Occurs least most p) n = (least ≤ n) × IfSome most (λ m. n ≤ m)
  IsInRange (Hold name terms value) n = Unit {0}

  -- as the progress tells it: settled at h, in the range and not broken
  abbrev pub IsMetBy : Body S → ℤ → ℤ → ℕ → Bool → Type 0
  IsMetBy body to h count broken = (to ≤ℤ h) × IsInRange body count × (broken ≡ false)

  -- settled at h and not in the range, not settled and above it, or broken
  abbrev pub IsLostBy : Body S → ℤ → ℤ → ℕ → Bool → Type 0
  IsLostBy body to h count broken = ((to ≤ℤ h) × (IsInRange body count → ⊥)) ⊎ ((h <ℤ to) × IsAbove body count) ⊎ (broken ≡ true)

  -- x counts for the body
  abbrev pub Hits : Binding S → Body S → ℤ → ℤ → Entry S → Type 0
  Hits look (NoEvent p) from to x = IsDatedIn from to x × PatternIs look p x
  Hits look (Occurs least most p) from to x = IsDatedIn from to x × PatternIs look p x
  Hits look (Hold name terms value) from to x = ⊥

  -- x breaks it: a change of its attribute, dated in the stretch, that brings another value
  abbrev pub Breaks : Binding S → Body S → ℤ → ℤ → Entry S → Type 0
  Breaks look (NoEvent p) from to x = ⊥
  Breaks look (Occurs least most p) from to x = ⊥
  Breaks look (Hold name terms value) from to x = (a : Attribute S) × (v : S) × IsHeld look name terms value a v × IsChange a x × IsDatedIn from to x × (NewIs v x → ⊥)

  -- x doesn't break it
  abbrev pub Spares : Binding S → Body S → ℤ → ℤ → Entry S → Type 0
  Spares look (NoEvent p) from to x = Unit {0}
  Spares look (Occurs least most p) from to x = Unit {0}
  Spares look (Hold name terms value) from to x = (a : Attribute S) (v : S) → IsHeld look name terms value a v → IsChange a x → IsDatedIn from to x → NewIs v x

  -- the attribute of a `hold` has the wanted value at the first date of the stretch
  abbrev pub StartsWell : List (Entry S) → Binding S → Body S → ℤ → Type 0
  StartsWell entries look (NoEvent p) from = Unit {0}
  StartsWell entries look (Occurs least most p) from = Unit {0}
  StartsWell entries look (Hold name terms value) from = (a : Attribute S) (v : S) → IsHeld look name terms value a v → HasValue a entries from v

  -- it has another, or none
  abbrev pub StartsIll : List (Entry S) → Binding S → Body S → ℤ → Type 0
  StartsIll entries look (NoEvent p) from = ⊥
  StartsIll entries look (Occurs least most p) from = ⊥
  StartsIll entries look (Hold name terms value) from = (a : Attribute S) × (v : S) × IsHeld look name terms value a v × (HasValue a entries from v → ⊥)

  -- each window whose anchors and variables are bound has its progress, at h over the entries, at its number
  abbrev pub HasProgress : Chronicle S → Binding S → Partial S → List (Entry S) → ℕ → (ℕ → ℕ) → (ℕ → Bool) → Type 0
  HasProgress c look a entries h count broken =
      (k : ℕ) → IfSome (slice_get c.windows k) (λ w. (from to : ℤ) → IsStretch a w from to → BodyIsBound look w.body → IsProgress entries look w.body from to (pos h) (count k) (broken k))

  -- no window whose anchors and variables are bound is lost, as its progress tells it
  abbrev pub NoneLostBy : Chronicle S → Binding S → Partial S → ℕ → (ℕ → ℕ) → (ℕ → Bool) → Type 0
  NoneLostBy c look a h count broken =
      (k : ℕ) → IfSome (slice_get c.windows k) (λ w. (from to : ℤ) → IsStretch a w from to → BodyIsBound look w.body → IsLostBy w.body to (pos h) (count k) (broken k) → ⊥)
