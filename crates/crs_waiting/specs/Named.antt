-- Which events look for a name.
use Rattle.std.specs.Prelude.{◌≡◌, ◌+◌, ◌<◌, ◌≤◌, ℕ, List, length, IfSome, slice_get}
use Rattle.crs_waiting.specs.declared.hooks.Hook.{Hook}
use Rattle.crs_waiting.specs.Links.{hook_at}

-- of the events from one on, it is the first that looks for the name of this number, or how many events there are where none does
pub record IsFirst (hooks : List Hook) (from number e : ℕ) : Type 0 where
  pub after : from ≤ e
  pub within : e ≤ length hooks
  pub others : (k : ℕ) → from ≤ k → k < e → (hook_at hooks k).name.0 ≡ number → ⊥
  pub named : e < length hooks → (hook_at hooks e).name.0 ≡ number

-- by the number of a name, where it has a place, the first event that looks for it
abbrev pub AreFirsts : List Hook → List ℕ → Type 0
AreFirsts hooks firsts = (n : ℕ) → IfSome (slice_get firsts n) (λ e. IsFirst hooks 0 n e)

-- by the number of an event the next one that looks for the same name
pub record AreNexts (hooks : List Hook) (nexts : List ℕ) : Type 0 where
  pub len : length nexts ≡ length hooks
  pub next : (k : ℕ) → IfSome (slice_get nexts k) (λ e. IsFirst hooks (k + 1) (hook_at hooks k).name.0 e)

-- the firsts and the nexts of the events, of which there are few
pub record AreNamed (hooks : List Hook) (firsts nexts : List ℕ) : Type 0 where
  pub few : length hooks < 256
  pub first : AreFirsts hooks firsts
  pub next : AreNexts hooks nexts
