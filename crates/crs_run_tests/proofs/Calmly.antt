-- A run whose desk fails at nothing ends by its input alone.
use Rattle.std.proofs.Common.{◌⊎◌, inl, inr, Option, Some, None, arith}
use Rattle.crs_desk.specs.Desk.{Told, Rose}
use Rattle.crs_top.specs.CommandOutcomes.{CompletesCommand}
use Rattle.crs_top.specs.Most.{Most}
use Rattle.crs_outcomes.specs.declared.status.Status.{Status}
use Rattle.crs_words.specs.Commands.{Command, Run, Print, Drill, Import, Audit, Feeds}

pub none_rose : Rose 0 0 ⊎ Rose 0 0 → ⊥
none_rose (inl r) = omega (arith, r)
none_rose (inr r) = omega (arith, r)

pub completes_calmly : (most : Most) (old : Told) (command : Option Command) (fault : Type 0) (status : Status)
    → CompletesCommand most old command fault status → (fault → ⊥) → CompletesCommand most old command ⊥ status
completes_calmly most old None fault status h n = λ _. h n
completes_calmly most old (Some (Run focus summary cite tally models log)) fault status h n = record {
  accepted = λ f a l _. h.accepted f a l n;
  too_long = λ f a l _. h.too_long f a l n;
  refused = λ line word k _. h.refused line word k n;
}
completes_calmly most old (Some (Print listing models)) fault status h n = record {
  accepted = λ m a _. h.accepted m a n;
  refused = λ line word k _. h.refused line word k n;
}
completes_calmly most old (Some (Drill focus seed lines)) fault status h n = record {
  accepted = λ f a l _. h.accepted f a l n;
  too_long = λ f a l _. h.too_long f a l n;
  refused = λ line word k _. h.refused line word k n;
}
completes_calmly most old (Some (Import table)) fault status h n = record {
  written = λ log k _. h.written log k n;
  refused = λ e k _. h.refused e k n;
}
completes_calmly most old (Some (Audit models log output)) fault status h n = record {
  faultless = λ f a l m none _. h.faultless f a l m none n;
  faulty = λ f a l m none _. h.faulty f a l m none n;
  too_long = λ f a l _. h.too_long f a l n;
  refused = λ line word k _. h.refused line word k n;
}
completes_calmly most old (Some (Feeds focus models logs)) fault status h n = record {
  accepted = λ f a l _. h.accepted f a l n;
  refused = λ line word k _. h.refused line word k n;
}
