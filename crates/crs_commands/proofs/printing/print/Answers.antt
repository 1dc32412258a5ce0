use Rattle.std.proofs.Common.{ap, length, codes, ◌^◌}
use Rattle.crs_outcomes.specs.Inputs.{bytes_of}
use Rattle.crs_outcomes.specs.Loads.{IsTooLong, IsModelLine}
use Rattle.crs_commands.specs.Listings.{IsListed}
use Rattle.crs_outcomes.specs.ModelTexts.{BreaksRule}
use Rattle.crs_outcomes.proofs.Loads.{ends_weaker, ends_refused, ends_printed, long_breaks_rule, all_taken}
use Rattle.crs_commands.proofs.printing.print.Goals as goal

pub returns-in-Err-clause-told : goal.returns-in-Err-clause-told
returns-in-Err-clause-told g c = λ t.
    let models = bytes_of (g.D.Desk.told c.args.desk.now) c.args.models.now in
    let symbols = c.args.symbols in
    ends_weaker (2 ^ 20) (λ text. ⊥) (IsListed symbols c.args.listing models) (IsTooLong (2 ^ 20) (codes "model line 0 size\n") models) (IsModelLine (BreaksRule symbols models)) (λ text p. absurd p) (λ text l. long_breaks_rule symbols models text l) _ _ _ _ _ _ (c.in-Err.ensures.told t)

pub returns-in-Ok-listing_of-clause-told : goal.returns-in-Ok-listing_of-clause-told
returns-in-Ok-listing_of-clause-told g c = λ t.
    let h = c.in-Ok.ensures.told t in
    let models = bytes_of (g.D.Desk.told c.args.desk.now) c.args.models.now in
    let p = rw (c.as_slice.ensures.value, h.2) at c.in-Ok-listing_of.ensures.ok in
    ends_printed _ _ (2 ^ 20) (IsListed c.args.symbols c.args.listing models) (IsModelLine (BreaksRule c.args.symbols models)) _ _ (g.D.Desk.told c.load.new.desk) _ _ _ _ _ (rw (← c.write_text.ensures.inputs) at h.1) (ap length h.2) (all_taken (2 ^ 20) models _ (ap length h.2) h.3) p
    (rw c.bytes.ensures at (c.write_text.ensures.told t))

pub returns-clause-told : goal.returns-clause-told
returns-clause-told g c = λ t.
    let h = c.in-Ok.ensures.told t in
    let models = bytes_of (g.D.Desk.told c.args.desk.now) c.args.models.now in
    let p = rw (c.as_slice.ensures.value, h.2) at c.in-Err-listing_of.ensures.refused in
    ends_refused _ _ (IsListed c.args.symbols c.args.listing models) (BreaksRule c.args.symbols models) _ _ (g.D.Desk.told c.load.new.desk) _ _ _ _ _ (rw (← c.refuse.ensures.inputs) at h.1) (all_taken (2 ^ 20) models _ (ap length h.2) h.3)
    (λ line word e. rw e at p) (c.refuse.ensures.told t)
