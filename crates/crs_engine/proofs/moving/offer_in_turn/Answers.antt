use Rattle.std.proofs.Common.{rules, ◌≡◌, ◌∷◌, ◌++◌, map}
use Rattle.crs_base.specs.Seen.{entry_of}
use Rattle.crs_engine.proofs.Settling.{given_none, given_more, given_whole, first_small, told_near, same_on, map_parted, none_mapped}
use Rattle.crs_engine.proofs.moving.offer_in_turn.Goals as goal

pub loop-entry-init : goal.loop-entry-init
loop-entry-init g c = given_none c.args.stores.now c.args.history.now (map (λ r. entry_of r.value) c.args.due.now) c.args.h c.requires.small c.requires.order

pub offer_prompt_all-requires : goal.offer_prompt_all-requires
offer_prompt_all-requires g c =
    let cut : map (λ r. entry_of r.value) c.loop-entry.left.now ≡ entry_of c.in-Some.entry.now.value ∷ map (λ r. entry_of r.value) c.in-Some.rest.now = search rules in
    record {
      date = first_small c.args.stores.now c.args.history.now (map (λ r. entry_of r.value) c.args.due.now) c.args.h c.loop-entry.stores (map (λ r. entry_of r.value) c.loop-entry.left.now) c.loop-entry.invariant (entry_of c.in-Some.entry.now.value) (map (λ r. entry_of r.value) c.in-Some.rest.now) cut;
      near = told_near c.args.h c.date_after-beyond.result (map (λ r. entry_of r.value) c.split_at.result.1.now) c.date_after-beyond.ensures c.requires.horizon;
    }

pub loop-entry-preserved : goal.loop-entry-preserved
loop-entry-preserved g c =
    let front = map (λ r. entry_of r.value) c.split_at.result.0.now in
    let back = map (λ r. entry_of r.value) c.split_at.result.1.now in
    let cut : map (λ r. entry_of r.value) c.loop-entry.left.now ≡ entry_of c.in-Some.entry.now.value ∷ map (λ r. entry_of r.value) c.in-Some.rest.now = search rules in
    let parted : map (λ r. entry_of r.value) c.in-Some.rest.now ≡ front ++ back = map_parted (λ r. entry_of r.value) c.in-Some.rest.now c.split_at.result.0.now c.split_at.result.1.now _ c.split_at.ensures.front c.split_at.ensures.back in
    given_more c.args.stores.now c.args.history.now (map (λ r. entry_of r.value) c.args.due.now) c.args.h c.loop-entry.stores (map (λ r. entry_of r.value) c.loop-entry.left.now) c.loop-entry.invariant (entry_of c.in-Some.entry.now.value) (map (λ r. entry_of r.value) c.in-Some.rest.now) cut
    front back c.date_after-beyond.result parted c.date_after-beyond.ensures c.offer_prompt_all.new.stores c.offer_prompt_all.ensures.same ((c.in_ok-offer_prompt_all.ensures {u = tt}).given)

pub returns-in_err-offer_prompt_all-clause-same : goal.returns-in_err-offer_prompt_all-clause-same
returns-in_err-offer_prompt_all-clause-same g c = same_on c.args.stores.now c.loop-entry.stores c.offer_prompt_all.new.stores c.loop-entry.invariant.same c.offer_prompt_all.ensures.same

pub returns-clause-given : goal.returns-clause-given
returns-clause-given g c =
    given_whole c.args.stores.now c.args.history.now (map (λ r. entry_of r.value) c.args.due.now) c.args.h c.loop-entry.stores (map (λ r. entry_of r.value) c.loop-entry.left.now) c.loop-entry.invariant (none_mapped (λ r. entry_of r.value) c.loop-entry.left.now (c.in_default.ensures {u = tt}).cases)
