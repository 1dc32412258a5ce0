use Rattle.std.proofs.Common.{rules, ℕ, List, true, sym, ◌≡◌, ◌<◌, ◌∷◌, ◌++◌, map, ap, subst, ◌∙◌}
use Rattle.std.specs.List.{AllByRecursion}
use Rattle.crs_base.specs.declared.entry.Entry.{Entry as CodeEntry}
use Rattle.crs_base.specs.declared.symbols.Sym.{Sym}
use Rattle.crs_base.specs.Seen.{entry_of}
use Rattle.crs_engine.specs.Concerns.{Tells, bits_of}
use Rattle.crs_engine.specs.Moves.{AreInOrder}
use Rattle.crs_engine.proofs.Settling.{after_within, told_of, ranked_more, settled_none, settled_on, same_on, comes_last, order_after, before_after, date_joined, parted_behind, put_more, judged_later, map_parted}
use Rattle.crs_engine.proofs.Passed.{told_on}
use Rattle.crs_engine.proofs.moving.settle_due.Goals as goal

pub loop-entry-init : goal.loop-entry-init
loop-entry-init g c =
    let told : c.as_slice.result.now ≡ c.args.names.now.ranks.value.items = search rules in
    record {
      so = settled_none c.args.stores.now c.args.history.now (map (λ r. entry_of r.value) c.args.due.now) c.args.buffer.now c.args.h c.requires.small c.requires.before c.requires.order c.requires.due;
      ranked = record { stores = c.requires.ranks; order = subst (λ (rs : List ℕ). c.are_in_order-behind.result ≡ true → AreInOrder rs (map (λ r. entry_of r.value) c.args.due.now)) told c.are_in_order-behind.ensures; apart = c.requires.apart };
    }

pub push-requires-clause-after : goal.push-requires-clause-after
push-requires-clause-after g c =
    let cut : map (λ r. entry_of r.value) c.loop-entry.left.now ≡ entry_of c.in-Some.entry.now.value ∷ map (λ r. entry_of r.value) c.in-Some.rest.now = search rules in
    comes_last c.args.stores.now c.args.history.now (map (λ r. entry_of r.value) c.args.due.now) c.args.buffer.now c.args.h c.loop-entry.stores c.loop-entry.history (map (λ r. entry_of r.value) c.loop-entry.left.now) c.loop-entry.invariant.so (entry_of c.in-Some.entry.now.value) (map (λ r. entry_of r.value) c.in-Some.rest.now) cut
    (entry_of c.in_ok-shared.shared.value) (ap entry_of (search rules))

pub offer_all-requires-clause-coming : goal.offer_all-requires-clause-coming
offer_all-requires-clause-coming g c =
    let after = map (λ r. entry_of r.value) c.in-Some.rest.now in
    let cut : map (λ r. entry_of r.value) c.loop-entry.left.now ≡ entry_of c.in-Some.entry.now.value ∷ map (λ r. entry_of r.value) c.in-Some.rest.now = search rules in
    let order = order_after c.args.stores.now c.args.history.now (map (λ r. entry_of r.value) c.args.due.now) c.args.buffer.now c.args.h c.loop-entry.stores c.loop-entry.history (map (λ r. entry_of r.value) c.loop-entry.left.now) c.loop-entry.invariant.so (entry_of c.in-Some.entry.now.value) after cut in
    let before = before_after c.args.stores.now c.args.history.now (map (λ r. entry_of r.value) c.args.due.now) c.args.buffer.now c.args.h c.loop-entry.stores c.loop-entry.history (map (λ r. entry_of r.value) c.loop-entry.left.now) c.loop-entry.invariant.so (entry_of c.in-Some.entry.now.value) after cut in
    let next = after_within c.args.h c.args.buffer.now c.date_behind-next.result c.date_behind-next.ensures c.requires.horizon in
    record {
      later = judged_later c.args.stores.now c.args.history.now (map (λ r. entry_of r.value) c.args.due.now) c.args.buffer.now c.args.h c.loop-entry.stores c.loop-entry.history (map (λ r. entry_of r.value) c.loop-entry.left.now) c.loop-entry.invariant.so (entry_of c.in-Some.entry.now.value) after cut
          c.date_after-until.result (c.date_after-until.ensures ∙ date_joined c.args.h after c.args.buffer.now before order c.date_behind-next.result c.date_behind-next.ensures);
      small = after_within c.date_behind-next.result after c.date_after-until.result c.date_after-until.ensures next;
      near = after_within c.date_behind-next.result (map (λ r. entry_of r.value) c.split_at.result.1.now) c.date_after-beyond.result c.date_after-beyond.ensures next;
    }

pub returns-in_err-offer_all-clause-same : goal.returns-in_err-offer_all-clause-same
returns-in_err-offer_all-clause-same g c = same_on c.args.stores.now c.loop-entry.stores c.offer_all.new.stores c.loop-entry.invariant.so.same c.offer_all.ensures.same

pub returns-in_err-offer_all-clause-put : goal.returns-in_err-offer_all-clause-put
returns-in_err-offer_all-clause-put g c =
    let cut : map (λ r. entry_of r.value) c.loop-entry.left.now ≡ entry_of c.in-Some.entry.now.value ∷ map (λ r. entry_of r.value) c.in-Some.rest.now = search rules in
    put_more c.args.stores.now c.args.history.now (map (λ r. entry_of r.value) c.args.due.now) c.args.buffer.now c.args.h c.loop-entry.stores c.loop-entry.history (map (λ r. entry_of r.value) c.loop-entry.left.now) c.loop-entry.invariant.so (entry_of c.in-Some.entry.now.value) (map (λ r. entry_of r.value) c.in-Some.rest.now) cut
    c.push.new.self (entry_of c.in_ok-shared.shared.value) (ap entry_of (search rules)) c.in_ok-push.ensures.ok

pub loop-entry-preserved : goal.loop-entry-preserved
loop-entry-preserved g c =
    let after = map (λ r. entry_of r.value) c.in-Some.rest.now in
    let front = map (λ r. entry_of r.value) c.split_at.result.0.now in
    let back = map (λ r. entry_of r.value) c.split_at.result.1.now in
    let cut : map (λ r. entry_of r.value) c.loop-entry.left.now ≡ entry_of c.in-Some.entry.now.value ∷ map (λ r. entry_of r.value) c.in-Some.rest.now = search rules in
    let order = order_after c.args.stores.now c.args.history.now (map (λ r. entry_of r.value) c.args.due.now) c.args.buffer.now c.args.h c.loop-entry.stores c.loop-entry.history (map (λ r. entry_of r.value) c.loop-entry.left.now) c.loop-entry.invariant.so (entry_of c.in-Some.entry.now.value) after cut in
    let before = before_after c.args.stores.now c.args.history.now (map (λ r. entry_of r.value) c.args.due.now) c.args.buffer.now c.args.h c.loop-entry.stores c.loop-entry.history (map (λ r. entry_of r.value) c.loop-entry.left.now) c.loop-entry.invariant.so (entry_of c.in-Some.entry.now.value) after cut in
    let parted : after ≡ front ++ back = map_parted (λ r. entry_of r.value) c.in-Some.rest.now c.split_at.result.0.now c.split_at.result.1.now _ c.split_at.ensures.front c.split_at.ensures.back in
    let joined = date_joined c.args.h after c.args.buffer.now before order c.date_behind-next.result c.date_behind-next.ensures in
    let x = entry_of c.in-Some.entry.now.value in
    let dated : x.date < c.args.h = (subst (AllByRecursion (λ y. y.date < c.args.h)) cut c.loop-entry.invariant.so.before).0 in
    record {
      so = settled_on c.args.stores.now c.args.history.now (map (λ r. entry_of r.value) c.args.due.now) c.args.buffer.now c.args.h c.loop-entry.stores c.loop-entry.history (map (λ r. entry_of r.value) c.loop-entry.left.now) c.loop-entry.invariant.so (entry_of c.in-Some.entry.now.value) after cut
          c.push.new.self (entry_of c.in_ok-shared.shared.value) (ap entry_of (search rules)) c.in_ok-push.ensures.ok c.in_ok-push.ensures.stands c.offer_all.new.stores c.offer_all.ensures.same
          c.date_after-until.result (c.date_after-until.ensures ∙ joined) front c.date_after-beyond.result
          c.are_in_order-behind.result (told_of c.args.names.now.ranks.value.items c.are_in_order-behind.result c.args.buffer.now c.loop-entry.stores (map (λ r. entry_of r.value) c.loop-entry.left.now) x after c.args.h front c.date_after-beyond.result cut dated c.loop-entry.invariant.ranked
          (parted_behind c.args.h after front back c.args.buffer.now order before parted c.date_behind-next.result c.date_behind-next.ensures c.date_after-beyond.result c.date_after-beyond.ensures))
          ((c.in_ok-offer_all.ensures {u = tt}).offered);
      ranked = ranked_more c.args.names.now.ranks.value.items c.are_in_order-behind.result c.args.buffer.now c.loop-entry.stores c.offer_all.new.stores (map (λ r. entry_of r.value) c.loop-entry.left.now) x after cut c.offer_all.ensures.same c.loop-entry.invariant.ranked;
    }

pub offer_all-requires-clause-told : goal.offer_all-requires-clause-told
offer_all-requires-clause-told g c =
    let name : Sym = c.in-Some.entry.now.value.name in
    let bits : c.bits_of-bits.result ≡ bits_of c.args.names.now.concerned name = c.bits_of-bits.ensures ∙ ap (λ (e : CodeEntry). bits_of c.args.names.now.concerned e.name) c.deref-in-Some.ensures in
    subst (λ (b : ℕ). Tells b name (map (λ s. s.plan) c.loop-entry.stores)) (sym bits) (told_on c.args.names.now.concerned c.args.stores.now c.loop-entry.stores c.loop-entry.invariant.so.same c.requires.told name)
