use Rattle.std.proofs.Common.{◌≡◌, ◌<◌, ◌+◌, ◌^◌, List, [], ◌∷◌, ◌++◌, length, sym, ap, subst, ◌∙◌, arith}
use Rattle.std.proofs.lemmas.List.{map-append, length-append}
use Rattle.crs_base.specs.declared.symbols.Sym.{Sym}
use Rattle.crs_base.specs.Entry.{Entry}
use Rattle.crs_base.specs.Seen.{entry_of}
use Rattle.crs_base.specs.Sifted.{Sifts}
use Rattle.crs_base.specs.Values.{IsChange}
use Rattle.crs_history.specs.Histories.{entries_of, IsAfterAll}
use Rattle.crs_history.specs.Keyed.{AreKeyed}
use Rattle.crs_history.specs.Older.{older_of}
use Rattle.crs_history.specs.Holdings.{HoldingsState, held_of, AreCounted, AreHoldings}
use Rattle.crs_history.proofs.HeldSteps.{pushed_held}
use Rattle.crs_history.proofs.Older.{older_is, told_anew}
use Rattle.crs_history.proofs.holdings.Holdings.push.Goals as goal

-- after a refusal the entries are found as before
kept : (c : goal.After-drop-entry-in-Err) → AreHoldings (older_of c.self.inside.tracks.lanes (entries_of c.self.inside.ring.items)) (entries_of c.self.inside.ring.items) c.drop_last.new.self c.push_change.new.tracks
kept c =
    let h = c.self.inside in
    let held = c.self.invariant.0 in
    let ring = entries_of h.ring.items in
    let e = entry_of c.args.entry.value in
    let back : AreKeyed (ring ++ e ∷ []) c.push.new.self → AreKeyed ring c.drop_last.new.self =
    subst (λ w. AreKeyed (ring ++ entry_of w ∷ []) c.push.new.self → AreKeyed ring c.drop_last.new.self) c.deref.ensures (c.drop_last.ensures ring) in
    record {
      in_order = held.in_order;
      latest = held.latest;
      found = back (c.in_ok-push.ensures.ok ring held.found);
      tracked = λ a. subst (Sifts (IsChange a) (older_of h.tracks.lanes ring ++ ring)) (sym (c.in-Err.ensures.err a)) (held.tracked a);
      owned = c.push_change.ensures.owned held.owned;
    }

pub invariant_of-self-in-Err : goal.invariant_of-self-in-Err
invariant_of-self-in-Err c =
    let h = c.self.inside in
    let ring = entries_of h.ring.items in
    subst (λ (w : List (Entry Sym)). AreHoldings (older_of c.push_change.new.tracks.lanes w) w c.drop_last.new.self c.push_change.new.tracks × AreCounted h.count (older_of c.push_change.new.tracks.lanes w) w)
    (ap entries_of (sym c.reserve.ensures.items))
    (told_anew (older_of h.tracks.lanes ring) ring h.count c.drop_last.new.self c.push_change.new.tracks (kept c) c.self.invariant.1)

pub returns-in-Err-clause-err : goal.returns-in-Err-clause-err
returns-in-Err-clause-err c =
    let h = c.self.inside in
    let ring = entries_of h.ring.items in
    let same : entries_of c.reserve.new.self.items ≡ ring = ap entries_of c.reserve.ensures.items in
    let older : older_of c.push_change.new.tracks.lanes (entries_of c.reserve.new.self.items) ≡ older_of h.tracks.lanes ring =
    ap (older_of c.push_change.new.tracks.lanes) same ∙ older_is (older_of h.tracks.lanes ring) ring c.drop_last.new.self c.push_change.new.tracks (kept c) in
    let both : (let w : HoldingsState = record { older = older_of c.push_change.new.tracks.lanes (entries_of c.reserve.new.self.items); ring = entries_of c.reserve.new.self.items } in w) ≡ record { older = older_of h.tracks.lanes ring; ring = ring } =
    (λ i. record { older = older i; ring = same i }) in
    both ∙ c.self.view_is

-- the entry is behind the ring
more : (c : goal.After-push_back_reserved) → entries_of c.push_back_reserved.new.self.items ≡ entries_of c.self.inside.ring.items ++ entry_of c.args.entry.value ∷ []
more c = ap entries_of c.push_back_reserved.ensures.items ∙ map-append (λ r. entry_of r.value) c.reserve.new.self.items (c.args.entry ∷ []) ∙ ap (λ w. entries_of w ++ entry_of c.args.entry.value ∷ []) c.reserve.ensures.items

pushed : (c : goal.After-push_back_reserved) → AreHoldings (older_of c.self.inside.tracks.lanes (entries_of c.self.inside.ring.items)) (entries_of c.self.inside.ring.items ++ entry_of c.args.entry.value ∷ []) c.push.new.self c.push_change.new.tracks
pushed c =
    let h = c.self.inside in
    let e = entry_of c.args.entry.value in
    let ring = entries_of h.ring.items in
    let after : IsAfterAll (older_of h.tracks.lanes ring ++ ring) e = subst (λ (w : HoldingsState). IsAfterAll (held_of w) e) (sym c.self.view_is) c.requires in
    pushed_held (older_of h.tracks.lanes ring) ring e h.keyed c.push.new.self h.tracks c.push_change.new.tracks c.self.invariant.0 after (c.in_ok-push.ensures.ok ring) c.in_default.ensures.tracks (c.push_change.ensures.owned c.self.invariant.0.owned)

pub invariant_of-self-2 : goal.invariant_of-self-2
invariant_of-self-2 c =
    let h = c.self.inside in
    let e = entry_of c.args.entry.value in
    let ring = entries_of h.ring.items in
    let older = older_of h.tracks.lanes ring in
    let all : c.len.result ≡ length (older ++ ring) = c.len.ensures.len ∙ ap (λ (w : HoldingsState). length (held_of w)) (sym c.self.view_is) in
    let room : h.count + length ring + 1 < 2 ^ 63 = (let n = c.self.invariant.1.older_ones in let l = c.if-len-ge-MOST.false in omega (arith, length-append older ring)) in
    let counted : AreCounted h.count older (ring ++ e ∷ []) = record { older_ones = c.self.invariant.1.older_ones; small = omega (arith, length-append ring (e ∷ [])) } in
    subst (λ (w : List (Entry Sym)). AreHoldings (older_of c.push_change.new.tracks.lanes w) w c.push.new.self c.push_change.new.tracks × AreCounted h.count (older_of c.push_change.new.tracks.lanes w) w)
    (sym (more c)) (told_anew older (ring ++ e ∷ []) h.count c.push.new.self c.push_change.new.tracks (pushed c) counted)

pub returns-clause-ok : goal.returns-clause-ok
returns-clause-ok c =
    let h = c.self.inside in
    let e = entry_of c.args.entry.value in
    let ring = entries_of h.ring.items in
    let older : older_of c.push_change.new.tracks.lanes (entries_of c.push_back_reserved.new.self.items) ≡ older_of h.tracks.lanes ring =
    ap (older_of c.push_change.new.tracks.lanes) (more c) ∙ older_is (older_of h.tracks.lanes ring) (ring ++ e ∷ []) c.push.new.self c.push_change.new.tracks (pushed c) in
    let both : (let w : HoldingsState = record { older = older_of c.push_change.new.tracks.lanes (entries_of c.push_back_reserved.new.self.items); ring = entries_of c.push_back_reserved.new.self.items } in w) ≡ record { older = older_of h.tracks.lanes ring; ring = ring ++ e ∷ [] } =
    (λ i. record { older = older i; ring = more c i }) in
    both ∙ ap (λ (w : HoldingsState). let s : HoldingsState = record { older = w.older; ring = w.ring ++ e ∷ [] } in s) c.self.view_is
