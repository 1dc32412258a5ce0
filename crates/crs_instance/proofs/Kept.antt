-- What an instance keeps beside what contracts see.
use Rattle.std.proofs.Common.{◌≡◌, ℕ, ◌<◌, ◌≤◌, ◌+◌, ◌^◌, List, length, refl, sym, ap, subst, ◌∙◌, arith, true, false, length-set}
use Rattle.std.specs.Prelude.{ℤ, Option, Some, None, Bool, is_some, replicate, ◌==◌}
use Rattle.std.specs.List.{list_all}
use Rattle.std.proofs.Math.Pow.{pow_mono}
use Rattle.std.proofs.lemmas.Nat.{pow_pos}
use Rattle.std.proofs.lemmas.List.{length-replicate}
use Rattle.crs_base.specs.declared.symbols.Sym.{Sym}
use Rattle.crs_base.specs.declared.entry.Entry.{Entry as CodeEntry}
use Rattle.crs_base.specs.Entry.{Entry}
use Rattle.crs_base.specs.Seen.{entry_of}
use Rattle.crs_model.specs.Bits.{HasBits, is_set}
use Rattle.crs_model.specs.declared.date_window.DateWindow.{DateWindow}
use Rattle.crs_model.specs.Partial.{Partial, at, put}
use Rattle.crs_instance.specs.declared.links.Known.{Known}
use Rattle.crs_instance.specs.declared.links.Links.{Links, End}
use Rattle.crs_instance.specs.EntryLinks.{partial_of, AreLinked, AreEarly, IsLink, known_in}
use Rattle.crs_instance.specs.Deadlines.{end_if}
use Rattle.crs_instance.specs.Instances.{window_at, no_window}
use Rattle.crs_instance.specs.Stored.{IsStored, last_of}
use Rattle.crs_instance.proofs.Masks.{IsSet, set_more, all_set, bits_unbound}
use Rattle.crs_instance.proofs.Linked.{linked_len}
use Rattle.crs_instance.proofs.BindAnswers.{get-replicate, least_none}
use Rattle.crs_instance.specs.Spans.{windows_of}

module _ (a : Partial Sym) (count bound : ℕ) (links : Links) (ws : List DateWindow) (last : Option ℤ) (kept : IsStored count bound links ws last) (same : partial_of count links ≡ a) where
  pub kept_len : length a ≡ count
  kept_len = ap length (sym same) ∙ linked_len count links

  pub kept_bits : HasBits a bound
  kept_bits = subst (λ (b : Partial Sym). HasBits b bound) same kept.bits

  -- whether each event is bound
  pub kept_whole : (b : Bool) → b ≡ (bound + 1 == 2 ^ count) → b ≡ list_all (λ o. is_some o) a
  kept_whole b is =
      let l = kept_len in
      is ∙ ap (λ (k : ℕ). bound + 1 == 2 ^ k) (sym l) ∙ all_set a bound kept_bits (subst (λ (k : ℕ). bound < 2 ^ k) (sym l) kept.small)

  module _ (e : ℕ) (x : Entry Sym) (inside : e < count) (free : at a e ≡ None) where
    unbound : at (partial_of count links) e ≡ None
    unbound = ap (λ (b : Partial Sym). at b e) same ∙ free

    more_bits : IsSet (partial_of count links) e x bound
    more_bits =
        let l = linked_len count links in
        set_more (partial_of count links) e x bound kept.bits (subst (λ (k : ℕ). bound < 2 ^ k) (sym l) kept.small) unbound (omega arith)

    below : bound + 2 ^ e < 2 ^ count
    below = subst (λ (k : ℕ). bound + 2 ^ e < 2 ^ k) (linked_len count links) more_bits.small

    -- the bit of an unbound event can be added
    pub kept_room : bound + 2 ^ e < 2 ^ 16
    kept_room = let b = below in let m = pow_mono kept.few in omega arith

    -- whether each event is bound then
    pub kept_whole_with : (b : Bool) → b ≡ (bound + 2 ^ e + 1 == 2 ^ count) → b ≡ list_all (λ o. is_some o) (put a e x)
    kept_whole_with b is =
        let all : Partial Sym = put (partial_of count links) e x in
        let l : length all ≡ count = length-set (partial_of count links) e (Some x) ∙ linked_len count links in
        is ∙ ap (λ (k : ℕ). bound + 2 ^ e + 1 == 2 ^ k) (sym l) ∙ all_set all (bound + 2 ^ e) more_bits.bits (subst (λ (k : ℕ). bound + 2 ^ e < 2 ^ k) (sym l) below)
        ∙ ap (λ (b : Partial Sym). list_all (λ o. is_some o) (put b e x)) same

    -- what is kept where the event is bound too
    pub kept_more : (new : Links) (entry : CodeEntry) (known : Known) (b : ℕ) (vs : List DateWindow) (l : Option ℤ) → IsLink count links e entry known new → x ≡ entry_of entry → entry.date < 2 ^ 40 → b ≡ bound + 2 ^ e → vs ≡ (windows_of known.spans.items) → count ≤ length vs → l ≡ last_of b count vs → IsStored count b new (windows_of (known_in new).spans.items) l
    kept_more new entry known b vs l link q early is told wide deadline =
        let s : vs ≡ (windows_of (known_in new).spans.items) = told ∙ sym (ap (λ (k : Known). (windows_of k.spans.items)) link.knows) in record {
          few = kept.few;
          windowed = subst (λ (us : List DateWindow). count ≤ length us) s wide;
          linked = link.linked inside unbound kept.linked;
          early = link.early early kept.early;
          bits = subst (λ (k : ℕ). HasBits (partial_of count new) k) (sym is) (subst (λ (c : Partial Sym). HasBits c (bound + 2 ^ e)) (sym (link.gives ∙ ap (λ (y : Entry Sym). put (partial_of count links) e y) (sym q))) more_bits.bits);
          small = subst (λ (k : ℕ). k < 2 ^ count) (sym is) below;
          deadline = deadline ∙ ap (λ (us : List DateWindow). last_of b count us) s;
        }

no_end : (b : Bool) (w : DateWindow) → w ≡ no_window → end_if true b w ≡ None
no_end true w s = refl
no_end false w s = ap (λ (v : DateWindow). v.most) s

-- nothing is bound
pub kept_root : (count n : ℕ) (known : Known) (links : Links) (ws vs : List DateWindow) → count ≤ 16 → links ≡ End known → vs ≡ ws → ws ≡ replicate n no_window → count ≤ n → IsStored count 0 links vs None
kept_root count n known links ws vs few is v q wide =
    let s : vs ≡ replicate n no_window = v ∙ q in
    let l : length vs ≡ n = ap length s ∙ length-replicate n no_window in
    record {
      few = few;
      windowed = omega arith;
      linked = subst (AreLinked count) (sym is) tt;
      early = subst AreEarly (sym is) tt;
      bits = subst (λ (k : Links). HasBits (partial_of count k) 0) (sym is) (bits_unbound count);
      small = pow_pos count;
      deadline = sym (least_none (λ e. end_if true (is_set 0 e) (window_at vs e)) count (λ e. no_end (is_set 0 e) (window_at vs e) (ap (λ (us : List DateWindow). window_at us e) s ∙ get-replicate n e no_window)));
    }
