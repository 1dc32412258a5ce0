use Rattle.std.proofs.Common.{◌≡◌, ◌∙◌, ◌≤◌, ◌+◌, ◌-◌, ◌∷◌, ◌++◌, length, sym, ap, subst, take, drop, false, option_map, Some}
use Rattle.std.proofs.lemmas.List.{map-append}
use Rattle.std.specs.List.{list_all, prefix_len}
use Rattle.crs_base.specs.Symbols.{is_symbol_byte}
use Rattle.crs_base.specs.SeenTokens.{tokens_seen, token_of, marks_of, word_at, IsWordIn, AreWordsIn}
use Rattle.crs_base.proofs.Alls.{all_put}
use Rattle.crs_base.specs.Tokens.{Mark, tokens_behind}
use Rattle.crs_base.proofs.TokenSteps.{word_step, token_step, blank_front, mark_front, place_behind, behind_first, behind_mark_place, Behind, all_in_front, word_size, word_within}
use Rattle.crs_base.proofs.tokens.fill_tokens.Goals as goal

pub loop-first-preserved-then-is_blank : goal.loop-first-preserved-then-is_blank
loop-first-preserved-then-is_blank c =
    let l = c.loop-first in
    let f = behind_first l.rest.now c.in-Some.first.now c.in-Some.more.now c.in-Some.ensures.cases.0 in
    let k = place_behind c.args.line.now l.rest.now c.in-Some.more.now 1 l.invariant.within l.invariant.place f.0 f.1 in
    record {
      words = l.invariant.words;
      within = k.0;
      place = k.1;
      told =
          subst (λ o. option_map (λ ts. tokens_seen c.args.line.now l.out.items ++ ts) o ≡ tokens_behind (marks_of c.args.marks) false c.args.line.now)
          (blank_front (marks_of c.args.marks) l.rest.now c.in-Some.first.now c.in-Some.more.now c.in-Some.ensures.cases.0 (sym c.is_blank.ensures ∙ c.if-is_blank.true))
          l.invariant.told;
    }

pub loop-first-preserved-then-is_symbol_byte : goal.loop-first-preserved-then-is_symbol_byte
loop-first-preserved-then-is_symbol_byte c =
    let l = c.loop-first in
    let n = 1 + c.word_len-len.result in
    let value : n ≡ prefix_len is_symbol_byte l.rest.now = word_size l.rest.now c.in-Some.first.now c.in-Some.more.now c.word_len-len.result c.in-Some.ensures.cases.0 (sym c.is_symbol_byte.ensures ∙ c.if-is_symbol_byte.true) c.word_len-len.ensures.value in
    let bound : n ≤ length l.rest.now = word_within l.rest.now c.in-Some.first.now c.in-Some.more.now c.word_len-len.result c.in-Some.ensures.cases.0 c.word_len-len.ensures.bound in
    let k = place_behind c.args.line.now l.rest.now c.split_at.result.1.now n l.invariant.within l.invariant.place bound c.split_at.ensures.back in
    record {
      words = subst (AreWordsIn c.args.line.now) (sym c.in_ok-push.ensures.items)
          (all_put (IsWordIn c.args.line.now) l.out.items _ l.invariant.words
          (ap (list_all is_symbol_byte) (ap (take n) (sym l.invariant.place) ∙ ap (λ m. take m l.rest.now) value) ∙ all_in_front is_symbol_byte l.rest.now));
      within = k.0;
      place = k.1;
      told =
          word_step (marks_of c.args.marks) l.rest.now (word_at c.args.line.now (length c.args.line.now - length l.rest.now) n) c.split_at.result.1.now c.in-Some.first.now c.in-Some.more.now (tokens_seen c.args.line.now l.out.items) (tokens_seen c.args.line.now c.push.new.self.items) _
          c.in-Some.ensures.cases.0
          (sym c.is_symbol_byte.ensures ∙ c.if-is_symbol_byte.true)
          (ap (take n) (sym l.invariant.place) ∙ ap (λ m. take m l.rest.now) value)
          (c.split_at.ensures.back ∙ ap (λ m. drop m l.rest.now) value)
          (ap (tokens_seen c.args.line.now) c.in_ok-push.ensures.items ∙ map-append (token_of c.args.line.now) l.out.items _)
          l.invariant.told;
    }

pub loop-first-preserved : goal.loop-first-preserved
loop-first-preserved c =
    let l = c.loop-first in
    let is = c.in-Some.ensures.cases.0 in
    let back = c.in-Some-behind_mark.behind.now in
    let b : Behind (c.in-Some.first.now ∷ c.in-Some.more.now) back = behind_mark_place c.in-Some.first.now c.in-Some.more.now back c.in-Some-behind_mark.ensures in
    let short : b.0 ≤ length l.rest.now = subst (λ r. b.0 ≤ length r) (sym is) b.1 in
    let k = place_behind c.args.line.now l.rest.now back b.0 l.invariant.within l.invariant.place short (b.2 ∙ ap (drop b.0) (sym is)) in
    record {
      words = subst (AreWordsIn c.args.line.now) (sym c.in_ok-push-2.ensures.items) (all_put (IsWordIn c.args.line.now) l.out.items _ l.invariant.words tt);
      within = k.0;
      place = k.1;
      told =
          token_step (marks_of c.args.marks) l.rest.now back (Mark c.in-Some.first.now) (tokens_seen c.args.line.now l.out.items) (tokens_seen c.args.line.now c.push-else-is_blank.new.self.items) _
          (mark_front (marks_of c.args.marks) l.rest.now c.in-Some.first.now c.in-Some.more.now is (Some back)
          (sym c.is_blank.ensures ∙ c.if-is_blank.false) (sym c.is_symbol_byte.ensures ∙ c.if-is_symbol_byte.false) (sym c.is_mark.ensures ∙ c.if-is_mark.true) c.in-Some-behind_mark.ensures)
          (ap (tokens_seen c.args.line.now) c.in_ok-push-2.ensures.items ∙ map-append (token_of c.args.line.now) l.out.items _)
          l.invariant.told;
    }
