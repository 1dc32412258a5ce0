use Rattle.std.proofs.Common.{◌≡◌, ◌+◌, ◌<◌, ◌∙◌, ap, refl, sym, subst, drop, arith, length, ◌∷◌, ◌++◌}
use Rattle.crs_log.specs.Reading.{ahead, given}
use Rattle.crs_log.specs.Given.{seen}
use Rattle.crs_log.proofs.Moved.{whole_moves, last_moves, drops_less}
use Rattle.crs_log.proofs.lines.reader.Lines.next_line.Goals as goal

pub returns-then-start-self : goal.returns-then-start-self
returns-then-start-self c =
    let l = c.self.inside in (
      (
        refl,
        (λ w. tt),
        record {
          limit = ap (λ r. r.limit) c.self.view_is;
          finished = ap (λ r. r.finished) c.self.view_is;
          fed = ap (λ r. r.fed) c.self.view_is;
          shorter = subst (λ r. length (drop (l.from + c.whole_len-len.result + 1) l.held.items) < length r.rest) c.self.view_is (drops_less l.from (l.from + c.whole_len-len.result + 1) l.held.items (omega arith) (omega (arith, c.whole_len-len.ensures.within, c.self.invariant.0.high)));
          ahead = λ more none. sym (ap (λ r. ahead r more) c.self.view_is)
              ∙ whole_moves l.limit l.number l.from l.tail c.whole_len-len.result l.held.items c.as_slice.result.now c.as_slice-then-start-self.result.now c.split_at.result.1.now c.split_at-then-start-self.result.0.now _ more
              c.self.invariant.0.high c.as_slice.ensures.value c.whole_len-len.ensures.value c.whole_len-len.ensures.within
              c.as_slice-then-start-self.ensures.value c.split_at.ensures.back c.split_at-then-start-self.ensures.front c.line_of.ensures;
        },
      ),
      tt,
    )

pub returns : goal.returns
returns c =
    let l = c.self.inside in
    let size : c.len-self-inside.result ≡ length l.held.items = c.len-self-inside.ensures ∙ sym c.as_slice-2.ensures.len ∙ ap length c.as_slice-2.ensures.value in
    let again : c.len.result ≡ length l.held.items = c.len.ensures ∙ sym c.as_slice-2.ensures.len ∙ ap length c.as_slice-2.ensures.value in (
      (
        refl,
        (λ w. tt),
        record {
          limit = ap (λ r. r.limit) c.self.view_is;
          finished = ap (λ r. r.finished) c.self.view_is;
          fed = ap (λ r. r.fed) c.self.view_is;
          shorter = subst (λ r. length (drop c.len-self-inside.result l.held.items) < length r.rest) c.self.view_is (drops_less l.from c.len-self-inside.result l.held.items (subst (λ k. l.from < k) (again ∙ sym size) c.if-start-len.false) (omega (arith, again, c.if-start-len.false)));
          ahead = λ more none. sym (ap (λ r. ahead r more) c.self.view_is)
              ∙ last_moves l.limit l.number l.from l.tail l.held.items c.as_slice-2.result.now c.split_at-2.result.1.now _ more
              c.self.invariant.0 c.if-start-self.false (subst (λ k. l.from < k) again c.if-start-len.false) (none (sym (ap (λ r. r.finished) c.self.view_is) ∙ c.if-not-self.false))
              c.as_slice-2.ensures.value c.split_at-2.ensures.back c.line_of-2.ensures
              ∙ ap (λ k. seen c.line_of-2.result ∷ given l.limit (l.number + 1) (drop k l.held.items ++ more)) (sym size);
        },
      ),
      tt,
    )
