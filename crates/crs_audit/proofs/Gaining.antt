-- How the table grows by the texts of a log's lines.
use Rattle.std.proofs.Common.{◌≡◌, ◌∙◌, ℕ, zero, suc, Bool, true, false, cond, List, [], ◌∷◌, ◌++◌, take, refl, sym, ap, subst, inl, inr, append-nil, append_assoc}
use Rattle.std.specs.List.{AllByRecursion}
use Rattle.crs_base.specs.Lines.{Line, lines_of, bytes_of}
use Rattle.crs_base.specs.Symbols.{Table, is_known, with_text, with_texts}
use Rattle.crs_base.specs.Words.{IsIn}
use Rattle.crs_base.proofs.Alls.{all_append, all_each}
use Rattle.crs_log.specs.Items.{Event, Happens, IsItem}
use Rattle.crs_log.specs.Known.{texts_of}
use Rattle.crs_audit.specs.LogTexts.{IsTextIn, IsTextAmong, Gains, GainsOnlyOf}

module _ (P : List ℕ → Type 0) where
  -- it gains nothing
  pub gains_none : (t : Table) → Gains P t t
  gains_none t = record { more = []; grown = sym (append-nil t.texts); all = tt; limit = refl }

  -- it gains by one step after another
  pub gains_then : (a b c : Table) → Gains P a b → Gains P b c → Gains P a c
  gains_then a b c g h = record {
    more = g.more ++ h.more;
    grown = h.grown ∙ ap (λ (ts : List (List ℕ)). ts ++ h.more) g.grown ∙ append_assoc a.texts g.more h.more;
    all = all_append P g.more h.more g.all h.all;
    limit = h.limit ∙ g.limit;
  }

  text_gained : (texts : List (List ℕ)) (t : List ℕ) (b : Bool) → P t → (more : List (List ℕ)) × (cond b texts (texts ++ t ∷ []) ≡ texts ++ more) × AllByRecursion P more
  text_gained texts t true p = ([], sym (append-nil texts), tt)
  text_gained texts t false p = (t ∷ [], refl, (p, tt))

  texts_gained : (texts ts : List (List ℕ)) → AllByRecursion P ts → (more : List (List ℕ)) × (with_texts texts ts ≡ texts ++ more) × AllByRecursion P more
  texts_gained texts [] h = ([], sym (append-nil texts), tt)
  texts_gained texts (t ∷ ts) h =
      let first = text_gained texts t (is_known texts t) h.0 in
      let rest = texts_gained (with_text texts t) ts h.1 in (
        first.0 ++ rest.0,
        rest.1 ∙ ap (λ (xs : List (List ℕ)). xs ++ rest.0) first.1 ∙ append_assoc texts first.0 rest.0,
        all_append P first.0 rest.0 first.2 rest.2,
      )

  -- it gains those of some texts that it didn't hold
  pub gains_texts : (old new : Table) (ts : List (List ℕ)) → new.texts ≡ with_texts old.texts ts → new.limit ≡ old.limit → AllByRecursion P ts → Gains P old new
  gains_texts old new ts is limit h =
      let g = texts_gained old.texts ts h in
      record { more = g.0; grown = is ∙ g.1; all = g.2; limit = limit }

  pub all_first : (n : ℕ) (ts : List (List ℕ)) → AllByRecursion P ts → AllByRecursion P (take n ts)
  all_first zero ts h = tt
  all_first (suc n) [] h = tt
  all_first (suc n) (t ∷ ts) h = (h.0, all_first n ts h.1)

-- what it gains of some it gains of more
pub gains_wider : (P Q : List ℕ → Type 0) → ((t : List ℕ) → P t → Q t) → (old new : Table) → Gains P old new → Gains Q old new
gains_wider P Q up old new g = record { more = g.more; grown = g.grown; all = all_each g.more up g.all; limit = g.limit }

each_in : (P : List ℕ → Type 0) (ts : List (List ℕ)) → ((t : List ℕ) → IsIn t ts → P t) → AllByRecursion P ts
each_in P [] h = tt
each_in P (t ∷ ts) h = (h t (inl refl), each_in P ts (λ u i. h u (inr i)))

module _ (line : List ℕ) (e : Event) (item : IsItem line (Happens e)) where
  -- an event's texts are those of its line
  pub texts_in_line : AllByRecursion (IsTextIn line) (texts_of e)
  texts_in_line = each_in (IsTextIn line) (texts_of e) (λ t i. (e, item, i))

  pub first_in_line : (n : ℕ) → AllByRecursion (IsTextIn line) (take n (texts_of e))
  first_in_line n = all_first (IsTextIn line) n (texts_of e) texts_in_line

-- the texts of a line are among those of the lines
pub line_among : (ls : List Line) (l : Line) → IsIn l ls → (t : List ℕ) → IsTextIn (bytes_of l) t → IsTextAmong ls t
line_among ls l i t h = (l, i, h)

-- one line more
pub gained_next : (log rest behind : List ℕ) {l : Line} → lines_of rest ≡ l ∷ lines_of behind → (old now new : Table)
    → ((x : Line) → IsIn x (lines_of rest) → IsIn x (lines_of log)) → GainsOnlyOf log old now → Gains (IsTextIn (bytes_of l)) now new → GainsOnlyOf log old new
gained_next log rest behind {l} e old now new among g h =
    let i : IsIn l (lines_of log) = among l (subst (IsIn l) (sym e) (inl refl)) in
    gains_then (IsTextAmong (lines_of log)) old now new g (gains_wider (IsTextIn (bytes_of l)) (IsTextAmong (lines_of log)) (line_among (lines_of log) l i) now new h)
