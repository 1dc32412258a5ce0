use Rattle.std.proofs.Common.{rules, ◌≡◌, ◌∙◌, ◌<◌, ◌^◌, ℕ, map, sym, ap, subst, Some, List}
use Rattle.std.specs.Prelude.{ℤ, pos, ◌+ℤ◌, ◌≤ℤ◌, None}
use Rattle.std.proofs.lemmas.Int.{to_z-of_z}
use mir.Syntax.{w64}
use mir.Val.{SFits, to_z, of_z}
use Rattle.std.specs.List.{AllByRecursion}
use Rattle.crs_base.specs.declared.symbols.Sym.{Sym}
use Rattle.crs_base.specs.Entry.{Entry}
use Rattle.crs_model.specs.SeenModels.{term_of}
use Rattle.crs_model.specs.Bindings.{look_of}
use Rattle.crs_audit.specs.Runs.{entries_of}
use Rattle.crs_audit.specs.CitedDates.{IsByDate, dated_in}
use Rattle.crs_audit.specs.Changes.{IsTurn, Brings, IsLastDate}
use Rattle.crs_audit.proofs.Turning.{one_date, by_date_in, last_below, not_kept}
use Rattle.crs_audit.proofs.values.holds.Goals as goal

-- the numbers that are passed fit
plus_one : (from : ℤ) → SFits w64 from → from ≤ℤ pos (2 ^ 42) → to_z w64 (of_z w64 (to_z w64 (of_z w64 from) +ℤ pos 1)) ≡ from +ℤ pos 1
plus_one from fits far =
    let low = to_z-of_z w64 from fits in
    let more : SFits w64 (from +ℤ pos 1) = search (rules, fits, far) in
    ap (λ (z : ℤ). to_z w64 (of_z w64 (z +ℤ pos 1))) low ∙ to_z-of_z w64 (from +ℤ pos 1) more

fits_date : (date : ℕ) → date < 2 ^ 40 → SFits w64 (pos date)
fits_date date l = search (rules, l)

pub last_date-requires : goal.last_date-requires
last_date-requires c =
    let es : List (Entry Sym) = entries_of c.args.entries.now in
    let next = plus_one c.args.from (search rules) (search rules) in
    let same : entries_of c.dated_in.result.now ≡ dated_in (pos 0) (c.args.from +ℤ pos 1) es = c.dated_in.ensures ∙ ap (λ (z : ℤ). dated_in (pos 0) z es) next in
    subst IsByDate (sym same) (by_date_in (pos 0) (c.args.from +ℤ pos 1) es c.requires.by_date)

pub overflow_cast-date : goal.overflow_cast-date
overflow_cast-date c =
    let P = IsTurn (look_of c.args.wanted.now.binding.now) c.args.wanted.now.name (map term_of c.args.wanted.now.terms.now) c.args.accepted in
    let es : List (Entry Sym) = entries_of c.args.entries.now in
    let next = plus_one c.args.from (search rules) (search rules) in
    let same : entries_of c.dated_in.result.now ≡ dated_in (pos 0) (c.args.from +ℤ pos 1) es = c.dated_in.ensures ∙ ap (λ (z : ℤ). dated_in (pos 0) z es) next in
    let given : IsLastDate P (entries_of c.dated_in.result.now) (Some c.in-Some.date) = c.in-Some.ensures in
    fits_date c.in-Some.date (last_below P (pos 0) (c.args.from +ℤ pos 1) es c.in-Some.date (2 ^ 40) c.requires.dated
    (subst (λ (ds : List (Entry Sym)). IsLastDate P ds (Some c.in-Some.date)) same given))

pub returns-in-None : goal.returns-in-None
returns-in-None c =
    let look = look_of c.args.wanted.now.binding.now in
    let P = IsTurn look c.args.wanted.now.name (map term_of c.args.wanted.now.terms.now) c.args.accepted in
    let Q = Brings look (term_of c.args.wanted.now.value) in
    let es : List (Entry Sym) = entries_of c.args.entries.now in
    let next = plus_one c.args.from (search rules) (search rules) in
    let same : entries_of c.dated_in.result.now ≡ dated_in (pos 0) (c.args.from +ℤ pos 1) es = c.dated_in.ensures ∙ ap (λ (z : ℤ). dated_in (pos 0) z es) next in
    let none : IsLastDate P (entries_of c.dated_in.result.now) None = c.in-None.ensures in
    (λ t. absurd (cc), λ k. absurd (not_kept P Q es c.args.from c.args.to (subst (λ (ds : List (Entry Sym)). IsLastDate P ds None) same none) k))

pub returns-in-Some : goal.returns-in-Some
returns-in-Some c =
    let look = look_of c.args.wanted.now.binding.now in
    let P = IsTurn look c.args.wanted.now.name (map term_of c.args.wanted.now.terms.now) c.args.accepted in
    let Q = Brings look (term_of c.args.wanted.now.value) in
    let es : List (Entry Sym) = entries_of c.args.entries.now in
    let next = plus_one c.args.from (search rules) (search rules) in
    let same : entries_of c.dated_in.result.now ≡ dated_in (pos 0) (c.args.from +ℤ pos 1) es = c.dated_in.ensures ∙ ap (λ (z : ℤ). dated_in (pos 0) z es) next in
    let given : IsLastDate P (entries_of c.dated_in.result.now) (Some c.in-Some.date) = c.in-Some.ensures in
    let last : IsLastDate P (dated_in (pos 0) (c.args.from +ℤ pos 1) es) (Some c.in-Some.date) = subst (λ (ds : List (Entry Sym)). IsLastDate P ds (Some c.in-Some.date)) same given in
    let small = last_below P (pos 0) (c.args.from +ℤ pos 1) es c.in-Some.date (2 ^ 40) c.requires.dated last in
    let low = to_z-of_z w64 (pos c.in-Some.date) (fits_date c.in-Some.date small) in
    let high = to_z-of_z w64 c.args.to (search rules) in
    let rest : entries_of c.dated_in-in-Some.result.now ≡ dated_in (pos c.in-Some.date) c.args.to es = c.dated_in-in-Some.ensures ∙ (λ i. dated_in (low i) (high i) es) in (
      λ t. record { date = c.in-Some.date; last = last; brought = subst (AllByRecursion (λ e. P e → Q e)) rest (c.all_bring.ensures.0 t) },
      λ k.
          let m = one_date P (dated_in (pos 0) (c.args.from +ℤ pos 1) es) k.date c.in-Some.date k.last last in
          c.all_bring.ensures.1 (subst (AllByRecursion (λ e. P e → Q e)) (sym rest) (subst (λ (d : ℕ). AllByRecursion (λ e. P e → Q e) (dated_in (pos d) c.args.to es)) m k.brought)),
    )
