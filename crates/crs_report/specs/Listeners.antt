-- What a recognition does to the figures of each kind of listener, who stays, and the lines of those that do.
use Rattle.std.specs.Prelude.{◌≡◌, ℕ, ◌+◌, ◌-◌, ◌<◌, ◌^◌, ◌==◌, ◌&&◌, min, max, nat_lt, not, Bool, true, false, List, [], ◌∷◌, ◌++◌, length, take, drop, map, filter, fold, replicate, codes, decimal, if◌then◌else◌, slice_index, slice_set}
use Rattle.std.specs.List.{flat_map, slice_index_or}
use Rattle.crs_model.specs.declared.recognition.Recognition.{Recognition}
use Rattle.crs_report.specs.declared.listener.Next.{Next}
use Rattle.crs_report.specs.declared.listener.Next.TheVariants.{Stay, Leave}

-- what listeners read of a recognition: its chronicle's number, from 0 in file order, and the dates of its entries
pub record Notice : Type 0 where
  pub chronicle : ℕ
  pub dates : List ℕ

abbrev pub notice_of : Recognition → Notice
notice_of r = record { chronicle = r.chronicle; dates = map (λ e. e.value.date) r.entries }

-- the least of dates, and 0 where there are none
abbrev pub least : List ℕ → ℕ
least [] = 0
least (d ∷ ds) = fold min d ds

-- the greatest of dates, and 0 where there are none
abbrev pub greatest : List ℕ → ℕ
greatest [] = 0
greatest (d ∷ ds) = fold max d ds

abbrev pub span : List ℕ → ℕ
span dates = greatest dates - least dates

-- zeros are added until the place is there
abbrev pub padded : List ℕ → ℕ → List ℕ
padded figures place = figures ++ replicate (place + 1 - length figures) 0

-- the figure at a place gains one, up to 2^64 - 1
abbrev pub gained : List ℕ → ℕ → List ℕ
gained figures place = slice_set figures place (min (slice_index figures place + 1) (2 ^ 64 - 1))

-- a figure for each chronicle: how many recognitions of it were told
abbrev pub counted : List ℕ → Notice → List ℕ
counted figures r = gained (padded figures r.chronicle) r.chronicle

-- the least and the greatest date told
abbrev pub widened : List ℕ → Notice → List ℕ
widened [] r = least r.dates ∷ greatest r.dates ∷ []
widened (first ∷ []) r = first ∷ []
widened (first ∷ last ∷ []) r = min first (least r.dates) ∷ max last (greatest r.dates) ∷ []
widened (first ∷ last ∷ other ∷ more) r = first ∷ last ∷ other ∷ more

abbrev pub span_figures : Notice → List ℕ
span_figures r = span r.dates ∷ r.chronicle ∷ least r.dates ∷ []

-- the span, the chronicle's number and the least date of the first recognition told with the greatest span
abbrev pub lengthened : List ℕ → Notice → List ℕ
lengthened [] r = span_figures r
lengthened (longest ∷ []) r = longest ∷ []
lengthened (longest ∷ chronicle ∷ []) r = longest ∷ chronicle ∷ []
lengthened (longest ∷ chronicle ∷ date ∷ []) r =
    if nat_lt longest (span r.dates) then span_figures r else longest ∷ chronicle ∷ date ∷ []
lengthened (longest ∷ chronicle ∷ date ∷ other ∷ more) r = longest ∷ chronicle ∷ date ∷ other ∷ more

-- one less, down to 0
abbrev pub lessened : List ℕ → List ℕ
lessened [] = []
lessened (n ∷ []) = (n - 1) ∷ []
lessened (n ∷ other ∷ more) = n ∷ other ∷ more

-- the figures after a recognition, by the kind of listener: 0 counts, 1 has the first and the last date, 2 the longest span, 3 how many
-- more are wanted, and the others are the caller's own
abbrev pub figures_after : ℕ → List ℕ → Notice → List ℕ
figures_after kind figures r =
    if kind == 0 then counted figures r
    else (if kind == 1 then widened figures r
    else (if kind == 2 then lengthened figures r
    else (if kind == 3 then lessened figures
    else figures)))

-- the figures after recognitions in order
abbrev pub figures_after_all : ℕ → List ℕ → List Notice → List ℕ
figures_after_all kind figures rs = fold (figures_after kind) figures rs

-- there is one figure, and it is 0
abbrev pub is_zero : List ℕ → Bool
is_zero [] = false
is_zero (n ∷ []) = n == 0
is_zero (n ∷ other ∷ more) = false

-- a listener of kind 3 leaves where its figure is 0 after a recognition
abbrev pub leaves : ℕ → List ℕ → Bool
leaves kind figures = kind == 3 && is_zero figures

abbrev pub next_of : ℕ → List ℕ → Next
next_of kind figures = if leaves kind figures then Leave else Stay

-- a listener as it is seen: its kind and its figures
abbrev pub Member : Type 0
Member = ℕ × List ℕ

abbrev pub told : Notice → Member → Member
told r m = (m.0, figures_after m.0 m.1 r)

abbrev pub told_all : List Notice → Member → Member
told_all rs m = (m.0, figures_after_all m.0 m.1 rs)

abbrev pub stays : Member → Bool
stays m = not (leaves m.0 m.1)

-- it stays at each of the recognitions
abbrev pub stays_through : List Notice → Member → Bool
stays_through [] m = true
stays_through (r ∷ rs) m = stays (told r m) && stays_through rs (told r m)

-- the members after a recognition: those that stay, in order
abbrev pub tell_members : Notice → List Member → List Member
tell_members r members = filter stays (map (told r) members)

-- the members after recognitions in order: those that stay at each of them, with the figures after all
abbrev pub members_after : List Notice → List Member → List Member
members_after rs members = map (told_all rs) (filter (stays_through rs) members)

-- want of memory at member k: those before it were told, and it and those behind it are as before
pub record StoppedAt (k : ℕ) (r : Notice) (old new : List Member) : Type 0 where
  pub within : k < length old
  pub members : new ≡ tell_members r (take k old) ++ drop k old

-- the kind is chosen, given for each kind from 0 on whether it is
abbrev pub is_chosen : List Bool → ℕ → Bool
is_chosen chosen kind = slice_index_or chosen kind false

-- the members of chosen kinds, in order
abbrev pub keep_members : List Bool → List Member → List Member
keep_members chosen members = filter (λ m. is_chosen chosen m.0) members

-- the word of a kind, and the number of one that is the caller's own
abbrev pub kind_word : ℕ → List ℕ
kind_word kind =
    if kind == 0 then codes "count"
    else (if kind == 1 then codes "span"
    else (if kind == 2 then codes "longest"
    else (if kind == 3 then codes "fewer"
    else decimal kind)))

abbrev pub figure_text : ℕ → List ℕ
figure_text n = codes " " ++ decimal n

-- `tally KIND FIGURE..`
abbrev pub page_line : ℕ → List ℕ → List ℕ
page_line kind figures = codes "tally " ++ kind_word kind ++ flat_map figure_text figures ++ 10 ∷ []

abbrev pub page_of : Member → List ℕ
page_of m = page_line m.0 m.1
