-- What becomes of all stores.
use Rattle.std.specs.Prelude.{Bool, true, false, if◌then◌else◌, ◌≡◌, ◌<◌, ◌≤◌, ℕ, min, List, [], ◌∷◌, ◌++◌}
use Rattle.std.specs.List.{AllByRecursion, AllZip}
use Rattle.crs_base.specs.declared.symbols.Sym.{Sym}
use Rattle.crs_base.specs.Entry.{Entry}
use Rattle.crs_base.specs.Words.{IsIn, Ordered}
use Rattle.crs_model.specs.declared.recognition.Mark.{Mark}
use Rattle.crs_model.specs.declared.recognition.Recognition.{Recognition}
use Rattle.crs_model.specs.Order.{put_in_order}
use Rattle.crs_history.specs.Histories.{HistoryState, StandsFor}
use Rattle.crs_store.specs.Stores.{StoreState, IsSameStore, IsOfferedUntil, IsOfferedPromptAhead, IsSettledComing}
use Rattle.crs_store.specs.Ahead.{AreAhead}
use Rattle.crs_store.specs.Orders.{IsBehind, AreBehind}
use Rattle.crs_store.specs.Answers.{IsAdvanced}

abbrev pub AreSameStores : List StoreState → List StoreState → Type 0
AreSameStores olds news = AllZip IsSameStore olds news

-- it was offered x, or x was settled where its chronicle is prompt
pub record IsTakenIn (o : StoreState) (history : HistoryState) (x : Entry Sym) (until : ℕ) (ahead : List (Entry Sym)) (beyond : ℕ) (behind : Bool) (n : StoreState) : Type 0 where
  pub plain : o.plan.chronicle.prompt ≡ false → IsOfferedUntil o history x until ahead beyond behind n
  pub prompt : o.plan.chronicle.prompt ≡ true → IsSettledComing o history x n

-- each was offered x, which the history has as its last, and told of the entries ahead of all that are dated at or after a date and whether they are behind x, and all that it holds was judged at a date that isn't after `until`; where its chronicle is prompt, x was settled
abbrev pub AreOffered : List StoreState → HistoryState → Entry Sym → ℕ → List (Entry Sym) → ℕ → Bool → List StoreState → Type 0
AreOffered olds history x until ahead beyond behind news = AllZip (λ o n. IsTakenIn o history x until ahead beyond behind n) olds news

-- what the stores are told of the later entries is so
pub record AreTold (stores : List StoreState) (x : Entry Sym) (ahead : List (Entry Sym)) (beyond : ℕ) (behind : Bool) (later : List (Entry Sym)) (h : ℕ) : Type 0 where
  pub coming : AreAhead ahead beyond later h
  pub after : behind ≡ true → AllByRecursion (λ s. AreBehind s.ranks x later h) stores

-- x came to its pool where its chronicle is prompt, and it was told of the entries ahead of all that are dated at or after a date; else nothing changed
pub record IsGivenFresh (o : StoreState) (history : HistoryState) (x : Entry Sym) (ahead : List (Entry Sym)) (beyond : ℕ) (n : StoreState) : Type 0 where
  pub same : IsSameStore o n
  pub plain : o.plan.chronicle.prompt ≡ false → n ≡ o
  pub prompt : o.plan.chronicle.prompt ≡ true → IsOfferedPromptAhead o history x ahead beyond n

-- so of each
abbrev pub AreGivenOne : List StoreState → HistoryState → Entry Sym → List (Entry Sym) → ℕ → List StoreState → Type 0
AreGivenOne olds history x ahead beyond news = AllZip (λ o n. IsGivenFresh o history x ahead beyond n) olds news

-- each entry in turn came to the pools of the prompt chronicles, whose stores were told of some of those after it, up to h
abbrev pub AreGivenFresh : ℕ → HistoryState → List (Entry Sym) → List StoreState → List StoreState → Type 0
AreGivenFresh h history [] olds news = news ≡ olds
AreGivenFresh h history (x ∷ xs) olds news =
    (next : List StoreState) × (ahead : List (Entry Sym)) × (beyond : ℕ) × AreAhead ahead beyond xs h × AreGivenOne olds history x ahead beyond next × AreGivenFresh h history xs next news

-- put in order, where it is wanted
abbrev pub put_where : Bool → Entry Sym → List (Entry Sym) → List (Entry Sym)
put_where wanted x xs = if wanted then put_in_order x xs else xs

-- the date of the first entry, or h where that is the lesser or there is none
abbrev pub date_after : ℕ → List (Entry Sym) → ℕ
date_after h [] = h
date_after h (x ∷ xs) = min x.date h

-- x was put last in the history
pub record HasPut (past : HistoryState) (x : Entry Sym) (now : HistoryState) : Type 0 where
  pub floor : now.floor ≡ past.floor
  pub stands : (es : List (Entry Sym)) → StandsFor es past → StandsFor (es ++ x ∷ []) now

-- Each entry in turn was put last in the history, and each store was offered it, told of those after it, and judged all no later than at the date of the entry after it,
-- or than at h where that is the lesser or there is none. The rest comes after these entries.
abbrev pub AreOfferedAll : ℕ → List (Entry Sym) → List StoreState → HistoryState → List (Entry Sym) → List StoreState → HistoryState
    → Type 0
AreOfferedAll h rest olds past [] news now = (news ≡ olds) × (now ≡ past)
AreOfferedAll h rest olds past (x ∷ xs) news now =
    (next : List StoreState) × (put : HistoryState) × (ahead : List (Entry Sym)) × (beyond : ℕ) × (behind : Bool) × AreTold olds x ahead beyond behind (xs ++ rest) h × HasPut past x put × AreSameStores olds next
    × AreOffered olds put x (date_after h (xs ++ rest)) ahead beyond behind next × AreOfferedAll h rest next put xs news now

-- the first of the entries, all dated before h, and then the others
pub record AreTaken (h : ℕ) (taken held rest : List (Entry Sym)) : Type 0 where
  pub parted : held ≡ taken ++ rest
  pub before : AllByRecursion (λ x. x.date < h) taken

-- the first of the entries were put last in the history
abbrev pub ArePut : HistoryState → List (Entry Sym) → HistoryState → Type 0
ArePut past entries now = (done : List (Entry Sym)) × (rest : List (Entry Sym)) × (entries ≡ done ++ rest) × (now.entries ≡ past.entries ++ done) × (now.floor ≡ past.floor)

-- the first of the entries, all dated before h, were taken out in turn, put last in the history, and offered
pub record AreSettled (olds : List StoreState) (past : HistoryState) (held : List (Entry Sym)) (h : ℕ) (news : List StoreState) (now : HistoryState) (rest : List (Entry Sym)) : Type 0 where
  pub same : AreSameStores olds news
  pub done : List (Entry Sym)
  pub taken : AreTaken h done held rest
  pub kept : now.entries ≡ past.entries ++ done
  pub offered : AreOfferedAll h rest olds past done news now

-- the rest of the entries
abbrev pub IsRestOf : List (Entry Sym) → List (Entry Sym) → Type 0
IsRestOf held rest = (done : List (Entry Sym)) × (held ≡ done ++ rest)

-- each was advanced to h, and the answers stand one after another
abbrev pub AreAdvanced : HistoryState → ℕ → Mark → List StoreState → List StoreState → List Recognition → Type 0
AreAdvanced history h mark [] news answer = (news ≡ []) × (answer ≡ [])
AreAdvanced history h mark (o ∷ olds) news answer =
    (n : StoreState) × (rest : List StoreState) × (first : List Recognition) × (more : List Recognition)
    × (news ≡ n ∷ rest) × (answer ≡ first ++ more) × IsAdvanced o history h mark n first × AreAdvanced history h mark olds rest more

-- those accepted since the last mark came to the pools, the entries dated before h were settled and no others, and then each store was advanced
pub record AreMarked (h : ℕ) (mark : Mark) (olds : List StoreState) (past : HistoryState) (held fresh : List (Entry Sym)) (news : List StoreState) (now : HistoryState) (rest : List (Entry Sym)) (answer : List Recognition) : Type 0 where
  pub pooled : List StoreState
  pub given : AreGivenFresh h past fresh olds pooled
  pub same_pooled : AreSameStores olds pooled
  pub between : List StoreState
  pub settled : AreSettled pooled past held h between now rest
  pub after : AllByRecursion (λ x. h ≤ x.date) rest
  pub advanced : AreAdvanced now h mark between news answer

-- it has these ranks
abbrev pub HasRanks : List ℕ → StoreState → Type 0
HasRanks ranks s = s.ranks ≡ ranks

-- each of the entries is behind those before it
abbrev pub AreInOrder : List ℕ → List (Entry Sym) → Type 0
AreInOrder ranks xs = Ordered (IsBehind ranks) xs

-- each of the ones is dated before each of the others
abbrev pub AreApart : List (Entry Sym) → List (Entry Sym) → Type 0
AreApart taken rest = (x y : Entry Sym) → IsIn x taken → IsIn y rest → x.date < y.date

-- the first of the others, if there is one, is behind x
abbrev pub IsFirstBehind : List ℕ → Entry Sym → List (Entry Sym) → Type 0
IsFirstBehind ranks x [] = Unit {0}
IsFirstBehind ranks x (y ∷ ys) = IsBehind ranks x y
