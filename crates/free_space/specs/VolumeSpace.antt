-- The free space of one volume.
use Rattle.std.specs.Prelude.{◌≡◌, ℕ, zero, suc, ◌+◌, ◌<◌, ◌≤◌, Bool, true, false, not, ◌&&◌, ◌==◌, nat_le, List, [], ◌∷◌, ◌++◌, filter, if◌then◌else◌, refl}
use Rattle.std.specs.List.{list_any}
use Rattle.std.specs.Ordering.{nat_cmp}
use Rattle.std.specs.FinSet.{FinSet, code, contains, insert, remove, retain}
use Rattle.std.specs.Coded.{Coded, code_by, coded×, coded_ℕ, coded_bool, coded_list}
use Rattle.free_space.specs.VolumePages.{VolumePages}
use Rattle.free_space.specs.declared.waiting.Waiting.{Waiting}
use Rattle.free_space.specs.declared.waiting.PageUse.{PageUse}
use Rattle.free_space.specs.declared.waiting.PageUse.TheVariants.{Data, Metadata}

-- a volume's pages, whether pages are taken from it, its used pages, and those of them that wait;
-- and which were used and which waited when that was last kept
pub record VolumeSpace : Type 0 where
  pub pages : ℕ
  pub is_open : Bool
  pub used : FinSet nat_cmp
  pub waiting : List Waiting
  pub kept_used : FinSet nat_cmp
  pub kept_waiting : List Waiting

-- whether two uses are one
abbrev pub same_use : PageUse → PageUse → Bool
same_use Data Data = true
same_use Data Metadata = false
same_use Metadata Data = false
same_use Metadata Metadata = true

abbrev use_code : Coded PageUse
use_code = code_by Bool coded_bool (λ k. same_use k Metadata)
    (λ b. if b then Metadata else Data) both
  where
    both : (k : PageUse) → (if same_use k Metadata then Metadata else Data) ≡ k
    both Data = refl
    both Metadata = refl

abbrev waiting_code : Coded (List Waiting)
waiting_code = coded_list (code_by (ℕ × (PageUse × ℕ)) (coded× coded_ℕ (coded× use_code coded_ℕ))
    (λ w. (w.page, (w.kind, w.group)))
    (λ p. record { page = p.0; kind = p.1.0; group = p.1.1 }) (λ _. refl))

abbrev PagesInUse : Type 0
PagesInUse = FinSet nat_cmp × List Waiting

abbrev in_use_code : Coded PagesInUse
in_use_code = coded× (code coded_ℕ) waiting_code

abbrev pub volume_space_code : Coded VolumeSpace
volume_space_code =
    code_by ((ℕ × Bool) × (PagesInUse × PagesInUse))
    (coded× (coded× coded_ℕ coded_bool) (coded× in_use_code in_use_code))
    (λ v. ((v.pages, v.is_open), ((v.used, v.waiting), (v.kept_used, v.kept_waiting))))
    (λ p. record {
      pages = p.0.0;
      is_open = p.0.1;
      used = p.1.0.0;
      waiting = p.1.0.1;
      kept_used = p.1.1.0;
      kept_waiting = p.1.1.1;
    })
    (λ _. refl)

-- its pages and the used ones, as a bitmap has them
abbrev pub volume_pages : VolumeSpace → VolumePages
volume_pages v = record { pages = v.pages; used = v.used }

-- a volume that was just added with this map: it is open, no page of it waits, and so it is kept
abbrev pub added : VolumePages → VolumeSpace
added m = record {
  pages = m.pages;
  is_open = true;
  used = m.used;
  waiting = [];
  kept_used = m.used;
  kept_waiting = [];
}

-- whether page p is among those that wait
abbrev pub is_among : List Waiting → ℕ → Bool
is_among waiting p = list_any (λ w. p == w.page) waiting

-- whether page p waits
abbrev pub is_waiting : VolumeSpace → ℕ → Bool
is_waiting v p = is_among v.waiting p

-- one of the volume's pages, neither used nor waiting
pub record IsFreePage (v : VolumeSpace) (p : ℕ) : Type 0 where
  pub within : p < v.pages
  pub unused : contains v.used p ≡ false
  pub settled : is_waiting v p ≡ false

-- that many pages in a row from page p on, each of them free
pub record AreFreePages (v : VolumeSpace) (p count : ℕ) : Type 0 where
  pub within : p + count ≤ v.pages
  pub free : (q : ℕ) → p ≤ q → q < p + count → IsFreePage v q

-- the set with that many pages more, from page p on
abbrev pub insert_run : FinSet nat_cmp → ℕ → ℕ → FinSet nat_cmp
insert_run used p zero = used
insert_run used p (suc count) = insert (insert_run used p count) (p + count)

-- one page more is used
abbrev pub with_page : ℕ → VolumeSpace → VolumeSpace
with_page p v = record v { used = insert v.used p }

-- `count` more pages in a row are used, from page p on
abbrev pub with_run : ℕ → ℕ → VolumeSpace → VolumeSpace
with_run p count v = record v { used = insert_run v.used p count }

-- one page less is used
abbrev pub without_page : ℕ → VolumeSpace → VolumeSpace
without_page p v = record v { used = remove v.used p }

-- the volume is opened or closed: pages may be taken of an open one alone
abbrev pub with_open : Bool → VolumeSpace → VolumeSpace
with_open is_open v = record v { is_open = is_open }

-- the page waits from now on
abbrev pub with_waiting : Waiting → VolumeSpace → VolumeSpace
with_waiting w v = record v { waiting = v.waiting ++ w ∷ [] }

-- whether a page of that use waits for that group or one before it
abbrev pub is_due : PageUse → ℕ → Waiting → Bool
is_due kind group w = same_use w.kind kind && nat_le w.group group

-- the used pages without those that are due
abbrev pub without_due : FinSet nat_cmp → List Waiting → PageUse → ℕ → FinSet nat_cmp
without_due used waiting kind group = retain used
    (λ p. not (list_any (λ w. p == w.page && is_due kind group w) waiting))

-- what is not due
abbrev pub still_waiting : PageUse → ℕ → List Waiting → List Waiting
still_waiting kind group waiting = filter (λ w. not (is_due kind group w)) waiting

-- what is used and what waits is kept as it is now
abbrev pub keeping : VolumeSpace → VolumeSpace
keeping v = record v { kept_used = v.used; kept_waiting = v.waiting }

-- the volume as it was kept; whether it is open is not kept
abbrev pub as_kept : VolumeSpace → VolumeSpace
as_kept v = record v { used = v.kept_used; waiting = v.kept_waiting }

-- the pages of that use that wait for that group or one before it are free, and that is kept
abbrev pub with_released : PageUse → ℕ → VolumeSpace → VolumeSpace
with_released kind group v = keeping (record v {
  used = without_due v.used v.waiting kind group;
  waiting = still_waiting kind group v.waiting;
})

-- the used pages without those that wait
abbrev pub without_waiting : FinSet nat_cmp → List Waiting → FinSet nat_cmp
without_waiting used waiting = retain used (λ p. not (is_among waiting p))

-- all pages that wait are free, and that is kept
abbrev pub with_none_waiting : VolumeSpace → VolumeSpace
with_none_waiting v = keeping (record v { used = without_waiting v.used v.waiting; waiting = [] })
