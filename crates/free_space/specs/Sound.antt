-- What is always so of a volume's free space, and of a domain's.
use Rattle.std.specs.Prelude.{◌≡◌, ℕ, ◌<◌, ◌≤◌, ◌^◌, Bool, true, false, not, ◌==◌, nat_eq, filter, List, length, take, Option}
use Rattle.std.specs.List.{list_any, AllByRecursion, IsDistinct}
use Rattle.std.specs.Option.{IfSome}
use Rattle.std.specs.Ordering.{nat_cmp}
use Rattle.std.specs.FinSet.{FinSet, contains, from_list, union, difference}
use Rattle.free_space.specs.declared.waiting.Waiting.{Waiting}
use Rattle.free_space.specs.VolumeSpace.{VolumeSpace, is_among}
use Rattle.free_space.specs.Spaces.{Spaces}

abbrev pub same_page : Waiting → Waiting → Bool
same_page v w = nat_eq v.page w.page

-- used pages are the volume's, and the pages that wait are used and all different: so the counts
-- are counts of pages
pub record IsSound (pages : ℕ) (used : FinSet nat_cmp) (waiting : List Waiting) : Type 0 where
  pub limit : pages ≤ 2 ^ 20
  pub within : (p : ℕ) → contains used p ≡ true → p < pages
  pub held : (p : ℕ) → is_among waiting p ≡ true → contains used p ≡ true
  pub apart : IsDistinct same_page waiting

abbrev pub IsSoundVolume : VolumeSpace → Type 0
IsSoundVolume v = IsSound v.pages v.used v.waiting

-- and it was so when it was last kept
abbrev pub WasSoundVolume : VolumeSpace → Type 0
WasSoundVolume v = IsSound v.pages v.kept_used v.kept_waiting

-- each volume that is there is sound
abbrev pub AreSoundVolumes : List (Option VolumeSpace) → Type 0
AreSoundVolumes volumes = AllByRecursion (λ o. IfSome o IsSoundVolume) volumes

-- what is always so of the free space of all volumes: used pages are the volume's, and waiting ones
-- are used and all different
abbrev pub AreSound : Spaces → Type 0
AreSound s = AreSoundVolumes s.volumes

-- whether page p is one of these
abbrev pub is_one : List ℕ → ℕ → Bool
is_one pages p = list_any (λ q. q == p) pages

-- the list without page p
abbrev pub without : ℕ → List ℕ → List ℕ
without p pages = filter (λ q. not (q == p)) pages

-- what was used before these were taken and those became free
abbrev pub used_before : FinSet nat_cmp → List ℕ → List ℕ → FinSet nat_cmp
used_before used taken freed = union (difference used (from_list taken)) (from_list freed)

-- used pages that were taken, and free ones of the volume that became free, each once
pub record AreChanges (pages : ℕ) (used : FinSet nat_cmp) (taken freed : List ℕ) : Type 0 where
  pub there : (p : ℕ) → is_one taken p ≡ true → contains used p ≡ true
  pub free : (p : ℕ) → is_one freed p ≡ true → contains used p ≡ false
  pub within : (p : ℕ) → is_one freed p ≡ true → p < pages
  pub taken_once : IsDistinct nat_eq taken
  pub freed_once : IsDistinct nat_eq freed

-- what a volume keeps besides: the room for each of its pages to wait, to be taken and to become
-- free, and what has changed since `kept` pages waited, when it was sound too
pub record IsKept (pages : ℕ) (used : FinSet nat_cmp) (waiting : List Waiting) (taken freed : List ℕ)
    (kept room taken_room freed_room : ℕ) : Type 0 where
  pub sound : IsSound pages used waiting
  pub changes : AreChanges pages used taken freed
  pub before : IsSound pages (used_before used taken freed) (take kept waiting)
  pub longer : kept ≤ length waiting
  pub enough : pages ≤ room
  pub enough_taken : pages ≤ taken_room
  pub enough_freed : pages ≤ freed_room
