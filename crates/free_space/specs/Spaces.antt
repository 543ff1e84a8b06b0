-- The free space of a domain's volumes.
use Rattle.std.specs.Prelude.{◌≡◌, ℕ, ◌+◌, ◌-◌, ◌^◌, true, false, nat_eq, min, List, [], ◌++◌, length, map, slice_set, slice_index_or, Option, Some, None, IsSomeAnd, if◌then◌else◌, replicate, refl}
use Rattle.std.specs.Coded.{Coded, code_by, coded×, coded_ℕ, coded_list, coded_option}
use Rattle.std.specs.Option.{option_map}
use Rattle.std.specs.List.{IsDistinct}
use Rattle.std.specs.FinSet.{len, contains, from_list, difference}
use Rattle.free_space.specs.VolumePages.{IsLongestRun}
use Rattle.free_space.specs.declared.waiting.Waiting.{Waiting}
use Rattle.free_space.specs.VolumeSpace.{VolumeSpace, volume_space_code, IsFreePage, AreFreePages, volume_pages, is_waiting, as_kept}

-- the volumes that are there, volume k at place k - 1, and how often no page was found
pub record Spaces : Type 0 where
  pub volumes : List (Option VolumeSpace)
  pub misses : ℕ

abbrev pub spaces_code : Coded Spaces
spaces_code = code_by (List (Option VolumeSpace) × ℕ)
    (coded× (coded_list (coded_option volume_space_code)) coded_ℕ) (λ s. (s.volumes, s.misses))
    (λ p. record { volumes = p.0; misses = p.1 }) (λ _. refl)

-- eight places with no volume
abbrev pub no_spaces : Spaces
no_spaces = record { volumes = replicate 8 None; misses = 0 }

-- the volume with a number from 1 on, if it is there
abbrev pub volume_of : Spaces → ℕ → Option VolumeSpace
volume_of s vol = slice_index_or s.volumes (vol - 1) None

-- the volume is put there, or taken away
abbrev pub with_volume : Option VolumeSpace → Spaces → ℕ → Spaces
with_volume v s vol = record s { volumes = slice_set s.volumes (vol - 1) v }

-- the volume is changed, if it is there, and nothing else
abbrev pub change_volume : (VolumeSpace → VolumeSpace) → Spaces → ℕ → Spaces
change_volume change s vol = with_volume (option_map change (volume_of s vol)) s vol

-- each volume is changed
abbrev pub change_volumes : (VolumeSpace → VolumeSpace) → Spaces → Spaces
change_volumes change s = record s { volumes = map (option_map change) s.volumes }

-- the volumes as they were kept
abbrev pub kept_spaces : Spaces → Spaces
kept_spaces s = change_volumes as_kept s

-- these are the pages of the volume that are used and were not when it was kept, each once
abbrev pub AreTakenOn : Option VolumeSpace → List ℕ → Type 0
AreTakenOn None pages = pages ≡ []
AreTakenOn (Some v) pages =
    (from_list pages ≡ difference v.used v.kept_used) × IsDistinct nat_eq pages

-- these are those that are free and were used, each once
abbrev pub AreFreedOn : Option VolumeSpace → List ℕ → Type 0
AreFreedOn None pages = pages ≡ []
AreFreedOn (Some v) pages =
    (from_list pages ≡ difference v.kept_used v.used) × IsDistinct nat_eq pages

-- these have come to wait on the volume since it was kept, after those that waited then
abbrev pub AreGivenBackOn : Option VolumeSpace → List Waiting → Type 0
AreGivenBackOn None waiting = waiting ≡ []
AreGivenBackOn (Some v) waiting = v.waiting ≡ v.kept_waiting ++ waiting

-- page p of the volume is free
abbrev pub IsFree : Spaces → ℕ → ℕ → Type 0
IsFree s vol p = IsSomeAnd (volume_of s vol) (λ v. IsFreePage v p)

-- page p of the volume is free, and the volume is open
abbrev pub CanTake : Spaces → ℕ → ℕ → Type 0
CanTake s vol p = IsSomeAnd (volume_of s vol) (λ v. (v.is_open ≡ true) × IsFreePage v p)

-- `count` pages in a row from page p on are free, and the volume is open
abbrev pub CanTakeRun : Spaces → ℕ → ℕ → ℕ → Type 0
CanTakeRun s vol p count = IsSomeAnd (volume_of s vol)
    (λ v. (v.is_open ≡ true) × AreFreePages v p count)

-- page p of the volume is used and does not wait
abbrev pub IsHeld : Spaces → ℕ → ℕ → Type 0
IsHeld s vol p = IsSomeAnd (volume_of s vol)
    (λ v. (contains v.used p ≡ true) × (is_waiting v p ≡ false))

-- one miss more, while the count can rise
abbrev pub missed : Spaces → Spaces
missed s = record s { misses = min (s.misses + 1) (2 ^ 64 - 1) }

-- what a volume adds to the count of free pages, and to that of waiting ones
abbrev pub free_pages : Option VolumeSpace → ℕ
free_pages None = 0
free_pages (Some v) = if v.is_open then v.pages - len v.used else 0

-- how many pages of a volume wait, none if it is not there
abbrev pub waiting_pages : Option VolumeSpace → ℕ
waiting_pages None = 0
waiting_pages (Some v) = length v.waiting

-- how many used pages of the volume do not wait
abbrev pub held_pages : Option VolumeSpace → ℕ
held_pages None = 0
held_pages (Some v) = len v.used - length v.waiting

-- the length of the volume's longest run of free pages, 0 if it is not there
abbrev pub IsLongestOn : Option VolumeSpace → ℕ → Type 0
IsLongestOn None count = count ≡ 0
IsLongestOn (Some v) count = IsLongestRun (volume_pages v) count
