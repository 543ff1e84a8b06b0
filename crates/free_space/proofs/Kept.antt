-- What was kept stays through the calls of a change, and what keeps is kept.
use Rattle.std.proofs.Common.{◌≡◌, ℕ, zero, suc, ◌-◌, Bool, List, [], ◌∷◌, Option, None, Some, get_or, map, set, refl, sym, ◌∙◌, ap}
use Rattle.std.specs.Option.{option_map}
use Rattle.free_space.specs.declared.waiting.Waiting.{Waiting}
use Rattle.free_space.specs.declared.waiting.PageUse.{PageUse}
use Rattle.free_space.specs.VolumeSpace.{VolumeSpace, added, with_page, with_run, without_page, with_waiting, with_none_waiting, with_open, with_released, keeping, as_kept}
use Rattle.free_space.specs.Spaces.{Spaces, volume_of, with_volume, change_volume, change_volumes, missed, kept_spaces}
use Rattle.free_space.specs.VolumePages.{VolumePages}

abbrev with_volumes : Spaces → List (Option VolumeSpace) → Spaces
with_volumes s volumes = record s { volumes = volumes }

abbrev as_kept_all : List (Option VolumeSpace) → List (Option VolumeSpace)
as_kept_all volumes = map (option_map as_kept) volumes

-- ---- a change that leaves what was kept

module _ (change : VolumeSpace → VolumeSpace) (leaves : (v : VolumeSpace) → as_kept (change v) ≡ as_kept v) where
  left_at : (o : Option VolumeSpace) → option_map as_kept (option_map change o) ≡ option_map as_kept o
  left_at None = refl
  left_at (Some v) = ap Some (leaves v)

  left_in : (vs : List (Option VolumeSpace)) (i : ℕ) → as_kept_all (set vs i (option_map change (get_or vs i None))) ≡ as_kept_all vs
  left_in [] i = refl
  left_in (o ∷ vs) zero = ap (λ x. x ∷ as_kept_all vs) (left_at o)
  left_in (o ∷ vs) (suc i) = ap (λ xs. option_map as_kept o ∷ xs) (left_in vs i)

  pub kept-change_volume : (s : Spaces) (vol : ℕ) → kept_spaces (change_volume change s vol) ≡ kept_spaces s
  kept-change_volume s vol = ap (with_volumes s) (left_in s.volumes (vol - 1))

pub kept-with_page : (p : ℕ) (s : Spaces) (vol : ℕ) → kept_spaces (change_volume (with_page p) s vol) ≡ kept_spaces s
kept-with_page p s vol = kept-change_volume (with_page p) (λ v. refl) s vol

pub kept-with_run : (p count : ℕ) (s : Spaces) (vol : ℕ) → kept_spaces (change_volume (with_run p count) s vol) ≡ kept_spaces s
kept-with_run p count s vol = kept-change_volume (with_run p count) (λ v. refl) s vol

pub kept-without_page : (p : ℕ) (s : Spaces) (vol : ℕ) → kept_spaces (change_volume (without_page p) s vol) ≡ kept_spaces s
kept-without_page p s vol = kept-change_volume (without_page p) (λ v. refl) s vol

pub kept-with_waiting : (w : Waiting) (s : Spaces) (vol : ℕ) → kept_spaces (change_volume (with_waiting w) s vol) ≡ kept_spaces s
kept-with_waiting w s vol = kept-change_volume (with_waiting w) (λ v. refl) s vol

-- a miss is not taken back
pub kept-missed : (s : Spaces) → kept_spaces (missed s) ≡ missed (kept_spaces s)
kept-missed s = refl

-- ---- a change after which nothing is to be taken back

module _ (change : VolumeSpace → VolumeSpace) (keeps : (v : VolumeSpace) → as_kept (change v) ≡ change v) where
  kept_in : (vs : List (Option VolumeSpace)) → as_kept_all (map (option_map change) vs) ≡ map (option_map change) vs
  kept_in [] = refl
  kept_in (None ∷ vs) = ap (λ xs. None ∷ xs) (kept_in vs)
  kept_in (Some v ∷ vs) = λ i. Some (keeps v i) ∷ kept_in vs i

  pub kept-change_volumes : (s : Spaces) → kept_spaces (change_volumes change s) ≡ change_volumes change s
  kept-change_volumes s = ap (with_volumes s) (kept_in s.volumes)

pub kept-keeping : (s : Spaces) → kept_spaces (change_volumes keeping s) ≡ change_volumes keeping s
kept-keeping s = kept-change_volumes keeping (λ v. refl) s

pub kept-kept : (s : Spaces) → kept_spaces (kept_spaces s) ≡ kept_spaces s
kept-kept s = kept-change_volumes as_kept (λ v. refl) s

pub kept-with_released : (kind : PageUse) (group : ℕ) (s : Spaces) → kept_spaces (change_volumes (with_released kind group) s) ≡ change_volumes (with_released kind group) s
kept-with_released kind group s = kept-change_volumes (with_released kind group) (λ v. refl) s

pub kept-with_none_waiting : (s : Spaces) → kept_spaces (change_volumes with_none_waiting s) ≡ change_volumes with_none_waiting s
kept-with_none_waiting s = kept-change_volumes with_none_waiting (λ v. refl) s

-- ---- where nothing is to be taken back

kept_set : (vs : List (Option VolumeSpace)) (i : ℕ) (o : Option VolumeSpace) → option_map as_kept o ≡ o → as_kept_all vs ≡ vs → as_kept_all (set vs i o) ≡ set vs i o
kept_set vs i o kept all = map_set vs i ∙ (λ k. set (all k) i (kept k))
  where
    map_set : (xs : List (Option VolumeSpace)) (j : ℕ) → as_kept_all (set xs j o) ≡ set (as_kept_all xs) j (option_map as_kept o)
    map_set [] j = refl
    map_set (x ∷ xs) zero = refl
    map_set (x ∷ xs) (suc j) = ap (λ ys. option_map as_kept x ∷ ys) (map_set xs j)

get-kept : (vs : List (Option VolumeSpace)) (i : ℕ) → get_or (as_kept_all vs) i None ≡ option_map as_kept (get_or vs i None)
get-kept [] i = refl
get-kept (o ∷ vs) zero = refl
get-kept (o ∷ vs) (suc i) = get-kept vs i

get-changed : (change : VolumeSpace → VolumeSpace) (vs : List (Option VolumeSpace)) (i : ℕ) → get_or (map (option_map change) vs) i None ≡ option_map change (get_or vs i None)
get-changed change [] i = refl
get-changed change (o ∷ vs) zero = refl
get-changed change (o ∷ vs) (suc i) = get-changed change vs i

-- a volume where each is changed
pub volume_of-changed : (change : VolumeSpace → VolumeSpace) (s : Spaces) (vol : ℕ) → volume_of (change_volumes change s) vol ≡ option_map change (volume_of s vol)
volume_of-changed change s vol = get-changed change s.volumes (vol - 1)

-- a volume as it was kept
pub volume_of-kept : (s : Spaces) (vol : ℕ) → volume_of (kept_spaces s) vol ≡ option_map as_kept (volume_of s vol)
volume_of-kept s vol = get-kept s.volumes (vol - 1)

module _ (s : Spaces) (kept : kept_spaces s ≡ s) where
  pub kept-with_volume : (o : Option VolumeSpace) (vol : ℕ) → option_map as_kept o ≡ o → kept_spaces (with_volume o s vol) ≡ with_volume o s vol
  kept-with_volume o vol is = ap (with_volumes s) (kept_set s.volumes (vol - 1) o is (ap (λ (x : Spaces). x.volumes) kept))

  pub kept-added : (m : VolumePages) (vol : ℕ) → kept_spaces (with_volume (Some (added m)) s vol) ≡ with_volume (Some (added m)) s vol
  kept-added m vol = kept-with_volume (Some (added m)) vol refl

  pub kept-dropped : (vol : ℕ) → kept_spaces (with_volume None s vol) ≡ with_volume None s vol
  kept-dropped vol = kept-with_volume None vol refl

  pub kept-with_open : (is_open : Bool) (vol : ℕ) → kept_spaces (change_volume (with_open is_open) s vol) ≡ change_volume (with_open is_open) s vol
  kept-with_open is_open vol =
      let same : option_map as_kept (volume_of s vol) ≡ volume_of s vol = sym (volume_of-kept s vol) ∙ ap (λ (x : Spaces). volume_of x vol) kept in
      kept-with_volume (option_map (with_open is_open) (volume_of s vol)) vol (swapped (volume_of s vol) ∙ ap (option_map (with_open is_open)) same)
    where
      swapped : (o : Option VolumeSpace) → option_map as_kept (option_map (with_open is_open) o) ≡ option_map (with_open is_open) (option_map as_kept o)
      swapped None = refl
      swapped (Some v) = refl
