-- Free space that was just kept.
use Rattle.std.proofs.Common.{◌≡◌, ℕ, zero, suc, ◌-◌, List, [], ◌∷◌, Option, Some, None, map, slice_index_or, refl, sym, subst}
use Rattle.std.specs.Option.{option_map}
use Rattle.standing_laws.specs.page_store.Pages.{Pages}
use Rattle.standing_laws.specs.domain_layout.Reached.{Frame}
use Rattle.standing_laws.specs.free_space.Spaces.{Spaces, change_volumes, kept_spaces, volume_of}
use Rattle.standing_laws.specs.free_space.VolumeSpace.{VolumeSpace, as_kept, keeping}
use Rattle.standing_laws.specs.domain_standing.Marks.{IsMarked, IsMarkedAt}

kept_once : (o : Option VolumeSpace) → option_map as_kept (option_map keeping o) ≡ option_map keeping o
kept_once None = refl
kept_once (Some v) = refl

all_once : (volumes : List (Option VolumeSpace)) → map (option_map as_kept) (map (option_map keeping) volumes) ≡ map (option_map keeping) volumes
all_once [] = refl
all_once (v ∷ vs) = λ i. kept_once v i ∷ all_once vs i

-- what was just kept is what is there
pub kept_is : (space : Spaces) → kept_spaces (change_volumes keeping space) ≡ change_volumes keeping space
kept_is space = λ i. record { volumes = all_once space.volumes i; misses = space.misses }

index_kept : (volumes : List (Option VolumeSpace)) (k : ℕ) → slice_index_or (map (option_map keeping) volumes) k None ≡ option_map keeping (slice_index_or volumes k None)
index_kept [] k = refl
index_kept (v ∷ vs) zero = refl
index_kept (v ∷ vs) (suc k) = index_kept vs k

marked_at : (pages : Pages) (frame : Frame) (vol : ℕ) (o : Option VolumeSpace) → IsMarkedAt pages frame vol o → IsMarkedAt pages frame vol (option_map keeping o)
marked_at pages frame vol None is = is
marked_at pages frame vol (Some v) is = (is.0, record { count = is.1.count; opened = is.1.opened; used = is.1.used; settled = is.1.settled })

-- and it is as the bits say it, if it was so before
pub marked_kept : (pages : Pages) (frame : Frame) (space : Spaces) → IsMarked pages frame space → IsMarked pages frame (change_volumes keeping space)
marked_kept pages frame space marked vol first =
    subst (IsMarkedAt pages frame vol) (sym (index_kept space.volumes (vol - 1))) (marked_at pages frame vol (volume_of space vol) (marked vol first))
