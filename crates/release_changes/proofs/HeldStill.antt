-- What is held where what was kept of free space stays.
use Rattle.std.proofs.Common.{◌≡◌, ◌∙◌, ◌≤◌, ℕ, sym, ap, arith}
use Rattle.domain_changes.specs.free_space.Spaces.{Spaces, change_volumes, volume_of}
use Rattle.domain_changes.specs.free_space.VolumeSpace.{keeping}
use Rattle.domain_changes.specs.domain_standing.Domain.{DomainNow}
use Rattle.domain_changes.specs.domain_memory.Held.{held_open}
use Rattle.domain_changes.specs.domain_memory.Kept.{KeepsKept}
use Rattle.domain_changes.specs.domain_memory.Memory.{kept_in}
use Rattle.domain_changes.specs.domain_memory.Staged.{IsSettled}
use Rattle.domain_changes.specs.domain_memory.declared.memory.DomainMemory.{DomainMemory}
use Rattle.domain_changes.proofs.OfDomainMemory.Held.{held_keeping, held_same}

module _ (old new : DomainMemory) (settled : IsSettled old) where
  -- if no change is laid over either, as much is held
  pub still_held : KeepsKept old new → IsSettled new → held_open new.space ≤ held_open old.space
  still_held kept settled_now = held_same new.space old.space (λ vol.
      ap (λ (s : Spaces). volume_of s vol) (sym settled_now.space) ∙ kept.spaces vol ∙ ap (λ (s : Spaces). volume_of s vol) settled.space)

  -- nor where one was taken back
  pub back_held : (mid : DomainMemory) → KeepsKept old mid → kept_in new ≡ kept_in mid → IsSettled new → held_open new.space ≤ held_open old.space
  back_held mid kept back settled_now = held_same new.space old.space (λ vol.
      ap (λ (s : Spaces). volume_of s vol) (sym settled_now.space ∙ ap (λ (d : DomainNow). d.space) back) ∙ kept.spaces vol ∙ ap (λ (s : Spaces). volume_of s vol) settled.space)

-- what is kept is what is held
pub kept_held : (most : ℕ) (old new : DomainMemory) → new.space ≡ change_volumes keeping old.space → held_open old.space ≤ most → held_open new.space ≤ most
kept_held most old new keeps less =
    let same = ap held_open keeps ∙ held_keeping old.space in
    omega (arith, same, less)
