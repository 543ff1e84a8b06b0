-- No more pages of a member are held than it has.
use Rattle.std.proofs.Common.{◌-◌, ◌≤◌, ℕ, zero, suc, IfSome, List, [], ◌∷◌, Option, Some, None, get_or, subst, arith, ⊎_elim}
use Rattle.std.proofs.lemmas.Bool.{cases_lt}
use Rattle.std.proofs.Math.Logic.{∥∥₁_elim}
use Rattle.file_commands.specs.domain_base.declared.place.CellAt.{CellAt}
use Rattle.file_commands.specs.domain_base.declared.place.Home.{Home}
use Rattle.file_commands.specs.fileset_model.Filesets.{FilesetMap}
use Rattle.file_commands.specs.free_space.Sound.{AreSound, AreSoundVolumes, IsSoundVolume}
use Rattle.file_commands.specs.free_space.Spaces.{Spaces, held_pages, volume_of}
use Rattle.file_commands.specs.free_space.VolumeSpace.{VolumeSpace}
use Rattle.file_commands.proofs.OfFreeSpace.Apart.{len_le}
use Rattle.file_commands.specs.release_list.Standing.{Files}
use Rattle.file_commands.specs.domain_memory.Memory.{StandsFor, kept_in}
use Rattle.file_commands.specs.domain_memory.Staged.{IsSettled}
use Rattle.file_commands.specs.domain_memory.declared.memory.DomainMemory.{DomainMemory}
use Rattle.file_commands.specs.domain_standing.Domain.{DomainNow}
use Rattle.file_commands.specs.domain_state.History.{StandsForSome}
use Rattle.file_commands.specs.domain_standing.Holders.{AreHeldAt}
use Rattle.file_commands.specs.log_ring.Homes.{member_of}

sound_at : (volumes : List (Option VolumeSpace)) → AreSoundVolumes volumes → (k : ℕ) → IfSome (get_or volumes k None) IsSoundVolume
sound_at [] sound k = tt
sound_at (o ∷ os) sound zero = sound.0
sound_at (o ∷ os) sound (suc k) = sound_at os sound.1 k

fits : (d : DomainNow) (files : Files) (indexes : CellAt → List Home) (vol : ℕ) (o : Option VolumeSpace) → AreHeldAt d files indexes vol o → IfSome o IsSoundVolume → held_pages o ≤ (member_of d.frame.anchor vol).pages
fits d files indexes vol None held sound = omega arith
fits d files indexes vol (Some v) held sound = let few = len_le v.pages v.used sound.within in omega (arith, few, held.1.count)

pub held_fits : (memory : DomainMemory) (all : FilesetMap) → IsSettled memory → StandsFor memory all → AreSound memory.space → (vol : ℕ) → 1 ≤ vol → held_pages (volume_of memory.space vol) ≤ (member_of memory.frame.anchor vol).pages
held_fits memory all settled stands sound vol first =
    let of = stands.stands in
    fits (kept_in memory) of.files of.indexes vol (volume_of memory.space vol)
    (subst (λ (space : Spaces). AreHeldAt (kept_in memory) of.files of.indexes vol (volume_of space vol)) settled.space (of.owned.spaces vol first))
    (sound_at memory.space.volumes sound (vol - 1))

-- whatever filesets it stands for
pub some_fits : (memory : DomainMemory) → IsSettled memory → ∥ StandsForSome memory ∥₁ → AreSound memory.space → (vol : ℕ) → 1 ≤ vol → held_pages (volume_of memory.space vol) ≤ (member_of memory.frame.anchor vol).pages
some_fits memory settled stands sound vol first = ⊎_elim
    (λ more. absurd (∥∥₁_elim stands (λ x y. absurd x) (λ some. let fewer = held_fits memory some.0 settled some.1 sound vol first in absurd (omega (arith, more, fewer)))))
    (λ fewer. fewer)
    (cases_lt (member_of memory.frame.anchor vol).pages (held_pages (volume_of memory.space vol)))
