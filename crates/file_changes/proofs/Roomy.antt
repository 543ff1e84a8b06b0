-- Memory whose list has more room than it had.
use Rattle.std.proofs.Common.{◌≡◌, ◌≤◌, ℕ, sym, ap, subst, arith}
use Rattle.domain_memory.specs.domain_base.declared.place.Tag.{Tag}
use Rattle.domain_memory.specs.release_list.Listing.{Listing}
use Rattle.domain_memory.specs.free_space.Spaces.{kept_spaces}
use Rattle.domain_memory.specs.fileset_model.Filesets.{FilesetMap}
use Rattle.domain_memory.specs.fileset_values.Orders.{Path}
use Rattle.domain_memory.specs.fileset_model.declared.fileset.FilesetSlot.{FilesetSlot}
use Rattle.domain_memory.specs.fileset_table.declared.slot.FilesetEntry.{FilesetEntry}
use Rattle.domain_memory.specs.domain_standing.Domain.{DomainNow}
use Rattle.domain_memory.specs.domain_standing.Sources.{StandAlone}
use Rattle.domain_memory.specs.domain_standing.Standing.{HaveParents, IsMarkedBut, StandsDomain}
use Rattle.domain_memory.specs.standing_laws.Sound.{IsSound}
use Rattle.domain_memory.specs.Listing.{HaveOnce, list_with}
use Rattle.domain_memory.specs.Staged.{IsStaged, staged_in}
use Rattle.domain_memory.specs.declared.memory.DomainMemory.{DomainMemory}
use Rattle.file_changes.specs.Stages.{HasFile}

module _ (memory now : DomainMemory) (list : now.list.list ≡ memory.list.list) (more : memory.list.room ≤ now.list.room) where
  abbrev pub roomy : DomainMemory
  roomy = record memory { list = now.list }

  same_staged : staged_in memory ≡ staged_in roomy
  same_staged = ap (λ (l : Listing). record (staged_in memory) { list = list_with memory.listed.items l }) (sym list)

  roomy_staged : (all : FilesetMap) → IsStaged memory all → IsStaged roomy all
  roomy_staged all is = record {
    stands = subst (λ (d : DomainNow). StandsDomain d all) same_staged is.stands;
    alone = subst StandAlone same_staged is.alone;
    sound = subst IsSound same_staged is.sound;
    marked = subst (λ (d : DomainNow). IsMarkedBut (record d { space = kept_spaces memory.space })) same_staged is.marked;
    once = subst (λ (l : Listing). HaveOnce l.entries) (sym list) is.once;
    room = omega (arith, is.room, more);
  }

  pub roomy_has : (number : ℕ) (tag : Tag) (path : Path) (all : FilesetMap) (entry : FilesetEntry) (fileset : FilesetSlot) → HasFile memory number tag path all entry fileset → HasFile roomy number tag path all entry fileset
  roomy_has number tag path all entry fileset has = record {
    staged = roomy_staged all has.staged;
    original = has.original;
    there = has.there;
    at = has.at;
  }

  pub roomy_parents : HaveParents (staged_in memory) → HaveParents (staged_in roomy)
  roomy_parents = subst HaveParents same_staged
