-- What a domain is once an owner's limits are set in its pages, but for the fileset's book.
use Rattle.std.proofs.Common.{◌≡◌, ℕ}
use Rattle.std.specs.FinMap.{insert}
use Rattle.domain_memory.specs.fileset_model.Filesets.{FilesetMap}
use Rattle.domain_memory.specs.fileset_model.Usage.{with_limits}
use Rattle.domain_memory.specs.fileset_values.declared.command.Owner.{Owner}
use Rattle.domain_memory.specs.fileset_model.declared.fileset.FilesetSlot.{FilesetSlot}
use Rattle.domain_memory.specs.fileset_model.declared.fileset.Limits.{Limits}
use Rattle.domain_memory.specs.fileset_table.declared.slot.FilesetEntry.{FilesetEntry}
use Rattle.domain_memory.specs.quota_book.Book.{Book}
use Rattle.domain_memory.specs.domain_standing.Standing.{AreBooksOf, HaveParents}
use Rattle.domain_memory.specs.standing_laws.SetsQuota.{fileset_limited}
use Rattle.domain_memory.specs.Staged.{IsStaged, staged_books, staged_in}
use Rattle.domain_memory.specs.declared.memory.DomainMemory.{DomainMemory}

-- it stands for the fileset with the limits, directories say their parents, and books are those of
-- filesets once the slot's has the limits
pub record IsLimited (number : ℕ) (who : Owner) (limits : Limits) (entry : FilesetEntry) (all : FilesetMap) (fileset : FilesetSlot) (old new : DomainMemory) : Type 0 where
  pub staged : IsStaged new (insert all entry.name (fileset_limited who limits fileset))
  pub parents : HaveParents (staged_in old) → HaveParents (staged_in new)
  pub books : (books : ℕ → Book) → ((n : ℕ) → ¬ n ≡ number → books n ≡ staged_books old n) → books number ≡ record (staged_books old number) { limits = with_limits (staged_books old number).limits who limits }
      → AreBooksOf (staged_books old) (staged_in old) all → AreBooksOf books (staged_in new) (insert all entry.name (fileset_limited who limits fileset))
