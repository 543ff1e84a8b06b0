-- A file that is truncated in a domain's memory, and what is refunded for it.
use Rattle.std.proofs.Common.{◌≡◌, ◌+◌, ◌≤◌, ℕ, Option, Some, IsSomeAnd, sym, subst}
use Rattle.std.proofs.Math.Logic.{∥∥₁_map}
use Rattle.name_commands.specs.domain_base.Limits.{file_bytes}
use Rattle.name_commands.specs.domain_base.declared.place.Kind.TheVariants as kind
use Rattle.name_commands.specs.domain_base.declared.place.Tag.{Tag}
use Rattle.name_commands.specs.fileset_files.declared.attributes.Attributes.{Attributes}
use Rattle.name_commands.specs.fileset_model.Apply.{truncated_node}
use Rattle.name_commands.specs.fileset_model.Filesets.{FilesetMap}
use Rattle.name_commands.specs.fileset_values.Orders.{Path}
use Rattle.name_commands.specs.fileset_model.Paths.{node_at}
use Rattle.name_commands.specs.fileset_model.Usage.{blocks_of}
use Rattle.name_commands.specs.fileset_values.declared.command.Command.TheVariants.{Truncate}
use Rattle.name_commands.specs.fileset_values.declared.command.Place.{Place}
use Rattle.name_commands.specs.fileset_model.declared.fileset.FilesetSlot.{FilesetSlot}
use Rattle.name_commands.specs.fileset_model.declared.node.Node.{Node}
use Rattle.name_commands.specs.fileset_values.declared.reply.Reply.TheVariants.{Done}
use Rattle.name_commands.specs.fileset_table.declared.slot.FilesetEntry.{FilesetEntry}
use Rattle.name_commands.specs.quota_book.Book.{Book, HasAll, Refunds, used}
use Rattle.name_commands.specs.domain_changes.Charging.{ChangesOneBook}
use Rattle.name_commands.specs.domain_standing.Standing.{HaveParents}
use Rattle.name_commands.proofs.OfDomainChanges.BooksFollow.{one_before}
use Rattle.name_commands.specs.domain_memory.Memory.{StandsFor}
use Rattle.name_commands.specs.domain_memory.Staged.{IsSettled, IsStaged, IsStagedForSome, staged_books, staged_in}
use Rattle.name_commands.specs.domain_memory.declared.memory.DomainMemory.{DomainMemory}
use Rattle.name_commands.proofs.OfDomainMemory.SettledKept.{settled_kept}
use Rattle.name_commands.specs.file_changes.Reading.{IsWhatIs}
use Rattle.name_commands.specs.file_changes.Stages.{HasFile, StandsChanged}
use Rattle.name_commands.specs.Coming.{IsAnswered}
use Rattle.name_commands.specs.Placing.{IsPlaced, IsPlacedForSome}
use Rattle.file_commands.proofs.Filed.{enough_used, its}
use Rattle.file_commands.proofs.FileAnswers.{HasIds, answers_cut, cut_ids, ids_there}
use Rattle.name_commands.proofs.PlacedThere.{file_of}

-- it is cut, so many blocks of it are gone, and books are as they were
pub record IsCut (old new : DomainMemory) (number : ℕ) (tag : Tag) (size gone : ℕ) : Type 0 where
  pub ok : (path : Path) (all : FilesetMap) (entry : FilesetEntry) (fileset : FilesetSlot) → HasFile old number tag path all entry fileset → StandsChanged path (truncated_node size) all entry fileset new
  pub less : (path : Path) (all : FilesetMap) (entry : FilesetEntry) (fileset : FilesetSlot) → HasFile old number tag path all entry fileset → IsSomeAnd (node_at fileset.tree path) (λ node. blocks_of node ≡ blocks_of (truncated_node size node) + gone)
  pub parents : (path : Path) (all : FilesetMap) (entry : FilesetEntry) (fileset : FilesetSlot) → HasFile old number tag path all entry fileset → HaveParents (staged_in old) → HaveParents (staged_in new)
  pub table : new.table ≡ old.table
  pub books : staged_books new ≡ staged_books old

module _ (memory mid : DomainMemory) (number : ℕ) (tag : Tag) (size gone : ℕ) (cut : IsCut memory mid number tag size gone) where
  pub stands_cut : ∥ IsPlacedForSome memory number tag kind.File ∥₁ → ∥ IsStagedForSome mid ∥₁
  stands_cut placed = ∥∥₁_map placed (λ s. (_, cut.ok s.place.path s.all s.placed.entry s.placed.fileset (file_of memory s.all s.place number tag kind.File s.placed)))

  module _ (what : Attributes) (told : (path : Path) (all : FilesetMap) (entry : FilesetEntry) (fileset : FilesetSlot) → HasFile memory number tag path all entry fileset → IsWhatIs path tag fileset.tree what) (settled : IsSettled memory) where
    module _ (all : FilesetMap) (place : Place) (p : IsPlaced memory all place number tag kind.File) where
      has : HasFile memory number tag place.path all p.entry p.fileset
      has = file_of memory all place number tag kind.File p

      abbrev node : Node
      node = (its memory all place number tag p).node

      there : node_at p.fileset.tree place.path ≡ Some node
      there = (its memory all place number tag p).there

      ids : HasIds node what.uid what.gid
      ids = ids_there (node_at p.fileset.tree place.path) node there what (told place.path all p.entry p.fileset has).node

      less_there : blocks_of node ≡ blocks_of (truncated_node size node) + gone
      less_there = subst (λ (o : Option Node). IsSomeAnd o (λ n. blocks_of n ≡ blocks_of (truncated_node size n) + gone)) there (cut.less place.path all p.entry p.fileset has)

    pub enough_cut : ∥ IsPlacedForSome memory number tag kind.File ∥₁ → ∥ HasAll what.uid what.gid 0 gone (used (staged_books mid number)) ∥₁
    enough_cut placed = ∥∥₁_map placed (λ s.
        let mine = ids s.all s.place s.placed in
        subst (λ (books : ℕ → Book). HasAll what.uid what.gid 0 gone (used (books number))) (sym cut.books)
        (enough_used memory s.all s.place number tag s.placed (truncated_node size) (cut_ids size) what.uid what.gid mine.user mine.group gone (less_there s.all s.place s.placed) (settled_kept memory s.all settled s.stands).books))

    pub ends_cut : (last : DomainMemory) → size ≤ file_bytes → ChangesOneBook number (Refunds what.uid what.gid 0 gone) mid last → staged_in last ≡ staged_in mid → ((every : FilesetMap) → IsStaged mid every → IsStaged last every)
        → (all : FilesetMap) (place : Place) → StandsFor memory all → IsPlaced memory all place number tag kind.File → IsAnswered last all (Truncate place size) Done
    ends_cut last fits one domain staged all place stands p =
        let was = settled_kept memory all settled stands in
        answers_cut memory all place number tag p was last (subst HaveParents (sym domain) (cut.parents place.path all p.entry p.fileset (has all place p) was.parents)) size fits
        (staged _ (cut.ok place.path all p.entry p.fileset (has all place p))) what.uid what.gid gone (ids all place p) (less_there all place p)
        (one_before number (Refunds what.uid what.gid 0 gone) memory mid last cut.table cut.books one)
