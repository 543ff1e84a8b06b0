-- What an owner uses, told of an original.
use Rattle.std.proofs.Common.{◌≡◌, ◌∙◌, ℕ, Option, Some, None, IsSomeAnd, slice_get, unwrap_or, sym, ap, subst}
use Rattle.std.specs.FinMap as map
use Rattle.std.specs.Option.{option_map_or}
use Rattle.name_commands.specs.fileset_model.Apply.{answer_of, quota_of, refusal_of}
use Rattle.name_commands.specs.fileset_model.Fileset.{Fileset}
use Rattle.name_commands.specs.fileset_model.Filesets.{FilesetMap}
use Rattle.name_commands.specs.fileset_values.Orders.{Name, owner_cmp}
use Rattle.name_commands.specs.fileset_model.Usage.{limits_of}
use Rattle.name_commands.specs.fileset_values.declared.command.Command.TheVariants.{Showquota}
use Rattle.name_commands.specs.fileset_values.declared.command.Owner.{Owner}
use Rattle.name_commands.specs.fileset_model.declared.fileset.FilesetSlot.{FilesetSlot}
use Rattle.name_commands.specs.fileset_model.declared.fileset.Limits.{Limits}
use Rattle.name_commands.specs.fileset_model.declared.fileset.Usage.{Usage}
use Rattle.name_commands.specs.fileset_values.declared.reply.Reply.TheVariants.{Done, Quota}
use Rattle.name_commands.specs.quota_book.Book.{Book, limits_in, used}
use Rattle.name_commands.specs.quota_book.Sums.{IsBookOf}
use Rattle.name_commands.specs.domain_memory.Memory.{StandsFor}
use Rattle.name_commands.specs.domain_memory.Staged.{IsSettled, staged_books, staged_in}
use Rattle.name_commands.specs.domain_memory.declared.memory.DomainMemory.{DomainMemory}
use Rattle.name_commands.proofs.OfDomainMemory.SettledKept.{settled_kept}
use Rattle.file_commands.proofs.LimitsMeant.{allows_limits}
use Rattle.name_commands.proofs.Means.{there}
use Rattle.name_commands.proofs.Removal.{HasNamed}

-- what a book says of an owner
of_book : (book : Book) (tree : Fileset) (who : Owner) → IsBookOf book tree → Quota (used book who).files (limits_in book who).files (used book who).blocks (limits_in book who).blocks ≡ quota_of tree who
of_book book tree who is =
    let limits : limits_in book who ≡ limits_of tree who = ap (λ (m : map.FinMap owner_cmp Limits). unwrap_or (map.get m who) (record { files = 0; blocks = 0 })) is.limits in
    λ i. Quota (is.files who i) (limits i).files (is.blocks who i) (limits i).blocks

book_there : (book : Book) (o : Option FilesetSlot) (fileset : FilesetSlot) → o ≡ Some fileset → IsSomeAnd o (λ f. IsBookOf book f.tree) → IsBookOf book fileset.tree
book_there book o fileset is holds = subst (λ (x : Option FilesetSlot). IsSomeAnd x (λ f. IsBookOf book f.tree)) is holds

pub quota_told : (memory : DomainMemory) (number : ℕ) (name : Name) (h : HasNamed (slice_get memory.table.slots number) name) → IsSettled memory → (who : Owner) (usage : Usage) (limits : Limits)
    → usage ≡ used (staged_books memory number) who → limits ≡ limits_in (staged_books memory number) who → (all : FilesetMap) → StandsFor memory all
    → (refusal_of all (Showquota name who) ≡ None) × (Quota usage.files limits.files usage.blocks limits.blocks ≡ answer_of all (Showquota name who))
quota_told memory number name h settled who usage limits is bound all stands =
    let kept = settled_kept memory all settled stands in
    let fileset = there (staged_in memory) all kept.staged.stands.slots number h.entry h.has in
    let of = book_there (staged_books memory number) (map.get all h.entry.name) fileset.0 fileset.1 (kept.books number h.entry h.has) in (
      allows_limits memory number name who 0 0 h settled all stands,
      (λ i. Quota (is i).files (bound i).files (is i).blocks (bound i).blocks)
          ∙ of_book (staged_books memory number) fileset.0.tree who of
          ∙ sym (ap (λ (o : Option FilesetSlot). option_map_or (λ (s : FilesetSlot). quota_of s.tree who) o Done) fileset.1)
          ∙ ap (λ (n : Name). answer_of all (Showquota n who)) h.named,
    )
