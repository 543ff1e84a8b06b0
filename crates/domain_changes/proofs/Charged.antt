-- What stays of a domain's memory if a book has changed, or memory was short.
use Rattle.std.proofs.Common.{◌≡◌, ◌<◌, ℕ, IsSome, Result, Ok, Err, OnErr, OnOk, length}
use Rattle.domain_memory.specs.fileset_model.Filesets.{FilesetMap}
use Rattle.domain_memory.specs.quota_book.Book.{Book}
use Rattle.domain_memory.specs.Slots.{slot_in}
use Rattle.domain_memory.specs.Kept.{KeepsKept}
use Rattle.domain_memory.specs.Staged.{IsStaged, MayGoBack, staged_books, staged_in}
use Rattle.domain_memory.specs.declared.memory.DomainMemory.{DomainMemory}
use Rattle.domain_changes.specs.Charging.{ChangesInBook, ChangesOneBook}
use Rattle.domain_changes.proofs.BookChanged.{book_back, book_kept, one_book, slots_kept, staged_same, staged_still}
use Rattle.domain_changes.proofs.ChargeAsks.{same_books, same_domain}
use Rattle.domain_changes.proofs.KeptParts.{back_kept}

module _ {A E : Type 0} (r : Result A E) (number : ℕ) (change : Book → Book → Type 0) (old new : DomainMemory) (within : number < length old.slots.items) (ok : OnOk r (ChangesInBook number change old new)) (err : OnErr r (new.slots.items ≡ old.slots.items)) (same : new ≡ record old { slots = new.slots }) where
  on_both : {X : Type 0} → (ChangesInBook number change old new → X) → (new.slots.items ≡ old.slots.items → X) → X
  on_both {X} one none = by_end r ok err
    where
      by_end : (end : Result A E) → OnOk end (ChangesInBook number change old new) → OnErr end (new.slots.items ≡ old.slots.items) → X
      by_end (Ok value) is not = one is
      by_end (Err fault) is not = none not

  pub ends_one : IsSome (slot_in old.slots.items number) → OnOk r (ChangesOneBook number change old new)
  ends_one some = by_end r ok
    where
      by_end : (end : Result A E) → OnOk end (ChangesInBook number change old new) → OnOk end (ChangesOneBook number change old new)
      by_end (Ok value) is = one_book number change old new within is some
      by_end (Err fault) is = tt

  pub ends_books : OnErr r (staged_books new ≡ staged_books old)
  ends_books = by_end r err
    where
      by_end : (end : Result A E) → OnErr end (new.slots.items ≡ old.slots.items) → OnErr end (staged_books new ≡ staged_books old)
      by_end (Ok value) not = tt
      by_end (Err fault) not = same_books old new not same

  pub ends_domain : staged_in new ≡ staged_in old
  ends_domain = on_both (staged_same number change old new within) (λ slots. same_domain old new slots same)

  pub ends_staged : (all : FilesetMap) → IsStaged old all → IsStaged new all
  ends_staged = staged_still old new ends_domain same

  pub ends_kept : KeepsKept old new
  ends_kept = on_both (book_kept number change old new within) (λ slots. slots_kept old new slots same)

  pub ends_back : ∥ MayGoBack old ∥₁ → ∥ MayGoBack new ∥₁
  ends_back = on_both (book_back number change old new within) (λ slots. back_kept old new slots (slots_kept old new slots same))
