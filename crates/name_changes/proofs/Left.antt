-- What calls on names leave of memory as it is: the fileset table and all books.
use Rattle.std.proofs.Common.{◌≡◌, ◌∙◌, ℕ, sym, ap, subst, ⊎_elim}
use Rattle.std.proofs.lemmas.Bool.{cases_eq}
use Rattle.fileset_lending.specs.declared.parts.CallSettings.{CallSettings}
use Rattle.fileset_lending.specs.set_standing.Follow.{Said}
use Rattle.fileset_lending.specs.domain_memory.Slots.{book_in, slot_in}
use Rattle.fileset_lending.specs.domain_memory.Staged.{staged_books}
use Rattle.fileset_lending.specs.domain_memory.declared.memory.DomainMemory.{DomainMemory}
use Rattle.fileset_lending.specs.Chosen.{CallsChange, Lends}
use Rattle.fileset_lending.specs.declared.chosen.Chosen.{Chosen}
use Rattle.name_changes.specs.Room.{HandsBack}

module _ (memory : DomainMemory) (number : ℕ) (settings : CallSettings) (chosen : Chosen) (lends : Lends memory number settings chosen) {said : Said} (after : Chosen) (now : DomainMemory) (calls : CallsChange said chosen after) (hands : HandsBack after now) where
  pub table_left : now.table ≡ memory.table
  table_left = sym hands.lends.table ∙ ap (λ r. r.table) calls.rest ∙ lends.table

  its : after.rest.number ≡ number
  its = ap (λ r. r.number) calls.rest ∙ lends.same_number

  mine : staged_books now number ≡ staged_books memory number
  mine = subst (λ (n : ℕ). staged_books now n ≡ after.rest.book.book) its (ap book_in hands.lends.slot) ∙ ap (λ r. r.book.book) calls.rest ∙ sym (ap book_in lends.slot)

  other : (n : ℕ) → ¬ n ≡ number → staged_books now n ≡ staged_books memory n
  other n differ = ap book_in (sym (hands.lends.others n (λ same. differ (same ∙ its))) ∙ ap (λ r. slot_in r.slots.items n) calls.rest ∙ lends.others n differ)

  at : (n : ℕ) → staged_books now n ≡ staged_books memory n
  at n = ⊎_elim (λ same. subst (λ (k : ℕ). staged_books now k ≡ staged_books memory k) (sym same) mine) (other n) (cases_eq n number)

  pub books_left : staged_books now ≡ staged_books memory
  books_left = λ i n. at n i
