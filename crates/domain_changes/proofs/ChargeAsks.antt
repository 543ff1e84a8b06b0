-- What charges and refunds ask of a domain's memory, and what stays where slots have what they had.
use Rattle.std.proofs.Common.{◌≡◌, ◌∙◌, ℕ, true, false, [], ◌∷◌, Option, Some, None, IsSome, slice_get, refl, sym, ap, subst, arith, true≢false, ⊎_elim}
use Rattle.std.proofs.Math.Logic.{∥∥₁_elim}
use Rattle.std.proofs.lemmas.Bool.{cases_lt}
use Rattle.std.specs.FinMap.{get}
use Rattle.domain_memory.specs.fileset_model.Filesets.{FilesetMap}
use Rattle.domain_memory.specs.fileset_model.Paths.{first_refusal}
use Rattle.domain_memory.specs.fileset_model.Usage.{quota_refusal}
use Rattle.domain_memory.specs.fileset_values.declared.command.Owner.{Owner}
use Rattle.domain_memory.specs.fileset_values.declared.command.Owner.TheVariants as owner
use Rattle.domain_memory.specs.fileset_model.declared.fileset.FilesetSlot.{FilesetSlot}
use Rattle.domain_memory.specs.fileset_model.declared.fileset.Usage.{Usage}
use Rattle.domain_memory.specs.fileset_values.declared.reply.Refusal.{Refusal}
use Rattle.domain_memory.specs.fileset_table.declared.slot.FilesetEntry.{FilesetEntry}
use Rattle.domain_memory.specs.fileset_table.declared.slot.SlotItem.{SlotItem}
use Rattle.domain_memory.specs.fileset_table.declared.slot.SlotItem.TheVariants as slot
use Rattle.domain_memory.specs.quota_book.Book.{HasAll, IsWithin, refusal_in}
use Rattle.domain_memory.proofs.OfQuotaBook.Sums.{asked_same}
use Rattle.domain_memory.specs.domain_layout.CellRules.{of_original}
use Rattle.domain_memory.specs.domain_standing.Standing.{AreBooksOf}
use Rattle.domain_memory.specs.Slots.{book_in, places_in, slot_in}
use Rattle.domain_memory.specs.declared.slots.SlotFiles.{SlotFiles}
use Rattle.domain_memory.specs.Staged.{IsStagedForSome, staged_books, staged_in}
use Rattle.domain_memory.specs.declared.memory.DomainMemory.{DomainMemory}
use Rattle.domain_changes.proofs.BooksFollow.{own_book}
use Rattle.domain_changes.proofs.LimitsAsks.{its_original, slot_there}

never : {A : Type 0} → ∥ A ∥₁ → (A → ⊥) → ⊥
never t none = ∥∥₁_elim t (λ x y. absurd x) none

original_there : (o : Option SlotItem) → of_original o ≡ true → (entry : FilesetEntry) × (o ≡ Some (slot.Original entry))
original_there None is = absurd (true≢false (sym is))
original_there (Some item) is = its_original (Some item) is

-- an original has something in memory
pub slot_known : (memory : DomainMemory) (number : ℕ) → ∥ IsStagedForSome memory ∥₁ → of_original (slice_get memory.table.slots number) ≡ true → IsSome (slot_in memory.slots.items number)
slot_known memory number staged original = by_slot (slot_in memory.slots.items number) refl
  where
    by_slot : (o : Option SlotFiles) → slot_in memory.slots.items number ≡ o → IsSome o
    by_slot (Some held) is = refl
    by_slot None none = absurd (never staged (λ s.
        let its = original_there (slice_get memory.table.slots number) original in
        true≢false (sym (subst IsSome none (slot_there memory number its.0 its.1 s.0 s.1)))))

-- what is known of uses is so
module _ (uid gid files blocks : ℕ) (uses : Owner → Usage) (enough : ∥ HasAll uid gid files blocks uses ∥₁) where
  within_known : (part usage : Usage) → (HasAll uid gid files blocks uses → IsWithin part usage) → IsWithin part usage
  within_known part usage is = (
    ⊎_elim (λ less. absurd (never enough (λ h. let w = is h in omega (arith, w.0, less)))) (λ fits. fits) (cases_lt usage.files part.files),
    ⊎_elim (λ less. absurd (never enough (λ h. let w = is h in omega (arith, w.1, less)))) (λ fits. fits) (cases_lt usage.blocks part.blocks),
  )

  pub all_known : HasAll uid gid files blocks uses
  all_known = record {
    user = within_known _ _ (λ h. h.user);
    group = within_known _ _ (λ h. h.group);
    all = within_known _ _ (λ h. h.all);
  }

-- ---- what limits refuse

pub asked_so : (memory : DomainMemory) (number uid gid files blocks : ℕ) (result : Option Refusal)
    → result ≡ first_refusal (refusal_in (staged_books memory number) (owner.User uid) files blocks ∷ refusal_in (staged_books memory number) (owner.Group gid) files blocks ∷ refusal_in (staged_books memory number) owner.Fileset files blocks ∷ [])
    → (all : FilesetMap) (entry : FilesetEntry) (fileset : FilesetSlot) → slice_get memory.table.slots number ≡ Some (slot.Original entry) → get all entry.name ≡ Some fileset → AreBooksOf (staged_books memory) (staged_in memory) all → result ≡ quota_refusal fileset.tree uid gid files blocks
asked_so memory number uid gid files blocks result is all entry fileset has there are =
    is ∙ sym (asked_same (staged_books memory number) fileset.tree uid gid files blocks (own_book number entry memory all fileset has there are))

-- ---- slots that each have what they had

module _ (old new : DomainMemory) (slots : new.slots.items ≡ old.slots.items) (same : new ≡ record old { slots = new.slots }) where
  pub same_books : staged_books new ≡ staged_books old
  same_books = λ i n. book_in (slot_in (slots i) n)

  pub same_domain : staged_in new ≡ staged_in old
  same_domain = ap staged_in same ∙ (λ i. record (staged_in old) { tags = λ n. places_in (slot_in (slots i) n) })
