-- What was kept stays if a fileset begins, and the change can be taken back.
use Rattle.std.proofs.Common.{◌≡◌, ◌∙◌, ◌⊎◌, ◌<◌, ◌∷◌, ℕ, zero, suc, List, [], Option, Some, None, IfSome, length, slice_get, slice_set, take, refl, sym, ap, subst, arith, ⊎_elim}
use Rattle.std.proofs.Math.Logic.{∥∥₁_map}
use Rattle.std.proofs.lemmas.Bool.{cases_eq}
use Rattle.domain_memory.specs.free_cells.Cells.{is_closed, kept_of}
use Rattle.domain_memory.specs.free_space.Spaces.{kept_spaces, volume_of}
use Rattle.domain_memory.specs.tag_dirs.declared.dir.TagPlace.{TagPlace}
use Rattle.domain_memory.specs.fileset_files.declared.bitfiles.Bitfiles.{Bitfiles}
use Rattle.domain_memory.specs.fileset_table.Table.{IsTable}
use Rattle.domain_memory.specs.fileset_table.declared.slot.FilesetEntry.{FilesetEntry}
use Rattle.domain_memory.specs.fileset_table.declared.slot.SlotItem.TheVariants as slot
use Rattle.domain_memory.specs.quota_book.Book.{empty_book}
use Rattle.domain_memory.specs.staged_pages.Store.{before_of}
use Rattle.domain_memory.specs.domain_standing.Domain.{item_in}
use Rattle.domain_memory.specs.Slots.{CanGoBack, HasNumber, kept_book, kept_places, slot_in}
use Rattle.domain_memory.specs.declared.slots.SlotFiles.{SlotFiles}
use Rattle.domain_memory.specs.Kept.{KeepsKept}
use Rattle.domain_memory.specs.Memory.{kept_in, with_was}
use Rattle.domain_memory.specs.Staged.{MayGoBack}
use Rattle.domain_memory.specs.declared.memory.DomainMemory.{DomainMemory}
use Rattle.domain_memory.specs.declared.memory.ReplacedSlot.{ReplacedSlot}
use Rattle.domain_changes.proofs.SlotsSet.{length_set, slot_other, slot_set}

free_or_original : (entry : FilesetEntry) → Some slot.Free ≡ Some (slot.Original entry) → ⊥
free_or_original entry e = cc

only_one : (place : TagPlace) (j : ℕ) (p : TagPlace) → slice_get (place ∷ []) j ≡ Some p → j ≡ 0
only_one place zero p there = refl
only_one place (suc j) p there = absurd (none_there there)
  where
    none_there : slice_get [] j ≡ Some p → ⊥
    none_there e = absurd (cc)

take_no : (places : List TagPlace) → take 0 places ≡ []
take_no [] = refl
take_no (p ∷ ps) = refl

-- a free slot that has no tag directory gets one of one page, which it had not when it was kept
module _ (number : ℕ) (files : Bitfiles) (place : TagPlace) (of_slot : files.fileset ≡ number) (tags : files.tags ≡ place ∷ []) (old root last : DomainMemory) (fresh : old.was ≡ None) (free_slot : slice_get old.table.slots number ≡ Some slot.Free)
    (none : kept_places (slot_in old.slots.items number) ≡ []) (within : number < length old.slots.items) (old_slots : root.slots.items ≡ old.slots.items)
    (slots : last.slots.items ≡ slice_set root.slots.items number (Some (record { files = files; book = record { book = empty_book; kept = empty_book }; tag_pages = 0 })))
    (same : last ≡ record root { slots = last.slots }) (kept : KeepsKept old root)
  where
    abbrev its : SlotFiles
    its = record { files = files; book = record { book = empty_book; kept = empty_book }; tag_pages = 0 }

    slot_is : slot_in last.slots.items number ≡ Some its
    slot_is = ap (λ s. slot_in s number) slots ∙ slot_set root.slots.items number (Some its) (subst (λ s. number < length s) (sym old_slots) within)

    slot_was : (n : ℕ) → ¬ n ≡ number → slot_in last.slots.items n ≡ slot_in old.slots.items n
    slot_was n differ = ap (λ s. slot_in s n) slots ∙ slot_other root.slots.items number n (Some its) differ ∙ ap (λ s. slot_in s n) old_slots

    not_original : (n : ℕ) (entry : FilesetEntry) → item_in (kept_in old) n ≡ Some (slot.Original entry) → ¬ n ≡ number
    not_original n entry there is =
        free_or_original entry (sym free_slot ∙ ap (λ (w : Option ReplacedSlot). slice_get (with_was w old.table).slots number) (sym fresh) ∙ ap (item_in (kept_in old)) (sym is) ∙ there)

    pub last_kept : KeepsKept old last
    last_kept = record {
      frame = ap (λ (m : DomainMemory). m.frame) same ∙ kept.frame;
      table = ap (λ (m : DomainMemory). with_was m.was m.table) same ∙ kept.table;
      places = λ n. ⊎_elim
          (λ is. ap (λ (k : ℕ). kept_places (slot_in last.slots.items k)) is ∙ ap kept_places slot_is ∙ take_no files.tags ∙ sym none ∙ ap (λ (k : ℕ). kept_places (slot_in old.slots.items k)) (sym is))
          (λ differ. ap kept_places (slot_was n differ))
          (cases_eq n number);
      books = λ n entry there. ap kept_book (slot_was n (not_original n entry there));
      pages = ap (λ (m : DomainMemory). before_of m.pages) same ∙ kept.pages;
      spaces = λ vol. ap (λ (m : DomainMemory). volume_of (kept_spaces m.space) vol) same ∙ kept.spaces vol;
      cells = λ vol. ap (λ (m : DomainMemory). kept_of m.cells vol) same ∙ kept.cells vol;
      marks = λ vol. ap (λ (m : DomainMemory). is_closed m.cells vol) same ∙ kept.marks vol;
      list = ap (λ (m : DomainMemory). m.list.list) same ∙ kept.list;
    }

    its_can : CanGoBack its
    its_can = record {
      few = omega arith;
      once = λ j k p q at_j at_k is.
          only_one place j p (sym (ap (λ (l : List TagPlace). slice_get l j) tags) ∙ at_j) ∙ sym (only_one place k q (sym (ap (λ (l : List TagPlace). slice_get l k) tags) ∙ at_k));
    }

    pub last_back : ∥ MayGoBack old ∥₁ → ∥ MayGoBack last ∥₁
    last_back may = ∥∥₁_map may (λ m. record {
      has = record {
        count = ap length slots ∙ length_set root.slots.items number (Some its) ∙ ap length old_slots ∙ m.has.count;
        numbered = λ n. ⊎_elim
            (λ is. subst (λ (k : ℕ). IfSome (slot_in last.slots.items k) (HasNumber k)) (sym is) (subst (λ o. IfSome o (HasNumber number)) (sym slot_is) of_slot))
            (λ differ. subst (λ o. IfSome o (HasNumber n)) (sym (slot_was n differ)) (m.has.numbered n))
            (cases_eq n number);
      };
      table = subst IsTable (sym last_kept.table) m.table;
      slots = λ n. ⊎_elim
          (λ is. subst (λ (k : ℕ). IfSome (slot_in last.slots.items k) CanGoBack) (sym is) (subst (λ o. IfSome o CanGoBack) (sym slot_is) its_can))
          (λ differ. subst (λ o. IfSome o CanGoBack) (sym (slot_was n differ)) (m.slots n))
          (cases_eq n number);
    })
