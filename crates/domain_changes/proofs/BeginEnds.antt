-- What is known at the ends of the steps by which a fileset begins.
use Rattle.std.proofs.Common.{◌≡◌, ◌∙◌, ◌<◌, ◌∷◌, ℕ, List, [], Some, None, length, slice_get, slice_set, ap}
use Rattle.domain_memory.specs.domain_base.declared.place.Home.{Home}
use Rattle.domain_memory.specs.fileset_files.declared.bitfiles.Bitfiles.{Bitfiles}
use Rattle.domain_memory.specs.fileset_table.declared.slot.SlotItem.TheVariants as slot
use Rattle.domain_memory.specs.quota_book.Book.{empty_book}
use Rattle.domain_memory.proofs.KeptStands.{kept_joined}
use Rattle.domain_memory.specs.Kept.{KeepsKept}
use Rattle.domain_memory.specs.Staged.{IsStagedForSome, MayGoBack}
use Rattle.domain_memory.specs.declared.memory.DomainMemory.{DomainMemory}
use Rattle.domain_changes.specs.Beginning.{BeginsTags, new_entry}
use Rattle.domain_changes.specs.Table.{PutsSlot}
use Rattle.domain_changes.proofs.KeptBegun.{last_back, last_kept}
use Rattle.domain_changes.proofs.KeptParts.{asks_no_places, asks_slot, back_kept}
use Rattle.domain_changes.proofs.SlotPut.{kept_put}

module _ (number : ℕ) (name : List ℕ) (home : Home) (files : Bitfiles) (old mid new root : DomainMemory) (fresh : old.was ≡ None) (begun : BeginsTags number home files old mid) (begun_kept : KeepsKept old mid)
    (puts : PutsSlot number (slot.Original (new_entry name home)) mid new) (root_kept : KeepsKept new root) (same_root : root ≡ record new { pages = root.pages; space = root.space; cells = root.cells })
  where
    mid_fresh : mid.was ≡ None
    mid_fresh = ap (λ (m : DomainMemory). m.was) begun.same ∙ fresh

    pub kept_then : KeepsKept old root
    kept_then = kept_joined old new root (kept_joined old mid new begun_kept (kept_put number (slot.Original (new_entry name home)) mid new mid_fresh puts)) root_kept

    pub slots_then : root.slots.items ≡ old.slots.items
    slots_then = ap (λ (m : DomainMemory). m.slots.items) same_root ∙ ap (λ (m : DomainMemory). m.slots.items) puts.same ∙ ap (λ (m : DomainMemory). m.slots.items) begun.same

    module _ (back : ∥ MayGoBack old ∥₁) where
      pub back_then : ∥ MayGoBack root ∥₁
      back_then = back_kept old root slots_then kept_then back

      module _ (low : number < 32) where
        pub within_then : number < length root.slots.items
        within_then = asks_slot root number back_then low

        pub within_old : number < length old.slots.items
        within_old = asks_slot old number back low

        module _ (files_now : Bitfiles) (same_files : files_now ≡ files) (last : DomainMemory) (free_slot : slice_get old.table.slots number ≡ Some slot.Free) (staged : ∥ IsStagedForSome old ∥₁)
            (slots : last.slots.items ≡ slice_set root.slots.items number (Some (record { files = files_now; book = record { book = empty_book; kept = empty_book }; tag_pages = 0 }))) (same_last : last ≡ record root { slots = last.slots })
          where
            of_slot : files_now.fileset ≡ number
            of_slot = ap (λ (f : Bitfiles). f.fileset) same_files ∙ begun.of_slot

            tags : files_now.tags ≡ record { index = 0; home = home } ∷ []
            tags = ap (λ (f : Bitfiles). f.tags) same_files ∙ begun.tags

            pub kept_last : KeepsKept old last
            kept_last = last_kept number files_now (record { index = 0; home = home }) of_slot tags old root last fresh free_slot (asks_no_places old number staged free_slot) within_old slots_then slots same_last kept_then

            pub back_last : ∥ MayGoBack last ∥₁
            back_last = last_back number files_now (record { index = 0; home = home }) of_slot tags old root last fresh free_slot (asks_no_places old number staged free_slot) within_old slots_then slots same_last kept_then back
