-- What the steps ask by which a fileset begins.
use Rattle.std.proofs.Common.{◌≡◌, ◌∙◌, ◌<◌, ℕ, Bool, true, false, List, Option, Some, None, IsSome, IsSomeAnd, count_by, slice_get, refl, sym, ap, subst}
use Rattle.std.specs.List.{list_any}
use Rattle.domain_memory.specs.domain_base.declared.place.Home.{Home}
use Rattle.domain_memory.specs.page_store.Pages.{same_home}
use Rattle.domain_memory.proofs.OfMetadataCells.Changed.{homes_same, same_itself}
use Rattle.domain_memory.specs.tag_dirs.TagPage.{IsNewPage}
use Rattle.domain_memory.specs.tag_dirs.declared.dir.TagPlace.{TagPlace}
use Rattle.domain_memory.specs.fileset_files.Together.{AreTogether, HasTogether}
use Rattle.domain_memory.specs.fileset_files.declared.bitfiles.Bitfiles.{Bitfiles}
use Rattle.domain_memory.specs.fileset_table.Table.{IsTable, has_name, is_fileset, with_slot}
use Rattle.domain_memory.specs.fileset_table.declared.slot.FilesetEntry.{FilesetEntry}
use Rattle.domain_memory.specs.fileset_table.declared.slot.SlotItem.TheVariants as slot
use Rattle.domain_memory.proofs.OfFilesetTable.Joining.{original_joins}
use Rattle.domain_memory.specs.word_forms.Forms.{is_fileset_name}
use Rattle.domain_memory.specs.staged_pages.Store.{pages_of}
use Rattle.domain_memory.specs.standing_laws.NewFileset.{no_chains}
use Rattle.domain_memory.specs.Staged.{IsStagedForSome}
use Rattle.domain_memory.specs.declared.memory.DomainMemory.{DomainMemory}
use Rattle.domain_changes.specs.Beginning.{BeginsTags, new_entry}
use Rattle.domain_changes.specs.Table.{HasTablePage, PutsSlot}
use Rattle.domain_changes.proofs.TableJoined.{asks_table, asks_together}
use Rattle.domain_changes.proofs.SlotPut.{asks_page}

some_there : (P : List ℕ → Type 0) (o : Option (List ℕ)) → IsSomeAnd o P → IsSome o
some_there P None is = absurd is
some_there P (Some page) is = refl

module _ (number : ℕ) (name : List ℕ) (home : Home) (files : Bitfiles) (old mid : DomainMemory) (staged : ∥ IsStagedForSome old ∥₁) (begun : BeginsTags number home files old mid) where
  -- the page of the table is there still
  page_still : (h : Home) → IsSome (pages_of old.pages h) → IsSome (pages_of mid.pages h)
  page_still h was = by_test (same_home h home) refl
    where
      by_test : (b : Bool) → same_home h home ≡ b → IsSome (pages_of mid.pages h)
      by_test true is = subst (λ (x : Home). IsSome (pages_of mid.pages x)) (sym (homes_same h home is)) (some_there (IsNewPage 0) (pages_of mid.pages home) begun.fresh)
      by_test false is = subst IsSome (sym (begun.others h (λ same. not_itself (sym is ∙ ap (λ (x : Home). same_home x home) same ∙ same_itself home)))) was
        where
          not_itself : false ≡ true → ⊥
          not_itself e = cc

  pub mid_has_page : HasTablePage mid
  mid_has_page = by_home mid.frame.anchor.table (ap (λ (m : DomainMemory). m.frame.anchor.table) begun.same)
    where
      by_old : (o p : Option Home) → o ≡ p → IsSomeAnd p (λ h. IsSome (pages_of old.pages h)) → IsSomeAnd o (λ h. IsSome (pages_of mid.pages h))
      by_old o None is has = absurd has
      by_old o (Some h) is has = subst (λ (x : Option Home). IsSomeAnd x (λ y. IsSome (pages_of mid.pages y))) (sym is) (page_still h has)

      by_home : (o : Option Home) → o ≡ old.frame.anchor.table → IsSomeAnd o (λ h. IsSome (pages_of mid.pages h))
      by_home o is = by_old o old.frame.anchor.table is (asks_page old staged)

  pub mid_joins : slice_get old.table.slots number ≡ Some slot.Free → is_fileset_name name ≡ true → list_any (has_name name) old.table.slots ≡ false → count_by is_fileset old.table.slots < 16 → (entry : FilesetEntry) → entry ≡ new_entry name home
      → IsTable (with_slot number (slot.Original entry) mid.table)
  mid_joins free named unused few entry is =
      subst (λ (e : FilesetEntry). IsTable (with_slot number (slot.Original e) mid.table)) (sym is)
      (subst (λ (m : DomainMemory). IsTable (with_slot number (slot.Original (new_entry name home)) m.table)) (sym begun.same)
      (original_joins old.table number (asks_table old staged) free few (new_entry name home) unused (named, tt)))

  module _ (new : DomainMemory) (free : slice_get old.table.slots number ≡ Some slot.Free) (puts : PutsSlot number (slot.Original (new_entry name home)) mid new) where
    pub new_together : HasTogether files.fileset files.tags new.space new.cells (pages_of new.pages)
    new_together = (
      no_chains,
      subst (λ (n : ℕ). AreTogether n files.tags new.space new.cells (pages_of new.pages) no_chains) (sym begun.of_slot)
          (subst (λ (ps : List TagPlace). AreTogether number ps new.space new.cells (pages_of new.pages) no_chains) (sym begun.tags) (asks_together number name home files old mid new free begun puts staged)),
    )
