-- Where a domain stands, each original has its shape, its fileset and its set; and its root is there.
use Rattle.std.proofs.Common.{◌≡◌, ◌∙◌, ℕ, Bool, true, false, not, is_some, List, [], Option, Some, None, IfSome, refl, sym, ap, subst, arith}
use Rattle.std.proofs.lemmas.Bool.{true≢false}
use Rattle.std.specs.FinMap.{get}
use Rattle.domain_memory.specs.domain_base.declared.place.CellAt.{CellAt}
use Rattle.domain_memory.specs.domain_base.declared.place.Kind.TheVariants.{Directory}
use Rattle.domain_memory.specs.page_store.Bitfiles.{Bitfile}
use Rattle.domain_memory.specs.metadata_cells.Chain.{PlacedCell}
use Rattle.domain_memory.specs.tag_dirs.Directory.{cell_of}
use Rattle.domain_memory.specs.file_chains.Files.{IsFile}
use Rattle.domain_memory.specs.fileset_files.Files.{LeadsToFile}
use Rattle.domain_memory.specs.fileset_files.Shown.{ShowsAt}
use Rattle.domain_memory.specs.fileset_model.Filesets.{FilesetMap}
use Rattle.domain_memory.specs.fileset_model.Paths.{is_out_of_sync}
use Rattle.domain_memory.specs.fileset_model.declared.fileset.FilesetSlot.{FilesetSlot}
use Rattle.domain_memory.specs.fileset_model.declared.fileset.Role.TheVariants.{Original}
use Rattle.domain_memory.specs.fileset_table.declared.slot.FilesetEntry.{FilesetEntry}
use Rattle.domain_memory.specs.fileset_table.declared.slot.SlotItem.{SlotItem}
use Rattle.domain_memory.specs.fileset_table.declared.slot.SlotItem.TheVariants as slot
use Rattle.domain_memory.specs.name_space.Names.{number_of, root_tag}
use Rattle.domain_memory.specs.stored_set.Sets.{StandsAsSet}
use Rattle.domain_memory.specs.domain_layout.CellRules.{of_original}
use Rattle.domain_memory.specs.domain_layout.Filled.{Fills, FillsThere, IsRole}
use Rattle.domain_memory.specs.domain_layout.Shape.{FilesetShape, IsOriginal}
use Rattle.domain_memory.proofs.OfDomainLayout.OnePage.{HasOne, one_of}
use Rattle.domain_memory.specs.domain_standing.Domain.{DomainNow, item_in}
use Rattle.domain_memory.specs.domain_standing.Slots.{StandSlots}

module _ (d : DomainNow) (all : FilesetMap) (slots : StandSlots d all) where
  -- the original in a slot: its shape, its fileset and its set
  pub record IsOriginalSlot (number : ℕ) (entry : FilesetEntry) : Type 0 where
    pub shape : FilesetShape
    pub is : IsOriginal d.pages number entry shape
    pub fileset : FilesetSlot
    pub fills : Fills d.contents shape fileset
    pub set : StandsAsSet number (d.tags number) d.space d.cells d.pages shape.shown

  pub original_of : (number : ℕ) (entry : FilesetEntry) → item_in d number ≡ Some (slot.Original entry) → IsOriginalSlot number entry
  original_of number entry there =
      let one : HasOne (slots.shapes entry.name) (IsOriginal d.pages number entry) = one_of (slots.shapes entry.name) (IsOriginal d.pages number entry) (slots.are.each number (slot.Original entry) there) in
      let filled : HasOne (get all entry.name) (Fills d.contents one.value) =
      one_of (get all entry.name) (Fills d.contents one.value) (subst (λ o. FillsThere d.contents o (get all entry.name)) one.there (slots.filled entry.name)) in
      record { shape = one.value; is = one.is; fileset = filled.value; fills = filled.is; set = slots.sets number entry one.value there one.there }

  module _ (number : ℕ) (entry : FilesetEntry) (o : IsOriginalSlot number entry) where
    pub is_role : o.fileset.role ≡ Original
    is_role = subst (λ (name : Option (List ℕ)). IsRole name o.fileset.role) o.is.none o.fills.role

    pub root_shown : is_some (o.shape.shown root_tag) ≡ true
    root_shown = not_false (is_some (o.shape.shown root_tag)) (sym (o.fills.names.shown [] root_tag Directory (λ count less. absurd (omega (arith, less))) refl).out ∙ ap (λ role. is_out_of_sync role (number_of root_tag)) is_role)
      where
        not_false : (b : Bool) → not b ≡ false → b ≡ true
        not_false true is = refl
        not_false false is = absurd (true≢false is)

    -- what the root's tag leads to
    pub root_there : (at : CellAt) × (cell_of d.pages (d.tags number) root_tag ≡ Some at)
    root_there = by_chain (o.set.chains root_tag) refl (o.shape.shown root_tag) root_shown (o.set.stands.shows root_tag)
      where
        leads : (cells : List PlacedCell) → o.set.chains root_tag ≡ Some cells → (at : CellAt) × (cell_of d.pages (d.tags number) root_tag ≡ Some at)
        leads cells some =
            let is : LeadsToFile number (d.tags number) d.pages root_tag cells = subst (λ o. IfSome o (LeadsToFile number (d.tags number) d.pages root_tag)) some (o.set.stands.together.files.some root_tag) in
            let one = one_of (cell_of d.pages (d.tags number) root_tag) (λ at. IsFile d.pages at cells) is.leads in
            (one.value, one.there)

        by_chain : (c : Option (List PlacedCell)) → o.set.chains root_tag ≡ c → (f : Option Bitfile) → is_some f ≡ true → ShowsAt d.pages c f → (at : CellAt) × (cell_of d.pages (d.tags number) root_tag ≡ Some at)
        by_chain c some None there shows = absurd (true≢false (sym there))
        by_chain None some (Some file) there shows = absurd shows
        by_chain (Some cells) some (Some file) there shows = leads cells some

  -- an original's root leads to a cell
  pub root_leads : (number : ℕ) (item : SlotItem) → item_in d number ≡ Some item → of_original (Some item) ≡ true → (at : CellAt) × (cell_of d.pages (d.tags number) root_tag ≡ Some at)
  root_leads number slot.Free there original = absurd (true≢false (sym original))
  root_leads number (slot.Original entry) there original = root_there number entry (original_of number entry there)
  root_leads number (slot.Clone of clone entry) there original = absurd (true≢false (sym original))
  root_leads number (slot.Removed first quota) there original = absurd (true≢false (sym original))
