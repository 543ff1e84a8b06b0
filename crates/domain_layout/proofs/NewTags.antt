-- The table of a domain that was just made: it has no fileset, so that no rule of tags and slots is broken, and none of directories and indexes.
use Rattle.std.proofs.Common.{◌≡◌, ◌∙◌, ℕ, zero, suc, true, false, List, [], ◌∷◌, Some, None, slice_get, sym, ap, subst, ⊎_elim}
use Rattle.std.specs.List.{AllByRecursion}
use Rattle.file_release.specs.domain_base.declared.place.CellAt.{CellAt}
use Rattle.file_release.specs.domain_base.declared.place.Home.{Home}
use Rattle.file_release.specs.domain_base.declared.place.Tag.{Tag}
use Rattle.file_release.specs.page_store.Pages.{Pages}
use Rattle.file_release.specs.metadata_cells.declared.head.CellKind.TheVariants.{Primary, Quota, Volume}
use Rattle.file_release.specs.metadata_cells.Chain.{PlacedCell}
use Rattle.fileset_table.specs.Table.{IsNewTable, Table, entry_of}
use Rattle.fileset_table.specs.declared.slot.FilesetEntry.{FilesetEntry}
use Rattle.fileset_table.specs.declared.slot.SlotItem.{SlotItem}
use Rattle.fileset_table.specs.declared.slot.SlotItem.TheVariants.{Free}
use Rattle.domain_layout.specs.CellRules.{of_original}
use Rattle.domain_layout.specs.DirectoryRules.{Has, IsInItem, IsDirectoryFault}
use Rattle.domain_layout.specs.Layout.{first_tag_of}
use Rattle.domain_layout.specs.Reached.{Frame}
use Rattle.domain_layout.specs.Seen.{SeenFile}
use Rattle.domain_layout.specs.TagRules.{HasTags, HasWrongNumber, IsNamingFault, IsTagsFault, IsWrongSlot}
use Rattle.domain_layout.specs.NewDomain.{IsNewAnchor, IsNewCells, firsts, on_first}
use Rattle.domain_layout.proofs.NewCells.{kind_is, link_is, used_is}
use Rattle.domain_layout.proofs.OnePage.{some_same}

-- each item of such a list is free
item_free : (slots : List SlotItem) → AllByRecursion (λ item. item ≡ Free) slots → (number : ℕ) (item : SlotItem) → slice_get slots number ≡ Some item → item ≡ Free
item_free [] free number item there = let e : None ≡ Some item = there in absurd (cc)
item_free (x ∷ xs) free zero item there = some_same item x (sym there) ∙ free.0
item_free (x ∷ xs) free (suc n) item there = item_free xs free.1 n item there

module _ (table : Table) (fresh : IsNewTable table) where
  pub all_free : (number : ℕ) (item : SlotItem) → slice_get table.slots number ≡ Some item → item ≡ Free
  all_free = item_free table.slots fresh.free

  no_tags : (number : ℕ) (first : Home) → ¬ HasTags table number first
  no_tags number first has =
      let none : None ≡ Some first = sym (ap first_tag_of (all_free number has.item has.there)) ∙ has.has in
      absurd (cc)

  no_original : (number : ℕ) (item : SlotItem) → slice_get table.slots number ≡ Some item → ¬ of_original (Some item) ≡ true
  no_original number item there original =
      let e : false ≡ true = sym (ap (λ i. of_original (Some i)) (all_free number item there)) ∙ original in
      absurd (cc)

  no_entry : (number : ℕ) (item : SlotItem) (entry : FilesetEntry) → slice_get table.slots number ≡ Some item
      → ¬ entry_of item ≡ Some entry
  no_entry number item entry there is =
      let none : None ≡ Some entry = sym (ap entry_of (all_free number item there)) ∙ is in
      absurd (cc)

  no_wrong_slot : (pages : Pages) (frame : Frame) → ¬ IsWrongSlot pages frame table
  no_wrong_slot pages frame wrong =
      ⊎_elim (λ number. subst (HasWrongNumber table) (all_free wrong.number wrong.item wrong.there) number)
      (λ quota. no_entry wrong.number wrong.item quota.entry wrong.there quota.is) wrong.wrong

  pub has_none : (pages : Pages) (number : ℕ) (tag : Tag) (cells : List PlacedCell) (seen : SeenFile) → ¬ Has pages table number tag cells seen
  has_none pages number tag cells seen has =
      subst (λ i. IsInItem pages table i tag cells seen) (all_free number has.item has.there) has.is

  module _ (pages : Pages) (frame : Frame) (anchor : IsNewAnchor frame) (page : List ℕ) (there : pages (on_first (firsts frame).cells) ≡ Some page) (is : IsNewCells frame page) where
    no_naming_fault : (at : CellAt) → ¬ IsNamingFault pages frame table at
    no_naming_fault at fault =
        ⊎_elim (λ w. let the = kind_is pages frame anchor page there is at w.bytes Primary w.place w.there w.kind in let e : Primary ≡ Volume = the.volume in absurd (cc))
        (λ a. ⊎_elim (λ w.
        let used = used_is pages frame anchor page there is at w.cell w.is in
        let e : Volume ≡ Primary = sym (ap (λ c. c.head.kind) used ∙ is.says.kind) ∙ w.kind in
        absurd (cc))
        (λ b. ⊎_elim (λ w. no_tags w.number w.named.is.first w.named.is.has)
        (λ w. let the = link_is pages frame anchor page there is at w.link w.is in let e : Volume ≡ Quota = sym the.volume ∙ w.kind in absurd (cc)) b) a)
        fault

    pub no_tags_fault : (home : Home) → ¬ IsTagsFault pages frame table home
    no_tags_fault home fault =
        ⊎_elim (λ w. no_tags w.number w.first w.has)
        (λ a. ⊎_elim (λ w. no_tags w.earlier w.in_earlier.first w.in_earlier.has)
        (λ b. ⊎_elim (λ w. no_tags w.number w.is.first w.is.has)
        (λ c. ⊎_elim (λ w. no_tags w.number w.has.is.first w.has.is.has)
        (λ d. ⊎_elim (λ w. no_original w.number w.item w.there w.original)
        (λ e. ⊎_elim (λ w. no_naming_fault w.0 w.2) (λ w. no_wrong_slot pages frame w.1) e) d) c) b) a)
        fault

    -- no directory and no index is there
    pub no_directory_fault : (home : Home) → ¬ IsDirectoryFault pages frame table home
    no_directory_fault home fault =
        ⊎_elim (λ w. let dir = w.4 in has_none pages w.0 w.1 dir.cells dir.seen dir.has)
        (λ a. ⊎_elim (λ w. let dir = w.is_early.is in has_none pages w.number w.early.dir dir.cells dir.seen dir.has)
        (λ b. ⊎_elim (λ w. let dir = w.is.is in has_none pages w.number w.at.dir dir.cells dir.seen dir.has)
        (λ c. ⊎_elim (λ w. let dir = w.is.is in has_none pages w.number w.at.dir dir.cells dir.seen dir.has)
        (λ w. has_none pages w.number w.tag w.cells w.seen w.has) c) b) a)
        fault
