-- Where no rule is broken: an original has a root.
use Rattle.std.proofs.Common.{◌≡◌, ◌∙◌, inl, inr, ℕ, zero, suc, ◌+◌, ◌/◌, ◌%◌, ◌<◌, Bool, true, false, cond, nat_eq, nat_le, List, [], ◌∷◌, length, Option, Some, None, IfSome, IsSome, IsSomeAnd, slice_get, refl, sym, ap, subst, arith}
use Rattle.std.proofs.lemmas.Bool.{eq-eqb}
use Rattle.std.specs.Option.{option_and_then, option_map}
use Rattle.filesets_reading.specs.domain_base.declared.place.CellAt.{CellAt}
use Rattle.filesets_reading.specs.domain_base.declared.place.Home.{Home}
use Rattle.filesets_reading.specs.domain_base.declared.place.Tag.{Tag}
use Rattle.filesets_reading.specs.page_store.Bitfiles.{Bitfile}
use Rattle.filesets_reading.specs.page_store.Pages.{Pages}
use Rattle.filesets_reading.specs.metadata_cells.Cell.{Cell}
use Rattle.filesets_reading.specs.metadata_cells.Chain.{PlacedCell, StandsAt}
use Rattle.filesets_reading.specs.tag_dirs.declared.dir.TagPlace.{TagPlace}
use Rattle.filesets_reading.specs.tag_dirs.Directory.{IsDirectory, IsDirectoryAt, IsPageOf, cell_for, cell_of, home_behind, home_with}
use Rattle.filesets_reading.specs.tag_dirs.TagPage.{entry_of as entry_in, next_of, slot_of}
use Rattle.filesets_reading.proofs.OfTagDirs.Slots.{found}
use Rattle.filesets_reading.specs.file_chains.Files.{IsFile}
use Rattle.filesets_reading.specs.fileset_files.Files.{LeadsToFile, attributes_of, is_removed, of_live}
use Rattle.filesets_reading.specs.fileset_files.Shown.{ShowsAt}
use Rattle.filesets_reading.specs.fileset_table.declared.slot.FilesetEntry.{FilesetEntry}
use Rattle.filesets_reading.specs.fileset_table.declared.slot.SlotItem.TheVariants as slot
use Rattle.filesets_reading.specs.name_space.Names.{root_tag}
use Rattle.filesets_reading.proofs.OfDomainLayout.NoTables.{none_of_tables}
use Rattle.filesets_reading.specs.domain_layout.CellRules.{IsUsed, say_removed}
use Rattle.filesets_reading.specs.domain_layout.Layout.{Layout, first_tag_of}
use Rattle.filesets_reading.specs.domain_layout.Owners.{frame_of}
use Rattle.filesets_reading.specs.domain_layout.Reached.{Frame, Reaches, begins, goes_on, on_volume, tags_way}
use Rattle.filesets_reading.specs.domain_layout.Seen.{IsOwnUnless, SeenFile}
use Rattle.filesets_reading.specs.domain_layout.Shape.{FilesetShape, IsOriginal}
use Rattle.filesets_reading.specs.domain_layout.TagRules.{HasEntry, HasTags}
use Rattle.filesets_reading.proofs.OfDomainLayout.Named.{first_there}
use Rattle.filesets_reading.proofs.OfDomainLayout.OnePage.{HasOne, one_of, some_same}
use Rattle.filesets_reading.proofs.OfDomainLayout.OwnedOnce.{no_tags}
use Rattle.filesets_reading.specs.Seen.{IsSeenThere}
use Rattle.filesets_reading.proofs.Ways.{pushed}
use Rattle.fileset_shapes.specs.Clones.{ReadsOwn}
use Rattle.fileset_shapes.proofs.OwnFiles.{own_removed}
use Rattle.fileset_shapes.specs.Files.{IsWhole}
use Rattle.fileset_shapes.proofs.OriginalFiles.{none_some}

-- ---- the page with an index

none_with : (places : List TagPlace) (index : ℕ) → home_with places index ≡ None → (k : ℕ) (p : TagPlace) → slice_get places k ≡ Some p → ¬ p.index ≡ index
none_with [] index none k p at same = none_some p at
none_with (x ∷ xs) index none k p at same = by_place (none_with xs index) k at
  where
    by_test : (b : Bool) → cond b (Some x.home) (home_with xs index) ≡ None → (b ≡ true → ⊥) × (home_with xs index ≡ None)
    by_test true some = none_some x.home (sym some)
    by_test false none = ((λ is. let e : false ≡ true = is in absurd (cc)), none)

    tests : (nat_eq x.index index ≡ true → ⊥) × (home_with xs index ≡ None)
    tests = by_test (nat_eq x.index index) none

    by_place : (home_with xs index ≡ None → (k : ℕ) (p : TagPlace) → slice_get xs k ≡ Some p → ¬ p.index ≡ index) → (k : ℕ) → slice_get (x ∷ xs) k ≡ Some p → ⊥
    by_place later zero at = tests.0 (eq-eqb x.index index (ap (λ (q : TagPlace). q.index) (some_same x p at) ∙ same))
    by_place later (suc k) at = later tests.1 k p at same

home_here : (pages : Pages) (places : List TagPlace) → IsDirectory pages places → (k : ℕ) (p : TagPlace) → slice_get places k ≡ Some p → home_with places p.index ≡ Some p.home
home_here pages places directory k p at = by_home (home_with places p.index) refl
  where
    by_home : (o : Option Home) → home_with places p.index ≡ o → o ≡ Some p.home
    by_home None none = absurd (none_with places p.index none k p at refl)
    by_home (Some home) is =
        let f = found places p.index home is in
        let number : f.k ≡ k = directory.apart f.k k f.p p f.there at f.indexed in
        let same : f.p ≡ p = some_same f.p p (sym f.there ∙ ap (slice_get places) number ∙ at) in
        ap (λ h. Some h) (sym f.stands ∙ ap (λ (q : TagPlace). q.home) same)

-- ---- entries that are read

on_it : (o : Option Home) (onto : Home) → on_volume o ≡ Some onto → o ≡ Some onto
on_it None onto is = none_some onto is
on_it (Some home) onto is = by_test (nat_le home.vol 8) is
  where
    by_test : (b : Bool) → cond b (Some home) None ≡ Some onto → Some home ≡ Some onto
    by_test true is = is
    by_test false is = none_some onto is

-- a page of a directory that is come to
record PlaceOf (places : List TagPlace) (k : ℕ) (home : Home) : Type 0 where
  place : TagPlace
  there : slice_get places k ≡ Some place
  stands : place.home ≡ home

module _ (pages : Pages) (frame : Frame) (first : Home) (places : List TagPlace) (directory : IsDirectoryAt pages first places) where
  page_of : (k : ℕ) (p : TagPlace) → slice_get places k ≡ Some p → (page : List ℕ) → pages p.home ≡ Some page → IsPageOf p (home_behind places k) page
  page_of k p at page there =
      subst (λ o. IsSomeAnd o (IsPageOf p (home_behind places k))) there
      (subst (λ o. IfSome o (λ (q : TagPlace). IsSomeAnd (pages q.home) (IsPageOf q (home_behind places k)))) at (directory.directory.run k))

  next_place : (k : ℕ) (onto : Home) → home_behind places k ≡ Some onto → PlaceOf places (suc k) onto
  next_place k onto behind = by_place (slice_get places (suc k)) refl (ap (λ n. option_map (λ (q : TagPlace). q.home) (slice_get places n)) (step k) ∙ behind)
    where
      step : (k : ℕ) → suc k ≡ k + 1
      step k = omega arith

      by_place : (o : Option TagPlace) → slice_get places (suc k) ≡ o → option_map (λ (q : TagPlace). q.home) o ≡ Some onto → PlaceOf places (suc k) onto
      by_place None none is = none_some onto is
      by_place (Some p) at is = record { place = p; there = at; stands = some_same p.home onto is }

  first_place : PlaceOf places 0 first
  first_place = let one : HasOne (slice_get places 0) (λ (p : TagPlace). p.home ≡ first) = one_of (slice_get places 0) (λ (p : TagPlace). p.home ≡ first) directory.begins in record { place = one.value; there = one.there; stands = one.is }

  place_of : (passed : List Home) (home : Home) → Reaches pages frame (tags_way first) passed home → PlaceOf places (length passed) home
  place_of passed home reached = elim reached as (λ passed home reached. PlaceOf places (length passed) home) [
    | begins ↦ first_place
    | goes_on passed home onto page (before → earlier) may fresh there so leads ↦
        let of = page_of (length passed) earlier.place earlier.there page (ap pages earlier.stands ∙ there) in
        subst (λ n. PlaceOf places n onto) (sym (pushed passed home)) (next_place (length passed) onto (sym of.linked ∙ on_it (next_of page) onto leads))
  ]

  -- where an entry that is read leads, its tag leads
  pub entry_leads : (tag : Tag) (at : CellAt) (home : Home) (page : List ℕ) (passed : List Home) → Reaches pages frame (tags_way first) passed home → pages home ≡ Some page → (entry : ℕ) → entry < 1022
      → slot_of page entry ≡ tag.slot → entry_in page entry ≡ record { seq = tag.seq; at = Some at } → cell_of pages places tag ≡ Some at
  entry_leads tag at home page passed reached there entry within slot used =
      let p = place_of passed home reached in
      let of = page_of (length passed) p.place p.there page (ap pages p.stands ∙ there) in
      let index : tag.slot / 1022 ≡ p.place.index = omega (arith, slot, of.indexed, within) in
      let rest : tag.slot % 1022 ≡ entry = omega (arith, slot, within) in
      let on : home_with places (tag.slot / 1022) ≡ Some home = ap (home_with places) index ∙ home_here pages places directory.directory (length passed) p.place p.there ∙ ap (λ h. Some h) p.stands in
      ap (λ o. option_and_then (cell_for tag.seq) (option_map (λ bytes. entry_in bytes (tag.slot % 1022)) (option_and_then pages o))) on
      ∙ ap (λ o. option_and_then (cell_for tag.seq) (option_map (λ bytes. entry_in bytes (tag.slot % 1022)) o)) there
      ∙ ap (λ n. cell_for tag.seq (entry_in page n)) rest
      ∙ ap (cell_for tag.seq) used
      ∙ ap (λ b. cond b (Some at) None) (eq-eqb tag.seq tag.seq refl)

-- ---- the root

module _ (pages : Pages) (layout : Layout) (whole : IsWhole pages layout) (number : ℕ) (entry : FilesetEntry) (there : slice_get layout.table.slots number ≡ Some (slot.Original entry)) (shape : FilesetShape) (is : IsOriginal pages number entry shape) where
  has_tags : HasTags layout.table number entry.first_tag
  has_tags = record { item = slot.Original entry; there = there; has = refl }

  -- what an entry of the directory names
  named_by : (tag : Tag) (at : CellAt) (home : Home) → HasEntry pages (frame_of layout) layout.table number tag at home → cell_of pages is.has.places tag ≡ Some at
  named_by tag at home has =
      let item : has.is.has.item ≡ slot.Original entry = some_same has.is.has.item (slot.Original entry) (sym has.is.has.there ∙ there) in
      let first : has.is.first ≡ entry.first_tag = some_same has.is.first entry.first_tag (sym has.is.has.has ∙ ap first_tag_of item) in
      entry_leads pages (frame_of layout) entry.first_tag is.has.places is.has.directory tag at home has.page has.is.read.passed
      (subst (λ h. Reaches pages (frame_of layout) (tags_way h) has.is.read.passed home) first has.is.read.reached) has.is.read.there has.entry has.within has.slot has.used

  -- all entries of the root lead to cells that do not stay
  abbrev NoneStays : Type 0
  NoneStays = (at : CellAt) (other : Home) → HasEntry pages (frame_of layout) layout.table number root_tag at other → (cell : Cell) × IsUsed pages (frame_of layout) at cell × (say_removed cell.records ≡ true)

  no_root : NoneStays → ⊥
  no_root none = no_tags pages layout whole.laid (none_of_tables pages (frame_of layout) whole.no_fault) entry.first_tag (inr (inr (inr (inr (inl (record { number = number; item = slot.Original entry; there = there; original = refl; first = refl; none = none }))))))

  removed_by : (at : CellAt) (cells : List PlacedCell) → IsFile pages at cells → of_live attributes_of cells ≡ None → is_removed cells ≡ true
  removed_by at cells file none = by_removed (is_removed cells) reads.0 reads.1 reads.2
    where
      reads : ReadsOwn pages cells None
      reads = own_removed pages at cells file none

      by_removed : (b : Bool) (seen : Option SeenFile) → IsOwnUnless b pages cells seen → IsSeenThere seen None → b ≡ true
      by_removed true seen own sees = refl
      by_removed false None own sees = absurd own
      by_removed false (Some seen) own sees = absurd sees

  lost : shape.shown root_tag ≡ None → ⊥
  lost gone = by_cell (cell_of pages is.has.places root_tag) refl
    where
      of_cells : (at : CellAt) → cell_of pages is.has.places root_tag ≡ Some at → (cells : List PlacedCell) → IsFile pages at cells → option_and_then (of_live attributes_of) (Some cells) ≡ None → ⊥
      of_cells at leads [] file none = file
      of_cells at leads (first ∷ rest) file none =
          first_there pages layout whole.laid (none_of_tables pages (frame_of layout) whole.no_fault) number entry.first_tag has_tags is.has.places is.has.directory root_tag at leads
          (λ named. no_root (λ onto other has.
          let same : at ≡ onto = some_same at onto (sym leads ∙ named_by root_tag onto other has) in
          subst (λ a. (cell : Cell) × IsUsed pages (frame_of layout) a cell × (say_removed cell.records ≡ true)) same
          (first.cell, record { place = named.place; stands = subst (λ a. StandsAt pages a first.cell) file.0 file.1.links.stands }, removed_by at (first ∷ rest) file none)))

      by_chain : (at : CellAt) → cell_of pages is.has.places root_tag ≡ Some at → (o : Option (List PlacedCell)) → is.chains root_tag ≡ o → IfSome o (LeadsToFile number is.has.places pages root_tag) → ShowsAt pages o None → ⊥
      by_chain at leads None none so shows = none_some at (sym (is.has.files.none root_tag none) ∙ leads)
      by_chain at leads (Some cells) there so shows = of_cells at leads cells (subst (λ o. IsSomeAnd o (λ a. IsFile pages a cells)) leads so.leads) shows

      by_cell : (o : Option CellAt) → cell_of pages is.has.places root_tag ≡ o → ⊥
      by_cell None none = no_root (λ at other has. none_some at (sym none ∙ named_by root_tag at other has))
      by_cell (Some at) leads = by_chain at leads (is.chains root_tag) refl (is.has.files.some root_tag) (subst (ShowsAt pages (is.chains root_tag)) gone (is.shown root_tag))

  -- the root of an original is there
  pub root_shown : IsSome (shape.shown root_tag)
  root_shown = by_file (shape.shown root_tag) refl
    where
      by_file : (o : Option Bitfile) → shape.shown root_tag ≡ o → IsSome o
      by_file None gone = absurd (lost gone)
      by_file (Some file) shown = refl
