-- The domain with one fileset breaks no rule of files' pages, bitmaps, directories and indexes.
use Rattle.std.proofs.Common.{◌≡◌, ◌∙◌, ◌⊎◌, ◌↔◌, inl, inr, ℕ, zero, suc, ◌+◌, ◌*◌, ◌<◌, ◌≤◌, Bool, true, false, cond, List, [], ◌∷◌, Some, None, Contains, is_some, refl, sym, ap, subst, arith, ⊎_elim}
use Rattle.std.proofs.lemmas.Bool.{cases_order, or_cases}
use Rattle.std.specs.List.{AllByRecursion}
use Rattle.domain_making.specs.domain_base.declared.place.CellAt.{CellAt}
use Rattle.domain_making.specs.domain_base.declared.place.Home.{Home}
use Rattle.domain_making.specs.domain_base.declared.place.Kind.TheVariants.{Directory}
use Rattle.domain_making.specs.domain_base.declared.place.Tag.{Tag}
use Rattle.domain_making.specs.domain_base.declared.version.Version.TheVariants.{Three}
use Rattle.domain_making.specs.disk_label.FirstPages.{first_pages}
use Rattle.domain_making.specs.page_store.Bitfiles.{same_tag}
use Rattle.domain_making.specs.page_store.Pages.{Pages}
use Rattle.domain_making.specs.free_space.Bits.{is_set}
use Rattle.domain_making.specs.log_ring.Homes.{member_of}
use Rattle.domain_making.specs.cell_records.declared.record.Record.{Record}
use Rattle.domain_making.specs.metadata_cells.Cell.{Cell, record_of}
use Rattle.domain_making.specs.metadata_cells.Chain.{PlacedCell}
use Rattle.domain_making.proofs.OfMetadataCells.Changed.{homes_same}
use Rattle.domain_making.specs.tag_dirs.Directory.{has_home}
use Rattle.domain_making.specs.tag_dirs.declared.dir.TagPlace.{TagPlace}
use Rattle.domain_making.proofs.OfTagDirs.Reading.{same_directory}
use Rattle.domain_making.specs.extent_maps.declared.run.PagePlace.TheVariants.{Absent, At}
use Rattle.domain_making.specs.extent_records.Writing.{places_in}
use Rattle.domain_making.specs.fileset_files.Files.{first_record}
use Rattle.domain_making.specs.directory_pages.declared.row.Row.{Row}
use Rattle.domain_making.specs.fileset_table.declared.slot.SlotItem.TheVariants.{Original}
use Rattle.domain_making.specs.name_space.Names.{root_tag}
use Rattle.domain_making.specs.domain_layout.CellRules.{IsUsed}
use Rattle.domain_making.proofs.OfDomainLayout.There.{chain_is}
use Rattle.domain_making.specs.domain_layout.DirectoryRules.{Has, HasWrongParent, HasWrongSize, IsDirectoryFault, IsDirectoryPage, IsFileFault, IsInItem, IsInOriginal, IsIndexFault, IsRow, IsWrongFile, RowPlace}
use Rattle.domain_making.specs.domain_layout.Layout.{AreTagPlaces, IsLayout, Layout, first_tag_of}
use Rattle.domain_making.specs.domain_layout.Owners.{BelongsTo, HasExtent, HasTagPage, IsOnTable, IsOwned, Owner}
use Rattle.domain_making.specs.domain_layout.Owners.Owner.{of_cells, of_file, of_index, of_log, of_table, of_tags, of_volume}
use Rattle.domain_making.specs.domain_layout.PageRules.{IsBitmapFault, IsExtentFault}
use Rattle.domain_making.specs.domain_layout.Seen.{SeenFile, seen_in}
use Rattle.domain_making.specs.domain_layout.NewDomain.{on_first}
use Rattle.domain_making.proofs.OfDomainLayout.OnePage.{some_same}
use Rattle.domain_making.proofs.OfDomainLayout.OneTable.{cells_are, one_in, used_there}
use Rattle.domain_tests.specs.OneFileset.{bitmap_page, cells_page, tags_page}
use Rattle.domain_tests.specs.Written.{anchor_of, frame_of}
use Rattle.domain_tests.proofs.Bitmap.{bits_are, six_bits}
use Rattle.domain_tests.proofs.EmptyCells.{volume_cell}
use Rattle.domain_tests.proofs.OneCells.{first_index, good_page, no_next, root_cell}
use Rattle.domain_tests.proofs.OneChains.{chains_a, directory_at, has_chains, is_root, no_home, place_a, root_cells, root_is_seen, root_seen}
use Rattle.domain_tests.proofs.OneRules.{new_anchor, used_is}
use Rattle.domain_tests.proofs.OneTags.{entry_a, item_is, one_table}

all_in : (P : Record → Type 0) (rs : List Record) (value : Record) → AllByRecursion P rs → Contains rs value → P value
all_in P [] value all (k, within, is) = absurd (omega (arith, within))
all_in P (r ∷ rs) value all (zero, within, is) = subst P is all.0
all_in P (r ∷ rs) value all (suc k, within, is) = all_in P rs value all.1 (k, omega (arith, within), is)

-- the layout with this table
abbrev pub laid_out : (ℕ → List ℕ) → (ℕ → List TagPlace) → Layout
laid_out cells tags =
    record { anchor = anchor_of Three; version = Three; table = one_table; cells = cells; tags = tags }

module _ (pages : Pages) (cells_there : pages (on_first 3) ≡ Some cells_page) (tags_there : pages (on_first 133) ≡ Some tags_page) where
  -- ---- what the fileset has

  record IsTheRoot (number : ℕ) (tag : Tag) (cells : List PlacedCell) (seen : SeenFile) : Type 0 where
    zeroth : number ≡ 0
    root : same_tag tag root_tag ≡ true
    cells_are : cells ≡ root_cells
    seen_is : seen ≡ root_seen

  in_original : (tag : Tag) (cells : List PlacedCell) (seen : SeenFile) → IsInOriginal pages entry_a tag cells seen → IsTheRoot 0 tag cells seen
  in_original tag cells seen is = by_test (same_tag tag root_tag) refl
    where
      has : chains_a tag ≡ Some cells
      has = chain_is pages 0 entry_a chains_a (has_chains pages cells_there tags_there) tag cells is.there

      by_test : (b : Bool) → same_tag tag root_tag ≡ b → IsTheRoot 0 tag cells seen
      by_test true same =
          let cells_same : cells ≡ root_cells = some_same cells root_cells (sym has ∙ ap (λ b. cond b (Some root_cells) None) same) in
          record {
            zeroth = refl;
            root = same;
            cells_are = cells_same;
            seen_is = some_same seen root_seen (sym is.is ∙ ap seen_in cells_same ∙ root_is_seen);
          }
      by_test false other = absurd (let e : None ≡ Some cells = sym (ap (λ b. cond b (Some root_cells) None) other) ∙ has in absurd (cc))

  the_root : (number : ℕ) (tag : Tag) (cells : List PlacedCell) (seen : SeenFile) → Has pages one_table number tag cells seen → IsTheRoot number tag cells seen
  the_root number tag cells seen has =
      ⊎_elim (λ a. by_number number a.0 (subst (λ i. IsInItem pages one_table i tag cells seen) a.1 has.is))
      (λ free. absurd (subst (λ i. IsInItem pages one_table i tag cells seen) free has.is))
      (item_is number has.item has.there)
    where
      by_number : (n : ℕ) → n ≡ 0 → IsInOriginal pages entry_a tag cells seen → IsTheRoot n tag cells seen
      by_number zero same is = in_original tag cells seen is
      by_number (suc n) same is = absurd (omega (arith, same))

  no_page : (number : ℕ) (tag : Tag) (page : ℕ) (home : Home) (cells : List PlacedCell) (seen : SeenFile) → Has pages one_table number tag cells seen → ¬ seen.homes page ≡ Some home
  no_page number tag page home cells seen has at =
      let root = the_root number tag cells seen has in
      let e : None ≡ Some home = sym (ap (λ (s : SeenFile). s.homes page) root.seen_is ∙ no_home page) ∙ at in
      absurd (cc)

  no_directory_page : (number : ℕ) (dir : Tag) (page : ℕ) (home : Home) (bytes : List ℕ) → ¬ IsDirectoryPage pages (frame_of Three) one_table number dir page home bytes
  no_directory_page number dir page home bytes is = no_page number dir page home is.cells is.seen is.has is.at

  no_row : (number : ℕ) (at : RowPlace) (row : Row) (home : Home) → ¬ IsRow pages (frame_of Three) one_table number at row home
  no_row number at row home is = no_directory_page number at.dir at.page home is.bytes is.is

  -- ---- the rules of directories

  right_size : ¬ HasWrongSize root_cells root_seen
  right_size wrong =
      ⊎_elim (λ bad. bad (0, refl, (λ page. ((λ some. absurd (none_there page some)), (λ less. absurd (omega (arith, less)))))))
      (λ cut. let e : false ≡ true = cut.1 in absurd (cc)) wrong
    where
      none_there : (page : ℕ) → is_some (root_seen.homes page) ≡ true → ⊥
      none_there page some = let e : false ≡ true = sym (ap is_some (no_home page)) ∙ some in absurd (cc)

  right_parent : (tag : Tag) → ¬ HasWrongParent pages (frame_of Three) one_table 0 tag root_cells
  right_parent tag wrong =
      ⊎_elim (λ root. wrong.wrong (ap Some (sym root.1)))
      (λ row. no_row 0 row.0 row.1 row.2 row.3) wrong.is

  right_root : (tag : Tag) → same_tag tag root_tag ≡ true → ¬ IsWrongFile pages (frame_of Three) one_table 0 tag root_cells root_seen Directory
  right_root tag root wrong =
      ⊎_elim right_size
      (λ a. ⊎_elim (λ links. links refl)
      (λ b. ⊎_elim (right_parent tag) (λ misplaced. misplaced.0 (is_root tag root)) b) a)
      wrong

  no_file_fault : (home : Home) → ¬ IsFileFault pages (frame_of Three) one_table home
  no_file_fault home fault =
      let root = the_root fault.number fault.tag fault.cells fault.seen fault.has in
      let wrong : IsWrongFile pages (frame_of Three) one_table 0 fault.tag root_cells root_seen Directory =
      subst (λ s. IsWrongFile pages (frame_of Three) one_table 0 fault.tag root_cells s s.is.kind) root.seen_is
      (subst (λ c. IsWrongFile pages (frame_of Three) one_table 0 fault.tag c fault.seen fault.seen.is.kind) root.cells_are
      (subst (λ n. IsWrongFile pages (frame_of Three) one_table n fault.tag fault.cells fault.seen fault.seen.is.kind) root.zeroth fault.wrong)) in
      right_root fault.tag root.root wrong

  pub no_directory_fault : (home : Home) → ¬ IsDirectoryFault pages (frame_of Three) one_table home
  no_directory_fault home fault =
      ⊎_elim (λ w. no_directory_page w.0 w.1 w.2 home w.3 w.4)
      (λ a. ⊎_elim (λ w. no_row w.number w.early w.one w.first_home w.is_early)
      (λ b. ⊎_elim (λ w. no_row w.number w.at w.row home w.is)
      (λ c. ⊎_elim (λ w. no_row w.number w.at w.row home w.is) (no_file_fault home) c) b) a)
      fault

  -- ---- indexes

  no_index : (at : CellAt) (cell : Cell) (value : Record) → IsUsed pages (frame_of Three) at cell → ¬ record_of 9 cell.records ≡ Some value
  no_index at cell value used has =
      ⊎_elim (λ v. let e : None ≡ Some value = sym (ap (λ (c : Cell). record_of 9 c.records) v.1) ∙ has in absurd (cc))
      (λ p. let e : None ≡ Some value = sym (ap (λ (c : Cell). record_of 9 c.records) p.1) ∙ has in absurd (cc)) (used_is pages cells_there at cell used)

  pub no_index_fault : (home : Home) → ¬ IsIndexFault pages (frame_of Three) one_table home
  no_index_fault home fault =
      ⊎_elim (λ w. no_index w.at w.has.cell w.has.value w.has.is w.has.there)
      (λ w.
      let has = w.has in
      let root = the_root w.number w.dir has.cells w.seen has.has in
      let e : None ≡ Some has.value = sym (ap (first_record 9) root.cells_are) ∙ has.there in
      absurd (cc)) fault

  -- ---- which pages are owned

  module _ (cells : ℕ → List ℕ) (tags : ℕ → List TagPlace) (laid : IsLayout pages (laid_out cells tags)) where
    cells_list : cells 1 ≡ 3 ∷ []
    cells_list = cells_are pages (laid_out cells tags) new_anchor cells_page cells_there good_page first_index no_next (laid.cells 1 new_anchor.member)

    used_on : (at : CellAt) (cell : Cell) → IsOnTable pages (laid_out cells tags) at cell → IsUsed pages (frame_of Three) at cell
    used_on = used_there pages (laid_out cells tags) new_anchor cells_page cells_there good_page first_index no_next (laid.cells 1 new_anchor.member)

    tags_list : tags 0 ≡ place_a ∷ []
    tags_list =
        same_directory pages (record { vol = 1; page = 133 }) (tags 0) (place_a ∷ []) (laid.tags 0 (Original entry_a) refl) (directory_at pages cells_there tags_there)

    no_extent : (at : CellAt) (number : ℕ) (home : Home) → ¬ HasExtent pages (laid_out cells tags) at number home
    no_extent at number home has =
        let absent : places_in has.value number ≡ Absent =
        ⊎_elim (λ v. all_in (λ r. places_in r number ≡ Absent) volume_cell.records has.value (refl, tt) (subst (λ (c : Cell). Contains c.records has.value) v.1 has.among))
        (λ p. all_in (λ r. places_in r number ≡ Absent) root_cell.records has.value (refl, (refl, (refl, tt))) (subst (λ (c : Cell). Contains c.records has.value) p.1 has.among))
        (used_is pages cells_there at has.cell (used_on at has.cell has.on)) in
        let e : Absent ≡ At home = sym absent ∙ has.place in
        absurd (cc)

    of_tags_below : (number : ℕ) (home : Home) → HasTagPage (laid_out cells tags) number home → home ≡ on_first 133
    of_tags_below number home has =
        ⊎_elim (λ a.
        let there : has_home (place_a ∷ []) home ≡ true = sym (ap (λ places. has_home places home) (ap tags a.0 ∙ tags_list)) ∙ has.has in
        ⊎_elim (λ same. homes_same home (on_first 133) same) (λ none. absurd (let e : false ≡ true = none in absurd (cc))) (or_cases _ _ there))
        (λ free.
        let none : tags number ≡ [] = subst (λ i. AreTagPlaces pages (first_tag_of i) (tags number)) free (laid.tags number has.item has.there) in
        absurd (let e : false ≡ true = sym (ap (λ places. has_home places home) none) ∙ has.has in absurd (cc)))
        (item_is number has.item has.there)

    owned_below : (home : Home) (owner : Owner) → BelongsTo pages (laid_out cells tags) owner home → home.page ≤ 133
    owned_below home of_volume (member, less) =
        let below : home.page < 3 = subst (λ vol. home.page < (first_pages Three (member_of (anchor_of Three) vol).pages).cells) (new_anchor.alone home.vol member) less in
        omega (arith, below)
    owned_below home of_log log = omega (arith, log.2)
    owned_below home of_table table =
        let number : home.page ≡ 132 = ap (λ (h : Home). h.page) (some_same home (on_first 132) (sym table)) in
        omega (arith, number)
    owned_below home of_cells (member, among) =
        let table = ap cells (new_anchor.alone home.vol member) ∙ cells_list in
        let number : home.page ≡ 3 = one_in 3 home.page (subst (λ t. Contains t home.page) table among) in
        omega (arith, number)
    owned_below home (of_tags number) has =
        let number : home.page ≡ 133 = ap (λ (h : Home). h.page) (of_tags_below number home has) in
        omega (arith, number)
    owned_below home (of_index at number) has = absurd (no_index at has.cell has.value (used_on at has.cell has.on) has.there)
    owned_below home (of_file at number) has = absurd (no_extent at number home has)

    of_cells_page : (number : ℕ) → number ≡ 3 → BelongsTo pages (laid_out cells tags) of_cells (on_first number)
    of_cells_page number same = (new_anchor.member, subst (λ t. Contains t number) (sym cells_list) (0, omega arith, sym same))

    of_tags_page : (number : ℕ) → number ≡ 133 → BelongsTo pages (laid_out cells tags) (of_tags 0) (on_first number)
    of_tags_page number same = record {
      item = Original entry_a;
      there = refl;
      has = ap (λ places. has_home places (on_first number)) tags_list ∙ ap (λ p. has_home (place_a ∷ []) (on_first p)) same;
    }

    below_owned : (number : ℕ) → number ≤ 133 → IsOwned pages (laid_out cells tags) (on_first number)
    below_owned number small =
        ⊎_elim (λ same. (of_cells, of_cells_page number same))
        (λ other. ⊎_elim (λ less. (of_volume, (new_anchor.member, less)))
        (λ more. ⊎_elim (λ same. (of_table, ap (λ p. Some (on_first p)) (sym same)))
        (λ apart. ⊎_elim (λ less. (of_log, (refl, omega (arith, more), omega (arith, less))))
        (λ end. (of_tags 0, of_tags_page number (omega (arith, small, end)))) apart) (cases_order number 132)) other)
        (cases_order number 3)

    pub no_extent_fault : (home : Home) → ¬ IsExtentFault pages (laid_out cells tags) home
    no_extent_fault home fault = no_extent fault.0 fault.2.page fault.2.home fault.2.has

    pub no_bitmap_fault : pages (on_first 2) ≡ Some bitmap_page → (home : Home) → ¬ IsBitmapFault pages (laid_out cells tags) home
    no_bitmap_fault bitmap_there home fault = fault.wrong (to, from)
      where
        vol : home.vol ≡ 1
        vol = new_anchor.alone home.vol fault.member

        size_is : (member_of (anchor_of Three) home.vol).pages ≡ 512
        size_is = ap (λ v. (member_of (anchor_of Three) v).pages) vol

        zeroth : fault.number ≡ 0
        zeroth = omega (arith, fault.within)

        at : home ≡ on_first 2
        at = λ i. record { vol = vol i; page = (fault.at ∙ ap (λ n. 2 + n) zeroth) i }

        bytes_are : fault.bytes ≡ bitmap_page
        bytes_are = some_same fault.bytes bitmap_page (sym fault.there ∙ ap pages at ∙ bitmap_there)

        says : (is_set bitmap_page fault.bit ≡ true) ↔ ((fault.bit < 128 + 6) ⊎ (512 ≤ fault.bit))
        says = bits_are 63 6 six_bits (omega arith) fault.bit fault.some

        place : ℕ → Home
        place v = record { vol = v; page = 65536 * fault.number + fault.bit }

        past : ℕ → Type 0
        past n = n ≤ 65536 * fault.number + fault.bit

        to : is_set fault.bytes fault.bit ≡ true → IsOwned pages (laid_out cells tags) (place home.vol) ⊎ past (member_of (anchor_of Three) home.vol).pages
        to set =
            ⊎_elim (λ low. inl (subst (λ v. IsOwned pages (laid_out cells tags) (place v)) (sym vol) (below_owned (65536 * fault.number + fault.bit) (omega (arith, low, zeroth)))))
            (λ high. inr (subst past (sym size_is) (omega (arith, high, zeroth)))) (says.0 (sym (ap (λ b. is_set b fault.bit) bytes_are) ∙ set))

        from : IsOwned pages (laid_out cells tags) (place home.vol) ⊎ past (member_of (anchor_of Three) home.vol).pages → is_set fault.bytes fault.bit ≡ true
        from either =
            ap (λ b. is_set b fault.bit) bytes_are
            ∙ says.1 (⊎_elim (λ owned. let low = owned_below (place home.vol) owned.0 owned.1 in inl (omega (arith, low, zeroth)))
            (λ high. let far : 512 ≤ 65536 * fault.number + fault.bit = subst past size_is high in inr (omega (arith, far, zeroth))) either)
