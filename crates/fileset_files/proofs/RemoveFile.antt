-- A tag's file is said to be removed, and the tag is taken out of use.
use Rattle.std.proofs.Common.{◌≡◌, ◌∙◌, ℕ, ◌+◌, ◌&&◌, Bool, true, false, cond, nat_eq, nat_le, nat_lt, List, [], ◌∷◌, slice_get, Option, Some, None, IfSome, IsSome, IsSomeAnd, refl, sym, ap, subst, arith, ⊎_elim}
use Rattle.std.proofs.lemmas.Bool.{cases_Bool, and_left, eqb-true, false_from_ne_true, or_cases, true≢false}
use Rattle.std.specs.List.{AllByRecursion}
use Rattle.std.specs.Option.{option_and_then, option_map}
use Rattle.file_chains.specs.domain_base.declared.place.CellAt.{CellAt}
use Rattle.file_chains.specs.domain_base.declared.place.Home.{Home}
use Rattle.file_chains.specs.domain_base.declared.place.Tag.{Tag}
use Rattle.file_chains.specs.page_store.Pages.{Pages, same_home}
use Rattle.file_chains.specs.cell_records.declared.record.Record.{Record}
use Rattle.file_chains.specs.cell_records.declared.record.Record.TheVariants.{Pending}
use Rattle.file_chains.specs.cell_records.declared.record.Leftover.TheVariants.{Remove}
use Rattle.file_chains.specs.cell_records.Fields.{number_at}
use Rattle.file_chains.specs.cell_records.Records.{kind_of}
use Rattle.file_chains.specs.metadata_cells.CellPage.{cell_at, cell_of as bytes_of, home_of, is_cell_page}
use Rattle.file_chains.specs.metadata_cells.Chain.{LeavesOthers, PlacedCell, StandsAt, is_at}
use Rattle.file_chains.proofs.OfMetadataCells.Changed.{homes_same}
use Rattle.tag_dirs.specs.declared.dir.TagPlace.{TagPlace}
use Rattle.tag_dirs.specs.Directory.{IsDirectory, IsPageOf, SetsTag, cell_of, has_home, is_page_of_slot, sequence_of}
use Rattle.tag_dirs.proofs.Slots.{off_slot}
use Rattle.file_chains.specs.extent_records.Writing.{most_rows}
use Rattle.file_chains.specs.Changes.{with_record}
use Rattle.file_chains.specs.Files.{AreFile, IsFile, has_rows}
use Rattle.file_chains.proofs.MapRecords.{value_has_rows}
use Rattle.fileset_files.specs.Files.{AreFiles, Chains, IsLiveCell, LeadsToFile, attributes_of, is_first_kind}
use Rattle.fileset_files.specs.Changes.{ChangesBeside, ChangesFirst, HasFirstRoom, is_first, is_page_of_first, is_page_of_tag, IsLive, KeepsSequences, Removes, says_removed, with_chain, with_first}
use Rattle.fileset_files.proofs.FirstCell.{file_now, find_other}
use Rattle.fileset_files.proofs.FirstRoom.{kinds_replaced}
use Rattle.fileset_files.proofs.Live.{live_none, live_some}
use Rattle.fileset_files.proofs.OneFile.{files_now}
use Rattle.fileset_files.proofs.Removed.{files_without, is_file_kept}
use Rattle.fileset_files.proofs.Tags.{all_by_index, cell_stays, sequence_stays, used_sequence}

-- ---- what stands on a page of tags is no cell

on_tag_page : (pages : Pages) (home : Home) (ps : List TagPlace) → AllByRecursion (λ (p : TagPlace). (n : Option Home) × IsSomeAnd (pages p.home) (IsPageOf p n)) ps → has_home ps home ≡ true → IsSomeAnd (pages home) (λ page. is_cell_page page ≡ false)
on_tag_page pages home [] all has = absurd (true≢false (sym has))
on_tag_page pages home (p ∷ ps) all has = ⊎_elim
    (λ same. subst (λ (h : Home). IsSomeAnd (pages h) (λ page. is_cell_page page ≡ false)) (sym (homes_same home p.home same)) (no_cells (pages p.home) all.0.1))
    (λ later. on_tag_page pages home ps all.1 later)
    (or_cases (same_home home p.home) (has_home ps home) has)
  where
    no_cells : (o : Option (List ℕ)) → IsSomeAnd o (IsPageOf p all.0.0) → IsSomeAnd o (λ page. is_cell_page page ≡ false)
    no_cells None is = is
    no_cells (Some page) is = false_from_ne_true (is_cell_page page) (λ cells. omega (arith, eqb-true (number_at 4 0 page) 0x50544d42 cells, is.good.magic))

no_cell_there : (pages : Pages) (places : List TagPlace) (at : CellAt) → IsDirectory pages places → has_home places (home_of at) ≡ true → cell_at pages at ≡ None
no_cell_there pages places at directory has =
    by_page (pages (home_of at))
    (on_tag_page pages (home_of at) places (all_by_index (λ (p : TagPlace). (n : Option Home) × IsSomeAnd (pages p.home) (IsPageOf p n)) places (λ k. by_place k (slice_get places k) (directory.run k))) has)
  where
    by_place : (k : ℕ) (o : Option TagPlace) → IfSome o (λ p. IsSomeAnd (pages p.home) (IsPageOf p (option_map (λ (p : TagPlace). p.home) (slice_get places (k + 1)))))
        → IfSome o (λ p. (n : Option Home) × IsSomeAnd (pages p.home) (IsPageOf p n))
    by_place k None run = tt
    by_place k (Some p) run = (option_map (λ (p : TagPlace). p.home) (slice_get places (k + 1)), run)

    by_page : (o : Option (List ℕ)) → IsSomeAnd o (λ page. is_cell_page page ≡ false) → option_and_then (λ page. cond (is_cell_page page && nat_lt at.cell 28) (Some (bytes_of page at.cell)) None) o ≡ None
    by_page None none = refl
    by_page (Some page) none = ap (λ (b : Bool). cond b (Some (bytes_of page at.cell)) None) (and_left (is_cell_page page) (nat_lt at.cell 28) none)

cells_beside : (mid new : Pages) (places : List TagPlace) → IsDirectory mid places → IsDirectory new places → ((h : Home) → has_home places h ≡ false → new h ≡ mid h) → (at : CellAt) → cell_at new at ≡ cell_at mid at
cells_beside mid new places before after elsewhere at = ⊎_elim
    (λ has. no_cell_there new places at after has ∙ sym (no_cell_there mid places at before has))
    (λ none. ap (λ o. option_and_then (λ page. cond (is_cell_page page && nat_lt at.cell 28) (Some (bytes_of page at.cell)) None) o) (elsewhere (home_of at) none))
    (cases_Bool (has_home places (home_of at)))

-- ---- the file

pub no_live : (pages : Pages) (tag : Tag) (chains : Chains) → IsLive tag chains → IsLiveCell pages (chains tag) None → ⊥
no_live pages tag chains is live = true≢false (sym (subst (λ o. IsSome o) (sym (live_none attributes_of pages (chains tag) live)) is))

module _ (pages : Pages) (fileset : ℕ) (places : List TagPlace) (tag : Tag) (chains : Chains) (at : CellAt) (are : AreFiles fileset places pages chains) (live : IsLiveCell pages (chains tag) (Some at)) where
  pub record First : Type 0 where
    pub first : PlacedCell
    pub rest : List PlacedCell
    pub is : chains tag ≡ Some (first ∷ rest)
    pub is_at : first.at ≡ at
    pub file : AreFile pages first rest
    pub kinds : AllByRecursion (λ r. is_first_kind (kind_of r) ≡ true) first.cell.records
    pub slot : first.cell.head.slot ≡ tag.slot

  pub the_first : First
  the_first = let is = live_some attributes_of pages (chains tag) at live in by_cells is.cells is.is is.is_file (subst (λ o. IfSome o (LeadsToFile fileset places pages tag)) is.is (are.some tag))
    where
      by_cells : (cells : List PlacedCell) → chains tag ≡ Some cells → IsFile pages at cells → LeadsToFile fileset places pages tag cells → First
      by_cells [] is is_file leads = absurd is_file
      by_cells (first ∷ rest) is is_file leads = record { first = first; rest = rest; is = is; is_at = is_file.0; file = is_file.1; kinds = leads.kinds; slot = leads.is_of.0 }

  pub room : HasFirstRoom pages at
  room = record {
    cell = the_first.first.cell;
    stands = subst (λ (a : CellAt). StandsAt pages a the_first.first.cell) the_first.is_at the_first.file.links.stands;
    kinds = the_first.kinds;
  }

  pub first_beside : (mid : Pages) → LeavesOthers (is_at at) pages mid → ((home : Home) → same_home home (home_of at) ≡ false → mid home ≡ pages home) → ChangesFirst (chains tag) pages mid
  first_beside mid leaves elsewhere =
      subst (λ o. ChangesFirst o pages mid) (sym the_first.is)
      (subst (λ (a : CellAt). LeavesOthers (is_at a) pages mid × ((home : Home) → same_home home (home_of a) ≡ false → mid home ≡ pages home)) (sym the_first.is_at) (leaves, elsewhere))

  module _ (kind : ℕ) (value : Option Record) (of_kind : IfSome value (λ r. kind_of r ≡ kind)) (first_kind : IfSome value (λ r. is_first_kind (kind_of r) ≡ true)) (no_map : nat_le 1 (most_rows kind) ≡ false) (other : ¬ 1 ≡ kind) (mid : Pages)
      (stands : StandsAt mid at (with_record kind value the_first.first.cell)) (leaves : LeavesOthers (is_at at) pages mid) (elsewhere : (home : Home) → same_home home (home_of at) ≡ false → mid home ≡ pages home) where
    leaves_first : LeavesOthers (is_at the_first.first.at) pages mid
    leaves_first = subst (λ (a : CellAt). LeavesOthers (is_at a) pages mid) (sym the_first.is_at) leaves

    no_rows : IfSome value (λ r. has_rows r ≡ false)
    no_rows = by_value value of_kind
      where
        by_value : (o : Option Record) → IfSome o (λ r. kind_of r ≡ kind) → IfSome o (λ r. has_rows r ≡ false)
        by_value None is = tt
        by_value (Some r) is = ap (λ k. nat_le 1 (most_rows k)) is ∙ no_map

    file_mid : AreFile mid (record { at = the_first.first.at; cell = with_record kind value the_first.first.cell }) the_first.rest
    file_mid =
        file_now pages mid the_first.first the_first.rest kind value the_first.file leaves_first
        (subst (λ (a : CellAt). StandsAt mid a (with_record kind value the_first.first.cell)) (sym the_first.is_at) stands) of_kind no_rows
        (λ is. true≢false (sym (value_has_rows the_first.file.value the_first.file.map.is_map) ∙ ap (λ k. nat_le 1 (most_rows k)) is ∙ no_map))
        (subst (λ o. IsSome o) (sym (find_other kind 1 value the_first.first.cell.records other of_kind)) the_first.file.attributes)

    pub files_mid : AreFiles fileset places mid (with_chain tag (with_first (with_record kind value)) chains)
    files_mid =
        files_now (with_record kind value) tag chains pages mid fileset places are the_first.first the_first.rest the_first.is the_first.file.links.stands.bytes the_first.file.links.stands.there leaves_first
        (subst (λ (a : CellAt). (home : Home) → same_home home (home_of a) ≡ false → mid home ≡ pages home) (sym the_first.is_at) elsewhere) file_mid refl
        (kinds_replaced kind value the_first.first.cell.records the_first.kinds first_kind)

    used_mid : IsSome (cell_of mid places tag)
    used_mid =
        let led = subst (λ o. IfSome o (LeadsToFile fileset places pages tag)) the_first.is (are.some tag) in
        subst (λ o. IsSome o)
        (sym (cell_stays pages mid places the_first.first.at are.directory the_first.file.links.stands.bytes the_first.file.links.stands.there
        (subst (λ (a : CellAt). (home : Home) → same_home home (home_of a) ≡ false → mid home ≡ pages home) (sym the_first.is_at) elsewhere) tag))
        (by_cell (cell_of pages places tag) led.leads)
      where
        by_cell : (o : Option CellAt) → IsSomeAnd o (λ at. IsFile pages at (the_first.first ∷ the_first.rest)) → IsSome o
        by_cell None leads = absurd leads
        by_cell (Some a) leads = refl

  -- the record says that the file is to be removed
  module _ (mid : Pages) (stands : StandsAt mid at (says_removed the_first.first.cell)) (leaves : LeavesOthers (is_at at) pages mid) (elsewhere : (home : Home) → same_home home (home_of at) ≡ false → mid home ≡ pages home) where
    not_first : ¬ 1 ≡ kind_of (Pending Remove)
    not_first is = omega (arith, is)

    removed_file : AreFile mid (record { at = the_first.first.at; cell = says_removed the_first.first.cell }) the_first.rest
    removed_file = file_mid 6 (Some (Pending Remove)) refl refl refl not_first mid stands leaves elsewhere

    pub removed_files : AreFiles fileset places mid (with_chain tag (with_first says_removed) chains)
    removed_files = files_mid 6 (Some (Pending Remove)) refl refl refl not_first mid stands leaves elsewhere

    pub removed_used : IsSome (cell_of mid places tag)
    removed_used = used_mid 6 (Some (Pending Remove)) refl refl refl not_first mid stands leaves elsewhere

    module _ (new : Pages) (sets : SetsTag tag None places mid new) where
      off_tags : (h : Home) → has_home places h ≡ false → new h ≡ mid h
      off_tags h none = sets.elsewhere h (off_slot places tag.slot h none)

      pub removes : Removes fileset places tag at chains new
      removes = record {
        files = files_without mid new fileset places tag chains says_removed removed_files are.apart sets;
        pending = subst (λ o. IsSomeAnd o (λ cells. IsFile new at (with_first says_removed cells))) (sym the_first.is)
            (is_file_kept mid new places removed_files.directory off_tags at (record { at = the_first.first.at; cell = says_removed the_first.first.cell } ∷ the_first.rest) (the_first.is_at, removed_file));
      }

      pub keeps_sequences : KeepsSequences places pages new
      keeps_sequences s = sets.sequences s ∙ by_slot (nat_eq s tag.slot) refl ∙ sequence_mid s
        where
          sequence_mid : (s : ℕ) → sequence_of mid places s ≡ sequence_of pages places s
          sequence_mid =
              sequence_stays pages mid places the_first.first.at are.directory the_first.file.links.stands.bytes the_first.file.links.stands.there
              (subst (λ (a : CellAt). (home : Home) → same_home home (home_of a) ≡ false → mid home ≡ pages home) (sym the_first.is_at) elsewhere)

          by_slot : (b : Bool) → nat_eq s tag.slot ≡ b → cond b (Some tag.seq) (sequence_of mid places s) ≡ sequence_of mid places s
          by_slot true same = sym (ap (sequence_of mid places) (eqb-true s tag.slot same) ∙ used_sequence mid places tag removed_used)
          by_slot false other = refl

      pub beside : ChangesBeside places (chains tag) pages new
      beside = record {
        cells = subst (λ o. IfSome o (λ cells. (q : CellAt) → is_first q cells ≡ false → cell_at new q ≡ cell_at pages q)) (sym the_first.is)
            (λ q other. cells_beside mid new places removed_files.directory sets.directory off_tags q ∙ leaves_first 6 (Some (Pending Remove)) refl refl refl not_first mid stands leaves elsewhere q other);
        pages = subst (λ o. IfSome o (λ cells. (home : Home) → is_page_of_tag places home cells ≡ false → is_page_of_first home cells ≡ false → new home ≡ pages home)) (sym the_first.is)
            (λ home none other. sets.elsewhere home (subst (λ (slot : ℕ). is_page_of_slot places slot home ≡ false) the_first.slot none) ∙ elsewhere home (subst (λ (a : CellAt). same_home home (home_of a) ≡ false) the_first.is_at other));
      }
