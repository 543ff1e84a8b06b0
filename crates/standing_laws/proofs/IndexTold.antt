-- What a call on an index changes: the file's first cell, the pages of the index, and where they
-- stand.
use Rattle.std.proofs.Common.{◌≡◌, ◌∙◌, ◌⊎◌, ⊎_elim, ℕ, true, false, List, ◌∷◌, length, Some, None, Contains, slice_get, refl, sym, ap, arith}
use Rattle.std.proofs.lemmas.Bool.{cases_Bool}
use Rattle.std.specs.Option.{option_map_or}
use Rattle.domain_standing.specs.domain_base.declared.place.CellAt.{CellAt}
use Rattle.domain_standing.specs.domain_base.declared.place.Home.{Home}
use Rattle.domain_standing.specs.domain_base.declared.place.Tag.{Tag}
use Rattle.domain_standing.specs.log_ring.Homes.{IsMember}
use Rattle.domain_standing.specs.page_store.Bitfiles.{same_tag}
use Rattle.domain_standing.specs.page_store.Pages.{Pages}
use Rattle.domain_standing.specs.cell_records.declared.record.Leftover.TheVariants.{Remove}
use Rattle.domain_standing.specs.cell_records.declared.record.Record.{Record}
use Rattle.domain_standing.specs.metadata_cells.Cell.{Cell, record_of}
use Rattle.domain_standing.specs.metadata_cells.CellPage.{cell_at}
use Rattle.domain_standing.specs.metadata_cells.Chain.{PlacedCell, StandsAt, is_at}
use Rattle.domain_standing.specs.tag_dirs.Directory.{has_home}
use Rattle.domain_standing.specs.extent_maps.declared.run.PagePlace.TheVariants.{Absent}
use Rattle.domain_standing.specs.extent_maps.Runs.{place_of}
use Rattle.domain_standing.specs.free_cells.Belong.{Belong, LeadsTo}
use Rattle.domain_standing.specs.free_cells.Cells.{table_of}
use Rattle.domain_standing.specs.free_space.Spaces.{Spaces}
use Rattle.domain_standing.specs.file_chains.Files.{AreFile, IsFile, places_of}
use Rattle.domain_standing.proofs.OfFileChains.ChainChanges.{at_apart}
use Rattle.domain_standing.specs.fileset_files.Changes.{with_first}
use Rattle.domain_standing.specs.fileset_files.Files.{AreFiles, Chains}
use Rattle.domain_standing.specs.fileset_files.Shown.{index_of}
use Rattle.domain_standing.proofs.OfFilesetFiles.FirstTogether.{runs_kept}
use Rattle.domain_standing.specs.index_pages.Homes.{AreIndexHomes}
use Rattle.domain_standing.specs.release_list.Listed.{left_of}
use Rattle.domain_standing.specs.release_list.Standing.{Files, IsStanding, place_in, with_file}
use Rattle.domain_standing.proofs.OfReleaseList.Standings.{file_other, file_there, place_by, same_or_not, standing}
use Rattle.domain_standing.specs.release_steps.Calls.{StandsWell}
use Rattle.domain_standing.proofs.OfReleaseSteps.FirstWell.{SaysBeside, StaysLive, are_file}
use Rattle.domain_standing.proofs.OfReleaseSteps.TagFile.{file_is}
use Rattle.domain_standing.specs.domain_layout.CellRules.{is_good_first, of_original}
use Rattle.domain_standing.specs.domain_layout.Filled.{Contents}
use Rattle.domain_standing.specs.domain_layout.TagRules.{IsLate}
use Rattle.domain_standing.proofs.OfDomainLayout.Reached.{member_or_none}
use Rattle.domain_standing.specs.Chains.{IndexesAt}
use Rattle.domain_standing.specs.Domain.{DomainNow, item_in}
use Rattle.domain_standing.specs.Holders.{Holder, Holds, IsUnheld}
use Rattle.domain_standing.specs.Holders.Holder.{of_cells, of_index, of_tags}
use Rattle.standing_laws.specs.IndexCalls.{with_index_at}
use Rattle.standing_laws.specs.Leads.{StandsBelow, fileset_now}
use Rattle.standing_laws.proofs.HeldHolders.{MayTake}
use Rattle.standing_laws.proofs.HomeLists.{in_get}
use Rattle.standing_laws.proofs.IndexSpaces.{SpacesMove}
use Rattle.standing_laws.proofs.RestFirst.{AreFirsts, AreKnown}
use Rattle.standing_laws.proofs.TablesTaken.{unheld_taken}

-- with these pages, this free space, and these homes of the pages of the index, of which some come
-- and others go
pub record Told (d : DomainNow) (files : Files) (indexes : IndexesAt) (pages : Pages) (space : Spaces) (homes : List Home) : Type 1 where
  -- the file
  pub number : ℕ
  pub tag : Tag
  pub chains : Chains
  pub well : StandsWell number (fileset_now d number chains files)
  pub first : PlacedCell
  pub rest : List PlacedCell
  pub is : chains tag ≡ Some (first ∷ rest)
  -- its first cell
  pub says : Cell → Cell
  pub head : (says first.cell).head ≡ first.cell.head
  pub beside : SaysBeside says first.cell
  pub known : AreKnown d.frame.version (says first.cell).records
  pub good : is_good_first d.table (says first.cell) ≡ true
  pub births : of_original (item_in d number) ≡ true → (value : Record) → record_of 1 (says first.cell).records ≡ Some value → ¬ IsLate d.table.made value
  pub firsts : AreFirsts (says first.cell).records
  pub file : IsFile pages first.at (with_first says (first ∷ rest))
  -- the fileset's files
  pub chains_now : Chains
  pub are : AreFiles number (d.tags number) pages chains_now
  pub others : (t : Tag) → same_tag t tag ≡ false → chains_now t ≡ chains t
  pub whose : ((chains_now tag ≡ Some (with_first says (first ∷ rest))) × StaysLive says first.cell) ⊎ ((chains_now tag ≡ None) × (left_of (with_first says (first ∷ rest)) ≡ Some Remove))
  -- pages that stay
  pub comes : Home → Type 0
  pub goes : Home → Type 0
  pub cells : (at : CellAt) → Contains (table_of d.cells at.vol) at.page → is_at first.at at ≡ false → cell_at pages at ≡ cell_at d.pages at
  pub stay : (home : Home) → ¬ Contains (table_of d.cells home.vol) home.page → has_home (d.tags number) home ≡ false → ¬ Contains (indexes first.at) home → ¬ comes home → pages home ≡ d.pages home
  pub belong : Belong d.cells pages
  pub ends : (vol : ℕ) → LeadsTo d.cells vol pages 0
  -- the index
  pub indexed : AreIndexHomes pages (index_of (with_first says (first ∷ rest))) homes
  pub once : (j k : ℕ) (home : Home) → slice_get homes j ≡ Some home → slice_get homes k ≡ Some home → j ≡ k
  pub back : (home : Home) → Contains homes home → Contains (indexes first.at) home ⊎ comes home
  pub on : (home : Home) → Contains (indexes first.at) home → Contains homes home ⊎ goes home
  pub came : (home : Home) → comes home → Contains homes home × MayTake d.space home
  pub gone : (home : Home) → goes home → Contains (indexes first.at) home × ¬ Contains homes home
  pub spaces : SpacesMove comes goes d.space space

module _ (d : DomainNow) (files : Files) (indexes : IndexesAt) (below : StandsBelow d files indexes) (pages : Pages) (contents : Contents) (space : Spaces) (homes : List Home) (t : Told d files indexes pages space homes) where
  -- the domain so
  abbrev pub led : DomainNow
  led = record d { pages = pages; contents = contents; space = space }

  abbrev pub start : CellAt
  start = t.first.at

  abbrev pub was : List PlacedCell
  was = t.first ∷ t.rest

  abbrev pub after : List PlacedCell
  after = with_first t.says was

  abbrev pub files_now : Files
  files_now = with_file start (Some after) files

  abbrev pub indexes_now : IndexesAt
  indexes_now = with_index_at start homes indexes

  -- ---- the file

  pub there_was : files start ≡ Some was
  there_was = file_is t.number (d.tags t.number) d.pages t.chains t.well.together.files files t.well.among.same t.tag was t.is start refl

  pub there_now : files_now start ≡ Some after
  there_now = file_there start (Some after) files

  pub other_now : (at : CellAt) → ¬ at ≡ start → files_now at ≡ files at
  other_now at apart = file_other start (Some after) files at apart

  pub file_was : AreFile d.pages t.first t.rest
  file_was = are_file t.number (d.tags t.number) d.pages t.chains t.well.together.files t.tag t.first t.rest t.is

  pub stands_now : StandsAt pages start (t.says t.first.cell)
  stands_now = t.file.1.links.stands

  pub same_places : (a : CellAt) (p : ℕ) → place_in files_now a p ≡ place_in files a p
  same_places a p = ⊎_elim
      (λ here.
      ap (λ (b : CellAt). place_in files_now b p) here ∙ place_by files_now start after p there_now ∙ ap (λ rs. place_of rs p) (runs_kept t.says t.first t.rest t.beside.maps)
      ∙ sym (place_by files start was p there_was) ∙ sym (ap (λ (b : CellAt). place_in files b p) here))
      (λ apart. ap (λ o. option_map_or (λ cs. places_of cs p) o Absent) (other_now a apart))
      (same_or_not a start)

  -- ---- cells on tables

  pub member_of_table : (vol p : ℕ) → Contains (table_of d.cells vol) p → IsMember d.frame.anchor vol
  member_of_table vol p on = ⊎_elim
      (λ member. member)
      (λ none. let e : length (table_of d.cells vol) ≡ 0 = ap length (below.tables.cells.others vol none) in absurd (omega (arith, e, on.1)))
      (member_or_none d.frame.anchor vol)

  pub cell_now : (at : CellAt) (cell : Cell) → Contains (table_of d.cells at.vol) at.page → ¬ at ≡ start → StandsAt d.pages at cell → StandsAt pages at cell
  cell_now at cell on apart stands = record { bytes = stands.bytes; there = t.cells at on (at_apart start at (λ same. apart (sym same))) ∙ stands.there; is = stands.is }

  pub cell_was : (at : CellAt) (cell : Cell) → Contains (table_of d.cells at.vol) at.page → ¬ at ≡ start → StandsAt pages at cell → StandsAt d.pages at cell
  cell_was at cell on apart stands = record { bytes = stands.bytes; there = sym (t.cells at on (at_apart start at (λ same. apart (sym same)))) ∙ stands.there; is = stands.is }

  -- ---- pages that are held for something else

  -- no page that comes was held for anything
  pub fresh : (home : Home) → t.comes home → IsUnheld d files indexes home
  fresh home comes = let may = (t.came home comes).1 in unheld_taken d files indexes below.owned home may.0 may.1

  pub of_it : (home : Home) → Contains (indexes start) home → (k : ℕ) × Holds d files indexes (of_index start k) home
  of_it home inside = in_get (indexes start) home inside

  -- what is held for something else is no page of the index
  pub not_of_it : (holder : Holder) (home : Home) → Holds d files indexes holder home → ((k : ℕ) → ¬ holder ≡ of_index start k) → ¬ Contains (indexes start) home
  not_of_it holder home held other inside = let it = of_it home inside in other it.0 (below.owned.once home holder (of_index start it.0) held it.1)

  pub not_of_cells : (holder : Holder) (home : Home) → Holds d files indexes holder home → ¬ holder ≡ of_cells → ¬ Contains (table_of d.cells home.vol) home.page
  not_of_cells holder home held other on = other (below.owned.once home holder of_cells held (member_of_table home.vol home.page on, on))

  -- and it stays, if it is none of cells or of the tag directory
  pub page_stays : (holder : Holder) (home : Home) → Holds d files indexes holder home → ((k : ℕ) → ¬ holder ≡ of_index start k) → ¬ holder ≡ of_cells → ¬ holder ≡ of_tags t.number → pages home ≡ d.pages home
  page_stays holder home held not_it not_cells not_tags =
      t.stay home (not_of_cells holder home held not_cells) no_tags (not_of_it holder home held not_it) (λ comes. fresh home comes holder held)
    where
      no_tags : has_home (d.tags t.number) home ≡ false
      no_tags = ⊎_elim
          (λ has. absurd (not_tags (below.owned.once home holder (of_tags t.number) held has)))
          (λ none. none)
          (cases_Bool (has_home (d.tags t.number) home))

  -- nor does it go
  pub not_gone : (holder : Holder) (home : Home) → Holds d files indexes holder home → ((k : ℕ) → ¬ holder ≡ of_index start k) → ¬ t.goes home
  not_gone holder home held other goes = not_of_it holder home held other (t.gone home goes).0

  -- tag pages of another slot
  pub other_tag_page : (n : ℕ) → ¬ n ≡ t.number → (home : Home) → has_home (d.tags n) home ≡ true → pages home ≡ d.pages home
  other_tag_page n differ home has = page_stays (of_tags n) home has (λ k e. cc) (λ e. cc) (λ e. differ (number_is e))
    where
      number_of : Holder → ℕ
      number_of (of_tags m) = m
      number_of h = 0

      number_is : of_tags n ≡ of_tags t.number → n ≡ t.number
      number_is e = ap number_of e

  -- each chain that stands in the domain does still
  pub standing_was : (at : CellAt) (cs : List PlacedCell) → files at ≡ Some cs → IsStanding d.cells d.pages at cs
  standing_was at cs there = standing d.space d.cells d.pages files below.chains.well.together at cs there
