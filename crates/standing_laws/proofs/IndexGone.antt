-- A domain stands on where a file is taken away, and with it its index.
use Rattle.std.proofs.Common.{◌≡◌, ◌∙◌, inr, ℕ, true, false, List, [], ◌∷◌, Option, Some, None, IsSomeAnd, cond, is_some, slice_get, refl, sym, ap, subst, arith}
use Rattle.std.specs.Option.{option_and_then, option_map}
use Rattle.domain_standing.specs.domain_base.declared.place.CellAt.{CellAt}
use Rattle.domain_standing.specs.domain_base.declared.place.Home.{Home}
use Rattle.domain_standing.specs.domain_base.declared.place.Tag.{Tag}
use Rattle.domain_standing.specs.page_store.Pages.{Pages}
use Rattle.domain_standing.specs.cell_records.declared.record.Leftover.TheVariants.{Remove}
use Rattle.domain_standing.specs.cell_records.declared.record.Record.{Record}
use Rattle.domain_standing.specs.cell_records.declared.record.Record.TheVariants as written
use Rattle.domain_standing.specs.metadata_cells.Cell.{Cell, record_of}
use Rattle.domain_standing.specs.metadata_cells.CellPage.{cell_at, home_of}
use Rattle.domain_standing.specs.metadata_cells.Chain.{PlacedCell}
use Rattle.domain_standing.proofs.OfTagDirs.Slots.{off_slot}
use Rattle.domain_standing.specs.free_space.Spaces.{Spaces}
use Rattle.domain_standing.specs.file_chains.Files.{AreFile, IsFile}
use Rattle.domain_standing.specs.fileset_files.Changes.{ChangesBeside, Removes, says_removed, with_chain, with_first, without_chain}
use Rattle.domain_standing.specs.fileset_files.Files.{Chains, is_removed}
use Rattle.domain_standing.specs.fileset_files.Index.{says_index}
use Rattle.domain_standing.specs.fileset_files.Shown.{index_in, index_of}
use Rattle.domain_standing.specs.fileset_files.Together.{AreTogether}
use Rattle.domain_standing.proofs.OfFilesetFiles.FirstCell.{find_other}
use Rattle.domain_standing.proofs.OfFilesetFiles.OneChain.{chain_same, same_tag_itself}
use Rattle.domain_standing.specs.index_pages.Homes.{AreIndexHomes}
use Rattle.domain_standing.specs.stored_set.Sets.{GivesIndexBack, without_index, without_index_from}
use Rattle.domain_standing.specs.release_list.Listed.{IsEntry, left_of, leftover_in}
use Rattle.domain_standing.specs.release_list.Listing.{Adds, Listing}
use Rattle.domain_standing.specs.release_list.Standing.{Files, with_file}
use Rattle.domain_standing.specs.release_steps.Calls.{StandsWell}
use Rattle.domain_standing.specs.release_steps.Tags.{AreAmong, start_of}
use Rattle.domain_standing.proofs.OfReleaseSteps.FirstWell.{SaysBeside, removed_beside}
use Rattle.domain_standing.specs.domain_layout.CellRules.{is_good_first, of_original}
use Rattle.domain_standing.specs.domain_layout.Filled.{Contents}
use Rattle.domain_standing.specs.domain_layout.TagRules.{IsLate}
use Rattle.domain_standing.specs.Chains.{IndexesAt, IsToDo}
use Rattle.domain_standing.specs.Domain.{DomainNow, all_of, item_in}
use Rattle.standing_laws.specs.IndexCalls.{KeepsTables, NamesFile, with_index_at, with_removed}
use Rattle.standing_laws.specs.SlotsStay.{OthersStand}
use Rattle.standing_laws.specs.Leads.{StandsBelow, fileset_now}
use Rattle.standing_laws.proofs.BelowStands.{owned_listed, rest_listed, tables_listed}
use Rattle.standing_laws.proofs.IndexChains.{among_own, chains_told}
use Rattle.standing_laws.proofs.IndexHeld.{owned_told}
use Rattle.standing_laws.proofs.IndexListed.{among_listed, chains_listed}
use Rattle.standing_laws.proofs.IndexRest.{rest_told}
use Rattle.standing_laws.proofs.IndexOthers.{slot_listed}
use Rattle.standing_laws.proofs.IndexSaid.{gone_beside, gone_good, gone_known, gone_none, gone_there, gone_well, index_firsts, removed_firsts, says_gone}
use Rattle.standing_laws.proofs.IndexSet.{IsChain, chain_at}
use Rattle.standing_laws.proofs.IndexSpaces.{Among, NoHome, SpacesMove, moves_away}
use Rattle.standing_laws.proofs.IndexTables.{tables_told}
use Rattle.standing_laws.proofs.IndexTold.{Told, files_now, indexes_now, led, there_now}
use Rattle.standing_laws.proofs.IndexWas.{file_was, firsts_was, good_was, index_low_was, known_was, live_was, off_cells, off_first, well_was}
use Rattle.standing_laws.proofs.RestFirst.{AreFirsts, AreKnown, SaysWell, removed_good, removed_known, removed_well}

-- what the first cell says then is well, and that all goes, and it names no index
pub record SaysGone (d : DomainNow) (number : ℕ) (says : Cell → Cell) (cell : Cell) : Type 0 where
  pub head : (says cell).head ≡ cell.head
  pub beside : SaysBeside says cell
  pub known : AreKnown d.frame.version (says cell).records
  pub good : is_good_first d.table (says cell) ≡ true
  pub births : of_original (item_in d number) ≡ true → (value : Record) → record_of 1 (says cell).records ≡ Some value → ¬ IsLate d.table.made value
  pub firsts : AreFirsts (says cell).records
  pub gone : record_of 6 (says cell).records ≡ Some (written.Pending Remove)
  pub no_index : option_and_then index_in (record_of 9 (says cell).records) ≡ None

module _ (d : DomainNow) (files : Files) (indexes : IndexesAt) (below : StandsBelow d files indexes) (number : ℕ) (tag : Tag) (chains : Chains) (well : StandsWell number (fileset_now d number chains files)) (first : PlacedCell) (rest : List PlacedCell)
    (is : chains tag ≡ Some (first ∷ rest)) (group : ℕ) (space : Spaces) (pages : Pages) (contents : Contents) (together : AreTogether number (d.tags number) space d.cells pages (without_chain tag chains)) (gives : GivesIndexBack group (d.tags number) (chains tag) (indexes first.at) d.space space d.pages pages) where
  module _ (says : Cell → Cell) (gone : SaysGone d number says first.cell) (file : IsFile pages first.at (with_first says (first ∷ rest))) where
    no_chain : without_chain tag chains tag ≡ None
    no_chain = ap (λ b. cond b None (chains tag)) (same_tag_itself tag)

    beside : ChangesBeside (d.tags number) (Some (first ∷ rest)) d.pages gives.said
    beside = subst (λ o. ChangesBeside (d.tags number) o d.pages gives.said) is gives.beside

    told : Told d files indexes pages space []
    told = record {
      number = number;
      tag = tag;
      chains = chains;
      well = well;
      first = first;
      rest = rest;
      is = is;
      says = says;
      head = gone.head;
      beside = gone.beside;
      known = gone.known;
      good = gone.good;
      births = gone.births;
      firsts = gone.firsts;
      file = file;
      chains_now = without_chain tag chains;
      are = together.files;
      others = λ t other. ap (λ b. cond b None (chains t)) other;
      whose = inr (no_chain, ap (option_and_then leftover_in) gone.gone);
      comes = NoHome;
      goes = Among (indexes first.at);
      cells = λ at on other.
          ap (λ (o : Option (List ℕ)). cell_at (λ _. o) at) (gives.drops.others (home_of at) (λ inside. off_cells d files indexes below number tag chains well first rest is (home_of at) inside on))
          ∙ beside.cells at other;
      stay = λ home off no_tags none no_come.
          gives.drops.others home none
          ∙ beside.pages home (off_slot (d.tags number) first.cell.head.slot home no_tags) (off_first d files indexes below number tag chains well first rest is home off);
      belong = together.allocated.belong;
      ends = together.allocated.ends;
      indexed = subst (λ o. AreIndexHomes pages o []) (sym gone.no_index) tt;
      once = λ j k home none. absurd (no_place j home none);
      back = λ home inside. absurd (omega (arith, inside.1));
      on = λ home inside. inr inside;
      came = λ home none. absurd none;
      gone = λ home inside. (inside, λ none. omega (arith, none.1));
      spaces = subst (SpacesMove NoHome (Among (indexes first.at)) d.space) (sym gives.drops.waits)
          (moves_away (indexes first.at) group d.space (index_low_was d files indexes below number tag chains well first rest is));
    }
      where
        no_place : (j : ℕ) (home : Home) → ¬ slice_get [] j ≡ Some home
        no_place j home e = cc

    abbrev now : DomainNow
    now = led d files indexes below pages contents space [] told

    abbrev files_then : Files
    files_then = files_now d files indexes below pages contents space [] told

    abbrev indexes_then : IndexesAt
    indexes_then = indexes_now d files indexes below pages contents space [] told

    to_do : IsToDo files_then first.at
    unfolding told
    to_do = ap (λ o. is_some (option_and_then left_of o)) (there_now d files indexes below pages contents space [] told) ∙ ap (λ o. is_some (option_and_then leftover_in o)) gone.gone

    gone_stands : (clone : Option CellAt) (listed : Listing) → IsEntry files_then (record { at = first.at; clone = clone }) → Adds first.at clone d.list.entries listed.entries → listed.tag_pages ≡ d.list.tag_pages → StandsBelow (record now { list = listed }) files_then indexes_then
    unfolding told
    gone_stands clone listed may adds same = record {
      tables = tables_listed now listed (tables_told d files indexes below pages contents space [] told);
      chains = chains_listed now files_then indexes_then first.at (chains_told d files indexes below pages contents space [] told) clone listed to_do may adds same;
      owned = owned_listed now listed files_then indexes_then (owned_told d files indexes below pages contents space [] told);
      rest = rest_listed now listed files_then indexes_then (rest_told d files indexes below pages contents space [] told);
    }

    gone_slots : (clone : Option CellAt) (listed : Listing) → IsEntry files_then (record { at = first.at; clone = clone }) → Adds first.at clone d.list.entries listed.entries → listed.tag_pages ≡ d.list.tag_pages → OthersStand number d (record now { list = listed })
    unfolding told
    gone_slots clone listed may adds same bytes n differ other shape fileset there stood = slot_listed d files indexes below pages contents space [] told bytes n differ listed (gone_stands clone listed may adds same) other shape fileset there stood

    -- the files of the slot's other tags are among the domain's
    gone_among : (clone : Option CellAt) (listed : Listing) → IsEntry files_then (record { at = first.at; clone = clone }) → Adds first.at clone d.list.entries listed.entries → listed.tag_pages ≡ d.list.tag_pages
        → AreAmong (all_of (record now { list = listed }) files_then) (d.tags number) (without_chain tag chains)
    unfolding told
    gone_among clone listed may adds same =
        among_listed now files_then indexes_then first.at (chains_told d files indexes below pages contents space [] told) clone listed to_do may adds same number
        (record { chains = without_chain tag chains; are = together.files; among = among_own d files indexes below pages contents space [] told })

    gone_both : (clone : Option CellAt) (listed : Listing) → IsEntry files_then (record { at = first.at; clone = clone }) → Adds first.at clone d.list.entries listed.entries → listed.tag_pages ≡ d.list.tag_pages
        → StandsBelow (record now { list = listed }) files_then indexes_then × OthersStand number d (record now { list = listed }) × AreAmong (all_of (record now { list = listed }) files_then) (d.tags number) (without_chain tag chains)
    gone_both clone listed may adds same = (gone_stands clone listed may adds same, gone_slots clone listed may adds same, gone_among clone listed may adds same)

  -- ---- by what its first cell said

  -- what is to be shown, by what the tag's chain is once its first cell names no index
  abbrev Going : Option (List PlacedCell) → Type 0
  Going o = (clone : Option CellAt) (listed : Listing) → IsEntry (with_file first.at (option_map (with_first says_removed) o) files) (record { at = first.at; clone = clone }) → Adds first.at clone d.list.entries listed.entries → listed.tag_pages ≡ d.list.tag_pages
      → StandsBelow (record d { pages = pages; contents = contents; space = space; list = listed }) (with_file first.at (option_map (with_first says_removed) o) files) (with_index_at first.at [] indexes)
      × OthersStand number d (record d { pages = pages; contents = contents; space = space; list = listed })
      × AreAmong (all_of (record d { pages = pages; contents = contents; space = space; list = listed }) (with_file first.at (option_map (with_first says_removed) o) files)) (d.tags number) (without_chain tag chains)

  old_file : AreFile d.pages first rest
  old_file = file_was d files indexes below number tag chains well first rest is

  old_known : AreKnown d.frame.version first.cell.records
  old_known = known_was d files indexes below number tag chains well first rest is

  old_good : is_good_first d.table first.cell ≡ true
  old_good = good_was d files indexes below number tag chains well first rest is

  old_well : of_original (item_in d number) ≡ true → SaysWell d.frame.version d.table first.cell
  old_well = well_was d files indexes below number tag chains well first rest is

  old_firsts : AreFirsts first.cell.records
  old_firsts = firsts_was d files indexes below number tag chains well first rest is

  old_live : is_removed (first ∷ rest) ≡ false
  old_live = live_was d files indexes below number tag chains well first rest is

  -- it named none
  none_goes : index_of (first ∷ rest) ≡ None → IsFile pages first.at (with_first says_removed (first ∷ rest)) → Going (Some (first ∷ rest))
  unfolding told
  none_goes none file = gone_both says_removed
      (record {
        head = refl;
        beside = removed_beside d.pages first rest old_file;
        known = removed_known d.frame.version first.cell old_known;
        good = removed_good d.table first.cell old_good old_firsts (removed_firsts first.cell old_firsts);
        births = λ original. (removed_well d.frame.version d.table first rest (old_well original) old_firsts old_live (removed_firsts first.cell old_firsts)).births;
        firsts = removed_firsts first.cell old_firsts;
        gone = gone_there first.cell;
        no_index = ap (option_and_then index_in) (find_other 6 9 (Some (written.Pending Remove)) first.cell.records (λ e. omega (arith, e)) refl) ∙ none;
      })
      file

  -- it named one
  some_goes : IsFile pages first.at (with_first says_gone (first ∷ rest)) → Going (Some (with_first (says_index None) (first ∷ rest)))
  unfolding told
  some_goes file = gone_both says_gone
      (record {
        head = refl;
        beside = gone_beside d.pages first rest old_file;
        known = gone_known d.frame.version first.cell old_known;
        good = gone_good d.table first.cell old_good old_firsts;
        births = λ original. (gone_well d.frame.version d.table first rest (old_well original) old_firsts old_live).births;
        firsts = removed_firsts (says_index None first.cell) (index_firsts None first.cell old_firsts);
        gone = gone_there (says_index None first.cell);
        no_index = ap (option_and_then index_in) (gone_none first.cell);
      })
      file

  goes_by : (o : Option Home) → index_of (first ∷ rest) ≡ o → IsSomeAnd (without_index_from o tag chains tag) (λ cells. IsFile pages first.at (with_first says_removed cells)) → Going (without_index_from o tag chains tag)
  goes_by None none pending = subst Going (sym is) (none_goes none (subst (λ o. IsSomeAnd o (λ cells. IsFile pages first.at (with_first says_removed cells))) is pending))
  goes_by (Some home) some pending =
      let tag_then : with_chain tag (with_first (says_index None)) chains tag ≡ Some (with_first (says_index None) (first ∷ rest)) = chain_same tag (with_first (says_index None)) chains tag (same_tag_itself tag) ∙ ap (option_map (with_first (says_index None))) is in
      subst Going (sym tag_then) (some_goes (subst (λ o. IsSomeAnd o (λ cells. IsFile pages first.at (with_first says_removed cells))) tag_then pending))

  pub goes : IsSomeAnd (without_index tag chains tag) (λ cells. IsFile pages first.at (with_first says_removed cells)) → Going (without_index tag chains tag)
  goes pending = goes_as (option_and_then index_of (chains tag)) (ap (option_and_then index_of) (sym is)) pending
    where
      goes_as : (o : Option Home) → index_of (first ∷ rest) ≡ o → IsSomeAnd (without_index_from o tag chains tag) (λ cells. IsFile pages first.at (with_first says_removed cells)) → Going (without_index_from o tag chains tag)
      goes_as o same pending = goes_by o same pending

-- ---- the law

module _ (number : ℕ) (tag : Tag) (d now : DomainNow) (chains : Chains) (files : Files) (indexes : IndexesAt) (group : ℕ) (below : StandsBelow d files indexes) (same : KeepsTables d now) (together : AreTogether number (d.tags number) now.space d.cells now.pages (without_chain tag chains)) where
  abbrev GoesAt : CellAt → Type 0
  GoesAt a = Removes number (d.tags number) tag a (without_index tag chains) now.pages → GivesIndexBack group (d.tags number) (chains tag) (indexes a) d.space now.space d.pages now.pages
      → (clone : Option CellAt) (listed : Listing) → IsEntry (with_removed a tag chains files) (record { at = a; clone = clone }) → Adds a clone d.list.entries listed.entries → listed.tag_pages ≡ d.list.tag_pages
      → StandsBelow (record now { list = listed }) (with_removed a tag chains files) (with_index_at a [] indexes) × OthersStand number d (record now { list = listed })
      × AreAmong (all_of (record now { list = listed }) (with_removed a tag chains files)) (d.tags number) (without_chain tag chains)

  goes_first : (first : PlacedCell) (rest : List PlacedCell) → chains tag ≡ Some (first ∷ rest) → StandsWell number (fileset_now d number chains files) → GoesAt first.at
  goes_first first rest is well removes gives clone listed may adds same_pages =
      subst (λ (x : DomainNow). StandsBelow (record x { list = listed }) (with_removed first.at tag chains files) (with_index_at first.at [] indexes) × OthersStand number d (record x { list = listed })
      × AreAmong (all_of (record x { list = listed }) (with_removed first.at tag chains files)) (d.tags number) (without_chain tag chains)) (sym same)
      (goes d files indexes below number tag chains well first rest is group now.space now.pages now.contents together gives removes.pending clone listed may adds same_pages)

  -- of what is in any slot
  pub gone_in : (start : CellAt) → StandsWell number (fileset_now d number chains files) → option_and_then start_of (chains tag) ≡ Some start → GoesAt start
  gone_in start well begins = by_start (chain_at chains tag start begins)
    where
      by_start : IsChain chains tag start → GoesAt start
      by_start c = subst GoesAt c.at (goes_first c.first c.rest c.is well)

  pub gone : (start : CellAt) → NamesFile number tag start d chains files → GoesAt start
  gone start names = gone_in start names.well names.begins
