-- A domain stands on where a page of an index is written, or put into one.
use Rattle.std.proofs.Common.{◌≡◌, ◌∙◌, ◌⊎◌, ⊎_elim, inl, inr, ℕ, zero, suc, ◌≤◌, Bool, true, false, cond, List, [], ◌∷◌, Option, Some, None, IfSome, IsSomeAnd, Contains, is_some, slice_get, refl, sym, ap, subst, arith}
use Rattle.std.proofs.lemmas.Bool.{false_from_ne_true}
use Rattle.std.specs.List.{insert}
use Rattle.std.specs.Option.{option_and_then, option_map}
use Rattle.domain_standing.specs.domain_base.declared.place.CellAt.{CellAt}
use Rattle.domain_standing.specs.domain_base.declared.place.Home.{Home}
use Rattle.domain_standing.specs.domain_base.declared.place.Tag.{Tag}
use Rattle.domain_standing.specs.page_store.Pages.{Pages, same_home}
use Rattle.domain_standing.specs.metadata_cells.Cell.{Cell}
use Rattle.domain_standing.specs.metadata_cells.CellPage.{cell_at, home_of}
use Rattle.domain_standing.specs.metadata_cells.Chain.{PlacedCell, is_at}
use Rattle.domain_standing.proofs.OfMetadataCells.Changed.{homes_same}
use Rattle.domain_standing.specs.tag_dirs.Directory.{cell_of, has_home}
use Rattle.domain_standing.specs.free_cells.Cells.{table_of}
use Rattle.domain_standing.specs.free_space.Spaces.{Spaces}
use Rattle.domain_standing.specs.file_chains.Files.{IsFile}
use Rattle.domain_standing.proofs.OfFileChains.ChainChanges.{at_same}
use Rattle.domain_standing.specs.fileset_files.Changes.{ChangesFirst, with_chain, with_first}
use Rattle.domain_standing.specs.fileset_files.Files.{Chains, LeadsToFile}
use Rattle.domain_standing.specs.fileset_files.Index.{index_record, says_index}
use Rattle.domain_standing.specs.fileset_files.Shown.{index_in, index_of}
use Rattle.domain_standing.specs.fileset_files.Together.{AreTogether}
use Rattle.domain_standing.proofs.OfFilesetFiles.FirstCell.{find_put}
use Rattle.domain_standing.proofs.OfFilesetFiles.OneChain.{chain_other, chain_same, same_tag_itself}
use Rattle.domain_standing.specs.index_pages.Homes.{AreIndexHomes}
use Rattle.domain_standing.proofs.OfIndexPages.Dropped.{low_from}
use Rattle.domain_standing.proofs.OfIndexPages.Held.{in_inserted}
use Rattle.domain_standing.proofs.OfStoredSet.Together.{together_away}
use Rattle.domain_standing.specs.stored_set.Sets.{AddsIndexPage, SaysIndex, WritesIndexPage}
use Rattle.domain_standing.specs.fileset_model.declared.fileset.FilesetSlot.{FilesetSlot}
use Rattle.domain_standing.specs.fileset_table.declared.slot.FilesetEntry.{FilesetEntry}
use Rattle.domain_standing.specs.fileset_table.declared.slot.SlotItem.TheVariants as slot
use Rattle.domain_standing.specs.release_list.Listed.{left_of, leftover_in}
use Rattle.domain_standing.specs.release_list.Standing.{Files, with_file}
use Rattle.domain_standing.proofs.OfReleaseList.Spread.{none_not, some_same}
use Rattle.domain_standing.specs.release_steps.Calls.{StandsWell}
use Rattle.domain_standing.specs.release_steps.Tags.{start_of}
use Rattle.domain_standing.proofs.OfReleaseSteps.FirstWell.{are_file, index_beside, index_live}
use Rattle.domain_standing.specs.domain_layout.Filled.{Contents}
use Rattle.domain_standing.specs.domain_layout.Shape.{FilesetShape}
use Rattle.domain_standing.specs.Chains.{IndexesAt, IsOnList, IsToDo}
use Rattle.domain_standing.specs.Domain.{DomainNow, item_in}
use Rattle.domain_standing.specs.Holders.{IsUnheld}
use Rattle.domain_standing.specs.Holders.Holder.{of_cells, of_index, of_tags}
use Rattle.standing_laws.specs.IndexCalls.{KeepsTables, NamesFile, with_index_at, with_said}
use Rattle.standing_laws.specs.Slots.{StandsSlot}
use Rattle.standing_laws.specs.SlotsStay.{OthersStand}
use Rattle.standing_laws.specs.Leads.{StandsBelow, fileset_now}
use Rattle.standing_laws.proofs.HeldHolders.{MayTake}
use Rattle.standing_laws.proofs.IndexChains.{chains_told}
use Rattle.standing_laws.proofs.IndexHeld.{owned_told}
use Rattle.standing_laws.proofs.IndexOthers.{slot_told}
use Rattle.standing_laws.proofs.IndexListed.{chains_all}
use Rattle.standing_laws.proofs.IndexRest.{rest_told}
use Rattle.standing_laws.proofs.IndexSaid.{index_firsts, index_good, index_known, index_other, index_well}
use Rattle.standing_laws.proofs.IndexSpaces.{Is, NoHome, SpacesMove, moves_page, moves_same}
use Rattle.standing_laws.proofs.IndexTables.{tables_told}
use Rattle.standing_laws.proofs.HomeLists.{get_in, in_get}
use Rattle.standing_laws.proofs.IndexTold.{Told, files_now, indexes_now, led, there_now}
use Rattle.standing_laws.proofs.IndexWas.{begins_low, file_was, firsts_was, member_on, off_cells, off_first, off_tags, good_was, known_was, once_was, there_was, well_was}
use Rattle.standing_laws.proofs.TablesTaken.{unheld_taken}

-- ---- lists with one more

in_more : (homes : List Home) (place : ℕ) (onto : Home) → Contains (insert homes place onto) onto
in_more [] zero onto = (zero, omega arith, refl)
in_more [] (suc place) onto = (zero, omega arith, refl)
in_more (x ∷ homes) zero onto = (zero, omega arith, refl)
in_more (x ∷ homes) (suc place) onto = let later = in_more homes place onto in (suc later.0, omega (arith, later.1), later.2)

in_still : (homes : List Home) (place : ℕ) (onto home : Home) → Contains homes home → Contains (insert homes place onto) home
in_still [] place onto home inside = absurd (omega (arith, inside.1))
in_still (x ∷ homes) zero onto home inside = (suc inside.0, omega (arith, inside.1), inside.2)
in_still (x ∷ homes) (suc place) onto home (zero, within, is) = (zero, omega arith, is)
in_still (x ∷ homes) (suc place) onto home (suc k, within, is) = let later = in_still homes place onto home (k, omega (arith, within), is) in (suc later.0, omega (arith, later.1), later.2)

abbrev AreOnce : List Home → Type 0
AreOnce homes = (j k : ℕ) (home : Home) → slice_get homes j ≡ Some home → slice_get homes k ≡ Some home → j ≡ k

behind : (x : Home) (homes : List Home) → AreOnce (x ∷ homes) → AreOnce homes
behind x homes once j k home a b = pred_same (once (suc j) (suc k) home a b)
  where
    pred_same : suc j ≡ suc k → j ≡ k
    pred_same e = omega (arith, e)

head_not : (x : Home) (homes : List Home) → AreOnce (x ∷ homes) → ¬ Contains homes x
head_not x homes once inside = let k = in_get homes x inside in no_zero (once zero (suc k.0) x refl k.1)
  where
    no_zero : {k : ℕ} → zero ≡ suc k → ⊥
    no_zero e = omega (arith, e)

joined_once : (x : Home) (homes : List Home) → ¬ Contains homes x → AreOnce homes → AreOnce (x ∷ homes)
joined_once x homes none once zero zero home a b = refl
joined_once x homes none once zero (suc k) home a b = absurd (none (subst (Contains homes) (sym (some_same x home a)) (get_in homes k home b)))
joined_once x homes none once (suc j) zero home a b = absurd (none (subst (Contains homes) (sym (some_same x home b)) (get_in homes j home a)))
joined_once x homes none once (suc j) (suc k) home a b = ap suc (once j k home a b)

more_once : (homes : List Home) (place : ℕ) (onto : Home) → ¬ Contains homes onto → AreOnce homes → AreOnce (insert homes place onto)
more_once [] zero onto none once = joined_once onto [] (λ inside. omega (arith, inside.1)) once
more_once [] (suc place) onto none once = joined_once onto [] (λ inside. omega (arith, inside.1)) once
more_once (x ∷ homes) zero onto none once = joined_once onto (x ∷ homes) none once
more_once (x ∷ homes) (suc place) onto none once = joined_once x (insert homes place onto)
    (λ inside. ⊎_elim
    (λ same. none (zero, omega arith, sym same))
    (head_not x homes once)
    (in_inserted homes place onto x inside))
    (more_once homes place onto (λ inside. none (suc inside.0, omega (arith, inside.1), inside.2)) (behind x homes once))

-- ---- the first cell says the index, and pages of it are others

module _ (d : DomainNow) (files : Files) (indexes : IndexesAt) (below : StandsBelow d files indexes) (number : ℕ) (tag : Tag) (chains : Chains) (well : StandsWell number (fileset_now d number chains files)) (first : PlacedCell) (rest : List PlacedCell)
    (is : chains tag ≡ Some (first ∷ rest)) (between space : Spaces) (said pages : Pages) (homes : List Home) (comes : Home → Type 0) (says : SaysIndex number (d.tags number) between d.cells tag chains d.pages said)
    (others : (home : Home) → ¬ Contains (indexes first.at) home → ¬ comes home → pages home ≡ said home) (came : (home : Home) → comes home → Contains homes home × MayTake d.space home) (are : AreIndexHomes pages (Some says.index.first) homes)
    (once : AreOnce homes) (back : (home : Home) → Contains homes home → Contains (indexes first.at) home ⊎ comes home) (on : (home : Home) → Contains (indexes first.at) home → Contains homes home) (spaces : SpacesMove comes NoHome d.space space) where
  abbrev says_it : Cell → Cell
  says_it = says_index (Some says.index)

  abbrev change : List PlacedCell → List PlacedCell
  change = with_first says_it

  abbrev chains_then : Chains
  chains_then = with_chain tag change chains

  -- no page that comes is one of cells or tags
  fresh : (home : Home) → comes home → IsUnheld d files indexes home
  fresh home comes_it = let may = (came home comes_it).1 in unheld_taken d files indexes below.owned home may.0 may.1

  on_table : (home : Home) → Contains (table_of d.cells home.vol) home.page → pages home ≡ said home
  on_table home on_cells =
      others home (λ inside. off_cells d files indexes below number tag chains well first rest is home inside on_cells)
      (λ comes_it. fresh home comes_it of_cells (member_on d files indexes below number tag chains well first rest is home.vol home.page on_cells, on_cells))

  on_tag : (home : Home) → has_home (d.tags number) home ≡ true → pages home ≡ said home
  on_tag home has =
      others home (λ inside. off_tags d files indexes below number tag chains well first rest is number home inside has)
      (λ comes_it. fresh home comes_it (of_tags number) has)

  away : AreTogether number (d.tags number) between d.cells pages chains_then
  away = together_away said pages d.cells on_table number (d.tags number) between chains_then on_tag says.together

  tag_now : chains_then tag ≡ Some (change (first ∷ rest))
  tag_now = chain_same tag change chains tag (same_tag_itself tag) ∙ ap (option_map change) is

  file_now : IsFile pages first.at (change (first ∷ rest))
  file_now = by_cell (cell_of pages (d.tags number) tag) (subst (λ o. IfSome o (LeadsToFile number (d.tags number) pages tag)) tag_now (away.files.some tag)).leads
    where
      by_cell : (o : Option CellAt) → IsSomeAnd o (λ at. IsFile pages at (change (first ∷ rest))) → IsFile pages first.at (change (first ∷ rest))
      by_cell None leads = absurd leads
      by_cell (Some at) leads = (refl, leads.1)

  begins : index_of (change (first ∷ rest)) ≡ Some says.index.first
  begins = ap (option_and_then index_in) (find_put 9 (Some (index_record says.index)) first.cell.records refl)

  changes : ChangesFirst (Some (first ∷ rest)) d.pages said
  changes = subst (λ o. ChangesFirst o d.pages said) is says.first

  pub told : Told d files indexes pages space homes
  told = record {
    number = number;
    tag = tag;
    chains = chains;
    well = well;
    first = first;
    rest = rest;
    is = is;
    says = says_it;
    head = refl;
    beside = index_beside d.pages first rest (file_was d files indexes below number tag chains well first rest is) (Some says.index);
    known = index_known (Some says.index) first.cell d.frame.version (known_was d files indexes below number tag chains well first rest is);
    good = index_good (Some says.index) first.cell d.table (good_was d files indexes below number tag chains well first rest is) (firsts_was d files indexes below number tag chains well first rest is);
    births = λ original. (index_well d.frame.version d.table (Some says.index) first.cell (well_was d files indexes below number tag chains well first rest is original) (firsts_was d files indexes below number tag chains well first rest is)).births;
    firsts = index_firsts (Some says.index) first.cell (firsts_was d files indexes below number tag chains well first rest is);
    file = file_now;
    chains_now = chains_then;
    are = away.files;
    others = chain_other tag change chains;
    whose = inl (tag_now, index_live d.pages first rest (file_was d files indexes below number tag chains well first rest is) (Some says.index));
    comes = comes;
    goes = NoHome;
    cells = λ at on_cells other. ap (λ (o : Option (List ℕ)). cell_at (λ _. o) at) (on_table (home_of at) on_cells) ∙ changes.0 at other;
    stay = λ home off no_tags none no_come. others home none no_come ∙ changes.1 home (off_first d files indexes below number tag chains well first rest is home off);
    belong = away.allocated.belong;
    ends = away.allocated.ends;
    indexed = subst (λ o. AreIndexHomes pages o homes) (sym begins) are;
    once = once;
    back = back;
    on = λ home inside. inl (on home inside);
    came = came;
    gone = λ home none. absurd none;
    spaces = spaces;
  }

  -- as much is left to be done of the file
  same_left : left_of (change (first ∷ rest)) ≡ left_of (first ∷ rest)
  same_left = ap (option_and_then leftover_in) (index_other (Some says.index) first.cell 6 (λ e. omega (arith, e)))

  module _ (contents : Contents) where
    abbrev now : DomainNow
    now = led d files indexes below pages contents space homes told

    abbrev files_then : Files
    files_then = files_now d files indexes below pages contents space homes told

    abbrev indexes_then : IndexesAt
    indexes_then = indexes_now d files indexes below pages contents space homes told

    on_list : IsToDo files_then first.at → IsOnList now first.at
    unfolding told
    on_list left =
        let there = there_was d files indexes below number tag chains well first rest is in
        let was_left : IsToDo files first.at = ap (λ o. is_some (option_and_then left_of o)) there ∙ sym (ap is_some same_left) ∙ sym (ap (λ o. is_some (option_and_then left_of o)) (there_now d files indexes below pages contents space homes told)) ∙ left in
        let on_it = below.chains.to_do first.at was_left in
        (on_it.0, on_it.1, on_it.2)

    pub set_stands : StandsBelow now files_then indexes_then
    unfolding told
    set_stands = record {
      tables = tables_told d files indexes below pages contents space homes told;
      chains = chains_all now files_then indexes_then first.at (chains_told d files indexes below pages contents space homes told) on_list;
      owned = owned_told d files indexes below pages contents space homes told;
      rest = rest_told d files indexes below pages contents space homes told;
    }

    pub set_slot : ((home : Home) → pages home ≡ d.pages home → contents home ≡ d.contents home) → (n : ℕ) → ¬ n ≡ number → (entry_of_it : FilesetEntry) (shape : FilesetShape) (fileset : FilesetSlot) → item_in d n ≡ Some (slot.Original entry_of_it) → StandsSlot d n entry_of_it shape fileset → StandsSlot now n entry_of_it shape fileset
    unfolding told
    set_slot bytes n differ entry_of_it shape fileset there stood = slot_told d files indexes below pages contents space homes told bytes n differ set_stands entry_of_it shape fileset there stood

-- ---- the file of a tag

-- which it is
pub record IsChain (chains : Chains) (tag : Tag) (start : CellAt) : Type 0 where
  pub first : PlacedCell
  pub rest : List PlacedCell
  pub is : chains tag ≡ Some (first ∷ rest)
  pub at : first.at ≡ start

pub chain_at : (chains : Chains) (tag : Tag) (start : CellAt) → option_and_then start_of (chains tag) ≡ Some start → IsChain chains tag start
chain_at chains tag start begins = by_chain (chains tag) refl begins
  where
    by_chain : (o : Option (List PlacedCell)) → chains tag ≡ o → option_and_then start_of o ≡ Some start → IsChain chains tag start
    by_chain None is none = absurd (none_not start none)
    by_chain (Some []) is none = absurd (none_not start none)
    by_chain (Some (first ∷ rest)) is same = record { first = first; rest = rest; is = is; at = some_same first.at start same }

-- ---- a page is written in place

module _ (number : ℕ) (tag : Tag) (d now : DomainNow) (chains : Chains) (files : Files) (indexes : IndexesAt) (page : ℕ) (bytes : List ℕ) (below : StandsBelow d files indexes) (same : KeepsTables d now) (same_space : now.space ≡ d.space) where
  module _ (first : PlacedCell) (rest : List PlacedCell) (is : chains tag ≡ Some (first ∷ rest)) (names : NamesFile number tag first.at d chains files) (writes : WritesIndexPage number (d.tags number) d.space d.cells tag page bytes chains (indexes first.at) d.pages now.pages) where
    abbrev says : Cell → Cell
    says = says_index (Some writes.says.index)

    stands : StandsBelow (record d { pages = now.pages; contents = now.contents; space = now.space }) (with_file first.at (Some (with_first says (first ∷ rest))) files) (with_index_at first.at (indexes first.at) indexes)
    unfolding told
    stands = set_stands d files indexes below number tag chains names.well first rest is d.space now.space writes.said now.pages (indexes first.at) NoHome writes.says
        (λ home none no_come. writes.puts.others home (λ at. none (get_in (indexes first.at) page home at)))
        (λ home none. absurd none) writes.puts.are (once_was d files indexes below number tag chains names.well first rest is)
        (λ home inside. inl inside) (λ home inside. inside) (moves_same d.space now.space same_space) now.contents

    -- the same indexes, and the file as the domain has it
    same_indexes : with_index_at first.at (indexes first.at) indexes ≡ indexes
    same_indexes = λ i at. by_test at (is_at at first.at) refl i
      where
        by_test : (at : CellAt) (b : Bool) → is_at at first.at ≡ b → with_index_at first.at (indexes first.at) indexes at ≡ indexes at
        by_test at true here = ap (λ (b : Bool). cond b (indexes first.at) (indexes at)) here ∙ ap indexes (sym (at_same at first.at here))
        by_test at false other = ap (λ (b : Bool). cond b (indexes first.at) (indexes at)) other

    pub written_first : StandsBelow now (with_said first.at says files) indexes
    written_first =
        subst (λ (x : DomainNow). StandsBelow x (with_said first.at says files) indexes) (sym same)
        (subst (StandsBelow (record d { pages = now.pages; contents = now.contents; space = now.space }) (with_said first.at says files)) same_indexes
        (subst (λ o. StandsBelow (record d { pages = now.pages; contents = now.contents; space = now.space }) (with_file first.at (option_map (with_first says) o) files) (with_index_at first.at (indexes first.at) indexes))
        (sym (there_was d files indexes below number tag chains names.well first rest is)) stands))

    slots_written : OthersStand number d now
    unfolding told
    slots_written bytes n differ other shape fileset there stood =
        subst (λ (x : DomainNow). StandsSlot x n other shape fileset) (sym same)
        (set_slot d files indexes below number tag chains names.well first rest is d.space now.space writes.said now.pages (indexes first.at) NoHome writes.says
        (λ home none no_come. writes.puts.others home (λ at. none (get_in (indexes first.at) page home at)))
        (λ home none. absurd none) writes.puts.are (once_was d files indexes below number tag chains names.well first rest is)
        (λ home inside. inl inside) (λ home inside. inside) (moves_same d.space now.space same_space) now.contents bytes n differ other shape fileset there stood)

  pub written : (start : CellAt) → NamesFile number tag start d chains files → (writes : WritesIndexPage number (d.tags number) d.space d.cells tag page bytes chains (indexes start) d.pages now.pages) → StandsBelow now (with_said start (says_index (Some writes.says.index)) files) indexes
  written start names = by_start (chain_at chains tag start names.begins)
    where
      by_start : IsChain chains tag start → (writes : WritesIndexPage number (d.tags number) d.space d.cells tag page bytes chains (indexes start) d.pages now.pages) → StandsBelow now (with_said start (says_index (Some writes.says.index)) files) indexes
      by_start c = subst
          (λ (a : CellAt). (writes : WritesIndexPage number (d.tags number) d.space d.cells tag page bytes chains (indexes a) d.pages now.pages) → StandsBelow now (with_said a (says_index (Some writes.says.index)) files) indexes)
          c.at
          (written_first c.first c.rest c.is (subst (λ (a : CellAt). NamesFile number tag a d chains files) (sym c.at) names))

  pub written_slots : (start : CellAt) → NamesFile number tag start d chains files → WritesIndexPage number (d.tags number) d.space d.cells tag page bytes chains (indexes start) d.pages now.pages → OthersStand number d now
  written_slots start names = by_start (chain_at chains tag start names.begins)
    where
      by_start : IsChain chains tag start → WritesIndexPage number (d.tags number) d.space d.cells tag page bytes chains (indexes start) d.pages now.pages → OthersStand number d now
      by_start c = subst (λ (a : CellAt). WritesIndexPage number (d.tags number) d.space d.cells tag page bytes chains (indexes a) d.pages now.pages → OthersStand number d now) c.at
          (slots_written c.first c.rest c.is (subst (λ (a : CellAt). NamesFile number tag a d chains files) (sym c.at) names))

-- ---- a page is put in

module _ (number : ℕ) (tag : Tag) (d now : DomainNow) (chains : Chains) (files : Files) (indexes : IndexesAt) (place prefer : ℕ) (bytes : List ℕ) (below : StandsBelow d files indexes) (same : KeepsTables d now) where
  module _ (first : PlacedCell) (rest : List PlacedCell) (is : chains tag ≡ Some (first ∷ rest)) (names : NamesFile number tag first.at d chains files) (adds : AddsIndexPage number (d.tags number) d.cells tag place bytes prefer chains (indexes first.at) d.space now.space d.pages now.pages) where
    abbrev says_more : Cell → Cell
    says_more = says_index (Some adds.says.index)

    abbrev more : List Home
    more = insert (indexes first.at) place adds.home

    abbrev chains_more : Chains
    chains_more = with_chain tag (with_first says_more) chains

    tag_more : chains_more tag ≡ Some (with_first says_more (first ∷ rest))
    tag_more = chain_same tag (with_first says_more) chains tag (same_tag_itself tag) ∙ ap (option_map (with_first says_more)) is

    begins_more : index_of (with_first says_more (first ∷ rest)) ≡ Some adds.says.index.first
    begins_more = ap (option_and_then index_in) (find_put 9 (Some (index_record adds.says.index)) first.cell.records refl)

    -- the new page is of the index then, which stands on volumes that there are
    low : 1 ≤ adds.home.vol
    low = low_from now.pages (Some adds.says.index.first) more adds.inserts.are
        (subst (λ o. IfSome o (λ (h : Home). 1 ≤ h.vol)) begins_more
        (begins_low adds.said (record { at = first.at; cell = says_more first.cell }) rest (are_file number (d.tags number) adds.said chains_more adds.says.together.files tag (record { at = first.at; cell = says_more first.cell }) rest tag_more)))
        adds.home (in_more (indexes first.at) place adds.home)

    not_in : ¬ Contains (indexes first.at) adds.home
    not_in inside =
        let it = in_get (indexes first.at) adds.home inside in
        unheld_taken d files indexes below.owned adds.home low adds.free (of_index first.at it.0) it.1

    stands_more : StandsBelow (record d { pages = now.pages; contents = now.contents; space = now.space }) (with_file first.at (Some (with_first says_more (first ∷ rest))) files) (with_index_at first.at more indexes)
    unfolding told
    stands_more = set_stands d files indexes below number tag chains names.well first rest is now.space now.space adds.said now.pages more (Is adds.home) adds.says
        (λ home none no_come. adds.inserts.others home none (false_from_ne_true (same_home home adds.home) (λ here. no_come (homes_same home adds.home here))))
        (λ home here. (subst (Contains more) (sym here) (in_more (indexes first.at) place adds.home), subst (MayTake d.space) (sym here) (low, adds.free)))
        adds.inserts.are
        (more_once (indexes first.at) place adds.home not_in (once_was d files indexes below number tag chains names.well first rest is))
        (λ home inside. ⊎_elim (λ here. inr (sym here)) (λ was. inl was) (in_inserted (indexes first.at) place adds.home home inside))
        (λ home inside. in_still (indexes first.at) place adds.home home inside) (moves_page d.space now.space adds.home low adds.taken) now.contents

    pub added_first : StandsBelow now (with_said first.at says_more files) (with_index_at first.at more indexes)
    added_first =
        subst (λ (x : DomainNow). StandsBelow x (with_said first.at says_more files) (with_index_at first.at more indexes)) (sym same)
        (subst (λ o. StandsBelow (record d { pages = now.pages; contents = now.contents; space = now.space }) (with_file first.at (option_map (with_first says_more) o) files) (with_index_at first.at more indexes))
        (sym (there_was d files indexes below number tag chains names.well first rest is)) stands_more)

    slots_added : OthersStand number d now
    unfolding told
    slots_added bytes n differ other shape fileset there stood =
        subst (λ (x : DomainNow). StandsSlot x n other shape fileset) (sym same)
        (set_slot d files indexes below number tag chains names.well first rest is now.space now.space adds.said now.pages more (Is adds.home) adds.says
        (λ home none no_come. adds.inserts.others home none (false_from_ne_true (same_home home adds.home) (λ here. no_come (homes_same home adds.home here))))
        (λ home here. (subst (Contains more) (sym here) (in_more (indexes first.at) place adds.home), subst (MayTake d.space) (sym here) (low, adds.free)))
        adds.inserts.are
        (more_once (indexes first.at) place adds.home not_in (once_was d files indexes below number tag chains names.well first rest is))
        (λ home inside. ⊎_elim (λ here. inr (sym here)) (λ was. inl was) (in_inserted (indexes first.at) place adds.home home inside))
        (λ home inside. in_still (indexes first.at) place adds.home home inside) (moves_page d.space now.space adds.home low adds.taken) now.contents bytes n differ other shape fileset there stood)

  pub added : (start : CellAt) → NamesFile number tag start d chains files → (adds : AddsIndexPage number (d.tags number) d.cells tag place bytes prefer chains (indexes start) d.space now.space d.pages now.pages)
      → StandsBelow now (with_said start (says_index (Some adds.says.index)) files) (with_index_at start (insert (indexes start) place adds.home) indexes)
  added start names = by_start (chain_at chains tag start names.begins)
    where
      by_start : IsChain chains tag start → (adds : AddsIndexPage number (d.tags number) d.cells tag place bytes prefer chains (indexes start) d.space now.space d.pages now.pages)
          → StandsBelow now (with_said start (says_index (Some adds.says.index)) files) (with_index_at start (insert (indexes start) place adds.home) indexes)
      by_start c = subst
          (λ (a : CellAt). (adds : AddsIndexPage number (d.tags number) d.cells tag place bytes prefer chains (indexes a) d.space now.space d.pages now.pages) → StandsBelow now (with_said a (says_index (Some adds.says.index)) files) (with_index_at a (insert (indexes a) place adds.home) indexes))
          c.at
          (added_first c.first c.rest c.is (subst (λ (a : CellAt). NamesFile number tag a d chains files) (sym c.at) names))

  pub added_slots : (start : CellAt) → NamesFile number tag start d chains files → AddsIndexPage number (d.tags number) d.cells tag place bytes prefer chains (indexes start) d.space now.space d.pages now.pages → OthersStand number d now
  added_slots start names = by_start (chain_at chains tag start names.begins)
    where
      by_start : IsChain chains tag start → AddsIndexPage number (d.tags number) d.cells tag place bytes prefer chains (indexes start) d.space now.space d.pages now.pages → OthersStand number d now
      by_start c = subst (λ (a : CellAt). AddsIndexPage number (d.tags number) d.cells tag place bytes prefer chains (indexes a) d.space now.space d.pages now.pages → OthersStand number d now) c.at
          (slots_added c.first c.rest c.is (subst (λ (a : CellAt). NamesFile number tag a d chains files) (sym c.at) names))
