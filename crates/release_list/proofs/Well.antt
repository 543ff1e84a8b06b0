-- A list and files that belong together, before a step and after it.
use Rattle.std.proofs.Common.{◌≡◌, ◌∙◌, ℕ, zero, suc, ◌≤◌, List, [], ◌∷◌, ◌++◌, Option, Some, None, IsSome, IsSomeAnd, Contains, refl, sym, ap, subst, arith, false, ⊎_elim}
use Rattle.std.proofs.lemmas.Bool.{false_from_ne_true, true≢false}
use Rattle.std.specs.List.{AllByRecursion}
use Rattle.std.specs.Option.{option_and_then}
use Rattle.file_release.specs.domain_base.declared.place.CellAt.{CellAt}
use Rattle.file_release.specs.domain_base.declared.place.Home.{Home}
use Rattle.file_release.specs.page_store.Pages.{Pages, same_home}
use Rattle.file_release.specs.page_store.declared.fault.StoreFault.{StoreFault}
use Rattle.file_release.specs.page_store.declared.fault.StoreFault.TheVariants.{NoPage, OutOfMemory}
use Rattle.file_release.specs.cell_records.declared.record.Leftover.{Leftover}
use Rattle.file_release.specs.metadata_cells.CellPage.{home_of}
use Rattle.file_release.specs.metadata_cells.Chain.{PlacedCell, StandsAt}
use Rattle.file_release.proofs.OfMetadataCells.Changed.{homes_same}
use Rattle.file_release.specs.tag_dirs.Directory.{Unlinks}
use Rattle.file_release.specs.extent_maps.declared.run.PagePlace.TheVariants.{At}
use Rattle.file_release.specs.free_cells.Cells.{Cells, table_of}
use Rattle.file_release.specs.free_space.declared.waiting.PageUse.TheVariants.{Metadata}
use Rattle.file_release.specs.free_space.Spaces.{Spaces, missed}
use Rattle.file_release.specs.file_chains.Allocated.{FindsNone}
use Rattle.file_release.specs.file_chains.FileChanges.{AreOnTables}
use Rattle.file_release.specs.file_chains.Files.{IsFile}
use Rattle.file_release.proofs.OfFileChains.Allocated.{allocated_missed}
use Rattle.file_release.specs.fileset_files.Together.{IsHeldApart}
use Rattle.file_release.proofs.OfFilesetFiles.Created.{allocated_beside, stands_by_page}
use Rattle.file_release.specs.declared.reader.Reader.{Reader}
use Rattle.file_release.specs.Releases.{AreAllOnce, with_given}
use Rattle.file_release.specs.Sharing.{AreSharing}
use Rattle.file_release.proofs.Given.{allocated_given, held_given}
use Rattle.release_list.specs.declared.list.Entry.{Entry}
use Rattle.release_list.specs.Listed.{IsEntry, IsListed, from_by, left_of, stale_from}
use Rattle.release_list.specs.Listing.{Listing}
use Rattle.release_list.specs.Standing.{Files, IsStanding, ReadsThrough, Source, StandTogether, source_of}
use Rattle.release_list.specs.Steps.{HasEntry, HasFileEntry, IsGiven, IsWell, ReadsFrozen, TakesTagPage, last_home, now_of}
use Rattle.release_list.proofs.Lists.{home_not_last, homes_front, in_start, last_in, last_inside}
use Rattle.release_list.proofs.Spread.{sharing}
use Rattle.release_list.proofs.Standings.{chain_by, each_from, low_home, source_file, stand_chain, standing}

-- ---- nothing was done

well_missed : (list : Listing) (files : Files) (space : Spaces) (cells : Cells) (pages : Pages) → IsWell (now_of list files space cells pages) → IsWell (now_of list files (missed space) cells pages)
well_missed list files space cells pages well = record {
  together = record {
    allocated = allocated_missed space cells pages well.together.allocated;
    each = well.together.each;
    apart = well.together.apart;
    held = λ a p home there. kept home (well.together.held a p home there);
    once = well.together.once;
    one_deep = well.together.one_deep;
  };
  listed = record {
    each = well.listed.each;
    once = well.listed.once;
    order = well.listed.order;
    pages_once = well.listed.pages_once;
    pages_low = well.listed.pages_low;
    pages_held = λ home inside. kept home (well.listed.pages_held home inside);
    pages_apart = well.listed.pages_apart;
  };
}
  where
    kept : (home : Home) → IsHeldApart space cells home → IsHeldApart (missed space) cells home
    kept home is = record { held = is.held; off_table = is.off_table }

pub well_still : (fault : StoreFault) (list : Listing) (files : Files) (space space_now : Spaces) (cells : Cells) (pages : Pages) → FindsNone space space_now cells fault → IsWell (now_of list files space cells pages) → IsWell (now_of list files space_now cells pages)
well_still NoPage list files space space_now cells pages none well = subst (λ s. IsWell (now_of list files s cells pages)) (sym none.2) (well_missed list files space cells pages well)
well_still OutOfMemory list files space space_now cells pages none well = subst (λ s. IsWell (now_of list files s cells pages)) (sym none) well

-- ---- a page of a tag directory goes

module _ (group : ℕ) (list list_now : Listing) (files : Files) (space space_now : Spaces) (cells : Cells) (pages pages_now : Pages) (well : IsWell (now_of list files space cells pages)) (takes : TakesTagPage group list list_now space space_now pages pages_now) where
  there : Contains list.tag_pages takes.home
  there = subst (λ (hs : List Home). Contains hs takes.home) (sym takes.last) (last_in takes.front takes.home)

  before : (home : Home) → Contains takes.front home → Contains list.tag_pages home
  before home inside = subst (λ (hs : List Home). Contains hs home) (sym takes.last) (in_start takes.front (takes.home ∷ []) home inside)

  only : (home : Home) → Contains (takes.home ∷ []) home → takes.home ≡ home
  only home (zero, within, is) = is
  only home (suc k, within, is) = absurd (omega (arith, within))

  -- the page in front stands on no table
  page_same : (h : Home) → Contains (table_of cells h.vol) h.page → pages_now h ≡ pages h
  page_same h on = by_front (last_home takes.front) refl takes.unlinks
    where
      apart : (f : Home) → last_home takes.front ≡ Some f → same_home h f ≡ false
      apart f is = false_from_ne_true (same_home h f)
          (λ same. (well.listed.pages_held f (before f (last_inside takes.front f is))).off_table (subst (λ (x : Home). Contains (table_of cells x.vol) x.page) (homes_same h f same) on))

      by_front : (o : Option Home) → last_home takes.front ≡ o → Unlinks o takes.home pages pages_now → pages_now h ≡ pages h
      by_front None is same = ap (λ (ps : Pages). ps h) same
      by_front (Some f) is unlinks = ⊎_elim (λ ends. ends.elsewhere h (apart f is)) (λ other. ap (λ (ps : Pages). ps h) other.same) unlinks

  stand_still : (cs : List PlacedCell) → AreOnTables cells cs → AllByRecursion (λ (c : PlacedCell). StandsAt pages c.at c.cell) cs → AllByRecursion (λ (c : PlacedCell). StandsAt pages_now c.at c.cell) cs
  stand_still [] on stand = tt
  stand_still (c ∷ cs) on stand = (stands_by_page pages pages_now c.at c.cell (page_same (home_of c.at) on.0) stand.0, stand_still cs on.1 stand.1)

  each_still : (a : CellAt) (cs : List PlacedCell) → files a ≡ Some cs → IsStanding cells pages_now a cs
  each_still a cs is =
      let was = standing space cells pages files well.together a cs is in
      record { stands = chain_by pages pages_now a cs (stand_still cs was.on_tables (stand_chain pages a cs was.stands)) was.stands; on_tables = was.on_tables }

  abbrev after : Spaces
  after = with_given Metadata group (takes.home ∷ []) space

  kept : (home : Home) → 1 ≤ home.vol → ¬ takes.home ≡ home → IsHeldApart space cells home → IsHeldApart after cells home
  kept home low other is = record {
    held = held_given Metadata group (takes.home ∷ []) space home (λ x inside. subst (λ (h : Home). 1 ≤ h.vol) (only x inside) (well.listed.pages_low takes.home there)) low (λ inside. other (only home inside)) is.held;
    off_table = is.off_table;
  }

  together_after : StandTogether after cells pages_now files
  together_after = record {
    allocated = allocated_beside after cells pages pages_now page_same (allocated_given Metadata group (takes.home ∷ []) space cells pages
        (λ x inside. subst (λ (h : Home). 1 ≤ h.vol) (only x inside) (well.listed.pages_low takes.home there))
        (λ x inside on. (subst (IsHeldApart space cells) (only x inside) (well.listed.pages_held takes.home there)).off_table on)
        well.together.allocated);
    each = each_from cells pages_now files each_still;
    apart = well.together.apart;
    held = λ a p home is. kept home (low_home space cells pages files well.together a p home is) (λ same. well.listed.pages_apart takes.home there a p (is ∙ ap At (sym same))) (well.together.held a p home is);
    once = well.together.once;
    one_deep = well.together.one_deep;
  }

  once_now : AreAllOnce (takes.front ++ takes.home ∷ [])
  once_now = subst AreAllOnce takes.last well.listed.pages_once

  listed_after : IsListed after cells files (record { entries = list.entries; tag_pages = takes.front })
  listed_after = record {
    each = well.listed.each;
    once = well.listed.once;
    order = well.listed.order;
    pages_once = homes_front takes.front takes.home once_now;
    pages_low = λ home inside. well.listed.pages_low home (before home inside);
    pages_held = λ home inside. kept home (well.listed.pages_low home (before home inside))
        (λ same. home_not_last takes.front takes.home once_now (subst (Contains takes.front) (sym same) inside))
        (well.listed.pages_held home (before home inside));
    pages_apart = λ home inside. well.listed.pages_apart home (before home inside);
  }

  pub tag_page_well : IsWell (now_of list_now files space_now cells pages_now)
  tag_page_well =
      subst (λ (l : Listing). IsWell (now_of l files space_now cells pages_now)) (sym takes.is)
      (subst (λ (s : Spaces). IsWell (now_of (record { entries = list.entries; tag_pages = takes.front }) files s cells pages_now)) (sym takes.waits)
      (record { together = together_after; listed = listed_after }))

-- ---- what is known of the last entry

-- the chain of its file, and its reader's
pub record IsReady (files : Files) (entry : Entry) (left : Option Leftover) (from : ℕ) (reader : Option Reader) (space : Spaces) (cells : Cells) (pages : Pages) : Type 0 where
  pub is_entry : IsEntry files entry
  pub chain : List PlacedCell
  pub is : files entry.at ≡ Some chain
  pub file : IsFile pages entry.at chain
  pub left_is : left_of chain ≡ left
  pub from_is : from ≡ stale_from chain
  pub own : List PlacedCell
  pub given : IsGiven files entry.clone reader own
  pub shares : AreSharing entry.at reader space cells pages chain own

pub chain_of : (files : Files) (at : CellAt) → IsSome (files at) → (chain : List PlacedCell) × (files at ≡ Some chain)
chain_of files at some = by_chain (files at) refl some
  where
    by_chain : (o : Option (List PlacedCell)) → files at ≡ o → IsSome o → (chain : List PlacedCell) × (files at ≡ Some chain)
    by_chain None is some = absurd (true≢false (sym some))
    by_chain (Some cs) is some = (cs, is)

-- the chain of a file that reads through another
pub source_chain : (files : Files) (clone at : CellAt) → ReadsThrough files clone at → (own : List PlacedCell) × (files clone ≡ Some own) × IsSome (source_of own)
source_chain files clone at reads = by_chain (files clone) refl reads
  where
    some_of : (o : Option Source) → IsSomeAnd o (λ source. source.at ≡ at) → IsSome o
    some_of None is = absurd is
    some_of (Some s) is = refl

    by_chain : (o : Option (List PlacedCell)) → files clone ≡ o → IsSomeAnd (option_and_then source_of o) (λ source. source.at ≡ at) → (own : List PlacedCell) × (files clone ≡ Some own) × IsSome (source_of own)
    by_chain None is reads = absurd reads
    by_chain (Some cs) is reads = (cs, is, some_of (source_of cs) reads)

given_of : (files : Files) (entry : Entry) (reader : Option Reader) (space : Spaces) (cells : Cells) (pages : Pages) → StandTogether space cells pages files → IsEntry files entry → (entry.clone ≡ None → reader ≡ None)
    → ((at : CellAt) (own : List PlacedCell) → entry.clone ≡ Some at → IsFile pages at own → IsSome (source_of own) → ReadsFrozen at own reader) → (own : List PlacedCell) × IsGiven files entry.clone reader own
given_of files entry reader space cells pages together is_entry none some = by_clone entry.clone refl
  where
    by_reader : (at : CellAt) (own : List PlacedCell) → files at ≡ Some own → (r : Option Reader) → ReadsFrozen at own r → IsGiven files (Some at) r own
    by_reader at own is None reads = absurd reads
    by_reader at own is (Some r) reads = (reads.0, is, reads.1)

    by_clone : (o : Option CellAt) → entry.clone ≡ o → (own : List PlacedCell) × IsGiven files entry.clone reader own
    by_clone None is = ([], subst (λ o. IsGiven files o reader []) (sym is) (subst (λ r. IsGiven files None r []) (sym (none is)) refl))
    by_clone (Some at) is =
        let c = source_chain files at entry.at (is_entry.given at is) in
        (c.0, subst (λ o. IsGiven files o reader c.0) (sym is) (by_reader at c.0 c.1 reader (some at c.0 is (source_file pages at c.0 (standing space cells pages files together at c.0 c.1).stands c.2) c.2)))

-- an entry that is of a file, whatever chain is its
pub as_file : (list : Listing) (front : List Entry) (files : Files) (entry : Entry) (space : Spaces) (cells : Cells) (pages : Pages) → HasFileEntry front entry (now_of list files space cells pages) → (chain : List PlacedCell) → files entry.at ≡ Some chain → IsFile pages entry.at chain
as_file list front files entry space cells pages has chain is = has.file chain is

pub ready : (list : Listing) (front : List Entry) (files : Files) (entry : Entry) (left : Option Leftover) (from : ℕ) (reader : Option Reader) (space : Spaces) (cells : Cells) (pages : Pages) → HasEntry front entry (now_of list files space cells pages) → ((chain : List PlacedCell) → files entry.at ≡ Some chain → IsFile pages entry.at chain)
    → ((chain : List PlacedCell) → IsFile pages entry.at chain → left ≡ left_of chain) → ((chain : List PlacedCell) → IsFile pages entry.at chain → from ≡ from_by left chain) → (entry.clone ≡ None → reader ≡ None)
    → ((at : CellAt) (own : List PlacedCell) → entry.clone ≡ Some at → IsFile pages at own → IsSome (source_of own) → ReadsFrozen at own reader) → IsReady files entry left from reader space cells pages
ready list front files entry left from reader space cells pages has kind lefts froms none some =
    let is_entry = has.well.listed.each entry (subst (λ (es : List Entry). Contains es entry) (sym has.last) (last_in front entry)) in
    let c = chain_of files entry.at is_entry.there in
    let file = kind c.0 c.1 in
    let given = given_of files entry reader space cells pages has.well.together is_entry none some in
    record {
      is_entry = is_entry;
      chain = c.0;
      is = c.1;
      file = file;
      left_is = sym (lefts c.0 file);
      from_is = froms c.0 file ∙ ap (λ o. from_by o c.0) (lefts c.0 file);
      own = given.0;
      given = given.1;
      shares = sharing space cells pages files has.well.together entry is_entry c.0 c.1 file reader given.0 given.1;
    }
