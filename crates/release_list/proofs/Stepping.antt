-- The steps of the last entry, each with what it leaves.
use Rattle.std.proofs.Common.{◌≡◌, ◌∙◌, inl, ℕ, false, List, [], ◌∷◌, ◌++◌, Option, Some, None, IsSome, Contains, refl, sym, subst}
use Rattle.std.proofs.lemmas.Bool.{true≢false}
use Rattle.std.specs.Option.{option_and_then}
use Rattle.file_release.specs.domain_base.declared.place.CellAt.{CellAt}
use Rattle.file_release.specs.domain_base.declared.place.Home.{Home}
use Rattle.file_release.specs.domain_base.declared.version.Version.{Version}
use Rattle.file_release.specs.page_store.Pages.{Pages, same_home}
use Rattle.file_release.specs.cell_records.declared.record.Record.{Record}
use Rattle.file_release.specs.cell_records.declared.record.Leftover.{Leftover}
use Rattle.file_release.specs.cell_records.declared.record.Leftover.TheVariants.{Remove, Trim}
use Rattle.file_release.specs.metadata_cells.CellPage.{IsUsedAt, KeepsHeaders, KeepsWellFormed, home_of}
use Rattle.file_release.specs.metadata_cells.Cell.{Cell, record_of}
use Rattle.file_release.specs.metadata_cells.Chain.{LeavesOthers, PlacedCell, StandsAt, is_at}
use Rattle.file_release.specs.free_cells.Cells.{Cells, FreesCell, table_of}
use Rattle.file_release.specs.free_space.Spaces.{Spaces}
use Rattle.file_release.specs.file_chains.Allocated.{AreAllocated}
use Rattle.file_release.specs.file_chains.Files.{IsFile}
use Rattle.file_release.specs.file_chains.MapChanges.{ChangesAtMost, LeavesOffTables}
use Rattle.file_release.proofs.OfFileChains.Added.{off_table, used_of}
use Rattle.file_release.proofs.OfFileChains.FewPages.{one_changes}
use Rattle.file_release.specs.fileset_files.Changes.{with_first}
use Rattle.file_release.specs.declared.reader.Reader.{Reader}
use Rattle.file_release.specs.declared.released.Released.{Released}
use Rattle.file_release.specs.Releases.{LacksPlace, LeavesBoth, Releases}
use Rattle.file_release.specs.Sharing.{IsReleased, frozen_of}
use Rattle.release_list.specs.declared.list.Entry.{Entry}
use Rattle.release_list.specs.declared.went.Went.TheVariants as went
use Rattle.release_list.specs.Listed.{GoesWhole, IsListed, from_by, left_of}
use Rattle.release_list.specs.Listing.{Listing}
use Rattle.release_list.specs.Standing.{Files, IsFileOrQuotas, IsStanding, source_in, source_of, with_file}
use Rattle.release_list.specs.Steps.{HasEntry, HasRecord, IsEnding, IsEndingWhole, IsWell, LacksRoom, Leaves, Now, TakesTagPage, file_ends, list_after, now_of, pages_go, reading_ends, says_no_source, says_trimmed, tag_page_goes, trim_ends}
use Rattle.release_list.proofs.Ends.{alone_listed, alone_together, gone_listed, gone_together, trim_listed, trim_together}
use Rattle.release_list.proofs.Lists.{last_in}
use Rattle.release_list.proofs.Spread.{now, some_same, spread_listed, spread_together}
use Rattle.release_list.proofs.Standings.{linked_at, not_nil, source_file, standing, trim_file}
use Rattle.release_list.proofs.Well.{IsReady, source_chain, tag_page_well}

-- pages or a cell went
pub part_went : (group : ℕ) (version : Version) (list : Listing) (front : List Entry) (files : Files) (entry : Entry) (left : Option Leftover) (from : ℕ) (reader : Option Reader) (space space_now : Spaces) (cells cells_now : Cells) (old new : Pages) (what : Released)
    → HasEntry front entry (now_of list files space cells old) → (ready : IsReady files entry left from reader space cells old) → Releases from entry.at reader group version ready.chain ready.own space space_now cells cells_now old new what
    → LeavesBoth cells ready.chain ready.own old new → LeavesOffTables cells_now old new → AreAllocated space_now cells_now new
    → Leaves group version (now_of list files space cells old) (list_after went.Part front entry list) space_now cells_now new
part_went group version list front files entry left from reader space space_now cells cells_now old new what has ready releases others elsewhere allocated =
    let r = subst (λ (n : ℕ). Releases n entry.at reader group version ready.chain ready.own space space_now cells cells_now old new what) ready.from_is releases in
    record {
      files = now space cells old files has.well.together entry ready.is_entry ready.chain ready.is ready.file reader ready.own ready.given group version space_now cells_now new what r others allocated;
      step = pages_go (record {
        front = front;
        entry = entry;
        last = has.last;
        chain = ready.chain;
        is = ready.is;
        file = ready.file;
        reader = reader;
        own = ready.own;
        given = ready.given;
        what = what;
        releases = r;
        files = refl;
        same_list = refl;
        allocated = allocated;
        others = others;
        elsewhere = elsewhere;
      });
      well = record {
        together = spread_together space cells old files has.well.together entry ready.is_entry ready.chain ready.is ready.file reader ready.own ready.given group version space_now cells_now new what r others allocated;
        listed = spread_listed space cells old files has.well.together entry ready.is_entry ready.chain ready.is ready.file reader ready.own ready.given group version space_now cells_now new what r others allocated list has.well.listed;
      };
    }

-- the list of an entry that is its last
pub listed_as : (space : Spaces) (cells : Cells) (files : Files) (list : Listing) (front : List Entry) (entry : Entry) → list.entries ≡ front ++ entry ∷ [] → IsListed space cells files list → IsListed space cells files (record { entries = front ++ entry ∷ []; tag_pages = list.tag_pages })
listed_as space cells files list front entry last listed = subst (λ (es : List Entry). IsListed space cells files (record { entries = es; tag_pages = list.tag_pages })) last listed

-- ---- a file that goes as a whole

pub whole_from : (o : Option Leftover) (chain : List PlacedCell) → ¬ o ≡ Some Trim → from_by o chain ≡ 0
whole_from None chain whole = refl
whole_from (Some Remove) chain whole = refl
whole_from (Some Trim) chain whole = absurd (whole refl)

pub ending_whole : (front : List Entry) (entry : Entry) (left : Option Leftover) (at : Now) → ¬ left ≡ Some Trim → IsEnding front entry left at → IsEndingWhole front entry at
ending_whole front entry left at whole ending = record {
  has = ending.has;
  chain = ending.chain;
  is = ending.is;
  whole = λ trim. whole (sym ending.left_is ∙ trim);
  done = subst (λ (n : ℕ). IsReleased n ending.chain) (whole_from left ending.chain whole) ending.done;
}

-- a first cell stands at its place
pub first_stands : (pages : Pages) (at : CellAt) (first : PlacedCell) (rest : List PlacedCell) → IsFileOrQuotas pages at (first ∷ rest) → StandsAt pages at first.cell
first_stands pages at first rest is = let l = linked_at pages at first rest is in subst (λ (a : CellAt). StandsAt pages a first.cell) l.0 l.1.stands

-- a page on no table is none of a first cell's
off_first : (pages : Pages) (cells : Cells) (at : CellAt) (chain : List PlacedCell) (h : Home) → IsStanding cells pages at chain → ¬ Contains (table_of cells h.vol) h.page → same_home h (home_of at) ≡ false
off_first pages cells at chain h is off = off_table cells at h (on_table chain is) off
  where
    on_table : (chain : List PlacedCell) → IsStanding cells pages at chain → Contains (table_of cells at.vol) at.page
    on_table [] is = absurd (not_nil pages at is.stands)
    on_table (c ∷ rest) is = subst (λ (a : CellAt). Contains (table_of cells a.vol) a.page) (linked_at pages at c rest is.stands).0 is.on_tables.0

-- a trim is done
pub trim_went : (group : ℕ) (version : Version) (list : Listing) (front : List Entry) (files : Files) (entry : Entry) (space : Spaces) (cells : Cells) (old new : Pages) → IsEnding front entry (Some Trim) (now_of list files space cells old)
    → ((cell : Cell) → StandsAt old entry.at cell → StandsAt new entry.at (says_trimmed cell)) → LeavesOthers (is_at entry.at) old new → KeepsWellFormed old new → KeepsHeaders old new → ((home : Home) → same_home home (home_of entry.at) ≡ false → new home ≡ old home)
    → Leaves group version (now_of list files space cells old) (list_after went.Last front entry list) space cells new
trim_went group version list front files entry space cells old new ending stands leaves good headers elsewhere = by_chain ending.chain ending.is ending.left_is ending.done
  where
    by_chain : (chain : List PlacedCell) → files entry.at ≡ Some chain → left_of chain ≡ Some Trim → IsReleased (from_by (Some Trim) chain) chain → Leaves group version (now_of list files space cells old) (list_after went.Last front entry list) space cells new
    by_chain [] is left done = absurd (not_nil old entry.at (standing space cells old files ending.has.well.together entry.at [] is).stands)
    by_chain (first ∷ rest) is left done =
        let file = trim_file old entry.at (first ∷ rest) (standing space cells old files ending.has.well.together entry.at (first ∷ rest) is).stands left in
        let here = stands first.cell (first_stands old entry.at first rest (standing space cells old files ending.has.well.together entry.at (first ∷ rest) is).stands) in
        record {
          files = with_file entry.at (Some (with_first says_trimmed (first ∷ rest))) files;
          step = trim_ends (record {
            front = front;
            entry = entry;
            last = ending.has.last;
            chain = first ∷ rest;
            is = is;
            trim = left;
            done = subst (λ o. IsReleased (from_by o (first ∷ rest)) (first ∷ rest)) (sym left) done;
            files = refl;
            list = refl;
            same_space = refl;
            same_cells = refl;
            stands = stands;
            well_formed = good;
            headers = headers;
            others = leaves;
            elsewhere = λ h off. elsewhere h (off_first old cells entry.at (first ∷ rest) h (standing space cells old files ending.has.well.together entry.at (first ∷ rest) is) off);
            few = one_changes old new (home_of entry.at) elsewhere;
          });
          well = record {
            together = trim_together space cells old new files ending.has.well.together front entry list.tag_pages first rest is file leaves here good headers;
            listed = trim_listed space cells old new files ending.has.well.together front entry list.tag_pages first rest is file leaves here good headers (listed_as space cells files list front entry ending.has.last ending.has.well.listed);
          };
        }

-- the clone's first cell says through which file it reads
pub clone_record : (list : Listing) (front : List Entry) (files : Files) (entry : Entry) (space : Spaces) (cells : Cells) (old : Pages) (clone : CellAt) → entry.clone ≡ Some clone → HasEntry front entry (now_of list files space cells old) → HasRecord 2 old clone
clone_record list front files entry space cells old clone given has =
    let entry_is = has.well.listed.each entry (subst (λ (es : List Entry). Contains es entry) (sym has.last) (last_in front entry)) in
    let own = source_chain files clone entry.at (entry_is.given clone given) in
    by_own own.0 own.1 own.2
  where
    by_value : (first : PlacedCell) → StandsAt old clone first.cell → (o : Option Record) → record_of 2 first.cell.records ≡ o → IsSome (option_and_then source_in o) → HasRecord 2 old clone
    by_value first stands None is some = absurd (true≢false (sym some))
    by_value first stands (Some value) is some = record { cell = first.cell; stands = stands; value = value; has = is }

    by_own : (own : List PlacedCell) → files clone ≡ Some own → IsSome (source_of own) → HasRecord 2 old clone
    by_own [] is some = absurd (true≢false (sym some))
    by_own (first ∷ rest) is some = by_value first (first_stands old clone first rest (standing space cells old files has.well.together clone (first ∷ rest) is).stands) (record_of 2 first.cell.records) refl some

-- a file's first cell says its attributes
pub entry_record : (list : Listing) (front : List Entry) (files : Files) (entry : Entry) (left : Option Leftover) (space : Spaces) (cells : Cells) (old : Pages) → IsEnding front entry left (now_of list files space cells old) → HasRecord 1 old entry.at
entry_record list front files entry left space cells old ending = by_chain ending.chain ending.is
  where
    by_value : (first : PlacedCell) → StandsAt old entry.at first.cell → (o : Option Record) → record_of 1 first.cell.records ≡ o → IsSome o → HasRecord 1 old entry.at
    by_value first stands None is some = absurd (true≢false (sym some))
    by_value first stands (Some value) is some = record { cell = first.cell; stands = stands; value = value; has = is }

    by_chain : (chain : List PlacedCell) → files entry.at ≡ Some chain → HasRecord 1 old entry.at
    by_chain [] is = absurd (not_nil old entry.at (standing space cells old files ending.has.well.together entry.at [] is).stands)
    by_chain (first ∷ rest) is =
        let file = subst (IsFile old entry.at) (some_same ending.chain (first ∷ rest) (sym ending.is ∙ is)) ending.file in
        by_value first (first_stands old entry.at first rest (inl file)) (record_of 1 first.cell.records) refl file.1.attributes

-- a clone reads through its source no more
pub reading_went : (group : ℕ) (version : Version) (list : Listing) (front : List Entry) (files : Files) (entry : Entry) (space : Spaces) (cells : Cells) (old new : Pages) (clone : CellAt) → entry.clone ≡ Some clone → IsEndingWhole front entry (now_of list files space cells old)
    → ((cell : Cell) → StandsAt old clone cell → StandsAt new clone (says_no_source cell)) → LeavesOthers (is_at clone) old new → KeepsWellFormed old new → KeepsHeaders old new → ((home : Home) → same_home home (home_of clone) ≡ false → new home ≡ old home)
    → Leaves group version (now_of list files space cells old) (list_after went.Reading front entry list) space cells new
reading_went group version list front files entry space cells old new clone given ending stands leaves good headers elsewhere =
    let entry_is = ending.has.well.listed.each entry (subst (λ (es : List Entry). Contains es entry) (sym ending.has.last) (last_in front entry)) in
    let own = source_chain files clone entry.at (entry_is.given clone given) in
    by_own own.0 own.1 own.2
  where
    by_own : (own : List PlacedCell) → files clone ≡ Some own → IsSome (source_of own) → Leaves group version (now_of list files space cells old) (list_after went.Reading front entry list) space cells new
    by_own [] is some = absurd (not_nil old clone (standing space cells old files ending.has.well.together clone [] is).stands)
    by_own (first ∷ rest) is some =
        let file = source_file old clone (first ∷ rest) (standing space cells old files ending.has.well.together clone (first ∷ rest) is).stands some in
        let here = stands first.cell (first_stands old clone first rest (standing space cells old files ending.has.well.together clone (first ∷ rest) is).stands) in
        let listed = listed_as space cells files list front entry ending.has.last ending.has.well.listed in
        record {
          files = with_file clone (Some (with_first says_no_source (first ∷ rest))) files;
          step = reading_ends (record {
            front = front;
            entry = entry;
            last = ending.has.last;
            chain = ending.chain;
            is = ending.is;
            whole = ending.whole;
            done = ending.done;
            clone = clone;
            given = given;
            own = first ∷ rest;
            own_is = is;
            files = refl;
            list = refl;
            same_space = refl;
            same_cells = refl;
            stands = stands;
            well_formed = good;
            headers = headers;
            others = leaves;
            elsewhere = λ h off. elsewhere h (off_first old cells clone (first ∷ rest) h (standing space cells old files ending.has.well.together clone (first ∷ rest) is) off);
            few = one_changes old new (home_of clone) elsewhere;
          });
          well = record {
            together = alone_together space cells old new files ending.has.well.together front entry list.tag_pages listed clone given first rest is file leaves here good headers;
            listed = alone_listed space cells old new files ending.has.well.together front entry list.tag_pages listed clone given first rest is file leaves here good headers;
          };
        }

-- the first cell of what the last entry is of may be freed
module _ (list : Listing) (front : List Entry) (files : Files) (entry : Entry) (space : Spaces) (cells : Cells) (old : Pages) (ending : IsEndingWhole front entry (now_of list files space cells old)) where
  stood : (chain : List PlacedCell) → IsStanding cells old entry.at chain → (cell : Cell) × StandsAt old entry.at cell × Contains (table_of cells entry.at.vol) entry.at.page
  stood [] is = absurd (not_nil old entry.at is.stands)
  stood (first ∷ rest) is = (
    first.cell,
    first_stands old entry.at first rest is.stands,
    subst (λ (a : CellAt). Contains (table_of cells a.vol) a.page) (linked_at old entry.at first rest is.stands).0 is.on_tables.0,
  )

  there : (cell : Cell) × StandsAt old entry.at cell × Contains (table_of cells entry.at.vol) entry.at.page
  there = stood ending.chain (standing space cells old files ending.has.well.together entry.at ending.chain ending.is)

  pub entry_used : IsUsedAt old entry.at
  entry_used = used_of old entry.at there.0 there.1

  pub entry_on : Contains (table_of cells entry.at.vol) entry.at.page
  entry_on = there.2

-- the last cell of a file, or of quotas, goes
pub cell_went : (group : ℕ) (version : Version) (list : Listing) (front : List Entry) (files : Files) (entry : Entry) (space : Spaces) (cells cells_now : Cells) (old new : Pages) → entry.clone ≡ None → HasEntry front entry (now_of list files space cells old)
    → (chain : List PlacedCell) → files entry.at ≡ Some chain → GoesWhole chain → IsReleased 0 chain → LeavesOthers (is_at entry.at) old new → FreesCell entry.at cells cells_now → AreAllocated space cells_now new → LeavesOffTables cells_now old new → ChangesAtMost 1 old new
    → Leaves group version (now_of list files space cells old) (list_after went.File front entry list) space cells_now new
cell_went group version list front files entry space cells cells_now old new alone has [] is left done leaves frees allocated elsewhere few = absurd (not_nil old entry.at (standing space cells old files has.well.together entry.at [] is).stands)
cell_went group version list front files entry space cells cells_now old new alone has (first ∷ rest) is left done leaves frees allocated elsewhere few =
    let listed = listed_as space cells files list front entry has.last has.well.listed in
    record {
      files = with_file entry.at None files;
      step = file_ends (record {
        front = front;
        entry = entry;
        last = has.last;
        chain = first ∷ rest;
        is = is;
        whole = left;
        done = done;
        alone = alone;
        files = refl;
        list = refl;
        frees = frees;
        same_space = refl;
        allocated = allocated;
        others = leaves;
        elsewhere = elsewhere;
        few = few;
      });
      well = record {
        together = gone_together space cells cells_now old new files has.well.together front entry list.tag_pages listed first rest is leaves frees allocated;
        listed = gone_listed space cells cells_now old new files has.well.together front entry list.tag_pages listed first rest is leaves frees allocated;
      };
    }

pub file_went : (group : ℕ) (version : Version) (list : Listing) (front : List Entry) (files : Files) (entry : Entry) (space : Spaces) (cells cells_now : Cells) (old new : Pages) → entry.clone ≡ None → IsEndingWhole front entry (now_of list files space cells old)
    → LeavesOthers (is_at entry.at) old new → FreesCell entry.at cells cells_now → AreAllocated space cells_now new → LeavesOffTables cells_now old new → ChangesAtMost 1 old new
    → Leaves group version (now_of list files space cells old) (list_after went.File front entry list) space cells_now new
file_went group version list front files entry space cells cells_now old new alone ending leaves frees allocated elsewhere few =
    cell_went group version list front files entry space cells cells_now old new alone ending.has ending.chain ending.is ending.whole ending.done leaves frees allocated elsewhere few

-- ---- from what a step of the chain answers

-- nothing was left of the chain, and nothing has changed
pub ending_now : (list : Listing) (front : List Entry) (files : Files) (entry : Entry) (left : Option Leftover) (from : ℕ) (reader : Option Reader) (space : Spaces) (cells cells_now : Cells) (old new : Pages) → HasEntry front entry (now_of list files space cells old)
    → (ready : IsReady files entry left from reader space cells old) → cells_now ≡ cells → new ≡ old → IsReleased from ready.chain → IsEnding front entry left (now_of list files space cells_now new)
ending_now list front files entry left from reader space cells cells_now old new has ready same_cells same_pages released =
    subst (λ (c : Cells). IsEnding front entry left (now_of list files space c new)) (sym same_cells)
    (subst (λ (p : Pages). IsEnding front entry left (now_of list files space cells p)) (sym same_pages)
    (record {
      has = has;
      chain = ready.chain;
      is = ready.is;
      file = ready.file;
      left_is = ready.left_is;
      done = subst (λ o. IsReleased (from_by o ready.chain) ready.chain) ready.left_is (subst (λ (n : ℕ). IsReleased n ready.chain) ready.from_is released);
    }))

pub left_as : (group : ℕ) (version : Version) (list : Listing) (files : Files) (space space_now : Spaces) (cells cells_between cells_now : Cells) (old between new : Pages) (after : Listing) → space_now ≡ space → cells_between ≡ cells → between ≡ old
    → Leaves group version (now_of list files space cells_between between) after space cells_now new → Leaves group version (now_of list files space cells old) after space_now cells_now new
left_as group version list files space space_now cells cells_between cells_now old between new after same_space same_cells same_pages leaves =
    subst (λ (s : Spaces). Leaves group version (now_of list files space cells old) after s cells_now new) (sym same_space)
    (subst (λ (p : Pages). Leaves group version (now_of list files space cells p) after space cells_now new) same_pages
    (subst (λ (c : Cells). Leaves group version (now_of list files space c between) after space cells_now new) same_cells leaves))

pub lacks_room : (list : Listing) (front : List Entry) (files : Files) (entry : Entry) (left : Option Leftover) (from : ℕ) (reader : Option Reader) (space : Spaces) (cells : Cells) (old : Pages) → HasEntry front entry (now_of list files space cells old)
    → (ready : IsReady files entry left from reader space cells old) → LacksPlace from (frozen_of reader) ready.chain ready.own → LacksRoom list files
lacks_room list front files entry left from reader space cells old has ready lacks = record {
  front = front;
  entry = entry;
  last = has.last;
  chain = ready.chain;
  is = ready.is;
  reader = reader;
  own = ready.own;
  given = ready.given;
  lacks = subst (λ (n : ℕ). LacksPlace n (frozen_of reader) ready.chain ready.own) ready.from_is lacks;
}

-- a page of a tag directory goes
pub tag_page_went : (group : ℕ) (version : Version) (list list_now : Listing) (files : Files) (space space_now : Spaces) (cells : Cells) (pages pages_now : Pages) → IsWell (now_of list files space cells pages) → list.entries ≡ []
    → TakesTagPage group list list_now space space_now pages pages_now → Leaves group version (now_of list files space cells pages) list_now space_now cells pages_now
tag_page_went group version list list_now files space space_now cells pages pages_now well none takes = record {
  files = files;
  step = tag_page_goes (record { no_entry = none; takes = takes; same_files = refl; same_cells = refl });
  well = tag_page_well group list list_now files space space_now cells pages pages_now well takes;
}
