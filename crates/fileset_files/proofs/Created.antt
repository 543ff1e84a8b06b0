-- All belongs together where a file is made: after a cell was handed out, a page of tags was added,
-- and a tag was made to lead to a file of one cell.
use Rattle.std.proofs.Common.{◌≡◌, ◌∙◌, ℕ, ◌+◌, ◌*◌, ◌/◌, ◌%◌, ◌<◌, ◌≤◌, ◌&&◌, not, Bool, true, false, cond, nat_eq, nat_lt, List, [], ◌∷◌, ◌++◌, Option, Some, None, IfSome, IsSome, IsSomeAnd, is_some, unwrap_or, Contains, length, refl, sym, ap, subst, arith, zero, suc, ⊎_elim, ◌⊎◌, inl, inr}
use Rattle.std.proofs.lemmas.Bool.{and_from, and_parts, both_ways, cases_Bool, cases_lt, eq-eqb, eqb-true, false_from_ne_true, or_cases, or_left, or_right, true≢false}
use Rattle.std.proofs.lemmas.List.{append-nil}
use Rattle.std.proofs.lemmas.Nat.{div-mul-add}
use Rattle.std.specs.List.{AllByRecursion}
use Rattle.std.specs.Option.{option_and_then, option_map, option_map_or}
use Rattle.file_chains.specs.domain_base.Page.{zero_bytes}
use Rattle.file_chains.specs.domain_base.declared.place.CellAt.{CellAt}
use Rattle.file_chains.specs.domain_base.declared.place.Home.{Home}
use Rattle.file_chains.specs.domain_base.declared.place.Tag.{Tag}
use Rattle.file_chains.specs.domain_base.declared.version.Version.{Version}
use Rattle.file_chains.specs.page_store.Pages.{Pages, same_home}
use Rattle.file_chains.specs.page_store.Bitfiles.{same_tag}
use Rattle.file_chains.specs.page_store.declared.fault.StoreFault.{StoreFault}
use Rattle.file_chains.specs.page_store.declared.fault.StoreFault.TheVariants.{NoPage, OutOfMemory}
use Rattle.file_chains.specs.metadata_cells.Cell.{Cell}
use Rattle.file_chains.specs.metadata_cells.CellPage.{HasPlace, cell_at, cell_of as bytes_of, home_of, is_cell_page, next_of}
use Rattle.file_chains.specs.cell_records.declared.record.Record.{Record}
use Rattle.file_chains.specs.metadata_cells.Chain.{PlacedCell, StandsAt, is_at, places as places_of_cells, records_of}
use Rattle.file_chains.proofs.OfMetadataCells.Frames.{stands_stays}
use Rattle.file_chains.proofs.OfMetadataCells.Changed.{homes_same}
use Rattle.tag_dirs.specs.declared.dir.TagPlace.{TagPlace}
use Rattle.tag_dirs.specs.declared.page.TagEntry.{TagEntry}
use Rattle.tag_dirs.specs.TagPage.{entry_of, is_takeable}
use Rattle.tag_dirs.specs.Directory.{AddsPage, CanTake as CanTakeTag, IsDirectory, IsNextIndex, RisesTo, SetsTag, cell_for, cell_of, entry_at, has_home, home_with, sequence_of}
use Rattle.tag_dirs.proofs.Slots.{off_slot}
use Rattle.file_chains.specs.extent_maps.declared.run.PagePlace.TheVariants.{Absent, At}
use Rattle.file_chains.specs.extent_maps.Runs.{place_of}
use Rattle.file_chains.specs.extent_records.Rows.{IsPlaced, NoPageTwice, runs_in, runs_of}
use Rattle.file_chains.specs.free_cells.Cells.{Cells, TakesCell, is_free, table_of}
use Rattle.file_chains.specs.free_cells.Belong.{home_at}
use Rattle.file_chains.proofs.OfFreeCells.Belongs.{belong_beside}
use Rattle.file_chains.specs.free_space.VolumeSpace.{with_page, without_page}
use Rattle.file_chains.specs.free_space.Spaces.{CanTake, IsHeld, Spaces, change_volume, missed}
use Rattle.file_chains.specs.Allocated.{AreAllocated, FindsNone, Takes}
use Rattle.file_chains.specs.FileChanges.{AreOnTables, LeavesOtherCells}
use Rattle.file_chains.specs.Files.{IsFile, places_of}
use Rattle.file_chains.proofs.Added.{at_on, not_zeros, stands_taken, taken_elsewhere}
use Rattle.file_chains.proofs.Allocated.{there_is}
use Rattle.file_chains.proofs.ChainChanges.{at_apart, stand_file}
use Rattle.file_chains.proofs.Chosen.{all_at}
use Rattle.file_chains.proofs.MapRecords.{runs_by_map}
use Rattle.file_chains.proofs.Spaces.{given_back, not_held}
use Rattle.file_chains.proofs.Still.{allocated_still}
use Rattle.fileset_files.specs.declared.new_cells.NewFile.{NewFile}
use Rattle.fileset_files.specs.Creation.{AreNew, Creates, CreatesNone, Enters, LeavesBeside, TakesNext, last_sequence, new_head, with_new}
use Rattle.fileset_files.specs.Files.{AreApart, AreFiles, Chains, LeadsToFile, place_at}
use Rattle.fileset_files.specs.Together.{AreTagPages, AreTogether, IsHeldApart}
use Rattle.fileset_files.proofs.Again.{together_missed}
use Rattle.fileset_files.proofs.Given.{one_file}
use Rattle.fileset_files.proofs.Grown.{allocated_taken, apart_taken, on_grown, one_apart, one_tables}
use Rattle.fileset_files.proofs.OneChain.{file_by, same_tag_itself}
use Rattle.fileset_files.proofs.OneFile.{tags_same}
use Rattle.fileset_files.proofs.Tags.{cell_same, directory_same, entry_same, pages_same}

-- ---- the files stay, and what is beside them changes

stand_on : (old new : Pages) (cells : Cells) (cs : List PlacedCell) → ((at : CellAt) (cell : Cell) → StandsAt old at cell → Contains (table_of cells at.vol) at.page → StandsAt new at cell) → AreOnTables cells cs
    → AllByRecursion (λ (c : PlacedCell). StandsAt old c.at c.cell) cs → AllByRecursion (λ (c : PlacedCell). StandsAt new c.at c.cell) cs
stand_on old new cells [] stay on stand = tt
stand_on old new cells (c ∷ cs) stay on stand = (stay c.at c.cell stand.0 on.0, stand_on old new cells cs stay on.1 stand.1)

module _ (old new : Pages) (fileset : ℕ) (places places_now : List TagPlace) (chains : Chains) (space space_now : Spaces) (cells cells_now : Cells) (are : AreTogether fileset places space cells old chains) (directory : IsDirectory new places_now)
    (leads : (t : Tag) → cell_of new places_now t ≡ cell_of old places t) (stay : (at : CellAt) (cell : Cell) → StandsAt old at cell → Contains (table_of cells at.vol) at.page → StandsAt new at cell)
    (grow : (h : Home) → IsHeldApart space cells h → IsHeldApart space_now cells_now h) (tables : (vol p : ℕ) → Contains (table_of cells vol) p → Contains (table_of cells_now vol) p)
    (allocated : AreAllocated space_now cells_now new) (tag_pages : AreTagPages space_now cells_now places_now) (no_tags : (t : Tag) (p : ℕ) (h : Home) → place_at chains t p ≡ At h → has_home places_now h ≡ false) where
  some_beside : (t : Tag) → IfSome (chains t) (LeadsToFile fileset places_now new t)
  some_beside t = by_chain (chains t) (are.files.some t) (are.on_tables t)
    where
      by_cell : (o : Option CellAt) (cs : List PlacedCell) → AreOnTables cells cs → IsSomeAnd o (λ at. IsFile old at cs) → IsSomeAnd o (λ at. IsFile new at cs)
      by_cell None cs on is = is
      by_cell (Some at) cs on is = file_by old new at cs (stand_on old new cells cs stay on (stand_file old at cs is)) is

      by_chain : (o : Option (List PlacedCell)) → IfSome o (LeadsToFile fileset places old t) → IfSome o (AreOnTables cells) → IfSome o (LeadsToFile fileset places_now new t)
      by_chain None some on = tt
      by_chain (Some cs) some on = record {
        leads = subst (λ o. IsSomeAnd o (λ at. IsFile new at cs)) (sym (leads t)) (by_cell (cell_of old places t) cs on some.leads);
        is_of = some.is_of;
        kinds = some.kinds;
      }

  on_beside : (t : Tag) → IfSome (chains t) (AreOnTables cells_now)
  on_beside t = by_chain (chains t) (are.on_tables t)
    where
      by_chain : (o : Option (List PlacedCell)) → IfSome o (AreOnTables cells) → IfSome o (AreOnTables cells_now)
      by_chain None on = tt
      by_chain (Some cs) on = on_grown cells cells_now tables cs on

  pub together_beside : AreTogether fileset places_now space_now cells_now new chains
  together_beside = record {
    files = record { directory = directory; none = λ t none. leads t ∙ are.files.none t none; some = some_beside; apart = are.files.apart };
    allocated = allocated;
    on_tables = on_beside;
    tag_pages = tag_pages;
    file_pages = λ t p h there. record { apart = grow h (are.file_pages t p h there).apart; no_tags = no_tags t p h there };
    once = are.once;
  }

-- ---- a cell is handed out

pub together_taken : (prefer : ℕ) (at : CellAt) (old between : Pages) (fileset : ℕ) (places : List TagPlace) (chains : Chains) (space space_now : Spaces) (cells cells_now : Cells) → 1 ≤ at.vol → AreTogether fileset places space cells old chains
    → Takes prefer at space space_now cells cells_now old between → AreAllocated space_now cells_now between → AreTogether fileset places space_now cells_now between chains
together_taken prefer at old between fileset places chains space space_now cells cells_now low are takes allocated =
    let grow = one_apart prefer space space_now cells cells_now old (record { at = at; between = between; takes = takes }) in
    let elsewhere = taken_elsewhere prefer at space space_now cells cells_now old between low are.allocated takes in
    let same = pages_same old between places (λ h has. elsewhere h (grow h (are.tag_pages h has)).off_table) in
    together_beside old between fileset places places chains space space_now cells cells_now are (directory_same old between places are.files.directory same) (cell_same old between places are.files.directory same)
    (λ q cell stands on. stands_taken prefer at space space_now cells cells_now old between low are.allocated takes q cell on stands) grow
    (one_tables prefer space space_now cells cells_now old (record { at = at; between = between; takes = takes })) allocated (λ h has. grow h (are.tag_pages h has)) (λ t p h there. (are.file_pages t p h there).no_tags)

-- ---- pages that stand on no table change

pub stands_by_page : (old new : Pages) (at : CellAt) (cell : Cell) → new (home_of at) ≡ old (home_of at) → StandsAt old at cell → StandsAt new at cell
stands_by_page old new at cell same stands = record {
  bytes = stands.bytes;
  there = ap (λ o. option_and_then (λ page. cond (is_cell_page page && nat_lt at.cell 28) (Some (bytes_of page at.cell)) None) o) same ∙ stands.there;
  is = stands.is;
}

pub allocated_beside : (space : Spaces) (cells : Cells) (old new : Pages) → ((h : Home) → Contains (table_of cells h.vol) h.page → new h ≡ old h) → AreAllocated space cells old → AreAllocated space cells new
allocated_beside space cells old new same allocated = record {
  belong = belong_beside cells old new (λ vol place within. same (home_at cells vol place) (on_table vol place within)) allocated.belong;
  held = allocated.held;
  table = allocated.table;
  opened = allocated.opened;
  first = allocated.first;
  ends = λ vol place last. subst (λ o. IsSomeAnd o (λ page. next_of page ≡ 0)) (sym (same (home_at cells vol place) (on_table vol place (omega (arith, last))))) (allocated.ends vol place last);
}
  where
    on_table : (vol place : ℕ) → place < length (table_of cells vol) → Contains (table_of cells vol) (home_at cells vol place).page
    on_table vol place within = (place, within, there_is (table_of cells vol) place (home_at cells vol place).page 0 within)

-- ---- a page of tags is added

has_last : (places : List TagPlace) (p : TagPlace) (h : Home) → has_home (places ++ p ∷ []) h ≡ true → (has_home places h ≡ true) ⊎ (same_home h p.home ≡ true)
has_last [] p h has = ⊎_elim (λ this. inr this) (λ none. absurd (true≢false (sym none))) (or_cases (same_home h p.home) false has)
has_last (q ∷ qs) p h has = ⊎_elim
    (λ this. inl (or_left (same_home h q.home) (has_home qs h) this))
    (λ later. ⊎_elim (λ front. inl (or_right (same_home h q.home) (has_home qs h) front)) (λ last. inr last) (has_last qs p h later))
    (or_cases (same_home h q.home) (has_home (qs ++ p ∷ []) h) has)

has_front : (places : List TagPlace) (p : TagPlace) (h : Home) → has_home places h ≡ true → has_home (places ++ p ∷ []) h ≡ true
has_front [] p h has = absurd (true≢false (sym has))
has_front (q ∷ qs) p h has = ⊎_elim
    (λ this. or_left (same_home h q.home) (has_home (qs ++ p ∷ []) h) this)
    (λ later. or_right (same_home h q.home) (has_home (qs ++ p ∷ []) h) (has_front qs p h later))
    (or_cases (same_home h q.home) (has_home qs h) has)

has_end : (places : List TagPlace) (p : TagPlace) (h : Home) → same_home h p.home ≡ true → has_home (places ++ p ∷ []) h ≡ true
has_end [] p h same = or_left (same_home h p.home) false same
has_end (q ∷ qs) p h same = or_right (same_home h q.home) (has_home (qs ++ p ∷ []) h) (has_end qs p h same)

module _ (old new : Pages) (places : List TagPlace) (p : TagPlace) (unused : home_with places p.index ≡ None) (adds : AddsPage p places old new) where
  leads_added : (t : Tag) → cell_of new (places ++ p ∷ []) t ≡ cell_of old places t
  leads_added t = ap (option_and_then (cell_for t.seq)) (adds.entries t.slot) ∙ by_index (nat_eq (t.slot / 1022) p.index) refl
    where
      no_at : Option CellAt
      no_at = None

      no_cell : (b : Bool) → cond b no_at no_at ≡ no_at
      no_cell true = refl
      no_cell false = refl

      by_index : (b : Bool) → nat_eq (t.slot / 1022) p.index ≡ b → option_and_then (cell_for t.seq) (cond b (Some (record { seq = 0; at = None })) (entry_at old places t.slot)) ≡ cell_of old places t
      by_index false other = refl
      by_index true same =
          no_cell (nat_eq 0 t.seq)
          ∙ sym (ap (λ o. option_and_then (cell_for t.seq) (option_map (λ page. entry_of page (t.slot % 1022)) (option_and_then old o)))
          (ap (home_with places) (eqb-true (t.slot / 1022) p.index same) ∙ unused))

  last_added : (s : ℕ) → last_sequence new (places ++ p ∷ []) s ≡ last_sequence old places s
  last_added s = ap (λ o. unwrap_or (option_map (λ (e : TagEntry). e.seq) o) 0) (adds.entries s) ∙ by_index (nat_eq (s / 1022) p.index) refl
    where
      by_index : (b : Bool) → nat_eq (s / 1022) p.index ≡ b → unwrap_or (option_map (λ (e : TagEntry). e.seq) (cond b (Some (record { seq = 0; at = None })) (entry_at old places s))) 0 ≡ last_sequence old places s
      by_index false other = refl
      by_index true same =
          sym (ap (λ o. unwrap_or (option_map (λ (e : TagEntry). e.seq) (option_map (λ page. entry_of page (s % 1022)) (option_and_then old o))) 0)
          (ap (home_with places) (eqb-true (s / 1022) p.index same) ∙ unused))

  module _ (fileset : ℕ) (chains : Chains) (space : Spaces) (cells : Cells) (are : AreTogether fileset places space cells old chains) (apart : IsHeldApart space cells p.home) (nowhere : (t : Tag) (q : ℕ) → ¬ place_at chains t q ≡ At p.home) where
    on_same : (h : Home) → Contains (table_of cells h.vol) h.page → new h ≡ old h
    on_same h on = adds.elsewhere h
        (false_from_ne_true (has_home places h) (λ has. (are.tag_pages h has).off_table on))
        (false_from_ne_true (same_home h p.home) (λ same. apart.off_table (subst (λ (h : Home). Contains (table_of cells h.vol) h.page) (homes_same h p.home same) on)))

    pub together_added : AreTogether fileset (places ++ p ∷ []) space cells new chains
    together_added =
        together_beside old new fileset places (places ++ p ∷ []) chains space space cells cells are adds.directory leads_added (λ at cell stands on. stands_by_page old new at cell (on_same (home_of at) on) stands) (λ h held. held) (λ vol q on. on)
        (allocated_beside space cells old new on_same are.allocated)
        (λ h has. ⊎_elim (λ front. are.tag_pages h front) (λ last. subst (IsHeldApart space cells) (sym (homes_same h p.home last)) apart) (has_last places p h has))
        (λ t q h there. false_from_ne_true (has_home (places ++ p ∷ []) h) (λ has. ⊎_elim
        (λ front. both_ways (has_home places h) (are.file_pages t q h there).no_tags front)
        (λ last. nowhere t q (there ∙ ap At (homes_same h p.home last)))
        (has_last places p h has)))

-- ---- a file of one cell is entered

module _ (fileset : ℕ) (places : List TagPlace) (tag : Tag) (at : CellAt) (records : List Record) (chains : Chains) (space : Spaces) (cells : Cells) (old new : Pages) (are : AreTogether fileset places space cells old chains) (can : CanTakeTag old places tag)
    (enters : Enters fileset places tag at records old new) (on : Contains (table_of cells at.vol) at.page) (used : is_free cells at ≡ false) (zeros : cell_at old at ≡ Some (zero_bytes 292)) (version : Version) (what : NewFile) (are_new : AreNew version what tag records) where
  abbrev first : PlacedCell
  first = record { at = at; cell = record { head = new_head fileset tag; records = records } }

  abbrev now : Chains
  now = with_new tag (first ∷ []) chains

  abbrev mid : Pages
  mid = enters.between

  now_tag : (t : Tag) → same_tag t tag ≡ true → now t ≡ Some (first ∷ [])
  now_tag t same = ap (λ (b : Bool). cond b (Some (first ∷ [])) (chains t)) same

  now_other : (t : Tag) → same_tag t tag ≡ false → now t ≡ chains t
  now_other t other = ap (λ (b : Bool). cond b (Some (first ∷ [])) (chains t)) other

  -- the tag led to no cell, and so named nothing
  no_cell_yet : cell_of old places tag ≡ None
  no_cell_yet = by_entry (entry_at old places tag.slot) can.1
    where
      by_at : (e : TagEntry) (o : Option CellAt) → e.at ≡ o → is_takeable e ≡ true → cell_for tag.seq e ≡ None
      by_at e None is takes = ap (λ o. cond (nat_eq e.seq tag.seq) o None) is ∙ both_none (nat_eq e.seq tag.seq)
        where
          no_at : Option CellAt
          no_at = None

          both_none : (b : Bool) → cond b no_at no_at ≡ no_at
          both_none true = refl
          both_none false = refl
      by_at e (Some a) is takes = absurd (true≢false (sym (and_parts (nat_lt e.seq 65535) (not (is_some e.at)) takes).1 ∙ ap (λ o. not (is_some o)) is))

      by_entry : (o : Option TagEntry) → IsSomeAnd o (RisesTo tag.seq) → option_and_then (cell_for tag.seq) o ≡ None
      by_entry None rises = refl
      by_entry (Some e) rises = by_at e e.at refl rises.0

  pub fresh : chains tag ≡ None
  fresh = by_chain (chains tag) (are.files.some tag)
    where
      by_chain : (o : Option (List PlacedCell)) → IfSome o (LeadsToFile fileset places old tag) → o ≡ None
      by_chain None some = refl
      by_chain (Some cs) some = absurd (subst (λ o. IsSomeAnd o (λ a. IsFile old a cs)) no_cell_yet some.leads)

  -- pages of tables stay where the tag is set, and those of tags where the cell is written
  table_page_same : (h : Home) → Contains (table_of cells h.vol) h.page → mid h ≡ old h
  table_page_same h on_table = enters.sets.elsewhere h (off_slot places tag.slot h (false_from_ne_true (has_home places h) (λ has. (are.tag_pages h has).off_table on_table)))

  tag_page_same : (h : Home) → has_home places h ≡ true → new h ≡ mid h
  tag_page_same h has = enters.elsewhere h (false_from_ne_true (same_home h (home_of at)) (λ same. (are.tag_pages h has).off_table (subst (λ (h : Home). Contains (table_of cells h.vol) h.page) (sym (homes_same h (home_of at) same)) on)))

  zeros_mid : cell_at mid at ≡ Some (zero_bytes 292)
  zeros_mid = ap (λ o. option_and_then (λ page. cond (is_cell_page page && nat_lt at.cell 28) (Some (bytes_of page at.cell)) None) o) (table_page_same (home_of at) on) ∙ zeros

  leads_mid : (t : Tag) → cell_of new places t ≡ cell_of mid places t
  leads_mid = cell_same mid new places enters.sets.directory (pages_same mid new places tag_page_same)

  pub sequences_new : (s : ℕ) → sequence_of new places s ≡ cond (nat_eq s tag.slot) (Some tag.seq) (sequence_of old places s)
  sequences_new s = ap (option_map (λ (e : TagEntry). e.seq)) (entry_same mid new places enters.sets.directory (pages_same mid new places tag_page_same) s) ∙ enters.sets.sequences s

  leads_other : (t : Tag) → same_tag t tag ≡ false → cell_of new places t ≡ cell_of old places t
  leads_other t other = leads_mid t ∙ enters.sets.cells t ∙ ap (λ (b : Bool). cond b (Some at) (cell_of old places t)) other

  leads_tag : cell_of new places tag ≡ Some at
  leads_tag = leads_mid tag ∙ enters.sets.cells tag ∙ ap (λ (b : Bool). cond b (Some at) (cell_of old places tag)) (same_tag_itself tag)

  pub stay : (q : CellAt) (cell : Cell) → StandsAt old q cell → Contains (table_of cells q.vol) q.page → StandsAt new q cell
  stay q cell stands on_table =
      let stood = stands_by_page old mid q cell (table_page_same (home_of q) on_table) stands in
      stands_stays mid new (is_at at) enters.others q cell (at_apart at q (not_zeros mid at q cell zeros_mid stood)) stood

  not_among : (cs : List PlacedCell) → AllByRecursion (λ (c : PlacedCell). StandsAt old c.at c.cell) cs → ¬ Contains (places_of_cells cs) at
  not_among cs stand inside = all_at (λ (q : CellAt). ¬ at ≡ q) cs at (apart_all cs stand) inside refl
    where
      apart_all : (cs : List PlacedCell) → AllByRecursion (λ (c : PlacedCell). StandsAt old c.at c.cell) cs → AllByRecursion (λ (c : PlacedCell). ¬ at ≡ c.at) cs
      apart_all [] stand = tt
      apart_all (c ∷ cs) stand = (not_zeros old at c.at c.cell zeros stand.0, apart_all cs stand.1)

  runs_none : runs_of (records_of (first ∷ [])) ≡ []
  runs_none = ap runs_of (append-nil records) ∙ runs_by_map records ∙ ap runs_of are_new.only ∙ append-nil (runs_in are_new.value) ∙ are_new.empty

  pub no_page : (p : ℕ) → places_of (first ∷ []) p ≡ Absent
  no_page p = ap (λ rs. place_of rs p) runs_none

  file_new : IsFile new at (first ∷ [])
  file_new = (
    refl,
    record {
      links = record { stands = enters.stands; follow = refl; distinct = ((λ inside. omega (arith, inside.1)), tt) };
      primary = refl;
      attributes = subst (λ o. IsSome o) (sym are_new.says.attributes) refl;
      value = are_new.value;
      map = record { only = are_new.only; is_map = are_new.is_map };
      others = tt;
      one_map = record { placed = subst (AllByRecursion IsPlaced) (sym runs_none) tt; once = subst NoPageTwice (sym runs_none) (λ p. omega arith) };
    },
  )

  leads_new : LeadsToFile fileset places new tag (first ∷ [])
  leads_new = record { leads = subst (λ o. IsSomeAnd o (λ a. IsFile new a (first ∷ []))) (sym leads_tag) file_new; is_of = (refl, refl, refl); kinds = are_new.kinds }

  some_new : (t : Tag) → IfSome (now t) (LeadsToFile fileset places new t)
  some_new t = ⊎_elim
      (λ same. subst (λ o. IfSome o (LeadsToFile fileset places new t)) (sym (now_tag t same)) (subst (λ (u : Tag). LeadsToFile fileset places new u (first ∷ [])) (sym (tags_same t tag same)) leads_new))
      (λ other. subst (λ o. IfSome o (LeadsToFile fileset places new t)) (sym (now_other t other)) (by_chain other (chains t) (are.files.some t) (are.on_tables t)))
      (cases_Bool (same_tag t tag))
    where
      by_cell : (o : Option CellAt) (cs : List PlacedCell) → AreOnTables cells cs → IsSomeAnd o (λ a. IsFile old a cs) → IsSomeAnd o (λ a. IsFile new a cs)
      by_cell None cs on is = is
      by_cell (Some a) cs on is = file_by old new a cs (stand_on old new cells cs stay on (stand_file old a cs is)) is

      by_chain : same_tag t tag ≡ false → (o : Option (List PlacedCell)) → IfSome o (LeadsToFile fileset places old t) → IfSome o (AreOnTables cells) → IfSome o (LeadsToFile fileset places new t)
      by_chain other None some on = tt
      by_chain other (Some cs) some on = record {
        leads = subst (λ o. IsSomeAnd o (λ a. IsFile new a cs)) (sym (leads_other t other)) (by_cell (cell_of old places t) cs on some.leads);
        is_of = some.is_of;
        kinds = some.kinds;
      }

  none_new : (t : Tag) → now t ≡ None → cell_of new places t ≡ None
  none_new t none = ⊎_elim
      (λ same. absurd (some_is_none (sym (now_tag t same) ∙ none)))
      (λ other. leads_other t other ∙ are.files.none t (sym (now_other t other) ∙ none))
      (cases_Bool (same_tag t tag))
    where
      some_is_none : Some (first ∷ []) ≡ None → ⊥
      some_is_none e = cc

  apart_from : (t : Tag) → IfSome (chains t) (λ cs. ¬ Contains (places_of_cells cs) at)
  apart_from t = by_chain (chains t) (are.files.some t)
    where
      by_cell : (o : Option CellAt) (cs : List PlacedCell) → IsSomeAnd o (λ a. IsFile old a cs) → ¬ Contains (places_of_cells cs) at
      by_cell None cs is inside = is
      by_cell (Some a) cs is inside = not_among cs (stand_file old a cs is) inside

      by_chain : (o : Option (List PlacedCell)) → IfSome o (LeadsToFile fileset places old t) → IfSome o (λ cs. ¬ Contains (places_of_cells cs) at)
      by_chain None some = tt
      by_chain (Some cs) some = by_cell (cell_of old places t) cs some.leads

  alone : (q : CellAt) → Contains (places_of_cells (first ∷ [])) q → at ≡ q
  alone q (zero, within, is) = is
  alone q (suc k, within, is) = absurd (omega (arith, within))

  apart_new : (s t : Tag) → same_tag s t ≡ false → IfSome (now s) (λ xs. IfSome (now t) (AreApart xs))
  apart_new s t differ = ⊎_elim
      (λ s_same. ⊎_elim
      (λ t_same. absurd (true≢false (sym (same_tag_itself s) ∙ ap (same_tag s) (tags_same s tag s_same ∙ sym (tags_same t tag t_same)) ∙ differ)))
      (λ t_other. subst (λ o. IfSome o (λ xs. IfSome (now t) (AreApart xs))) (sym (now_tag s s_same)) (subst (λ o. IfSome o (AreApart (first ∷ []))) (sym (now_other t t_other)) (behind (chains t) (apart_from t))))
      (cases_Bool (same_tag t tag)))
      (λ s_other. ⊎_elim
      (λ t_same. subst (λ o. IfSome o (λ xs. IfSome (now t) (AreApart xs))) (sym (now_other s s_other)) (subst (λ o. IfSome (chains s) (λ xs. IfSome o (AreApart xs))) (sym (now_tag t t_same)) (before (chains s) (apart_from s))))
      (λ t_other. subst (λ o. IfSome o (λ xs. IfSome (now t) (AreApart xs))) (sym (now_other s s_other)) (subst (λ o. IfSome (chains s) (λ xs. IfSome o (AreApart xs))) (sym (now_other t t_other)) (are.files.apart s t differ)))
      (cases_Bool (same_tag t tag)))
      (cases_Bool (same_tag s tag))
    where
      behind : (o : Option (List PlacedCell)) → IfSome o (λ cs. ¬ Contains (places_of_cells cs) at) → IfSome o (AreApart (first ∷ []))
      behind None apart = tt
      behind (Some cs) apart = λ q here there. apart (subst (λ (q : CellAt). Contains (places_of_cells cs) q) (sym (alone q here)) there)

      before : (o : Option (List PlacedCell)) → IfSome o (λ cs. ¬ Contains (places_of_cells cs) at) → IfSome o (λ xs. AreApart xs (first ∷ []))
      before None apart = tt
      before (Some cs) apart = λ q there here. apart (subst (λ (q : CellAt). Contains (places_of_cells cs) q) (sym (alone q here)) there)

  -- where pages stand
  was_there : (t : Tag) (p : ℕ) (h : Home) → place_at now t p ≡ At h → place_at chains t p ≡ At h
  was_there t p h there = ⊎_elim
      (λ same. absurd (absent_at (sym (no_page p) ∙ sym (ap (λ o. option_map_or (λ cs. places_of cs p) o Absent) (now_tag t same)) ∙ there)))
      (λ other. sym (ap (λ o. option_map_or (λ cs. places_of cs p) o Absent) (now_other t other)) ∙ there)
      (cases_Bool (same_tag t tag))
    where
      absent_at : Absent ≡ At h → ⊥
      absent_at e = cc

  on_tables_new : (t : Tag) → IfSome (now t) (AreOnTables cells)
  on_tables_new t = ⊎_elim
      (λ same. subst (λ o. IfSome o (AreOnTables cells)) (sym (now_tag t same)) (on, tt))
      (λ other. subst (λ o. IfSome o (AreOnTables cells)) (sym (now_other t other)) (are.on_tables t))
      (cases_Bool (same_tag t tag))

  pub together_entered : AreTogether fileset places space cells new (with_new tag (record { at = at; cell = record { head = new_head fileset tag; records = records } } ∷ []) chains)
  together_entered = record {
    files = record {
      directory = directory_same mid new places enters.sets.directory (pages_same mid new places tag_page_same);
      none = none_new;
      some = some_new;
      apart = apart_new;
    };
    allocated = allocated_still space cells mid new (allocated_beside space cells old mid table_page_same are.allocated) enters.well_formed enters.headers (is_at at) enters.others
        (λ q free. at_apart at q (λ same. both_ways (is_free cells at) used (subst (λ (q : CellAt). is_free cells q ≡ true) (sym same) free)));
    on_tables = on_tables_new;
    tag_pages = are.tag_pages;
    file_pages = λ t p h there. are.file_pages t p h (was_there t p h there);
    once = λ s t p q h a b. are.once s t p q h (was_there s p h a) (was_there t q h b);
  }

-- a tag that can be taken has the sequence after its slot's last
next_behind : (pages : Pages) (places : List TagPlace) (tag : Tag) → CanTakeTag pages places tag → tag.seq ≡ last_sequence pages places tag.slot + 1
next_behind pages places tag can = by_entry (entry_at pages places tag.slot) can.1
  where
    by_entry : (o : Option TagEntry) → IsSomeAnd o (RisesTo tag.seq) → tag.seq ≡ unwrap_or (option_map (λ (e : TagEntry). e.seq) o) 0 + 1
    by_entry None rises = absurd rises
    by_entry (Some e) rises = sym rises.1

-- a tag that can be taken has its slot on a page
pub entered_there : (old new : Pages) (places : List TagPlace) (tag : Tag) (at : CellAt) (done : Bool) → CanTakeTag old places tag → (done ≡ true → SetsTag tag (Some at) places old new) → (done ≡ false → sequence_of old places tag.slot ≡ None) → SetsTag tag (Some at) places old new
entered_there old new places tag at true can sets none = sets refl
entered_there old new places tag at false can sets none = absurd (by_entry (entry_at old places tag.slot) can.1 (none refl))
  where
    some_is_none : (n : ℕ) → Some n ≡ None → ⊥
    some_is_none n e = cc

    by_entry : (o : Option TagEntry) → IsSomeAnd o (RisesTo tag.seq) → option_map (λ (e : TagEntry). e.seq) o ≡ None → ⊥
    by_entry None rises none = rises
    by_entry (Some e) rises none = some_is_none e.seq none

-- ---- from a cell that was handed out to a file

pub next_zero : (places : List TagPlace) (index : ℕ) → IsNextIndex index places → places ≡ [] → index ≡ 0
next_zero places index next none = ⊎_elim
    (λ more. absurd (next.least 0 more (ap (λ (ps : List TagPlace). home_with ps 0) none)))
    (λ zero. omega (arith, zero))
    (cases_lt 0 index)

taken_used : (at : CellAt) (cells cells_now : Cells) → TakesCell at cells cells_now → is_free cells_now at ≡ false
taken_used at cells cells_now taken = taken.cells at ∙ ap (λ (b : Bool). not b && is_free cells at) (itself at)
  where
    itself : (at : CellAt) → is_at at at ≡ true
    itself at = and_from (nat_eq at.vol at.vol) ((nat_eq at.page at.page) && (nat_eq at.cell at.cell)) (eq-eqb at.vol at.vol refl)
        (and_from (nat_eq at.page at.page) (nat_eq at.cell at.cell) (eq-eqb at.page at.page refl) (eq-eqb at.cell at.cell refl))

abbrev bit : Bool → ℕ
bit b = cond b 1 0

-- what is known where a cell was handed out and a tag can be taken
pub record IsPrepared (fileset : ℕ) (places : List TagPlace) (tag : Tag) (at : CellAt) (chains : Chains) (space : Spaces) (cells cells_now : Cells) (old between : Pages) : Type 0 where
  pub together : AreTogether fileset places space cells_now between chains
  pub can : CanTakeTag between places tag
  pub on : Contains (table_of cells_now at.vol) at.page
  pub used : is_free cells_now at ≡ false
  pub zeros : cell_at between at ≡ Some (zero_bytes 292)
  pub stays : (q : CellAt) (cell : Cell) → StandsAt old q cell → Contains (table_of cells q.vol) q.page → StandsAt between q cell
  pub tables : (vol p : ℕ) → Contains (table_of cells vol) p → Contains (table_of cells_now vol) p
  pub elsewhere : LeavesBeside cells_now places old between

module _ (fileset : ℕ) (places : List TagPlace) (tag : Tag) (at : CellAt) (chains : Chains) (space : Spaces) (cells cells_now : Cells) (old between : Pages) (prepared : IsPrepared fileset places tag at chains space cells cells_now old between) where
  pub apart_at : has_home places (home_of at) ≡ false
  apart_at = false_from_ne_true (has_home places (home_of at)) (λ has. (prepared.together.tag_pages (home_of at) has).off_table prepared.on)

  module _ (records : List Record) (new : Pages) (enters : Enters fileset places tag at records between new) (version : Version) (what : NewFile) (are_new : AreNew version what tag records) where
    pub creates : Creates fileset places tag version what chains space cells cells_now old new
    creates = record {
      fresh = fresh fileset places tag at records chains space cells_now between new prepared.together prepared.can enters prepared.on prepared.used prepared.zeros version what are_new;
      first = record { at = at; cell = record { head = new_head fileset tag; records = records } };
      says = are_new.says;
      no_page = no_page fileset places tag at records chains space cells_now between new prepared.together prepared.can enters prepared.on prepared.used prepared.zeros version what are_new;
      was_free = λ cell stands on. not_zeros between at at cell prepared.zeros (prepared.stays at cell stands on) refl;
      together = together_entered fileset places tag at records chains space cells_now between new prepared.together prepared.can enters prepared.on prepared.used prepared.zeros version what are_new;
    }

    pub takes_next : (places_before : List TagPlace) → ((s : ℕ) → last_sequence between places s ≡ last_sequence old places_before s) → TakesNext tag places_before places old new
    takes_next places_before last = record {
      next = next_behind between places tag prepared.can ∙ ap (λ n. n + 1) (last tag.slot);
      sequences = λ s.
          ap (λ o. unwrap_or o 0) (sequences_new fileset places tag at records chains space cells_now between new prepared.together prepared.can enters prepared.on prepared.used prepared.zeros version what are_new s)
          ∙ by_slot s (nat_eq s tag.slot);
    }
      where
        by_slot : (s : ℕ) (b : Bool) → unwrap_or (cond b (Some tag.seq) (sequence_of between places s)) 0 ≡ cond b tag.seq (last_sequence old places_before s)
        by_slot s true = refl
        by_slot s false = last s

    pub others_created : LeavesOtherCells cells [] old new
    others_created q cell stands on apart =
        stay fileset places tag at records chains space cells_now between new prepared.together prepared.can enters prepared.on prepared.used prepared.zeros version what are_new q cell (prepared.stays q cell stands on) (prepared.tables q.vol q.page on)

    pub beside_created : LeavesBeside cells_now places old new
    beside_created h out none =
        enters.elsewhere h (false_from_ne_true (same_home h (home_of at)) (λ same. out (subst (λ (h : Home). Contains (table_of cells_now h.vol) h.page) (sym (homes_same h (home_of at) same)) prepared.on)))
        ∙ enters.sets.elsewhere h (off_slot places tag.slot h none) ∙ prepared.elsewhere h out none

-- after a cell was handed out, if a tag could be taken
module _ (prefer : ℕ) (at : CellAt) (old between : Pages) (fileset : ℕ) (places : List TagPlace) (chains : Chains) (space space_now : Spaces) (cells cells_now : Cells) (low : 1 ≤ at.vol) (are : AreTogether fileset places space cells old chains)
    (takes : Takes prefer at space space_now cells cells_now old between) (allocated : AreAllocated space_now cells_now between) (zeros : cell_at between at ≡ Some (zero_bytes 292)) where
  pub after_cell : AreTogether fileset places space_now cells_now between chains
  after_cell = together_taken prefer at old between fileset places chains space space_now cells cells_now low are takes allocated

  cell_pages_same : (h : Home) → has_home places h ≡ true → between h ≡ old h
  cell_pages_same h has = taken_elsewhere prefer at space space_now cells cells_now old between low are.allocated takes h (after_cell.tag_pages h has).off_table

  pub last_taken : (s : ℕ) → last_sequence between places s ≡ last_sequence old places s
  last_taken s = ap (λ o. unwrap_or (option_map (λ (e : TagEntry). e.seq) o) 0) (entry_same old between places are.files.directory (pages_same old between places cell_pages_same) s)

  pub prepared_taken : (tag : Tag) → CanTakeTag old places tag → IsPrepared fileset places tag at chains space_now cells cells_now old between
  prepared_taken tag can = record {
    together = after_cell;
    can = (can.0, subst (λ o. IsSomeAnd o (RisesTo tag.seq)) (sym (entry_same old between places are.files.directory (pages_same old between places cell_pages_same) tag.slot)) can.1);
    on = at_on prefer at space space_now cells cells_now old between low are.allocated takes;
    used = taken_used at takes.between cells_now takes.taken;
    zeros = zeros;
    stays = λ q cell stands on. stands_taken prefer at space space_now cells cells_now old between low are.allocated takes q cell on stands;
    tables = one_tables prefer space space_now cells cells_now old (record { at = at; between = between; takes = takes });
    elsewhere = λ h out none. taken_elsewhere prefer at space space_now cells cells_now old between low are.allocated takes h out;
  }

  -- and a page of tags was put
  module _ (index : ℕ) (home : Home) (next : IsNextIndex index places) (apart : IsHeldApart space cells home) (no_tags : has_home places home ≡ false) (nowhere : (t : Tag) (p : ℕ) → ¬ place_at chains t p ≡ At home) (put : Pages)
      (adds : AddsPage (record { index = index; home = home }) places between put) where
    abbrev place : TagPlace
    place = record { index = index; home = home }

    apart_mid : IsHeldApart space_now cells_now home
    apart_mid = one_apart prefer space space_now cells cells_now old (record { at = at; between = between; takes = takes }) home apart

    table_same : (h : Home) → Contains (table_of cells_now h.vol) h.page → put h ≡ between h
    table_same h on = adds.elsewhere h
        (false_from_ne_true (has_home places h) (λ has. (after_cell.tag_pages h has).off_table on))
        (false_from_ne_true (same_home h home) (λ same. apart_mid.off_table (subst (λ (h : Home). Contains (table_of cells_now h.vol) h.page) (homes_same h home same) on)))

    on_mid : Contains (table_of cells_now at.vol) at.page
    on_mid = at_on prefer at space space_now cells cells_now old between low are.allocated takes

    pub place_put : HasPlace between at → HasPlace put at
    place_put has = (subst (λ o. IsSomeAnd o (λ page. is_cell_page page ≡ true)) (sym (table_same (home_of at) on_mid)) has.0, has.1)

    first_can : (slot : ℕ) → slot ≡ 1022 * index + cond (nat_eq index 0) 1 0 → CanTakeTag put (places ++ place ∷ []) (record { slot = slot; seq = 1 })
    first_can slot is = (
      not_zero,
      subst (λ o. IsSomeAnd o (RisesTo 1)) (sym (adds.entries slot ∙ ap (λ (b : Bool). cond b (Some (record { seq = 0; at = None })) (entry_at between places slot)) (eq-eqb (slot / 1022) index of_index))) (refl, refl),
    )
      where
        few : (b : Bool) → cond b 1 0 < 1022
        few true = omega arith
        few false = omega arith

        of_index : slot / 1022 ≡ index
        of_index =
            let e : slot ≡ index * 1022 + cond (nat_eq index 0) 1 0 = omega (arith, is) in
            ap (λ n. n / 1022) e ∙ div-mul-add index 1022 (cond (nat_eq index 0) 1 0) (few (nat_eq index 0))

        not_zero : ¬ slot ≡ 0
        not_zero none = ⊎_elim
            (λ zero. let one : bit (nat_eq index 0) ≡ 1 = ap bit zero in omega (arith, is, none, one))
            (λ other. both_ways (nat_eq index 0) other (eq-eqb index 0 (let e : index ≡ 0 = omega (arith, is, none) in e)))
            (cases_Bool (nat_eq index 0))

    pub last_put : (s : ℕ) → last_sequence put (places ++ place ∷ []) s ≡ last_sequence old places s
    last_put s = last_added between put places place next.unused adds s ∙ last_taken s

    pub prepared_put : (tag : Tag) → tag.slot ≡ 1022 * index + cond (nat_eq index 0) 1 0 → tag.seq ≡ 1 → IsPrepared fileset (places ++ place ∷ []) tag at chains space_now cells cells_now old put
    prepared_put tag slot seq = record {
      together = together_added between put places place next.unused adds fileset chains space_now cells_now after_cell apart_mid nowhere;
      can = let can = first_can tag.slot slot in (can.0, subst (λ n. IsSomeAnd (entry_at put (places ++ place ∷ []) tag.slot) (RisesTo n)) (sym seq) can.1);
      on = on_mid;
      used = taken_used at takes.between cells_now takes.taken;
      zeros = ap (λ o. option_and_then (λ page. cond (is_cell_page page && nat_lt at.cell 28) (Some (bytes_of page at.cell)) None) o) (table_same (home_of at) on_mid) ∙ zeros;
      stays = λ q cell stands on.
          stands_by_page between put q cell (table_same (home_of q) (one_tables prefer space space_now cells cells_now old (record { at = at; between = between; takes = takes }) q.vol q.page on))
          (stands_taken prefer at space space_now cells cells_now old between low are.allocated takes q cell on stands);
      tables = one_tables prefer space space_now cells cells_now old (record { at = at; between = between; takes = takes });
      elsewhere = λ h out none.
          adds.elsewhere h (false_from_ne_true (has_home places h) (λ has. both_ways (has_home (places ++ place ∷ []) h) none (has_front places place h has)))
          (false_from_ne_true (same_home h home) (λ same. both_ways (has_home (places ++ place ∷ []) h) none (has_end places place h same)))
          ∙ taken_elsewhere prefer at space space_now cells cells_now old between low are.allocated takes h out;
    }

-- ---- a page is taken for tags

pub together_page : (pages : Pages) (fileset : ℕ) (places : List TagPlace) (chains : Chains) (space : Spaces) (cells : Cells) (home : Home) → AreTogether fileset places space cells pages chains
    → AreTogether fileset places (change_volume (with_page home.page) space home.vol) cells pages chains
together_page pages fileset places chains space cells home are = record {
  files = are.files;
  allocated = allocated_taken space cells pages home are.allocated;
  on_tables = are.on_tables;
  tag_pages = λ h has. apart_taken space cells home h (are.tag_pages h has);
  file_pages = λ t p h there. let f = are.file_pages t p h there in record { apart = apart_taken space cells home h f.apart; no_tags = f.no_tags };
  once = are.once;
}

-- the pages of metadata say which files there are
pub one_chains : (pages : Pages) (fileset : ℕ) (places : List TagPlace) (a b : Chains) → AreFiles fileset places pages a → AreFiles fileset places pages b → (t : Tag) → a t ≡ b t
one_chains pages fileset places a b are_a are_b t = by_chain (a t) (b t) refl refl (are_a.some t) (are_b.some t)
  where
    by_cell : (o : Option CellAt) (xs ys : List PlacedCell) → IsSomeAnd o (λ at. IsFile pages at xs) → IsSomeAnd o (λ at. IsFile pages at ys) → xs ≡ ys
    by_cell None xs ys x y = absurd x
    by_cell (Some at) xs ys x y = one_file pages at xs ys x y

    by_chain : (x y : Option (List PlacedCell)) → a t ≡ x → b t ≡ y → IfSome x (LeadsToFile fileset places pages t) → IfSome y (LeadsToFile fileset places pages t) → x ≡ y
    by_chain None None is_x is_y some_x some_y = refl
    by_chain None (Some ys) is_x is_y some_x some_y = absurd (subst (λ o. IsSomeAnd o (λ at. IsFile pages at ys)) (are_a.none t is_x) some_y.leads)
    by_chain (Some xs) None is_x is_y some_x some_y = absurd (subst (λ o. IsSomeAnd o (λ at. IsFile pages at xs)) (are_b.none t is_y) some_x.leads)
    by_chain (Some xs) (Some ys) is_x is_y some_x some_y = ap Some (by_cell (cell_of pages places t) xs ys some_x.leads some_y.leads)

-- no page stands at a home that could be taken
pub nowhere_free : (pages : Pages) (fileset : ℕ) (places : List TagPlace) (chains other : Chains) (space : Spaces) (cells : Cells) (home : Home) → AreTogether fileset places space cells pages chains → AreFiles fileset places pages other → CanTake space home.vol home.page
    → (t : Tag) (p : ℕ) → ¬ place_at other t p ≡ At home
nowhere_free pages fileset places chains other space cells home are files can t p there =
    not_held space home.vol home.page can
    (are.file_pages t p home (ap (λ o. option_map_or (λ cs. places_of cs p) o Absent) (one_chains pages fileset places chains other are.files files t) ∙ there)).apart.held

pub no_tags_free : (pages : Pages) (fileset : ℕ) (places : List TagPlace) (chains : Chains) (space : Spaces) (cells : Cells) (home : Home) → AreTogether fileset places space cells pages chains → CanTake space home.vol home.page → has_home places home ≡ false
no_tags_free pages fileset places chains space cells home are can = false_from_ne_true (has_home places home) (λ has. not_held space home.vol home.page can (are.tag_pages home has).held)

-- ---- and given back

pub still_held : (fault : StoreFault) (space space_now : Spaces) (cells : Cells) (vol p : ℕ) → FindsNone space space_now cells fault → IsHeld space vol p → IsHeld space_now vol p
still_held NoPage space space_now cells vol p none held = subst (λ (s : Spaces). IsHeld s vol p) (sym none.2) held
still_held OutOfMemory space space_now cells vol p none held = subst (λ (s : Spaces). IsHeld s vol p) (sym none) held

pub not_created : (fault : StoreFault) (places : List TagPlace) (home : Home) (space taken between space_now : Spaces) (cells : Cells) (pages : Pages) → ((tag : Tag) → ¬ CanTakeTag pages places tag) → CanTake space home.vol home.page → taken ≡ change_volume (with_page home.page) space home.vol
    → FindsNone taken between cells fault → space_now ≡ change_volume (without_page home.page) between home.vol → CreatesNone places space space_now cells pages fault
not_created NoPage places home space taken between space_now cells pages no_tag can taken_is none given = (
  inr (record { no_tag = no_tag; no_cell = none.0; home = home; free = can; no_other = subst (λ (s : Spaces). (vol p : ℕ) → ¬ CanTake s vol p) taken_is none.1 }),
  given ∙ ap (λ (s : Spaces). change_volume (without_page home.page) s home.vol) (none.2 ∙ ap missed taken_is) ∙ ap missed (given_back space home.vol home.page can),
)
not_created OutOfMemory places home space taken between space_now cells pages no_tag can taken_is none given =
    given ∙ ap (λ (s : Spaces). change_volume (without_page home.page) s home.vol) (none ∙ taken_is) ∙ given_back space home.vol home.page can

pub not_created_as : (fault : StoreFault) (places : List TagPlace) (space space_now : Spaces) (cells : Cells) (pages : Pages) → FindsNone space space_now cells fault → CreatesNone places space space_now cells pages fault
not_created_as NoPage places space space_now cells pages none = (inl (record { no_page = none.1; wanted = inl none.0 }), none.2)
not_created_as OutOfMemory places space space_now cells pages none = none

pub together_uncreated : (fault : StoreFault) (fileset : ℕ) (places places_now : List TagPlace) (chains : Chains) (space space_now : Spaces) (cells cells_now : Cells) (pages pages_now : Pages) → CreatesNone places space space_now cells pages fault → places_now ≡ places → cells_now ≡ cells → pages_now ≡ pages
    → AreTogether fileset places space cells pages chains → AreTogether fileset places_now space_now cells_now pages_now chains
together_uncreated fault fileset places places_now chains space space_now cells cells_now pages pages_now none places_is cells_is pages_is are =
    subst (λ p. AreTogether fileset places_now space_now cells_now p chains) (sym pages_is)
    (subst (λ c. AreTogether fileset places_now space_now c pages chains) (sym cells_is)
    (subst (λ p. AreTogether fileset p space_now cells pages chains) (sym places_is) (by_fault fault none)))
  where
    by_fault : (fault : StoreFault) → CreatesNone places space space_now cells pages fault → AreTogether fileset places space_now cells pages chains
    by_fault NoPage none = subst (λ s. AreTogether fileset places s cells pages chains) (sym none.1) (together_missed pages fileset places chains space cells are)
    by_fault OutOfMemory none = subst (λ s. AreTogether fileset places s cells pages chains) (sym none) are
