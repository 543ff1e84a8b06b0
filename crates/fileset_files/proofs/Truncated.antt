-- A file's first cell says another size, and which pages are stale.
use Rattle.std.proofs.Common.{◌≡◌, ◌∙◌, ℕ, ◌-◌, ◌^◌, ◌<◌, ◌||◌, Bool, true, false, cond, nat_le, nat_lt, List, [], ◌∷◌, Option, Some, None, IfSome, IfNone, IsSome, IsSomeAnd, is_some, refl, sym, ap, subst, unwrap_or, arith, ⊎_elim}
use Rattle.std.proofs.lemmas.Bool.{and_from, and_parts, both_ways, cases_Bool, cases_lt, ltb-true, lt-ltb, or_cases, or_left, or_right, true≢false}
use Rattle.std.specs.List.{AllByRecursion, list_any}
use Rattle.std.specs.Option.{option_and_then, option_map}
use Rattle.file_chains.specs.domain_base.declared.place.CellAt.{CellAt}
use Rattle.file_chains.specs.domain_base.declared.place.Home.{Home}
use Rattle.file_chains.specs.domain_base.declared.place.Tag.{Tag}
use Rattle.file_chains.specs.page_store.Pages.{Pages, same_home}
use Rattle.file_chains.specs.cell_records.declared.record.Record.{Record}
use Rattle.file_chains.specs.cell_records.declared.record.Record.TheVariants as written
use Rattle.file_chains.specs.cell_records.declared.record.Leftover.TheVariants.{Trim}
use Rattle.file_chains.specs.cell_records.Records.{Allowed, kind_of}
use Rattle.file_chains.specs.metadata_cells.Cell.{Cell, record_of}
use Rattle.file_chains.specs.metadata_cells.CellPage.{home_of}
use Rattle.file_chains.specs.metadata_cells.Chain.{LeavesOthers, PlacedCell, StandsAt, is_at}
use Rattle.file_chains.proofs.OfMetadataCells.Unique.{one_stands}
use Rattle.tag_dirs.specs.declared.dir.TagPlace.{TagPlace}
use Rattle.file_chains.specs.extent_maps.declared.run.PagePlace.TheVariants.{Absent}
use Rattle.file_chains.specs.extent_maps.declared.run.Run.{Run}
use Rattle.file_chains.specs.extent_maps.Runs.{AreRuns, Places, behind, covers, end_of, place_of, placed}
use Rattle.file_chains.proofs.OfExtentMaps.EditLemmas.{covers_from, covers_is, never_absent}
use Rattle.file_chains.specs.extent_records.Writing.{most_rows}
use Rattle.file_chains.specs.Changes.{HasRoomForTwo, with_kind, with_record, with_two}
use Rattle.file_chains.specs.Files.{IsFile, has_rows, map_records, places_of}
use Rattle.file_chains.proofs.MapRecords.{kind_found, value_has_rows}
use Rattle.file_chains.proofs.Replaced.{records_replaced}
use Rattle.fileset_files.specs.Changes.{with_first}
use Rattle.fileset_files.specs.Files.{AreFiles, Chains, IsLiveCell, first_record, is_first_kind, keep_in, keep_of}
use Rattle.fileset_files.specs.Truncation.{HasPageWithin, IsLowered, Truncates, TruncatesChain, meets, pages_in, pending_cell, resized, says_size, says_truncated}
use Rattle.fileset_files.proofs.FirstCell.{file_changed, find_other, find_put, map_stays}
use Rattle.fileset_files.proofs.FirstRoom.{first_fits, kinds_replaced}
use Rattle.fileset_files.proofs.OneFile.{files_now}
use Rattle.fileset_files.proofs.RemoveFile.{First, the_first}

-- ---- pages within

module _ (from to : ℕ) where
  pub moved : (xs ys : Places) → ((p : ℕ) → xs p ≡ ys p) → HasPageWithin from to xs → HasPageWithin from to ys
  moved xs ys same has = record { page = has.page; begins = has.begins; ends = has.ends; there = λ absent. has.there (same has.page ∙ absent) }

  here : (run : Run) (runs : List Run) (p : ℕ) → covers run p ≡ true → ¬ place_of (run ∷ runs) p ≡ Absent
  here run runs p is absent =
      never_absent (behind (p - run.page) run.first) (sym (ap (λ (b : Bool). cond b (placed (behind (p - run.page) run.first)) (place_of runs p)) is) ∙ absent)

  pub meets_some : from < to → (runs : List Run) → AreRuns runs → list_any (meets from to) runs ≡ true → HasPageWithin from to (place_of runs)
  meets_some less [] are any = absurd (true≢false (sym any))
  meets_some less (run ∷ runs) are any = ⊎_elim
      (λ this.
      let both = and_parts (nat_lt run.page to) (nat_lt from (end_of run)) this in
      let begins = ltb-true run.page to both.0 in
      let ends = ltb-true from (end_of run) both.1 in
      ⊎_elim
      (λ gt. record { page = from; begins = omega arith; ends = less; there = here run runs from (covers_from run from (omega (arith, gt)) ends) })
      (λ le. record { page = run.page; begins = le; ends = begins; there = here run runs run.page (covers_from run run.page (omega arith) (omega (arith, are.0.some))) })
      (cases_lt run.page from))
      (λ later.
      let has = meets_some less runs are.2 later in
      record {
        page = has.page;
        begins = has.begins;
        ends = has.ends;
        there = ⊎_elim
            (λ is. here run runs has.page is)
            (λ is_not absent. has.there (sym (ap (λ (b : Bool). cond b (placed (behind (has.page - run.page) run.first)) (place_of runs has.page)) is_not) ∙ absent))
            (cases_Bool (covers run has.page));
      })
      (or_cases (meets from to run) (list_any (meets from to) runs) any)

  pub meets_none : (runs : List Run) → list_any (meets from to) runs ≡ false → HasPageWithin from to (place_of runs) → ⊥
  meets_none [] none has = has.there refl
  meets_none (run ∷ runs) none has = ⊎_elim
      (λ is.
      let within = covers_is run has.page is in
      both_ways (list_any (meets from to) (run ∷ runs)) none
      (or_left (meets from to run) (list_any (meets from to) runs)
      (and_from (nat_lt run.page to) (nat_lt from (end_of run)) (lt-ltb run.page to (omega (arith, within.0, has.ends))) (lt-ltb from (end_of run) (omega (arith, within.1, has.begins))))))
      (λ is_not.
      meets_none runs
      (⊎_elim (λ some. absurd (both_ways (list_any (meets from to) (run ∷ runs)) none (or_right (meets from to run) (list_any (meets from to) runs) some))) (λ none. none) (cases_Bool (list_any (meets from to) runs)))
      (record {
        page = has.page;
        begins = has.begins;
        ends = has.ends;
        there = λ absent. has.there (ap (λ (b : Bool). cond b (placed (behind (has.page - run.page) run.first)) (place_of runs has.page)) is_not ∙ absent);
      }))
      (cases_Bool (covers run has.page))

-- ---- the record of attributes

pub resized_kind : (size : ℕ) (lowered : Option ℕ) (r : Record) → kind_of (resized size lowered r) ≡ kind_of r
resized_kind size lowered (written.Attributes kind uid gid flags was keep links birth unsynced) = refl
resized_kind size lowered (written.CloneFile vol cell page frozen) = refl
resized_kind size lowered (written.Extents rows) = refl
resized_kind size lowered (written.ShortExtents rows) = refl
resized_kind size lowered (written.Holes rows) = refl
resized_kind size lowered (written.Pending what) = refl
resized_kind size lowered (written.UserQuota id files blocks) = refl
resized_kind size lowered (written.GroupQuota id files blocks) = refl
resized_kind size lowered (written.DirIndex vol page entries) = refl
resized_kind size lowered (written.Parent slot seq) = refl
resized_kind size lowered (written.Stripe width mark vols) = refl
resized_kind size lowered (written.Volume vol pages bitmap_pages) = refl
resized_kind size lowered (written.DenseExtents rows) = refl
resized_kind size lowered (written.ShortDense rows) = refl

pub resized_allowed : (size : ℕ) (lowered : Option ℕ) (r : Record) → size < 2 ^ 64 → IfSome lowered (λ k. k < 2 ^ 32) → Allowed r → Allowed (resized size lowered r)
unfolding Allowed
resized_allowed size lowered (written.Attributes kind uid gid flags was keep links birth unsynced) fits low allowed =
    (allowed.0, allowed.1, allowed.2, allowed.3, fits, keep_fits lowered low, allowed.6, allowed.7, allowed.8)
  where
    keep_fits : (lowered : Option ℕ) → IfSome lowered (λ k. k < 2 ^ 32) → unwrap_or lowered keep < 2 ^ 32
    keep_fits None low = allowed.5
    keep_fits (Some k) low = low
resized_allowed size lowered (written.CloneFile vol cell page frozen) fits low allowed = allowed
resized_allowed size lowered (written.Extents rows) fits low allowed = allowed
resized_allowed size lowered (written.ShortExtents rows) fits low allowed = allowed
resized_allowed size lowered (written.Holes rows) fits low allowed = allowed
resized_allowed size lowered (written.Pending what) fits low allowed = allowed
resized_allowed size lowered (written.UserQuota id files blocks) fits low allowed = allowed
resized_allowed size lowered (written.GroupQuota id files blocks) fits low allowed = allowed
resized_allowed size lowered (written.DirIndex vol page entries) fits low allowed = allowed
resized_allowed size lowered (written.Parent slot seq) fits low allowed = allowed
resized_allowed size lowered (written.Stripe width mark vols) fits low allowed = allowed
resized_allowed size lowered (written.Volume vol pages bitmap_pages) fits low allowed = allowed
resized_allowed size lowered (written.DenseExtents rows) fits low allowed = allowed
resized_allowed size lowered (written.ShortDense rows) fits low allowed = allowed

pub trim_allowed : Allowed (written.Pending Trim)
unfolding Allowed
trim_allowed = tt

-- ---- the first cell

pub room_for_trim : (pages : Pages) (at : CellAt) (cell : Cell) (value : Record) → StandsAt pages at cell → AllByRecursion (λ r. is_first_kind (kind_of r) ≡ true) cell.records → is_first_kind (kind_of value) ≡ true → Allowed value
    → HasRoomForTwo pages at value (written.Pending Trim)
room_for_trim pages at cell value stands all is allowed =
    let once = with_kind (kind_of value) (Some value) cell.records in
    record {
      cell = cell;
      stands = stands;
      fits = first_fits (with_kind 6 (Some (written.Pending Trim)) once) (records_replaced 6 (Some (written.Pending Trim)) once (records_replaced (kind_of value) (Some value) cell.records stands.is.well_formed allowed refl) trim_allowed refl)
          (kinds_replaced 6 (Some (written.Pending Trim)) once (kinds_replaced (kind_of value) (Some value) cell.records all is) refl);
    }

module _ (size : ℕ) (lowered : Option ℕ) (cell : Cell) (was value : Record) (has : record_of 1 cell.records ≡ Some was) (is : value ≡ resized size lowered was) where
  pub kind_now : kind_of value ≡ 1
  kind_now = ap kind_of is ∙ resized_kind size lowered was ∙ kind_found 1 cell.records was has

  pub size_said : with_record (kind_of value) (Some value) cell ≡ says_size size lowered cell
  size_said = (λ i. with_record (kind_now i) (Some value) cell) ∙ ap (λ o. with_record 1 o cell) (ap Some is ∙ sym (ap (option_map (resized size lowered)) has))

pub trim_said : (size k : ℕ) (cell : Cell) (was value : Record) → record_of 1 cell.records ≡ Some was → value ≡ resized size (Some k) was → with_two value (written.Pending Trim) cell ≡ says_truncated size (Some k) cell
trim_said size k cell was value has is = ap (λ (c : Cell). with_record 6 (Some (written.Pending Trim)) c) (size_said size (Some k) cell was value has is)

-- ---- what a first cell says then

abbrev attributes_now : ℕ → Option ℕ → Cell → Option Record
attributes_now size lowered cell = option_map (resized size lowered) (record_of 1 cell.records)

of_kind_now : (size : ℕ) (lowered : Option ℕ) (cell : Cell) (was : Record) → record_of 1 cell.records ≡ Some was → IfSome (attributes_now size lowered cell) (λ r. kind_of r ≡ 1)
of_kind_now size lowered cell was has =
    subst (λ o. IfSome (option_map (resized size lowered) o) (λ r. kind_of r ≡ 1)) (sym has) (resized_kind size lowered was ∙ kind_found 1 cell.records was has)

pub head_same : (size : ℕ) (lowered : Option ℕ) (cell : Cell) → (says_truncated size lowered cell).head ≡ cell.head
head_same size None cell = refl
head_same size (Some k) cell = refl

pub left_said : (size : ℕ) (lowered : Option ℕ) (first : PlacedCell) (rest : List PlacedCell) (was : Record) → record_of 1 first.cell.records ≡ Some was
    → pending_cell (with_first (says_truncated size lowered) (first ∷ rest)) ≡ cond (is_some (record_of 6 first.cell.records) || is_some lowered) (Some first.at) None
left_said size None first rest was has =
    ap (option_map (λ _. first.at)) (find_other 1 6 (attributes_now size None first.cell) first.cell.records (λ is. omega (arith, is)) (of_kind_now size None first.cell was has)) ∙ by_pending (record_of 6 first.cell.records)
  where
    by_pending : (o : Option Record) → option_map (λ _. first.at) o ≡ cond (is_some o || false) (Some first.at) None
    by_pending None = refl
    by_pending (Some r) = refl
left_said size (Some k) first rest was has =
    ap (option_map (λ _. first.at)) (find_put 6 (Some (written.Pending Trim)) (with_kind 1 (attributes_now size (Some k) first.cell) first.cell.records) refl) ∙ by_pending (is_some (record_of 6 first.cell.records))
  where
    by_pending : (b : Bool) → Some first.at ≡ cond (b || true) (Some first.at) None
    by_pending true = refl
    by_pending false = refl

module _ (size : ℕ) (cell : Cell) (was : Record) (has : record_of 1 cell.records ≡ Some was) where
  kinds_sized : (lowered : Option ℕ) → AllByRecursion (λ r. is_first_kind (kind_of r) ≡ true) cell.records → AllByRecursion (λ r. is_first_kind (kind_of r) ≡ true) (says_size size lowered cell).records
  kinds_sized lowered all =
      kinds_replaced 1 (attributes_now size lowered cell) cell.records all
      (subst (λ o. IfSome (option_map (resized size lowered) o) (λ r. is_first_kind (kind_of r) ≡ true)) (sym has) (ap is_first_kind (resized_kind size lowered was ∙ kind_found 1 cell.records was has)))

  pub kinds_truncated : (lowered : Option ℕ) → AllByRecursion (λ r. is_first_kind (kind_of r) ≡ true) cell.records → AllByRecursion (λ r. is_first_kind (kind_of r) ≡ true) (says_truncated size lowered cell).records
  kinds_truncated None all = kinds_sized None all
  kinds_truncated (Some k) all = kinds_replaced 6 (Some (written.Pending Trim)) (says_size size (Some k) cell).records (kinds_sized (Some k) all) refl

  attributes_sized : (lowered : Option ℕ) → record_of 1 (says_size size lowered cell).records ≡ Some (resized size lowered was)
  attributes_sized lowered = find_put 1 (attributes_now size lowered cell) cell.records (of_kind_now size lowered cell was has) ∙ ap (option_map (resized size lowered)) has

  pub attributes_truncated : (lowered : Option ℕ) → IsSome (record_of 1 (says_truncated size lowered cell).records)
  attributes_truncated None = subst (λ o. IsSome o) (sym (attributes_sized None)) refl
  attributes_truncated (Some k) =
      subst (λ o. IsSome o) (sym (find_other 6 1 (Some (written.Pending Trim)) (says_size size (Some k) cell).records (λ is. omega (arith, is)) refl ∙ attributes_sized (Some k))) refl

  module _ (map : Record) (only : map_records cell.records ≡ map ∷ []) (rows : has_rows map ≡ true) where
    other_kind : (k : ℕ) → nat_le 1 (most_rows k) ≡ false → ¬ kind_of map ≡ k
    other_kind k none is = true≢false (sym rows ∙ ap (λ k. nat_le 1 (most_rows k)) is ∙ none)

    maps_sized : (lowered : Option ℕ) → map_records (says_size size lowered cell).records ≡ map ∷ []
    maps_sized lowered = map_stays 1 (attributes_now size lowered cell) cell.records map only (other_kind 1 refl)
        (subst (λ o. IfSome (option_map (resized size lowered) o) (λ r. has_rows r ≡ false)) (sym has) (ap (λ k. nat_le 1 (most_rows k)) (resized_kind size lowered was ∙ kind_found 1 cell.records was has)))

    pub maps_truncated : (lowered : Option ℕ) → map_records (says_truncated size lowered cell).records ≡ map ∷ []
    maps_truncated None = maps_sized None
    maps_truncated (Some k) = map_stays 6 (Some (written.Pending Trim)) (says_size size (Some k) cell).records map (maps_sized (Some k)) (other_kind 6 refl) refl

-- ---- the files

module _ (pages new : Pages) (fileset : ℕ) (places : List TagPlace) (tag : Tag) (chains : Chains) (at : CellAt) (are : AreFiles fileset places pages chains) (live : IsLiveCell pages (chains tag) (Some at)) (size : ℕ) (answer : Option CellAt)
    (leaves : LeavesOthers (is_at at) pages new) (elsewhere : (home : Home) → same_home home (home_of at) ≡ false → new home ≡ pages home) (was : Record) where
  of : First pages fileset places tag chains at are live
  of = the_first pages fileset places tag chains at are live

  pub truncates : record_of 1 (the_first pages fileset places tag chains at are live).first.cell.records ≡ Some was
      → TruncatesChain size at (the_first pages fileset places tag chains at are live).first (the_first pages fileset places tag chains at are live).rest new answer → Truncates fileset places tag size answer chains new
  truncates has done =
      let f = the_first pages fileset places tag chains at are live in
      let change = says_truncated size done.lowered in
      let stands = subst (λ (a : CellAt). StandsAt new a (change f.first.cell)) (sym f.is_at) done.stands in
      let leaves_first = subst (λ (a : CellAt). LeavesOthers (is_at a) pages new) (sym f.is_at) leaves in
      let head = head_same size done.lowered f.first.cell in
      record {
        lowered = done.lowered;
        stale = subst (λ o. IsSomeAnd o (λ chain. IsLowered size chain done.lowered)) (sym f.is) done.stale;
        files = files_now change tag chains pages new fileset places are f.first f.rest f.is f.file.links.stands.bytes f.file.links.stands.there leaves_first
            (subst (λ (a : CellAt). (home : Home) → same_home home (home_of a) ≡ false → new home ≡ pages home) (sym f.is_at) elsewhere)
            (file_changed pages new f.first f.rest (change f.first.cell) f.file leaves_first stands head
            (maps_truncated size f.first.cell was has f.file.value f.file.map.only (value_has_rows f.file.value f.file.map.is_map) done.lowered) (attributes_truncated size f.first.cell was has done.lowered))
            head (kinds_truncated size f.first.cell was has done.lowered f.kinds);
        pending = subst (λ o. IsSomeAnd o (λ chain. answer ≡ pending_cell (with_first (says_truncated size done.lowered) chain))) (sym f.is) done.pending;
      }

-- ---- how many pages are kept

none_is_keep : (k : ℕ) → None ≡ Some k → ⊥
none_is_keep k e = cc

-- a record of attributes says how many
has_keep : (r : Record) → kind_of r ≡ 1 → IsSome (keep_in r)
has_keep (written.Attributes kind uid gid flags was keep links birth unsynced) is = refl
has_keep (written.CloneFile vol cell page frozen) is = absurd (omega (arith, is))
has_keep (written.Extents rows) is = absurd (omega (arith, is))
has_keep (written.ShortExtents rows) is = absurd (omega (arith, is))
has_keep (written.Holes rows) is = absurd (omega (arith, is))
has_keep (written.Pending what) is = absurd (omega (arith, is))
has_keep (written.UserQuota id files blocks) is = absurd (omega (arith, is))
has_keep (written.GroupQuota id files blocks) is = absurd (omega (arith, is))
has_keep (written.DirIndex vol page entries) is = absurd (omega (arith, is))
has_keep (written.Parent slot seq) is = absurd (omega (arith, is))
has_keep (written.Stripe width mark vols) is = absurd (omega (arith, is))
has_keep (written.Volume vol pages bitmap_pages) is = absurd (omega (arith, is))
has_keep (written.DenseExtents rows) is = absurd (omega (arith, is))
has_keep (written.ShortDense rows) is = absurd (omega (arith, is))

first_kind_one : (chain : List PlacedCell) (was : Record) → first_record 1 chain ≡ Some was → kind_of was ≡ 1
first_kind_one [] was is = absurd (none_is_record is)
  where
    none_is_record : None ≡ Some was → ⊥
    none_is_record e = cc
first_kind_one (first ∷ rest) was is = kind_found 1 first.cell.records was is

pub no_keep : (chain : List PlacedCell) (was : Record) → first_record 1 chain ≡ Some was → None ≡ keep_in was → ⊥
no_keep chain was has none = true≢false (sym (subst (λ o. IsSome o) (sym none) (has_keep was (first_kind_one chain was has))))

pub keep_is : (chain : List PlacedCell) (was : Record) (keep : ℕ) → first_record 1 chain ≡ Some was → Some keep ≡ keep_in was → keep_of chain ≡ Some keep
keep_is chain was keep has is = ap (option_and_then keep_in) has ∙ sym is

pub lowered_from : (size : ℕ) (chain : List PlacedCell) (keep : ℕ) (map : List Run) (lowered : Option ℕ) → keep_of chain ≡ Some keep → ((p : ℕ) → place_of map p ≡ places_of chain p)
    → IfSome lowered (λ from. from ≡ pages_in size) → IfSome lowered (λ from. HasPageWithin from keep (place_of map)) → IfNone lowered (¬ HasPageWithin (pages_in size) keep (place_of map)) → IsLowered size chain lowered
lowered_from size chain keep map None keeps same some there none =
    subst (λ o. IsSomeAnd o (λ keep. ¬ HasPageWithin (pages_in size) keep (places_of chain))) (sym keeps) (λ has. none (moved (pages_in size) keep (places_of chain) (place_of map) (λ p. sym (same p)) has))
lowered_from size chain keep map (Some from) keeps same some there none =
    (some, subst (λ o. IsSomeAnd o (λ keep. HasPageWithin from keep (places_of chain))) (sym keeps) (moved from keep (place_of map) (places_of chain) same there))

pub was_of : (pages : Pages) (at : CellAt) (chain : List PlacedCell) (was : Record) → IsFile pages at chain → first_record 1 chain ≡ Some was → (cell : Cell) → StandsAt pages at cell → record_of 1 cell.records ≡ Some was
was_of pages at [] was is has cell stands = absurd is
was_of pages at (first ∷ rest) was is has cell stands =
    ap (λ (c : Cell). record_of 1 c.records) (one_stands pages at cell first.cell stands (subst (λ (a : CellAt). StandsAt pages a first.cell) is.0 is.1.links.stands)) ∙ has
