-- Where pages are by lists of places, of homes and of runs.
use Rattle.std.proofs.Common.{◌≡◌, ◌∙◌, ◌↔◌, ℕ, ◌+◌, ◌-◌, ◌<◌, ◌≤◌, ◌==◌, ◌&&◌, Bool, true, false, cond, nat_le, nat_lt, List, [], ◌∷◌, ◌++◌, Option, Some, None, get_or, slice_get, length, zero, suc, take, drop, refl, sym, ap, subst, arith, ⊎_elim, eq-eqb}
use Rattle.std.proofs.lemmas.Bool.{cases_lt, le-leb, le-ltb, lt-ltb, ne_eqb}
use Rattle.std.proofs.lemmas.Option.{slice_get_past, slice_get-get_or}
use Rattle.std.specs.Option.{option_and_then, option_map_or}
use Rattle.index_row_faults.specs.domain_base.declared.place.CellAt.{CellAt}
use Rattle.index_row_faults.specs.domain_base.declared.place.Home.{Home}
use Rattle.index_row_faults.specs.page_store.Pages.{Pages}
use Rattle.index_row_faults.specs.cell_records.Records.{Allowed}
use Rattle.index_row_faults.specs.cell_records.declared.record.Record.{Record}
use Rattle.index_row_faults.specs.cell_records.declared.record.Record.TheVariants as written
use Rattle.index_row_faults.specs.metadata_cells.Chain.{LinksFrom, PlacedCell}
use Rattle.index_row_faults.specs.fileset_files.Files.{first_record}
use Rattle.index_row_faults.proofs.OfFilesetFiles.Room.{allowed_found}
use Rattle.index_row_faults.specs.file_release.Reading.{read_home}
use Rattle.index_row_faults.specs.domain_layout.Reached.{Frame, IsWithin}
use Rattle.index_row_faults.specs.extent_maps.Runs.{behind, covers, end_of, home_at, place_of, placed}
use Rattle.index_row_faults.specs.extent_maps.declared.run.PagePlace.{PagePlace}
use Rattle.index_row_faults.specs.extent_maps.declared.run.PagePlace.TheVariants.{Absent}
use Rattle.index_row_faults.specs.extent_maps.declared.run.Run.{Run}
use Rattle.index_row_faults.specs.extent_maps.declared.run.RunPlace.{RunPlace}
use Rattle.index_row_faults.specs.extent_records.Writing.{places_before}
use Rattle.index_row_faults.specs.filesets_reading.Chains.{HasLinks}
use Rattle.index_row_faults.proofs.OfFilesetsReading.Originals.{none_behind}
use Rattle.index_row_faults.proofs.OfFilesetsReading.Ways.{map_pushed}
use Rattle.index_row_faults.specs.fileset_shapes.Clones.{HasVolume}
use Rattle.index_row_faults.proofs.OfFilesetShapes.ReadHomes.{read_nowhere}
use Rattle.slot_files.specs.Said.{first_there, home_said, place_in, place_there, run_there, runs_there, said_in}
use Rattle.slot_files.specs.declared.said.SaidHome.{SaidHome}
use Rattle.slot_files.specs.declared.said.SaidPlace.{SaidPlace}
use Rattle.slot_files.specs.declared.said.SaidRun.{SaidRun}
use Rattle.slot_files.proofs.Listed.{UpTo, taken, up_ends}

-- ---- behind the last

pub past : (places : List SaidPlace) (page : ℕ) → length places ≤ page → place_in places page ≡ Absent
past places page behind = ap (λ o. option_map_or place_there o Absent) (slice_get_past places page behind)

pub place_got : (places : List SaidPlace) (page : ℕ) (d : SaidPlace) → page < length places → place_in places page ≡ place_there (get_or places page d)
place_got places page d within = ap (λ o. option_map_or place_there o Absent) (slice_get-get_or places page d within)

-- ---- homes

-- a home is that of a place, or the one at which a page is read
abbrev pub IsHomeAt : (ℕ → Option Home) → ℕ → Option (Option SaidHome) → Type 0
IsHomeAt want page o = option_and_then home_said o ≡ want page

pub before_ends : (places : List SaidPlace) (keep end : ℕ) (homes : List (Option SaidHome)) → UpTo (IsHomeAt (λ p. home_at (place_in places p))) homes end → end ≤ keep → ((p : ℕ) → end ≤ p → p < keep → length places ≤ p)
    → (page : ℕ) → said_in homes page ≡ home_at (places_before keep (place_in places) page)
before_ends places keep end homes up within later page =
    ⊎_elim (λ low. up.each page low ∙ ap (λ b. home_at (cond b (place_in places page) Absent)) (sym (lt-ltb page keep (omega (arith, low, within)))))
    (λ high. ap (option_and_then home_said) (slice_get_past homes page (omega (arith, high, up.count)))
    ∙ sym (none_behind (place_in places) keep (length places) page (λ behind. past places page behind) (λ low. later page high low))) (cases_lt page end)

pub read_ends : (own source : List SaidPlace) (frozen end : ℕ) (homes : List (Option SaidHome)) → UpTo (IsHomeAt (read_home frozen (place_in own) (place_in source))) homes end → ((p : ℕ) → end ≤ p → (length own ≤ p) × (length source ≤ p))
    → (page : ℕ) → said_in homes page ≡ read_home frozen (place_in own) (place_in source) page
read_ends own source frozen end homes up later =
    up_ends (IsHomeAt (read_home frozen (place_in own) (place_in source))) homes end up
    (λ p behind. let both = later p behind in sym (read_nowhere frozen (place_in own) (place_in source) p (past own p both.0) (past source p both.1)))

-- ---- members

none_some : {P : Type 0} (home : Home) → None ≡ Some home → P
none_some home is = absurd (cc)

-- a home is the said one, where that is a page of a member
abbrev pub IsMemberHome : List (Option SaidHome) → Frame → ℕ → Option (Option Home) → Type 0
IsMemberHome said frame page o = (home : Home) → (option_and_then (λ h. h) o ≡ Some home) ↔ ((said_in said page ≡ Some home) × IsWithin frame home)

pub member_got : (said : List (Option SaidHome)) (frame : Frame) (page : ℕ) (d : Option SaidHome) (found : Option Home) → page < length said → ((home : Home) → (found ≡ Some home) ↔ ((home_said (get_or said page d) ≡ Some home) × IsWithin frame home))
    → IsMemberHome said frame page (Some found)
member_got said frame page d found within is home =
    subst (λ (o : Option Home). (found ≡ Some home) ↔ ((o ≡ Some home) × IsWithin frame home)) (sym (ap (option_and_then home_said) (slice_get-get_or said page d within))) (is home)

pub members_end : (said : List (Option SaidHome)) (frame : Frame) (end : ℕ) (homes : List (Option Home)) → UpTo (IsMemberHome said frame) homes end → ((p : ℕ) → end ≤ p → length said ≤ p)
    → (page : ℕ) (home : Home) → (option_and_then (λ h. h) (slice_get homes page) ≡ Some home) ↔ ((said_in said page ≡ Some home) × IsWithin frame home)
members_end said frame end homes up later =
    up_ends (IsMemberHome said frame) homes end up
    (λ p behind home. (λ is. none_some home is, λ both. none_some home (sym (ap (option_and_then home_said) (slice_get_past said p (later p behind))) ∙ both.0)))

-- ---- runs

covers_not : (run : Run) (page : ℕ) → end_of run ≤ page → (b : Bool) → (b && nat_lt page (end_of run)) ≡ false
covers_not run page ends true = le-ltb page (end_of run) ends
covers_not run page ends false = refl

still_absent : (b : Bool) (here more also : PagePlace) → cond b here more ≡ Absent → (more ≡ Absent → also ≡ Absent) → cond b here also ≡ Absent
still_absent true here more also is step = is
still_absent false here more also is step = step is

absent_more : (runs : List Run) (run : Run) (page : ℕ) → place_of runs page ≡ Absent → end_of run ≤ page → place_of (runs ++ run ∷ []) page ≡ Absent
absent_more [] run page absent ends = ap (λ b. cond b (placed (behind (page - run.page) run.first)) Absent) (covers_not run page ends (nat_le run.page page))
absent_more (first ∷ runs) run page absent ends =
    still_absent (covers first page) (placed (behind (page - first.page) first.first)) (place_of runs page) (place_of (runs ++ run ∷ []) page) absent (λ none. absent_more runs run page none ends)

pub end_on : (runs : List SaidRun) (k : ℕ) (d : SaidRun) (page last : ℕ) → k < length runs → place_of (runs_there (take k runs)) page ≡ Absent → last ≡ end_of (run_there (get_or runs k d)) → last ≤ page
    → place_of (runs_there (take (k + 1) runs)) page ≡ Absent
end_on runs k d page last within absent ends behind =
    ap (λ rs. place_of (runs_there rs) page) (taken runs k d within)
    ∙ ap (λ rs. place_of rs page) (map_pushed run_there (take k runs) (get_or runs k d))
    ∙ absent_more (runs_there (take k runs)) (run_there (get_or runs k d)) page absent (subst (λ (n : ℕ). n ≤ page) ends behind)

-- the pages of a run up to one, and one more
abbrev pub has_up_to : ℕ → ℕ → ℕ → Bool
has_up_to page count p = nat_le page p && nat_lt p (page + count)

pub run_on : (first : RunPlace) (page count p : ℕ) (next now old : PagePlace) → now ≡ cond (has_up_to page count p) (placed (behind (p - page) first)) old → next ≡ cond (p == page + count) (placed (behind count first)) now
    → next ≡ cond (has_up_to page (count + 1) p) (placed (behind (p - page) first)) old
run_on first page count p next now old before set =
    ⊎_elim (λ low.
    set ∙ ap (λ b. cond b (placed (behind count first)) now) (ne_eqb p (page + count) (λ is. omega (arith, low, is))) ∙ before
    ∙ ap (λ b. cond (nat_le page p && b) (placed (behind (p - page) first)) old) (lt-ltb p (page + count) low ∙ sym (lt-ltb p (page + (count + 1)) (omega (arith, low)))))
    (λ high. ⊎_elim (λ below.
    let here : p ≡ page + count = omega (arith, high, below) in
    let away : p - page ≡ count = omega (arith, here) in
    set ∙ ap (λ b. cond b (placed (behind count first)) now) (eq-eqb p (page + count) here)
    ∙ ap (λ n. placed (behind n first)) (sym away)
    ∙ sym (ap (λ b. cond (b && nat_lt p (page + (count + 1))) (placed (behind (p - page) first)) old) (le-leb page p (omega (arith, here)))
    ∙ ap (λ b. cond b (placed (behind (p - page) first)) old) (lt-ltb p (page + (count + 1)) below)))
    (λ above.
    set ∙ ap (λ b. cond b (placed (behind count first)) now) (ne_eqb p (page + count) (λ is. omega (arith, above, is))) ∙ before
    ∙ ap (λ b. cond (nat_le page p && b) (placed (behind (p - page) first)) old) (le-ltb p (page + count) high)
    ∙ sym (ap (λ b. cond (nat_le page p && b) (placed (behind (p - page) first)) old) (le-ltb p (page + (count + 1)) above)))
    (cases_lt p (page + (count + 1)))) (cases_lt p (page + count))

-- runs from one on
dropped : (runs : List SaidRun) (k : ℕ) (d : SaidRun) → k < length runs → drop k runs ≡ get_or runs k d ∷ drop (suc k) runs
dropped [] k d within = absurd (omega (arith, within))
dropped (x ∷ xs) zero d within = refl
dropped (x ∷ xs) (suc k) d within = dropped xs k d (omega (arith, within))

all_dropped : (runs : List SaidRun) (n : ℕ) → n ≡ length runs → drop n runs ≡ []
all_dropped [] zero is = refl
all_dropped [] (suc n) is = refl
all_dropped (r ∷ rs) zero is = absurd (omega (arith, is))
all_dropped (r ∷ rs) (suc n) is = all_dropped rs n (omega (arith, is))

-- a list has the places of the runs from one on, and the runs have no page behind it
pub record HasRunsFrom (runs : List SaidRun) (from : ℕ) (places : List SaidPlace) : Type 0 where
  pub bound : (page : ℕ) → length places ≤ page → place_of (runs_there runs) page ≡ Absent
  pub each : (page : ℕ) → page < length places → place_in places page ≡ place_of (runs_there (drop from runs)) page

pub runs_begin : (runs : List SaidRun) (end : ℕ) (places : List SaidPlace) → ((page : ℕ) → end ≤ page → place_of (runs_there runs) page ≡ Absent) → length places ≡ end → ((page : ℕ) → place_in places page ≡ Absent) → HasRunsFrom runs (length runs) places
runs_begin runs end places none long absent = record {
  bound = λ page behind. none page (omega (arith, behind, long));
  each = λ page low. absent page ∙ sym (ap (λ rs. place_of (runs_there rs) page) (all_dropped runs (length runs) refl));
}

pub runs_on : (runs : List SaidRun) (k : ℕ) (d : SaidRun) (old new : List SaidPlace) → k < length runs → HasRunsFrom runs (suc k) old → length new ≡ length old
    → ((page : ℕ) → page < length old → place_in new page ≡ cond (covers (run_there (get_or runs k d)) page) (placed (behind (page - (get_or runs k d).page) (first_there (get_or runs k d).first))) (place_in old page))
    → HasRunsFrom runs k new
runs_on runs k d old new within has long put = record {
  bound = λ page behind. has.bound page (omega (arith, behind, long));
  each = λ page low.
      let before : page < length old = omega (arith, low, long) in
      put page before ∙ ap (λ place. cond (covers (run_there (get_or runs k d)) page) (placed (behind (page - (get_or runs k d).page) (first_there (get_or runs k d).first))) place) (has.each page before)
      ∙ sym (ap (λ rs. place_of (runs_there rs) page) (dropped runs k d within));
}

pub runs_end : (runs : List SaidRun) (places : List SaidPlace) → HasRunsFrom runs 0 places → (page : ℕ) → place_in places page ≡ place_of (runs_there runs) page
runs_end runs places has page =
    ⊎_elim (λ low. has.each page low) (λ high. past places page high ∙ sym (has.bound page high)) (cases_lt page (length places))

-- ---- the record of a clone's file

allowed_volume : (r : Record) → Allowed r → HasVolume r
unfolding Allowed
allowed_volume (written.CloneFile vol cell page frozen) is = ⊎_elim (λ none. omega (arith, none.0)) (λ some. some.0.1) is.0
allowed_volume _ is = tt

pub links_volume : (pages : Pages) (at : CellAt) (kind : ℕ) (r : Record) → HasLinks pages at → ((cells : List PlacedCell) → LinksFrom pages at cells → Some r ≡ first_record kind cells) → HasVolume r
links_volume pages at kind r has same = by_cells has.0 has.1 (same has.0 has.1)
  where
    by_cells : (cells : List PlacedCell) → LinksFrom pages at cells → Some r ≡ first_record kind cells → HasVolume r
    by_cells [] is there = absurd is
    by_cells (first ∷ rest) is there = allowed_volume r (allowed_found kind first.cell.records r (sym there) is.1.stands.is.well_formed.allowed)
