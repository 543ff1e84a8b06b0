-- Cells through which a clone's file is read, and the homes of its pages.
use Rattle.std.proofs.Common.{◌≡◌, ◌∙◌, ℕ, ◌≤◌, Bool, true, false, cond, nat_lt, List, [], ◌∷◌, Option, Some, None, IfOk, IfSome, Result, refl, sym, ap, subst, arith, ⊎_elim}
use Rattle.std.proofs.lemmas.Bool.{cases_lt}
use Rattle.std.proofs.lemmas.Option.{slice_get_past}
use Rattle.std.specs.Option.{option_and_then}
use Rattle.filesets_reading.specs.domain_base.declared.place.CellAt.{CellAt}
use Rattle.filesets_reading.specs.domain_base.declared.place.Home.{Home}
use Rattle.filesets_reading.specs.page_store.Pages.{Pages}
use Rattle.filesets_reading.specs.cell_records.Records.{Allowed}
use Rattle.filesets_reading.specs.cell_records.declared.record.Record.{Record}
use Rattle.filesets_reading.specs.cell_records.declared.record.Record.TheVariants as written
use Rattle.filesets_reading.specs.metadata_cells.Chain.{PlacedCell}
use Rattle.filesets_reading.specs.extent_maps.Runs.{Places, home_at, place_of}
use Rattle.filesets_reading.specs.extent_maps.declared.run.PagePlace.{PagePlace}
use Rattle.filesets_reading.specs.extent_maps.declared.run.PagePlace.TheVariants.{Absent, At}
use Rattle.filesets_reading.specs.file_chains.Files.{HasFile, IsFile}
use Rattle.filesets_reading.specs.fileset_files.Files.{first_record}
use Rattle.filesets_reading.proofs.OfFilesetFiles.Room.{allowed_found}
use Rattle.filesets_reading.specs.file_release.Reading.{own_or, read_home}
use Rattle.filesets_reading.specs.Seen.{home_in}
use Rattle.filesets_reading.proofs.Originals.{ListsUpTo}
use Rattle.filesets_reading.specs.extent_maps.Runs.{SamePlaces}
use Rattle.filesets_reading.specs.extent_maps.declared.run.Run.{Run}
use Rattle.filesets_reading.specs.extent_records.Rows.{runs_of}
use Rattle.filesets_reading.specs.metadata_cells.Chain.{records_of}
use Rattle.filesets_reading.specs.domain_layout.Seen.{IsSource}
use Rattle.filesets_reading.proofs.OfDomainLayout.There.{links_of}
use Rattle.filesets_reading.specs.Chains.{HasLinks}
use Rattle.fileset_shapes.specs.Clones.{HasVolume, MayBeSource}
use Rattle.fileset_shapes.proofs.Answered.{if_ok}

-- ---- a record of a clone's file

allowed_volume : (r : Record) → Allowed r → HasVolume r
unfolding Allowed
allowed_volume (written.CloneFile vol cell page frozen) is = ⊎_elim (λ none. omega (arith, none.0)) (λ some. some.0.1) is.0
allowed_volume _ is = tt

pub first_volume : (pages : Pages) (at : CellAt) (kind : ℕ) (r : Record) → HasFile pages at → ((cells : List PlacedCell) → IsFile pages at cells → Some r ≡ first_record kind cells) → HasVolume r
first_volume pages at kind r has same = by_cells has.0 has.1 (same has.0 has.1)
  where
    by_cells : (cells : List PlacedCell) → IsFile pages at cells → Some r ≡ first_record kind cells → HasVolume r
    by_cells [] is there = absurd is
    by_cells (first ∷ rest) is there = allowed_volume r (allowed_found kind first.cell.records r (sym there) is.1.links.stands.is.well_formed.allowed)

-- ---- homes, page by page

-- a place with that home
abbrev pub placed_at : Option Home → PagePlace
placed_at None = Absent
placed_at (Some home) = At home

pub home_placed : (o : Option Home) → home_at (placed_at o) ≡ o
home_placed None = refl
home_placed (Some home) = refl

-- pages after the last are in no list
pub homes_end : (read : ℕ → Option Home) (homes : List (Option Home)) (end : ℕ) → ListsUpTo (λ page. placed_at (read page)) homes end → ((page : ℕ) → end ≤ page → read page ≡ None) → (page : ℕ) → home_in homes page ≡ read page
homes_end read homes end lists none page =
    ⊎_elim (λ low. ap (option_and_then (λ home. home)) (lists.each page low) ∙ home_placed (read page))
    (λ high. ap (option_and_then (λ home. home)) (slice_get_past homes page (omega (arith, high, lists.count))) ∙ sym (none page high)) (cases_lt page end)

-- a page that neither has is read nowhere
pub read_nowhere : (frozen : ℕ) (own source : Places) (page : ℕ) → own page ≡ Absent → source page ≡ Absent → read_home frozen own source page ≡ None
read_nowhere frozen own source page absent also =
    ap (λ place. own_or place (cond (nat_lt page frozen) (home_at (source page)) None)) absent
    ∙ ap (λ place. cond (nat_lt page frozen) (home_at place) None) also ∙ either (nat_lt page frozen)
  where
    either : (b : Bool) → cond {A = Option Home} b None None ≡ None
    either true = refl
    either false = refl

-- ---- the cell through which a file is read

pub source_read : {E : Type 0} (pages : Pages) (source : Option CellAt) (at : CellAt) (r : Result (List Run) E) → source ≡ Some at → IfSome source (MayBeSource pages) → HasLinks pages at
    → ((cells : List PlacedCell) → IsFile pages at cells → IfOk r (SamePlaces (runs_of (records_of cells)))) → IfOk r (λ map. IsSource pages source (place_of map))
source_read pages source at r is may links read =
    let source_is = subst (λ o. IfSome o (MayBeSource pages)) is may in
    let file = source_is.file links in
    subst (λ o. IfOk r (λ map. IsSource pages o (place_of map))) (sym is)
    (if_ok r (SamePlaces (runs_of (records_of file.0))) (λ map. IsSource pages (Some at) (place_of map)) (λ map same. (file.0, links_of pages at file.0 file.1, same)) (read file.0 file.1))
