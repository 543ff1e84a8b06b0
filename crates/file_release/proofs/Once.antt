-- What the cells of a file say of pages.
use Rattle.std.proofs.Common.{◌≡◌, ◌∙◌, ℕ, ◌+◌, ◌-◌, ◌<◌, ◌≤◌, Bool, true, false, cond, List, [], ◌∷◌, ◌++◌, refl, ap, subst, arith}
use Rattle.std.specs.List.{AllByRecursion}
use Rattle.fileset_files.specs.domain_base.declared.place.CellAt.{CellAt}
use Rattle.fileset_files.specs.domain_base.declared.place.Home.{Home}
use Rattle.fileset_files.specs.page_store.Pages.{Pages}
use Rattle.fileset_files.specs.cell_records.declared.record.Record.{Record}
use Rattle.fileset_files.specs.metadata_cells.Chain.{PlacedCell, records_of}
use Rattle.fileset_files.specs.extent_maps.declared.run.PagePlace.TheVariants.{Absent, At, Hole}
use Rattle.fileset_files.specs.extent_maps.declared.run.RunPlace.{RunPlace}
use Rattle.fileset_files.specs.extent_maps.declared.run.RunPlace.TheVariants as place
use Rattle.fileset_files.specs.extent_maps.declared.run.Run.{Run}
use Rattle.fileset_files.specs.extent_maps.Runs.{behind, covers, place_of, placed}
use Rattle.fileset_files.proofs.OfExtentMaps.EditLemmas.{covers_is}
use Rattle.fileset_files.specs.extent_records.Rows.{AreOneMap, IsPlaced, NoPageTwice, OnVolume, runs_in}
use Rattle.fileset_files.specs.extent_records.Writing.{places_in}
use Rattle.fileset_files.specs.file_chains.Files.{HasMap, IsFile, places_of}
use Rattle.file_release.proofs.Cuts.{runs_around, runs_at, shown_runs}
use Rattle.fileset_files.proofs.Again.{one_home}

-- ---- homes

pub hole_not : (home : Home) → Hole ≡ At home → ⊥
hole_not home e = cc

pub absent_not : (home : Home) → Absent ≡ At home → ⊥
absent_not home e = cc

-- a page with a home is one of a file, and stands on a volume
pub record IsGoodPage (page : ℕ) (home : Home) : Type 0 where
  pub small : page < 65536
  pub low : 1 ≤ home.vol

pub good_page : (runs : List Run) → AllByRecursion IsPlaced runs → (page : ℕ) (home : Home) → place_of runs page ≡ At home → IsGoodPage page home
good_page [] all page home there = absurd (absent_not home there)
good_page (run ∷ runs) all page home there = by_cover (λ later. good_page runs all.1 page home later) (covers run page) refl there
  where
    on_volume : (first : RunPlace) → OnVolume first → (n : ℕ) → placed (behind n first) ≡ At home → 1 ≤ home.vol
    on_volume (place.At h) on n is = subst (λ (x : Home). 1 ≤ x.vol) (one_home (record { vol = h.vol; page = h.page + n }) home is) on.0
    on_volume place.Holes on n is = absurd (hole_not home is)

    by_cover : (place_of runs page ≡ At home → IsGoodPage page home) → (b : Bool) → covers run page ≡ b → cond b (placed (behind (page - run.page) run.first)) (place_of runs page) ≡ At home → IsGoodPage page home
    by_cover rest true is there = let inside = covers_is run page is in
        record { small = omega (arith, inside.1, all.0.is_run.ends); low = on_volume run.first all.0.volume (page - run.page) there }
    by_cover rest false is there = rest there

-- the chain has a page where a record of it has the page
pub shown_value : (front : List PlacedCell) (c : PlacedCell) (rest : List PlacedCell) (value : Record) → HasMap c.cell value → AreOneMap (records_of (front ++ c ∷ rest)) → (p : ℕ) → (places_in value p ≡ Absent → ⊥) → places_of (front ++ c ∷ rest) p ≡ places_in value p
shown_value front c rest value has one p some =
    let was = runs_around front c rest value has in
    ap (λ rs. place_of rs p) was ∙ shown_runs (runs_at front) (runs_in value) (runs_at rest) (subst NoPageTwice was one.once) p some

pub file_map : (pages : Pages) (start : CellAt) (chain : List PlacedCell) → IsFile pages start chain → AreOneMap (records_of chain)
file_map pages start [] is = absurd is
file_map pages start (first ∷ rest) is = is.1.one_map
