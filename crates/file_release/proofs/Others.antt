-- Pages of other files after a step.
use Rattle.std.proofs.Common.{◌≡◌, ℕ, ◌≤◌, List, Option, Contains, sym, ap, subst, ⊎_elim}
use Rattle.fileset_files.specs.domain_base.declared.place.CellAt.{CellAt}
use Rattle.fileset_files.specs.domain_base.declared.place.Home.{Home}
use Rattle.fileset_files.specs.domain_base.declared.version.Version.{Version}
use Rattle.fileset_files.specs.page_store.Pages.{Pages}
use Rattle.fileset_files.specs.metadata_cells.Chain.{PlacedCell, records_of}
use Rattle.fileset_files.specs.extent_maps.declared.run.PagePlace.TheVariants.{At}
use Rattle.fileset_files.specs.extent_records.Rows.{runs_of}
use Rattle.fileset_files.specs.free_cells.Cells.{Cells, table_of}
use Rattle.fileset_files.specs.free_space.Spaces.{IsHeld, Spaces}
use Rattle.fileset_files.specs.file_chains.Files.{places_of}
use Rattle.file_release.specs.declared.reader.Reader.{Reader}
use Rattle.file_release.specs.declared.released.Released.{Released}
use Rattle.file_release.specs.declared.released.Released.TheVariants as released
use Rattle.file_release.specs.Releases.{Progresses, Releases, use_of}
use Rattle.fileset_files.specs.Together.{IsHeldApart}
use Rattle.file_release.specs.Sharing.{AreSharing}
use Rattle.file_release.proofs.Given.{held_given}
use Rattle.fileset_files.proofs.Grown.{apart_grows}
use Rattle.file_release.proofs.Once.{file_map, good_page}

same_tables : (what : Released) (from : ℕ) (chain after : List PlacedCell) (cells cells_now : Cells) → Progresses what from chain after cells cells_now → (vol : ℕ) → table_of cells_now vol ≡ table_of cells vol
same_tables released.Nothing from chain after cells cells_now progress vol = absurd progress
same_tables released.Pages from chain after cells cells_now progress vol = ap (λ (c : Cells). table_of c vol) progress.same_cells
same_tables released.Cell from chain after cells cells_now progress vol = progress.frees.tables vol

pub others_held : (from : ℕ) (start : CellAt) (reader : Option Reader) (group : ℕ) (version : Version) (chain own : List PlacedCell) (space space_now : Spaces) (cells cells_now : Cells) (old new : Pages) (what : Released) (home : Home) → AreSharing start reader space cells old chain own
    → Releases from start reader group version chain own space space_now cells cells_now old new what → 1 ≤ home.vol → IsHeldApart space cells home → ((page : ℕ) → ¬ places_of chain page ≡ At home) → IsHeldApart space_now cells_now home
others_held from start reader group version chain own space space_now cells cells_now old new what home sharing r low is none =
    let between : IsHeldApart r.space_between r.cells_between home = ⊎_elim
    (λ same. subst (λ (s : Spaces). IsHeldApart s r.cells_between home) (sym same.0) (subst (λ (c : Cells). IsHeldApart space c home) (sym same.1) is))
    (λ t. apart_grows t.page (At t.home) own t.home.vol space r.space_between cells r.cells_between old t.taken home is)
    r.taken in
    record {
      held = subst (λ (s : Spaces). IsHeld s home.vol home.page) (sym r.given.is)
          (held_given (use_of chain) group r.given.homes r.space_between home
          (λ x inside. let gone = (r.given.each x).0 inside in (good_page (runs_of (records_of chain)) (file_map old start chain sharing.file).placed gone.page x gone.was).low)
          low
          (λ inside. let gone = (r.given.each home).0 inside in none gone.page gone.was)
          between.held);
      off_table = λ on. between.off_table (subst (λ (t : List ℕ). Contains t home.page) (same_tables what from chain r.after r.cells_between cells_now r.progress home.vol) on);
    }
