use Rattle.std.proofs.Common.{◌≡◌}
use Rattle.slot_files.specs.page_ways.Frame.{frame_in}
use Rattle.image_loading.specs.Loading.{Brings, HasCellsBelow}
use Rattle.image_loading.proofs.tables.load_cells.Given as goal

abbrev pub invariant-loop-number : goal.invariant-loop-number
invariant-loop-number g l =
    let disk = g.R.Rack.disk in
    let pages = g.M.MetaPages.pages in
    record {
      brings : Brings (disk l.fn.rack) (disk l.rack) (pages l.fn.pages) (pages l.pages);
      passed : (disk l.rack).read_faults ≡ (disk l.fn.rack).read_faults;
      before : g.M.MetaPages.before l.pages ≡ g.M.MetaPages.before l.fn.pages;
      whole : HasCellsBelow l.number (pages l.pages) (frame_in l.frame);
    }
