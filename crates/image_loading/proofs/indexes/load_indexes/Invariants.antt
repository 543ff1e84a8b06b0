use Rattle.std.proofs.Common.{◌≡◌}
use Rattle.slot_files.specs.page_ways.Frame.{frame_in}
use Rattle.image_loading.specs.Loading.{Brings}
use Rattle.image_loading.proofs.Named.{HasIndexesBelow}
use Rattle.image_loading.proofs.indexes.load_indexes.Given as goal

abbrev pub invariant-loop-index : goal.invariant-loop-index
invariant-loop-index g l =
    let disk = g.R.Rack.disk in
    let pages = g.M.MetaPages.pages in
    record {
      brings : Brings (disk l.fn.rack) (disk l.rack) (pages l.fn.pages) (pages l.pages);
      passed : (disk l.rack).read_faults ≡ (disk l.fn.rack).read_faults;
      before : g.M.MetaPages.before l.pages ≡ g.M.MetaPages.before l.fn.pages;
      whole : HasIndexesBelow l.index-index (pages l.pages) (frame_in l.frame) l.index-items;
    }
