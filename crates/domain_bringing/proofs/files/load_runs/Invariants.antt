use Rattle.std.proofs.Common.{◌≡◌}
use Rattle.domain_faults.specs.page_ways.Frame.{frame_in}
use Rattle.image_loading.specs.Loading.{Brings}
use Rattle.image_loading.proofs.Listed.{HoldBelow}
use Rattle.domain_bringing.specs.Files.{HasPagesOf}
use Rattle.domain_bringing.proofs.files.load_runs.Given as goal

abbrev pub invariant-loop-run : goal.invariant-loop-run
invariant-loop-run g l =
    let disk = g.R.Rack.disk in
    let pages = g.M.MetaPages.pages in
    record {
      brings : Brings (disk l.fn.rack) (disk l.rack) (pages l.fn.pages) (pages l.pages);
      passed : (disk l.rack).read_faults ≡ (disk l.fn.rack).read_faults;
      before : g.M.MetaPages.before l.pages ≡ g.M.MetaPages.before l.fn.pages;
      below : HoldBelow l.run-index l.runs (HasPagesOf (pages l.pages) (frame_in l.frame));
    }
