use Rattle.domain_attaching.specs.page_ways.Frame.{frame_in}
use Rattle.domain_attaching.specs.staged_pages.Store.{before_of}
use Rattle.advfs_run.proofs.runs.run_on.Given as goal

abbrev pub ghosts-run_attached : goal.ghosts-run_attached
ghosts-run_attached g a = record {
  pages = before_of a.attached.memory.pages;
  frame = frame_in a.attached.memory.frame;
  sizes = (g.R.Rack.disk a.attached.rack).sizes;
}
