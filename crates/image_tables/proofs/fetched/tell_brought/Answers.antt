use Rattle.std.proofs.Common.{subst, sym}
use Rattle.domain_attaching.specs.domain_layout.Faults.{HasNoFault}
use Rattle.domain_attaching.specs.fileset_shapes.Found.{HasAllPages}
use Rattle.domain_attaching.specs.page_store.Pages.{Pages}
use Rattle.domain_attaching.specs.page_ways.Frame.{frame_in}
use Rattle.image_tables.proofs.fetched.tell_brought.Goals as goal

pub read_filesets-requires : goal.read_filesets-requires
read_filesets-requires c =
    let is = c.requires.1 in
    let frame = frame_in c.args.brought.now.frame in
    record {
      named = is.whole.good.named;
      no_fault = subst (λ (pages : Pages). HasNoFault pages frame) (sym is.settled) is.whole.has.no_fault;
      all = subst (λ (pages : Pages). HasAllPages pages frame) (sym is.settled) is.whole.has.all;
    }
