use Rattle.std.proofs.Common.{subst, sym}
use Rattle.domain_faults.specs.page_store.Pages.{Pages}
use Rattle.domain_faults.specs.page_ways.Frame.{frame_in}
use Rattle.staged_pages.specs.Store.{pages_of}
use Rattle.domain_bringing.specs.Brought.{ArePagesOf, HasDomainPages}
use Rattle.domain_bringing.proofs.Means.{brought_same}
use Rattle.domain_bringing.proofs.bringing.bring_all.Goals as goal

pub look_at_filesets-requires-clause-has : goal.look_at_filesets-requires-clause-has
look_at_filesets-requires-clause-has g c = subst (λ (pages : Pages). HasDomainPages pages (frame_in c.args.frame.now)) (sym c.keep.ensures.pages) c.in-Ok.ensures.has

pub returns-clause-same : goal.returns-clause-same
returns-clause-same g c = λ told groups has.
    let old = g.R.Rack.disk c.args.rack.now in
    let new = g.R.Rack.disk c.bring_pages.new.rack in
    record {
      groups = groups;
      recovered = has;
      same = subst (λ (pages : Pages). ArePagesOf pages groups old.now.contents) (sym c.keep.ensures.before) (brought_same old new c.args.redone.now.images (pages_of c.bring_pages.new.pages) groups told c.in-Ok.ensures.brings has.images);
    }
