use Rattle.std.proofs.Common.{length, refl}
use Rattle.std.proofs.lemmas.Option.{slice_get_read}
use Rattle.fileset_shapes.specs.page_ways.Frame.{frame_in}
use Rattle.fileset_shapes.specs.sorted_sets.Members.{IsIn}
use Rattle.directory_faults.proofs.Inserted.{none_in, one_in}
use Rattle.directory_faults.proofs.RowPages.{IsBadHome, bad_pages}
use Rattle.directory_faults.proofs.pages.insert_bad_pages.Goals as goal

pub loop-home-init : goal.loop-home-init
loop-home-init g c = none_in c.args.homes.now (IsBadHome (g.M.MetaPages.pages c.args.pages.now) (frame_in c.args.frame.now)) (IsIn c.args.found.now)

pub loop-home-preserved : goal.loop-home-preserved
loop-home-preserved g c =
    let homes = c.args.homes.now in
    let number = c.loop-home.home-index in
    let home = c.home-item.result in
    one_in homes (IsBadHome (g.M.MetaPages.pages c.args.pages.now) (frame_in c.args.frame.now)) (IsIn c.args.found.now) (IsIn c.loop-home.found) (IsIn c.insert_bad.new.found) number home
    (slice_get_read homes (length homes) number home refl c.loop-home-test.true c.home-item.is) c.loop-home.invariant c.in_ok-insert_bad.ensures

pub returns : goal.returns
returns g c =
    bad_pages (g.M.MetaPages.pages c.args.pages.now) (frame_in c.args.frame.now) c.args.homes.now (IsIn c.args.found.now) (IsIn c.loop-home.found) c.loop-home.home-index c.loop-home-test.false c.loop-home.invariant
