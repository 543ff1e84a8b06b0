use Rattle.page_ways.specs.Frame.{frame_in}
use Rattle.page_ways.proofs.walk.read_pages.Goals as goal

pub loop-walk-init : goal.loop-walk-init
loop-walk-init g c = c.new-walk.ensures.walk (g.M.MetaPages.pages c.args.pages.now) (frame_in c.args.frame.now)
