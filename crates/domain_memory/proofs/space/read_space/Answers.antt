use Rattle.standing_laws.specs.page_ways.Frame.{frame_in}
use Rattle.domain_memory.proofs.Spaces.{all_read, none_read}
use Rattle.domain_memory.proofs.space.read_space.Goals as goal

pub loop-number-init : goal.loop-number-init
loop-number-init g c = none_read (g.M.MetaPages.pages c.args.pages.now) (frame_in c.args.frame.now) c.in_ok-space.space c.in_ok-space.ensures.value c.in_ok-space.ensures.absent

pub returns : goal.returns
returns g c = all_read (g.M.MetaPages.pages c.args.pages.now) (frame_in c.args.frame.now) c.loop-number.number c.loop-number.space c.loop-number-test.false c.loop-number.invariant
