use Rattle.std.proofs.Common.{◌-◌, length}
use Rattle.tag_dirs.proofs.Reading.{IsOnWay}
use Rattle.tag_dirs.proofs.dir.TagDir.read.Given as goal

abbrev pub invariant-loop-next : goal.invariant-loop-next
invariant-loop-next g l = IsOnWay (g.M.MetaPages.pages l.pages) l.fn.first l.dir l.next

abbrev pub decreases-loop-next : goal.decreases-loop-next
decreases-loop-next g l = 4202512 - length l.dir
