use Rattle.std.proofs.Common.{Some}
use Rattle.disk_tables.proofs.anchors.may_follow.Goals as goal

pub returns-in-Ok-clause-follows : goal.returns-in-Ok-clause-follows
returns-in-Ok-clause-follows g c = λ follows told. (Some c.in-Ok.old, c.in-Ok.ensures.anchor told, c.is_next.ensures follows)
