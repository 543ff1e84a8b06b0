use Rattle.disk_label.proofs.Bodies.{body_is}
use Rattle.std.proofs.Common.{refl}
use Rattle.disk_label.proofs.anchor.written.Goals as goal

pub returns-clause-value : goal.returns-clause-value
returns-clause-value c = body_is c.write_u32_into.new.dst _ c.args.words.now c.write_u32_into.ensures refl
