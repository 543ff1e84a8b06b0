use Rattle.std.proofs.Common.{◌-◌, sym, arith}
use Rattle.plain_program.proofs.MemberLemmas.{get-rack_at, get-rack_before, get-rack_past}
use Rattle.plain_program.proofs.members.rack_size.Goals as goal

pub returns-then-vol-eq0 : goal.returns-then-vol-eq0
returns-then-vol-eq0 c = sym (get-rack_before c.args.sizes.now c.args.vol (omega arith))

pub returns-then-sizes-vol : goal.returns-then-sizes-vol
returns-then-sizes-vol c = sym (get-rack_past c.args.sizes.now c.args.vol (omega arith))

pub returns : goal.returns
returns c = sym (get-rack_at c.args.sizes.now c.args.vol (c.args.vol - 1) 0 (omega arith) (omega arith))
