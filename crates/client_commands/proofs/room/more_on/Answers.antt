use Rattle.std.proofs.Common.{◌-◌, ap, arith}
use Rattle.file_commands.specs.free_space.Spaces.{volume_of}
use Rattle.file_commands.proofs.OfFreeSpace.Kept.{volume_of-kept}
use Rattle.file_commands.specs.domain_memory.Held.{held_if_open}
use Rattle.client_commands.proofs.FewHeld.{more_on}
use Rattle.client_commands.proofs.room.more_on.Goals as goal

pub returns : goal.returns
returns c =
    let space = c.args.space.now in
    let more = more_on (volume_of space c.args.vol) c.taken-taken.result.now c.given_back.result.now c.taken-taken.ensures c.given_back.ensures.since in
    let kept = ap held_if_open (volume_of-kept space c.args.vol) in
    omega (arith, more, kept)
