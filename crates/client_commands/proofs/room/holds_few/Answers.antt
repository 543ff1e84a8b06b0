use Rattle.std.proofs.Common.{◌≡◌, ◌+◌, ◌≤◌, arith, subst}
use Rattle.file_commands.specs.free_space.Spaces.{kept_spaces}
use Rattle.client_commands.proofs.VolumesHeld.{all_counted, first_hold, next_volume}
use Rattle.client_commands.proofs.room.holds_few.Goals as goal

pub loop-n-preserved : goal.loop-n-preserved
loop-n-preserved c =
    next_volume c.args.memory.now.space c.loop-n.n c.in-Some.vol c.loop-n.left c.more_on-more.result c.in-Some.ensures.value c.loop-n.invariant c.more_on-more.ensures (omega (arith, c.if-left-more.false))

pub returns : goal.returns
returns c = λ is.
    let memory = c.args.memory.now in
    let end : c.loop-n.n ≡ 8 = omega (arith, c.loop-n-test.false, c.loop-n.auto.n-end) in
    all_counted memory c.requires c.loop-n.left (subst (λ n. first_hold n memory.space + c.loop-n.left ≤ first_hold n (kept_spaces memory.space) + 24) end c.loop-n.invariant)
