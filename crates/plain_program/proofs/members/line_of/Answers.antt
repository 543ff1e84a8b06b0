use Rattle.std.proofs.Common.{sym, ◌∙◌}
use Rattle.plain_program.proofs.MemberLemmas.{find-line, find-no_line, get-members}
use Rattle.plain_program.proofs.members.line_of.Goals as goal

pub returns-then-line-vol : goal.returns-then-line-vol
returns-then-line-vol c =
    sym (get-members c.args.members.now c.args.vol c.requires ∙ c.loop-line.invariant
    ∙ find-line c.args.members.now c.loop-line.line-index c.args.vol _ c.loop-line-test.true c.if-line-vol.true)

pub returns : goal.returns
returns c =
    sym (get-members c.args.members.now c.args.vol c.requires ∙ c.loop-line.invariant
    ∙ find-no_line c.args.members.now c.loop-line.line-index c.args.vol c.loop-line-test.false)
