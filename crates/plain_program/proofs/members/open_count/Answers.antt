use Rattle.std.proofs.Common.{◌≡◌, List, filter, length, not, take, ap, sym, ◌∙◌, arith}
use Rattle.std.proofs.lemmas.Grind.{common_steps}
use Rattle.legal_histories.specs.fileset_values.declared.reply.VolumeItem.{VolumeItem}
use Rattle.plain_program.proofs.MemberLemmas.{open-members}
use Rattle.plain_program.proofs.members.open_count.Goals as goal

pub returns : goal.returns
returns c =
    let lines = c.args.members.now in
    let whole : take c.loop-line.line-index lines ≡ lines = grind (arith, common_steps) in
    c.loop-line.invariant.counted
    ∙ ap (λ (l : List VolumeItem). length (filter (λ line. not line.closed) l)) whole
    ∙ sym (open-members lines c.requires)
