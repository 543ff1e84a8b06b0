use Rattle.std.proofs.Common.{◌<◌, ℕ, get_or}
use Rattle.legal_histories.specs.fileset_values.declared.reply.VolumeItem.{VolumeItem}
use Rattle.plain_program.specs.Members.{AddsUp}
use Rattle.plain_program.proofs.members.is_member_list.Given as goal

abbrev pub invariant-loop-line : goal.invariant-loop-line
invariant-loop-line l = (k : ℕ) (d : VolumeItem) → k < l.line-index → AddsUp l.log_volume (get_or l.members k d)
