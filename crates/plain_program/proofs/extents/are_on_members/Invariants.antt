use Rattle.std.proofs.Common.{◌+◌, ◌<◌, ◌≤◌, ℕ, get_or}
use Rattle.std.specs.FinMap.{get}
use Rattle.legal_histories.specs.fileset_values.declared.reply.ExtentItem.{ExtentItem}
use Rattle.std.specs.Prelude.{IsSomeAnd}
use Rattle.plain_program.specs.Members.{members_of}
use Rattle.plain_program.proofs.extents.are_on_members.Given as goal

abbrev pub invariant-loop-run : goal.invariant-loop-run
invariant-loop-run l = (k : ℕ) (d : ExtentItem) → k < l.run-index
    → IsSomeAnd (get (members_of l.members) (get_or l.runs k d).vol) (λ member. (get_or l.runs k d).first + (get_or l.runs k d).count ≤ member.pages)
