use Rattle.std.proofs.Common.{sym, arith}
use Rattle.script_text.proofs.ScriptLemmas.{first_kind-gives, first_kind-many, with_command-last}
use Rattle.script_text.proofs.reading.given.Goals as goal

pub returns-then-len-ge-MAX_COMMANDS : goal.returns-then-len-ge-MAX_COMMANDS
returns-then-len-ge-MAX_COMMANDS c = first_kind-many c.args.draft.done.items _ c.args.command (omega (arith, c.len.ensures))

pub returns : goal.returns
returns c = (
  first_kind-gives c.args.draft.done.items (record { number = c.args.draft.number; commands = c.args.draft.commands.items }) c.args.command (omega (arith, c.len.ensures)),
  rw c.in_ok-push.ensures.items (sym (with_command-last c.args.draft.done.items (record { number = c.args.draft.number; commands = c.args.draft.commands.items }) c.args.command)),
)
