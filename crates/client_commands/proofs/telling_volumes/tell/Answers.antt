use Rattle.std.proofs.Common.{List, ap, subst, sym}
use Rattle.file_commands.specs.fileset_values.declared.entry.Entry.{Entry}
use Rattle.file_commands.specs.domain_memory.Memory.{StandsFor}
use Rattle.file_commands.specs.domain_memory.declared.memory.DomainMemory.{DomainMemory}
use Rattle.client_commands.specs.Shown.{AddsReply}
use Rattle.client_commands.proofs.telling_volumes.tell.Goals as goal

pub add_shown-requires-clause-shown : goal.add_shown-requires-clause-shown
add_shown-requires-clause-shown g c = λ all stands. c.reply_of.ensures c.look-domain.result.0.memory all c.args.command (c.look-domain.ensures.shown all stands)

pub returns-clause-adds : goal.returns-clause-adds
returns-clause-adds g c = record {
  reply = c.reply_of.result;
  added = subst (λ (before : List Entry). AddsReply c.args.client c.args.command c.reply_of.result before c.add_shown.result.history.entries.items) (ap (λ h. h.entries.items) c.look-domain.ensures.history) c.add_shown.ensures.adds;
  shown = λ all stands. c.reply_of.ensures c.args.domain.memory all c.args.command (c.look-domain.ensures.was all stands);
  stands = λ all stands. subst (λ (m : DomainMemory). StandsFor m all) (sym c.add_shown.ensures.memory) (c.look-domain.ensures.stands all stands);
}
