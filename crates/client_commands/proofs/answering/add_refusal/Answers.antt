use Rattle.std.proofs.Common.{◌∙◌, ◌++◌, ◌∷◌, [], List, ap}
use Rattle.file_commands.specs.fileset_values.declared.command.Actor.TheVariants.{Client}
use Rattle.file_commands.specs.fileset_values.declared.entry.Entry.{Entry}
use Rattle.file_commands.proofs.OfDomainState.StaysWithin.{settled_few}
use Rattle.file_commands.proofs.LimitsMeant.{settled_refused}
use Rattle.client_commands.proofs.answering.add_refusal.Goals as goal

pub add_answer-requires-clause-answered : goal.add_answer-requires-clause-answered
add_answer-requires-clause-answered g c = settled_refused c.take_back.result.memory c.args.command c.args.refusal c.take_back.ensures.none.settled (λ all stands. c.requires.refused all (c.take_back.ensures.was all stands))

pub add_answer-requires-clause-few : goal.add_answer-requires-clause-few
add_answer-requires-clause-few g c = settled_few c.take_back.result.memory c.take_back.ensures.none.settled

pub returns-clause-adds : goal.returns-clause-adds
returns-clause-adds g c =
    let back = c.take_back in
    let adds = c.add_answer.ensures.adds in
    let e : Entry = record { actor = Client c.args.client; command = c.args.command; reply = adds.reply; stamp = adds.stamp } in
    record {
      reply = adds.reply;
      stamp = adds.stamp;
      adds = adds.adds ∙ ap (λ (h : List Entry). h ++ e ∷ []) back.ensures.none.same;
      means = λ all stands. adds.means all (back.ensures.none.stands all stands);
    }
