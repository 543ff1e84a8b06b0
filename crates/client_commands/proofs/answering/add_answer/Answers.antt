use Rattle.std.proofs.Common.{refl}
use Rattle.std.proofs.Math.Logic.{∥∥₁_map}
use Rattle.file_commands.specs.fileset_values.declared.command.Actor.TheVariants.{Client}
use Rattle.file_commands.specs.fileset_values.declared.entry.Entry.{Entry}
use Rattle.client_commands.proofs.Coming.{answer_inside, inside_calm, inside_spared, may_commit}
use Rattle.client_commands.proofs.answering.add_answer.Goals as goal

pub commit-requires-clause-step : goal.commit-requires-clause-step
commit-requires-clause-step g c = λ all stands.
    let o = g.O.Opening in
    let it = c.args.domain in
    let e : Entry = record { actor = Client c.args.client; command = c.args.command; reply = c.args.reply; stamp = c.calls-stamp.result } in
    let a = c.requires.answered all stands in
    may_commit o.pages o.frame o.sizes it.memory it.history.entries.items it.history.job e all a.now a.kept
    (record { stamp = c.calls-stamp.ensures.stamps c.requires.first; calm = it.history.calm; client = c.args.client; actor = refl; command = c.requires.clients })
    a.means

pub commit-requires-clause-calm : goal.commit-requires-clause-calm
commit-requires-clause-calm g c =
    let it = c.args.domain in
    inside_calm it.memory c.args.reply (∥∥₁_map it.stands (λ goes. (goes.all, goes.stands))) (answer_inside it.memory c.args.command c.args.reply c.requires.answered)

pub commit-requires-clause-pages : goal.commit-requires-clause-pages
commit-requires-clause-pages g c =
    let it = c.args.domain in
    inside_spared it.memory c.args.reply (∥∥₁_map it.stands (λ goes. (goes.all, goes.stands))) (answer_inside it.memory c.args.command c.args.reply c.requires.answered)

pub returns-clause-adds : goal.returns-clause-adds
returns-clause-adds g c = record {
  reply = c.args.reply;
  stamp = c.calls-stamp.result;
  adds = c.commit.ensures.history;
  means = λ all stands.
      let a = c.requires.answered all stands in
      (a.now, a.means, c.commit.ensures.stands a.now a.kept);
}
