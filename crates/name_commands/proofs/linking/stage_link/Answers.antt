use Rattle.std.proofs.Common.{IfErr, IfOk, OnOk, slice_get, subst, sym}
use Rattle.domain_changes.specs.fileset_model.Apply.{link_checks, linked}
use Rattle.domain_changes.specs.fileset_values.declared.command.Command.TheVariants.{Link}
use Rattle.name_changes.specs.Stages.{IsRefused, KeepsBooks, KeepsParents, Links}
use Rattle.name_commands.specs.Ending.{EndsAs, StopsAs}
use Rattle.name_commands.proofs.Given.{given, original_of_named}
use Rattle.name_commands.proofs.Linked.{answers_linked, link_stops}
use Rattle.name_commands.proofs.Removal.{found, refuses_none, staged_some}
use Rattle.name_commands.proofs.linking.stage_link.Goals as goal
use Rattle.name_commands.proofs.linking.stage_link.Goals.{in-Ok-linked, in-Err-linked}

pub returns-in-Err-clause-ends : goal.returns-in-Err-clause-ends
returns-in-Err-clause-ends c = λ all stands.
    subst (StopsAs all (Link c.args.place.now c.args.to.now)) (sym c.in-Err.ensures.none.0) (refuses_none c.args.memory c.args.place.now.fileset c.requires.settled c.in-Err.ensures.none.1 all stands (link_checks c.args.place.now.path c.args.to.now))

pub link-memory-requires-clause-stands : goal.link-memory-requires-clause-stands
link-memory-requires-clause-stands c = staged_some c.args.memory c.requires.settled c.requires.stands

pub link-memory-requires-clause-original : goal.link-memory-requires-clause-original
link-memory-requires-clause-original c =
    original_of_named (slice_get c.args.memory.table.slots c.in-Ok.number) c.args.place.now.fileset (found c.args.memory c.in-Ok.number c.args.place.now.fileset (staged_some c.args.memory c.requires.settled c.requires.stands) c.in-Ok.ensures.there)

pub returns-clause-ends : goal.returns-clause-ends
returns-clause-ends c = λ all stands.
    let h = found c.args.memory c.in-Ok.number c.args.place.now.fileset (staged_some c.args.memory c.requires.settled c.requires.stands) c.in-Ok.ensures.there in
    let g = given c.args.memory c.in-Ok.number c.args.place.now.fileset h c.requires.settled c.requires.back all stands in
    let command = Link c.args.place.now c.args.to.now in
    let last = c.link-memory.result.0 in
    elim c.match-linked.branch [
      | in-Ok-linked w ↦
          subst (EndsAs last all command) (sym w.answer-is)
          (answers_linked c.args.memory last c.in-Ok.number c.args.place.now c.args.to.now all g w.in-Ok-linked.field-0
          (subst (λ r. IfOk r (λ tag. Links c.args.place.now.path c.args.to.now all g.entry g.fileset last tag)) w.in-Ok-linked.is (c.link-memory.ensures.ok all g.entry g.fileset g.has))
          (subst (λ r. OnOk r (KeepsParents c.args.memory last)) w.in-Ok-linked.is c.link-memory.ensures.parents)
          (subst (λ r. OnOk r (KeepsBooks c.args.memory last all g.entry g.fileset (linked c.args.place.now.path c.args.to.now g.fileset.tree))) w.in-Ok-linked.is (c.link-memory.ensures.books all g.entry g.fileset g.has)))
      | in-Err-linked w ↦
          subst (EndsAs last all command) (sym w.answer-is)
          (link_stops c.args.memory last c.in-Ok.number c.args.place.now c.args.to.now all g w.stop_for.result
          (w.stop_for.ensures (link_checks c.args.place.now.path c.args.to.now) g.fileset
          (subst (λ r. IfErr r (IsRefused (link_checks c.args.place.now.path c.args.to.now) g.fileset)) w.in-Err-linked.is (c.link-memory.ensures.err all g.entry g.fileset g.has))))
    ]
