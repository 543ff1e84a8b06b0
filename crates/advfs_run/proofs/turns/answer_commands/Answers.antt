use Rattle.std.proofs.Common.{◌≡◌, ◌∙◌, ◌++◌, ◌∷◌, [], List, map, length, ap, arith, subst}
use Rattle.std.proofs.lemmas.List.Elements.{All-head, All-tail}
use Rattle.std.specs.List.{All}
use Rattle.domain_attaching.specs.fileset_values.declared.command.Actor.TheVariants.{Client}
use Rattle.domain_attaching.specs.fileset_values.declared.command.Command.{Command}
use Rattle.client_commands.specs.name_commands.Ending.{IsServed}
use Rattle.run_parts.specs.script_text.Turns.{turn_of}
use Rattle.advfs_run.proofs.Taken.{stamps_on, turns_on}
use Rattle.advfs_run.proofs.turns.answer_commands.Goals as goal

pub take_turn-next-requires-clause-served : goal.take_turn-next-requires-clause-served
take_turn-next-requires-clause-served g c =
    All-head IsServed c.in-Some.asked c.next.new.self.rest.items (subst (λ (l : List Command). All IsServed l) c.in-Some.ensures.steps.0 c.loop-asked.invariant.served)

pub take_turn-next-requires-clause-room : goal.take_turn-next-requires-clause-room
take_turn-next-requires-clause-room g c = omega (arith, c.loop-asked.invariant.room, ap (λ (l : List Command). length l) c.in-Some.ensures.steps.0)

pub loop-asked-preserved : goal.loop-asked-preserved
loop-asked-preserved g c =
    let steps = c.in-Some.ensures.steps.0 in
    let count = ap (λ (l : List Command). length l) steps in
    let so_far = c.loop-asked.invariant in
    let rest = c.next.new.self.rest.items in
    let before = map turn_of c.loop-asked.domain.history.entries.items in
    let all = map turn_of c.args.domain.history.entries.items ++ map (λ (command : Command). (Client c.args.client, command)) c.args.commands.items in
    record {
      turns = turns_on before (map turn_of c.take_turn-next.result.history.entries.items) ((Client c.args.client, c.in-Some.asked) ∷ []) (map (λ (command : Command). (Client c.args.client, command)) rest) all c.take_turn-next.ensures.turn
          (subst (λ (l : List Command). before ++ map (λ (command : Command). (Client c.args.client, command)) l ≡ all) steps so_far.turns);
      stamps = λ first.
          stamps_on _ _ c.loop-asked.domain.history.entries.items c.take_turn-next.result.history.entries.items (ap (λ rack. (g.R.Rack.disk rack).calls) so_far.rack) c.take_turn-next.ensures.stamps
          (so_far.stamps first);
      quiet = λ first. c.take_turn-next.ensures.quiet (so_far.quiet first);
      rests = c.take_turn-next.ensures.rests;
      settled = c.take_turn-next.ensures.settled;
      served = All-tail IsServed c.in-Some.asked rest (subst (λ (l : List Command). All IsServed l) steps so_far.served);
      room = omega (arith, so_far.room, count, c.take_turn-next.ensures.room);
      taken = omega (arith, so_far.taken, count, c.take_turn-next.ensures.room);
      begun = c.take_turn-next.ensures.begun ∙ so_far.begun;
      rack = c.take_turn-next.ensures.rack ∙ so_far.rack;
      durable = c.take_turn-next.ensures.durable ∙ so_far.durable;
    }
