use Rattle.std.proofs.Common.{◌≡◌, ◌∙◌, ◌+◌, ◌-◌, ◌≤◌, ◌∷◌, ◌++◌, List, map, length, vec_capacity, refl, sym, ap, arith, subst}
use Rattle.std.proofs.lemmas.List.Elements.{All-head, All-tail}
use Rattle.std.proofs.lemmas.List.Sums.{sum_by-cons}
use Rattle.std.specs.List.{All, flat_map, sum_by}
use Rattle.client_commands.specs.name_commands.Ending.{IsServed}
use Rattle.run_parts.specs.script_text.Turns.{turn_of, turns_of}
use Rattle.run_parts.specs.script_text.declared.script.Section.{Section}
use Rattle.advfs_run.proofs.Taken.{stamps_on, turns_on}
use Rattle.advfs_run.proofs.turns.answer_sections.Goals as goal

-- the commands of some sections are those of the first and of the rest
counted : (sections : List Section) (first : Section) (rest : List Section) → sections ≡ first ∷ rest
    → sum_by (λ (section : Section). length section.commands) sections ≡ length first.commands + sum_by (λ (section : Section). length section.commands) rest
counted sections first rest is =
    ap (λ (l : List Section). sum_by (λ (section : Section). length section.commands) l) is ∙ sum_by-cons (λ (section : Section). length section.commands) first rest

pub answer_section-next-requires-clause-served : goal.answer_section-next-requires-clause-served
answer_section-next-requires-clause-served g c =
    All-head (λ (section : Section). All IsServed section.commands) c.in-Some.section c.next.new.self.rest.items
    (subst (λ (l : List Section). All (λ (section : Section). All IsServed section.commands) l) c.in-Some.ensures.steps.0 c.loop-section.invariant.served)

pub answer_section-next-requires-clause-room : goal.answer_section-next-requires-clause-room
answer_section-next-requires-clause-room g c =
    omega (arith, c.loop-section.invariant.room, counted c.loop-section.section-iterator.rest.items c.in-Some.section c.next.new.self.rest.items c.in-Some.ensures.steps.0)

pub loop-section-preserved : goal.loop-section-preserved
loop-section-preserved g c =
    let steps = c.in-Some.ensures.steps.0 in
    let so_far = c.loop-section.invariant in
    let rest = c.next.new.self.rest.items in
    let count = counted c.loop-section.section-iterator.rest.items c.in-Some.section rest steps in
    let before = map turn_of c.loop-section.domain.history.entries.items in
    let all = map turn_of c.args.domain.history.entries.items ++ flat_map turns_of c.args.sections.items in
    record {
      turns = turns_on before (map turn_of c.answer_section-next.result.history.entries.items) (turns_of c.in-Some.section) (flat_map turns_of rest) all c.answer_section-next.ensures.turns
          (subst (λ (l : List Section). before ++ flat_map turns_of l ≡ all) steps so_far.turns);
      stamps = λ first.
          stamps_on _ _ c.loop-section.domain.history.entries.items c.answer_section-next.result.history.entries.items (ap (λ rack. (g.R.Rack.disk rack).calls) so_far.rack) c.answer_section-next.ensures.stamps
          (so_far.stamps first);
      quiet = λ first. c.answer_section-next.ensures.quiet (so_far.quiet first);
      rests = c.answer_section-next.ensures.rests;
      settled = c.answer_section-next.ensures.settled;
      served = All-tail (λ (section : Section). All IsServed section.commands) c.in-Some.section rest (subst (λ (l : List Section). All (λ (section : Section). All IsServed section.commands) l) steps so_far.served);
      room = omega (arith, so_far.room, count, c.answer_section-next.ensures.room);
      begun = c.answer_section-next.ensures.begun ∙ so_far.begun;
      rack = c.answer_section-next.ensures.rack ∙ so_far.rack;
      durable = c.answer_section-next.ensures.durable ∙ so_far.durable;
    }

pub loop-section-init : goal.loop-section-init
loop-section-init g c =
    let is = c.into_iter-section-iterator.ensures.into_iter_gives.0 in
    let old = c.args.domain.history.entries in
    record {
      turns = ap (λ (l : List Section). map turn_of old.items ++ flat_map turns_of l) is;
      stamps = λ first. first;
      quiet = λ first. first;
      rests = c.requires.rests;
      settled = c.requires.settled;
      served = subst (λ (l : List Section). All (λ (section : Section). All IsServed section.commands) l) (sym is) c.requires.served;
      room = subst (λ (l : List Section). sum_by (λ (section : Section). length section.commands) l ≤ vec_capacity old - length old.items) (sym is) c.requires.room;
      begun = refl;
      rack = refl;
      durable = refl;
    }
