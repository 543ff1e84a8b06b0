use Rattle.std.proofs.Common.{◌≡◌, true, IfErr, IfOk, IsSomeAnd, Some, slice_get, subst, sym}
use Rattle.std.proofs.Math.Logic.{∥∥₁_map}
use Rattle.domain_changes.specs.fileset_model.Paths.{target_refusal}
use Rattle.domain_changes.specs.fileset_table.Table.{Table, has_name}
use Rattle.domain_changes.proofs.OfDomainMemory.KeptStands.{kept_joined}
use Rattle.name_changes.specs.Looking.{IsLiveIn, LeadsTo}
use Rattle.name_changes.proofs.Same.{still_back, still_keeps, still_settled}
use Rattle.name_commands.specs.Ending.{LacksPage, StopsAs}
use Rattle.name_commands.specs.Leaving.{taking}
use Rattle.name_commands.proofs.Given.{given, original_of_named}
use Rattle.name_commands.proofs.Removal.{found, staged_some}
use Rattle.name_commands.proofs.Still.{has_still, live_still, stands_still, table_still, turned}
use Rattle.name_commands.proofs.Taken.{never_wanted, no_taking, taking_led}
use Rattle.name_commands.proofs.taking.stage_taking.Goals as goal

pub returns-in-Err-clause-ends : goal.returns-in-Err-clause-ends
returns-in-Err-clause-ends c = λ all stands.
    subst (StopsAs all (taking c.args.of c.args.place.now)) (sym c.in-Err.ensures.none.0) (no_taking c.args.memory c.args.place.now c.requires.settled c.in-Err.ensures.none.1 all stands c.args.of)

pub look_at-memory-requires-clause-stands : goal.look_at-memory-requires-clause-stands
look_at-memory-requires-clause-stands c = staged_some c.args.memory c.requires.settled c.requires.stands

pub look_at-memory-requires-clause-original : goal.look_at-memory-requires-clause-original
look_at-memory-requires-clause-original c =
    original_of_named (slice_get c.args.memory.table.slots c.in-Ok.number) c.args.place.now.fileset (found c.args.memory c.in-Ok.number c.args.place.now.fileset (staged_some c.args.memory c.requires.settled c.requires.stands) c.in-Ok.ensures.there)

pub take_led-requires-clause-settled : goal.take_led-requires-clause-settled
take_led-requires-clause-settled c = still_settled c.args.memory c.look_at-memory.result.0 c.look_at-memory.ensures.same c.requires.settled

pub take_led-requires-clause-stands : goal.take_led-requires-clause-stands
take_led-requires-clause-stands c = ∥∥₁_map c.requires.stands (λ s. (s.0, stands_still c.args.memory c.look_at-memory.result.0 c.look_at-memory.ensures.same s.0 s.1))

pub take_led-requires-clause-back : goal.take_led-requires-clause-back
take_led-requires-clause-back c = ∥∥₁_map c.requires.back (still_back c.args.memory c.look_at-memory.result.0 c.look_at-memory.ensures.same)

pub take_led-requires-clause-named : goal.take_led-requires-clause-named
take_led-requires-clause-named c =
    subst (λ (t : Table). IsSomeAnd (slice_get t.slots c.in-Ok.number) (λ item. has_name c.args.place.now.fileset item ≡ true)) (sym (table_still c.args.memory c.look_at-memory.result.0 c.look_at-memory.ensures.same)) c.in-Ok.ensures.there

pub take_led-requires-clause-leads : goal.take_led-requires-clause-leads
take_led-requires-clause-leads c = λ all entry fileset has.
    subst (λ r. IfOk r (λ led. LeadsTo c.args.place.now.path fileset led.0 led.1)) c.in-Ok-led.is
    (c.look_at-memory.ensures.ok all entry fileset (has_still c.look_at-memory.result.0 c.args.memory (turned c.args.memory c.look_at-memory.result.0 c.look_at-memory.ensures.same) c.in-Ok.number all entry fileset has))

pub take_led-requires-clause-live : goal.take_led-requires-clause-live
take_led-requires-clause-live c =
    live_still c.args.memory c.look_at-memory.result.0 c.look_at-memory.ensures.same c.in-Ok.number c.in-Ok-led.there.0 c.in-Ok-led.there.1
    (subst (λ r. IfOk r (λ led. IsLiveIn c.args.memory c.in-Ok.number led.0 led.1)) c.in-Ok-led.is c.look_at-memory.ensures.live)

pub returns-in-Ok-led-clause-ends : goal.returns-in-Ok-led-clause-ends
returns-in-Ok-led-clause-ends c = λ all stands. c.take_led.ensures.ends all (stands_still c.args.memory c.look_at-memory.result.0 c.look_at-memory.ensures.same all stands)

pub returns-in-Ok-led-clause-cause : goal.returns-in-Ok-led-clause-cause
returns-in-Ok-led-clause-cause c = never_wanted (LacksPage (taking c.args.of c.args.place.now) c.args.memory) c.take_led.result.1 c.take_led.ensures.pages

pub returns-in-Ok-led-clause-kept : goal.returns-in-Ok-led-clause-kept
returns-in-Ok-led-clause-kept c = ∥∥₁_map c.take_led.ensures.kept (λ k. kept_joined c.args.memory c.look_at-memory.result.0 c.take_led.result.0 (still_keeps c.args.memory c.look_at-memory.result.0 c.look_at-memory.ensures.same) k)

pub returns-in-Err-led-clause-ends : goal.returns-in-Err-led-clause-ends
returns-in-Err-led-clause-ends c = λ all stands.
    let g = given c.args.memory c.in-Ok.number c.args.place.now.fileset (found c.args.memory c.in-Ok.number c.args.place.now.fileset (staged_some c.args.memory c.requires.settled c.requires.stands) c.in-Ok.ensures.there) c.requires.settled c.requires.back all stands in
    taking_led c.args.memory c.in-Ok.number c.args.place.now all g c.args.of c.in-Err-led.refusal
    (subst (λ r. IfErr r (λ refusal. target_refusal g.fileset c.args.place.now.path ≡ Some refusal)) c.in-Err-led.is (c.look_at-memory.ensures.err all g.entry g.fileset g.has))

pub returns-in-Err-led-clause-kept : goal.returns-in-Err-led-clause-kept
returns-in-Err-led-clause-kept c = ∥∥₁_map c.requires.back (λ m. still_keeps c.args.memory c.look_at-memory.result.0 c.look_at-memory.ensures.same)

pub returns-in-Err-led-clause-back : goal.returns-in-Err-led-clause-back
returns-in-Err-led-clause-back c = ∥∥₁_map c.requires.back (still_back c.args.memory c.look_at-memory.result.0 c.look_at-memory.ensures.same)
