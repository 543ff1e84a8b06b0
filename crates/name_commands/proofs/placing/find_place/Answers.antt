use Rattle.std.proofs.Common.{◌≡◌, ◌∷◌, IfErr, IfOk, Some, slice_get, subst, sym}
use Rattle.domain_changes.specs.fileset_model.Apply.{in_fileset}
use Rattle.domain_changes.specs.fileset_model.Paths.{target_refusal}
use Rattle.name_changes.specs.Looking.{LeadsTo}
use Rattle.name_commands.specs.Ending.{StopsWith}
use Rattle.name_commands.proofs.Given.{given, original_of_named}
use Rattle.name_commands.proofs.PlacedThere.{is_lost, is_placed}
use Rattle.name_commands.proofs.Removal.{found, refuses_none, staged_some}
use Rattle.name_commands.proofs.placing.find_place.Goals as goal

pub returns-in-Err-clause-lost : goal.returns-in-Err-clause-lost
returns-in-Err-clause-lost c = λ all stands more.
    subst (StopsWith (in_fileset all c.args.place.now.fileset (λ slot. target_refusal slot c.args.place.now.path ∷ more slot))) (sym c.in-Err.ensures.none.0)
    (refuses_none c.args.memory c.args.place.now.fileset c.requires.settled c.in-Err.ensures.none.1 all stands (λ slot. target_refusal slot c.args.place.now.path ∷ more slot))

pub look_at-memory-requires-clause-stands : goal.look_at-memory-requires-clause-stands
look_at-memory-requires-clause-stands c = staged_some c.args.memory c.requires.settled c.requires.stands

pub look_at-memory-requires-clause-original : goal.look_at-memory-requires-clause-original
look_at-memory-requires-clause-original c =
    original_of_named (slice_get c.args.memory.table.slots c.in-Ok.number) c.args.place.now.fileset (found c.args.memory c.in-Ok.number c.args.place.now.fileset (staged_some c.args.memory c.requires.settled c.requires.stands) c.in-Ok.ensures.there)

pub returns-in-Ok-found-clause-placed : goal.returns-in-Ok-found-clause-placed
returns-in-Ok-found-clause-placed c = λ all stands.
    let h = found c.args.memory c.in-Ok.number c.args.place.now.fileset (staged_some c.args.memory c.requires.settled c.requires.stands) c.in-Ok.ensures.there in
    let g = given c.args.memory c.in-Ok.number c.args.place.now.fileset h c.requires.settled c.requires.back all stands in
    is_placed c.args.memory c.in-Ok.number c.args.place.now all g c.in-Ok-found.led.0 c.in-Ok-found.led.1
    (subst (λ r. IfOk r (λ led. LeadsTo c.args.place.now.path g.fileset led.0 led.1)) c.in-Ok-found.is (c.look_at-memory.ensures.ok all g.entry g.fileset g.has))

pub returns-in-Ok-found-clause-original : goal.returns-in-Ok-found-clause-original
returns-in-Ok-found-clause-original c =
    original_of_named (slice_get c.args.memory.table.slots c.in-Ok.number) c.args.place.now.fileset (found c.args.memory c.in-Ok.number c.args.place.now.fileset (staged_some c.args.memory c.requires.settled c.requires.stands) c.in-Ok.ensures.there)

pub returns-in-Err-found-clause-lost : goal.returns-in-Err-found-clause-lost
returns-in-Err-found-clause-lost c = λ all stands.
    let h = found c.args.memory c.in-Ok.number c.args.place.now.fileset (staged_some c.args.memory c.requires.settled c.requires.stands) c.in-Ok.ensures.there in
    let g = given c.args.memory c.in-Ok.number c.args.place.now.fileset h c.requires.settled c.requires.back all stands in
    is_lost c.args.memory c.in-Ok.number c.args.place.now all g c.in-Err-found.refusal
    (subst (λ r. IfErr r (λ refusal. target_refusal g.fileset c.args.place.now.path ≡ Some refusal)) c.in-Err-found.is (c.look_at-memory.ensures.err all g.entry g.fileset g.has))
