use Rattle.std.proofs.Common.{◌≡◌, ◌∙◌, ◌-◌, Some, IfErr, IfOk, Ok, inl, length, slice_get, refl, ap, subst, sym, arith, take}
use Rattle.std.proofs.Math.Logic.{∥∥₁_map}
use Rattle.domain_changes.specs.fileset_model.Apply.{rename_checks}
use Rattle.domain_changes.specs.fileset_values.Orders.{Path}
use Rattle.domain_changes.specs.fileset_model.Paths.{first_refusal, target_refusal}
use Rattle.domain_changes.specs.fileset_values.declared.command.Command.TheVariants.{Rename}
use Rattle.domain_changes.specs.fileset_values.declared.reply.Reply.TheVariants.{Done}
use Rattle.name_changes.specs.Looking.{LeadsTo}
use Rattle.name_changes.proofs.Same.{still_back, still_keeps}
use Rattle.name_commands.specs.Ending.{StopsAs}
use Rattle.name_commands.proofs.Given.{given, original_of_named}
use Rattle.name_commands.proofs.Means.{accepted, in_this}
use Rattle.name_commands.proofs.PlacedThere.{same_itself}
use Rattle.name_commands.proofs.Removal.{found, refuses_none, staged_some}
use Rattle.name_commands.proofs.RootMoved.{moved_below, renamed_itself}
use Rattle.name_commands.proofs.rooted.rename_root.Goals as goal

pub returns-in-Err-clause-ends : goal.returns-in-Err-clause-ends
returns-in-Err-clause-ends c = λ all stands.
    subst (StopsAs all (Rename c.args.place.now c.args.to.now)) (sym c.in-Err.ensures.none.0)
    (refuses_none c.args.memory c.args.place.now.fileset c.requires.settled c.in-Err.ensures.none.1 all stands (rename_checks c.args.place.now.path c.args.to.now))

pub returns-in-Err-clause-kept : goal.returns-in-Err-clause-kept
returns-in-Err-clause-kept c = ∥∥₁_map c.requires.back (λ m. still_keeps c.args.memory c.args.memory (same_itself c.args.memory))

pub returns-then-is_root-clause-ends : goal.returns-then-is_root-clause-ends
returns-then-is_root-clause-ends c = λ all stands.
    let place = c.args.place.now in
    let to = c.args.to.now in
    let g = given c.args.memory c.in-Ok.number place.fileset (found c.args.memory c.in-Ok.number place.fileset (staged_some c.args.memory c.requires.settled c.requires.stands) c.in-Ok.ensures.there) c.requires.settled c.requires.back all stands in
    let same = renamed_itself all place to g.fileset g.here g.role g.valid c.requires.root (c.is_root.ensures.root c.if-is_root.true) in
    record { now = all; kept = g.kept; means = inl (accepted all (Rename place to) Done all same.0 refl same.1) }

pub returns-then-is_root-clause-kept : goal.returns-then-is_root-clause-kept
returns-then-is_root-clause-kept c = ∥∥₁_map c.requires.back (λ m. still_keeps c.args.memory c.args.memory (same_itself c.args.memory))

pub look_at-memory-requires-clause-stands : goal.look_at-memory-requires-clause-stands
look_at-memory-requires-clause-stands c = staged_some c.args.memory c.requires.settled c.requires.stands

pub look_at-memory-requires-clause-original : goal.look_at-memory-requires-clause-original
look_at-memory-requires-clause-original c =
    original_of_named (slice_get c.args.memory.table.slots c.in-Ok.number) c.args.place.now.fileset (found c.args.memory c.in-Ok.number c.args.place.now.fileset (staged_some c.args.memory c.requires.settled c.requires.stands) c.in-Ok.ensures.there)

pub returns-clause-ends : goal.returns-clause-ends
returns-clause-ends c = λ all stands.
    let place = c.args.place.now in
    let to = c.args.to.now in
    let led = c.look_at-memory.result.1 in
    let g = given c.args.memory c.in-Ok.number place.fileset (found c.args.memory c.in-Ok.number place.fileset (staged_some c.args.memory c.requires.settled c.requires.stands) c.in-Ok.ensures.there) c.requires.settled c.requires.back all stands in
    let some = c.is_root.ensures.named c.if-is_root.false in
    let front = c.in-Ok-front.ensures ∙ ap (λ (p : Path). take (length p - 1) to) c.as_slice.ensures in
    in_this all place.fileset g.fileset (rename_checks place.path to) g.here
    ∙ ap (λ (p : Path). first_refusal (rename_checks p to g.fileset)) c.requires.root
    ∙ moved_below g.fileset g.role g.valid to (length to - 1) led (omega (arith, some))
    (subst (λ (p : Path). IfOk led (λ at. LeadsTo p g.fileset at.0 at.1)) front (c.look_at-memory.ensures.ok all g.entry g.fileset g.has))
    (subst (λ (p : Path). IfErr led (λ refusal. target_refusal g.fileset p ≡ Some refusal)) front (c.look_at-memory.ensures.err all g.entry g.fileset g.has))
    ∙ ap (λ r. Some r) (sym c.refusal_below.ensures)

pub returns-clause-kept : goal.returns-clause-kept
returns-clause-kept c = ∥∥₁_map c.requires.back (λ m. still_keeps c.args.memory c.look_at-memory.result.0 c.look_at-memory.ensures.same)

pub returns-clause-back : goal.returns-clause-back
returns-clause-back c = ∥∥₁_map c.requires.back (still_back c.args.memory c.look_at-memory.result.0 c.look_at-memory.ensures.same)

pub returns-in-Err-front-clause-kept : goal.returns-in-Err-front-clause-kept
returns-in-Err-front-clause-kept c = ∥∥₁_map c.requires.back (λ m. still_keeps c.args.memory c.args.memory (same_itself c.args.memory))
