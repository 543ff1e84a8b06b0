use Rattle.std.proofs.Common.{◌≡◌, true, IsSomeAnd, slice_get, subst, sym}
use Rattle.std.proofs.Math.Logic.{∥∥₁_map}
use Rattle.domain_changes.specs.fileset_model.Apply.{rename_checks}
use Rattle.domain_changes.specs.fileset_values.declared.command.Command.TheVariants.{Rename}
use Rattle.domain_changes.specs.fileset_table.Table.{Table, has_name}
use Rattle.domain_changes.specs.domain_layout.CellRules.{of_original}
use Rattle.domain_changes.proofs.OfDomainMemory.KeptStands.{kept_joined}
use Rattle.name_changes.proofs.Same.{still_back, still_keeps, still_settled, still_staged}
use Rattle.name_commands.specs.Ending.{StopsAs}
use Rattle.name_commands.proofs.Given.{original_of_named}
use Rattle.name_commands.proofs.Removal.{found, refuses_none, staged_some}
use Rattle.name_commands.proofs.Still.{has_still, led_live, stands_still, table_still, turned}
use Rattle.name_commands.proofs.renaming.stage_rename.Goals as goal

pub returns-in-Err-clause-ends : goal.returns-in-Err-clause-ends
returns-in-Err-clause-ends c = λ all stands.
    subst (StopsAs all (Rename c.args.place.now c.args.to.now)) (sym c.in-Err.ensures.none.0) (refuses_none c.args.memory c.args.place.now.fileset c.requires.settled c.in-Err.ensures.none.1 all stands (rename_checks c.args.place.now.path c.args.to.now))

pub look_at-memory-requires-clause-stands : goal.look_at-memory-requires-clause-stands
look_at-memory-requires-clause-stands c = staged_some c.args.memory c.requires.settled c.requires.stands

pub look_at-memory-requires-clause-original : goal.look_at-memory-requires-clause-original
look_at-memory-requires-clause-original c = original_of_named (slice_get c.args.memory.table.slots c.in-Ok.number) c.args.place.now.fileset (found c.args.memory c.in-Ok.number c.args.place.now.fileset (staged_some c.args.memory c.requires.settled c.requires.stands) c.in-Ok.ensures.there)

pub share_led-requires-clause-stands : goal.share_led-requires-clause-stands
share_led-requires-clause-stands c = ∥∥₁_map (staged_some c.args.memory c.requires.settled c.requires.stands) (λ s. (s.0, still_staged c.args.memory c.look_at-memory.result.0 c.look_at-memory.ensures.same s.0 s.1))

pub share_led-requires-clause-back : goal.share_led-requires-clause-back
share_led-requires-clause-back c = ∥∥₁_map c.requires.back (still_back c.args.memory c.look_at-memory.result.0 c.look_at-memory.ensures.same)

pub share_led-requires-clause-original : goal.share_led-requires-clause-original
share_led-requires-clause-original c =
    subst (λ (t : Table). of_original (slice_get t.slots c.in-Ok.number) ≡ true) (sym (table_still c.args.memory c.look_at-memory.result.0 c.look_at-memory.ensures.same)) (original_of_named (slice_get c.args.memory.table.slots c.in-Ok.number) c.args.place.now.fileset (found c.args.memory c.in-Ok.number c.args.place.now.fileset (staged_some c.args.memory c.requires.settled c.requires.stands) c.in-Ok.ensures.there))

pub share_led-requires-clause-live : goal.share_led-requires-clause-live
share_led-requires-clause-live c = led_live c.args.memory c.look_at-memory.result.0 c.look_at-memory.ensures.same c.in-Ok.number c.look_at-memory.result.1 c.look_at-memory.ensures.live

pub rename_over-requires-clause-settled : goal.rename_over-requires-clause-settled
rename_over-requires-clause-settled c = still_settled c.args.memory c.look_at-memory.result.0 c.look_at-memory.ensures.same c.requires.settled

pub rename_over-requires-clause-stands : goal.rename_over-requires-clause-stands
rename_over-requires-clause-stands c = ∥∥₁_map c.requires.stands (λ s. (s.0, stands_still c.args.memory c.look_at-memory.result.0 c.look_at-memory.ensures.same s.0 s.1))

pub rename_over-requires-clause-back : goal.rename_over-requires-clause-back
rename_over-requires-clause-back c = ∥∥₁_map c.requires.back (still_back c.args.memory c.look_at-memory.result.0 c.look_at-memory.ensures.same)

pub rename_over-requires-clause-slot : goal.rename_over-requires-clause-slot
rename_over-requires-clause-slot c =
    subst (λ (t : Table). IsSomeAnd (slice_get t.slots c.in-Ok.number) (λ item. has_name c.args.place.now.fileset item ≡ true)) (sym (table_still c.args.memory c.look_at-memory.result.0 c.look_at-memory.ensures.same)) c.in-Ok.ensures.there

pub rename_over-requires-clause-share : goal.rename_over-requires-clause-share
rename_over-requires-clause-share c = λ all entry fileset has free.
    let had = has_still c.look_at-memory.result.0 c.args.memory (turned c.args.memory c.look_at-memory.result.0 c.look_at-memory.ensures.same) c.in-Ok.number all entry fileset has in
    c.in-Ok-share_led.ensures c.args.to.now all entry fileset has (c.look_at-memory.ensures.ok all entry fileset had) (c.look_at-memory.ensures.err all entry fileset had) free

pub returns-clause-ends : goal.returns-clause-ends
returns-clause-ends c = λ all stands. c.rename_over.ensures.ends all (stands_still c.args.memory c.look_at-memory.result.0 c.look_at-memory.ensures.same all stands)

pub returns-clause-kept : goal.returns-clause-kept
returns-clause-kept c = ∥∥₁_map c.rename_over.ensures.kept (λ k. kept_joined c.args.memory c.look_at-memory.result.0 c.rename_over.result.0 (still_keeps c.args.memory c.look_at-memory.result.0 c.look_at-memory.ensures.same) k)

pub returns-in-Err-share_led-clause-back : goal.returns-in-Err-share_led-clause-back
returns-in-Err-share_led-clause-back c = ∥∥₁_map c.requires.back (still_back c.args.memory c.look_at-memory.result.0 c.look_at-memory.ensures.same)
