use Rattle.std.proofs.Common.{None, refl}
use Rattle.fileset_lending.specs.name_space.Changes.{rmdir_checks}
use Rattle.fileset_lending.specs.Chosen.{CallsChange}
use Rattle.fileset_lending.specs.declared.chosen.Chosen.{Chosen}
use Rattle.fileset_lending.proofs.OfSetStanding.Nodes.{path_left}
use Rattle.fileset_lending.proofs.OfSetStanding.Stood.{left_stand}
use Rattle.fileset_lending.specs.fileset_model.Apply.{without}
use Rattle.name_changes.proofs.Parents.{on_ok_by}
use Rattle.name_changes.proofs.Calls.{err_by, has_names, is_refused, names_were, ok_by}
use Rattle.name_changes.proofs.Roomy.{err_still, has_room, ok_still, pages_still, room_back, room_kept, room_parents, room_stands, with_both}
use Rattle.name_changes.proofs.Left.{books_left, table_left}
use Rattle.name_changes.proofs.taking.remove_directory.Goals as goal

pub rmdir_at-answer-requires-clause-names : goal.rmdir_at-answer-requires-clause-names
rmdir_at-answer-requires-clause-names c = has_names c.args.memory c.args.number c.args.settings c.choose-chosen.result c.choose-chosen.ensures c.requires.stands c.requires.back c.requires.original

pub returns-clause-ok : goal.returns-clause-ok
returns-clause-ok c = λ all entry fileset has.
    let chosen = c.choose-chosen.result in
    let after : Chosen = record chosen { set = c.rmdir_at-answer.new.set } in
    let calls : CallsChange None chosen after = record { set = c.rmdir_at-answer.ensures.rest; rest = refl } in
    let was = names_were c.args.memory c.args.number c.args.settings chosen c.choose-chosen.ensures c.requires.stands c.requires.back c.requires.original all entry fileset has in
    let stands = room_stands c.args.memory c.args.number c.args.settings chosen c.choose-chosen.ensures c.requires.settings after c.hand_back-memory.result.0 calls c.hand_back-memory.ensures.back c.requires.stands c.requires.back c.requires.original all entry fileset has in
    ok_by _ _ c.if_room.result (with_both _ _ c.if_room.result (ok_still _ c.if_room.result c.rmdir_at-answer.result c.hand_back-memory.result.1 c.if_room.ensures.ok c.rmdir_at-answer.ensures.ok) (has_room _ c.if_room.result c.rmdir_at-answer.result c.hand_back-memory.result.1 c.if_room.ensures.ok c.hand_back-memory.ensures.ok)) (λ answer is.
    let it = is.0 fileset was in
    record { allowed = it.allowed; was = it.was; last = it.last; staged = stands _ it.makes (path_left c.args.path.now fileset.tree) is.1 })

pub returns-clause-err : goal.returns-clause-err
returns-clause-err c = λ all entry fileset has.
    let was = names_were c.args.memory c.args.number c.args.settings c.choose-chosen.result c.choose-chosen.ensures c.requires.stands c.requires.back c.requires.original all entry fileset has in
    err_still _ c.if_room.result c.rmdir_at-answer.result c.if_room.ensures.err tt (err_by _ _ c.rmdir_at-answer.result c.rmdir_at-answer.ensures.err (λ fault is. is_refused (rmdir_checks c.args.path.now) _ _ _ _ fileset was fault is))

pub returns-clause-pages : goal.returns-clause-pages
returns-clause-pages c = pages_still c.if_room.result c.rmdir_at-answer.result c.if_room.ensures.err (c.rmdir_at-answer.ensures.in_place tt)

pub returns-clause-kept : goal.returns-clause-kept
returns-clause-kept c =
    let chosen = c.choose-chosen.result in
    let after : Chosen = record chosen { set = c.rmdir_at-answer.new.set } in
    room_kept c.args.memory c.args.number c.args.settings chosen c.choose-chosen.ensures c.requires.settings {said = None} after c.hand_back-memory.result.0 (record { set = c.rmdir_at-answer.ensures.rest; rest = refl }) c.hand_back-memory.ensures.back c.requires.stands c.requires.back c.requires.original

pub returns-clause-back : goal.returns-clause-back
returns-clause-back c =
    let chosen = c.choose-chosen.result in
    let after : Chosen = record chosen { set = c.rmdir_at-answer.new.set } in
    room_back c.args.memory c.args.number c.args.settings chosen c.choose-chosen.ensures c.requires.settings {said = None} after c.hand_back-memory.result.0 (record { set = c.rmdir_at-answer.ensures.rest; rest = refl }) c.hand_back-memory.ensures.back c.requires.stands c.requires.back c.requires.original

pub returns-clause-parents : goal.returns-clause-parents
returns-clause-parents c =
    let chosen = c.choose-chosen.result in
    let after : Chosen = record chosen { set = c.rmdir_at-answer.new.set } in
    let calls : CallsChange None chosen after = record { set = c.rmdir_at-answer.ensures.rest; rest = refl } in
    on_ok_by _ _ c.if_room.result (with_both _ _ c.if_room.result (ok_still _ c.if_room.result c.rmdir_at-answer.result c.hand_back-memory.result.1 c.if_room.ensures.ok c.rmdir_at-answer.ensures.ok) (has_room _ c.if_room.result c.rmdir_at-answer.result c.hand_back-memory.result.1 c.if_room.ensures.ok c.hand_back-memory.ensures.ok)) (λ answer is.
    room_parents c.args.memory c.args.number c.args.settings chosen c.choose-chosen.ensures c.requires.settings after c.hand_back-memory.result.0 calls c.hand_back-memory.ensures.back c.requires.stands c.requires.back c.requires.original tt
    (λ fileset was. let it = is.0 fileset was in record { tree = without c.args.path.now fileset.tree; makes = it.makes; nodes = path_left c.args.path.now fileset.tree; directories = left_stand c.args.path.now fileset.tree }) is.1)

pub returns-clause-table : goal.returns-clause-table
returns-clause-table c =
    let chosen = c.choose-chosen.result in
    let after : Chosen = record chosen { set = c.rmdir_at-answer.new.set } in
    table_left c.args.memory c.args.number c.args.settings chosen c.choose-chosen.ensures {said = None} after c.hand_back-memory.result.0 (record { set = c.rmdir_at-answer.ensures.rest; rest = refl }) c.hand_back-memory.ensures.back

pub returns-clause-counted : goal.returns-clause-counted
returns-clause-counted c =
    let chosen = c.choose-chosen.result in
    let after : Chosen = record chosen { set = c.rmdir_at-answer.new.set } in
    books_left c.args.memory c.args.number c.args.settings chosen c.choose-chosen.ensures {said = None} after c.hand_back-memory.result.0 (record { set = c.rmdir_at-answer.ensures.rest; rest = refl }) c.hand_back-memory.ensures.back
