use Rattle.std.proofs.Common.{◌∙◌, ap, sym}
use Rattle.std.specs.Option.{option_map}
use Rattle.fileset_lending.specs.name_space.Names.{number_of}
use Rattle.fileset_lending.specs.fileset_model.Apply.{renamed}
use Rattle.fileset_lending.specs.set_standing.Directories.{said_of}
use Rattle.fileset_lending.proofs.OfSetStanding.Nodes.{path_moved}
use Rattle.name_changes.proofs.Books.{book_moved, named_path}
use Rattle.name_changes.proofs.Calls.{err_by, has_names, names_were, ok_both, ok_by}
use Rattle.name_changes.proofs.Roomy.{err_still, has_room, ok_still, room_back, room_books, room_kept, room_parents, room_stands, with_both}
use Rattle.name_changes.proofs.Parents.{moved_directories, on_ok_by, some_calls}
use Rattle.name_changes.proofs.Left.{books_left, table_left}
use Rattle.name_changes.proofs.moving.rename.Goals as goal

pub move_in-answer-requires-clause-names : goal.move_in-answer-requires-clause-names
move_in-answer-requires-clause-names c = has_names c.args.memory c.args.number c.args.settings c.choose-chosen.result c.choose-chosen.ensures c.requires.stands c.requires.back c.requires.original

pub returns-clause-ok : goal.returns-clause-ok
returns-clause-ok c = λ all entry fileset has.
    let chosen = c.choose-chosen.result in
    let after = c.move_in-answer.new.chosen in
    let was = names_were c.args.memory c.args.number c.args.settings chosen c.choose-chosen.ensures c.requires.stands c.requires.back c.requires.original all entry fileset has in
    ok_by _ _ c.if_room.result (with_both _ _ c.if_room.result (ok_still _ c.if_room.result c.move_in-answer.result c.hand_back-memory.result.1 c.if_room.ensures.ok (ok_both _ _ c.move_in-answer.result c.move_in-answer.ensures.ok c.move_in-answer.ensures.says)) (has_room _ c.if_room.result c.move_in-answer.result c.hand_back-memory.result.1 c.if_room.ensures.ok c.hand_back-memory.ensures.ok)) (λ answer is.
    let it = is.0.0 fileset was in
    let stands = room_stands c.args.memory c.args.number c.args.settings chosen c.choose-chosen.ensures c.requires.settings after c.hand_back-memory.result.0 is.0.1 c.hand_back-memory.ensures.back c.requires.stands c.requires.back c.requires.original all entry fileset has in
    record {
      allowed = it.allowed;
      was = it.was;
      kind = it.kind;
      into = it.into;
      replaced = it.replaced;
      staged = stands _ it.makes (path_moved c.args.path.now c.args.to.now fileset.tree) is.1;
    })

pub returns-clause-err : goal.returns-clause-err
returns-clause-err c = λ all entry fileset has.
    let was = names_were c.args.memory c.args.number c.args.settings c.choose-chosen.result c.choose-chosen.ensures c.requires.stands c.requires.back c.requires.original all entry fileset has in
    err_still _ c.if_room.result c.move_in-answer.result c.if_room.ensures.err tt (err_by _ _ c.move_in-answer.result c.move_in-answer.ensures.err (λ fault is. is fileset was))

pub returns-clause-parents : goal.returns-clause-parents
returns-clause-parents c =
    let chosen = c.choose-chosen.result in
    let after = c.move_in-answer.new.chosen in
    on_ok_by _ _ c.if_room.result (with_both _ _ c.if_room.result (ok_still _ c.if_room.result c.move_in-answer.result c.hand_back-memory.result.1 c.if_room.ensures.ok (ok_both _ _ c.move_in-answer.result c.move_in-answer.ensures.ok (ok_both _ _ c.move_in-answer.result c.move_in-answer.ensures.says c.move_in-answer.ensures.tags))) (has_room _ c.if_room.result c.move_in-answer.result c.hand_back-memory.result.1 c.if_room.ensures.ok c.hand_back-memory.ensures.ok)) (λ answer is.
    room_parents c.args.memory c.args.number c.args.settings chosen c.choose-chosen.ensures c.requires.settings c.move_in-answer.new.chosen c.hand_back-memory.result.0 is.0.1.0 c.hand_back-memory.ensures.back c.requires.stands c.requires.back c.requires.original is.0.1.1
    (λ fileset was.
    let it = is.0.0 fileset was in
    record {
      tree = renamed c.args.path.now c.args.to.now fileset.tree;
      makes = it.makes;
      nodes = path_moved c.args.path.now c.args.to.now fileset.tree;
      directories = moved_directories c.args.path.now c.args.to.now fileset answer was.valid it.allowed c.requires.some_to it.was it.kind it.into;
    }) is.1)

pub returns-clause-kept : goal.returns-clause-kept
returns-clause-kept c =
    let chosen = c.choose-chosen.result in
    let calls = some_calls (λ answer. said_of answer.kind answer.moved answer.dir) chosen c.move_in-answer.new.chosen c.move_in-answer.result c.move_in-answer.ensures.says c.move_in-answer.ensures.err_says in
    room_kept c.args.memory c.args.number c.args.settings chosen c.choose-chosen.ensures c.requires.settings c.move_in-answer.new.chosen c.hand_back-memory.result.0 calls.1 c.hand_back-memory.ensures.back c.requires.stands c.requires.back c.requires.original

pub returns-clause-back : goal.returns-clause-back
returns-clause-back c =
    let chosen = c.choose-chosen.result in
    let calls = some_calls (λ answer. said_of answer.kind answer.moved answer.dir) chosen c.move_in-answer.new.chosen c.move_in-answer.result c.move_in-answer.ensures.says c.move_in-answer.ensures.err_says in
    room_back c.args.memory c.args.number c.args.settings chosen c.choose-chosen.ensures c.requires.settings c.move_in-answer.new.chosen c.hand_back-memory.result.0 calls.1 c.hand_back-memory.ensures.back c.requires.stands c.requires.back c.requires.original

pub returns-clause-books : goal.returns-clause-books
returns-clause-books c = λ all entry fileset has.
    let chosen = c.choose-chosen.result in
    let was = names_were c.args.memory c.args.number c.args.settings chosen c.choose-chosen.ensures c.requires.stands c.requires.back c.requires.original all entry fileset has in
    ok_by _ _ c.if_room.result (ok_still _ c.if_room.result c.move_in-answer.result c.hand_back-memory.result.1 c.if_room.ensures.ok (ok_both _ _ c.move_in-answer.result c.move_in-answer.ensures.ok c.move_in-answer.ensures.says)) (λ answer is none.
    let it = is.0 fileset was in
    room_books c.args.memory c.args.number c.args.settings chosen c.choose-chosen.ensures c.requires.settings c.move_in-answer.new.chosen c.hand_back-memory.result.0 is.1 c.hand_back-memory.ensures.back all entry fileset has (renamed c.args.path.now c.args.to.now fileset.tree)
    (book_moved c.args.path.now c.args.to.now fileset.tree (named_path c.args.path.now c.requires.some) (named_path c.args.to.now c.requires.some_to) (sym it.replaced ∙ ap (option_map number_of) none)))

pub returns-clause-table : goal.returns-clause-table
returns-clause-table c =
    let chosen = c.choose-chosen.result in
    let calls = some_calls (λ answer. said_of answer.kind answer.moved answer.dir) chosen c.move_in-answer.new.chosen c.move_in-answer.result c.move_in-answer.ensures.says c.move_in-answer.ensures.err_says in
    table_left c.args.memory c.args.number c.args.settings chosen c.choose-chosen.ensures c.move_in-answer.new.chosen c.hand_back-memory.result.0 calls.1 c.hand_back-memory.ensures.back

pub returns-clause-counted : goal.returns-clause-counted
returns-clause-counted c =
    let chosen = c.choose-chosen.result in
    let calls = some_calls (λ answer. said_of answer.kind answer.moved answer.dir) chosen c.move_in-answer.new.chosen c.move_in-answer.result c.move_in-answer.ensures.says c.move_in-answer.ensures.err_says in
    books_left c.args.memory c.args.number c.args.settings chosen c.choose-chosen.ensures c.move_in-answer.new.chosen c.hand_back-memory.result.0 calls.1 c.hand_back-memory.ensures.back
