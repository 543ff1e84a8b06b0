use Rattle.fileset_lending.specs.name_space.Changes.{new_node}
use Rattle.fileset_lending.specs.fileset_model.Apply.{with_node}
use Rattle.fileset_lending.specs.name_space.Names.{number_of}
use Rattle.fileset_lending.specs.set_standing.Directories.{said_of}
use Rattle.fileset_lending.proofs.OfSetStanding.Nodes.{node_made}
use Rattle.name_changes.proofs.Calls.{err_by, has_names, names_were, new_is, ok_both, ok_by}
use Rattle.name_changes.proofs.Roomy.{err_still, has_room, ok_still, room_back, room_kept, room_parents, room_stands, with_both}
use Rattle.name_changes.proofs.Parents.{made_directories, on_ok_by, some_calls}
use Rattle.name_changes.proofs.Left.{books_left, table_left}
use Rattle.name_changes.proofs.making.create.Goals as goal

pub make_in-answer-requires-clause-names : goal.make_in-answer-requires-clause-names
make_in-answer-requires-clause-names c = has_names c.args.memory c.args.number c.args.settings c.choose-chosen.result c.choose-chosen.ensures c.requires.stands c.requires.back c.requires.original

pub returns-clause-ok : goal.returns-clause-ok
returns-clause-ok c = λ all entry fileset has.
    let chosen = c.choose-chosen.result in
    let after = c.make_in-answer.new.chosen in
    let was = names_were c.args.memory c.args.number c.args.settings chosen c.choose-chosen.ensures c.requires.stands c.requires.back c.requires.original all entry fileset has in
    ok_by _ _ c.if_room.result (with_both _ _ c.if_room.result (ok_still _ c.if_room.result c.make_in-answer.result c.hand_back-memory.result.1 c.if_room.ensures.ok (ok_both _ _ c.make_in-answer.result c.make_in-answer.ensures.ok c.make_in-answer.ensures.says)) (has_room _ c.if_room.result c.make_in-answer.result c.hand_back-memory.result.1 c.if_room.ensures.ok c.hand_back-memory.ensures.ok)) (λ made is.
    let it = is.0.0 fileset was in
    let stands = room_stands c.args.memory c.args.number c.args.settings chosen c.choose-chosen.ensures c.requires.settings after c.hand_back-memory.result.0 is.0.1 c.hand_back-memory.ensures.back c.requires.stands c.requires.back c.requires.original all entry fileset has in
    record {
      allowed = it.allowed;
      fresh = it.fresh;
      into = it.into;
      staged = stands _ it.makes (node_made c.args.path.now _ (new_node c.args.kind c.args.uid c.args.gid) fileset.tree it.fresh (new_is c.args.kind c.args.uid c.args.gid)) is.1;
    })

pub returns-clause-err : goal.returns-clause-err
returns-clause-err c = λ all entry fileset has.
    let was = names_were c.args.memory c.args.number c.args.settings c.choose-chosen.result c.choose-chosen.ensures c.requires.stands c.requires.back c.requires.original all entry fileset has in
    err_still _ c.if_room.result c.make_in-answer.result c.if_room.ensures.err tt (err_by _ _ c.make_in-answer.result c.make_in-answer.ensures.err (λ fault is. is fileset was))

pub returns-clause-parents : goal.returns-clause-parents
returns-clause-parents c =
    let chosen = c.choose-chosen.result in
    let after = c.make_in-answer.new.chosen in
    on_ok_by _ _ c.if_room.result (with_both _ _ c.if_room.result (ok_still _ c.if_room.result c.make_in-answer.result c.hand_back-memory.result.1 c.if_room.ensures.ok (ok_both _ _ c.make_in-answer.result c.make_in-answer.ensures.ok (ok_both _ _ c.make_in-answer.result c.make_in-answer.ensures.says c.make_in-answer.ensures.tags))) (has_room _ c.if_room.result c.make_in-answer.result c.hand_back-memory.result.1 c.if_room.ensures.ok c.hand_back-memory.ensures.ok)) (λ made is.
    room_parents c.args.memory c.args.number c.args.settings chosen c.choose-chosen.ensures c.requires.settings c.make_in-answer.new.chosen c.hand_back-memory.result.0 is.0.1.0 c.hand_back-memory.ensures.back c.requires.stands c.requires.back c.requires.original is.0.1.1
    (λ fileset was.
    let it = is.0.0 fileset was in
    record {
      tree = with_node c.args.path.now (number_of made.tag) (new_node c.args.kind c.args.uid c.args.gid) fileset.tree;
      makes = it.makes;
      nodes = node_made c.args.path.now _ (new_node c.args.kind c.args.uid c.args.gid) fileset.tree it.fresh (new_is c.args.kind c.args.uid c.args.gid);
      directories = made_directories c.args.path.now c.args.kind c.args.uid c.args.gid fileset made was.valid it.allowed it.fresh it.into;
    }) is.1)

pub returns-clause-kept : goal.returns-clause-kept
returns-clause-kept c =
    let chosen = c.choose-chosen.result in
    let calls = some_calls (λ made. said_of c.args.kind made.tag made.dir) chosen c.make_in-answer.new.chosen c.make_in-answer.result c.make_in-answer.ensures.says c.make_in-answer.ensures.err_says in
    room_kept c.args.memory c.args.number c.args.settings chosen c.choose-chosen.ensures c.requires.settings c.make_in-answer.new.chosen c.hand_back-memory.result.0 calls.1 c.hand_back-memory.ensures.back c.requires.stands c.requires.back c.requires.original

pub returns-clause-back : goal.returns-clause-back
returns-clause-back c =
    let chosen = c.choose-chosen.result in
    let calls = some_calls (λ made. said_of c.args.kind made.tag made.dir) chosen c.make_in-answer.new.chosen c.make_in-answer.result c.make_in-answer.ensures.says c.make_in-answer.ensures.err_says in
    room_back c.args.memory c.args.number c.args.settings chosen c.choose-chosen.ensures c.requires.settings c.make_in-answer.new.chosen c.hand_back-memory.result.0 calls.1 c.hand_back-memory.ensures.back c.requires.stands c.requires.back c.requires.original

pub returns-clause-table : goal.returns-clause-table
returns-clause-table c =
    let chosen = c.choose-chosen.result in
    let calls = some_calls (λ made. said_of c.args.kind made.tag made.dir) chosen c.make_in-answer.new.chosen c.make_in-answer.result c.make_in-answer.ensures.says c.make_in-answer.ensures.err_says in
    table_left c.args.memory c.args.number c.args.settings chosen c.choose-chosen.ensures c.make_in-answer.new.chosen c.hand_back-memory.result.0 calls.1 c.hand_back-memory.ensures.back

pub returns-clause-counted : goal.returns-clause-counted
returns-clause-counted c =
    let chosen = c.choose-chosen.result in
    let calls = some_calls (λ made. said_of c.args.kind made.tag made.dir) chosen c.make_in-answer.new.chosen c.make_in-answer.result c.make_in-answer.ensures.says c.make_in-answer.ensures.err_says in
    books_left c.args.memory c.args.number c.args.settings chosen c.choose-chosen.ensures c.make_in-answer.new.chosen c.hand_back-memory.result.0 calls.1 c.hand_back-memory.ensures.back
