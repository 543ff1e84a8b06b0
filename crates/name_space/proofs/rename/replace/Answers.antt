use Rattle.std.proofs.Common.{◌∙◌, cond, is_some, Some, None, ap, sym}
use Rattle.directory_rows.specs.directory_pages.Rows.{found, is_row_name}
use Rattle.directory_rows.specs.Directory.{rows_in}
use Rattle.name_space.proofs.Originals.{is_in}
use Rattle.name_space.proofs.RenameChecks.{taken_led}
use Rattle.name_space.proofs.RenamedNames.{cleared_of, onto_of}
use Rattle.name_space.proofs.rename.replace.Goals as goal

pub take_name-requires-clause-there : goal.take_name-requires-clause-there
take_name-requires-clause-there g c =
    let old = g.S.BitfileSet.files c.args.set.now in
    let other = c.args.other in
    let has = c.requires.looked.names in
    ap is_some (is_in old has.0 has.1.names has.1.role c.args.to.now other.tag other.kind
    (taken_led old c.args.path.now c.args.to.now c.args.spot other.dir c.requires.looked has.0 has.1 other.tag other.kind c.requires.taken)).there

pub move_row-requires : goal.move_row-requires
move_row-requires g c =
    let old = g.S.BitfileSet.files c.args.set.now in
    let mid = g.S.BitfileSet.files c.take_name.new.set in
    let other = c.args.other in
    let is = cleared_of old mid c.args.path.now c.args.to.now c.args.spot other c.requires.looked c.requires.taken c.requires.apart c.requires.bare (g.met.S.BitfileSet.sound c.args.set.now other.tag) c.in-Ok.gone c.last_name.result.now c.last_name.ensures c.in-Ok.ensures.ok in
    record {
      good = is.original.names.directories c.args.spot.dir is.way.there;
      named = ap (λ n. found n (rows_in mid c.args.spot.dir)) c.last_name-2.ensures ∙ is.row;
      into = is.original.names.directories other.dir is.way_to.there;
      new_name = ap is_row_name c.last_name-3.ensures ∙ c.requires.looked.name;
      free = ap (λ n. found n (rows_in mid other.dir)) c.last_name-3.ensures ∙ is.free;
    }

pub returns-then-gone-clause-ok : goal.returns-then-gone-clause-ok
returns-then-gone-clause-ok g c =
    let other = c.args.other in
    onto_of (g.S.BitfileSet.files c.args.set.now) (g.S.BitfileSet.files c.take_name.new.set) c.args.path.now c.args.to.now c.args.spot other c.requires.looked c.requires.taken c.requires.apart c.requires.bare
    (g.met.S.BitfileSet.sound c.args.set.now other.tag) c.in-Ok.gone c.last_name.result.now c.last_name.ensures c.in-Ok.ensures.ok (g.S.BitfileSet.files c.move_row.new.set)
    c.last_name-2.result.now c.last_name-3.result.now c.last_name-2.ensures c.last_name-3.ensures c.in-Ok-move_row.ensures.ok c.requires.allowed
    (Some other.tag) (ap (λ b. cond b (Some other.tag) None) (sym c.if-gone.true))

pub returns-else-gone-clause-ok : goal.returns-else-gone-clause-ok
returns-else-gone-clause-ok g c =
    let other = c.args.other in
    onto_of (g.S.BitfileSet.files c.args.set.now) (g.S.BitfileSet.files c.take_name.new.set) c.args.path.now c.args.to.now c.args.spot other c.requires.looked c.requires.taken c.requires.apart c.requires.bare
    (g.met.S.BitfileSet.sound c.args.set.now other.tag) c.in-Ok.gone c.last_name.result.now c.last_name.ensures c.in-Ok.ensures.ok (g.S.BitfileSet.files c.move_row.new.set)
    c.last_name-2.result.now c.last_name-3.result.now c.last_name-2.ensures c.last_name-3.ensures c.in-Ok-move_row.ensures.ok c.requires.allowed
    None (ap (λ b. cond b (Some other.tag) None) (sym c.if-gone.false))

pub returns-then-gone-clause-rest : goal.returns-then-gone-clause-rest
returns-then-gone-clause-rest g c = g.met.S.BitfileSet.rest_joins c.args.set.now c.take_name.new.set c.move_row.new.set c.in-Ok.ensures.rest c.in-Ok-move_row.ensures.rest

pub returns-else-gone-clause-rest : goal.returns-else-gone-clause-rest
returns-else-gone-clause-rest g c = g.met.S.BitfileSet.rest_joins c.args.set.now c.take_name.new.set c.move_row.new.set c.in-Ok.ensures.rest c.in-Ok-move_row.ensures.rest
