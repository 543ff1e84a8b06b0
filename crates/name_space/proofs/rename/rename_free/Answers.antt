use Rattle.std.proofs.Common.{◌≡◌, true, false, refl}
use Rattle.plain_program.specs.fileset_model.Apply.{rename_checks}
use Rattle.plain_program.specs.fileset_model.Paths.{begins_with}
use Rattle.name_space.proofs.Faults.{faulted, unrefused}
use Rattle.name_space.proofs.RenameChecks.{begins_is, free_checks_are, free_into_itself}
use Rattle.name_space.proofs.RenamedNames.{moves_of, renames_free}
use Rattle.name_space.proofs.rename.rename_free.Goals as goal

pub returns-then-starts_with-clause-err : goal.returns-then-starts_with-clause-err
returns-then-starts_with-clause-err g c = (
  refl,
  λ slot original.
      let old = g.S.BitfileSet.files c.args.set.now in
      let path = c.args.path.now in
      let to = c.args.to.now in
      let below : begins_with to path ≡ true = begins_is c.as_slice.result.now c.as_slice-2.result.now path to c.starts_with.result true c.starts_with.ensures.value c.as_slice.ensures c.as_slice-2.ensures c.if-starts_with.true in
      free_into_itself old path to c.args.spot c.args.dir c.requires.looked slot original c.requires.free below,
)

pub returns-in-Ok-clause-ok : goal.returns-in-Ok-clause-ok
returns-in-Ok-clause-ok g c = λ slot original.
    let old = g.S.BitfileSet.files c.args.set.now in
    let new = g.S.BitfileSet.files c.move_row.new.set in
    let path = c.args.path.now in
    let to = c.args.to.now in
    let beside : begins_with to path ≡ false = begins_is c.as_slice.result.now c.as_slice-2.result.now path to c.starts_with.result false c.starts_with.ensures.value c.as_slice.ensures c.as_slice-2.ensures c.if-starts_with.false in
    renames_free old new path to c.args.spot c.args.dir c.requires.looked slot original c.requires.free beside
    (moves_of c.args.spot c.args.dir path to c.last_name.result.now c.last_name-2.result.now old new c.last_name.ensures c.last_name-2.ensures c.in-Ok.ensures.ok)

pub returns-in-Err-clause-err : goal.returns-in-Err-clause-err
returns-in-Err-clause-err g c =
    let old = g.S.BitfileSet.files c.args.set.now in
    let new = g.S.BitfileSet.files c.move_row.new.set in
    let path = c.args.path.now in
    let to = c.args.to.now in
    let beside : begins_with to path ≡ false = begins_is c.as_slice.result.now c.as_slice-2.result.now path to c.starts_with.result false c.starts_with.ensures.value c.as_slice.ensures c.as_slice-2.ensures c.if-starts_with.false in
    faulted (rename_checks path to) old new (g.S.BitfileSet.missed c.args.set.now) (g.S.BitfileSet.missed c.move_row.new.set) c.in-Err.fault c.from.result c.from.ensures c.in-Err.ensures.no_page
    (λ slot original. free_checks_are old path to c.args.spot c.args.dir c.requires.looked slot original c.requires.free beside)

pub returns-in-Err-clause-refused : goal.returns-in-Err-clause-refused
returns-in-Err-clause-refused g c = unrefused (c.move_row.new.set ≡ c.args.set.now) c.in-Err.fault c.from.result c.from.ensures
