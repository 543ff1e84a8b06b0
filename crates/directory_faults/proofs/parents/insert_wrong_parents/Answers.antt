use Rattle.std.proofs.Common.{length, refl}
use Rattle.std.proofs.lemmas.Option.{slice_get_read}
use Rattle.fileset_shapes.specs.sorted_sets.Members.{IsIn}
use Rattle.directory_faults.specs.Parents.{IsAstrayAt}
use Rattle.directory_faults.proofs.Inserted.{none_in, one_in}
use Rattle.directory_faults.proofs.ParentsWrong.{all_parents}
use Rattle.directory_faults.proofs.parents.insert_wrong_parents.Goals as goal

pub loop-file-init : goal.loop-file-init
loop-file-init c = none_in c.args.files.now (IsAstrayAt c.in_ok-astray.astray) (IsIn c.args.found.now)

pub loop-file-preserved : goal.loop-file-preserved
loop-file-preserved c =
    let files = c.args.files.now in
    let number = c.loop-file.file-index in
    let file = c.file-item.result in
    one_in files (IsAstrayAt c.in_ok-astray.astray) (IsIn c.args.found.now) (IsIn c.loop-file.found) (IsIn c.insert_astray.new.found) number file
    (slice_get_read files (length files) number file refl c.loop-file-test.true c.file-item.is) c.loop-file.invariant c.in_ok-insert_astray.ensures

pub returns : goal.returns
returns c = λ pages frame table number are_files are.
    all_parents pages frame table number c.args.files.now c.args.rows.now c.in_ok-parents.parents c.in_ok-astray.astray are_files are c.in_ok-parents.ensures c.in_ok-astray.ensures
    (IsIn c.args.found.now) (IsIn c.loop-file.found) c.loop-file.file-index c.loop-file-test.false c.loop-file.invariant
