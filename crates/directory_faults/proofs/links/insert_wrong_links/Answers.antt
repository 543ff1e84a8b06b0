use Rattle.std.proofs.Common.{length, refl}
use Rattle.std.proofs.lemmas.Option.{slice_get_read}
use Rattle.fileset_shapes.specs.sorted_sets.Members.{IsIn}
use Rattle.directory_faults.specs.Links.{IsWrongAt}
use Rattle.directory_faults.proofs.Inserted.{none_in, one_in}
use Rattle.directory_faults.proofs.LinksWrong.{all_links}
use Rattle.directory_faults.proofs.links.insert_wrong_links.Goals as goal

pub loop-file-init : goal.loop-file-init
loop-file-init c = none_in c.args.files.now (IsWrongAt c.in_ok-counts.counts) (IsIn c.args.found.now)

pub loop-file-preserved : goal.loop-file-preserved
loop-file-preserved c =
    let files = c.args.files.now in
    let number = c.loop-file.file-index in
    let file = c.file-item.result in
    one_in files (IsWrongAt c.in_ok-counts.counts) (IsIn c.args.found.now) (IsIn c.loop-file.found) (IsIn c.insert_wrong.new.found) number file
    (slice_get_read files (length files) number file refl c.loop-file-test.true c.file-item.is) c.loop-file.invariant c.in_ok-insert_wrong.ensures

pub returns : goal.returns
returns c = λ pages frame table number are_files are.
    all_links pages frame table number c.args.files.now c.args.rows.now c.in_ok-counts.counts are_files are c.in_ok-counts.ensures
    (IsIn c.args.found.now) (IsIn c.loop-file.found) c.loop-file.file-index c.loop-file-test.false c.loop-file.invariant
