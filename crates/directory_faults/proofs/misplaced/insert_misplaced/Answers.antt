use Rattle.std.proofs.Common.{length, refl}
use Rattle.std.proofs.lemmas.Option.{slice_get_read}
use Rattle.fileset_shapes.specs.sorted_sets.Members.{IsIn}
use Rattle.directory_faults.proofs.Inserted.{none_in, one_in}
use Rattle.directory_faults.specs.Misplaced.{IsMisplacedAt}
use Rattle.directory_faults.proofs.MisplacedFound.{all_misplaced}
use Rattle.directory_faults.proofs.Ordered.{rises_by}
use Rattle.directory_faults.proofs.misplaced.insert_misplaced.Goals as goal

pub loop-file-init : goal.loop-file-init
loop-file-init c = none_in c.args.files.now (IsMisplacedAt c.in_ok-tree.tree) (IsIn c.args.found.now)

pub insert_one-requires : goal.insert_one-requires
insert_one-requires c = rises_by c.in_ok-tree.tree.children c.args.rows.now c.in_ok-order.order c.in_ok-tree.ensures.children c.in_ok-order.ensures

pub loop-file-preserved : goal.loop-file-preserved
loop-file-preserved c =
    let files = c.args.files.now in
    let number = c.loop-file.file-index in
    let file = c.file-item.result in
    one_in files (IsMisplacedAt c.in_ok-tree.tree) (IsIn c.args.found.now) (IsIn c.loop-file.found) (IsIn c.insert_one.new.found) number file
    (slice_get_read files (length files) number file refl c.loop-file-test.true c.file-item.is) c.loop-file.invariant c.in_ok-insert_one.ensures

pub returns : goal.returns
returns c = λ pages frame table number are_files are slot.
    all_misplaced pages frame table number c.args.files.now c.args.rows.now c.args.is_clone c.in_ok-tree.tree are_files are slot c.in_ok-tree.ensures
    (IsIn c.args.found.now) (IsIn c.loop-file.found) c.loop-file.file-index c.loop-file-test.false c.loop-file.invariant
