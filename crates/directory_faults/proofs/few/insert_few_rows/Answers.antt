use Rattle.std.proofs.Common.{◌≡◌, Bool, true, false, not, length, refl, sym}
use Rattle.std.proofs.lemmas.Option.{slice_get_read}
use Rattle.fileset_shapes.specs.sorted_sets.Members.{IsIn}
use Rattle.directory_faults.proofs.Inserted.{none_in, one_in}
use Rattle.directory_faults.specs.Few.{HasFewAt}
use mathlib.Core.Bool.{false≢true}
use Rattle.directory_faults.proofs.FewFound.{all_few, none_few}
use Rattle.directory_faults.proofs.few.insert_few_rows.Goals as goal

not_read : (b : Bool) → not b ≡ true → ¬ b ≡ true
not_read true is read = false≢true is
not_read false is read = false≢true read

all_read : (b : Bool) → not b ≡ false → b ≡ true
all_read true is = refl
all_read false is = absurd (false≢true (sym is))

pub loop-file-init : goal.loop-file-init
loop-file-init c = none_in c.args.files.now (HasFewAt c.in_ok-counts.counts) (IsIn c.args.found.now)

pub loop-file-preserved : goal.loop-file-preserved
loop-file-preserved c =
    let files = c.args.files.now in
    let number = c.loop-file.file-index in
    let file = c.file-item.result in
    one_in files (HasFewAt c.in_ok-counts.counts) (IsIn c.args.found.now) (IsIn c.loop-file.found) (IsIn c.insert_few.new.found) number file
    (slice_get_read files (length files) number file refl c.loop-file-test.true c.file-item.is) c.loop-file.invariant c.in_ok-insert_few.ensures

pub returns-then-not-tree : goal.returns-then-not-tree
returns-then-not-tree c = λ pages frame table number are_files are slot.
    none_few pages frame table number c.args.files.now c.args.rows.now c.args.is_clone c.in_ok-tree.tree are_files are slot c.in_ok-tree.ensures (not_read c.in_ok-tree.tree.are_all_read c.if-not-tree.true) (IsIn c.args.found.now)

pub returns : goal.returns
returns c = λ pages frame table number are_files are slot.
    all_few pages frame table number c.args.files.now c.args.rows.now c.args.is_clone c.in_ok-tree.tree are_files are slot c.in_ok-tree.ensures c.in_ok-counts.counts c.in_ok-counts.ensures (all_read c.in_ok-tree.tree.are_all_read c.if-not-tree.false)
    (IsIn c.args.found.now) (IsIn c.loop-file.found) c.loop-file.file-index c.loop-file-test.false c.loop-file.invariant
