use Rattle.std.proofs.Common.{length, refl}
use Rattle.std.proofs.lemmas.Option.{slice_get_read}
use Rattle.directory_faults.proofs.LedWrong.{all_kinds, no_kinds, one_kind}
use Rattle.directory_faults.proofs.wrong.read_kinds.Goals as goal

pub loop-file-init : goal.loop-file-init
loop-file-init c = no_kinds c.new-kinds.result c.args.files.now c.new-kinds.ensures.empty

pub loop-file-preserved : goal.loop-file-preserved
loop-file-preserved c =
    let files = c.args.files.now in
    let number = c.loop-file.file-index in
    let file = c.file-item.result in
    one_kind c.loop-file.kinds c.insert.new.self files number file
    (slice_get_read files (length files) number file refl c.loop-file-test.true c.file-item.is) c.loop-file.invariant c.in_ok-insert.ensures.updates.0

pub returns : goal.returns
returns c = all_kinds c.loop-file.kinds c.args.files.now c.loop-file.file-index c.loop-file-test.false c.loop-file.invariant
