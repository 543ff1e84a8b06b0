use Rattle.std.proofs.Common.{◌≡◌, sum_by, take}
use Rattle.std.specs.FinMap as map
use Rattle.domain_faults.specs.fileset_values.declared.reply.FilesetItem.{FilesetItem}
use Rattle.run_parts.specs.Verified.{files_under}
use Rattle.run_parts.proofs.verifying.count_files.Given as goal

-- the files of the filesets so far are counted
abbrev pub invariant-loop-item : goal.invariant-loop-item
invariant-loop-item l = l.files ≡ sum_by (λ (item : FilesetItem). files_under (map.get l.all item.fileset)) (take l.item-index l.item-items)
