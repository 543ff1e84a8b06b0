use Rattle.std.proofs.Common.{◌≡◌, take}
use Rattle.std.specs.List.{filter_map}
use Rattle.fileset_model.proofs.RowsLemmas.{row_of}
use Rattle.fileset_model.proofs.fileset.FilesetTree.rows.Given as goal

abbrev pub invariant-loop-path : goal.invariant-loop-path
invariant-loop-path l = l.rows.items ≡ filter_map (row_of l.self l.parent) (take l.path-index l.path-items)
