use Rattle.slot_files.proofs.Indexed.{AreIndexesBefore}
use Rattle.slot_files.proofs.indexes.read_slot_indexes.Given as goal

abbrev pub invariant-loop-file : goal.invariant-loop-file
invariant-loop-file g l = AreIndexesBefore (g.M.MetaPages.pages l.pages) l.files l.file-index l.indexes.items
