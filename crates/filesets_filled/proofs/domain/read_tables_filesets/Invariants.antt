use Rattle.filesets_filled.specs.Slots.{AreFilledUpTo}
use Rattle.filesets_filled.proofs.domain.read_tables_filesets.Given as goal

abbrev pub invariant-loop-n : goal.invariant-loop-n
invariant-loop-n g l = AreFilledUpTo (g.M.MetaPages.pages l.pages) l.tables.filesets l.n l.all
