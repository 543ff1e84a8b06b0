use Rattle.filesets_filled.proofs.Shown.{an_original_has_a_root}
use Rattle.filesets_filled.proofs.shown_laws.an_original_has_a_root.Goals as goal

pub returns : goal.returns
returns c = an_original_has_a_root
