use Rattle.std.proofs.Common.{◌≡◌, Some, None, subst}
use Rattle.slot_files.specs.page_ways.Frame.{frame_in}
use Rattle.slot_files.specs.cell_faults.Read.{IsTableRead}
use Rattle.image_loading.proofs.AllThere.{no_files}
use Rattle.image_loading.proofs.all.load_behind.Goals as goal

pub load_said-requires-clause-table : goal.load_said-requires-clause-table
load_said-requires-clause-table g c = subst (IsTableRead (g.M.MetaPages.pages c.args.pages.now) (frame_in c.args.frame.now)) c.in-There.is c.requires.read

pub returns-in_default-clause-files : goal.returns-in_default-clause-files
returns-in_default-clause-files g c = λ none. absurd (no_files (g.M.MetaPages.pages c.args.pages.now) (frame_in c.args.frame.now) c.args.read.now c.requires.named.1 c.requires.read none c.in_default.not-There)
