use Rattle.std.proofs.Common.{◌≡◌, ◌∙◌, true, false, sym}
use Rattle.std.proofs.lemmas.Result.{on_ok_weaker}
use Rattle.slot_files.specs.page_ways.Frame.{frame_in}
use Rattle.image_loading.proofs.AllThere.{cells_there}
use Rattle.image_loading.proofs.all.load_said.Goals as goal

pub returns-then-is_broken-clause-files : goal.returns-then-is_broken-clause-files
returns-then-is_broken-clause-files g c = λ none. absurd (let e : true ≡ false = sym c.if-is_broken.true ∙ c.in_ok-is_broken.ensures.1 none in absurd (cc))

pub load_files-requires-clause-cells : goal.load_files-requires-clause-cells
load_files-requires-clause-cells g c = cells_there (g.M.MetaPages.pages c.args.pages.now) (frame_in c.args.frame.now) c.requires.tables c.requires.table.1

pub load_files-requires-clause-no_fault : goal.load_files-requires-clause-no_fault
load_files-requires-clause-no_fault g c = c.in_ok-is_broken.ensures.0 c.if-is_broken.false

pub returns-clause-files : goal.returns-clause-files
returns-clause-files g c = on_ok_weaker c.load_files.result (λ brings none. brings) c.load_files.ensures.files
