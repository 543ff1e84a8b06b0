use Rattle.std.proofs.Common.{◌∙◌, sym}
use Rattle.index_row_faults.specs.page_ways.Frame.{frame_in}
use Rattle.index_row_faults.proofs.OfFilesetShapes.Answered.{if_ok}
use Rattle.slot_files.proofs.TagFiles.{in_original, not_in_original}
use Rattle.slot_files.proofs.tags.read_in_original.Goals as goal

pub look_at_chain-requires : goal.look_at_chain-requires
look_at_chain-requires g c = λ broken. c.requires.whole _ c.in-Some.at broken (sym c.look.ensures ∙ c.in-Some.is)

pub read_original_at-requires-clause-whole : goal.read_original_at-requires-clause-whole
read_original_at-requires-clause-whole g c = λ broken. c.requires.whole _ c.in-Some.at broken (sym c.look.ensures ∙ c.in-Some.is)

pub returns-in_ok-look_at_chain-in-Some : goal.returns-in_ok-look_at_chain-in-Some
returns-in_ok-look_at_chain-in-Some g c =
    if_ok c.read_original_at.result _ _
    (λ found reads. in_original (g.M.MetaPages.pages c.args.pages.now) (frame_in c.args.frame.now) c.args.dir.now c.args.tag c.in-Some.at (sym c.look.ensures ∙ c.in-Some.is) found reads) c.read_original_at.ensures

pub returns-in-None : goal.returns-in-None
returns-in-None g c = not_in_original (g.M.MetaPages.pages c.args.pages.now) (frame_in c.args.frame.now) c.args.dir.now c.args.tag (sym c.look.ensures ∙ c.in-None.is)
