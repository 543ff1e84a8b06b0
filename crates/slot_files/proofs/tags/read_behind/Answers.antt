use Rattle.std.proofs.Common.{◌∙◌, sym}
use Rattle.index_row_faults.specs.page_ways.Frame.{frame_in}
use Rattle.index_row_faults.proofs.OfFilesetShapes.Answered.{if_ok}
use Rattle.slot_files.proofs.TagFiles.{in_behind, not_behind}
use Rattle.slot_files.proofs.tags.read_behind.Goals as goal

pub look_at_chain-requires : goal.look_at_chain-requires
look_at_chain-requires g c = λ broken. c.requires.whole _ c.in-Some.at broken (sym c.look.ensures ∙ c.in-Some.is)

pub read_through_at-requires-clause-whole : goal.read_through_at-requires-clause-whole
read_through_at-requires-clause-whole g c = λ broken. c.requires.whole _ c.in-Some.at broken (sym c.look.ensures ∙ c.in-Some.is)

pub returns-in_ok-look_at_chain-in-Some : goal.returns-in_ok-look_at_chain-in-Some
returns-in_ok-look_at_chain-in-Some g c =
    if_ok c.read_through_at.result _ _
    (λ found reads. in_behind (g.M.MetaPages.pages c.args.pages.now) (frame_in c.args.frame.now) c.args.behind.now c.args.number c.args.tag c.in-Some.at (sym c.look.ensures ∙ c.in-Some.is) found reads) c.read_through_at.ensures

pub returns-in-None : goal.returns-in-None
returns-in-None g c = not_behind (g.M.MetaPages.pages c.args.pages.now) (frame_in c.args.frame.now) c.args.behind.now c.args.number c.args.tag (sym c.look.ensures ∙ c.in-None.is)
