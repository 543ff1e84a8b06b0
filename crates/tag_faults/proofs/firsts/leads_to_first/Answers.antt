use Rattle.std.proofs.Common.{◌∙◌, sym}
use mathlib.Core.Bool.{false≢true}
use Rattle.cell_faults.specs.page_ways.Frame.{frame_in}
use Rattle.tag_faults.proofs.FirstCells.{first_says, no_first, other_first}
use Rattle.tag_faults.proofs.firsts.leads_to_first.Goals as goal

pub returns-in_default-get : goal.returns-in_default-get
returns-in_default-get g c = (
  λ yes. absurd (false≢true yes),
  λ is. absurd (no_first (g.M.MetaPages.pages c.args.pages.now) (frame_in c.args.frame.now) c.args.links.now c.requires c.args.entry.now c.in-Some.at c.in-Some.ensures.some c.in_default-get.ensures.none is),
)

pub returns-then-is_primary : goal.returns-then-is_primary
returns-then-is_primary g c =
    first_says (g.M.MetaPages.pages c.args.pages.now) (frame_in c.args.frame.now) c.args.links.now c.requires c.args.entry.now c.in-Some.at c.in-Some.ensures.some c.in-Some-get.link c.in-Some-get.ensures.some
    (c.is_primary.ensures.0 c.if-is_primary.true) c.says_entry_at.result c.says_entry_at.ensures

pub returns-else-is_primary : goal.returns-else-is_primary
returns-else-is_primary g c = (
  λ yes. absurd (false≢true (sym c.if-is_primary.false ∙ yes)),
  λ is. absurd (other_first (g.M.MetaPages.pages c.args.pages.now) (frame_in c.args.frame.now) c.args.links.now c.requires c.args.entry.now c.in-Some.at c.in-Some.ensures.some c.in-Some-get.link c.in-Some-get.ensures.some
      (λ kind. false≢true (sym c.if-is_primary.false ∙ c.is_primary.ensures.1 kind)) is),
)
