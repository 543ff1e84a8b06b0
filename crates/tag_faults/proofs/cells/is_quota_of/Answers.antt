use Rattle.std.proofs.Common.{◌∙◌, sym}
use mathlib.Core.Bool.{false≢true}
use Rattle.tag_faults.proofs.InUse.{no_quota, other_kind, quota_says}
use Rattle.tag_faults.proofs.cells.is_quota_of.Goals as goal

pub returns-in_default : goal.returns-in_default
returns-in_default g c frame are = ((λ yes. absurd (false≢true yes)), (λ is. absurd (no_quota (g.M.MetaPages.pages c.args.pages.now) frame c.args.links.now are c.args.number c.args.at.now c.in_default.ensures.none is)))

pub returns-then-is_quota : goal.returns-then-is_quota
returns-then-is_quota g c frame are =
    quota_says (g.M.MetaPages.pages c.args.pages.now) frame c.args.links.now are c.args.number c.args.at.now c.in-Some.link c.in-Some.ensures.some (c.is_quota.ensures.0 c.if-is_quota.true) c.says_fileset.result c.says_fileset.ensures

pub returns-else-is_quota : goal.returns-else-is_quota
returns-else-is_quota g c frame are = (
  λ yes. absurd (false≢true (sym c.if-is_quota.false ∙ yes)),
  λ is. absurd (other_kind (g.M.MetaPages.pages c.args.pages.now) frame c.args.links.now are c.args.number c.args.at.now c.in-Some.link c.in-Some.ensures.some (λ kind. false≢true (sym c.if-is_quota.false ∙ c.is_quota.ensures.1 kind)) is),
)
