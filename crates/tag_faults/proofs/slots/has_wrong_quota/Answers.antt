use Rattle.std.proofs.Common.{◌∙◌, sym}
use Rattle.tag_faults.proofs.InUse.{wrong_quota}
use Rattle.tag_faults.proofs.slots.has_wrong_quota.Goals as goal

pub returns-else-not-is_quota_of : goal.returns-else-not-is_quota_of
returns-else-not-is_quota_of g c frame are =
    wrong_quota (g.M.MetaPages.pages c.args.pages.now) frame c.args.links.now are c.args.led.now c.requires c.args.number c.args.item.now c.in-Some.at (sym c.own_quota.ensures ∙ c.in-Some.is)
    ((c.is_quota_of.ensures frame are).0 c.if-not-is_quota_of.false) c.has.result c.has.ensures
