use Rattle.std.proofs.Common.{◌∙◌, inr, sym, subst, ⊎_elim}
use mathlib.Core.Bool.{false≢true}
use Rattle.cell_faults.specs.domain_layout.TagRules.{HasWrongNumber, HasWrongQuota}
use Rattle.tag_faults.proofs.Counted.{one_item}
use Rattle.tag_faults.proofs.slots.is_wrong_in.Goals as goal

pub returns-else-has_wrong_number : goal.returns-else-has_wrong_number
returns-else-has_wrong_number g c frame are =
    let pages = g.M.MetaPages.pages c.args.pages.now in
    let table = c.args.table.now in
    let item = c.slot-item.result.now in
    let quota = c.has_wrong_quota.ensures frame are in (
      λ yes. (item, c.slot-item.ensures.value, inr (quota.0 yes)),
      λ (other, there, wrong).
          let same = one_item table.slots c.args.number other item there c.slot-item.ensures.value in
          ⊎_elim (λ number. absurd (false≢true (sym c.if-has_wrong_number.false ∙ c.has_wrong_number.ensures.1 (subst (HasWrongNumber table) same number))))
          (λ named. quota.1 (subst (HasWrongQuota pages frame c.args.number) same named)) wrong,
    )
