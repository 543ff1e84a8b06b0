use Rattle.std.proofs.Common.{◌∙◌, MatchBool, not, ap, subst, sym, true≢false}
use Rattle.release_changes.specs.Emptying.{IsUsedOrBare}
use Rattle.release_changes.proofs.LetGoEnds.{last_none, none_of}
use Rattle.release_changes.proofs.ToEmpty.{may_be_freed}
use Rattle.release_changes.proofs.emptying.is_used_or_bare.Goals as goal
use Rattle.release_changes.proofs.emptying.is_used_or_bare.Goals.{then-is_none, else-is_none}

pub returns-then-is_none-2 : goal.returns-then-is_none-2
returns-then-is_none-2 c =
    let memory = c.args.memory.now in
    subst (λ b. MatchBool b (IsUsedOrBare memory c.args.number) (¬ IsUsedOrBare memory c.args.number)) (sym c.if-is_none-2.true)
    (elim c.if-is_none.branch [
      | then-is_none w ↦ may_be_freed memory c.args.number c.slot.result.now c.in-Removed.first_tag c.in-Removed.quota c.slot.ensures.value c.in-Removed.is
          (c.is_none.ensures ∙ ap not w.if-is_none.true)
          (last_none memory.list.list.tag_pages (sym w.last_tag_page.ensures ∙ none_of w.last_tag_page.result (w.is_none-then-is_none.ensures ∙ ap not (sym w.value-is ∙ c.if-is_none-2.true))))
      | else-is_none w ↦ absurd (true≢false (sym c.if-is_none-2.true ∙ w.value-is ∙ w.if-is_none.false))
    ])
