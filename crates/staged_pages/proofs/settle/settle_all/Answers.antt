use Rattle.std.proofs.Common.{rules, ◌≡◌, ◌∙◌, ◌++◌, ◌∷◌, [], subst}
use Rattle.staged_pages.specs.Slots.{page_now}
use Rattle.staged_pages.specs.Staged.{SettlesSlot}
use Rattle.staged_pages.proofs.Settled.{none_changed, pages_settled, slots_settled}
use Rattle.staged_pages.proofs.settle.settle_all.Goals as goal

pub loop-home-preserved : goal.loop-home-preserved
loop-home-preserved c =
    let settles = subst (λ k. SettlesSlot page_now k c.loop-home.entries.items c.settle_at.new.entries.items) c.home_number.ensures.value c.settle_at.ensures.settles in
    let last : c.loop-home.changed.items ≡ c.pop.new.self.items ++ c.in-Some.home ∷ [] = search rules in
    record {
      slots = slots_settled page_now _ _ _ _ c.in-Some.home c.loop-home.invariant.slots last settles c.settle_at.ensures.rising c.settle_at.ensures.whole;
      pages = λ q. pages_settled page_now _ _ _ settles q ∙ c.loop-home.invariant.pages q;
      len = c.settle_at.ensures.len ∙ c.loop-home.invariant.len;
      capacity = c.settle_at.ensures.capacity ∙ c.loop-home.invariant.capacity;
      list_room = search rules;
    }

pub returns-clause-settles : goal.returns-clause-settles
returns-clause-settles c =
    let none : c.loop-home.changed.items ≡ [] = search rules in
    record {
      pages = c.loop-home.invariant.pages;
      same = none_changed _ _ c.loop-home.invariant.slots none;
    }
