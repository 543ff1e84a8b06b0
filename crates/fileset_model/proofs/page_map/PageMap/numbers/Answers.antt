use Rattle.std.proofs.Common.{◌≡◌, ℕ, List, map, take, ap, sym, ◌∙◌, arith}
use Rattle.std.proofs.lemmas.Grind.{common_steps}
use Rattle.std.specs.Ordering.{nat_cmp}
use Rattle.std.specs.FinMap.{keys}
use Rattle.fileset_model.specs.Pages.{Pages}
use Rattle.sorted_sets.proofs.EntryLemmas.{entries-from_sorted}
use Rattle.fileset_model.proofs.page_map.PageMap.numbers.Goals as goal

pub returns : goal.returns
returns c =
    let items = c.deref-q-items.result.now in
    let whole : take c.loop-q.q-index items ≡ items = grind (arith, common_steps) in
    c.loop-q.invariant
    ∙ ap (map (λ (e : ℕ × List ℕ). e.0)) (whole ∙ c.deref-q-items.ensures.value ∙ sym (entries-from_sorted nat_cmp c.self.inside.pages.items c.self.invariant))
    ∙ ap (λ (pages : Pages). keys pages) c.self.view_is
