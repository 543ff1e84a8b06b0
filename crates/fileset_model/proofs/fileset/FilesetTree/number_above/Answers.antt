use Rattle.std.proofs.Common.{◌≡◌, ℕ, List, ◌<◌, [], ◌∷◌, ◌++◌, take, ap, sym, ◌∙◌, arith}
use Rattle.std.proofs.lemmas.List.{take_more}
use Rattle.std.proofs.lemmas.Grind.{common_steps}
use Rattle.std.specs.Ordering.{nat_cmp}
use Rattle.std.specs.FinMap.{get}
use Rattle.std.specs.FinMap.Entries.{find}
use Rattle.fileset_model.specs.Fileset.{Fileset}
use Rattle.fileset_model.specs.declared.node.Node.{Node}
use Rattle.sorted_sets.proofs.EntryLemmas.{find-above, get-from_sorted}
use Rattle.fileset_model.proofs.fileset.FilesetTree.number_above.Goals as goal

pub loop-used-preserved : goal.loop-used-preserved
loop-used-preserved c =
    let item = c.loop-used-item.result in
    let items = c.deref-used-items.result.now in
    let i = c.loop-used.used-index in
    let next = c.in_ok-number_after.ensures in
    record {
      least = omega arith;
      above = λ k h.
          let before = c.loop-used.invariant.above k (omega arith) in
          let below : item.0 < k = omega arith in
          ap (find nat_cmp k) (take_more items i item (omega arith) ∙ ap (λ e. take i items ++ e ∷ []) (sym c.loop-used-item.is)) ∙ find-above k (take i items) item before below;
    }

pub returns-clause-above : goal.returns-clause-above
returns-clause-above c = λ k h.
    let items = c.deref-used-items.result.now in
    let whole : take c.loop-used.used-index items ≡ items = grind (arith, common_steps) in
    ap (λ (tree : Fileset). get tree.nodes k) (sym c.self.view_is)
    ∙ get-from_sorted nat_cmp c.self.inside.nodes.items k c.self.invariant.1
    ∙ ap (λ (es : List (ℕ × Node)). find nat_cmp k es) (sym c.deref-used-items.ensures.value)
    ∙ ap (find nat_cmp k) (sym whole)
    ∙ c.loop-used.invariant.above k h
