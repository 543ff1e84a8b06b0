use Rattle.std.proofs.Common.{◌≡◌, ℕ, List, None, ap, subst, sym, ◌∙◌}
use Rattle.std.specs.Ordering.{nat_cmp}
use Rattle.std.specs.Cmp.{nat_cmp_total}
use Rattle.std.specs.FinMap.{get}
use Rattle.std.specs.FinMap.Entries.{find}
use Rattle.sorted_sets.specs.Entries.{IsPlaceOf}
use Rattle.fileset_model.specs.Fileset.{Fileset}
use Rattle.fileset_model.specs.Apply.{with_change, written_node}
use Rattle.fileset_model.specs.declared.node.Node.{Node}
use Rattle.sorted_sets.proofs.EntryLemmas.{get-from_sorted, sorted_at_place}
use Rattle.fileset_model.proofs.TreeLemmas.{change_at_place, with_change-missing}
use Rattle.fileset_model.proofs.fileset.FilesetTree.write.Goals as goal

pub returns-in_default-place_of-clause-ok : goal.returns-in_default-place_of-clause-ok
returns-in_default-place_of-clause-ok c =
    let none : get c.args.self.now.nodes c.in-Some.number ≡ None =
    ap (λ (tree : Fileset). get tree.nodes c.in-Some.number) (sym c.self.view_is)
    ∙ get-from_sorted nat_cmp c.self.inside.nodes.items c.in-Some.number c.self.invariant.1
    ∙ ap (λ (es : List (ℕ × Node)). find nat_cmp c.in-Some.number es) (sym c.deref.ensures.value)
    ∙ c.in_default-place_of.ensures.gap.absent in
    sym (with_change-missing c.args.self.now c.args.path.now c.in-Some.number (written_node c.args.offset c.args.bytes.now) (sym c.in-Some.ensures) none)

pub invariant_of-self-2 : goal.invariant_of-self-2
invariant_of-self-2 c =
    let place = subst (λ (es : List (ℕ × Node)). IsPlaceOf nat_cmp es c.in-Some.number c.in-Ok.place) c.deref.ensures.value c.in-Ok.ensures.place in
    (c.self.invariant.0, sorted_at_place c.self.inside.nodes.items c.in-Some.number c.in-Ok.place c.index_mut.result.now place c.index_mut.ensures.value nat_cmp_total c.self.invariant.1 c.write.new.self, c.self.invariant.2)

pub returns-clause-ok : goal.returns-clause-ok
returns-clause-ok c =
    let place = subst (λ (es : List (ℕ × Node)). IsPlaceOf nat_cmp es c.in-Some.number c.in-Ok.place) c.deref.ensures.value c.in-Ok.ensures.place in
    let change = written_node c.args.offset c.args.bytes.now in
    let path = c.args.path.now in
    let leads = ap (λ (tree : Fileset). get tree.paths path) c.self.view_is ∙ sym c.in-Some.ensures in
    change_at_place c.self.inside.paths.items c.self.inside.nodes.items c.self.inside.limits.items path c.in-Some.number c.in-Ok.place c.index_mut.result.now c.write.new.self change
    c.self.invariant.1 place c.index_mut.ensures.value leads c.in_ok-write.ensures.ok
    ∙ ap (with_change path change) c.self.view_is
