use Rattle.std.proofs.Common.{◌≡◌, ℕ, List, true, false, not, ap, sym, ◌∙◌}
use Rattle.std.specs.Ordering.{eq_by_cmp}
use Rattle.std.specs.FinMap.{get}
use Rattle.std.specs.FinMap.Entries.{where_key}
use Rattle.fileset_values.specs.Orders.{Path, path_cmp}
use Rattle.fileset_model.specs.Fileset.{Fileset}
use Rattle.fileset_model.specs.Apply.{without}
use Rattle.fileset_model.specs.declared.node.Node.{Node}
use Rattle.fileset_model.proofs.ChangeLemmas.{gone-from_sorted, kept-from_sorted, named_elsewhere, without-missing}
use Rattle.fileset_model.proofs.TreeLemmas.{tree_of}
use Rattle.fileset_model.proofs.fileset.FilesetTree.remove.Goals as goal

pub returns-in_default : goal.returns-in_default
returns-in_default c = sym (without-missing c.args.self.now c.args.path.now (sym c.in_default.ensures))

pub returns-then-not-stays : goal.returns-then-not-stays
returns-then-not-stays c =
    let path = c.args.path.now in
    let number = c.in-Some.number in
    let old = c.self.inside in
    let kept = where_key path_cmp (λ x. not (eq_by_cmp path_cmp path x)) old.paths.items in
    let leads = ap (λ (tree : Fileset). get tree.paths path) c.self.view_is ∙ sym c.in-Some.ensures in
    let goes : named_elsewhere path number old.paths.items ≡ false = ap (named_elsewhere path number) (sym c.deref.ensures.value) ∙ sym c.is_named_elsewhere-stays.ensures ∙ c.if-not-stays.true in
    ap (λ (es : List (Path × ℕ)). tree_of es c.take_away-then-not-stays.new.entries.items old.limits.items) c.take_away.ensures.items
    ∙ ap (λ (es : List (ℕ × Node)). tree_of kept es old.limits.items) c.take_away-then-not-stays.ensures.items
    ∙ gone-from_sorted old.paths.items old.nodes.items old.limits.items path number c.self.invariant.0 leads c.self.invariant.1 goes
    ∙ ap (without path) c.self.view_is

pub returns-else-not-stays : goal.returns-else-not-stays
returns-else-not-stays c =
    let path = c.args.path.now in
    let number = c.in-Some.number in
    let old = c.self.inside in
    let leads = ap (λ (tree : Fileset). get tree.paths path) c.self.view_is ∙ sym c.in-Some.ensures in
    let stays : named_elsewhere path number old.paths.items ≡ true = ap (named_elsewhere path number) (sym c.deref.ensures.value) ∙ sym c.is_named_elsewhere-stays.ensures ∙ c.if-not-stays.false in
    ap (λ (es : List (Path × ℕ)). tree_of es old.nodes.items old.limits.items) c.take_away.ensures.items
    ∙ kept-from_sorted old.paths.items old.nodes.items old.limits.items path number c.self.invariant.0 leads stays
    ∙ ap (without path) c.self.view_is
