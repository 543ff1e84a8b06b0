use Rattle.std.proofs.Common.{◌≡◌, Bool, true, false, List, ap, sym, ◌∙◌, if◌then◌else◌}
use Rattle.std.specs.FinMap.{FinMap, from_sorted, insert, remove}
use Rattle.fileset_values.specs.Orders.{owner_cmp, owner_cmp-total}
use Rattle.fileset_model.specs.Fileset.{Fileset}
use Rattle.fileset_model.specs.Usage.{is_unlimited, with_limits}
use Rattle.fileset_values.specs.declared.command.Owner.{Owner}
use Rattle.fileset_model.specs.declared.fileset.Limits.{Limits}
use Rattle.fileset_model.proofs.OwnerLemmas.{owner_cmp-IsAntisymmetric}
use Rattle.fileset_model.proofs.ChangeLemmas.{remove-from_sorted}
use Rattle.sorted_sets.proofs.EntryLemmas.{insert-from_sorted}
use Rattle.fileset_model.proofs.TreeLemmas.{tree_of}
use Rattle.fileset_model.proofs.fileset.FilesetTree.limit.Goals as goal

-- what the test decides
with_limits-is : (all : FinMap owner_cmp Limits) (who : Owner) (limits : Limits) (unlimited : Bool) → is_unlimited limits ≡ unlimited
    → (if unlimited then remove all who else insert all who limits) ≡ with_limits all who limits
with_limits-is all who limits unlimited is = ap (λ (b : Bool). if b then remove all who else insert all who limits) (sym is)

pub returns-then-is_unlimited-clause-ok : goal.returns-then-is_unlimited-clause-ok
returns-then-is_unlimited-clause-ok c =
    let who = c.args.who in
    let limits = c.args.limits in
    let old = c.self.inside in
    ap (λ (es : List (Owner × Limits)). tree_of old.paths.items old.nodes.items es) c.take_away.ensures.items
    ∙ (λ i. record {
      paths = from_sorted old.paths.items;
      nodes = from_sorted old.nodes.items;
      limits = remove-from_sorted owner_cmp-total owner_cmp-IsAntisymmetric who old.limits.items c.self.invariant.2 i;
    })
    ∙ ap (λ (tree : Fileset). record tree { limits = remove tree.limits who }) c.self.view_is
    ∙ ap (λ (all : FinMap owner_cmp Limits). record c.args.self.now { limits = all }) (with_limits-is c.args.self.now.limits who limits true (sym c.if-is_unlimited.ensures))

pub returns-clause-ok : goal.returns-clause-ok
returns-clause-ok c =
    let who = c.args.who in
    let limits = c.args.limits in
    let old = c.self.inside in
    ap (λ (es : List (Owner × Limits)). tree_of old.paths.items old.nodes.items es) c.in_ok-put.ensures.ok
    ∙ (λ i. record {
      paths = from_sorted old.paths.items;
      nodes = from_sorted old.nodes.items;
      limits = insert-from_sorted owner_cmp-total old.limits.items who limits c.self.invariant.2 i;
    })
    ∙ ap (λ (tree : Fileset). record tree { limits = insert tree.limits who limits }) c.self.view_is
    ∙ ap (λ (all : FinMap owner_cmp Limits). record c.args.self.now { limits = all }) (with_limits-is c.args.self.now.limits who limits false (sym c.if-is_unlimited.ensures))
