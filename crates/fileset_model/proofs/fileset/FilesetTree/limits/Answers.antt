use Rattle.std.proofs.Common.{List, unwrap_or, ap, sym, ◌∙◌}
use Rattle.std.specs.FinMap.{get}
use Rattle.std.specs.FinMap.Entries.{find}
use Rattle.fileset_values.specs.Orders.{owner_cmp}
use Rattle.fileset_model.specs.Fileset.{Fileset}
use Rattle.fileset_values.specs.declared.command.Owner.{Owner}
use Rattle.fileset_model.specs.declared.fileset.Limits.{Limits}
use Rattle.sorted_sets.proofs.EntryLemmas.{get-from_sorted}
use Rattle.fileset_model.proofs.fileset.FilesetTree.limits.Goals as goal

abbrev none : Limits
none = record { files = 0; blocks = 0 }

pub returns-in-Some : goal.returns-in-Some
returns-in-Some c =
    let who = c.args.who in
    ap (λ o. unwrap_or o none) (c.in-Some.ensures
    ∙ ap (λ (es : List (Owner × Limits)). find owner_cmp who es) c.deref.ensures.value
    ∙ sym (get-from_sorted owner_cmp c.self.inside.limits.items who c.self.invariant.2)
    ∙ ap (λ (tree : Fileset). get tree.limits who) c.self.view_is)

pub returns-in-None : goal.returns-in-None
returns-in-None c =
    let who = c.args.who in
    ap (λ o. unwrap_or o none) (c.in-None.ensures
    ∙ ap (λ (es : List (Owner × Limits)). find owner_cmp who es) c.deref.ensures.value
    ∙ sym (get-from_sorted owner_cmp c.self.inside.limits.items who c.self.invariant.2)
    ∙ ap (λ (tree : Fileset). get tree.limits who) c.self.view_is)
