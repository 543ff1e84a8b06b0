use Rattle.std.proofs.Common.{◌≡◌, ◌∙◌, Option, Some, None, sym, ap, subst, option_copied}
use Rattle.std.specs.FinMap as map
use Rattle.name_space.proofs.BelowMissing.{no_node_hides, reached_node}
use Rattle.name_space.proofs.hidden.hide_links.Goals as goal

pub returns-in-Some : goal.returns-in-Some
returns-in-Some c = λ files nodes led are among hides.
    let way = reached_node files nodes led are c.args.below.now c.args.one.now among c.args.count c.args.tree.now hides c.in-Some.field-0.now
    (ap (map.get c.args.tree.now.nodes) (sym c.number_of.ensures.value) ∙ sym c.node.ensures ∙ ap option_copied c.in-Some.is) in
    c.hide_more.ensures files nodes led way.0 are among way.1 hides

pub returns-in-None : goal.returns-in-None
returns-in-None c = λ files nodes led are among hides.
    no_node_hides files nodes led are c.args.below.now c.args.one.now among c.args.count c.args.tree.now hides
    (ap (map.get c.args.tree.now.nodes) (sym c.number_of.ensures.value) ∙ sym c.node.ensures ∙ ap option_copied c.in-None.is)
