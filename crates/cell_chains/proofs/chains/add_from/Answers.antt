use Rattle.std.proofs.Common.{◌∙◌, List, sym, subst}
use mathlib.Core.Bool.{false≢true}
use Rattle.metadata_cells.specs.domain_base.declared.place.CellAt.{CellAt}
use Rattle.cell_chains.specs.Starts.{AddsChain}
use Rattle.cell_chains.proofs.Starting.{adds_nothing, adds_start}
use Rattle.cell_chains.proofs.chains.add_from.Goals as goal

pub returns-in_ok-add_chain : goal.returns-in_ok-add_chain
returns-in_ok-add_chain c =
    let at = c.args.at.now in
    let old = c.args.map.now in
    let new = c.add_chain.new.map in
    adds_start c.args.links.now c.args.led.now at c.args.link.now old new c.in_ok-cells.cells.items (c.is_head.ensures.0 c.if-is_head.true) c.in_ok-cells.ensures
    (subst (λ (l : List CellAt). AddsChain l at old new) c.deref.ensures.value c.in_ok-add_chain.ensures)

pub returns-else-is_head : goal.returns-else-is_head
returns-else-is_head c =
    adds_nothing c.args.links.now c.args.led.now c.args.at.now c.args.link.now c.args.map.now c.args.map.now (λ head. false≢true (sym c.if-is_head.false ∙ c.is_head.ensures.1 head))
