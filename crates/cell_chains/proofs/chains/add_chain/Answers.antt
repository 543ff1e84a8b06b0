use Rattle.std.proofs.Common.{refl}
use Rattle.metadata_cells.proofs.OfSortedSets.Items.{item_of}
use Rattle.cell_chains.proofs.Starting.{adds_chain, adds_more, adds_none}
use Rattle.cell_chains.proofs.chains.add_chain.Goals as goal

pub loop-at-init : goal.loop-at-init
loop-at-init c = adds_none c.args.cells.now c.args.start.now c.args.map.now

pub loop-at-preserved : goal.loop-at-preserved
loop-at-preserved c =
    let cells = c.args.cells.now in
    let at = c.at-item.result in
    adds_more cells c.args.start.now c.args.map.now c.loop-at.map c.join.new.self c.loop-at.at-index at c.loop-at.invariant
    (item_of cells cells c.loop-at.at-index at refl c.loop-at-test.true c.at-item.is) c.in_ok-join.ensures.ok

pub returns : goal.returns
returns c =
    adds_chain c.args.cells.now c.args.start.now c.args.map.now c.loop-at.map c.loop-at.at-index c.loop-at-test.false c.loop-at.auto.at-index-end c.loop-at.invariant
