use Rattle.std.proofs.Common.{◌+◌, List, ℕ, arith, sym, subst}
use Rattle.cell_chains.specs.declared.links.CellLinks.{CellLinks}
use Rattle.cell_faults.specs.Links.{AreLinksOn, SaysLink}
use Rattle.cell_faults.proofs.OnPages.{link_in_use, link_of_none}
use Rattle.cell_faults.proofs.chain_reading.insert_links.Goals as goal
use Rattle.cell_faults.proofs.chain_reading.insert_links.Goals.{in-Some+in_ok-insert, in_default}

pub loop-cell-preserved : goal.loop-cell-preserved
loop-cell-preserved c =
    let old = c.args.links.now in
    let page = c.args.page.now in
    let home = c.args.home.now in
    let number = c.loop-cell.cell in
    elim c.match-link_of.branch [
      | in-Some+in_ok-insert w ↦ subst (λ (s : CellLinks). AreLinksOn old s page home (number + 1)) (sym w.links-is)
          (link_in_use old c.loop-cell.links w.insert.new.self page home number c.requires c.loop-cell-test.true c.loop-cell.invariant w.in-Some.link
          (subst (λ (l : List ℕ). SaysLink l w.in-Some.link) c.bytes_of.ensures.value w.in-Some.ensures.some) w.in_ok-insert.ensures.ok)
      | in_default w ↦ subst (λ (s : CellLinks). AreLinksOn old s page home (number + 1)) (sym w.links-is)
          (link_of_none old c.loop-cell.links c.loop-cell.links page home number c.requires c.loop-cell-test.true c.loop-cell.invariant
          (λ link says. w.in_default.ensures.none link (subst (λ (l : List ℕ). SaysLink l link) (sym c.bytes_of.ensures.value) says)))
    ]

pub returns : goal.returns
returns c = subst (AreLinksOn c.args.links.now c.loop-cell.links c.args.page.now c.args.home.now) (omega (arith, c.loop-cell-test.false, c.loop-cell.auto.cell-end)) c.loop-cell.invariant
