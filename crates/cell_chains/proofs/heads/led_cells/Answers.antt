use Rattle.metadata_cells.specs.domain_base.declared.place.CellAt.{CellAt}
use Rattle.cell_chains.specs.Members.{IsIn}
use Rattle.cell_chains.specs.Heads.{LeadsTo}
use Rattle.cell_chains.proofs.Each.{all_found, found_more}
use Rattle.cell_chains.proofs.heads.led_cells.Goals as goal

pub loop-link-preserved : goal.loop-link-preserved
loop-link-preserved c =
    found_more {X = CellAt} c.args.links.now c.as_slice-link-items.result.now c.as_slice-link-items.ensures.value (λ onto at link. LeadsTo link onto) (IsIn c.loop-link.led) c.loop-link.link-index c.loop-link.invariant
    (IsIn c.insert_led.new.led) c.loop-link-item.result c.loop-link-test.true c.loop-link-item.is c.in_ok-insert_led.ensures

pub returns : goal.returns
returns c =
    all_found {X = CellAt} c.args.links.now c.as_slice-link-items.result.now c.as_slice-link-items.ensures.value (λ onto at link. LeadsTo link onto) (IsIn c.loop-link.led) c.loop-link.link-index c.loop-link.invariant
    c.as_slice-link-items.ensures.rising c.as_slice-link-items.ensures.numbered c.loop-link-test.false c.loop-link.auto.link-index-end
