use Rattle.std.proofs.Common.{◌∙◌, ap, subst, sym, arith}
use Rattle.std.proofs.lemmas.List.{with_items_is}
use Rattle.free_cells.specs.Belong.{Belong}
use Rattle.free_cells.specs.Cells.{Cells, all_kept, taken_back}
use Rattle.free_cells.specs.VolumeTable.{with_kept}
use Rattle.free_cells.proofs.Kept.{kept_same, kept_settled, loop_mapped, same_belong}
use Rattle.free_cells.proofs.cells.FreeCells.keep.Goals as goal

pub returns-clause-value : goal.returns-clause-value
returns-clause-value c =
    loop_mapped with_kept c.self.inside.volumes.items c.deref_mut-volume-items.result.now c.loop-volume.volume-items _ c.args.self.now c.loop-volume.volume-index
    (with_items_is c.self.inside.volumes c.loop-volume.volume-items (c.loop-volume.invariant.len ∙ c.deref_mut-volume-items.ensures.len)) c.self.view_is c.deref_mut-volume-items.ensures.value
    c.loop-volume.invariant (omega arith)

pub returns-clause-settled : goal.returns-clause-settled
returns-clause-settled c = ap taken_back (returns-clause-value c) ∙ kept_settled c.args.self.now ∙ sym (returns-clause-value c)

pub returns-clause-belong : goal.returns-clause-belong
returns-clause-belong c = λ pages belong. subst (λ (cells : Cells). Belong cells pages) (sym (returns-clause-value c)) (same_belong c.args.self.now (all_kept c.args.self.now) (kept_same c.args.self.now).tables (kept_same c.args.self.now).cells pages belong)
