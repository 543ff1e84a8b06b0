use Rattle.std.proofs.Common.{◌≡◌, ◌∙◌, [], ◌∷◌, ◌++◌, sym, ap, subst, arith, length, length-append}
use Rattle.std.specs.List.{IsDistinct}
use Rattle.free_cells.specs.VolumeTable.{same_cell, is_among}
use Rattle.free_cells.proofs.Among.{joined_more, joined_same, not_yet, apart_push}
use Rattle.free_cells.proofs.volume.push_free.Goals as goal
use Rattle.free_cells.proofs.volume.push_free.Goals.{then-is_free_cell, else-is_free_cell}

pub loop-cell-preserved : goal.loop-cell-preserved
loop-cell-preserved c =
    let k = c.loop-cell.cell in
    let page = c.args.page.now in
    let old = is_among c.args.free.now.items in
    let free = c.loop-cell.free.items in
    let joined = c.loop-cell.invariant.joined in
    elim c.if-is_free_cell.branch [
      | then-is_free_cell w ↦
          let e : c.if-is_free_cell.free.items ≡ free ++ (record { page = c.args.number; cell = k }) ∷ [] = cc in
          record {
            apart = subst (IsDistinct same_cell) (sym e) (apart_push free _ c.loop-cell.invariant.apart (not_yet c.args.number k page old free joined c.requires.fresh));
            joined = λ f. ap (λ fs. is_among fs f) e ∙ joined_more c.args.number k page old free joined (sym c.is_free_cell.ensures ∙ w.if-is_free_cell.true) f;
            few = omega (arith, ap length e, length-append free ((record { page = c.args.number; cell = k }) ∷ []), c.loop-cell.invariant.few);
            room = cc;
          }
      | else-is_free_cell w ↦
          let e : c.if-is_free_cell.free.items ≡ free = cc in
          record {
            apart = subst (IsDistinct same_cell) (sym e) c.loop-cell.invariant.apart;
            joined = λ f. ap (λ fs. is_among fs f) e ∙ joined_same c.args.number k page old free joined (sym c.is_free_cell.ensures ∙ w.if-is_free_cell.false) f;
            few = omega (arith, ap length e, c.loop-cell.invariant.few);
            room = cc;
          }
    ]
