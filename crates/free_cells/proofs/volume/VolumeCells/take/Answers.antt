use Rattle.std.proofs.Common.{not, ◌&&◌, refl, sym, subst, arith}
use Rattle.std.proofs.lemmas.List.{nil_from_length}
use Rattle.free_cells.specs.VolumeTable.{VolumeIs, VolumeTable, same_cell, is_among}
use Rattle.free_cells.specs.contracts.volume.VolumeCells.{the_view}
use Rattle.free_cells.proofs.Sound.{cell_taken, fresh_less, fresh_popped, kept_less, kept_popped}
use Rattle.free_cells.proofs.volume.VolumeCells.take.Goals as goal

pub invariant_of-self : goal.invariant_of-self
invariant_of-self c =
    let i = c.self.inside in
    fresh_less i.table.items i.kept_pages i.kept.items i.live _ i.fresh.items c.pop.new.self.items _ _ c.in-Some.cell c.self.invariant c.in-Some.ensures.items c.pop.ensures.capacity

pub returns-in-Some-clause-taken : goal.returns-in-Some-clause-taken
returns-in-Some-clause-taken c =
    let i = c.self.inside in
    let after : VolumeTable = the_view (record { table = i.table; kept_pages = i.kept_pages; kept = i.kept; live = i.live; fresh = c.pop.new.self; is_closed = i.is_closed }) in
    let f = c.in-Some.cell in
    subst (λ (v : VolumeTable). VolumeIs v.table v.is_closed (λ g. not (same_cell f g) && is_among v.free g) v.kept after) c.self.view_is
    (cell_taken (the_view i) after f c.self.invariant.apart (fresh_popped i.kept.items i.live i.fresh.items c.pop.new.self.items f c.in-Some.ensures.items) refl refl refl)

pub invariant_of-self-2 : goal.invariant_of-self-2
invariant_of-self-2 c =
    let i = c.self.inside in
    let less = c.in_ok-self-inside.field-0 in
    kept_less i.table.items i.kept_pages i.kept.items i.live _ less i.fresh.items c.pop.new.self.items _ _ c.index.result.now c.self.invariant (omega (arith, c.in_ok-self-inside.ensures))
    (sym c.index.ensures) (nil_from_length i.fresh.items (omega (arith, c.in_default.ensures.cases))) (nil_from_length c.pop.new.self.items (omega (arith, c.in_default.ensures.cases))) c.pop.ensures.capacity

pub returns-clause-taken : goal.returns-clause-taken
returns-clause-taken c =
    let i = c.self.inside in
    let less = c.in_ok-self-inside.field-0 in
    let after : VolumeTable = the_view (record { table = i.table; kept_pages = i.kept_pages; kept = i.kept; live = less; fresh = c.pop.new.self; is_closed = i.is_closed }) in
    let f = c.index.result.now in
    subst (λ (v : VolumeTable). VolumeIs v.table v.is_closed (λ g. not (same_cell f g) && is_among v.free g) v.kept after) c.self.view_is
    (cell_taken (the_view i) after f c.self.invariant.apart
    (kept_popped i.kept.items i.live less i.fresh.items c.pop.new.self.items f (omega (arith, c.in_ok-self-inside.ensures)) c.self.invariant.among (sym c.index.ensures)
    (nil_from_length i.fresh.items (omega (arith, c.in_default.ensures.cases))) (nil_from_length c.pop.new.self.items (omega (arith, c.in_default.ensures.cases)))) refl refl refl)
