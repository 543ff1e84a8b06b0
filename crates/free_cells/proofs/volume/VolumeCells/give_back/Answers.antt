use Rattle.std.proofs.Common.{◌≡◌, false, ◌||◌, refl, subst, sym, arith}
use Rattle.free_cells.specs.VolumeTable.{AreOn, IsOn, VolumeIs, VolumeTable, same_cell, is_among}
use Rattle.free_cells.specs.contracts.volume.VolumeCells.{the_view}
use Rattle.free_cells.proofs.Sound.{cell_given, fresh_more, fresh_pushed, room_for_one}
use Rattle.free_cells.proofs.volume.VolumeCells.give_back.Goals as goal

pub push_reserved-requires : goal.push_reserved-requires
push_reserved-requires c =
    let i = c.self.inside in
    let used = subst (λ (v : VolumeTable). is_among v.free c.args.cell ≡ false) (sym c.self.view_is) c.requires.used in
    let place = subst (λ (v : VolumeTable). IsOn v.table c.args.cell) (sym c.self.view_is) c.requires.place in
    let others = subst AreOn (sym c.self.view_is) c.requires.others in
    omega (arith, room_for_one i.table.items i.kept_pages i.kept.items i.live _ i.fresh.items _ c.args.cell c.self.invariant others place used, c.self.invariant.fresh_enough)

pub invariant_of-self : goal.invariant_of-self
invariant_of-self c =
    let i = c.self.inside in
    let used = subst (λ (v : VolumeTable). is_among v.free c.args.cell ≡ false) (sym c.self.view_is) c.requires.used in
    let place = subst (λ (v : VolumeTable). IsOn v.table c.args.cell) (sym c.self.view_is) c.requires.place in
    let others = subst AreOn (sym c.self.view_is) c.requires.others in
    fresh_more i.table.items i.kept_pages i.kept.items i.live _ i.fresh.items c.push_reserved.new.self.items _ _ c.args.cell c.self.invariant used
    (room_for_one i.table.items i.kept_pages i.kept.items i.live _ i.fresh.items _ c.args.cell c.self.invariant others place used) c.push_reserved.ensures.items c.push_reserved.ensures.capacity

pub returns : goal.returns
returns c =
    let i = c.self.inside in
    let after : VolumeTable = the_view (record { table = i.table; kept_pages = i.kept_pages; kept = i.kept; live = i.live; fresh = c.push_reserved.new.self; is_closed = i.is_closed }) in
    subst (λ (v : VolumeTable). VolumeIs v.table v.is_closed (λ g. same_cell c.args.cell g || is_among v.free g) v.kept after) c.self.view_is
    (cell_given (the_view i) after c.args.cell (fresh_pushed i.kept.items i.live i.fresh.items c.push_reserved.new.self.items c.args.cell c.push_reserved.ensures.items) refl refl refl)
