use Rattle.std.proofs.Common.{◌∙◌, ◌||◌, ◌++◌, ◌∷◌, [], length, subst, sym, ap, arith}
use Rattle.std.specs.List.{IsDistinct}
use Rattle.free_cells.specs.VolumeTable.{AreOn, VolumeTable, is_among, is_free_there, same_cell}
use Rattle.free_cells.proofs.Sound.{fresh_apart, not_fresh, page_sound, room_for_all}
use Rattle.free_cells.proofs.volume.VolumeCells.add_page.Goals as goal

pub push_free-requires-clause-apart : goal.push_free-requires-clause-apart
push_free-requires-clause-apart c =
    let i = c.self.inside in
    subst (IsDistinct same_cell) (sym c.reserve-3.ensures.items)
    (fresh_apart i.table.items i.kept_pages i.kept.items i.live i.fresh.items _ _ c.args.number c.self.invariant (λ f on. ap (λ (v : VolumeTable). is_among v.free f) c.self.view_is ∙ c.requires.fresh f on))

pub push_free-requires-clause-fresh : goal.push_free-requires-clause-fresh
push_free-requires-clause-fresh c =
    let i = c.self.inside in
    λ f on. ap (λ fs. is_among fs f) c.reserve-3.ensures.items
    ∙ not_fresh i.table.items i.kept_pages i.kept.items i.live i.fresh.items _ _ c.args.number c.self.invariant (λ f on. ap (λ (v : VolumeTable). is_among v.free f) c.self.view_is ∙ c.requires.fresh f on) f on

pub push_free-requires-clause-room : goal.push_free-requires-clause-room
push_free-requires-clause-room c =
    let i = c.self.inside in
    let all = room_for_all i.table.items i.kept_pages i.kept.items i.live _ i.fresh.items _ c.self.invariant (subst AreOn (sym c.self.view_is) c.requires.others) in
    let more = rw c.from.ensures at c.saturating_sub-2.ensures in
    omega (arith, all, c.len.ensures, c.len-3.ensures, more, c.in_ok-reserve-3.ensures.ok, ap length c.reserve-3.ensures.items, c.reserve-3.ensures.len)

pub invariant_of-self-2 : goal.invariant_of-self-2
invariant_of-self-2 c =
    let i = c.self.inside in
    let push = c.push_free.ensures in
    let fresh = c.reserve-3.ensures.items in
    let more = rw c.from.ensures at c.saturating_sub.ensures in
    let more_fresh = rw c.from.ensures at c.saturating_sub-2.ensures in
    page_sound i.table.items i.kept_pages i.kept.items i.live i.fresh.items _ _ c.args.number c.self.invariant (λ f on. ap (λ (v : VolumeTable). is_among v.free f) c.self.view_is ∙ c.requires.fresh f on)
    c.args.page.now c.push_free.new.free.items (λ f. push.joined f ∙ ap (λ fs. is_among fs f || is_free_there c.args.number c.args.page.now f) fresh)
    c.push_reserved.new.self.items c.reserve-2.new.self.items _ _ (subst AreOn (sym c.self.view_is) c.requires.others)
    (c.push_reserved.ensures.items ∙ ap (λ ps. ps ++ c.args.number ∷ []) c.reserve.ensures.items) c.reserve-2.ensures.items push.apart (omega (arith, push.few, ap length fresh))
    (omega (arith, c.len.ensures, c.len-2.ensures, more, c.in_ok-reserve-2.ensures.ok, c.reserve-2.ensures.len))
    (omega (arith, c.len.ensures, c.len-3.ensures, more_fresh, c.in_ok-reserve-3.ensures.ok, c.reserve-3.ensures.len, push.room))
