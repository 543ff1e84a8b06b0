use Rattle.std.proofs.Common.{◌≡◌, ℕ, ◌+◌, ◌-◌, ◌*◌, Option, Some, sym, ◌∙◌, ap, subst, arith}
use Rattle.disk_label.specs.volume_disk.Disk.{Disk, Moment, Tells}
use Rattle.disk_label.specs.volume_disk.Image.{AreBytes}
use Rattle.disk_label.specs.volume_disk.Run.{OnlyReads}
use Rattle.disk_label.specs.Anchor.{IsAnchor}
use Rattle.disk_label.specs.Laws.{AreAnchorsSynced}
use Rattle.disk_label.specs.Slot.{HasAnchor, HasReadied, IsReady, IsReadyFor}
use Rattle.disk_label.proofs.Elsewhere.{shows_anchor}
use Rattle.disk_label.proofs.OtherSlots.{here}
use Rattle.disk_label.proofs.Slots.{IsAnchorBelow-same}
use Rattle.disk_label.specs.declared.anchor.Anchor.{Anchor}
use Rattle.disk_tables.proofs.renewals.renew_twice.Goals as goal

-- the anchor was read, and the slot of the next one was made ready
module _ (d0 d1 d2 : Disk) (told : Tells d0) (synced : AreAnchorsSynced d0) (reads : OnlyReads d0 d1) (old next : Anchor) (found : IsAnchor d0.sizes d0.now.contents (Some old))
    (vol : ℕ) (is_vol : vol ≡ old.log_vol) (same_vol : next.log_vol ≡ old.log_vol) (other_slot : next.slot ≡ 1 - old.slot) (readied : HasReadied d1 d2 vol next.slot) where
  still_synced : AreAnchorsSynced d1
  still_synced v k there = ap (λ (m : Moment). m.unsynced v k) (reads.now told) ∙ synced v k there

  each_has : HasAnchor d1 (Some old)
  each_has = shows_anchor d1 (Some old) still_synced (IsAnchorBelow-same 16 d0.sizes d1.sizes d0.now d1.now (Some old) reads.touches.sizes (reads.now told) found)

  pub ready : IsReadyFor d2 (Some old) next
  ready =
      subst (λ (v : ℕ). IsReady d2 (Some old) v next.slot) (is_vol ∙ sym same_vol)
      (readied (reads.touches.told ∙ told) (Some old) each_has (still_synced vol (8192 + 4096 * next.slot) (omega arith, omega arith)) (λ stands. let same = stands.1 in omega arith))

has_contents : (disk : Disk) (old : Option Anchor) (new : Anchor) → AreBytes disk.now.contents → IsReadyFor disk old new → IsAnchor disk.sizes disk.now.contents old
has_contents disk old new bytes ready = ready disk.now.contents (here disk bytes)

-- what is told at the end was told at the start
told_before : (old new : Disk) → new.told ≡ old.told → Tells new → Tells old
told_before old new same told = sym same ∙ told

pub write_anchor-requires-clause-next : goal.write_anchor-requires-clause-next
write_anchor-requires-clause-next g c = λ told-2.
    let d0 = g.R.Rack.disk c.args.rack.now in
    let d1 = g.R.Rack.disk c.read_anchor.new.rack in
    let d2 = g.R.Rack.disk c.ready_slot.new.rack in
    let reads = c.in-Ok.ensures.reads in
    let told = told_before d0 d1 reads.touches.told (told_before d1 d2 c.ready_slot.ensures.readies.touches.told told-2) in
    let made = c.next_of-next.ensures in
    let is_ready = ready d0 d1 d2 told (c.requires told) reads c.in-Ok.old c.next_of-next.result (c.in-Ok.ensures.anchor told) c.in-Some.vol c.in-Some.ensures.value made.volume made.slot c.in-Ok-ready_slot.ensures.ready in
    (Some c.in-Ok.old, has_contents d2 (Some c.in-Ok.old) c.next_of-next.result (g.met.R.Rack.holds_bytes c.ready_slot.new.rack told-2) is_ready, made.next)

pub write_anchor-requires-2-clause-next : goal.write_anchor-requires-2-clause-next
write_anchor-requires-2-clause-next g c = λ told-3.
    let d0 = g.R.Rack.disk c.args.rack.now in
    let d1 = g.R.Rack.disk c.read_anchor.new.rack in
    let d2 = g.R.Rack.disk c.ready_slot.new.rack in
    let d3 = g.R.Rack.disk c.write_anchor.new.rack in
    let reads = c.in-Ok.ensures.reads in
    let told-2 = told_before d2 d3 c.write_anchor.ensures.writes.writes.touches.told told-3 in
    let told = told_before d0 d1 reads.touches.told (told_before d1 d2 c.ready_slot.ensures.readies.touches.told told-2) in
    let made = c.next_of-next.ensures in
    let more = c.next_of-last.ensures in
    let is_ready = ready d0 d1 d2 told (c.requires told) reads c.in-Ok.old c.next_of-next.result (c.in-Ok.ensures.anchor told) c.in-Some.vol c.in-Some.ensures.value made.volume made.slot c.in-Ok-ready_slot.ensures.ready in
    let is_ready-3 = c.in-Ok-write_anchor.ensures.done.next told-2 c.in-Ok.old c.next_of-last.result is_ready (sym made.volume) more.next more.volume in
    (Some c.next_of-next.result, has_contents d3 (Some c.next_of-next.result) c.next_of-last.result (g.met.R.Rack.holds_bytes c.write_anchor.new.rack told-3) is_ready-3, more.next)

pub returns-in-Ok-write_anchor-2 : goal.returns-in-Ok-write_anchor-2
returns-in-Ok-write_anchor-2 g c = λ told.
    let d0 = g.R.Rack.disk c.args.rack.now in
    let d1 = g.R.Rack.disk c.read_anchor.new.rack in
    let d2 = g.R.Rack.disk c.ready_slot.new.rack in
    let reads = c.in-Ok.ensures.reads in
    let told-2 = c.ready_slot.ensures.readies.touches.told ∙ reads.touches.told ∙ told in
    let told-3 = c.write_anchor.ensures.writes.writes.touches.told ∙ told-2 in
    let made = c.next_of-next.ensures in
    let more = c.next_of-last.ensures in
    let is_ready = ready d0 d1 d2 told (c.requires told) reads c.in-Ok.old c.next_of-next.result (c.in-Ok.ensures.anchor told) c.in-Some.vol c.in-Some.ensures.value made.volume made.slot c.in-Ok-ready_slot.ensures.ready in
    let is_ready-3 = c.in-Ok-write_anchor.ensures.done.next told-2 c.in-Ok.old c.next_of-last.result is_ready (sym made.volume) more.next more.volume in
    c.in-Ok-write_anchor-2.ensures.done.has_new told-3 (Some c.next_of-next.result) is_ready-3
