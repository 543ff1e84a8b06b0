use Rattle.std.proofs.Common.{◌≡◌, ℕ, ◌+◌, ◌*◌, ◌≤◌, List, replicate, Option, inl, inr, sym, ◌∙◌, ap, subst, arith}
use Rattle.std.proofs.lemmas.Bool.{both_ways, cases_eq}
use Rattle.std.proofs.lemmas.List.{get_or-replicate, length-replicate}
use Rattle.volume_disk.specs.Disk.{Disk, Moment, MayLeave, Tells}
use Rattle.volume_disk.specs.Image.{Image, IsIn, NoPlace}
use Rattle.volume_disk.specs.Run.{LeavesOnly, MayLeaveTorn, OnlyReads, OnlyWrites, Settles}
use Rattle.volume_disk.proofs.Laws.{then_on, only_reads-leaves, touches-then, touches-wider, torn_before, untorn}
use Rattle.disk_label.specs.Anchor.{IsAnchor}
use Rattle.disk_label.specs.Slot.{HasAnchor, IsBody, IsGate, IsGateSynced, IsReady, ReadiesSlot, StandsIn, StaysSynced}
use Rattle.disk_label.proofs.Written.{Shut, gate_seen, ready_open, stays, writing, zeros_ready}
use Rattle.disk_label.specs.declared.anchor.Anchor.{Anchor}
use Rattle.disk_label.proofs.store.ready_slot.Goals as goal

abbrev zeros : List ℕ
zeros = replicate 3584 0

-- The gate was read, as it is at the slot.
module _ (vol slot : ℕ) (low : 1 ≤ vol) (high : slot ≤ 1) (old : Option Anchor) (d0 d1 : Disk) (told : Tells d0) (has : HasAnchor d0 old) (synced : IsGateSynced d0 vol slot) (reads : OnlyReads d0 d1) where
  abbrev gate : ℕ
  gate = 8192 + 4096 * slot

  abbrev Old : Image → Type 0
  Old = λ image. IsAnchor d0.sizes image old

  before : (image : Image) → MayLeave d1.now image → MayLeave d0.now image
  before image left = subst (λ (m : Moment). MayLeave m image) (reads.now told) left

  seen : (image : Image) → MayLeave d1.now image → image vol gate ≡ d0.now.contents vol gate
  seen image left = gate_seen vol gate d0.now image synced (before image left)

  -- where it is open, nothing is to be done
  open_ready : d0.now.contents vol gate ≡ 165 → (StandsIn old vol slot → ⊥) → IsReady d1 old vol slot
  open_ready is_open other = λ image torn.
      subst (λ (l : List ℕ). IsAnchor l image old) (sym reads.touches.sizes)
      (ready_open vol slot low high torn.0 image torn.2 d0.sizes old other (seen torn.0 torn.1 ∙ is_open) (has torn.0 (before torn.0 torn.1)))

  -- if it is closed, zeros are written after it
  module _ (closed : d0.now.contents vol gate ≡ 165 → ⊥) (d2 : Disk) (behind_gate : OnlyWrites d1 d2 (IsIn vol (gate + 512) 3584)) where
    shut : Shut d0.sizes old vol slot d1.now
    shut = record { has_old = λ image left. has image (before image left); is_shut = λ image left is_open. closed (sym (seen image left) ∙ is_open) }

    told-1 : Tells d1
    told-1 = reads.touches.told ∙ told

    all_old : LeavesOnly d0 d2 Old
    all_old = then_on d0 d1 d2 Old (only_reads-leaves d0 d1 Old told reads has) (writing vol slot low high d0.sizes old d1 d2 shut told-1 behind_gate)

    shut_ready : Settles vol (gate + 512) zeros d1.now d2.now → IsReady d2 old vol slot
    shut_ready settles =
        zeros_ready vol slot low high d0.sizes old d1 d2 shut told-1 behind_gate zeros (length-replicate {A = ℕ} 3584 0) (λ k lt. get_or-replicate 3584 k 0 0 (omega arith))
        settles (behind_gate.touches.sizes ∙ reads.touches.sizes)

    -- and another slot is as it was, whatever its gate
    module _ (other_vol other_slot : ℕ) (other : ¬ ((other_vol ≡ vol) × (other_slot ≡ slot))) (ready : IsReady d0 old other_vol other_slot) where
      other_ready : IsReady d2 old other_vol other_slot
      other_ready = λ image torn.
          let now = torn_before d1 d2 (IsIn vol (gate + 512) 3584) other_vol (8192 + 4096 * other_slot) 512 image told-1 behind_gate.touches torn in
          let was = now.1 in
          let shut_then : now.0 vol gate ≡ was.0 vol gate = was.2 vol gate (λ is_in. let a = is_in.1 in let b = is_in.2 in other (sym is_in.0, omega arith)) in
          let after : image vol gate ≡ now.0 vol gate = now.2 vol gate (λ is_in. let a = is_in.1 in omega arith) in
          subst (λ (l : List ℕ). IsAnchor l image old) (sym (behind_gate.touches.sizes ∙ reads.touches.sizes))
          (stays vol slot low high (gate + 512) 3584 (omega arith) (omega arith) now.0 image now.2 d0.sizes old
          (λ is_open. shut.is_shut was.0 was.1 (sym shut_then ∙ is_open))
          (λ is_open. shut.is_shut was.0 was.1 (sym shut_then ∙ sym after ∙ is_open))
          (ready now.0 (was.0, before was.0 was.1, was.2, was.3)))

-- where some slot is ready, each image has the anchor
IsReady-has : (old : Option Anchor) (vol slot : ℕ) (disk : Disk) → IsReady disk old vol slot → HasAnchor disk old
IsReady-has old vol slot disk ready image left = ready image (untorn (IsGate vol slot) disk.now image left)

-- a slot that is ready is so after reads
ready-read : (old : Option Anchor) (vol slot : ℕ) (d0 d1 : Disk) → Tells d0 → OnlyReads d0 d1 → IsReady d0 old vol slot → IsReady d1 old vol slot
ready-read old vol slot d0 d1 told reads ready = λ image torn.
    subst (λ (l : List ℕ). IsAnchor l image old) (sym reads.touches.sizes) (ready image (subst (λ (m : Moment). MayLeaveTorn (IsIn vol (8192 + 4096 * slot) 512) m image) (reads.now told) torn))

-- reads alone make nothing worse
read_alone : (vol slot : ℕ) (d0 d1 : Disk) → OnlyReads d0 d1 → ReadiesSlot d0 d1 vol slot
read_alone vol slot d0 d1 reads = record {
  touches = touches-wider d0 d1 NoPlace (IsBody vol slot) (λ v k none. absurd none) reads.touches;
  any_moment = λ told old has synced. only_reads-leaves d0 d1 (λ image. IsAnchor d0.sizes image old) told reads has;
  others = λ told old v s synced other ready. ready-read old v s d0 d1 told reads ready;
}

-- nor does the write after a closed gate
body_written : (vol slot : ℕ) → 1 ≤ vol → slot ≤ 1 → (d0 d1 d2 : Disk) → OnlyReads d0 d1 → (Tells d0 → d0.now.contents vol (8192 + 4096 * slot) ≡ 165 → ⊥) → OnlyWrites d1 d2 (IsBody vol slot) → ReadiesSlot d0 d2 vol slot
body_written vol slot low high d0 d1 d2 reads closed writes = record {
  touches = touches-then d0 d1 d2 (IsBody vol slot) (touches-wider d0 d1 NoPlace (IsBody vol slot) (λ v k none. absurd none) reads.touches) writes.touches;
  any_moment = λ told old has synced. all_old vol slot low high old d0 d1 told has synced reads (closed told) d2 writes;
  others = λ told old v s synced other ready. other_ready vol slot low high old d0 d1 told (IsReady-has old v s d0 ready) synced reads (closed told) d2 writes v s other ready;
}

-- reads leave synced what was
read_synced : (d0 d1 : Disk) → OnlyReads d0 d1 → StaysSynced d0 d1
read_synced d0 d1 reads told v k was = ap (λ (m : Moment). m.unsynced v k) (reads.now told) ∙ was

-- and so does a write whose volume is synced
settled_synced : (vol at : ℕ) (bytes : List ℕ) (d0 d1 d2 : Disk) → OnlyReads d0 d1 → (Tells d1 → Settles vol at bytes d1.now d2.now) → StaysSynced d0 d2
settled_synced vol at bytes d0 d1 d2 reads settles told v k was =
    let done = settles (reads.touches.told ∙ told) in
    elim (cases_eq v vol) [
      | inl is ↦ ap (λ (w : ℕ). d2.now.unsynced w k) is ∙ done.here k
      | inr other ↦ done.elsewhere v k other ∙ read_synced d0 d1 reads told v k was
    ]

pub returns-in-Err-clause-readies : goal.returns-in-Err-clause-readies
returns-in-Err-clause-readies g c = read_alone c.args.vol c.args.slot (g.R.Rack.disk c.args.rack.now) (g.R.Rack.disk c.is_slot_open.new.rack) c.is_slot_open.ensures.reads

pub returns-in-Ok-true-clause-readies : goal.returns-in-Ok-true-clause-readies
returns-in-Ok-true-clause-readies g c = read_alone c.args.vol c.args.slot (g.R.Rack.disk c.args.rack.now) (g.R.Rack.disk c.is_slot_open.new.rack) c.is_slot_open.ensures.reads

pub returns-in-Ok-true-clause-ready : goal.returns-in-Ok-true-clause-ready
returns-in-Ok-true-clause-ready g c = λ told old has synced other.
    open_ready c.args.vol c.args.slot c.requires.there.0 c.requires.slot old (g.R.Rack.disk c.args.rack.now) (g.R.Rack.disk c.is_slot_open.new.rack) told has synced c.is_slot_open.ensures.reads
    ((c.in-Ok-true.ensures.gate told).0 c.in-Ok-true.field-0-test) other

pub returns-in-Ok-clause-readies : goal.returns-in-Ok-clause-readies
returns-in-Ok-clause-readies g c =
    body_written c.args.vol c.args.slot c.requires.there.0 c.requires.slot (g.R.Rack.disk c.args.rack.now) (g.R.Rack.disk c.is_slot_open.new.rack) (g.R.Rack.disk c.write_body.new.rack) c.is_slot_open.ensures.reads
    (λ told is_open. both_ways c.in-Ok-false.field-0 c.in-Ok-false.field-0-test ((c.in-Ok-false.ensures.gate told).1 is_open)) c.write_body.ensures.writes

pub returns-in-Err-write_body-clause-readies : goal.returns-in-Err-write_body-clause-readies
returns-in-Err-write_body-clause-readies g c =
    body_written c.args.vol c.args.slot c.requires.there.0 c.requires.slot (g.R.Rack.disk c.args.rack.now) (g.R.Rack.disk c.is_slot_open.new.rack) (g.R.Rack.disk c.write_body.new.rack) c.is_slot_open.ensures.reads
    (λ told is_open. both_ways c.in-Ok-false.field-0 c.in-Ok-false.field-0-test ((c.in-Ok-false.ensures.gate told).1 is_open)) c.write_body.ensures.writes

pub returns-in-Ok-clause-ready : goal.returns-in-Ok-clause-ready
returns-in-Ok-clause-ready g c = λ told old has synced other.
    shut_ready c.args.vol c.args.slot c.requires.there.0 c.requires.slot old (g.R.Rack.disk c.args.rack.now) (g.R.Rack.disk c.is_slot_open.new.rack) told has synced c.is_slot_open.ensures.reads
    (λ is_open. both_ways c.in-Ok-false.field-0 c.in-Ok-false.field-0-test ((c.in-Ok-false.ensures.gate told).1 is_open))
    (g.R.Rack.disk c.write_body.new.rack) c.write_body.ensures.writes (c.in-Ok.ensures.settled (c.is_slot_open.ensures.reads.touches.told ∙ told))

pub returns-in-Ok-true-clause-synced : goal.returns-in-Ok-true-clause-synced
returns-in-Ok-true-clause-synced g c = read_synced (g.R.Rack.disk c.args.rack.now) (g.R.Rack.disk c.is_slot_open.new.rack) c.is_slot_open.ensures.reads

pub returns-in-Ok-clause-synced : goal.returns-in-Ok-clause-synced
returns-in-Ok-clause-synced g c =
    settled_synced c.args.vol (8192 + 4096 * c.args.slot + 512) zeros (g.R.Rack.disk c.args.rack.now) (g.R.Rack.disk c.is_slot_open.new.rack) (g.R.Rack.disk c.write_body.new.rack) c.is_slot_open.ensures.reads c.in-Ok.ensures.settled
