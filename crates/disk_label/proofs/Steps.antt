-- The three writes of an anchor, one after another.
use Rattle.std.proofs.Common.{◌≡◌, ℕ, ◌+◌, ◌*◌, ◌<◌, ◌≤◌, List, length, get_or, Option, Some, refl, sym, ◌∙◌, ap, subst, inl, inr, arith}
use Rattle.std.proofs.lemmas.List.{length-replicate}
use Rattle.volume_disk.specs.domain_base.Gate.{closed, opened}
use Rattle.std.proofs.lemmas.Bool.{cases_eq}
use Rattle.volume_disk.specs.Disk.{Disk, Moment, MayLeave, Tells, volume_pages}
use Rattle.volume_disk.specs.Image.{AreBytes, Image}
use Rattle.volume_disk.specs.Run.{LeavesOnly, MayLeaveTorn, OnlyWrites, Settles}
use Rattle.volume_disk.proofs.Laws.{leaves-now, weaker, only_writes-within, only_writes-then}
use Rattle.disk_label.specs.Anchor.{IsAnchor, IsNext, IsWhole}
use Rattle.disk_label.specs.Body.{anchor_from}
use Rattle.disk_label.specs.Slot.{HasNoAnchorOn, HasWritten, IsBody, IsGate, IsOldOrNew, IsReadyFor, IsSlot, WritesAnchor}
use Rattle.disk_label.specs.Words.{body_bytes}
use Rattle.disk_label.proofs.OtherSlots.{others_ready, chain_ready, here}
use Rattle.disk_label.proofs.Slots.{IsAnchorBelow-unique, gate_at}
use Rattle.disk_label.proofs.Written.{IsPrepared, closing, before_opening, prepared, opening, is_opened, settled_byte, Settles-slot, slot_bytes-body}
use Rattle.disk_label.specs.declared.anchor.Anchor.{Anchor}

length-closed : length closed ≡ 512
unfolding closed
length-closed = length-replicate {A = ℕ} 512 0

length-opened : length opened ≡ 512
unfolding opened
length-opened = length-replicate {A = ℕ} 512 165

first-closed : get_or closed 0 0 ≡ 0
unfolding closed
first-closed = refl

first-opened : get_or opened 0 0 ≡ 165
unfolding opened
first-opened = refl

-- the anchor to be written is the next one after that of all images
next_is : (old : Option Anchor) (new : Anchor) (disk : Disk) → AreBytes disk.now.contents → IsReadyFor disk old new → (found : Option Anchor) → IsAnchor disk.sizes disk.now.contents found → IsNext found new → IsNext old new
next_is old new disk bytes ready found is next =
    subst (λ (o : Option Anchor). IsNext o new) (IsAnchorBelow-unique 16 disk.sizes disk.now.contents found old is (ready disk.now.contents (here disk bytes))) next

-- a gate that was closed is closed in each image
shut_settled : (vol gate : ℕ) (before after : Moment) (image : Image) → Settles vol gate closed before after → MayLeave after image → image vol gate ≡ 165 → ⊥
shut_settled vol gate before after image closes left is_open =
    let start : gate ≡ gate + 0 = omega arith in
    let is_zero : image vol gate ≡ 0 = ap (image vol) start ∙ settled_byte vol gate closed before after image closes left 0 (omega (arith, length-closed)) ∙ first-closed in
    omega (arith, is_zero, is_open)

-- where both gates of a volume were closed, no anchor counts there
pub no_anchor : (vol : ℕ) (d0 d1 d2 : Disk) → 1 ≤ vol → Tells d1 → Settles vol 8192 closed d0.now d1.now → OnlyWrites d1 d2 (IsGate vol 1) → Settles vol 12288 closed d1.now d2.now → HasNoAnchorOn d2 vol
no_anchor vol d0 d1 d2 low told first second closes image left slot high counts = elim (cases_eq slot 0) [
  | inl is ↦
      let torn = leaves-now d1 d2 (MayLeaveTorn (IsGate vol 1) d1.now) (second.touches.tears told) image left in
      let same : image vol 8192 ≡ torn.0 vol 8192 = torn.2 vol 8192 (λ is_in. let low = is_in.1 in omega arith) in
      shut_settled vol 8192 d0.now d1.now torn.0 first torn.1 (sym same ∙ open_at 8192 (omega (arith, is)))
  | inr other ↦ shut_settled vol 12288 d1.now d2.now image closes left (open_at 12288 (omega arith))
]
  where
    open_at : (gate : ℕ) → 8192 + 4096 * slot ≡ gate → image vol gate ≡ 165
    open_at gate is = ap (image vol) (sym is) ∙ sym (gate_at vol slot low high image) ∙ counts.is_open

module _ (new : Anchor) (whole : IsWhole new) where
  abbrev vol : ℕ
  vol = new.log_vol

  abbrev slot : ℕ
  slot = new.slot

  abbrev gate : ℕ
  gate = 8192 + 4096 * slot

  abbrev Gate : ℕ → ℕ → Type 0
  Gate = IsGate vol slot

  abbrev Body : ℕ → ℕ → Type 0
  Body = IsBody vol slot

  abbrev Slot : ℕ → ℕ → Type 0
  Slot = IsSlot vol slot

  gate_in_slot : (old new_disk : Disk) → OnlyWrites old new_disk Gate → OnlyWrites old new_disk Slot
  gate_in_slot old new_disk = only_writes-within old new_disk vol gate 512 vol gate 4096 refl (omega arith) (omega arith)

  body_in_slot : (old new_disk : Disk) → OnlyWrites old new_disk Body → OnlyWrites old new_disk Slot
  body_in_slot old new_disk = only_writes-within old new_disk vol (gate + 512) 3584 vol gate 4096 refl (omega arith) (omega arith)

  -- the gate is closed
  module _ (d0 d1 : Disk) (first : OnlyWrites d0 d1 Gate) where
    or_new : (old : Option Anchor) (disk : Disk) → LeavesOnly d0 disk (λ image. IsAnchor d0.sizes image old) → LeavesOnly d0 disk (IsOldOrNew d0.sizes old new)
    or_new old disk = weaker d0 disk (λ image. IsAnchor d0.sizes image old) (IsOldOrNew d0.sizes old new) (λ image has. inl has)

    pub one_write : WritesAnchor d0 d1 new
    one_write = record {
      writes = gate_in_slot d0 d1 first;
      any_moment = λ told old ready. or_new old d1 (closing vol slot whole.volume.0 whole.slot old new d0 told ready d1 first);
    }

    -- and the body is written after it
    module _ (closes : Tells d0 → Settles vol gate closed d0.now d1.now) (d2 : Disk) (second : OnlyWrites d1 d2 Body) where
      some : 0 < length closed
      some = omega (arith, length-closed)

      two_in_slot : OnlyWrites d0 d2 Slot
      two_in_slot = only_writes-then d0 d1 d2 Slot (gate_in_slot d0 d1 first) (body_in_slot d1 d2 second)

      pub two_writes : WritesAnchor d0 d2 new
      two_writes = record {
        writes = two_in_slot;
        any_moment = λ told old ready. or_new old d2 (before_opening vol slot whole.volume.0 whole.slot old new d0 told ready d1 first closed some first-closed (closes told) d2 second);
      }

      -- and the gate is opened on it
      module _ (body : List ℕ) (size : length body ≡ 3584) (reads : anchor_from body slot ≡ new) (settles : Tells d1 → Settles vol (gate + 512) body d1.now d2.now)
          (d3 : Disk) (third : OnlyWrites d2 d3 Gate) (bytes : Tells d0 → AreBytes d0.now.contents) (pages : 2 ≤ volume_pages d0.sizes vol)
          (next : Tells d0 → (found : Option Anchor) × IsAnchor d0.sizes d0.now.contents found × IsNext found new) where
        told-1 : Tells d0 → Tells d1
        told-1 told = first.touches.told ∙ told

        told-2 : Tells d0 → Tells d2
        told-2 told = second.touches.told ∙ told-1 told

        is_next : Tells d0 → (old : Option Anchor) → IsReadyFor d0 old new → IsNext old new
        is_next told old ready = let found = next told in next_is old new d0 (bytes told) ready found.0 found.1 found.2

        is_prepared : Tells d0 → (old : Option Anchor) → IsReadyFor d0 old new → IsPrepared old new vol slot d0 d2
        is_prepared told old ready = prepared vol slot whole.volume.0 whole.slot old new d0 told ready d1 first closed some first-closed (closes told) d2 second body size reads (settles (told-1 told))

        all_writes : OnlyWrites d0 d3 Slot
        all_writes = only_writes-then d0 d2 d3 Slot two_in_slot (gate_in_slot d2 d3 third)

        pub three_writes : WritesAnchor d0 d3 new
        three_writes = record {
          writes = all_writes;
          any_moment = λ told old ready.
              opening vol slot whole.volume.0 whole.slot old new d0 d2 d3 (is_prepared told old ready) (is_next told old ready) whole.volume.1 refl whole.member pages (told-2 told) third;
        }

        module _ (is_body : body ≡ body_bytes new) (opens : Tells d2 → Settles vol gate opened d2.now d3.now) where
          all_done : Tells d0 → (old : Option Anchor) → IsReadyFor d0 old new → (image : Image) → MayLeave d3.now image → IsAnchor d0.sizes image (Some new)
          all_done told old ready =
              is_opened vol slot whole.volume.0 whole.slot old new d0 d2 d3 (is_prepared told old ready) (is_next told old ready) whole.volume.1 refl whole.member pages (told-2 told) third
              opened (omega (arith, length-opened)) first-opened (opens (told-2 told))

          pub has_written : HasWritten d0 d3 new
          has_written = record {
            has_new = λ told old ready image left. subst (λ (sizes : List ℕ). IsAnchor sizes image (Some new)) (sym all_writes.touches.sizes) (all_done told old ready image left);
            next = λ told old next ready names follows same.
                chain_ready old new next d0 d3 (bytes told) told ready names (is_next told (Some old) ready) whole.volume.0 follows same all_writes (all_done told (Some old) ready);
            others = λ told old v s ready other_ready other.
                others_ready new whole v s other old d0 d3 told (is_next told old ready) pages other_ready all_writes (all_done told old ready);
            settled = λ told.
                subst (λ (l : List ℕ). Settles vol gate l d0.now d3.now) (slot_bytes-body new body is_body)
                (Settles-slot vol gate closed body opened d0.now d1.now d2.now d3.now length-closed size length-opened (closes told) (settles (told-1 told)) (opens (told-2 told)));
          }
