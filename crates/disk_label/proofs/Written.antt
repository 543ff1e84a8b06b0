-- What a stop leaves while a slot is made ready and an anchor is written.
use Rattle.std.proofs.Common.{◌≡◌, ℕ, ◌+◌, ◌-◌, ◌*◌, ◌%◌, ◌<◌, ◌≤◌, List, ◌++◌, length, length-append, get_or, Option, Some, None, false, refl, sym, ◌∙◌, ap, subst, inl, inr, arith}
use Rattle.std.proofs.lemmas.Bool.{cases_eq, cases_lt}
use Rattle.std.proofs.lemmas.List.{get_or_append_left, get_or-append_right}
use Rattle.volume_disk.specs.domain_base.Gate.{opened}
use Rattle.volume_disk.specs.Disk.{Disk, Moment, MayLeave, Tells, volume_pages}
use Rattle.volume_disk.specs.Image.{Image, IsIn, SameOutside, bytes_at}
use Rattle.volume_disk.specs.Run.{MayLeaveTorn, LeavesOnly, OnlyWrites, Settles}
use Rattle.volume_disk.proofs.Bytes.{get_or-bytes_from, bytes_from-same}
use Rattle.volume_disk.proofs.Laws.{now_counts, weaker, then_on}
use Rattle.disk_label.specs.Anchor.{volume_of, gate_of, anchor_at, Counts, IsGreatest, IsAnchor, IsNext}
use Rattle.disk_label.specs.Slot.{IsOldOrNew, IsReady, StandsIn}
use Rattle.disk_label.specs.Body.{anchor_from, HasLogMember}
use Rattle.disk_label.specs.Words.{body_bytes, slot_bytes}
use Rattle.disk_label.proofs.Bodies.{anchor_from-same, slot_is-anchor_from, log_vol-zeros}
use Rattle.disk_label.proofs.Slots.{volume_is, slot_is, gate_at, anchor_read, Counts-same, IsAnchorBelow-kept}
use Rattle.disk_label.specs.declared.anchor.Anchor.{Anchor}

module _ (vol slot : ℕ) (low : 1 ≤ vol) (high : slot ≤ 1) where
  abbrev place : ℕ
  place = 2 * (vol - 1) + slot

  abbrev gate : ℕ
  gate = 8192 + 4096 * slot

  -- what counts in the slot has its gate open
  gate_open : (sizes : List ℕ) (image : Image) → Counts sizes image place → image vol gate ≡ 165
  gate_open sizes image counts = sym (gate_at vol slot low high image) ∙ counts.is_open

  -- the domain's anchor stands there, if it names the slot
  pub stands_at : (sizes : List ℕ) (image : Image) (anchor : Anchor) (was : IsGreatest 16 sizes image anchor) → anchor.log_vol ≡ vol → anchor.slot ≡ slot → was.place ≡ place
  stands_at sizes image anchor was names stands =
      let volume : volume_of was.place ≡ vol = sym was.counts.names ∙ (λ i. (was.is i).log_vol) ∙ names in
      let in_slot : was.place % 2 ≡ slot = sym (slot_is-anchor_from (bytes_at image (volume_of was.place) (gate_of was.place + 512) 512) (was.place % 2)) ∙ (λ i. (was.is i).slot) ∙ stands in
      omega (arith, volume, in_slot)

  -- and has its gate open
  pub anchor_open : (sizes : List ℕ) (image : Image) (anchor : Anchor) → IsAnchor sizes image (Some anchor) → anchor.log_vol ≡ vol → anchor.slot ≡ slot → image vol gate ≡ 165
  anchor_open sizes image anchor was names stands = gate_open sizes image (subst (Counts sizes image) (stands_at sizes image anchor was names stands) was.counts)

  module _ (at n : ℕ) (from : gate ≤ at) (to : at + n ≤ gate + 4096) (b image : Image) (same : SameOutside (IsIn vol at n) b image) where
    -- no other slot is touched
    elsewhere : (q k : ℕ) → (q ≡ place → ⊥) → gate_of q ≤ k → k < gate_of q + 4096 → ¬ IsIn vol at n (volume_of q) k
    elsewhere q k other low_k high_k is_in = let v = is_in.0 in let a = is_in.1 in let e = is_in.2 in other (omega arith)

    gate_same : (q : ℕ) → (q ≡ place → ⊥) → image (volume_of q) (gate_of q) ≡ b (volume_of q) (gate_of q)
    gate_same q other = same (volume_of q) (gate_of q) (elsewhere q (gate_of q) other (omega arith) (omega arith))

    anchor_same : (q : ℕ) → (q ≡ place → ⊥) → anchor_at image q ≡ anchor_at b q
    anchor_same q other =
        ap (λ (l : List ℕ). anchor_from l (q % 2)) (bytes_from-same (image (volume_of q)) (b (volume_of q)) (gate_of q + 512) 512 (λ k le lt. same (volume_of q) k (elsewhere q k other (omega arith) (omega arith))))

    counts_before : (sizes : List ℕ) (q : ℕ) → (q ≡ place → ⊥) → Counts sizes image q → Counts sizes b q
    counts_before sizes q other = Counts-same sizes image b q (sym (gate_same q other)) (sym (anchor_same q other))

    -- where what counts in the slot did so before, each that counts did
    counts_still : (sizes : List ℕ) → (Counts sizes image place → Counts sizes b place × (anchor_at image place ≡ anchor_at b place)) → (q : ℕ) → Counts sizes image q → Counts sizes b q × (anchor_at image q ≡ anchor_at b q)
    counts_still sizes was_here q counts = elim (cases_eq q place) [
      | inl is ↦ subst (λ (p : ℕ). Counts sizes b p × (anchor_at image p ≡ anchor_at b p)) (sym is) (was_here (subst (Counts sizes image) is counts))
      | inr other ↦ (counts_before sizes q other counts, anchor_same q other)
    ]

    -- and where the domain's anchor is not the slot's, it stays
    pub keeps_anchor : (sizes : List ℕ) (old : Option Anchor) → (Counts sizes b place → old ≡ Some (anchor_at b place) → ⊥) → (Counts sizes image place → Counts sizes b place × (anchor_at image place ≡ anchor_at b place))
        → IsAnchor sizes b old → IsAnchor sizes image old
    keeps_anchor sizes old not_here was_here =
        IsAnchorBelow-kept 16 sizes b image old (counts_still sizes was_here)
        (λ q counts is.
        elim (cases_eq q place) [
          | inl here ↦ absurd (not_here (subst (Counts sizes b) here counts) (is ∙ (λ i. Some (anchor_at b (here i)))))
          | inr other ↦ (Counts-same sizes b image q (gate_same q other) (anchor_same q other) counts, anchor_same q other)
        ])

    -- where the slot's gate is closed in both, the anchor stays
    pub stays : (sizes : List ℕ) (old : Option Anchor) → (b vol gate ≡ 165 → ⊥) → (image vol gate ≡ 165 → ⊥) → IsAnchor sizes b old → IsAnchor sizes image old
    stays sizes old shut_before shut_after =
        keeps_anchor sizes old (λ counts is. shut_before (gate_open sizes b counts)) (λ counts. absurd (shut_after (gate_open sizes image counts)))

    -- where it is open on the next anchor, that is the domain's
    pub opens : (sizes : List ℕ) (old : Option Anchor) (new : Anchor) → IsAnchor sizes b old → IsNext old new → vol ≤ 8 → new.log_vol ≡ vol → HasLogMember new → 2 ≤ volume_pages sizes vol → image vol gate ≡ 165 → anchor_at image place ≡ new → IsAnchor sizes image (Some new)
    opens sizes old new was next few names member pages is_open is = record {
      place = place;
      below = omega arith;
      counts = record {
        there = subst (λ (v : ℕ). 2 ≤ volume_pages sizes v) (sym (volume_is vol slot low high)) pages;
        is_open = gate_at vol slot low high image ∙ is_open;
        names = (λ i. (is i).log_vol) ∙ names ∙ sym (volume_is vol slot low high);
        member = subst HasLogMember (sym is) member;
      };
      is = is;
      greatest = λ q lt counts. elim (cases_eq q place) [
        | inl here ↦ let number : (anchor_at image q).number ≡ new.number = ap (λ (p : ℕ). (anchor_at image p).number) here ∙ (λ i. (is i).number) in omega arith
        | inr other ↦ let less = less_than q lt other counts in omega arith
      ];
      first = λ q lt counts. less_than q (omega arith) (λ here. omega arith) counts;
    }
      where
        all_less : (old : Option Anchor) → IsAnchor sizes b old → IsNext old new → (q : ℕ) → q < 16 → Counts sizes b q → (anchor_at b q).number < new.number
        all_less None none next q lt counts = absurd (none q lt counts)
        all_less (Some anchor) was next q lt counts = let le = was.greatest q lt counts in let one_more = next.0 in omega arith

        less_than : (q : ℕ) → q < 16 → (q ≡ place → ⊥) → Counts sizes image q → (anchor_at image q).number < new.number
        less_than q lt other counts = subst (λ (a : Anchor). a.number < new.number) (sym (anchor_same q other)) (all_less old was next q lt (counts_before sizes q other counts))

  -- An image that is torn in the gate alone.
  module _ (b image : Image) (same : SameOutside (IsIn vol gate 512) b image) where
    pub behind_same : anchor_at image place ≡ anchor_at b place
    behind_same =
        anchor_read vol slot low high image (bytes_at image vol (gate + 512) 512) (gate + 512) refl refl
        ∙ ap (λ (l : List ℕ). anchor_from l slot) (bytes_from-same (image vol) (b vol) (gate + 512) 512 (λ k le lt. same vol k (λ is_in. let e = is_in.2 in omega arith)))
        ∙ sym (anchor_read vol slot low high b (bytes_at b vol (gate + 512) 512) (gate + 512) refl refl)

    -- the gate was open, and the domain's anchor stands elsewhere
    pub ready_open : (sizes : List ℕ) (old : Option Anchor) → (StandsIn old vol slot → ⊥) → b vol gate ≡ 165 → IsAnchor sizes b old → IsAnchor sizes image old
    ready_open sizes old other is_open =
        keeps_anchor gate 512 (omega arith) (omega arith) b image same sizes old
        (λ counts is. other (subst (λ (a : Option Anchor). StandsIn a vol slot) (sym is) (counts.names ∙ volume_is vol slot low high, slot_is-anchor_from (bytes_at b (volume_of place) (gate_of place + 512) 512) (place % 2) ∙ slot_is vol slot low high)))
        (λ counts.
        let open_there : b (volume_of place) (gate_of place) ≡ image (volume_of place) (gate_of place) = gate_at vol slot low high b ∙ is_open ∙ sym counts.is_open in
        (Counts-same sizes image b place open_there (sym behind_same) counts, behind_same))

    -- the gate was closed, and zeros stand after it
    pub ready_zeros : (sizes : List ℕ) (old : Option Anchor) → (b vol gate ≡ 165 → ⊥) → ((k : ℕ) → k < 512 → b vol (gate + 512 + k) ≡ 0) → IsAnchor sizes b old → IsAnchor sizes image old
    ready_zeros sizes old shut zeros =
        keeps_anchor gate 512 (omega arith) (omega arith) b image same sizes old
        (λ counts is. shut (gate_open sizes b counts))
        (λ counts.
        let names = counts.names in
        let here = volume_is vol slot low high in
        let none : (anchor_at image place).log_vol ≡ 0 = (λ i. (behind_same i).log_vol) ∙ nothing in
        absurd (omega (arith, names, here, none)))
      where
        nothing : (anchor_at b place).log_vol ≡ 0
        nothing =
            (λ i. (anchor_read vol slot low high b (bytes_at b vol (gate + 512) 512) (gate + 512) refl refl i).log_vol)
            ∙ log_vol-zeros (bytes_at b vol (gate + 512) 512) slot (λ k lt. get_or-bytes_from (b vol) (gate + 512) 512 k 0 (omega arith) ∙ zeros k (omega arith))

-- What a read shows of the gate, if it is synced.
pub gate_seen : (vol gate : ℕ) (moment : Moment) (image : Image) → moment.unsynced vol gate ≡ false → MayLeave moment image → image vol gate ≡ moment.contents vol gate
gate_seen vol gate moment image synced left = left.synced vol gate synced

-- What a synced write leaves.

pub settled_byte : (vol at : ℕ) (bytes : List ℕ) (before after : Moment) (image : Image) → Settles vol at bytes before after → MayLeave after image → (k : ℕ) → k < length bytes → image vol (at + k) ≡ get_or bytes k 0
settled_byte vol at bytes before after image settles left k lt = left.synced vol (at + k) (settles.here (at + k)) ∙ settles.written k lt

-- each image of this moment has the old anchor, and the slot's gate closed
pub record Shut (sizes : List ℕ) (old : Option Anchor) (vol slot : ℕ) (moment : Moment) : Type 0 where
  pub has_old : (image : Image) → MayLeave moment image → IsAnchor sizes image old
  pub is_shut : (image : Image) → MayLeave moment image → image vol (8192 + 4096 * slot) ≡ 165 → ⊥

-- an anchor is written up to the opening of its gate
pub record IsPrepared (old : Option Anchor) (new : Anchor) (vol slot : ℕ) (d0 d2 : Disk) : Type 0 where
  pub before : LeavesOnly d0 d2 (λ image. IsAnchor d0.sizes image old)
  pub shut : Shut d0.sizes old vol slot d2.now
  pub stands : (image : Image) → MayLeave d2.now image → anchor_at image (2 * (vol - 1) + slot) ≡ new

module _ (vol slot : ℕ) (low : 1 ≤ vol) (high : slot ≤ 1) (sizes : List ℕ) (old : Option Anchor) where
  abbrev at_gate : ℕ
  at_gate = 8192 + 4096 * slot

  abbrev Old : Image → Type 0
  Old = λ image. IsAnchor sizes image old

  -- a body is being written after the closed gate
  module _ (d1 d2 : Disk) (shut : Shut sizes old vol slot d1.now) (told : Tells d1) (writes : OnlyWrites d1 d2 (IsIn vol (at_gate + 512) 3584)) where
    torn_shut : (image : Image) → MayLeaveTorn (IsIn vol (at_gate + 512) 3584) d1.now image → image vol at_gate ≡ 165 → ⊥
    torn_shut image torn is_open = shut.is_shut torn.0 torn.1 (sym (torn.2 vol at_gate (λ is_in. let a = is_in.1 in omega arith)) ∙ is_open)

    torn_old : (image : Image) → MayLeaveTorn (IsIn vol (at_gate + 512) 3584) d1.now image → IsAnchor sizes image old
    torn_old image torn =
        stays vol slot low high (at_gate + 512) 3584 (omega arith) (omega arith) torn.0 image torn.2 sizes old (shut.is_shut torn.0 torn.1) (torn_shut image torn) (shut.has_old torn.0 torn.1)

    pub writing : LeavesOnly d1 d2 Old
    writing = weaker d1 d2 (MayLeaveTorn (IsIn vol (at_gate + 512) 3584) d1.now) Old torn_old (writes.touches.tears told)

    torn_now : (image : Image) → MayLeave d2.now image → MayLeaveTorn (IsIn vol (at_gate + 512) 3584) d1.now image
    torn_now image left = let only = writes.touches.tears told in only.each image (now_counts d2 d1.calls image only.later left)

    pub still_shut : Shut sizes old vol slot d2.now
    still_shut = record { has_old = λ image left. torn_old image (torn_now image left); is_shut = λ image left. torn_shut image (torn_now image left) }

    -- which is of zeros: the slot is ready
    pub zeros_ready : (zeros : List ℕ) → length zeros ≡ 3584 → ((k : ℕ) → k < 512 → get_or zeros k 0 ≡ 0) → Settles vol (at_gate + 512) zeros d1.now d2.now → d2.sizes ≡ sizes → IsReady d2 old vol slot
    zeros_ready zeros size zero settles same = λ image torn.
        subst (λ (l : List ℕ). IsAnchor l image old) (sym same)
        (ready_zeros vol slot low high torn.0 image torn.2 sizes old (still_shut.is_shut torn.0 torn.1)
        (λ k lt. settled_byte vol (at_gate + 512) zeros d1.now d2.now torn.0 settles torn.1 k (omega arith) ∙ zero k lt)
        (still_shut.has_old torn.0 torn.1))

-- An anchor is being written.
module _ (vol slot : ℕ) (low : 1 ≤ vol) (high : slot ≤ 1) (old : Option Anchor) (new : Anchor) (d0 : Disk) (told : Tells d0) (ready : IsReady d0 old vol slot) where
  abbrev own_gate : ℕ
  own_gate = 8192 + 4096 * slot

  abbrev HasOld : Image → Type 0
  HasOld = λ image. IsAnchor d0.sizes image old

  pub closing : (d1 : Disk) → OnlyWrites d0 d1 (IsIn vol own_gate 512) → LeavesOnly d0 d1 HasOld
  closing d1 writes = weaker d0 d1 (MayLeaveTorn (IsIn vol own_gate 512) d0.now) HasOld ready (writes.touches.tears told)

  -- the gate is closed
  module _ (d1 : Disk) (first : OnlyWrites d0 d1 (IsIn vol own_gate 512)) (zeros : List ℕ) (some : 0 < length zeros) (zero : get_or zeros 0 0 ≡ 0) (closes : Settles vol own_gate zeros d0.now d1.now) where
    closed : Shut d0.sizes old vol slot d1.now
    closed = record {
      has_old = λ image left. let only = closing d1 first in only.each image (now_counts d1 d0.calls image only.later left);
      is_shut = λ image left is_open.
          let start : own_gate ≡ own_gate + 0 = omega arith in
          let is_zero : image vol own_gate ≡ 0 = ap (image vol) start ∙ settled_byte vol own_gate zeros d0.now d1.now image closes left 0 some ∙ zero in
          omega (arith, is_zero, is_open);
    }

    told-1 : Tells d1
    told-1 = first.touches.told ∙ told

    -- and the body is written after it
    module _ (d2 : Disk) (second : OnlyWrites d1 d2 (IsIn vol (own_gate + 512) 3584)) where
      pub before_opening : LeavesOnly d0 d2 HasOld
      before_opening = then_on d0 d1 d2 HasOld (closing d1 first) (writing vol slot low high d0.sizes old d1 d2 closed told-1 second)

      pub prepared : (body : List ℕ) → length body ≡ 3584 → anchor_from body slot ≡ new → Settles vol (own_gate + 512) body d1.now d2.now → IsPrepared old new vol slot d0 d2
      prepared body size is settles = record {
        before = before_opening;
        shut = still_shut vol slot low high d0.sizes old d1 d2 closed told-1 second;
        stands = λ image left.
            anchor_read vol slot low high image (bytes_at image vol (own_gate + 512) 512) (own_gate + 512) refl refl
            ∙ anchor_from-same (bytes_at image vol (own_gate + 512) 512) body slot (λ i lt. get_or-bytes_from (image vol) (own_gate + 512) 512 i 0 (omega arith) ∙ settled_byte vol (own_gate + 512) body d1.now d2.now image settles left i (omega arith))
            ∙ is;
      }

-- The gate is being opened on the body.
module _ (vol slot : ℕ) (low : 1 ≤ vol) (high : slot ≤ 1) (old : Option Anchor) (new : Anchor) (d0 d2 d3 : Disk) (so_far : IsPrepared old new vol slot d0 d2)
    (next : IsNext old new) (few : vol ≤ 8) (names : new.log_vol ≡ vol) (member : HasLogMember new) (pages : 2 ≤ volume_pages d0.sizes vol) (told : Tells d2) (writes : OnlyWrites d2 d3 (IsIn vol (8192 + 4096 * slot) 512)) where
  abbrev the_gate : ℕ
  the_gate = 8192 + 4096 * slot

  torn_open : (image : Image) → MayLeaveTorn (IsIn vol the_gate 512) d2.now image → image vol the_gate ≡ 165 → IsAnchor d0.sizes image (Some new)
  torn_open image torn is_open =
      opens vol slot low high the_gate 512 (omega arith) (omega arith) torn.0 image torn.2 d0.sizes old new (so_far.shut.has_old torn.0 torn.1) next few names member pages is_open
      (behind_same vol slot low high torn.0 image torn.2 ∙ so_far.stands torn.0 torn.1)

  torn_either : (image : Image) → MayLeaveTorn (IsIn vol the_gate 512) d2.now image → IsOldOrNew d0.sizes old new image
  torn_either image torn = elim (cases_eq (image vol the_gate) 165) [
    | inl is_open ↦ inr (torn_open image torn is_open)
    | inr closed ↦ inl (stays vol slot low high the_gate 512 (omega arith) (omega arith) torn.0 image torn.2 d0.sizes old (so_far.shut.is_shut torn.0 torn.1) closed (so_far.shut.has_old torn.0 torn.1))
  ]

  pub opening : LeavesOnly d0 d3 (IsOldOrNew d0.sizes old new)
  opening =
      then_on d0 d2 d3 (IsOldOrNew d0.sizes old new)
      (weaker d0 d2 (λ image. IsAnchor d0.sizes image old) (IsOldOrNew d0.sizes old new) (λ image has. inl has) so_far.before)
      (weaker d2 d3 (MayLeaveTorn (IsIn vol the_gate 512) d2.now) (IsOldOrNew d0.sizes old new) torn_either (writes.touches.tears told))

  pub is_opened : (bytes : List ℕ) → 0 < length bytes → get_or bytes 0 0 ≡ 165 → Settles vol the_gate bytes d2.now d3.now → (image : Image) → MayLeave d3.now image → IsAnchor d0.sizes image (Some new)
  is_opened bytes some first settles image left =
      let only = writes.touches.tears told in
      let start : the_gate ≡ the_gate + 0 = omega arith in
      torn_open image (only.each image (now_counts d3 d2.calls image only.later left)) (ap (image vol) start ∙ settled_byte vol the_gate bytes d2.now d3.now image settles left 0 some ∙ first)

-- What the three writes make of the slot.
pub Settles-slot : (vol gate : ℕ) (zeros body ones : List ℕ) (m0 m1 m2 m3 : Moment) → length zeros ≡ 512 → length body ≡ 3584 → length ones ≡ 512 → Settles vol gate zeros m0 m1 → Settles vol (gate + 512) body m1 m2 → Settles vol gate ones m2 m3
    → Settles vol gate (ones ++ body) m0 m3
Settles-slot vol gate zeros body ones m0 m1 m2 m3 zeros_size body_size ones_size first second third = record {
  written = λ k lt. elim (cases_lt k 512) [
    | inl in_gate ↦ third.written k (omega arith) ∙ sym (get_or_append_left ones body 0 k (omega arith))
    | inr behind ↦
        let at : gate + 512 + (k - 512) ≡ gate + k = omega arith in
        third.outside vol (gate + k) (λ is_in. let e = is_in.2 in omega arith)
        ∙ ap (m2.contents vol) (sym at)
        ∙ second.written (k - 512) (let whole = length-append ones body in omega (arith, whole))
        ∙ sym (get_or-append_right ones body 512 k 0 ones_size behind)
  ];
  outside = λ v k out.
      let whole = length-append ones body in
      third.outside v k (λ is_in. let a = is_in.1 in let b = is_in.2 in out (is_in.0, omega arith, omega (arith, whole)))
      ∙ second.outside v k (λ is_in. let a = is_in.1 in let b = is_in.2 in out (is_in.0, omega arith, omega (arith, whole)))
      ∙ first.outside v k (λ is_in. let a = is_in.1 in let b = is_in.2 in out (is_in.0, omega arith, omega (arith, whole)));
  here = third.here;
  elsewhere = λ v k other. third.elsewhere v k other ∙ second.elsewhere v k other ∙ first.elsewhere v k other;
}

pub slot_bytes-body : (new : Anchor) (body : List ℕ) → body ≡ body_bytes new → opened ++ body ≡ slot_bytes new
unfolding slot_bytes
slot_bytes-body new body is = λ i. opened ++ is i
