-- Gates of a volume whose two slots are ready have no say in which anchor is the domain's.
use Rattle.std.proofs.Common.{◌≡◌, ◌⊎◌, ℕ, ◌+◌, ◌%◌, ◌<◌, ◌≤◌, List, Option, Some, None, refl, sym, ◌∙◌, ap, subst, inl, inr, arith}
use Rattle.volume_disk.specs.Disk.{Disk}
use Rattle.volume_disk.specs.Image.{Image, IsIn, SameOutside, bytes_at}
use Rattle.volume_disk.proofs.Bytes.{bytes_from-same}
use Rattle.volume_disk.proofs.Laws.{mixed-bytes, touches-leaves}
use Rattle.volume_disk.proofs.Places.{in_or_out, mixed, mixed-in, mixed-out}
use Rattle.disk_label.specs.Anchor.{Counts, IsAnchor, IsAnchorBelow, IsGreatest, anchor_at, gate_of, volume_of}
use Rattle.disk_label.specs.Body.{anchor_from}
use Rattle.disk_label.specs.Laws.{KeepsAnchorByGates}
use Rattle.disk_label.specs.Slot.{IsGateOf}
use Rattle.disk_label.specs.declared.anchor.Anchor.{Anchor}
use Rattle.disk_label.proofs.Bodies.{slot_is-anchor_from}
use Rattle.disk_label.proofs.Slots.{Counts-same}

-- a slot has the same gate and the same anchor in two images
abbrev Agree : Image → Image → ℕ → Type 0
Agree image other q = (image (volume_of q) (gate_of q) ≡ other (volume_of q) (gate_of q)) × (anchor_at image q ≡ anchor_at other q)

-- Each slot of an image agrees with that of one or of another image, which have the same anchor.
module _ (n : ℕ) (sizes : List ℕ) (image one other : Image) (agree : (q : ℕ) → Agree image one q ⊎ Agree image other q) where
  counts_there : (there : Image) (q : ℕ) → Agree image there q → Counts sizes image q → Counts sizes there q
  counts_there there q same = Counts-same sizes image there q (sym same.0) (sym same.1)

  counts_here : (there : Image) (q : ℕ) → Agree image there q → Counts sizes there q → Counts sizes image q
  counts_here there q same = Counts-same sizes there image q same.0 same.1

  -- an anchor says by its volume and slot where it stands
  stands_once : (anchor : Anchor) (a : IsGreatest n sizes one anchor) (b : IsGreatest n sizes other anchor) → a.place ≡ b.place
  stands_once anchor a b =
      let vol : volume_of a.place ≡ volume_of b.place = sym a.counts.names ∙ (λ i. (a.is i).log_vol) ∙ (λ i. (sym b.is i).log_vol) ∙ b.counts.names in
      let slot : a.place % 2 ≡ b.place % 2 = sym (slot_in one a.place) ∙ (λ i. (a.is i).slot) ∙ (λ i. (sym b.is i).slot) ∙ slot_in other b.place in
      omega arith
    where
      slot_in : (there : Image) (q : ℕ) → (anchor_at there q).slot ≡ q % 2
      slot_in there q = slot_is-anchor_from (bytes_at there (volume_of q) (gate_of q + 512) 512) (q % 2)

  pub IsAnchorBelow-either : (anchor : Option Anchor) → IsAnchorBelow n sizes one anchor → IsAnchorBelow n sizes other anchor → IsAnchorBelow n sizes image anchor
  IsAnchorBelow-either None a b = λ q lt counts. elim (agree q) [ inl same ↦ a q lt (counts_there one q same counts) | inr same ↦ b q lt (counts_there other q same counts) ]
  IsAnchorBelow-either (Some anchor) a b = record {
    place = a.place;
    below = a.below;
    counts = elim (agree a.place) [
      | inl same ↦ counts_here one a.place same a.counts
      | inr same ↦ counts_here other a.place same (subst (Counts sizes other) (sym place) b.counts)
    ];
    is = elim (agree a.place) [
      | inl same ↦ same.1 ∙ a.is
      | inr same ↦ same.1 ∙ ap (anchor_at other) place ∙ b.is
    ];
    greatest = λ q lt counts. elim (agree q) [
      | inl same ↦ subst (λ (found : Anchor). found.number ≤ anchor.number) (sym same.1) (a.greatest q lt (counts_there one q same counts))
      | inr same ↦ subst (λ (found : Anchor). found.number ≤ anchor.number) (sym same.1) (b.greatest q lt (counts_there other q same counts))
    ];
    first = λ q lt counts. elim (agree q) [
      | inl same ↦ subst (λ (found : Anchor). found.number < anchor.number) (sym same.1) (a.first q lt (counts_there one q same counts))
      | inr same ↦ subst (λ (found : Anchor). found.number < anchor.number) (sym same.1) (b.first q (omega (arith, lt, place)) (counts_there other q same counts))
    ];
  }
    where
      place : a.place ≡ b.place
      place = stands_once anchor a b

-- An image that is torn in both gates, and those that are torn in one of them.
module _ (vol : ℕ) (b image : Image) (torn : SameOutside (IsGateOf vol) b image) where
  abbrev first : Image
  first = mixed vol 8192 512 image b

  abbrev second : Image
  second = mixed vol 12288 512 image b

  beside_second : SameOutside (IsIn vol 12288 512) first image
  beside_second v k out = elim (in_or_out vol 8192 512 v k) [
    | inl is_in ↦ sym (mixed-in vol 8192 512 image b v k is_in)
    | inr beside ↦ torn v k (λ is. gate is beside) ∙ sym (mixed-out vol 8192 512 image b v k beside)
  ]
    where
      gate : IsGateOf vol v k → ¬ IsIn vol 8192 512 v k → ⊥
      gate (inl is) beside = beside is
      gate (inr is) beside = out is

  beside_first : SameOutside (IsIn vol 8192 512) second image
  beside_first v k out = elim (in_or_out vol 12288 512 v k) [
    | inl is_in ↦ sym (mixed-in vol 12288 512 image b v k is_in)
    | inr beside ↦ torn v k (λ is. gate is beside) ∙ sym (mixed-out vol 12288 512 image b v k beside)
  ]
    where
      gate : IsGateOf vol v k → ¬ IsIn vol 12288 512 v k → ⊥
      gate (inl is) beside = out is
      gate (inr is) beside = beside is

  -- a slot agrees where its gate is another one: no body is torn
  agree_beside : (other : Image) (at : ℕ) → (at ≡ 8192) ⊎ (at ≡ 12288) → SameOutside (IsIn vol at 512) other image → (q : ℕ) → ¬ IsIn vol at 512 (volume_of q) (gate_of q) → Agree image other q
  agree_beside other at which same q out = (
    same (volume_of q) (gate_of q) out,
    ap (λ (l : List ℕ). anchor_from l (q % 2)) (bytes_from-same (image (volume_of q)) (other (volume_of q)) (gate_of q + 512) 512 (λ k le lt. same (volume_of q) k (behind which k le lt))),
  )
    where
      behind : (at ≡ 8192) ⊎ (at ≡ 12288) → (k : ℕ) → gate_of q + 512 ≤ k → k < gate_of q + 512 + 512 → ¬ IsIn vol at 512 (volume_of q) k
      behind (inl is) k le lt is_in = let low = is_in.1 in let high = is_in.2 in omega arith
      behind (inr is) k le lt is_in = let low = is_in.1 in let high = is_in.2 in omega arith

  agree : (q : ℕ) → Agree image first q ⊎ Agree image second q
  agree q = elim (in_or_out vol 12288 512 (volume_of q) (gate_of q)) [
    | inl is_in ↦ inr (agree_beside second 8192 (inl refl) beside_first q (λ first. let low = is_in.1 in let high = first.2 in omega arith))
    | inr out ↦ inl (agree_beside first 12288 (inr refl) beside_second q out)
  ]

  pub anchor_either : (sizes : List ℕ) (anchor : Option Anchor) → IsAnchor sizes first anchor → IsAnchor sizes second anchor → IsAnchor sizes image anchor
  anchor_either sizes anchor = IsAnchorBelow-either 16 sizes image first second agree anchor

pub keeps_anchor_by_gates : (old new : Disk) (anchor : Option Anchor) (vol : ℕ) → KeepsAnchorByGates old new anchor vol
keeps_anchor_by_gates old new anchor vol told one other touches =
    touches-leaves old new (IsGateOf vol) (λ image. IsAnchor old.sizes image anchor) told touches
    (λ image torn.
    let b = torn.0 in
    anchor_either vol b image torn.2 old.sizes anchor
    (one (mixed vol 8192 512 image b) (b, torn.1, mixed-out vol 8192 512 image b, mixed-bytes vol 8192 512 image b torn.3 torn.1.bytes))
    (other (mixed vol 12288 512 image b) (b, torn.1, mixed-out vol 12288 512 image b, mixed-bytes vol 12288 512 image b torn.3 torn.1.bytes)))
