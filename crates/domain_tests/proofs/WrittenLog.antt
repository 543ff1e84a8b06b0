-- A volume with such a label and anchor, and a log whose first gate is closed: no fault of the first codes is there.
use Rattle.std.proofs.Common.{◌≡◌, ◌∙◌, ◌⊎◌, inl, inr, ℕ, zero, suc, ◌+◌, ◌<◌, ◌≤◌, cond, nat_eq, List, [], ◌∷◌, ◌++◌, Some, None, length, drop, take, slice_index, refl, sym, ap, subst, arith, ⊎_elim}
use Rattle.std.proofs.lemmas.List.{drop_at, get_or-append_right, length-replicate}
use Rattle.domain_making.specs.domain_base.Gate.{opened}
use Rattle.domain_making.specs.domain_base.Page.{zero_bytes}
use Rattle.domain_making.specs.domain_base.Version.{bitmap_pages, most_pages, number_of}
use Rattle.domain_making.specs.domain_base.declared.version.Version.{Version}
use Rattle.domain_making.specs.domain_base.declared.version.Version.TheVariants.{Three, Four}
use Rattle.domain_making.specs.volume_disk.Disk.{volume_pages}
use Rattle.domain_making.specs.volume_disk.Image.{bytes_at}
use Rattle.domain_making.specs.disk_label.Anchor.{Counts, IsAnchor, anchor_at, volume_of}
use Rattle.domain_making.specs.disk_label.Body.{HasLogMember, anchor_from, no_member, word_at}
use Rattle.domain_making.specs.disk_label.Label.{IsLabel, label_block}
use Rattle.domain_making.specs.disk_label.declared.anchor.Anchor.{Anchor}
use Rattle.domain_making.specs.log_ring.Groups.{Group, HasLog, span}
use Rattle.domain_making.specs.log_ring.Homes.{member_of}
use Rattle.domain_making.specs.log_ring.Ring.{IsGateOpen}
use Rattle.domain_making.specs.log_recovery.Groups.{AreInTurn, IsFirstNoGroup}
use Rattle.domain_making.specs.log_recovery.Members.{IsFirstUnlabelled, IsLabelled, label_version}
use Rattle.domain_making.specs.log_recovery.Outcome.{IsFirstFault, IsOutOfRange}
use Rattle.domain_making.specs.log_recovery.Range.{IsInRange, IsSized}
use Rattle.domain_tests.specs.Written.{anchor_front, anchor_of, anchors_page, image_with, label_front, label_page}
use Rattle.domain_tests.proofs.Written.{length-anchors, length-label, part_is}
use Rattle.domain_tests.proofs.Zeros.{first_zeros, zero_anywhere}

abbrev sizes : List ℕ
sizes = 512 ∷ []

-- ---- what the anchor's bytes say

says_anchor : (version : Version) → anchor_from (anchor_front version ++ zero_bytes 400) 0 ≡ anchor_of version
unfolding anchor_from
says_anchor Three = refl
says_anchor Four = refl

length-opened : length opened ≡ 512
unfolding opened
length-opened = length-replicate {A = ℕ} 512 0xa5

open_byte : (version : Version) → slice_index (anchors_page version) 0 ≡ 165
unfolding opened
open_byte version = refl

only_state : (vol : ℕ) (version : Version) → 1 ≤ vol → vol ≤ 8 → (vol ≡ 1) ⊎ (member_of (anchor_of version) vol ≡ no_member)
only_state zero version low high = absurd (omega (arith, low))
only_state (suc zero) version low high = inl refl
only_state (suc (suc zero)) version low high = inr refl
only_state (suc (suc (suc zero))) version low high = inr refl
only_state (suc (suc (suc (suc zero)))) version low high = inr refl
only_state (suc (suc (suc (suc (suc zero))))) version low high = inr refl
only_state (suc (suc (suc (suc (suc (suc zero)))))) version low high = inr refl
only_state (suc (suc (suc (suc (suc (suc (suc zero))))))) version low high = inr refl
only_state (suc (suc (suc (suc (suc (suc (suc (suc zero)))))))) version low high = inr refl
only_state (suc (suc (suc (suc (suc (suc (suc (suc (suc vol))))))))) version low high = absurd (omega (arith, high))

-- no volume but the first has a state
pub only_member : (vol : ℕ) (version : Version) → 1 ≤ vol → vol ≤ 8 → 1 ≤ (member_of (anchor_of version) vol).state → vol ≡ 1
only_member vol version low high some =
    ⊎_elim (λ same. same) (λ none. let e : (member_of (anchor_of version) vol).state ≡ 0 = ap (λ m. m.state) none in absurd (omega (arith, some, e)))
    (only_state vol version low high)

no_volume : (vol : ℕ) → 2 ≤ vol → volume_pages sizes vol ≡ 0
no_volume zero far = absurd (omega (arith, far))
no_volume (suc zero) far = absurd (omega (arith, far))
no_volume (suc (suc vol)) far = refl

pub one_bitmap : (version : Version) → bitmap_pages version 512 ≡ 1
one_bitmap Three = refl
one_bitmap Four = refl

module _ (version : Version) (pages : ℕ → List ℕ) (zeroth : pages 0 ≡ label_page version) (first : pages 1 ≡ anchors_page version) (gate : slice_index (pages 4) 0 ≡ 0) where
  -- ---- the anchor that counts

  anchor_bytes : bytes_at (image_with pages) 1 8704 512 ≡ anchor_front version ++ zero_bytes 400
  anchor_bytes =
      part_is pages 1 512 512 (ap length first ∙ length-anchors version) (omega arith)
      ∙ ap (λ page. take 512 (drop 512 page)) first
      ∙ ap (take 512) (drop_at opened (anchor_front version ++ zero_bytes 7568) 512 length-opened)
      ∙ ap (λ rest. anchor_front version ++ rest) (first_zeros 400 7568 (omega arith))

  first_anchor : anchor_at (image_with pages) 0 ≡ anchor_of version
  first_anchor = ap (λ body. anchor_from body 0) anchor_bytes ∙ says_anchor version

  first_counts : Counts sizes (image_with pages) 0
  first_counts = record {
    there = omega arith;
    is_open = ap (λ page. slice_index page 0) first ∙ open_byte version;
    names = ap (λ (a : Anchor). a.log_vol) first_anchor;
    member = subst HasLogMember (sym first_anchor) (omega arith, omega arith);
  }

  closed_byte : slice_index (anchors_page version) 4096 ≡ 0
  closed_byte =
      get_or-append_right opened (anchor_front version ++ zero_bytes 7568) 512 4096 0 length-opened (omega arith)
      ∙ get_or-append_right (anchor_front version) (zero_bytes 7568) 112 3584 0 refl (omega arith)
      ∙ zero_anywhere 7568 3472

  no_other : (place : ℕ) → ¬ Counts sizes (image_with pages) (suc place)
  no_other zero counts =
      let byte : slice_index (pages 1) 4096 ≡ 165 = counts.is_open in
      omega (arith, byte, ap (λ page. slice_index page 4096) first ∙ closed_byte)
  no_other (suc place) counts =
      let far : 2 ≤ volume_of (suc (suc place)) = omega arith in
      omega (arith, counts.there, no_volume (volume_of (suc (suc place))) far)

  only_first : (place : ℕ) → Counts sizes (image_with pages) place → place ≡ 0
  only_first zero counts = refl
  only_first (suc place) counts = absurd (no_other place counts)

  pub has_anchor : IsAnchor sizes (image_with pages) (Some (anchor_of version))
  has_anchor = record {
    place = 0;
    below = omega arith;
    counts = first_counts;
    is = first_anchor;
    greatest = λ place within counts.
        let same = ap (λ p. (anchor_at (image_with pages) p).number) (only_first place counts) ∙ ap (λ (a : Anchor). a.number) first_anchor in
        omega (arith, same);
    first = λ place within counts. absurd (omega (arith, within));
  }

  one_anchor : (other : Anchor) → IsAnchor sizes (image_with pages) (Some other) → other ≡ anchor_of version
  one_anchor other is = sym is.is ∙ ap (anchor_at (image_with pages)) (only_first is.place is.counts) ∙ first_anchor

  -- ---- the log

  closed_gate : ¬ IsGateOpen (image_with pages) (anchor_of version) 0
  closed_gate is_open =
      let byte : slice_index (pages 4) 0 ≡ 165 = is_open in
      omega (arith, byte, gate)

  pub has_log : HasLog sizes (anchor_of version) [] (image_with pages)
  has_log = record { anchor_is = has_anchor; groups_are = closed_gate; fits = omega arith }

  -- ---- the label

  label_bytes : label_block (image_with pages) 1 ≡ label_front version ++ zero_bytes 488
  label_bytes =
      part_is pages 0 0 512 (ap length zeroth ∙ length-label version) (omega arith)
      ∙ ap (take 512) zeroth
      ∙ ap (λ rest. label_front version ++ rest) (first_zeros 488 8168 (omega arith))

block_version : (version : Version) → cond (nat_eq (word_at (label_front version ++ zero_bytes 488) 2) 3) Three Four ≡ version
block_version Three = refl
block_version Four = refl

says_label : (version : Version) → IsLabel 512 1 (record { pages = 512; version = version }) (label_front version ++ zero_bytes 488)
says_label Three = record { magic_low = refl; magic_high = refl; version = refl; volume = refl; pages = refl; there = omega arith; bitmap = refl }
says_label Four = record { magic_low = refl; magic_high = refl; version = refl; volume = refl; pages = refl; there = omega arith; bitmap = refl }

is_three : (version : Version) → number_of version ≡ 3 → version ≡ Three
is_three Three same = refl
is_three Four same = absurd (omega (arith, same))

-- ---- the anchor's ranges

small : (version : Version) → 512 ≤ most_pages version
small Three = omega arith
small Four = omega arith

is_version : (version : Version) → (number_of version ≡ 3) ⊎ (number_of version ≡ 4)
is_version Three = inl refl
is_version Four = inr refl

first_sized : (versions version : Version) → IsSized versions (anchor_of version) 1
first_sized versions version = record { state = omega arith; least = λ member. omega arith; most = λ member. small versions }

sized : (versions version : Version) (vol : ℕ) → 1 ≤ vol → vol < 9 → IsSized versions (anchor_of version) vol
sized versions version vol low high =
    ⊎_elim (λ same. subst (IsSized versions (anchor_of version)) (sym same) (first_sized versions version))
    (λ none.
    let e : (member_of (anchor_of version) vol).state ≡ 0 = ap (λ m. m.state) none in
    record {
      state = omega (arith, e);
      least = λ member. absurd (omega (arith, e, member.there));
      most = λ member. absurd (omega (arith, e, member.there));
    })
    (only_state vol version low (omega (arith, high)))

in_range : (versions : ℕ → Version) (version : Version) → IsInRange versions (anchor_of version)
in_range versions version = record {
  whole = record {
    version = is_version version;
    volume = (omega arith, omega arith);
    slot = omega arith;
    member = (omega arith, omega arith);
    table = refl;
  };
  numbers = record { first = omega arith; number = omega arith; group = omega arith; start = omega arith; pages = refl };
  sized = λ vol low high. sized (versions vol) version vol low high;
  log = record {
    within = omega arith;
    behind = let e = one_bitmap (versions 1) in omega (arith, e);
  };
  table = (record { first = omega arith; last = omega arith; there = omega arith; whole = omega arith }, omega arith);
}

-- ---- no fault of the first codes

module _ (version : Version) (pages : ℕ → List ℕ) (zeroth : pages 0 ≡ label_page version) (first : pages 1 ≡ anchors_page version) (gate : slice_index (pages 4) 0 ≡ 0) where
  says_version : label_version (image_with pages) 1 ≡ version
  says_version = ap (λ block. cond (nat_eq (word_at block 2) 3) Three Four) (label_bytes version pages zeroth first gate) ∙ block_version version

  has_label : IsLabelled sizes (image_with pages) (anchor_of version) 1
  has_label = record {
    there = omega arith;
    label = subst (λ v. IsLabel 512 1 (record { pages = 512; version = v }) (label_block (image_with pages) 1)) (sym says_version)
        (subst (IsLabel 512 1 (record { pages = 512; version = version })) (sym (label_bytes version pages zeroth first gate)) (says_label version));
    version = λ same. says_version ∙ is_three version same;
  }

  no_unlabelled : (vol at : ℕ) → ¬ IsFirstUnlabelled sizes (image_with pages) (anchor_of version) vol at
  no_unlabelled vol at wrong =
      let same = only_member vol version wrong.member.first wrong.member.last wrong.member.there in
      wrong.wrong (subst (IsLabelled sizes (image_with pages) (anchor_of version)) (sym same) has_label)

  no_anchor_fault : ¬ IsAnchor sizes (image_with pages) None
  no_anchor_fault none = none 0 (omega arith) (first_counts version pages zeroth first gate)

  no_range_fault : ¬ IsOutOfRange sizes (image_with pages)
  no_range_fault wrong =
      wrong.wrong (subst (IsInRange (label_version (image_with pages))) (sym (one_anchor version pages zeroth first gate wrong.anchor wrong.anchor_is)) (in_range (label_version (image_with pages)) version))

  no_group : (vol at : ℕ) → ¬ IsFirstNoGroup (image_with pages) (anchor_of version) vol at
  no_group vol at wrong = by_groups wrong.groups wrong.stand wrong.wrong.is_open
    where
      by_groups : (groups : List Group) → AreInTurn (anchor_of version) 0 1 groups (image_with pages) → IsGateOpen (image_with pages) (anchor_of version) (0 + span groups) → ⊥
      by_groups [] stand is_open = closed_gate version pages zeroth first gate is_open
      by_groups (group ∷ more) stand is_open = closed_gate version pages zeroth first gate stand.1.is_open

  pub no_first : (vol at : ℕ) → ¬ IsFirstFault sizes (image_with pages) vol at
  no_first vol at fault =
      ⊎_elim (λ label. no_unlabelled vol at (subst (λ a. IsFirstUnlabelled sizes (image_with pages) a vol at) (one_anchor version pages zeroth first gate label.anchor label.anchor_is) label.first))
      (λ more. ⊎_elim (λ anchor. ⊎_elim no_anchor_fault no_range_fault anchor.wrong)
      (λ group. no_group vol at (subst (λ a. IsFirstNoGroup (image_with pages) a vol at) (one_anchor version pages zeroth first gate group.anchor group.good.anchor_is) group.first)) more)
      fault
