-- An image has one outcome of recovery.
use Rattle.std.proofs.Common.{◌≡◌, ◌⊎◌, ℕ, ◌+◌, ◌<◌, ◌≤◌, List, [], ◌∷◌, Some, None, length, refl, sym, ◌∙◌, ap, subst, inl, inr, arith}
use Rattle.std.proofs.lemmas.Bool.{cases_order}
use Rattle.log_ring.specs.volume_disk.Image.{Image}
use Rattle.log_ring.specs.disk_label.Anchor.{IsAnchor}
use Rattle.log_ring.specs.disk_label.declared.anchor.Anchor.{Anchor}
use Rattle.log_ring.proofs.OfDiskLabel.Slots.{IsAnchorBelow-unique}
use Rattle.log_ring.proofs.HeaderPages.{one_header}
use Rattle.log_ring.specs.Groups.{AreGroups, Group, HasGroup, HasLog, header_of, span}
use Rattle.log_ring.specs.Ring.{IsGateOpen, place_at, ring_page}
use Rattle.log_ring.proofs.OnImages.{images-once, one_way}
use Rattle.log_ring.specs.Homes.{IsMember}
use Rattle.log_recovery.specs.Groups.{AreInTurn, IsFirstNoGroup, IsNoGroup}
use Rattle.log_recovery.specs.Laws.{HasNoFault, HasOneFault, HasOneLog}
use Rattle.log_recovery.specs.Members.{AreLabelled, IsLabelled, label_version}
use Rattle.log_recovery.specs.Outcome.{HasGoodAnchor, IsGroupFault, IsLabelFault, IsOutOfRange}
use Rattle.log_recovery.specs.Range.{IsInRange}
use Rattle.log_recovery.specs.declared.redone.Redone.{Redone}

-- One anchor.

pub one_anchor : (sizes : List ℕ) (image : Image) (one other : Anchor) → IsAnchor sizes image (Some one) → IsAnchor sizes image (Some other) → one ≡ other
one_anchor sizes image one other a b = let same = IsAnchorBelow-unique 16 sizes image (Some one) (Some other) a b in cc

no_anchor : (sizes : List ℕ) (image : Image) (one : Anchor) → IsAnchor sizes image (Some one) → IsAnchor sizes image None → ⊥
no_anchor sizes image one a b = let same = IsAnchorBelow-unique 16 sizes image (Some one) None a b in cc

-- Groups from a place on, up to one that is none.

module _ (anchor : Anchor) (image : Image) where
  -- the group at a place is one
  one_group : (place : ℕ) (one other : Group) → HasGroup image anchor place one → HasGroup image anchor place other → one ≡ other
  one_group place one other a b =
      let header = one_header (place_at image anchor place) (header_of one) (header_of other) a.behind.header b.behind.header in
      let images = images-once image anchor one.images other.images (place + 1) (λ i. (header i).homes) a.behind.images b.behind.images in
      λ i. record { number = (header i).number; images = images i }

  abbrev Bad : ℕ → ℕ → Type 0
  Bad used number = IsNoGroup image anchor used number

  -- none is next where a group stands that may be
  not_bad : (used number : ℕ) (group : Group) → Bad (used + 0) (number + 0) → group.number ≡ number → HasGroup image anchor (anchor.start + used) group → used + (1 + length group.images) + 1 ≤ 128 → ⊥
  not_bad used number group bad numbered stands fits =
      bad.none group (record {
        numbered = numbered ∙ omega arith;
        stands = subst (λ (k : ℕ). HasGroup image anchor k group) (omega arith) stands;
        fits = omega (arith, fits);
      })

  -- after the first group
  next_place : (used n : ℕ) → anchor.start + used + 1 + n ≡ anchor.start + (used + (1 + n))
  next_place used n = omega arith

  later_bad : (used number : ℕ) (group : Group) (groups : List Group) → Bad (used + span (group ∷ groups)) (number + length (group ∷ groups)) → Bad (used + (1 + length group.images) + span groups) (number + 1 + length groups)
  later_bad used number group groups bad = subst (λ (k : ℕ). Bad k (number + 1 + length groups)) (omega arith) (subst (λ (n : ℕ). Bad (used + span (group ∷ groups)) n) (omega arith) bad)

  -- among all groups up to a closed gate is no place at which none stands
  pub none_within : (groups all : List Group) (used number : ℕ) → AreInTurn anchor (anchor.start + used) number groups image → AreGroups anchor (anchor.start + used) number all image → used + span all + 1 ≤ 128 → Bad (used + span groups) (number + length groups) → ⊥
  none_within [] [] used number turn are fits bad = are (subst (λ (k : ℕ). IsGateOpen image anchor k) (omega arith) bad.is_open)
  none_within [] (other ∷ all) used number turn are fits bad = not_bad used number other bad are.0 are.1 (omega (arith, fits))
  none_within (group ∷ groups) [] used number turn are fits bad = are turn.1.is_open
  none_within (group ∷ groups) (other ∷ all) used number turn are fits bad =
      let same : length other.images ≡ length group.images = ap (λ (g : Group). length g.images) (one_group (anchor.start + used) other group are.1 turn.1) in
      let n = length group.images in
      none_within groups all (used + (1 + n)) (number + 1) (subst (λ (k : ℕ). AreInTurn anchor k (number + 1) groups image) (next_place used n) turn.2)
      (subst (λ (k : ℕ). AreGroups anchor k (number + 1) all image) (ap (λ (m : ℕ). anchor.start + used + 1 + m) same ∙ next_place used n) are.2) (omega (arith, fits, same)) (later_bad used number group groups bad)

  -- and two such places are one
  pub one_place : (groups others : List Group) (used number : ℕ) → AreInTurn anchor (anchor.start + used) number groups image → AreInTurn anchor (anchor.start + used) number others image → used + span groups + 1 ≤ 128 → used + span others + 1 ≤ 128
      → Bad (used + span groups) (number + length groups) → Bad (used + span others) (number + length others) → span groups ≡ span others
  one_place [] [] used number turn other_turn fits other_fits bad other_bad = refl
  one_place [] (other ∷ others) used number turn other_turn fits other_fits bad other_bad = absurd (not_bad used number other bad other_turn.0 other_turn.1 (omega (arith, other_fits)))
  one_place (group ∷ groups) [] used number turn other_turn fits other_fits bad other_bad = absurd (not_bad used number group other_bad turn.0 turn.1 (omega (arith, fits)))
  one_place (group ∷ groups) (other ∷ others) used number turn other_turn fits other_fits bad other_bad =
      let same : length other.images ≡ length group.images = ap (λ (g : Group). length g.images) (one_group (anchor.start + used) other group other_turn.1 turn.1) in
      let n = length group.images in
      let rest =
      one_place groups others (used + (1 + n)) (number + 1) (subst (λ (k : ℕ). AreInTurn anchor k (number + 1) groups image) (next_place used n) turn.2)
      (subst (λ (k : ℕ). AreInTurn anchor k (number + 1) others image) (ap (λ (m : ℕ). anchor.start + used + 1 + m) same ∙ next_place used n) other_turn.2) (omega (arith, fits)) (omega (arith, other_fits, same)) (later_bad used number group groups bad)
      (subst (λ (m : ℕ). Bad (used + (1 + m) + span others) (number + 1 + length others)) same (later_bad used number other others other_bad)) in
      omega (arith, rest, same)

-- the groups of an anchor begin at its start
from_start : (anchor : Anchor) (image : Image) (groups : List Group) → AreInTurn anchor anchor.start anchor.group groups image → AreInTurn anchor (anchor.start + 0) anchor.group groups image
from_start anchor image groups turn = subst (λ (k : ℕ). AreInTurn anchor k anchor.group groups image) (omega arith) turn

from_zero : (anchor : Anchor) (image : Image) (groups : List Group) → IsNoGroup image anchor (span groups) (anchor.group + length groups) → IsNoGroup image anchor (0 + span groups) (anchor.group + length groups)
from_zero anchor image groups bad = subst (λ (k : ℕ). IsNoGroup image anchor k (anchor.group + length groups)) (omega arith) bad

-- Outcomes.

labels_not_all : (sizes : List ℕ) (image : Image) (vol at : ℕ) (anchor : Anchor) → IsLabelFault sizes image vol at → IsAnchor sizes image (Some anchor) → AreLabelled sizes image anchor → ⊥
labels_not_all sizes image vol at anchor label counts labelled =
    let same = one_anchor sizes image anchor label.anchor counts label.anchor_is in
    label.first.wrong (subst (AreLabelled sizes image) same labelled vol label.first.member)

label_not_anchor : (sizes : List ℕ) (image : Image) (vol at : ℕ) → IsLabelFault sizes image vol at → IsAnchor sizes image None ⊎ IsOutOfRange sizes image → ⊥
label_not_anchor sizes image vol at label (inl none) = no_anchor sizes image label.anchor label.anchor_is none
label_not_anchor sizes image vol at label (inr out) = labels_not_all sizes image vol at out.anchor label out.anchor_is out.labelled

anchor_not_group : (sizes : List ℕ) (image : Image) (anchor : Anchor) → HasGoodAnchor sizes image anchor → IsAnchor sizes image None ⊎ IsOutOfRange sizes image → ⊥
anchor_not_group sizes image anchor good (inl none) = no_anchor sizes image anchor good.anchor_is none
anchor_not_group sizes image anchor good (inr out) = let same = one_anchor sizes image anchor out.anchor good.anchor_is out.anchor_is in out.wrong (subst (IsInRange (label_version image)) same good.in_range)

pub has_no_fault : (sizes : List ℕ) (image : Image) (anchor : Anchor) (groups : List Group) (vol at : ℕ) → HasNoFault sizes image anchor groups vol at
has_no_fault sizes image anchor groups vol at good log (inl label) = labels_not_all sizes image vol at anchor label good.anchor_is good.labelled
has_no_fault sizes image anchor groups vol at good log (inr (inl wrong)) = anchor_not_group sizes image anchor good wrong.wrong
has_no_fault sizes image anchor groups vol at good log (inr (inr group)) =
    let same = one_anchor sizes image anchor group.anchor good.anchor_is group.good.anchor_is in
    let log' = subst (λ (a : Anchor). HasLog sizes a groups image) same log in
    let first = group.first in
    none_within group.anchor image first.groups groups 0 group.anchor.group (from_start group.anchor image first.groups first.stand) (subst (λ (k : ℕ). AreGroups group.anchor k group.anchor.group groups image) (omega arith) log'.groups_are)
    (let fits = log'.fits in omega (arith, fits)) (from_zero group.anchor image first.groups first.wrong)

one_label : (sizes : List ℕ) (image : Image) (vol at other_vol other_at : ℕ) → IsLabelFault sizes image vol at → IsLabelFault sizes image other_vol other_at → (vol ≡ other_vol) × (at ≡ other_at)
one_label sizes image vol at other_vol other_at label other = (by_order (cases_order vol other_vol), label.first.page ∙ sym other.first.page)
  where
    same : label.anchor ≡ other.anchor
    same = one_anchor sizes image label.anchor other.anchor label.anchor_is other.anchor_is

    by_order : (vol ≡ other_vol) ⊎ ((vol < other_vol) ⊎ (other_vol < vol)) → vol ≡ other_vol
    by_order (inl is) = is
    by_order (inr (inl lt)) = absurd (label.first.wrong (subst (λ (a : Anchor). IsLabelled sizes image a vol) (sym same) (other.first.before vol lt (subst (λ (a : Anchor). IsMember a vol) same label.first.member))))
    by_order (inr (inr lt)) = absurd (other.first.wrong (subst (λ (a : Anchor). IsLabelled sizes image a other_vol) same (label.first.before other_vol lt (subst (λ (a : Anchor). IsMember a other_vol) (sym same) other.first.member))))

same_end : (anchor : Anchor) (image : Image) (vol at other_vol other_at : ℕ) → IsFirstNoGroup image anchor vol at → IsFirstNoGroup image anchor other_vol other_at → (vol ≡ other_vol) × (at ≡ other_at)
same_end anchor image vol at other_vol other_at one other =
    let fits = one.fits in
    let other_fits = other.fits in
    let spans =
    one_place anchor image one.groups other.groups 0 anchor.group (from_start anchor image one.groups one.stand) (from_start anchor image other.groups other.stand) (omega (arith, fits)) (omega (arith, other_fits)) (from_zero anchor image one.groups one.wrong)
    (from_zero anchor image other.groups other.wrong) in
    (one.volume ∙ sym other.volume, one.page ∙ ap (λ (n : ℕ). ring_page anchor (anchor.start + n)) spans ∙ sym other.page)

one_group_fault : (sizes : List ℕ) (image : Image) (vol at other_vol other_at : ℕ) → IsGroupFault sizes image vol at → IsGroupFault sizes image other_vol other_at → (vol ≡ other_vol) × (at ≡ other_at)
one_group_fault sizes image vol at other_vol other_at group other =
    let same = one_anchor sizes image other.anchor group.anchor other.good.anchor_is group.good.anchor_is in
    same_end group.anchor image vol at other_vol other_at group.first (subst (λ (a : Anchor). IsFirstNoGroup image a other_vol other_at) same other.first)

pub has_one_fault : (sizes : List ℕ) (image : Image) (vol at other_vol other_at : ℕ) → HasOneFault sizes image vol at other_vol other_at
has_one_fault sizes image vol at other_vol other_at (inl label) (inl other) = one_label sizes image vol at other_vol other_at label other
has_one_fault sizes image vol at other_vol other_at (inl label) (inr (inl anchor)) = absurd (label_not_anchor sizes image vol at label anchor.wrong)
has_one_fault sizes image vol at other_vol other_at (inl label) (inr (inr group)) = absurd (labels_not_all sizes image vol at group.anchor label group.good.anchor_is group.good.labelled)
has_one_fault sizes image vol at other_vol other_at (inr (inl anchor)) (inl label) = absurd (label_not_anchor sizes image other_vol other_at label anchor.wrong)
has_one_fault sizes image vol at other_vol other_at (inr (inl anchor)) (inr (inl other)) = (anchor.volume ∙ sym other.volume, anchor.page ∙ sym other.page)
has_one_fault sizes image vol at other_vol other_at (inr (inl anchor)) (inr (inr group)) = absurd (anchor_not_group sizes image group.anchor group.good anchor.wrong)
has_one_fault sizes image vol at other_vol other_at (inr (inr group)) (inl label) = absurd (labels_not_all sizes image other_vol other_at group.anchor label group.good.anchor_is group.good.labelled)
has_one_fault sizes image vol at other_vol other_at (inr (inr group)) (inr (inl anchor)) = absurd (anchor_not_group sizes image group.anchor group.good anchor.wrong)
has_one_fault sizes image vol at other_vol other_at (inr (inr group)) (inr (inr other)) = one_group_fault sizes image vol at other_vol other_at group other

pub has_one_log : (sizes : List ℕ) (image : Image) (anchor : Anchor) (groups others : List Group) (redone : Redone) → HasOneLog sizes image anchor groups others redone
has_one_log sizes image anchor groups others redone log found =
    let same = one_anchor sizes image anchor redone.anchor log.anchor_is found.log.anchor_is in
    let log' = subst (λ (a : Anchor). HasLog sizes a groups image) same log in
    (same, one_way one_header redone.anchor redone.anchor.start redone.anchor.group groups others image log'.groups_are found.log.groups_are)
