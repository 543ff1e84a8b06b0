-- What recovery finds, put together.
use Rattle.std.proofs.Common.{◌≡◌, ◌⊎◌, ℕ, ◌+◌, ◌%◌, List, Some, length, inl, inr, refl, sym, ◌∙◌, ap, subst, arith}
use Rattle.std.proofs.lemmas.Bool.{cases_lt}
use Rattle.log_ring.specs.domain_base.declared.version.Version.{Version}
use Rattle.log_ring.specs.volume_disk.Image.{Image}
use Rattle.log_ring.specs.disk_label.Anchor.{IsAnchor}
use Rattle.log_ring.specs.disk_label.declared.anchor.Anchor.{Anchor}
use Rattle.log_ring.specs.Groups.{Group, HasLog, span}
use Rattle.log_ring.specs.Homes.{IsMember, member_of}
use Rattle.log_ring.specs.Ring.{IsGateOpen}
use Rattle.log_recovery.specs.Groups.{HasScannedAll, IsFirstNoGroup}
use Rattle.log_recovery.specs.Members.{AreLabelled, AreLabelledBelow, AreVersionsBelow, IsFirstUnlabelled, label_version, version_in}
use Rattle.log_recovery.specs.Outcome.{HasGoodAnchor, HasRecovered, IsFirstFault}
use Rattle.log_recovery.specs.Range.{IsInRange, IsLogInside, IsSized}
use Rattle.log_recovery.specs.declared.redone.Redone.{Redone}
use Rattle.log_recovery.specs.declared.scan.Scan.{Scan}
use Rattle.log_recovery.proofs.Scanning.{turn_ends}

-- all members have labels where those below the ninth have
pub labelled_all : (sizes : List ℕ) (image : Image) (anchor : Anchor) → AreLabelledBelow 9 sizes image anchor → AreLabelled sizes image anchor
labelled_all sizes image anchor below vol member = below vol (let last = member.last in omega (arith, last)) member

-- a volume is a member or it is none
member_or_not : (anchor : Anchor) (vol : ℕ) → IsMember anchor vol ⊎ (¬ IsMember anchor vol)
member_or_not anchor vol = elim (cases_lt 8 vol) [
  | inl far ↦ inr (λ member. omega (arith, far, member.last))
  | inr near ↦ elim (cases_lt vol 1) [
    | inl zero ↦ inr (λ member. omega (arith, zero, member.first))
    | inr some ↦ elim (cases_lt (member_of anchor vol).state 1) [
      | inl none ↦ inr (λ member. omega (arith, none, member.there))
      | inr used ↦ elim (cases_lt 2 (member_of anchor vol).state) [ inl more ↦ inr (λ member. omega (arith, more, member.whole)) | inr known ↦ inl (record { first = some; last = near; there = used; whole = known }) ]
    ]
  ]
]

-- an anchor in range for some versions is so for others that members have as well
module _ (anchor : Anchor) (one other : ℕ → Version) (same : (vol : ℕ) → IsMember anchor vol → one vol ≡ other vol) where
  pub range-same : IsInRange one anchor → IsInRange other anchor
  range-same was = record {
    whole = was.whole;
    numbers = was.numbers;
    sized = λ vol first lt. sized vol (member_or_not anchor vol) (was.sized vol first lt);
    log = subst (λ (version : Version). IsLogInside version anchor) (same anchor.log_vol log_member) was.log;
    table = was.table;
  }
    where
      sized : (vol : ℕ) → IsMember anchor vol ⊎ (¬ IsMember anchor vol) → IsSized (one vol) anchor vol → IsSized (other vol) anchor vol
      sized vol (inl member) is = subst (λ (version : Version). IsSized version anchor vol) (same vol member) is
      sized vol (inr none) is = record { state = is.state; least = is.least; most = λ member. absurd (none member) }

      log_member : IsMember anchor anchor.log_vol
      log_member = record { first = was.whole.volume.0; last = was.whole.volume.1; there = was.whole.member.0; whole = was.whole.member.1 }

-- an anchor with these labels is out of range
pub out_of_range : (sizes : List ℕ) (image : Image) (anchor : Anchor) (versions : List Version) → AreLabelledBelow 9 sizes image anchor → AreVersionsBelow 9 image anchor versions → ¬ IsInRange (version_in versions) anchor → IsAnchor sizes image (Some anchor)
    → IsFirstFault sizes image 1 1
out_of_range sizes image anchor versions labelled read wrong counts =
    inr (inl (record {
      volume = refl;
      page = refl;
      wrong = inr (record {
        anchor = anchor;
        anchor_is = counts;
        labelled = labelled_all sizes image anchor labelled;
        wrong = λ is. wrong (range-same anchor (label_version image) (version_in versions) (λ vol member. sym (read vol (let last = member.last in omega (arith, last)) member)) is);
      });
    }))

pub in_range : (image : Image) (anchor : Anchor) (versions : List Version) → AreVersionsBelow 9 image anchor versions → IsInRange (version_in versions) anchor → IsInRange (label_version image) anchor
in_range image anchor versions read is = range-same anchor (version_in versions) (label_version image) (λ vol member. read vol (let last = member.last in omega (arith, last)) member) is

pub unlabelled : (sizes : List ℕ) (image : Image) (anchor : Anchor) (vol at : ℕ) → IsAnchor sizes image (Some anchor) → IsFirstUnlabelled sizes image anchor vol at → IsFirstFault sizes image vol at
unlabelled sizes image anchor vol at counts first = inl (record { anchor = anchor; anchor_is = counts; first = first })

pub no_group_there : (sizes : List ℕ) (image : Image) (anchor : Anchor) (vol at : ℕ) → HasGoodAnchor sizes image anchor → IsFirstNoGroup image anchor vol at → IsFirstFault sizes image vol at
no_group_there sizes image anchor vol at good first = inr (inr (record { anchor = anchor; good = good; first = first }))

-- a log is recovered
pub recovered : (sizes : List ℕ) (image : Image) (anchor : Anchor) (scan : Scan) (redone : Redone) → redone.anchor ≡ anchor → redone.images ≡ scan.images.items → redone.next_group ≡ scan.next → redone.next_place ≡ (anchor.start + scan.used) % 128
    → HasGoodAnchor sizes image anchor → HasScannedAll image anchor scan → (groups : List Group) × HasRecovered sizes image groups redone
recovered sizes image anchor scan redone is images next place good all =
    let groups = all.groups in (
      groups,
      record {
        good = subst (HasGoodAnchor sizes image) (sym is) good;
        log = subst (λ (a : Anchor). HasLog sizes a groups image) (sym is) (record {
          anchor_is = good.anchor_is;
          groups_are = turn_ends anchor image groups anchor.start anchor.group all.scanned.stand (subst (λ (used : ℕ). ¬ IsGateOpen image anchor (anchor.start + used)) (sym all.scanned.used) all.closed);
          fits = all.scanned.fits;
        });
        images = all.scanned.images ∙ sym images;
        next_group = next ∙ sym all.scanned.next ∙ ap (λ (a : Anchor). a.group + length groups) (sym is);
        next_place = place ∙ ap (λ (used : ℕ). (anchor.start + used) % 128) (sym all.scanned.used) ∙ ap (λ (a : Anchor). (a.start + span groups) % 128) (sym is);
      },
    )
