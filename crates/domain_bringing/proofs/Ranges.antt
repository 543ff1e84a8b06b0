-- What the anchor of an image says lies within the members.
use Rattle.std.proofs.Common.{◌≡◌, ◌∙◌, ℕ, ◌+◌, ◌^◌, ◌≤◌, List, IsSomeAnd, refl, subst, arith}
use Rattle.domain_faults.specs.domain_base.Version.{bitmap_pages, most_pages, number_of}
use Rattle.domain_faults.specs.domain_base.declared.version.Version.{Version}
use Rattle.domain_faults.specs.domain_base.declared.version.Version.TheVariants.{Four, Three}
use Rattle.domain_faults.specs.volume_disk.Image.{Image}
use Rattle.domain_faults.specs.disk_label.Anchor.{IsWhole}
use Rattle.domain_faults.specs.disk_label.declared.anchor.Anchor.{Anchor}
use Rattle.domain_faults.specs.log_ring.Groups.{Group}
use Rattle.domain_faults.specs.log_ring.Homes.{IsMember, member_of}
use Rattle.domain_faults.specs.log_recovery.Members.{label_version}
use Rattle.domain_faults.specs.log_recovery.Outcome.{HasGoodAnchor, HasRecovered}
use Rattle.domain_faults.specs.log_recovery.Range.{IsLogInside}
use Rattle.domain_faults.specs.log_recovery.Range as recovery
use Rattle.domain_faults.specs.log_recovery.declared.redone.Redone.{Redone}
use Rattle.domain_faults.specs.domain_layout.Reached.{Frame, IsWithin}
use Rattle.domain_bringing.specs.Brought.{IsGoodFrame}
use Rattle.domain_bringing.specs.Range.{IsInRange, IsSized}

-- ---- numbers of pages

few_bitmaps : (version : Version) (pages : ℕ) → 64 ≤ pages → 2 + bitmap_pages version pages ≤ pages
few_bitmaps Three pages enough = omega (arith, enough)
few_bitmaps Four pages enough = omega (arith, enough)

small_by : (version : Version) (pages : ℕ) → pages ≤ most_pages version → pages ≤ 2 ^ 32
small_by Three pages most = omega (arith, most)
small_by Four pages most = omega (arith, most)

no_three : {P : Type 0} → Four ≡ Three → P
no_three is = absurd (cc)

-- a version that a label may have under an anchor of another
most_under : (version label : Version) (pages : ℕ) → (number_of version ≡ 3 → label ≡ Three) → pages ≤ most_pages label → pages ≤ most_pages version
most_under Three Three pages under most = most
most_under Three Four pages under most = no_three (under refl)
most_under Four Three pages under most = omega (arith, most)
most_under Four Four pages under most = most

bitmap_under : (version label : Version) (pages page : ℕ) → (number_of version ≡ 3 → label ≡ Three) → pages ≤ most_pages label → 2 + bitmap_pages label pages ≤ page → 2 + bitmap_pages version pages ≤ page
bitmap_under Three Three pages page under most behind = behind
bitmap_under Three Four pages page under most behind = no_three (under refl)
bitmap_under Four Three pages page under most behind = omega (arith, most, behind)
bitmap_under Four Four pages page under most behind = behind

-- ---- an anchor that counts

module _ (sizes : List ℕ) (image : Image) (anchor : Anchor) (version : Version) (is : anchor.version ≡ number_of version) (good : HasGoodAnchor sizes image anchor) where
  abbrev frame : Frame
  frame = record { anchor = anchor; version = version }

  under : (vol : ℕ) → IsMember anchor vol → number_of version ≡ 3 → label_version image vol ≡ Three
  under vol member three = (good.labelled vol member).version (is ∙ three)

  said : (vol : ℕ) → IsMember anchor vol → recovery.IsSized (label_version image vol) anchor vol
  said vol member = good.in_range.sized vol member.first (omega (arith, member.last))

  most : (vol : ℕ) → IsMember anchor vol → (member_of anchor vol).pages ≤ most_pages version
  most vol member = most_under version (label_version image vol) (member_of anchor vol).pages (under vol member) ((said vol member).most member)

  log_member : IsMember anchor anchor.log_vol
  log_member = record { first = good.in_range.whole.volume.0; last = good.in_range.whole.volume.1; there = good.in_range.whole.member.0; whole = good.in_range.whole.member.1 }

  pub in_range : IsInRange frame
  in_range = record {
    sized = λ vol first last. record {
      most = most vol;
      bitmap = λ member. few_bitmaps version (member_of anchor vol).pages ((said vol member).least member);
    };
    log = record {
      within = good.in_range.log.within;
      behind = bitmap_under version (label_version image anchor.log_vol) (member_of anchor anchor.log_vol).pages anchor.log_page (under anchor.log_vol log_member) ((said anchor.log_vol log_member).most log_member) good.in_range.log.behind;
    };
    table = good.in_range.table;
  }

-- so it is never refused for that
pub recovered_in_range : (version : Version) (found : Redone) → found.anchor.version ≡ number_of version → ¬ IsInRange (record { anchor = found.anchor; version = version }) → (sizes : List ℕ) (image : Image) (groups : List Group) → HasRecovered sizes image groups found → ⊥
recovered_in_range version found is out sizes image groups has = out (in_range sizes image found.anchor version is has.good)

-- ---- a frame in range

pub good_frame : (anchor : Anchor) (version : Version) → IsWhole anchor → anchor.version ≡ number_of version → IsInRange (record { anchor = anchor; version = version }) → IsGoodFrame (record { anchor = anchor; version = version })
good_frame anchor version whole is range = record {
  named = (is, whole.table);
  inside = record {
    table = λ home at. subst (λ o. IsSomeAnd o (IsWithin (record { anchor = anchor; version = version }))) at range.table;
    bitmaps = λ vol member. (sized vol member).bitmap member;
    small = λ vol member. small_by version (member_of anchor vol).pages ((sized vol member).most member);
  };
  log = range.log;
  few = λ vol member. (sized vol member).most member;
}
  where
    sized : (vol : ℕ) → IsMember anchor vol → IsSized (record { anchor = anchor; version = version }) vol
    sized vol member = range.sized vol member.first (omega (arith, member.last))
