-- The pages and the anchor of a new domain, written.
use Rattle.std.proofs.Common.{◌≡◌, ◌∙◌, ◌==◌, inl, inr, ℕ, ◌-◌, ◌*◌, ◌<◌, ◌≤◌, cond, true, Option, Some, None, refl, sym, ap, subst, arith, ⊎_elim}
use Rattle.std.proofs.lemmas.Bool.{eq-eqb}
use Rattle.domain_layout.specs.domain_base.Version.{most_pages}
use Rattle.domain_layout.specs.domain_base.declared.version.Version.{Version}
use Rattle.domain_layout.specs.volume_disk.Disk.{Disk, MayLeave, Tells, volume_pages}
use Rattle.domain_layout.specs.volume_disk.Image.{AreBytes, Image, IsIn}
use Rattle.domain_layout.specs.volume_disk.Run.{LeavesOnly, MayLeaveTorn, OnlyWrites, Touches}
use Rattle.domain_layout.proofs.OfVolumeDisk.Laws.{both, leaves-now, only_writes-then, only_writes-wider, then_on, touches-then, touches-wider, untorn, weaker}
use Rattle.domain_layout.specs.disk_label.Anchor.{IsAnchor, IsNext, IsWhole}
use Rattle.domain_layout.specs.disk_label.FirstPages.{first_pages}
use Rattle.domain_layout.specs.disk_label.Slot.{HasAnchor, HasWritten, IsOldOrNew, IsOnAnchors, IsReady, IsReadyFor, IsSlot, WritesAnchor}
use Rattle.domain_layout.proofs.OfDiskLabel.Bodies.{number_of-cases}
use Rattle.domain_layout.proofs.OfDiskLabel.Elsewhere.{anchor_since, ready_still}
use Rattle.domain_layout.specs.disk_label.declared.anchor.Anchor.{Anchor}
use Rattle.domain_making.specs.Making.{AreSlotsReady, IsEmptyDomain, IsMade, IsNoneOrEmpty, IsOnFirst, new_anchor}
use Rattle.domain_making.specs.Pages.{AreNew}
use Rattle.domain_making.specs.Written.{HasNewLabel, HasNewPages, IsBehindLabel, IsFirstSynced, IsInFront, IsOnPages}
use Rattle.domain_making.specs.declared.pages.NewPages.{NewPages}
use Rattle.domain_making.proofs.Empty.{empty_domain}
use Rattle.domain_making.proofs.Regions.{bytes_same, length-label, pages_same}

-- ---- places

pages_behind : (version : Version) (pages : ℕ) (v k : ℕ) → IsOnPages (first_pages version pages) v k → IsBehindLabel (first_pages version pages) v k
pages_behind version pages v k is_in = (is_in.0, omega (arith, is_in.1), omega (arith, is_in.2))

slot_behind : (version : Version) (pages : ℕ) (v k : ℕ) → IsSlot 1 0 v k → IsBehindLabel (first_pages version pages) v k
slot_behind version pages v k is_in = (is_in.0, omega (arith, is_in.1), omega (arith, is_in.2))

pages_beside : (version : Version) (pages : ℕ) (v k : ℕ) → IsOnPages (first_pages version pages) v k → ¬ IsOnAnchors v k
pages_beside version pages v k is_in there = omega (arith, is_in.1, there.1)

-- what is written is on the first volume
pub on_first : (d0 d1 : Disk) (from n : ℕ) → Touches d0 d1 (IsIn 1 from n) → Touches d0 d1 IsOnFirst
on_first d0 d1 from n touches = touches-wider d0 d1 (IsIn 1 from n) IsOnFirst (λ v k is_in. is_in.0) touches

-- ---- the anchor

pub is_whole : (version : Version) (pages : ℕ) → IsWhole (new_anchor version pages)
is_whole version pages = record {
  version = number_of-cases version;
  volume = (omega arith, omega arith);
  slot = omega arith;
  member = (omega arith, omega arith);
  table = refl;
}

-- both slots are ready, so no image has an anchor
pub none_yet : (disk : Disk) → AreSlotsReady disk → HasAnchor disk None
none_yet disk ready image left = ready.0 image (untorn _ disk.now image left)

held : (disk : Disk) → AreBytes disk.now.contents → MayLeave disk.now disk.now.contents
held disk bytes = record { synced = λ v k synced. refl; bytes = bytes }

-- ---- the pages are written

module _ (version : Version) (pages : ℕ) (d0 d1 : Disk) (told : Tells d0) (first : OnlyWrites d0 d1 (IsOnPages (first_pages version pages))) (ready : AreSlotsReady d0) where
  pub ready_1 : AreSlotsReady d1
  ready_1 = (
    ready_still d0 d1 (IsOnPages (first_pages version pages)) told first.touches (pages_beside version pages) None 1 0 ready.0,
    ready_still d0 d1 (IsOnPages (first_pages version pages)) told first.touches (pages_beside version pages) None 1 1 ready.1,
  )

  pub pages_since : LeavesOnly d0 d1 (λ image. IsAnchor d0.sizes image None)
  pages_since = anchor_since d0 d1 (IsOnPages (first_pages version pages)) told first.touches (pages_beside version pages) None (none_yet d0 ready)

  pub none_or_empty : LeavesOnly d0 d1 (IsNoneOrEmpty d0.sizes version pages)
  none_or_empty = weaker d0 d1 (λ image. IsAnchor d0.sizes image None) (IsNoneOrEmpty d0.sizes version pages) (λ image none. inl none) pages_since

  -- so a first anchor may follow
  pub may_follow : AreBytes d1.now.contents → (before : Option Anchor) × IsAnchor d1.sizes d1.now.contents before × IsNext before (new_anchor version pages)
  may_follow bytes = (None, none_yet d1 ready_1 d1.now.contents (held d1 bytes), (refl, refl))

  pub label_1 : HasNewLabel version pages d0.now.contents → HasNewLabel version pages d1.now.contents
  label_1 label =
      bytes_same (8192 * 0) _ d0.now.contents d1.now.contents
      (λ k low high. let long = length-label pages version in first.touches.contents told 1 k (λ is_in. omega (arith, is_in.1, high, long))) label

-- ---- the anchor is written

module _ (version : Version) (pages : ℕ) (room : (first_pages version pages).table < pages) (most : pages ≤ most_pages version) (new : NewPages) (are : AreNew version pages new) (d1 d2 : Disk) (there : pages ≤ volume_pages d1.sizes 1)
    (told : Tells d1) (synced : IsFirstSynced d1.now) (label : HasNewLabel version pages d1.now.contents) (has : HasNewPages (first_pages version pages) new d1.now.contents) (ready : AreSlotsReady d1)
    (writes : WritesAnchor d1 d2 (new_anchor version pages)) where
  -- an image with the anchor that is torn in its slot alone
  empty_torn : (image : Image) → MayLeaveTorn (IsSlot 1 0) d1.now image → IsAnchor d1.sizes image (Some (new_anchor version pages)) → IsEmptyDomain d1.sizes (new_anchor version pages) image
  empty_torn image torn is =
      empty_domain version pages room most d1.sizes there new are image
      (bytes_same (8192 * 0) _ d1.now.contents image (λ k low high. let long = length-label pages version in same k (λ is_in. omega (arith, is_in.1, high, long))) label)
      (pages_same (first_pages version pages) new d1.now.contents image (omega arith) (omega arith) (omega arith) (λ k low. same k (λ is_in. omega (arith, is_in.2, low))) has)
      is
    where
      same : (k : ℕ) → ¬ IsSlot 1 0 1 k → image 1 k ≡ d1.now.contents 1 k
      same k out = torn.2 1 k out ∙ torn.1.synced 1 k (synced k)

  since : LeavesOnly d1 d2 (λ image. IsOldOrNew d1.sizes None (new_anchor version pages) image × MayLeaveTorn (IsSlot 1 0) d1.now image)
  since = both d1 d2 _ (MayLeaveTorn (IsSlot 1 0) d1.now) (writes.any_moment told None ready.0) (writes.writes.touches.tears told)

  pub anchor_since_pages : LeavesOnly d1 d2 (IsNoneOrEmpty d1.sizes version pages)
  anchor_since_pages =
      weaker d1 d2 _ (IsNoneOrEmpty d1.sizes version pages)
      (λ image is. ⊎_elim (λ none. inl none) (λ some. inr (empty_torn image is.1 some)) is.0) since

  module _ (bytes : AreBytes d2.now.contents) (written : HasWritten d1 d2 (new_anchor version pages)) where
    images : (image : Image) → MayLeave d2.now image → IsEmptyDomain d2.sizes (new_anchor version pages) image
    images image left =
        let torn = leaves-now d1 d2 (MayLeaveTorn (IsSlot 1 0) d1.now) (writes.writes.touches.tears told) image left in
        let sizes = writes.writes.touches.sizes in
        let is = subst (λ s. IsAnchor s image (Some (new_anchor version pages))) sizes (written.has_new told None ready.0 image left) in
        subst (λ s. IsEmptyDomain s (new_anchor version pages) image) (sym sizes) (empty_torn image torn is)

    second : IsReady d2 (Some (new_anchor version pages)) 1 1
    second = written.others told None 1 1 ready.0 ready.1 (λ stands. omega (arith, stands.1))

    next_ready : (next : Anchor) → IsNext (Some (new_anchor version pages)) next → next.log_vol ≡ 1 → IsReadyFor d2 (Some (new_anchor version pages)) next
    next_ready next is same =
        let test : (next.log_vol == 1) ≡ true = eq-eqb next.log_vol 1 same in
        let slot : next.slot ≡ 1 = is.1 ∙ ap (λ b. cond b (1 - 0) 0) test in
        subst (λ v. IsReady d2 (Some (new_anchor version pages)) v next.slot) (sym same)
        (subst (λ s. IsReady d2 (Some (new_anchor version pages)) 1 s) (sym slot) second)

    pub is_made : IsMade d2 (new_anchor version pages)
    is_made = record {
      contents = images d2.now.contents (held d2 bytes);
      images = images;
      synced = (written.settled told).here;
      next = next_ready;
    }

module _ (version : Version) (pages : ℕ) (d0 d1 : Disk) (first : OnlyWrites d0 d1 (IsOnPages (first_pages version pages))) where
  pub pages_writes : OnlyWrites d0 d1 (IsBehindLabel (first_pages version pages))
  pages_writes = only_writes-wider d0 d1 (IsOnPages (first_pages version pages)) (IsBehindLabel (first_pages version pages)) (pages_behind version pages) first

pub both_writes : (version : Version) (pages : ℕ) (d0 d1 d2 : Disk) → OnlyWrites d0 d1 (IsOnPages (first_pages version pages)) → OnlyWrites d1 d2 (IsSlot 1 0) → OnlyWrites d0 d2 (IsBehindLabel (first_pages version pages))
both_writes version pages d0 d1 d2 first second =
    only_writes-then d0 d1 d2 (IsBehindLabel (first_pages version pages)) (pages_writes version pages d0 d1 first)
    (only_writes-wider d1 d2 (IsSlot 1 0) (IsBehindLabel (first_pages version pages)) (slot_behind version pages) second)

-- one after the other, with what each image has
pub since_both : (version : Version) (pages : ℕ) (d0 d1 d2 : Disk) → d1.sizes ≡ d0.sizes → LeavesOnly d0 d1 (IsNoneOrEmpty d0.sizes version pages) → LeavesOnly d1 d2 (IsNoneOrEmpty d1.sizes version pages)
    → LeavesOnly d0 d2 (IsNoneOrEmpty d0.sizes version pages)
since_both version pages d0 d1 d2 same one two =
    then_on d0 d1 d2 (IsNoneOrEmpty d0.sizes version pages) one (subst (λ s. LeavesOnly d1 d2 (IsNoneOrEmpty s version pages)) same two)

pub none_first : (version : Version) (pages : ℕ) (d0 d1 : Disk) → LeavesOnly d0 d1 (λ image. IsAnchor d0.sizes image None) → LeavesOnly d0 d1 (IsNoneOrEmpty d0.sizes version pages)
none_first version pages d0 d1 = weaker d0 d1 (λ image. IsAnchor d0.sizes image None) (IsNoneOrEmpty d0.sizes version pages) (λ image none. inl none)

pub all_on_first : (version : Version) (pages : ℕ) (d0 d1 d2 : Disk) → Touches d0 d1 IsInFront → Touches d1 d2 (IsBehindLabel (first_pages version pages)) → Touches d0 d2 IsOnFirst
all_on_first version pages d0 d1 d2 one two =
    touches-then d0 d1 d2 IsOnFirst (on_first d0 d1 0 16384 one) (on_first d1 d2 8192 (8192 * (first_pages version pages).table) two)
