-- What images are read as while a log is settled.
use Rattle.std.proofs.Common.{◌≡◌, ◌≢◌, ◌⊎◌, ◌-◌, ℕ, List, [], Some, inl, inr, refl, sym, ◌∙◌, ap, subst}
use Rattle.log_ring.specs.domain_base.declared.place.Home.{Home}
use Rattle.log_ring.specs.page_store.Pages.{Pages}
use Rattle.log_ring.specs.volume_disk.Disk.{Disk, IsSettled, MayLeave, Tells}
use Rattle.log_ring.specs.volume_disk.Image.{Image}
use Rattle.log_ring.specs.volume_disk.Run.{LeavesOnly, OnlyReads}
use Rattle.log_ring.proofs.OfVolumeDisk.Laws.{both, leaves-now, only_reads-leaves, then_on, weaker}
use Rattle.log_ring.specs.disk_label.Anchor.{IsAnchor}
use Rattle.log_ring.specs.disk_label.Slot.{ReadiesSlot}
use Rattle.log_ring.specs.disk_label.declared.anchor.Anchor.{Anchor}
use Rattle.log_ring.proofs.OfDiskLabel.Slots.{IsAnchorBelow-unique}
use Rattle.log_ring.specs.Groups.{Group, HasLog, pages_in, redone}
use Rattle.log_ring.specs.Settling.{BringsHome, HasBroughtHome, IsRedoneAs, MeansTheSame}
use Rattle.log_recovery.specs.Laws.{IsAsRecovered, IsReadyToSettle}
use Rattle.log_recovery.specs.Outcome.{HasGoodAnchor, HasRecovered}
use Rattle.log_recovery.specs.Readable.{IsReadable, IsRestartOf, SettlesReadably, restarted}
use Rattle.log_recovery.specs.Settled.{settled_anchor}
use Rattle.log_recovery.specs.declared.redone.Redone.{Redone}
use Rattle.log_recovery.proofs.OneOutcome.{has_one_log}
use Rattle.log_recovery.proofs.Readied.{stays_recovered}
use Rattle.log_recovery.proofs.SettledAnchors.{settles_as_moves}
use Rattle.log_recovery.specs.Settling.{ReadsAs}

-- of an image that recovery takes, the anchor is good
pub good_is : (sizes : List ℕ) (image : Image) (anchor : Anchor) → IsReadable sizes image → IsAnchor sizes image (Some anchor) → HasGoodAnchor sizes image anchor
good_is sizes image anchor read is =
    let same : Some read.anchor ≡ Some anchor = IsAnchorBelow-unique 16 sizes image (Some read.anchor) (Some anchor) read.good.anchor_is is in
    let one : read.anchor ≡ anchor = cc in
    subst (HasGoodAnchor sizes image) one read.good

-- an image that means the same, and that recovery takes, is read as the one of before
pub reads_from : (old : Disk) (anchor : Anchor) (groups : List Group) (next : Anchor) (image : Image) → IsRestartOf anchor next → MeansTheSame old anchor groups next image → IsReadable old.sizes image
    → (before : Image) × MayLeave old.now before × ReadsAs old.sizes anchor (redone groups before) image
reads_from old anchor groups next image restarts means read = (means.before, means.left, go means.same)
  where
    go : (HasLog old.sizes anchor groups image × IsRedoneAs groups means.before groups image) ⊎ (HasLog old.sizes next [] image × IsRedoneAs groups means.before [] image) → ReadsAs old.sizes anchor (redone groups means.before) image
    go (inl is) = record { anchor = anchor; groups = groups; good = good_is old.sizes image anchor read is.0.anchor_is; restarts = refl; log = is.0; same = is.1 }
    go (inr is) = record { anchor = next; groups = []; good = good_is old.sizes image next read is.0.anchor_is; restarts = restarts; log = is.0; same = is.1 }

-- an anchor that differs so from one that differs so from a third
restarts_too : (first second third : Anchor) → IsRestartOf first second → IsRestartOf second third → IsRestartOf first third
restarts_too first second third is more = more ∙ ap (λ (a : Anchor). restarted a third.number third.slot third.start third.group) is

-- what is read as some pages is read as the same pages
pub reads_same : (sizes others : List ℕ) (first second : Anchor) (one other : Pages) (image : Image) → sizes ≡ others → IsRestartOf first second → ((home : Home) → home.page ≢ 1 → one home ≡ other home) → ReadsAs sizes second one image → ReadsAs others first other image
reads_same sizes others first second one other image size restarts same reads = record {
  anchor = reads.anchor;
  groups = reads.groups;
  good = subst (λ (l : List ℕ). HasGoodAnchor l image reads.anchor) size reads.good;
  restarts = restarts_too first second reads.anchor restarts reads.restarts;
  log = subst (λ (l : List ℕ). HasLog l reads.anchor reads.groups image) size reads.log;
  same = λ home beside. reads.same home beside ∙ same home beside;
}

-- A log that is settled where nothing was pending.
module _ (d0 : Disk) (settled : IsSettled d0.now) (told : Tells d0) (first : Anchor) (pages : Pages) (was : ReadsAs d0.sizes first pages d0.now.contents) where
  abbrev Still : Image → Type 0
  Still = ReadsAs d0.sizes first pages

  at_start : (image : Image) → MayLeave d0.now image → Still image
  at_start image left = subst Still (λ i v k. sym (left.synced v k (settled v k)) i) was

  -- by reads alone
  pub only_read : (d1 : Disk) → OnlyReads d0 d1 → LeavesOnly d0 d1 Still
  only_read d1 reads = only_reads-leaves d0 d1 Still told reads at_start

  module _ (d1 : Disk) (reads : OnlyReads d0 d1) (found : Redone) (groups : List Group) (recovered : HasRecovered d0.sizes d0.now.contents groups found) where
    found_restarts : IsRestartOf first found.anchor
    found_restarts = subst (IsRestartOf first) (has_one_log d0.sizes d0.now.contents was.anchor was.groups groups found was.log recovered).0 was.restarts

    pages_found : (home : Home) → home.page ≢ 1 → redone groups d0.now.contents home ≡ pages home
    pages_found home beside =
        let same : was.groups ≡ groups = (has_one_log d0.sizes d0.now.contents was.anchor was.groups groups found was.log recovered).1 in
        ap (λ (g : List Group). redone g d0.now.contents home) (sym same) ∙ was.same home beside

    as_read : (image : Image) → IsAsRecovered d0 groups found image → Still image
    as_read image is = record { anchor = found.anchor; groups = groups; good = is.good; restarts = found_restarts; log = is.log; same = λ home beside. is.same home beside ∙ pages_found home beside }

    -- while the slot is made ready
    module _ (d2 : Disk) (readies : ReadiesSlot d1 d2 found.anchor.log_vol (1 - found.anchor.slot)) where
      so_far : LeavesOnly d0 d2 (IsAsRecovered d0 groups found)
      so_far = stays_recovered d0 d1 d2 groups found told settled recovered reads readies

      pub slot_readied : LeavesOnly d0 d2 Still
      slot_readied = weaker d0 d2 (IsAsRecovered d0 groups found) Still as_read so_far

      -- and while it is settled
      module _ (to_settle : IsReadyToSettle d2 groups found) (d3 : Disk) (brings : BringsHome d2 d3 found.images (settled_anchor found)) (readable : SettlesReadably d2 d3 found) where
        told-2 : Tells d2
        told-2 = readies.touches.told ∙ reads.touches.told ∙ told

        sizes : d2.sizes ≡ d0.sizes
        sizes = readies.touches.sizes ∙ reads.touches.sizes

        pages_before : (before : Image) → MayLeave d2.now before → (home : Home) → home.page ≢ 1 → redone groups before home ≡ pages home
        pages_before before left home beside = (leaves-now d0 d2 (IsAsRecovered d0 groups found) so_far before left).same home beside ∙ pages_found home beside

        abbrev Means : Image → Type 0
        Means = MeansTheSame d2 found.anchor groups (settled_anchor found)

        means : LeavesOnly d2 d3 Means
        means = brings.any_moment told-2 found.anchor groups (settles_as_moves d2 groups found to_settle.may_settle)

        read : LeavesOnly d2 d3 (IsReadable d2.sizes)
        read = readable told-2 groups to_settle.may_settle to_settle.good

        since : (image : Image) → Means image × IsReadable d2.sizes image → Still image
        since image is =
            let from = reads_from d2 found.anchor groups (settled_anchor found) image refl is.0 is.1 in
            reads_same d2.sizes d0.sizes first found.anchor (redone groups from.0) pages image sizes found_restarts (pages_before from.0 from.1) from.2

        pub log_settled : LeavesOnly d0 d3 Still
        log_settled = then_on d0 d2 d3 Still slot_readied (weaker d2 d3 (λ image. Means image × IsReadable d2.sizes image) Still since (both d2 d3 Means (IsReadable d2.sizes) means read))

        -- in the end the pages are home
        pub pages_home : HasBroughtHome d2 d3 found.images (settled_anchor found) → (image : Image) → MayLeave d3.now image → (home : Home) → home.page ≢ 1 → pages_in image home ≡ pages home
        pages_home done image left home beside =
            let from = done.same told-2 found.anchor groups (settles_as_moves d2 groups found to_settle.may_settle) image left in from.2 home beside ∙ pages_before from.0 from.1 home beside
