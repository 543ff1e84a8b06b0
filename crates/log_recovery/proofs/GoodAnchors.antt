-- A good anchor stays good while the labels stay, and recovery takes the images left meanwhile.
use Rattle.std.proofs.Common.{◌≡◌, ◌⊎◌, ◌==◌, ℕ, ◌+◌, ◌-◌, ◌^◌, ◌<◌, ◌≤◌, List, [], Option, Some, None, IsSomeAnd, if◌then◌else◌, sym, ◌∙◌, ap, subst, inl, inr, arith}
use Rattle.std.proofs.lemmas.List.Elements.{All-weaker}
use Rattle.log_ring.specs.domain_base.declared.place.Home.{Home}
use Rattle.log_ring.specs.domain_base.declared.version.Version.TheVariants.{Three, Four}
use Rattle.log_ring.specs.volume_disk.Disk.{Disk, MayLeave, volume_pages}
use Rattle.log_ring.specs.volume_disk.Image.{Image, Places, SameOutside}
use Rattle.log_ring.specs.volume_disk.Run.{MayLeaveTorn}
use Rattle.log_ring.proofs.OfVolumeDisk.Bytes.{bytes_from-same}
use Rattle.log_ring.proofs.OfVolumeDisk.Laws.{both, touches-stays, weaker}
use Rattle.log_ring.specs.disk_label.Anchor.{IsAnchor}
use Rattle.log_ring.specs.disk_label.Body.{word_at}
use Rattle.log_ring.specs.disk_label.Label.{IsLabel, label_block}
use Rattle.log_ring.specs.disk_label.declared.anchor.Anchor.{Anchor}
use Rattle.log_ring.proofs.OfDiskLabel.Elsewhere.{IsAnchor-elsewhere}
use Rattle.log_ring.specs.declared.image.PageImage.{PageImage}
use Rattle.log_ring.specs.Groups.{Group, HasLog}
use Rattle.log_ring.specs.Homes.{AreLoggable, HasMembers, HaveHomes, IsHomeOf, IsLoggable, IsMember, member_of}
use Rattle.log_ring.specs.Settling.{BringsHome, IsAtHomesOrSlot, IsRedoneAs, MeansTheSame}
use Rattle.log_ring.proofs.HomePages.{each_home}
use Rattle.log_recovery.specs.Members.{AreLabelled, label_version}
use Rattle.log_recovery.specs.Outcome.{HasGoodAnchor, IsSound}
use Rattle.log_recovery.specs.Readable.{IsBehindAnchors, IsBesideLabels, IsReadable, KeepsGoodAnchor, KeepsGoodBeside, LeavesReadable, RestartsGood, SettlesReadably, WouldBeGood, restarted}
use Rattle.log_recovery.specs.Settled.{HasNumbersLeft, settled_anchor}
use Rattle.log_recovery.specs.declared.redone.Redone.{Redone}
use Rattle.log_recovery.proofs.Outcomes.{range-same}
use Rattle.log_recovery.proofs.SettledAnchors.{settles_as_moves}

-- what a good anchor has beside its place
pub would_be_good : (sizes : List ℕ) (image : Image) (anchor : Anchor) → HasGoodAnchor sizes image anchor → WouldBeGood sizes image anchor
would_be_good sizes image anchor good = record { labelled = good.labelled; in_range = good.in_range }

-- images with the same labels of members
module _ (old new : Image) (sizes : List ℕ) (anchor : Anchor) (same : (vol : ℕ) → IsMember anchor vol → label_block new vol ≡ label_block old vol) where
  version-same : (vol : ℕ) → IsMember anchor vol → label_version old vol ≡ label_version new vol
  version-same vol member = ap (λ (block : List ℕ). if word_at block 2 == 3 then Three else Four) (sym (same vol member))

  labelled-same : AreLabelled sizes old anchor → AreLabelled sizes new anchor
  labelled-same was vol member =
      let here = was vol member in
      record {
        there = here.there;
        label =
            subst (λ (block : List ℕ). IsLabel (volume_pages sizes vol) vol (record { pages = (member_of anchor vol).pages; version = if word_at block 2 == 3 then Three else Four }) block) (sym (same vol member)) here.label;
        version = λ three. sym (version-same vol member) ∙ here.version three;
      }

  pub would_be-same : WouldBeGood sizes old anchor → WouldBeGood sizes new anchor
  would_be-same was = record { labelled = labelled-same was.labelled; in_range = range-same anchor (label_version old) (label_version new) version-same was.in_range }

-- the labels stay where calls touch none of their bytes
pub labels-same : (places : Places) (old new : Image) → ((v k : ℕ) → places v k → 512 ≤ k) → SameOutside places old new → (vol : ℕ) → label_block new vol ≡ label_block old vol
labels-same places old new behind same vol = bytes_from-same (new vol) (old vol) 0 512 (λ k le lt. same vol k (λ is. let far = behind vol k is in omega arith))

pub keeps_good_anchor : (old new : Disk) (anchor : Anchor) → KeepsGoodAnchor old new anchor
keeps_good_anchor old new anchor told good touches =
    touches-stays old new IsBehindAnchors (λ image. HasGoodAnchor old.sizes image anchor) told touches
    (λ before image same was.
    let would = would_be-same before image old.sizes anchor (λ vol member. labels-same IsBehindAnchors before image (λ v k is. omega (arith, is)) same vol) (would_be_good old.sizes before anchor was) in
    record {
      anchor_is = IsAnchor-elsewhere before image (λ v k on. same v k (λ is. let low = on.0 in let high = on.1 in omega (arith, is, low, high))) old.sizes (Some anchor) was.anchor_is;
      labelled = would.labelled;
      in_range = would.in_range;
    })
    good

-- Images brought home.

module _ (images : List PageImage) (next : Anchor) (sizes : List ℕ) (homes : HaveHomes sizes images) where
  behind_labels : (v k : ℕ) → IsAtHomesOrSlot images next v k → 512 ≤ k
  behind_labels v k (inl at) =
      let is : IsHomeOf sizes at.0 = each_home (IsHomeOf sizes) images at.0 homes at.1 in
      let behind = is.behind in
      let low = at.2.1 in
      omega arith
  behind_labels v k (inr slot) = let low = slot.1 in omega arith

module _ (old new : Disk) (images : List PageImage) (anchor : Anchor) (groups : List Group) (next : Anchor) where
  abbrev Torn : Image → Type 0
  Torn = MayLeaveTorn (IsAtHomesOrSlot images next) old.now

  abbrev Means : Image → Type 0
  Means = MeansTheSame old anchor groups next

  -- an anchor that would have been good before is so on an image that is torn there
  good_still : HaveHomes old.sizes images → (image : Image) (torn : Torn image) (one : Anchor) → WouldBeGood old.sizes torn.0 one → WouldBeGood old.sizes image one
  good_still homes image torn one was = would_be-same torn.0 image old.sizes one (λ vol member. labels-same (IsAtHomesOrSlot images next) torn.0 image (behind_labels images next old.sizes homes) torn.2 vol) was

  found : (image : Image) (one : Anchor) (its : List Group) → WouldBeGood old.sizes image one → HasLog old.sizes one its image → IsReadable old.sizes image
  found image one its would log = record { anchor = one; groups = its; good = record { anchor_is = log.anchor_is; labelled = would.labelled; in_range = would.in_range }; log = log }

  pub leaves_readable : LeavesReadable old new images anchor groups next
  leaves_readable told homes writes means here there =
      weaker old new (λ image. Torn image × Means image) (IsReadable old.sizes) (λ image has. readable image has.0 has.1.before has.1.same) (both old new Torn Means (writes.touches.tears told) means)
    where
      readable : (image : Image) (torn : Torn image) (before : Image)
          → (HasLog old.sizes anchor groups image × IsRedoneAs groups before groups image) ⊎ (HasLog old.sizes next [] image × IsRedoneAs groups before [] image) → IsReadable old.sizes image
      readable image torn before (inl log) = found image anchor groups (good_still homes image torn anchor (here torn.0 torn.1)) log.0
      readable image torn before (inr log) = found image next [] (good_still homes image torn next (there torn.0 torn.1)) log.0

-- an anchor stays good where it stays and no label of a member is touched
pub keeps_good_beside : (old new : Disk) (anchor : Anchor) → KeepsGoodBeside old new anchor
keeps_good_beside old new anchor told good touches anchors =
    weaker old new (λ image. Before image × Has image) (λ image. HasGoodAnchor old.sizes image anchor)
    (λ image is.
    let torn = is.0 in
    let would =
    would_be-same torn.0 image old.sizes anchor (λ vol member. bytes_from-same (image vol) (torn.0 vol) 0 512 (λ k le lt. torn.2 vol k (λ beside. beside (member, omega arith)))) (would_be_good old.sizes torn.0 anchor (good torn.0 torn.1)) in
    record { anchor_is = is.1; labelled = would.labelled; in_range = would.in_range })
    (both old new Before Has (touches.tears told) anchors)
  where
    Before : Image → Type 0
    Before = MayLeaveTorn (IsBesideLabels anchor) old.now

    Has : Image → Type 0
    Has image = IsAnchor old.sizes image (Some anchor)

-- The next anchor on the same ring.

module _ (anchor : Anchor) (number slot start group : ℕ) (some : 1 ≤ number) (number_low : number < 2 ^ 63) (slot_low : slot ≤ 1) (start_low : start < 128) (group_low : group < 2 ^ 63) (sizes : List ℕ) (image : Image) where
  abbrev next : Anchor
  next = restarted anchor number slot start group

  member-back : (vol : ℕ) → IsMember next vol → IsMember anchor vol
  member-back vol is = record { first = is.first; last = is.last; there = is.there; whole = is.whole }

  member-on : (vol : ℕ) → IsMember anchor vol → IsMember next vol
  member-on vol is = record { first = is.first; last = is.last; there = is.there; whole = is.whole }

  pub restarted_would : WouldBeGood sizes image anchor → WouldBeGood sizes image next
  restarted_would was =
      let range = was.in_range in
      record {
        labelled = λ vol member. let here = was.labelled vol (member-back vol member) in record { there = here.there; label = here.label; version = here.version };
        in_range = record {
          whole = record { version = range.whole.version; volume = range.whole.volume; slot = slot_low; member = range.whole.member; table = range.whole.table };
          numbers = record { first = some; number = number_low; group = group_low; start = start_low; pages = range.numbers.pages };
          sized = λ vol first lt. let is = range.sized vol first lt in record { state = is.state; least = λ member. is.least (member-back vol member); most = λ member. is.most (member-back vol member) };
          log = record { within = range.log.within; behind = range.log.behind };
          table = table anchor.table range.table;
        };
      }
    where
      table : (o : Option Home) → IsSomeAnd o (λ (home : Home). IsMember anchor home.vol × (home.page < (member_of anchor home.vol).pages))
          → IsSomeAnd o (λ (home : Home). IsMember next home.vol × (home.page < (member_of next home.vol).pages))
      table None is = is
      table (Some home) is = (member-on home.vol is.0, is.1)

pub restarts_good : (disk : Disk) (anchor : Anchor) (number slot start group : ℕ) → RestartsGood disk anchor number slot start group
restarts_good disk anchor number slot start group good some number_low slot_low start_low group_low image left =
    restarted_would anchor number slot start group some number_low slot_low start_low group_low disk.sizes image (would_be_good disk.sizes image anchor (good image left))

-- A log that is settled.

-- images that may be logged have homes in a rack that has the members
pub homes_there : (sizes : List ℕ) (anchor : Anchor) (images : List PageImage) → HasMembers sizes anchor → AreLoggable anchor images → HaveHomes sizes images
homes_there sizes anchor images members loggable =
    All-weaker (λ (i : PageImage). IsLoggable anchor i.home) (λ (i : PageImage). IsHomeOf sizes i.home) (λ i is.
    let there = members i.home.vol is.first_volume is.last_volume is.member.0 is.member.1 in
    let within = is.within in
    let pages = there.1 in
    let limit = there.2 in
    record { first_volume = is.first_volume; last_volume = there.0; few_volumes = is.last_volume; behind = is.behind; within = omega arith; limit = omega arith }) images loggable

pub settles_readably : (old new : Disk) (redone : Redone) → HasNumbersLeft redone → IsSound old.sizes redone → BringsHome old new redone.images (settled_anchor redone) → SettlesReadably old new redone
settles_readably old new redone left sound brings told groups may good =
    let here = λ (image : Image) (is : MayLeave old.now image). would_be_good old.sizes image redone.anchor (good image is) in
    leaves_readable old new redone.images redone.anchor groups (settled_anchor redone) told (homes_there old.sizes redone.anchor redone.images sound.usable.members sound.loggable) brings.writes (brings.any_moment told redone.anchor groups (settles_as_moves old groups redone may)) here
    (λ image is. restarted_would redone.anchor (redone.anchor.number + 1) (1 - redone.anchor.slot) redone.next_place redone.next_group (omega arith) left.number (omega arith) sound.place left.group old.sizes image (here image is))
