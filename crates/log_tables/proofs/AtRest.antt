-- A log that is opened, goes on and is closed is at rest each time.
use Rattle.std.proofs.Common.{◌≡◌, ◌==◌, ℕ, ◌+◌, ◌-◌, ◌%◌, ◌^◌, ◌<◌, ◌≤◌, Bool, true, false, cond, List, [], ◌∷◌, ◌++◌, length, Some, inl, refl, sym, ◌∙◌, ap, subst, arith, append_assoc}
use Rattle.std.proofs.lemmas.Bool.{eq-eqb, or_parts}
use Rattle.std.proofs.lemmas.List.{append-nil}
use Rattle.std.proofs.lemmas.List.Elements.{All-weaker}
use Rattle.std.specs.List.{list_any}
use Rattle.log_recovery.specs.domain_base.declared.place.Home.{Home}
use Rattle.log_recovery.specs.page_store.Pages.{same_home}
use Rattle.log_recovery.specs.volume_disk.Disk.{Disk, IsSettled, MayLeave, Tells, volume_pages, HasVolume}
use Rattle.log_recovery.specs.volume_disk.Image.{AreBytes, Image, Places}
use Rattle.log_recovery.specs.volume_disk.Run.{LeavesOnly, OnlyReads, Touches}
use Rattle.log_recovery.proofs.OfVolumeDisk.Laws.{both, leaves-now, started, touches-wider, weaker}
use Rattle.log_recovery.specs.disk_label.Anchor.{IsAnchor}
use Rattle.log_recovery.specs.disk_label.Slot.{HasReadied, IsOnAnchors, IsReadyFor, ReadiesSlot, StaysSynced}
use Rattle.log_recovery.specs.disk_label.declared.anchor.Anchor.{Anchor}
use Rattle.log_recovery.proofs.OfDiskLabel.Elsewhere.{ready_still}
use Rattle.log_recovery.specs.log_ring.Images.{AreDistinctHomes, homes_of, joined, with_image}
use Rattle.log_recovery.specs.log_ring.declared.image.PageImage.{PageImage}
use Rattle.log_recovery.proofs.OfLogRing.SameHomes.{other_swapped}
use Rattle.log_recovery.specs.log_ring.Groups.{Group, redone as redone_pages, span}
use Rattle.log_recovery.specs.log_ring.Homes.{AreOutside, IsLogPage, IsLoggable}
use Rattle.log_recovery.specs.log_ring.Ring.{IsOnLog, IsOnPlaces}
use Rattle.log_recovery.specs.log_ring.Settling.{BringsHome, HasBroughtHome, MeansTheSame}
use Rattle.log_recovery.proofs.OfLogRing.RingPlaces.{log_beside_anchors, on_log}
use Rattle.log_recovery.specs.Laws.{IsReadyToSettle}
use Rattle.log_recovery.specs.Outcome.{HasGoodAnchor, HasRecovered, IsSound, IsUsable}
use Rattle.log_recovery.specs.Readable.{IsBehindAnchors, IsReadable, SettlesReadably}
use Rattle.log_recovery.specs.Settled.{HasNumbersLeft, settled_anchor}
use Rattle.log_recovery.specs.declared.redone.Redone.{Redone}
use Rattle.log_recovery.proofs.GoodAnchors.{homes_there, keeps_good_anchor, leaves_readable, restarts_good, would_be_good}
use Rattle.log_recovery.proofs.Readied.{readies_to_settle}
use Rattle.log_recovery.proofs.SettledAnchors.{settles_as_moves}
use Rattle.file_pages.specs.meta_log.Checkpoint.{Checkpoints, HasCheckpointed, MayCheckpoint, next_anchor, same_ring}
use Rattle.file_pages.specs.meta_log.Force.{Forces, HasEither, HasForced, forced}
use Rattle.file_pages.specs.meta_log.Log.{IsFullFor, IsLog, Log, Stands, appended, group_of, groups_of, new_log, next_number, pending_groups, used}
use Rattle.file_pages.proofs.OfMetaLog.Pending.{one_group}
use Rattle.log_recovery.specs.Settling.{ReadsAs, StandsAtHome, StaysRead}
use Rattle.log_tables.specs.Opened.{Adds, AddsOrNot, ComesHome, IsAtRest, ReadsAsBefore, with_change}
use Rattle.log_recovery.proofs.Meanings.{good_is, log_settled, only_read, pages_home, reads_from, slot_readied}

-- what was told at the end was told at the start
told_before : (old new : Disk) → new.told ≡ old.told → Tells new → Tells old
told_before old new same told = sym same ∙ told

-- the contents are an image that may be left
contents_left : (disk : Disk) → AreBytes disk.now.contents → MayLeave disk.now disk.now.contents
contents_left disk bytes = record { synced = λ v k is. refl; bytes = bytes }

-- A log that is opened.

-- by reads alone nothing is changed
pub read_still : (d0 d1 : Disk) → (Tells d0 → IsSettled d0.now) → OnlyReads d0 d1 → StaysRead d0 d1
read_still d0 d1 settled reads told first pages was = only_read d0 (settled told) told first pages was d1 reads

module _ (d0 d1 : Disk) (redone : Redone) (sound : IsSound d0.sizes redone) (reads : OnlyReads d0 d1) where
  sound-read : IsSound d1.sizes redone
  sound-read = subst (λ (l : List ℕ). IsSound l redone) (sym reads.touches.sizes) sound

  pub has_volume : (vol : ℕ) → vol ≡ redone.anchor.log_vol → HasVolume d1 vol
  has_volume vol is = let ring = sound-read.usable.ring in let first = ring.first_volume in let last = ring.last_volume in (omega arith, omega arith)

  pub has_pages : (vol : ℕ) → vol ≡ redone.anchor.log_vol → 2 ≤ volume_pages d1.sizes vol
  has_pages vol is =
      let within = sound-read.usable.ring.within in
      subst (λ (v : ℕ). 2 ≤ volume_pages d1.sizes v) (sym is) (omega arith)

  settled_usable : HasNumbersLeft redone → IsUsable d0.sizes (settled_anchor redone)
  settled_usable left =
      let was = sound.usable in
      let ring = was.ring in
      record {
        whole = record { version = was.whole.version; volume = was.whole.volume; slot = omega arith; member = was.whole.member; table = was.whole.table };
        numbers = record { first = omega arith; number = left.number; group = left.group; start = sound.place; pages = was.numbers.pages };
        ring = record { first_volume = ring.first_volume; last_volume = ring.last_volume; few_volumes = ring.few_volumes; behind = ring.behind; within = ring.within; limit = ring.limit };
        members = was.members;
      }

  -- so it is while the slot is made ready, whatever that answers
  pub readied_still : (Tells d0 → IsSettled d0.now) → (Tells d0 → (groups : List Group) × HasRecovered d0.sizes d0.now.contents groups redone) → (d2 : Disk) (vol slot : ℕ) → vol ≡ redone.anchor.log_vol → slot ≡ 1 - redone.anchor.slot → ReadiesSlot d1 d2 vol slot → StaysRead d0 d2
  readied_still settled recovered d2 vol slot is_vol is_slot readies told first pages was =
      slot_readied d0 (settled told) told first pages was d1 reads redone (recovered told).0 (recovered told).1 d2
      (subst (λ (v : ℕ). ReadiesSlot d1 d2 v (1 - redone.anchor.slot)) is_vol (subst (λ (s : ℕ). ReadiesSlot d1 d2 vol s) is_slot readies))

  module _ (settled : Tells d0 → IsSettled d0.now) (recovered : Tells d0 → (groups : List Group) × HasRecovered d0.sizes d0.now.contents groups redone) (d2 : Disk) (vol slot : ℕ) (is_vol : vol ≡ redone.anchor.log_vol) (is_slot : slot ≡ 1 - redone.anchor.slot)
      (readies : ReadiesSlot d1 d2 vol slot) (readied : HasReadied d1 d2 vol slot) (synced : StaysSynced d1 d2) where
    told-0 : Tells d2 → Tells d0
    told-0 told = told_before d0 d1 reads.touches.told (told_before d1 d2 readies.touches.told told)

    slot_readies : ReadiesSlot d1 d2 redone.anchor.log_vol (1 - redone.anchor.slot)
    slot_readies = subst (λ (v : ℕ). ReadiesSlot d1 d2 v (1 - redone.anchor.slot)) is_vol (subst (λ (s : ℕ). ReadiesSlot d1 d2 vol s) is_slot readies)

    ready_then : (told : Tells d0) → IsReadyToSettle d2 (recovered told).0 redone
    ready_then told =
        readies_to_settle d0 d1 d2 (recovered told).0 redone told (settled told) (recovered told).1 reads slot_readies
        (subst (λ (v : ℕ). HasReadied d1 d2 v (1 - redone.anchor.slot)) is_vol (subst (λ (s : ℕ). HasReadied d1 d2 vol s) is_slot readied)) synced

    to_settle : Tells d2 → (groups : List Group) × IsReadyToSettle d2 groups redone
    to_settle told = ((recovered (told-0 told)).0, ready_then (told-0 told))

    -- what the start is read as, each image is while the log is settled, and in the end it is home
    module _ (d3 : Disk) (brings : BringsHome d2 d3 redone.images (settled_anchor redone)) (readable : SettlesReadably d2 d3 redone) where
      pub settled_still : StaysRead d0 d3
      settled_still told first pages was = log_settled d0 (settled told) told first pages was d1 reads redone (recovered told).0 (recovered told).1 d2 slot_readies (ready_then told) d3 brings readable

      pub settled_home : HasBroughtHome d2 d3 redone.images (settled_anchor redone) → StandsAtHome d0 d3
      settled_home done told first pages was = pages_home d0 (settled told) told first pages was d1 reads redone (recovered told).0 (recovered told).1 d2 slot_readies (ready_then told) d3 brings readable done

    sizes-2 : d2.sizes ≡ d0.sizes
    sizes-2 = readies.touches.sizes ∙ reads.touches.sizes

    pub sound_still : IsSound d2.sizes redone
    sound_still = subst (λ (l : List ℕ). IsSound l redone) (sym sizes-2) sound

    pub still_counts : (Tells d2 → AreBytes d2.now.contents) → Tells d2 → IsAnchor d2.sizes d2.now.contents (Some redone.anchor)
    still_counts bytes told = ((to_settle told).1.may_settle.stands d2.now.contents (contents_left d2 (bytes told))).anchor_is

    pub opened : (d3 : Disk) (log : Log) (next : Anchor) → HasNumbersLeft redone → BringsHome d2 d3 redone.images (settled_anchor redone) → HasBroughtHome d2 d3 redone.images (settled_anchor redone) → SettlesReadably d2 d3 redone → next ≡ settled_anchor redone → log ≡ new_log next → IsAtRest d3 log
    opened d3 log next left brings done readable next_is log_is = subst (IsAtRest d3) (sym (log_is ∙ ap new_log next_is)) at_rest
      where
        told-2 : Tells d3 → Tells d2
        told-2 told = told_before d2 d3 brings.writes.touches.told told

        at_rest : IsAtRest d3 (new_log (settled_anchor redone))
        at_rest = record {
          usable = subst (λ (l : List ℕ). IsUsable l (settled_anchor redone)) (sym (brings.writes.touches.sizes ∙ sizes-2)) (settled_usable left);
          forced = refl;
          stands = λ told.
              let may = to_settle (told-2 told) in
              ([], record { stands = done.stands (told-2 told) redone.anchor may.0 (settles_as_moves d2 may.0 redone may.1.may_settle); images = refl; count = refl });
          good = λ told image left.
              let may = to_settle (told-2 told) in
              let same = brings.writes.touches.sizes in
              let read = leaves-now d2 d3 (IsReadable d2.sizes) (readable (told-2 told) may.0 may.1.may_settle may.1.good) image left in
              let log = done.stands (told-2 told) redone.anchor may.0 (settles_as_moves d2 may.0 redone may.1.may_settle) image left in
              subst (λ (l : List ℕ). HasGoodAnchor l image (settled_anchor redone)) (sym same)
              (good_is d2.sizes image (settled_anchor redone) read (subst (λ (l : List ℕ). IsAnchor l image (Some (settled_anchor redone))) same log.anchor_is));
          ready = λ told later follows stays.
              let may = to_settle (told-2 told) in done.next_ready (told-2 told) redone.anchor later may.1.may_settle.ready refl follows stays;
        }

-- A change that is logged.

-- an image that is put behind others of other homes
has_behind : (home : Home) (images more : List PageImage) (image : PageImage) → list_any (same_home home) (homes_of (images ++ image ∷ more)) ≡ false → same_home home image.home ≡ false
has_behind home [] more image none = (or_parts (same_home home image.home) (list_any (same_home home) (homes_of more)) none).0
has_behind home (first ∷ images) more image none = has_behind home images more image (or_parts (same_home home first.home) (list_any (same_home home) (homes_of (images ++ image ∷ more))) none).1

put_behind : (images more : List PageImage) (image : PageImage) → AreDistinctHomes (images ++ image ∷ more) → with_image image.home image.page images ≡ images ++ image ∷ []
put_behind [] more image distinct = refl
put_behind (first ∷ images) more image distinct =
    let other : same_home image.home first.home ≡ false = other_swapped first.home image.home (has_behind first.home images more image distinct.0) in
    rw other (ap (λ (l : List PageImage). first ∷ l) (put_behind images more image distinct.1))

joined_behind : (change images : List PageImage) → AreDistinctHomes (images ++ change) → joined change images ≡ images ++ change
joined_behind [] images distinct = sym (append-nil images)
joined_behind (image ∷ change) images distinct =
    let after : images ++ image ∷ change ≡ (images ++ image ∷ []) ++ change = sym (append_assoc images (image ∷ []) change) in
    ap (joined change) (put_behind images change image distinct) ∙ joined_behind change (images ++ image ∷ []) (subst AreDistinctHomes after distinct) ∙ sym after

-- a log with nothing pending is full for a change by what the change alone would be
pub full_alone : (log : Log) (change : List PageImage) → log.pending ≡ [] → AreDistinctHomes change → IsFullFor log (length (joined change log.pending)) → IsFullFor log (length change)
full_alone log change none distinct = subst (λ (l : List PageImage). IsFullFor log (length l)) (ap (joined change) none ∙ joined_behind change [] distinct)

module _ (d0 d1 : Disk) (log : Log) (change : List PageImage) (rests : IsAtRest d0 log) where
  -- what the log's change leaves where it is refused
  pub nothing_logged : d1 ≡ d0 → AddsOrNot d0 d1 log change
  nothing_logged same told groups stands =
      subst (λ (d : Disk). LeavesOnly d0 d (λ image. HasGoodAnchor d0.sizes image log.anchor × HasEither d0.sizes log.anchor groups (with_change log change groups) image)) (sym same)
      (started d0 (λ image. HasGoodAnchor d0.sizes image log.anchor × HasEither d0.sizes log.anchor groups (with_change log change groups) image) (λ image left. (rests.good told image left, inl (stands.stands image left))))

  module _ (some : 0 < length change) (distinct : AreDistinctHomes change) (forces : Forces d0 d1 (appended log change)) where
    abbrev now : Log
    now = appended log change

    abbrev Written : Places
    Written = IsOnPlaces log.anchor (log.anchor.start + used now) (span (pending_groups now) + 1)

    told-then : Tells d1 → Tells d0
    told-then told = told_before d0 d1 forces.writes.touches.told told

    beside : (v k : ℕ) → Written v k → ¬ IsOnAnchors v k
    beside v k on = log_beside_anchors log.anchor rests.usable.ring.behind v k (on_log log.anchor (log.anchor.start + used now + on.0) v k on.2)

    behind : (v k : ℕ) → Written v k → IsBehindAnchors v k
    behind v k on =
        let ring : IsOnLog log.anchor v k = on_log log.anchor (log.anchor.start + used now + on.0) v k on.2 in
        let low = ring.1 in
        let page = rests.usable.ring.behind in
        omega arith

    is_pending : now.pending ≡ change
    is_pending = ap (joined change) rests.forced ∙ joined_behind change [] distinct

    one_more : pending_groups now ≡ group_of (next_number log) change ∷ []
    one_more = ap (groups_of (next_number log)) is_pending ∙ one_group (next_number log) change some

    stands_now : (groups : List Group) → Stands d0 log groups → Stands d0 now groups
    stands_now groups stands = record { stands = stands.stands; images = stands.images; count = stands.count }

    -- it touches the ring alone
    pub touches_ring : Touches d0 d1 (IsOnLog log.anchor)
    touches_ring =
        touches-wider d0 d1 Written (IsOnLog log.anchor) (λ v k on. on_log log.anchor (log.anchor.start + used now + on.0) v k on.2) forces.writes.touches

    good_since : Tells d0 → LeavesOnly d0 d1 (λ image. HasGoodAnchor d0.sizes image log.anchor)
    good_since told = keeps_good_anchor d0 d1 log.anchor told (rests.good told) (touches-wider d0 d1 Written IsBehindAnchors behind forces.writes.touches)

    pub adds_or_not : AddsOrNot d0 d1 log change
    adds_or_not told groups stands =
        both d0 d1 (λ image. HasGoodAnchor d0.sizes image log.anchor) (HasEither d0.sizes log.anchor groups (with_change log change groups)) (good_since told)
        (subst (λ (more : List Group). LeavesOnly d0 d1 (HasEither d0.sizes log.anchor groups (groups ++ more))) one_more (forces.any_moment told groups (stands_now groups stands)))

    module _ (done : HasForced d0 d1 (appended log change)) where
      at_rest_still : IsAtRest d1 (forced now)
      at_rest_still = record {
        usable = subst (λ (l : List ℕ). IsUsable l log.anchor) (sym forces.writes.touches.sizes) rests.usable;
        forced = refl;
        stands = λ told. let was = rests.stands (told-then told) in (was.0 ++ pending_groups now, done (told-then told) was.0 (stands_now was.0 was.1));
        good = λ told image left.
            subst (λ (l : List ℕ). HasGoodAnchor l image log.anchor) (sym forces.writes.touches.sizes) (leaves-now d0 d1 (λ image. HasGoodAnchor d0.sizes image log.anchor) (good_since (told-then told)) image left);
        ready = λ told later follows stays.
            ready_still d0 d1 Written (told-then told) forces.writes.touches beside (Some log.anchor) later.log_vol later.slot (rests.ready (told-then told) later follows stays);
      }

      module _ (mid new : Log) (mid_is : mid ≡ appended log change) (new_is : new ≡ forced mid) where
        new_log_is : new ≡ forced now
        new_log_is = new_is ∙ ap forced mid_is

        pub logged : IsAtRest d1 new
        logged = subst (IsAtRest d1) (sym new_log_is) at_rest_still

        pub added : Adds d0 d1 log new change
        added told groups stands =
            subst (λ (l : Log). Stands d1 l (with_change log change groups)) (sym new_log_is)
            (subst (λ (more : List Group). Stands d1 (forced now) (groups ++ more)) one_more (done told groups (stands_now groups stands)))

-- A log that is closed.

start_low : (b : Bool) (n : ℕ) → cond b (n % 128) 0 < 128
start_low true n = omega arith
start_low false n = omega arith

slot_low : (b : Bool) (s : ℕ) → cond b (1 - s) 0 ≤ 1
slot_low true s = omega arith
slot_low false s = omega arith

ring_stays : (anchor : Anchor) → same_ring anchor anchor ≡ true
ring_stays anchor =
    let vol : (anchor.log_vol == anchor.log_vol) ≡ true = eq-eqb anchor.log_vol anchor.log_vol refl in
    let page : (anchor.log_page == anchor.log_page) ≡ true = eq-eqb anchor.log_page anchor.log_page refl in
    rw (vol, page) refl

pub outside_log : (log : Log) → IsLog log → AreOutside log.anchor log.logged
outside_log log is = All-weaker (λ (i : PageImage). IsLoggable log.anchor i.home) (λ (i : PageImage). ¬ IsLogPage log.anchor i.home) (λ i on. on.outside) log.logged is.logged

module _ (disk : Disk) (log : Log) (rests : IsAtRest disk log) where
  pub log_counts : (Tells disk → AreBytes disk.now.contents) → Tells disk → IsAnchor disk.sizes disk.now.contents (Some log.anchor)
  log_counts bytes told = ((rests.stands told).1.stands disk.now.contents (contents_left disk (bytes told))).anchor_is

module _ (d0 d1 : Disk) (log : Log) (is : IsLog log) (rests : IsAtRest d0 log) (number : log.anchor.number + 1 < 2 ^ 63) (writes : Checkpoints d0 d1 log (next_anchor log log.anchor)) where
  abbrev next : Anchor
  next = next_anchor log log.anchor

  told-start : Tells d1 → Tells d0
  told-start told = told_before d0 d1 writes.writes.touches.told told

  is_ready : Tells d0 → IsReadyFor d0 (Some log.anchor) next
  is_ready told = rests.ready told next (refl, refl) refl

  may : (told : Tells d0) (groups : List Group) → Stands d0 log groups → MayCheckpoint d0 log groups next
  may told groups stands = record {
    stands = stands;
    ready = is_ready told;
    closed = λ other. absurd (other (ring_stays log.anchor));
  }

  next_slot : next.slot ≤ 1
  next_slot = slot_low (log.anchor.log_vol == log.anchor.log_vol) log.anchor.slot

  next_start : next.start < 128
  next_start = start_low (same_ring log.anchor log.anchor) (log.anchor.start + used log)

  next_group : next.group < 2 ^ 63
  next_group = omega (arith, is.number)

  next_usable : IsUsable d0.sizes next
  next_usable =
      let was = rests.usable in
      let ring = was.ring in
      let numbers = was.numbers in
      record {
        whole = record { version = was.whole.version; volume = was.whole.volume; slot = next_slot; member = was.whole.member; table = was.whole.table };
        numbers = record { first = omega arith; number = number; group = next_group; start = next_start; pages = numbers.pages };
        ring = record { first_volume = ring.first_volume; last_volume = ring.last_volume; few_volumes = ring.few_volumes; behind = ring.behind; within = ring.within; limit = ring.limit };
        members = was.members;
      }

  abbrev Means : List Group → Image → Type 0
  Means groups = MeansTheSame d0 log.anchor groups next

  means : (told : Tells d0) (groups : List Group) → Stands d0 log groups → LeavesOnly d0 d1 (Means groups)
  means told groups stands = writes.any_moment told groups (may told groups stands)

  readable : (told : Tells d0) (groups : List Group) → Stands d0 log groups → LeavesOnly d0 d1 (IsReadable d0.sizes)
  readable told groups stands =
      leaves_readable d0 d1 log.logged log.anchor groups next told (homes_there d0.sizes log.anchor log.logged rests.usable.members is.logged) writes.writes (means told groups stands)
      (λ image left. would_be_good d0.sizes image log.anchor (rests.good told image left))
      (restarts_good d0 log.anchor next.number next.slot next.start next.group (rests.good told) (omega arith) number next_slot next_start next_group)

  pub reads_as_before : ReadsAsBefore d0 d1 log
  reads_as_before told groups stands =
      weaker d0 d1 (λ image. Means groups image × IsReadable d0.sizes image) (λ image. (before : Image) × MayLeave d0.now before × ReadsAs d0.sizes log.anchor (redone_pages groups before) image)
      (λ image is. reads_from d0 log.anchor groups next image refl is.0 is.1) (both d0 d1 (Means groups) (IsReadable d0.sizes) (means told groups stands) (readable told groups stands))

  module _ (done : HasCheckpointed d0 d1 log (next_anchor log log.anchor)) where
    pub comes_home : ComesHome d0 d1 log
    comes_home told groups stands = done.same told groups (may told groups stands)

    at_rest_behind : IsAtRest d1 (new_log next)
    at_rest_behind = record {
      usable = subst (λ (l : List ℕ). IsUsable l next) (sym writes.writes.touches.sizes) next_usable;
      forced = refl;
      stands = λ told. let was = rests.stands (told-start told) in ([], done.stands (told-start told) was.0 (may (told-start told) was.0 was.1));
      good = λ told image left.
          let was = rests.stands (told-start told) in
          let same = writes.writes.touches.sizes in
          let read = leaves-now d0 d1 (IsReadable d0.sizes) (readable (told-start told) was.0 was.1) image left in
          let log = (done.stands (told-start told) was.0 (may (told-start told) was.0 was.1)).stands image left in
          subst (λ (l : List ℕ). HasGoodAnchor l image next) (sym same) (good_is d0.sizes image next read (subst (λ (l : List ℕ). IsAnchor l image (Some next)) same log.anchor_is));
      ready = λ told later follows stays. done.next_ready (told-start told) later (is_ready (told-start told)) refl follows stays;
    }

-- for an anchor that is the log's
module _ (d0 d1 : Disk) (log new : Log) (anchor : Anchor) (is : IsLog log) (rests : IsAtRest d0 log) (anchor_is : anchor ≡ log.anchor) (number : anchor.number + 1 < 2 ^ 63) (writes : Checkpoints d0 d1 log (next_anchor log anchor)) where
  number_is : log.anchor.number + 1 < 2 ^ 63
  number_is = subst (λ (a : Anchor). a.number + 1 < 2 ^ 63) anchor_is number

  writes_are : Checkpoints d0 d1 log (next_anchor log log.anchor)
  writes_are = subst (λ (a : Anchor). Checkpoints d0 d1 log (next_anchor log a)) anchor_is writes

  pub closing : ReadsAsBefore d0 d1 log
  closing = reads_as_before d0 d1 log is rests number_is writes_are

  module _ (done : HasCheckpointed d0 d1 log (next_anchor log anchor)) where
    done_is : HasCheckpointed d0 d1 log (next_anchor log log.anchor)
    done_is = subst (λ (a : Anchor). HasCheckpointed d0 d1 log (next_anchor log a)) anchor_is done

    pub closed_home : ComesHome d0 d1 log
    closed_home = comes_home d0 d1 log is rests number_is writes_are done_is

    pub closed : new ≡ new_log (next_anchor log anchor) → IsAtRest d1 new
    closed new_is = subst (IsAtRest d1) (sym (new_is ∙ ap (λ (a : Anchor). new_log (next_anchor log a)) anchor_is)) (at_rest_behind d0 d1 log is rests number_is writes_are done_is)

-- nothing is done
pub nothing_closed : (d0 : Disk) (log : Log) (is : IsLog log) → IsAtRest d0 log → ReadsAsBefore d0 d0 log
nothing_closed d0 log is rests told groups stands =
    started d0 (λ image. (before : Image) × MayLeave d0.now before × ReadsAs d0.sizes log.anchor (redone_pages groups before) image)
    (λ image left. (image, left, record { anchor = log.anchor; groups = groups; good = rests.good told image left; restarts = refl; log = stands.stands image left; same = λ home beside. refl }))
