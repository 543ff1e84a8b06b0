-- A log that is moved to another volume: each call leaves what recovery takes.
use Rattle.std.proofs.Common.{◌≡◌, ◌≢◌, ◌==◌, ℕ, ◌+◌, ◌-◌, ◌*◌, ◌%◌, ◌^◌, ◌<◌, ◌≤◌, Bool, true, false, cond, List, [], ◌∷◌, Some, IsSome, inl, inr, refl, sym, ◌∙◌, ap, subst, arith}
use Rattle.std.proofs.lemmas.Bool.{eq-eqb, ne_eqb}
use Rattle.log_recovery.specs.domain_base.Gate.{closed}
use Rattle.log_recovery.specs.domain_base.declared.place.Home.{Home}
use Rattle.log_recovery.specs.volume_disk.Disk.{Disk, IsSettled, MayLeave, Tells}
use Rattle.log_recovery.specs.volume_disk.Image.{AreBytes, Image, IsIn, NoPlace, Places}
use Rattle.log_recovery.specs.volume_disk.Run.{LeavesOnly, MayLeaveTorn, OnlyWrites, Settles, Touches}
use Rattle.log_recovery.proofs.OfVolumeDisk.Laws.{both, leaves-now, then_on, touches-then, touches-wider, weaker}
use Rattle.log_recovery.specs.disk_label.Anchor.{IsAnchor, IsNext, IsWhole}
use Rattle.log_recovery.specs.disk_label.Slot.{HasAnchor, HasReadied, IsBody, IsOnAnchors, IsReady, IsReadyFor, ReadiesSlot, StaysSynced}
use Rattle.log_recovery.specs.disk_label.declared.anchor.Anchor.{Anchor}
use Rattle.log_recovery.proofs.OfDiskLabel.Elsewhere.{anchor_since, ready_still}
use Rattle.log_recovery.specs.log_ring.Images.{image_at}
use Rattle.log_recovery.specs.log_ring.declared.image.PageImage.{PageImage}
use Rattle.log_recovery.specs.log_ring.Groups.{Group, LogStands}
use Rattle.log_recovery.specs.log_ring.Homes.{HasMembers}
use Rattle.log_recovery.specs.log_ring.LogLaws.{LogStays}
use Rattle.log_recovery.specs.log_ring.Ring.{IsGateOpen, IsOnLog, IsRing}
use Rattle.log_recovery.specs.log_ring.Settling.{IsAtHomesOrSlot}
use Rattle.log_recovery.proofs.OfLogRing.Staying.{log_beside}
use Rattle.log_recovery.specs.Outcome.{HasGoodAnchor, IsUsable}
use Rattle.log_recovery.specs.Readable.{IsBesideLabels, IsGoodNow, IsReadable, WouldBeGood, WouldBeGoodNow}
use Rattle.log_recovery.proofs.GoodAnchors.{homes_there, keeps_good_beside, labels-same, leaves_readable, would_be-same, would_be_good}
use Rattle.file_pages.specs.meta_log.Checkpoint.{Checkpoints, HasCheckpointed, MayCheckpoint, next_anchor, same_ring}
use Rattle.file_pages.specs.meta_log.Log.{IsLog, Log, Stands, new_log, used}
use Rattle.file_pages.proofs.OfMetaLog.Bodies.{written_closed}
use Rattle.log_tables.specs.Moves.{IsMoving, MovesReadably}
use Rattle.log_tables.specs.Opened.{IsAtRest}
use Rattle.log_recovery.proofs.Meanings.{good_is}

-- what each image since has, each image of now has
has_after : (old new : Disk) (anchor : Anchor) → new.sizes ≡ old.sizes → LeavesOnly old new (λ image. IsAnchor old.sizes image (Some anchor)) → HasAnchor new (Some anchor)
has_after old new anchor same only image left = subst (λ (l : List ℕ). IsAnchor l image (Some anchor)) (sym same) (leaves-now old new (λ image. IsAnchor old.sizes image (Some anchor)) only image left)

slot_low : (b : Bool) (s : ℕ) → cond b (1 - s) 0 ≤ 1
slot_low true s = omega arith
slot_low false s = omega arith

start_low : (b : Bool) (n : ℕ) → cond b (n % 128) 0 < 128
start_low true n = omega arith
start_low false n = omega arith

-- no image, no home
no_home : (images : List PageImage) (home : Home) → images ≡ [] → ¬ IsSome (image_at home images)
no_home [] home none has = cc
no_home (image ∷ images) home none has = cc

-- A log that stands with a good anchor, where the next one would be good.

module _ (anchor : Anchor) (groups : List Group) (next : Anchor) where
  pub record IsHeld (disk : Disk) : Type 0 where
    pub stands : LogStands disk anchor groups
    pub good : IsGoodNow disk anchor
    pub would : WouldBeGoodNow disk next

  -- it is so after calls beside its ring and all labels that leave the anchor of each image
  module _ (old new : Disk) (places : Places) (told : Tells old) (touches : Touches old new places) (held : IsHeld old) (low : (v k : ℕ) → places v k → 512 ≤ k) (off : (v k : ℕ) → places v k → ¬ IsOnLog anchor v k)
      (anchors : LeavesOnly old new (λ image. IsAnchor old.sizes image (Some anchor))) where
    good_since : LeavesOnly old new (λ image. HasGoodAnchor old.sizes image anchor)
    good_since = keeps_good_beside old new anchor told held.good (touches-wider old new places (IsBesideLabels anchor) (λ v k is is_label. let far = low v k is in let near = is_label.1 in omega arith) touches) anchors

    log_since : LogStays old new anchor groups
    log_since = log_beside old new anchor groups told held.stands (touches-wider old new places (λ v k. ¬ IsOnLog anchor v k) off touches) anchors

    would_still : WouldBeGoodNow new next
    would_still image left =
        let torn = leaves-now old new (MayLeaveTorn places old.now) (touches.tears told) image left in
        subst (λ (l : List ℕ). WouldBeGood l image next) (sym touches.sizes) (would_be-same torn.0 image old.sizes next (λ vol member. labels-same places torn.0 image low torn.2 vol) (held.would torn.0 torn.1))

    pub held_still : IsHeld new
    held_still = record {
      stands = log_since.now;
      good = λ image left. subst (λ (l : List ℕ). HasGoodAnchor l image anchor) (sym touches.sizes) (leaves-now old new (λ image. HasGoodAnchor old.sizes image anchor) good_since image left);
      would = would_still;
    }

    pub read_since : LeavesOnly old new (IsReadable old.sizes)
    read_since =
        weaker old new _ (IsReadable old.sizes) (λ image is. record { anchor = anchor; groups = groups; good = is.0; log = is.1 })
        (both old new (λ image. HasGoodAnchor old.sizes image anchor) _ good_since log_since.any_moment)

-- The calls of a move.

module _ (d0 : Disk) (log : Log) (given : Anchor) (rests : IsAtRest d0 log) (other : given.log_vol ≢ log.anchor.log_vol) (ring : IsRing d0.sizes given) where
  abbrev next : Anchor
  next = next_anchor log given

  abbrev groups : Tells d0 → List Group
  groups told = (rests.stands told).0

  abbrev Held : Tells d0 → Disk → Type 0
  Held told = IsHeld log.anchor (groups told) next

  held-0 : (told : Tells d0) → WouldBeGoodNow d0 next → Held told d0
  held-0 told would = record { stands = (rests.stands told).1.stands; good = rests.good told; would = would }

  -- one call more, on the places of a move
  module _ (mid new : Disk) (places : Places) (sizes : mid.sizes ≡ d0.sizes) (is_told : mid.told ≡ d0.told) (touches : Touches mid new places) (low : (v k : ℕ) → places v k → 512 ≤ k) (off : (v k : ℕ) → places v k → ¬ IsOnLog log.anchor v k) (told : Tells d0)
      (held : Held told mid) (anchors : LeavesOnly mid new (λ image. IsAnchor mid.sizes image (Some log.anchor))) where
    told-mid : Tells mid
    told-mid = is_told ∙ told

    pub held_on : Held told new
    held_on = held_still log.anchor (groups told) next mid new places told-mid touches held low off anchors

    pub read_on : LeavesOnly d0 mid (IsReadable d0.sizes) → LeavesOnly d0 new (IsReadable d0.sizes)
    read_on so_far =
        then_on d0 mid new (IsReadable d0.sizes) so_far (subst (λ (l : List ℕ). LeavesOnly mid new (IsReadable l)) sizes (read_since log.anchor (groups told) next mid new places told-mid touches held low off anchors))

  -- the volumes are synced
  module _ (d1 : Disk) (syncs : OnlyWrites d0 d1 NoPlace) where
    anchors-1 : (told : Tells d0) → LeavesOnly d0 d1 (λ image. IsAnchor d0.sizes image (Some log.anchor))
    anchors-1 told = anchor_since d0 d1 NoPlace told syncs.touches (λ v k none. absurd none) (Some log.anchor) (λ image left. ((rests.stands told).1.stands image left).anchor_is)

    has-1 : Tells d0 → HasAnchor d1 (Some log.anchor)
    has-1 told = has_after d0 d1 log.anchor syncs.touches.sizes (anchors-1 told)

    held-1 : (told : Tells d0) → WouldBeGoodNow d0 next → Held told d1
    held-1 told would = held_still log.anchor (groups told) next d0 d1 NoPlace told syncs.touches (held-0 told would) (λ v k none. absurd none) (λ v k none. absurd none) (anchors-1 told)

    pub touches-1 : Touches d0 d1 (IsMoving given)
    touches-1 = touches-wider d0 d1 NoPlace (IsMoving given) (λ v k none. absurd none) syncs.touches

    pub read-1 : MovesReadably d0 d1 next
    read-1 told would = read_since log.anchor (groups told) next d0 d1 NoPlace told syncs.touches (held-0 told would) (λ v k none. absurd none) (λ v k none. absurd none) (anchors-1 told)

    -- a slot of the volume is made ready
    module _ (vol : ℕ) (is_vol : vol ≡ given.log_vol) where
      body_low : (slot : ℕ) (v k : ℕ) → IsBody vol slot v k → 512 ≤ k
      body_low slot v k is = let low = is.1 in omega arith

      body_off : (slot : ℕ) (v k : ℕ) → IsBody vol slot v k → ¬ IsOnLog log.anchor v k
      body_off slot v k is on = other (sym is_vol ∙ sym is.0 ∙ on.0)

      body_moving : (slot : ℕ) → slot ≤ 1 → (v k : ℕ) → IsBody vol slot v k → IsMoving given v k
      body_moving slot high v k is = let low = is.1 in let up = is.2 in inl (is.0 ∙ is_vol, omega arith, omega arith)

      not_there : (slot : ℕ) → ¬ ((log.anchor.log_vol ≡ vol) × (log.anchor.slot ≡ slot))
      not_there slot stands = other (sym is_vol ∙ sym stands.0)

      module _ (settled : Tells d0 → IsSettled d1.now) (d2 : Disk) (first : ReadiesSlot d1 d2 vol 0) where
        told-1 : Tells d0 → Tells d1
        told-1 told = syncs.touches.told ∙ told

        anchors-2 : (told : Tells d0) → LeavesOnly d1 d2 (λ image. IsAnchor d1.sizes image (Some log.anchor))
        anchors-2 told = first.any_moment (told-1 told) (Some log.anchor) (has-1 told) (settled told vol 8192)

        has-2 : Tells d0 → HasAnchor d2 (Some log.anchor)
        has-2 told = has_after d1 d2 log.anchor first.touches.sizes (anchors-2 told)

        held-2 : (told : Tells d0) → WouldBeGoodNow d0 next → Held told d2
        held-2 told would = let held = held-1 told would in held_on d1 d2 (IsBody vol 0) syncs.touches.sizes syncs.touches.told first.touches (body_low 0) (body_off 0) told held (anchors-2 told)

        pub touches-2 : Touches d0 d2 (IsMoving given)
        touches-2 = touches-then d0 d1 d2 (IsMoving given) touches-1 (touches-wider d1 d2 (IsBody vol 0) (IsMoving given) (body_moving 0 (omega arith)) first.touches)

        pub read-2 : MovesReadably d0 d2 next
        read-2 told would = let held = held-1 told would in read_on d1 d2 (IsBody vol 0) syncs.touches.sizes syncs.touches.told first.touches (body_low 0) (body_off 0) told held (anchors-2 told) (read-1 told would)

        module _ (first_ready : HasReadied d1 d2 vol 0) (first_synced : StaysSynced d1 d2) (d3 : Disk) (second : ReadiesSlot d2 d3 vol 1) where
          told-2 : Tells d0 → Tells d2
          told-2 told = first.touches.told ∙ told-1 told

          settled-2 : Tells d0 → IsSettled d2.now
          settled-2 told v k = first_synced (told-1 told) v k (settled told v k)

          anchors-3 : (told : Tells d0) → LeavesOnly d2 d3 (λ image. IsAnchor d2.sizes image (Some log.anchor))
          anchors-3 told = second.any_moment (told-2 told) (Some log.anchor) (has-2 told) (settled-2 told vol 12288)

          has-3 : Tells d0 → HasAnchor d3 (Some log.anchor)
          has-3 told = has_after d2 d3 log.anchor second.touches.sizes (anchors-3 told)

          sizes-2 : d2.sizes ≡ d0.sizes
          sizes-2 = touches-2.sizes

          held-3 : (told : Tells d0) → WouldBeGoodNow d0 next → Held told d3
          held-3 told would = let held = held-2 told would in held_on d2 d3 (IsBody vol 1) sizes-2 touches-2.told second.touches (body_low 1) (body_off 1) told held (anchors-3 told)

          pub touches-3 : Touches d0 d3 (IsMoving given)
          touches-3 = touches-then d0 d2 d3 (IsMoving given) touches-2 (touches-wider d2 d3 (IsBody vol 1) (IsMoving given) (body_moving 1 (omega arith)) second.touches)

          pub read-3 : MovesReadably d0 d3 next
          read-3 told would = let held = held-2 told would in read_on d2 d3 (IsBody vol 1) sizes-2 touches-2.told second.touches (body_low 1) (body_off 1) told held (anchors-3 told) (read-2 told would)

          -- the gate is closed at which the log is to begin
          module _ (second_ready : HasReadied d2 d3 vol 1) (at : ℕ) (is_at : at ≡ 8192 * given.log_page) (d4 : Disk) (closes : OnlyWrites d3 d4 (IsIn vol at 512)) where
            ready-0 : Tells d0 → IsReady d3 (Some log.anchor) vol 0
            ready-0 told =
                second.others (told-2 told) (Some log.anchor) vol 0 (settled-2 told vol 12288) (λ same. let slot = same.1 in omega arith)
                (first_ready (told-1 told) (Some log.anchor) (has-1 told) (settled told vol 8192) (not_there 0))

            ready-1 : Tells d0 → IsReady d3 (Some log.anchor) vol 1
            ready-1 told = second_ready (told-2 told) (Some log.anchor) (has-2 told) (settled-2 told vol 12288) (not_there 1)

            told-3 : Tells d0 → Tells d3
            told-3 told = second.touches.told ∙ told-2 told

            gate_far : (v k : ℕ) → IsIn vol at 512 v k → ¬ IsOnAnchors v k
            gate_far v k is on = let low = is.1 in let high = on.1 in let behind = ring.behind in omega arith

            gate_low : (v k : ℕ) → IsIn vol at 512 v k → 512 ≤ k
            gate_low v k is = let low = is.1 in let behind = ring.behind in omega arith

            gate_off : (v k : ℕ) → IsIn vol at 512 v k → ¬ IsOnLog log.anchor v k
            gate_off v k is on = other (sym is_vol ∙ sym is.0 ∙ on.0)

            anchors-4 : (told : Tells d0) → LeavesOnly d3 d4 (λ image. IsAnchor d3.sizes image (Some log.anchor))
            anchors-4 told = anchor_since d3 d4 (IsIn vol at 512) (told-3 told) closes.touches gate_far (Some log.anchor) (has-3 told)

            pub has-4 : Tells d0 → HasAnchor d4 (Some log.anchor)
            has-4 told = has_after d3 d4 log.anchor closes.touches.sizes (anchors-4 told)

            pub held-4 : (told : Tells d0) → WouldBeGoodNow d0 next → Held told d4
            held-4 told would = let held = held-3 told would in held_on d3 d4 (IsIn vol at 512) touches-3.sizes touches-3.told closes.touches gate_low gate_off told held (anchors-4 told)

            pub touches-4 : Touches d0 d4 (IsMoving given)
            touches-4 =
                touches-then d0 d3 d4 (IsMoving given) touches-3
                (touches-wider d3 d4 (IsIn vol at 512) (IsMoving given) (λ v k is. let low = is.1 in let up = is.2 in inr (is.0 ∙ is_vol, omega arith, omega arith)) closes.touches)

            pub read-4 : MovesReadably d0 d4 next
            read-4 told would = let held = held-3 told would in read_on d3 d4 (IsIn vol at 512) touches-3.sizes touches-3.told closes.touches gate_low gate_off told held (anchors-4 told) (read-3 told would)

            -- the contents have the log's anchor still
            pub counts-4 : (Tells d4 → AreBytes d4.now.contents) → Tells d4 → IsAnchor d4.sizes d4.now.contents (Some log.anchor)
            counts-4 bytes told = has-4 (sym touches-4.told ∙ told) d4.now.contents (record { synced = λ v k is. refl; bytes = bytes told })

            -- the anchor is written
            module _ (is : IsLog log) (home : log.logged ≡ []) (whole : IsWhole given) (pages : given.log_pages ≡ 128) (members : HasMembers d0.sizes given) (number : log.anchor.number + 1 < 2 ^ 63) (shut : Tells d3 → Settles vol at closed d3.now d4.now) (d5 : Disk) (writes : Checkpoints d4 d5 log next) where
              other_volume : (given.log_vol == log.anchor.log_vol) ≡ false
              other_volume = ne_eqb given.log_vol log.anchor.log_vol other

              other_ring : same_ring log.anchor given ≡ false
              other_ring = let apart : (log.anchor.log_vol == given.log_vol) ≡ false = ne_eqb log.anchor.log_vol given.log_vol (λ same. other (sym same)) in rw apart refl

              slot_is : next.slot ≡ 0
              slot_is = rw other_volume refl

              start_is : next.start ≡ 0
              start_is = rw other_ring refl

              told-4 : Tells d0 → Tells d4
              told-4 told = touches-4.told ∙ told

              ready_for : (slot : ℕ) (told : Tells d0) → IsReady d3 (Some log.anchor) vol slot → IsReady d4 (Some log.anchor) vol slot
              ready_for slot told = ready_still d3 d4 (IsIn vol at 512) (told-3 told) closes.touches gate_far (Some log.anchor) vol slot

              next_ready : Tells d0 → IsReadyFor d4 (Some log.anchor) next
              next_ready told =
                  subst (λ (v : ℕ). IsReady d4 (Some log.anchor) v next.slot) is_vol
                  (subst (λ (s : ℕ). IsReady d4 (Some log.anchor) vol s) (sym slot_is) (ready_for 0 told (ready-0 told)))

              gate_shut : Tells d0 → (image : Image) → MayLeave d4.now image → ¬ IsGateOpen image next next.start
              gate_shut told image left =
                  let settles = shut (told-3 told) in
                  written_closed image next next.start
                  (λ k lt.
                  let place : 8192 * (given.log_page + next.start % 128) + k ≡ at + k = omega (arith, start_is, is_at) in
                  ap (image given.log_vol) place ∙ ap (λ (v : ℕ). image v (at + k)) (sym is_vol) ∙ left.synced vol (at + k) (settles.here (at + k)) ∙ settles.written k lt)

              stands-4 : (told : Tells d0) → WouldBeGoodNow d0 next → Stands d4 log (groups told)
              stands-4 told would = let was = (rests.stands told).1 in record { stands = (held-4 told would).stands; images = was.images; count = was.count }

              may : (told : Tells d0) → WouldBeGoodNow d0 next → MayCheckpoint d4 log (groups told) next
              may told would = record { stands = stands-4 told would; ready = next_ready told; closed = λ apart image left. gate_shut told image left }

              written : (v k : ℕ) → IsAtHomesOrSlot log.logged next v k → IsMoving given v k
              written v k (inl at_home) = absurd (no_home log.logged at_home.0 home at_home.1)
              written v k (inr slot) = let low = slot.1 in let up = slot.2 in inl (slot.0, omega (arith, slot_is), omega (arith, slot_is))

              pub touches-5 : Touches d0 d5 (IsMoving given)
              touches-5 = touches-then d0 d4 d5 (IsMoving given) touches-4 (touches-wider d4 d5 (IsAtHomesOrSlot log.logged next) (IsMoving given) written writes.writes.touches)

              read-45 : (told : Tells d0) → WouldBeGoodNow d0 next → LeavesOnly d4 d5 (IsReadable d4.sizes)
              read-45 told would =
                  leaves_readable d4 d5 log.logged log.anchor (groups told) next (told-4 told)
                  (homes_there d4.sizes log.anchor log.logged (subst (λ (l : List ℕ). HasMembers l log.anchor) (sym touches-4.sizes) rests.usable.members) is.logged) writes.writes
                  (writes.any_moment (told-4 told) (groups told) (may told would)) (λ image left. would_be_good d4.sizes image log.anchor ((held-4 told would).good image left)) (held-4 told would).would

              pub read-5 : MovesReadably d0 d5 next
              read-5 told would = then_on d0 d4 d5 (IsReadable d0.sizes) (read-4 told would) (subst (λ (l : List ℕ). LeavesOnly d4 d5 (IsReadable l)) touches-4.sizes (read-45 told would))

              -- then the log rests there
              module _ (done : HasCheckpointed d4 d5 log next) where
                next_usable : IsUsable d5.sizes next
                next_usable =
                    subst (λ (l : List ℕ). IsUsable l next) (sym touches-5.sizes)
                    (record {
                      whole = record { version = whole.version; volume = whole.volume; slot = slot_low (given.log_vol == log.anchor.log_vol) log.anchor.slot; member = whole.member; table = whole.table };
                      numbers = record { first = omega arith; number = number; group = omega (arith, is.number); start = start_low (same_ring log.anchor given) (log.anchor.start + used log); pages = pages };
                      ring = record { first_volume = ring.first_volume; last_volume = ring.last_volume; few_volumes = ring.few_volumes; behind = ring.behind; within = ring.within; limit = ring.limit };
                      members = members;
                    })

                told-0 : Tells d5 → Tells d0
                told-0 told = sym touches-5.told ∙ told

                later_ready : (told : Tells d0) (later : Anchor) → IsNext (Some next) later → later.log_vol ≡ next.log_vol → IsReadyFor d5 (Some next) later
                later_ready told later follows stays =
                    let same : (later.log_vol == next.log_vol) ≡ true = eq-eqb later.log_vol next.log_vol stays in
                    let slot : later.slot ≡ 1 - next.slot = follows.1 ∙ (rw same refl) in
                    let one : 1 ≡ later.slot = omega (arith, slot, slot_is) in
                    let here = done.others (told-4 told) vol 1 (next_ready told) (ready_for 1 told (ready-1 told)) (λ stands. let at = stands.1 in omega (arith, at, slot_is)) in
                    subst (λ (v : ℕ). IsReady d5 (Some next) v later.slot) (is_vol ∙ sym stays) (subst (λ (s : ℕ). IsReady d5 (Some next) vol s) one here)

                pub rests_there : (Tells d0 → WouldBeGoodNow d0 next) → IsAtRest d5 (new_log next)
                rests_there good = record {
                  usable = next_usable;
                  forced = refl;
                  stands = λ told. let start = told-0 told in ([], done.stands (told-4 start) (groups start) (may start (good start)));
                  good = λ told image left.
                      let start = told-0 told in
                      let same = writes.writes.touches.sizes in
                      let read = leaves-now d4 d5 (IsReadable d4.sizes) (read-45 start (good start)) image left in
                      let stood = (done.stands (told-4 start) (groups start) (may start (good start))).stands image left in
                      subst (λ (l : List ℕ). HasGoodAnchor l image next) (sym same) (good_is d4.sizes image next read (subst (λ (l : List ℕ). IsAnchor l image (Some next)) same stood.anchor_is));
                  ready = λ told later follows stays. later_ready (told-0 told) later follows stays;
                }
