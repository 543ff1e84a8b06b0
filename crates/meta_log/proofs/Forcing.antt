-- A group written after the durable ones: what each image of a stop has meanwhile.
use Rattle.std.proofs.Common.{◌≡◌, ℕ, ◌+◌, ◌<◌, ◌≤◌, List, [], ◌∷◌, ◌++◌, length, drop, Some, refl, sym, ◌∙◌, ap, subst, inl, inr, arith}
use Rattle.std.proofs.lemmas.Bool.{cases_eq}
use Rattle.std.proofs.lemmas.List.{append-nil, length-replicate}
use Rattle.log_ring.specs.domain_base.Gate.{opened}
use Rattle.log_ring.specs.volume_disk.Disk.{Disk, MayLeave, Tells}
use Rattle.log_ring.specs.volume_disk.Image.{Image, IsIn, SameIn, SameOutside}
use Rattle.log_ring.specs.volume_disk.Run.{LeavesOnly, MayLeaveTorn, OnlyWrites, Settles}
use Rattle.log_ring.proofs.OfVolumeDisk.Bytes.{bytes_from-same}
use Rattle.log_ring.proofs.OfVolumeDisk.Laws.{leaves-now, only_writes-then, only_writes-wider, then_on, touches-leaves, weaker}
use Rattle.log_ring.specs.disk_label.Slot.{IsOnAnchors}
use Rattle.log_ring.specs.disk_label.declared.anchor.Anchor.{Anchor}
use Rattle.log_ring.proofs.OfDiskLabel.Elsewhere.{IsAnchor-elsewhere}
use Rattle.log_ring.specs.Header.{IsHeader}
use Rattle.log_ring.proofs.HeaderPages.{header-behind_gate}
use Rattle.log_ring.specs.Groups.{AreGroups, Group, HasLog, IsBehindGate, header_of, span}
use Rattle.log_ring.specs.Ring.{IsGateOpen, IsOnPlaces, place_at, ring_byte}
use Rattle.log_ring.proofs.OnImages.{groups_kept, images-same, next_closed}
use Rattle.log_ring.proofs.RingPlaces.{apart, log_beside_anchors, on_log, place-same}
use Rattle.meta_log.specs.Force.{HasEither, HasMoreOnceSynced, HasWrittenGroup, IsGateAt, IsGroupBody, IsReadyToOpen, IsSyncedBeside, IsSyncedOn, MayFollow, WritesGroup}
use Rattle.meta_log.proofs.Bodies.{behind_gate, body_on_place, gate_on_place}

-- What is written lies on the places of the group and on the next one.

abbrev On : Anchor → ℕ → ℕ → ℕ → Type 0
On anchor place v k = IsIn anchor.log_vol (ring_byte anchor place) 8192 v k

pub body_on_places : (anchor : Anchor) (place n v k : ℕ) → IsGroupBody anchor place n v k → IsOnPlaces anchor place (n + 2) v k
body_on_places anchor place n v k (inl is) = (0, omega arith, subst (λ (p : ℕ). On anchor p v k) (omega arith) (body_on_place anchor place v k is))
body_on_places anchor place n v k (inr (inl is)) = (is.0 + 1, omega (arith, is.1), subst (λ (p : ℕ). On anchor p v k) (omega arith) is.2)
body_on_places anchor place n v k (inr (inr is)) = (n + 1, omega arith, subst (λ (p : ℕ). On anchor p v k) (omega arith) (gate_on_place anchor (place + 1 + n) v k is))

pub gate_on_places : (anchor : Anchor) (place n v k : ℕ) → IsGateAt anchor place v k → IsOnPlaces anchor place (n + 2) v k
gate_on_places anchor place n v k is = (0, omega arith, subst (λ (p : ℕ). On anchor p v k) (omega arith) (gate_on_place anchor place v k is))

-- places of the ring are no places of anchors
places_beside_anchors : (anchor : Anchor) → 1 < anchor.log_page → (place n v k : ℕ) → IsOnPlaces anchor place n v k → ¬ IsOnAnchors v k
places_beside_anchors anchor behind place n v k is = log_beside_anchors anchor behind v k (on_log anchor (place + is.0) v k is.2)

module _ (anchor : Anchor) (behind : 1 < anchor.log_page) (groups : List Group) (group : Group) (place : ℕ) (d0 : Disk) (follow : MayFollow d0 anchor groups place group) where
  abbrev n : ℕ
  n = length group.images

  span-one_more : (gs : List Group) → span (gs ++ group ∷ []) ≡ span gs + (1 + n)
  span-one_more [] = omega arith
  span-one_more (g ∷ gs) = let rest = span-one_more gs in omega (arith, rest)

  fits : span groups + n + 2 ≤ 128
  fits = let is = span-one_more groups in let within = follow.fits in omega (arith, is, within)

  -- the places of the durable groups are others than those that are written
  others : (v k : ℕ) → IsOnPlaces anchor anchor.start (span groups) v k → ¬ IsOnPlaces anchor place (n + 2) v k
  others v k is at =
      let lt = is.1 in
      let lt' = at.1 in
      let few = fits in
      let place_is = follow.place_is in
      apart anchor (anchor.start + is.0) (place + at.0) v k (omega arith) (omega arith) is.2 at.2

  -- Two images that agree on the durable groups.
  module _ (before image : Image) (had : HasLog d0.sizes anchor groups before) (same : SameOutside (IsOnPlaces anchor place (n + 2)) before image) where
    same_anchor : SameIn IsOnAnchors before image
    same_anchor v k on = same v k (λ at. places_beside_anchors anchor behind place (n + 2) v k at on)

    same_groups : SameIn (IsOnPlaces anchor anchor.start (span groups)) before image
    same_groups v k on = same v k (others v k on)

    -- where the group's gate is closed, they have the same groups
    pub none_more : ¬ IsGateOpen image anchor place → HasLog d0.sizes anchor groups image
    none_more closed = record {
      anchor_is = IsAnchor-elsewhere before image same_anchor d0.sizes (Some anchor) had.anchor_is;
      groups_are =
          subst (λ (gs : List Group). AreGroups anchor anchor.start anchor.group gs image) (append-nil groups)
          (groups_kept anchor before image groups [] anchor.start anchor.group same_groups had.groups_are (subst (λ (p : ℕ). ¬ IsGateOpen image anchor p) follow.place_is closed));
      fits = had.fits;
    }

    -- where it is open on the group, they have one more
    pub one_more : IsGateOpen image anchor place → IsBehindGate image anchor place group → ¬ IsGateOpen image anchor (place + 1 + n) → HasLog d0.sizes anchor (groups ++ group ∷ []) image
    one_more is_open there closed = record {
      anchor_is = IsAnchor-elsewhere before image same_anchor d0.sizes (Some anchor) had.anchor_is;
      groups_are =
          groups_kept anchor before image groups (group ∷ []) anchor.start anchor.group same_groups had.groups_are
          (subst (λ (p : ℕ). AreGroups anchor p (anchor.group + length groups) (group ∷ []) image) follow.place_is (follow.number_is, record { is_open = is_open; behind = there }, closed));
      fits = follow.fits;
    }

  -- the group's own gate is none of what is written first
  own_gate : (v k : ℕ) → IsGateAt anchor place v k → ¬ IsGroupBody anchor place n v k
  own_gate v k is (inl at) = let a = is.2 in let b = at.1 in omega arith
  own_gate v k is (inr (inl at)) = let lt = at.1 in let few = fits in apart anchor place (place + 1 + at.0) v k (omega arith) (omega arith) (gate_on_place anchor place v k is) at.2
  own_gate v k is (inr (inr at)) = let few = fits in apart anchor place (place + 1 + n) v k (omega arith) (omega arith) (gate_on_place anchor place v k is) (gate_on_place anchor (place + 1 + n) v k at)

  gate_first : IsGateAt anchor place anchor.log_vol (ring_byte anchor place)
  gate_first = (refl, omega arith, omega arith)

  had_closed : (before : Image) → HasLog d0.sizes anchor groups before → ¬ IsGateOpen before anchor place
  had_closed before had = subst (λ (p : ℕ). ¬ IsGateOpen before anchor p) (sym follow.place_is) (next_closed anchor before groups anchor.start anchor.group had.groups_are)

  still_closed : (before image : Image) → HasLog d0.sizes anchor groups before → SameOutside (IsGroupBody anchor place n) before image → ¬ IsGateOpen image anchor place
  still_closed before image had same is_open = had_closed before had (sym (same anchor.log_vol (ring_byte anchor place) (own_gate anchor.log_vol (ring_byte anchor place) gate_first)) ∙ is_open)

  -- while it is written after its gate, the groups are the same
  torn_body : (image : Image) → MayLeaveTorn (IsGroupBody anchor place n) d0.now image → HasLog d0.sizes anchor groups image
  torn_body image torn =
      let had = follow.stands torn.0 torn.1 in
      none_more torn.0 image had (λ v k out. torn.2 v k (λ at. out (body_on_places anchor place n v k at))) (still_closed torn.0 image had torn.2)

  -- After the closed gate the group stands, on each image.
  module _ (d1 : Disk) (header : List ℕ) (is_header : IsHeader header (header_of group)) (ready : IsReadyToOpen d1.now anchor place header group.images) (left_before : (image : Image) → MayLeave d1.now image → HasLog d0.sizes anchor groups image) where
    module _ (image : Image) (left : MayLeave d1.now image) where
      same_there : (v k : ℕ) → v ≡ anchor.log_vol → image v k ≡ d1.now.contents v k
      same_there v k is = left.synced v k (ap (λ (w : ℕ). d1.now.unsynced w k) is ∙ ready.synced k)

      stands_behind : IsBehindGate image anchor place group
      stands_behind = record {
        header =
            header-behind_gate header (place_at image anchor place) (header_of group)
            (sym (ap (drop 512) (place-same anchor place d1.now.contents image (λ v k is. same_there v k is.0)) ∙ ready.behind)) is_header;
        loggable = follow.loggable;
        images = images-same anchor d1.now.contents image group.images (place + 1) (λ v k is. same_there v k is.2.0) ready.pages;
      }

      next_shut : ¬ IsGateOpen image anchor (place + 1 + n)
      next_shut is_open = ready.next (sym (same_there anchor.log_vol (ring_byte anchor (place + 1 + n)) refl) ∙ is_open)

      -- The gate is torn.
      module _ (last : Image) (same : SameOutside (IsGateAt anchor place) image last) where
        beside : SameOutside (IsOnPlaces anchor place (n + 2)) image last
        beside v k out = same v k (λ at. out (gate_on_places anchor place n v k at))

        still_behind : IsBehindGate last anchor place group
        still_behind = record {
          header =
              header-behind_gate (place_at image anchor place) (place_at last anchor place) (header_of group)
              (behind_gate image anchor place
              ∙ bytes_from-same (image anchor.log_vol) (last anchor.log_vol) (ring_byte anchor place + 512) 7680 (λ k le lt. sym (same anchor.log_vol k (λ at. let high = at.2 in omega arith)))
              ∙ sym (behind_gate last anchor place))
              stands_behind.header;
          loggable = follow.loggable;
          images =
              images-same anchor image last group.images (place + 1)
              (λ v k is. same v k (λ at. let lt = is.1 in let few = fits in apart anchor place (place + 1 + is.0) v k (omega arith) (omega arith) (gate_on_place anchor place v k at) is.2))
              stands_behind.images;
        }

        still_shut : ¬ IsGateOpen last anchor (place + 1 + n)
        still_shut is_open =
            next_shut
            (sym (same anchor.log_vol (ring_byte anchor (place + 1 + n)) (λ at. let few = fits in apart anchor place (place + 1 + n) anchor.log_vol (ring_byte anchor (place + 1 + n)) (omega arith) (omega arith) (gate_on_place anchor place anchor.log_vol (ring_byte anchor (place + 1 + n)) at) (refl, omega arith, omega arith)))
            ∙ is_open)

        pub has_more : IsGateOpen last anchor place → HasLog d0.sizes anchor (groups ++ group ∷ []) last
        has_more is_open = one_more image last (left_before image left) beside is_open still_behind still_shut

        pub has_either : HasEither d0.sizes anchor groups (groups ++ group ∷ []) last
        has_either = elim (cases_eq (last anchor.log_vol (ring_byte anchor place)) 165) [
          | inl is_open ↦ inr (has_more is_open)
          | inr closed ↦ inl (none_more image last (left_before image left) beside closed)
        ]

-- The writes of a group, one after another.
module _ (anchor : Anchor) (behind : 1 < anchor.log_page) (group : Group) (place : ℕ) (d0 d1 : Disk) (first : OnlyWrites d0 d1 (IsGroupBody anchor place (length group.images))) where
  abbrev Places : ℕ → ℕ → Type 0
  Places = IsOnPlaces anchor place (length group.images + 2)

  abbrev Body : ℕ → ℕ → Type 0
  Body = IsGroupBody anchor place (length group.images)

  abbrev Either : List Group → Image → Type 0
  Either groups = HasEither d0.sizes anchor groups (groups ++ group ∷ [])

  wide : OnlyWrites d0 d1 Places
  wide = only_writes-wider d0 d1 Body Places (body_on_places anchor place (length group.images)) first

  before : Tells d0 → (groups : List Group) → MayFollow d0 anchor groups place group → LeavesOnly d0 d1 (HasLog d0.sizes anchor groups)
  before told groups follow = touches-leaves d0 d1 Body (HasLog d0.sizes anchor groups) told first.touches (torn_body anchor behind groups group place d0 follow)

  abbrev More : List Group → Image → Type 0
  More groups = HasMoreOnceSynced d0 anchor place (length group.images + 2) groups (group ∷ [])

  pub body_written : WritesGroup d0 d1 anchor place group
  body_written = record {
    writes = wide;
    any_moment = λ told groups follow. weaker d0 d1 (HasLog d0.sizes anchor groups) (Either groups) (λ image has. inl has) (before told groups follow);
    synced = λ told groups follow. weaker d0 d1 (HasLog d0.sizes anchor groups) (More groups) (λ image has. inl has) (before told groups follow);
  }

  module _ (header : List ℕ) (is_header : IsHeader header (header_of group)) (ready : Tells d0 → IsReadyToOpen d1.now anchor place header group.images) (d2 : Disk) (second : OnlyWrites d1 d2 (IsGateAt anchor place)) where
    told-1 : Tells d0 → Tells d1
    told-1 told = first.touches.told ∙ told

    left-1 : Tells d0 → (groups : List Group) → MayFollow d0 anchor groups place group → (image : Image) → MayLeave d1.now image → HasLog d0.sizes anchor groups image
    left-1 told groups follow = leaves-now d0 d1 (HasLog d0.sizes anchor groups) (before told groups follow)

    -- the gate is torn once the volume is synced, so all of it but the group's places is as at the
    -- start
    synced_beside : Tells d0 → (image : Image) → MayLeaveTorn (IsGateAt anchor place) d1.now image → IsSyncedBeside d0.now anchor place (length group.images + 2) image
    synced_beside told image torn k out =
        torn.2 anchor.log_vol k (λ at. out (gate_on_places anchor place (length group.images) anchor.log_vol k at))
        ∙ torn.1.synced anchor.log_vol k ((ready told).synced k)
        ∙ first.touches.contents told anchor.log_vol k (λ at. out (body_on_places anchor place (length group.images) anchor.log_vol k at))

    torn_gate : Tells d0 → (groups : List Group) → MayFollow d0 anchor groups place group → (image : Image) → MayLeaveTorn (IsGateAt anchor place) d1.now image → Either groups image
    torn_gate told groups follow image torn = has_either anchor behind groups group place d0 follow d1 header is_header (ready told) (left-1 told groups follow) torn.0 torn.1 image torn.2

    more_once_synced : Tells d0 → (groups : List Group) → MayFollow d0 anchor groups place group → (image : Image) → MayLeaveTorn (IsGateAt anchor place) d1.now image → More groups image
    more_once_synced told groups follow image torn = elim (torn_gate told groups follow image torn) [
      | inl has ↦ inl has
      | inr has ↦ inr (has, synced_beside told image torn)
    ]

    pub group_written : WritesGroup d0 d2 anchor place group
    group_written = record {
      writes = only_writes-then d0 d1 d2 Places wide (only_writes-wider d1 d2 (IsGateAt anchor place) Places (gate_on_places anchor place (length group.images)) second);
      any_moment = λ told groups follow.
          then_on d0 d1 d2 (Either groups) (body_written.any_moment told groups follow)
          (touches-leaves d1 d2 (IsGateAt anchor place) (Either groups) (told-1 told) second.touches (torn_gate told groups follow));
      synced = λ told groups follow.
          then_on d0 d1 d2 (More groups) (body_written.synced told groups follow)
          (touches-leaves d1 d2 (IsGateAt anchor place) (More groups) (told-1 told) second.touches (more_once_synced told groups follow));
    }

    -- and then nothing is pending on the volume
    pub group_synced : (Tells d1 → Settles anchor.log_vol (ring_byte anchor place) opened d1.now d2.now) → Tells d0 → IsSyncedOn anchor.log_vol d2.now
    group_synced opens told = (opens (told-1 told)).here

    pub group_done : (Tells d1 → Settles anchor.log_vol (ring_byte anchor place) opened d1.now d2.now) → HasWrittenGroup d0 d2 anchor place group
    unfolding opened
    group_done opens told groups follow image left =
        let torn = leaves-now d1 d2 (MayLeaveTorn (IsGateAt anchor place) d1.now) (second.touches.tears (told-1 told)) image left in
        let settles = opens (told-1 told) in
        let size = length-replicate {A = ℕ} 512 165 in
        let start : ring_byte anchor place ≡ ring_byte anchor place + 0 = omega arith in
        let is_open : image anchor.log_vol (ring_byte anchor place) ≡ 165 =
        left.synced anchor.log_vol (ring_byte anchor place) (settles.here (ring_byte anchor place))
        ∙ ap (d2.now.contents anchor.log_vol) start
        ∙ settles.written 0 (omega (arith, size)) in
        subst (λ (sizes : List ℕ). HasLog sizes anchor (groups ++ group ∷ []) image) (sym (second.touches.sizes ∙ first.touches.sizes))
        (has_more anchor behind groups group place d0 follow d1 header is_header (ready told) (left-1 told groups follow) torn.0 torn.1 image torn.2 is_open)
