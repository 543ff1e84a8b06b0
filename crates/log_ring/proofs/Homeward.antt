-- The images of a log brought home: what each image of a stop has meanwhile.
use Rattle.std.proofs.Common.{◌≡◌, ◌≢◌, ◌⊎◌, ℕ, ◌+◌, ◌<◌, ◌≤◌, true, false, List, [], ◌∷◌, length, Option, Some, None, is_some, IfSome, refl, sym, ◌∙◌, ap, subst, inl, inr, arith}
use Rattle.std.proofs.lemmas.Bool.{both_ways, cases_Bool, cases_eq}
use Rattle.std.proofs.lemmas.List.Elements.{All-append, All-nil, All-weaker}
use Rattle.disk_label.specs.domain_base.declared.place.Home.{Home}
use Rattle.disk_label.specs.volume_disk.Disk.{Disk, Moment, MayLeave, Tells}
use Rattle.disk_label.specs.volume_disk.Image.{Image, NoPlace, SameIn, SameOutside, page_at}
use Rattle.disk_label.specs.volume_disk.Run.{MayLeaveTorn, OnlyWrites}
use Rattle.disk_label.proofs.OfVolumeDisk.Laws.{both, leaves-now, only_writes-then, only_writes-wider, then_on, touches-leaves, weaker}
use Rattle.disk_label.specs.Anchor.{IsAnchor}
use Rattle.disk_label.specs.Slot.{HasWritten, IsOldOrNew, IsOnAnchors, IsReady, IsSlot, WritesAnchor}
use Rattle.disk_label.specs.declared.anchor.Anchor.{Anchor}
use Rattle.disk_label.proofs.Elsewhere.{IsAnchor-elsewhere, ready_still}
use Rattle.log_ring.specs.Images.{image_at}
use Rattle.log_ring.specs.declared.image.PageImage.{PageImage}
use Rattle.log_ring.specs.Groups.{AreGroups, Group, HasLog, images_of, pages_in, redone}
use Rattle.log_ring.specs.Homes.{AreLoggable, AreOutside, HaveHomes, IsHomeOf, IsLogPage, IsLoggable}
use Rattle.log_ring.specs.LogLaws.{AreHome, IsLogged}
use Rattle.log_ring.specs.Ring.{IsGateOpen, IsOnLog, ring_byte}
use Rattle.log_ring.specs.Settling.{AreSyncedBelow, BringsHome, HasBroughtHome, HasHome, IsAtHomes, IsAtHomesOrSlot, IsOnPage, IsRedoneAs, MayMove, MeansTheSame}
use Rattle.log_ring.proofs.HomePages.{each_home, one_page, page-same}
use Rattle.log_ring.proofs.OnImages.{groups-same, read_on_log}
use Rattle.log_ring.proofs.Redoing.{redoes_alike, redoes_nothing}
use Rattle.log_ring.proofs.RingPlaces.{log_beside_anchors}
use Rattle.log_ring.proofs.Staying.{log-same}

-- Which places lie apart.

homes_beside_anchors : (sizes : List ℕ) (images : List PageImage) → HaveHomes sizes images → (v k : ℕ) → IsAtHomes images v k → ¬ IsOnAnchors v k
homes_beside_anchors sizes images homes v k at on =
    let is : IsHomeOf sizes at.0 = each_home (IsHomeOf sizes) images at.0 homes at.1 in
    let behind = is.behind in
    let low = at.2.1 in
    let high = on.1 in
    omega arith

homes_beside_log : (anchor : Anchor) (images : List PageImage) → AreOutside anchor images → (v k : ℕ) → IsAtHomes images v k → ¬ IsOnLog anchor v k
homes_beside_log anchor images outside v k at on =
    let low = at.2.1 in
    let high = at.2.2 in
    let first = on.1 in
    let last = on.2 in
    each_home (λ h. ¬ IsLogPage anchor h) images at.0 outside at.1 (sym at.2.0 ∙ on.0, omega arith, omega arith)

slot_on_anchors : (vol slot : ℕ) → slot ≤ 1 → (v k : ℕ) → IsSlot vol slot v k → IsOnAnchors v k
slot_on_anchors vol slot le v k is = let low = is.1 in let high = is.2 in (omega arith, omega arith)

page_beside_anchors : (home : Home) → home.page ≢ 1 → (v k : ℕ) → IsOnPage home v k → ¬ IsOnAnchors v k
page_beside_anchors home other v k is on =
    let low = is.1 in
    let high = is.2 in
    let low' = on.0 in
    let high' = on.1 in
    other (omega arith)

gate_on_log : (anchor : Anchor) (place : ℕ) → IsOnLog anchor anchor.log_vol (ring_byte anchor place)
gate_on_log anchor place = (refl, omega arith, omega arith)

-- what groups have may be logged
loggable_all : (anchor : Anchor) (place number : ℕ) (groups : List Group) (image : Image) → AreGroups anchor place number groups image → AreLoggable anchor (images_of groups)
loggable_all anchor place number [] image are = All-nil (λ (i : PageImage). IsLoggable anchor i.home)
loggable_all anchor place number (group ∷ groups) image are =
    All-append (λ (i : PageImage). IsLoggable anchor i.home) group.images (images_of groups) are.1.behind.loggable (loggable_all anchor (place + 1 + length group.images) (number + 1) groups image are.2)

-- pages that no image has as its home
same_elsewhere : (images : List PageImage) (old new : Image) → SameOutside (IsAtHomes images) old new → (home : Home) → is_some (image_at home images) ≡ false → pages_in new home ≡ pages_in old home
same_elsewhere images old new same home none =
    ap Some (page-same home old new (λ v k is. same v k (λ at. both_ways (is_some (image_at home images)) none (subst (HasHome images) (sym (one_page home at.0 v k is at.2)) at.1))))

module _ (images : List PageImage) (next : Anchor) (d0 : Disk) (homes : HaveHomes d0.sizes images) (anchor : Anchor) (groups : List Group) (move : MayMove d0 anchor groups images next) where
  abbrev Means : Image → Type 0
  Means = MeansTheSame d0 anchor groups next

  -- An image that is torn at the homes.
  module _ (image : Image) (torn : MayLeaveTorn (IsAtHomes images) d0.now image) where
    abbrev before : Image
    before = torn.0

    had : HasLog d0.sizes anchor groups before
    had = move.stands before torn.1

    outside : AreOutside anchor images
    outside =
        All-weaker (λ (i : PageImage). IsLoggable anchor i.home) (λ (i : PageImage). ¬ IsLogPage anchor i.home) (λ i is. is.outside) images
        (subst (AreLoggable anchor) move.has (loggable_all anchor anchor.start anchor.group groups before had.groups_are))

    pub still_has : HasLog d0.sizes anchor groups image
    still_has =
        log-same d0.sizes anchor groups before image
        (λ v k on. torn.2 v k (λ at. homes_beside_anchors d0.sizes images homes v k at on))
        (λ v k on. torn.2 v k (λ at. homes_beside_log anchor images outside v k at on)) had

    pub same_redone : (home : Home) → redone groups image home ≡ redone groups before home
    same_redone home = redoes_alike groups before image home (go (cases_Bool (is_some (image_at home images))))
      where
        go : (is_some (image_at home images) ≡ true) ⊎ (is_some (image_at home images) ≡ false) → IsLogged groups home ⊎ (pages_in image home ≡ pages_in before home)
        go (inl some) = inl (subst (λ (l : List PageImage). HasHome l home) (sym move.has) some)
        go (inr none) = inr (same_elsewhere images before image torn.2 home none)

    pub means_old : Means image
    means_old = record { before = before; left = torn.1; same = inl (still_has, λ home other. same_redone home) }

    pub still_closed : AreOutside next images → ¬ IsGateOpen image next next.start
    still_closed beside is_open =
        move.closed before torn.1
        (sym (torn.2 next.log_vol (ring_byte next next.start) (λ at. homes_beside_log next images beside next.log_vol (ring_byte next next.start) at (gate_on_log next next.start))) ∙ is_open)

    -- And one that is torn in the anchor's slot after that.
    module _ (slot : next.slot ≤ 1) (last : Image) (same : SameOutside (IsSlot next.log_vol next.slot) image last) where
      same_page : (home : Home) → home.page ≢ 1 → pages_in last home ≡ pages_in image home
      same_page home other = ap Some (page-same home image last (λ v k is. same v k (λ at. page_beside_anchors home other v k is (slot_on_anchors next.log_vol next.slot slot v k at))))

      same_ring : (a : Anchor) → 1 < a.log_page → SameIn (IsOnLog a) image last
      same_ring a behind v k is = same v k (λ at. log_beside_anchors a behind v k is (slot_on_anchors next.log_vol next.slot slot v k at))

      old_means : IsAnchor d0.sizes last (Some anchor) → Means last
      old_means is = record {
        before = before;
        left = torn.1;
        same =
            inl (
              record {
                anchor_is = is;
                groups_are = groups-same anchor anchor.start anchor.group groups image last (λ v k read. same_ring anchor move.behind v k (read_on_log anchor anchor.start groups v k read)) still_has.groups_are;
                fits = had.fits;
              },
              λ home other. redoes_alike groups image last home (inr (same_page home other)) ∙ same_redone home,
            );
      }

      module _ (beside : AreOutside next images) (behind : 1 < next.log_page) where
        pub new_log : IsAnchor d0.sizes last (Some next) → HasLog d0.sizes next [] last
        new_log is = record {
          anchor_is = is;
          groups_are = λ is_open. still_closed beside (sym (same_ring next behind next.log_vol (ring_byte next next.start) (gate_on_log next next.start)) ∙ is_open);
          fits = omega arith;
        }

        pub new_pages : AreHome images image → IsRedoneAs groups before [] last
        new_pages are home other = same_page home other ∙ sym (redoes_nothing groups image (subst (λ (l : List PageImage). AreHome l image) (sym move.has) are) home) ∙ same_redone home

        pub either_means : AreHome images image → IsOldOrNew d0.sizes (Some anchor) next last → Means last
        either_means are (inl is) = old_means is
        either_means are (inr is) = record { before = before; left = torn.1; same = inr (new_log is, new_pages are) }

-- Homes alone were written.
pub homes_written : (images : List PageImage) (next : Anchor) (d0 d1 : Disk) → HaveHomes d0.sizes images → OnlyWrites d0 d1 (IsAtHomes images) → BringsHome d0 d1 images next
homes_written images next d0 d1 homes writes = record {
  writes = only_writes-wider d0 d1 (IsAtHomes images) (IsAtHomesOrSlot images next) (λ v k at. inl at) writes;
  any_moment = λ told anchor groups move. touches-leaves d0 d1 (IsAtHomes images) (MeansTheSame d0 anchor groups next) told writes.touches (means_old images next d0 homes anchor groups move);
}

-- what is synced stands on each image
synced_home : (images : List PageImage) (moment : Moment) (sizes : List ℕ) (image : Image) → HaveHomes sizes images → AreSyncedBelow 9 images moment → AreHome images moment.contents → MayLeave moment image → AreHome images image
synced_home images moment sizes image homes synced are left home = go (image_at home images) refl (are home)
  where
    go : (o : Option (List ℕ)) → image_at home images ≡ o → IfSome o (λ page. page_at moment.contents home.vol home.page ≡ page) → IfSome o (λ page. page_at image home.vol home.page ≡ page)
    go None none fits = fits
    go (Some page) some fits =
        let has : HasHome images home = ap is_some some in
        let is : IsHomeOf sizes home = each_home (IsHomeOf sizes) images home homes has in
        let few = is.few_volumes in
        page-same home moment.contents image (λ v k on. left.synced v k (ap (λ (w : ℕ). moment.unsynced w k) on.0 ∙ synced home has (omega arith) k)) ∙ fits

-- The homes were written and synced, and the anchor after that.
module _ (images : List PageImage) (next : Anchor) (d0 d2 d3 : Disk) (homes : HaveHomes d0.sizes images) (beside : AreOutside next images) (behind : 1 < next.log_page) (slot : next.slot ≤ 1)
    (first : OnlyWrites d0 d2 (IsAtHomes images)) (home : Tells d0 → AreHome images d2.now.contents) (synced : Tells d0 → AreSyncedBelow 9 images d2.now) (third : WritesAnchor d2 d3 next) where
  told-2 : Tells d0 → Tells d2
  told-2 told = first.touches.told ∙ told

  -- a slot that was ready still is
  ready-2 : Tells d0 → (anchor : Option Anchor) (v s : ℕ) → IsReady d0 anchor v s → IsReady d2 anchor v s
  ready-2 told anchor v s = ready_still d0 d2 (IsAtHomes images) told first.touches (homes_beside_anchors d0.sizes images homes) anchor v s

  torn-2 : Tells d0 → (image : Image) → MayLeave d2.now image → MayLeaveTorn (IsAtHomes images) d0.now image
  torn-2 told = leaves-now d0 d2 (MayLeaveTorn (IsAtHomes images) d0.now) (first.touches.tears told)

  home-2 : Tells d0 → (image : Image) → MayLeave d2.now image → AreHome images image
  home-2 told image left = synced_home images d2.now d0.sizes image homes (synced told) (home told) left

  pub anchor_written : BringsHome d0 d3 images next
  anchor_written = record {
    writes =
        only_writes-then d0 d2 d3 (IsAtHomesOrSlot images next)
        (only_writes-wider d0 d2 (IsAtHomes images) (IsAtHomesOrSlot images next) (λ v k at. inl at) first)
        (only_writes-wider d2 d3 (IsSlot next.log_vol next.slot) (IsAtHomesOrSlot images next) (λ v k at. inr at) third.writes);
    any_moment = λ told anchor groups move.
        let Means = MeansTheSame d0 anchor groups next in
        let Torn = MayLeaveTorn (IsSlot next.log_vol next.slot) d2.now in
        let Either = IsOldOrNew d2.sizes (Some anchor) next in
        then_on d0 d2 d3 Means
        ((homes_written images next d0 d2 homes first).any_moment told anchor groups move)
        (weaker d2 d3 (λ image. Torn image × Either image) Means
        (λ image has.
        let torn = has.0 in
        either_means images next d0 homes anchor groups move torn.0 (torn-2 told torn.0 torn.1) slot image torn.2 beside behind (home-2 told torn.0 torn.1)
        (subst (λ (sizes : List ℕ). IsOldOrNew sizes (Some anchor) next image) first.touches.sizes has.1))
        (both d2 d3 Torn Either (third.writes.touches.tears (told-2 told)) (third.any_moment (told-2 told) (Some anchor) (ready-2 told (Some anchor) next.log_vol next.slot move.ready))));
  }

  module _ (done : HasWritten d2 d3 next) where
    sizes-3 : d3.sizes ≡ d0.sizes
    sizes-3 = third.writes.touches.sizes ∙ first.touches.sizes

    torn-3 : Tells d0 → (image : Image) → MayLeave d3.now image → MayLeaveTorn (IsSlot next.log_vol next.slot) d2.now image
    torn-3 told = leaves-now d2 d3 (MayLeaveTorn (IsSlot next.log_vol next.slot) d2.now) (third.writes.touches.tears (told-2 told))

    pub brought_home : HasBroughtHome d0 d3 images next
    brought_home = record {
      stands = λ told anchor groups move image left.
          let torn = torn-3 told image left in
          let is = done.has_new (told-2 told) (Some anchor) (ready-2 told (Some anchor) next.log_vol next.slot move.ready) image left in
          subst (λ (sizes : List ℕ). HasLog sizes next [] image) (sym sizes-3)
          (new_log images next d0 homes anchor groups move torn.0 (torn-2 told torn.0 torn.1) slot image torn.2 beside behind (subst (λ (sizes : List ℕ). IsAnchor sizes image (Some next)) sizes-3 is));
      same = λ told anchor groups move image left.
          let torn = torn-3 told image left in
          let was = torn-2 told torn.0 torn.1 in
          (was.0, was.1, new_pages images next d0 homes anchor groups move torn.0 was slot image torn.2 beside behind (home-2 told torn.0 torn.1));
      next_ready = λ told anchor later ready same follows stays. done.next (told-2 told) anchor later (ready-2 told (Some anchor) next.log_vol next.slot ready) same follows stays;
      synced = λ told home has low k.
          elim (cases_eq home.vol next.log_vol) [
            | inl is ↦ ap (λ (v : ℕ). d3.now.unsynced v k) is ∙ (done.settled (told-2 told)).here k
            | inr other ↦ (done.settled (told-2 told)).elsewhere home.vol k other ∙ synced told home has low k
          ];
      anchor_synced = λ told. (done.settled (told-2 told)).here;
      others = λ told anchor v s ready other_ready other. done.others (told-2 told) anchor v s (ready-2 told anchor next.log_vol next.slot ready) (ready-2 told anchor v s other_ready) other;
    }

-- the anchor that the contents have is what it was
pub anchor_stays : (images : List PageImage) (d0 d2 : Disk) → HaveHomes d0.sizes images → OnlyWrites d0 d2 (IsAtHomes images) → Tells d0 → (anchor : Option Anchor) → IsAnchor d0.sizes d0.now.contents anchor → IsAnchor d2.sizes d2.now.contents anchor
anchor_stays images d0 d2 homes writes told anchor is =
    subst (λ (sizes : List ℕ). IsAnchor sizes d2.now.contents anchor) (sym writes.touches.sizes)
    (IsAnchor-elsewhere d0.now.contents d2.now.contents (λ v k on. writes.touches.contents told v k (λ at. homes_beside_anchors d0.sizes images homes v k at on)) d0.sizes anchor is)

-- syncs change nothing that a read gives
pub home_after_syncs : (images : List PageImage) (d1 d2 : Disk) → OnlyWrites d1 d2 NoPlace → Tells d1 → AreHome images d1.now.contents → AreHome images d2.now.contents
home_after_syncs images d1 d2 syncs told are home = go (image_at home images) (are home)
  where
    go : (o : Option (List ℕ)) → IfSome o (λ page. page_at d1.now.contents home.vol home.page ≡ page) → IfSome o (λ page. page_at d2.now.contents home.vol home.page ≡ page)
    go None fits = fits
    go (Some page) fits = page-same home d1.now.contents d2.now.contents (λ v k on. syncs.touches.contents told v k (λ none. none)) ∙ fits
