-- A domain that is closed.
use Rattle.std.proofs.Common.{◌≡◌, ◌∙◌, ℕ, ◌+◌, ◌-◌, ◌%◌, ◌≤◌, List, [], length, Option, Some, None, IfSome, IsSome, IsSomeAnd, slice_get, refl, sym, ap, subst, arith, ⊎_elim}
use Rattle.std.proofs.Math.Logic.{∥∥₁_elim, ∥∥₁_map, ∥∥₁_map₂}
use Rattle.std.proofs.lemmas.Bool.{cases_eq, cases_lt}
use Rattle.attached_domain.specs.page_store.Pages.{Pages}
use Rattle.attached_domain.specs.volume_disk.Disk.{Disk, IsSettled, MayLeave, Tells, volume_pages}
use Rattle.attached_domain.specs.volume_disk.Image.{Image, page_at}
use Rattle.attached_domain.specs.volume_disk.Run.{Touches}
use Rattle.attached_domain.proofs.OfVolumeDisk.Laws.{leaves-now, touches-wider}
use Rattle.attached_domain.specs.disk_label.declared.anchor.Anchor.{Anchor}
use Rattle.attached_domain.specs.log_ring.Groups.{HasLog, redone}
use Rattle.attached_domain.specs.log_ring.Homes.{HasMembers, member_of}
use Rattle.attached_domain.specs.log_ring.LogLaws.{IsElsewhere}
use Rattle.attached_domain.proofs.OfLogRing.Staying.{log_stays}
use Rattle.attached_domain.specs.log_recovery.Outcome.{HasGoodAnchor, HasRecovered}
use Rattle.attached_domain.specs.log_recovery.Readable.{IsBehindAnchors}
use Rattle.attached_domain.specs.log_recovery.declared.redone.Redone.{Redone}
use Rattle.attached_domain.proofs.OfLogRecovery.GoodAnchors.{keeps_good_anchor}
use Rattle.attached_domain.specs.fileset_model.Filesets.{FilesetMap}
use Rattle.attached_domain.specs.page_ways.Frame.{frame_in}
use Rattle.attached_domain.specs.staged_pages.Store.{before_of, pages_of}
use Rattle.attached_domain.specs.domain_layout.Owners.{frame_of}
use Rattle.attached_domain.specs.domain_layout.Read.{Means}
use Rattle.attached_domain.specs.domain_standing.Domain.{DomainNow, layout_of}
use Rattle.attached_domain.proofs.OfDomainStanding.OneMeaning.{reads_so}
use Rattle.attached_domain.proofs.OfNoFaults.WholeDomain.{sound_faultless}
use Rattle.attached_domain.specs.domain_memory.Memory.{StandsFor, kept_in}
use Rattle.attached_domain.specs.domain_memory.Staged.{IsSettled as IsSettledMemory}
use Rattle.attached_domain.specs.domain_memory.declared.memory.DomainMemory.{DomainMemory}
use Rattle.domain_bringing.specs.Brought.{HasDomainPages, IsGoodFrame}
use Rattle.attached_domain.specs.domain_layout.Looks.{AgreeWhereRulesLook}
use Rattle.domain_bringing.proofs.Means.{AreThoseOf, behind, those_mean}
use Rattle.domain_bringing.proofs.Ranges.{good_frame, in_range}
use Rattle.domain_state.specs.Rest.{IsAtRest}
use Rattle.domain_attaching.proofs.ItsPages.{all_there, looked_there}
use Rattle.domain_attaching.specs.Closing.{AreHome, HasRoomFor, IsClosed, IsOnLoggable, MeansKept}
use Rattle.domain_attaching.specs.declared.closing_room.ClosingRoom.{ClosingRoom}

-- ---- where the pages lie

on_page_behind : (anchor : Anchor) (v k : ℕ) → IsOnLoggable anchor v k → IsBehindAnchors v k
on_page_behind anchor v k on = let behind = on.1.behind in let low = on.2.1 in omega (arith, behind, low)

on_page_elsewhere : (anchor : Anchor) (v k : ℕ) → IsOnLoggable anchor v k → IsElsewhere anchor v k
on_page_elsewhere anchor v k on = (
  (λ at. let behind = on.1.behind in let low = on.2.1 in let high = at.1 in omega (arith, behind, low, high)),
  (λ log.
      let low = on.2.1 in let high = on.2.2 in let from = log.1 in let to = log.2 in
      on.1.outside (sym on.2.0 ∙ log.0, omega (arith, high, from), omega (arith, low, to))),
)

-- ---- the rack

pub closed : (old new : Disk) (memory : DomainMemory) → Tells old → IsAtRest old memory.frame.anchor → Touches old new (IsOnLoggable memory.frame.anchor) → AreHome (pages_of memory.pages) memory.frame.anchor new.now.contents → IsSettled new.now
    → pages_of memory.pages ≡ before_of memory.pages → IsClosed new memory
closed old new memory told rest touches home synced kept =
    let anchor = memory.frame.anchor in
    let none = rest.none told in
    let good = keeps_good_anchor old new anchor told none.good (touches-wider old new (IsOnLoggable anchor) IsBehindAnchors (on_page_behind anchor) touches) in
    record {
      none = record {
        stands = (log_stays old new anchor [] told none.stands (touches-wider old new (IsOnLoggable anchor) (IsElsewhere anchor) (on_page_elsewhere anchor) touches)).now;
        good = λ image left. subst (λ (l : List ℕ). HasGoodAnchor l image anchor) (sym touches.sizes) (leaves-now old new (λ image. HasGoodAnchor old.sizes image anchor) good image left);
      };
      home = λ image left.
          subst (λ (i : Image). AreHome (before_of memory.pages) anchor i) (sym (λ i v k. left.synced v k (synced v k) i)) (subst (λ (p : Pages). AreHome p anchor new.now.contents) kept home);
      synced = synced;
    }

-- ---- what it means

abbrev pub found_of : Anchor → Redone
found_of anchor = record { anchor = anchor; images = []; next_group = anchor.group; next_place = anchor.start % 128 }

pub recovered_none : (sizes : List ℕ) (image : Image) (anchor : Anchor) → HasGoodAnchor sizes image anchor → HasLog sizes anchor [] image → HasRecovered sizes image [] (found_of anchor)
recovered_none sizes image anchor good log = record {
  good = good;
  log = log;
  images = refl;
  next_group = omega arith;
  next_place = let same : anchor.start ≡ anchor.start + 0 = omega arith in ap (λ (n : ℕ). n % 128) same;
}

those_home : (memory : DomainMemory) (image : Image) → AreHome (before_of memory.pages) memory.frame.anchor image → AreThoseOf (before_of memory.pages) (frame_in memory.frame) [] image
those_home memory image home at loggable some = by_page (before_of memory.pages at) some (home at loggable)
  where
    by_page : (o : Option (List ℕ)) → IsSome o → IfSome o (λ page. page_at image at.vol at.page ≡ page) → o ≡ redone [] image at
    by_page None none is = absurd (let e : IsSome {T = List ℕ} None = none in absurd (cc))
    by_page (Some page) some is = ap Some (sym is)

module _ (disk : Disk) (memory : DomainMemory) (is : IsClosed disk memory) (all : FilesetMap) (stands : StandsFor memory all) (image : Image) (left : MayLeave disk.now image) where
  abbrev d : DomainNow
  d = kept_in memory

  good : HasGoodAnchor disk.sizes image memory.frame.anchor
  good = is.none.good image left

  range : IsGoodFrame (frame_in memory.frame)
  range =
      let version = stands.stands.tables.laid.version in
      good_frame memory.frame.anchor memory.frame.version good.in_range.whole version (in_range disk.sizes image memory.frame.anchor memory.frame.version version good)

  its_pages : HasDomainPages d.pages (frame_in memory.frame)
  its_pages =
      let none = sound_faultless d all stands.stands stands.sound stands.parents stands.marked in
      record {
        laid_out = record { layout = layout_of d; is = refl; laid = stands.stands.tables.laid };
        no_fault = none;
        looked = looked_there d all stands.stands range stands.marked none;
        all = all_there d all stands.stands range stands.marked none (λ home. refl);
      }

  pub means_kept : Means disk.sizes image all
  means_kept =
      (those_mean disk.sizes image d.pages [] (found_of memory.frame.anchor) (frame_in memory.frame)
      range its_pages refl (recovered_none disk.sizes image memory.frame.anchor good (is.none.stands image left)) (those_home memory image (is.home image left)) all).1
      (λ home at. reads_so d all home stands.stands at (λ place. refl))

  -- where the rules look at the image's pages, they are those in memory
  pub image_agrees : AgreeWhereRulesLook (redone [] image) d.pages (frame_of (layout_of d))
  image_agrees = behind d.pages [] image (layout_of d) stands.stands.tables.laid range its_pages (those_home memory image (is.home image left))

-- ---- what is asked, if it is known that the rack is at rest

nothing : {A : Type 0} → ∥ A ∥₁ → (A → ⊥) → ⊥
nothing t none = ∥∥₁_elim t (λ x y. absurd x) none

asks_most : {A : Type 0} → ∥ A ∥₁ → (a b : ℕ) → (A → a ≤ b) → a ≤ b
asks_most t a b is = ⊎_elim (λ more. absurd (nothing t (λ x. let most = is x in omega (arith, more, most)))) (λ fits. fits) (cases_lt b a)

pub asks_members : (disk : Disk) (anchor : Anchor) → ∥ IsAtRest disk anchor ∥₁ → HasMembers disk.sizes anchor
asks_members disk anchor rest vol first last there whole = (
  asks_most rest vol (length disk.sizes) (λ r. (r.members vol first last there whole).0),
  asks_most rest (member_of anchor vol).pages (volume_pages disk.sizes vol) (λ r. (r.members vol first last there whole).1),
  asks_most rest (member_of anchor vol).pages 1048576 (λ r. (r.members vol first last there whole).2),
)

-- ---- the room

asks_same : {A : Type 0} → ∥ A ∥₁ → (a b : ℕ) → (A → a ≡ b) → a ≡ b
asks_same t a b is = ⊎_elim (λ same. same) (λ apart. absurd (nothing t (λ x. apart (is x)))) (cases_eq a b)

-- the room for one anchor is that for another that is known to be the same
pub room_of_other : (one other : Anchor) (room : ClosingRoom) → ∥ other ≡ one ∥₁ → HasRoomFor one room → HasRoomFor other room
room_of_other one other room same has = record {
  marks = λ vol first last.
      let pages : (member_of one vol).pages ≡ (member_of other vol).pages = asks_same same _ _ (λ is. sym (ap (λ (a : Anchor). (member_of a vol).pages) is)) in
      subst (λ (n : ℕ). IsSomeAnd (slice_get room.tables.volumes.items (vol - 1)) (λ marks. length marks.items ≡ n)) pages (has.marks vol first last);
  buffer = has.buffer;
}

-- ---- all of it

-- `old` and `memory` are what the domain was, `same` and `kept` what it was taken apart into
module _ (old same new : Disk) (memory kept : DomainMemory) (disk_is : same ≡ old) (memory_is : kept ≡ memory) (rest : ∥ IsAtRest old memory.frame.anchor ∥₁) (settled : ∥ IsSettledMemory memory ∥₁) (touches : Touches same new (IsOnLoggable kept.frame.anchor))
    (home : Tells same → AreHome (pages_of kept.pages) kept.frame.anchor new.now.contents) (synced : Tells same → IsSettled new.now) where
  pub closed_then : Tells old → ∥ IsClosed new memory ∥₁
  closed_then told = ∥∥₁_map₂ rest settled (λ r s. closed old new memory told r (touches_there memory_is) (home_there memory_is) (synced (subst Tells (sym disk_is) told)) s.pages)
    where
      touches_there : kept ≡ memory → Touches old new (IsOnLoggable memory.frame.anchor)
      touches_there is = subst (λ (d : Disk). Touches d new (IsOnLoggable memory.frame.anchor)) disk_is (subst (λ (m : DomainMemory). Touches same new (IsOnLoggable m.frame.anchor)) is touches)

      home_there : kept ≡ memory → AreHome (pages_of memory.pages) memory.frame.anchor new.now.contents
      home_there is = subst (λ (m : DomainMemory). AreHome (pages_of m.pages) m.frame.anchor new.now.contents) is (home (subst Tells (sym disk_is) told))

  pub means_then : Tells old → MeansKept new memory
  means_then told all stands image left = ∥∥₁_map (closed_then told) (λ is. means_kept new memory is all stands image left)
