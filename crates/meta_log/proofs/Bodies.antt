-- What stands at places of a ring once a group is written there after its gate.
use Rattle.std.proofs.Common.{◌≡◌, ℕ, ◌+◌, ◌-◌, ◌<◌, ◌≤◌, List, [], ◌∷◌, ◌++◌, length, take, drop, refl, sym, ◌∙◌, ap, subst, inl, inr, arith}
use Rattle.std.proofs.lemmas.List.{get_or-drop, length-drop, length-replicate}
use Rattle.std.proofs.lemmas.Slice.{between_to_end}
use Rattle.std.proofs.lemmas.Grind.{same_number_lists}
use Rattle.log_ring.specs.domain_base.Gate.{closed}
use Rattle.log_ring.specs.volume_disk.Disk.{Disk, Syncs, Tells}
use Rattle.log_ring.specs.volume_disk.Image.{HasBytes, Image, IsIn, NoPlace, bytes_at, bytes_from}
use Rattle.log_ring.specs.volume_disk.Run.{OnlyWrites}
use Rattle.log_ring.proofs.OfVolumeDisk.Bytes.{bytes_from-same, get_or-bytes_from, length-bytes_from}
use Rattle.log_ring.proofs.OfVolumeDisk.Laws.{only_writes-then, only_writes-wider}
use Rattle.log_ring.specs.disk_label.declared.anchor.Anchor.{Anchor}
use Rattle.log_ring.specs.declared.image.PageImage.{PageImage}
use Rattle.log_ring.specs.Groups.{AreImagesAt}
use Rattle.log_ring.specs.Ring.{IsGateOpen, IsOnPlaces, place_at, ring_byte}
use Rattle.log_ring.proofs.HomePages.{bytes_there}
use Rattle.log_ring.proofs.OnImages.{images-same}
use Rattle.log_ring.proofs.RingPlaces.{apart}
use Rattle.meta_log.specs.Force.{IsGateAt, IsGroupBody, IsHeaderBody, IsReadyToOpen, IsWrittenBody}

-- the bytes of a page after its first block
drop-bytes_from : (volume : ℕ → ℕ) (at n m : ℕ) → drop n (bytes_from volume at (n + m)) ≡ bytes_from volume (at + n) m
drop-bytes_from volume at n m =
    let all = length-bytes_from volume at (n + m) in
    let rest = length-bytes_from volume (at + n) m in
    let size = length-drop n (bytes_from volume at (n + m)) in
    same_number_lists (drop n (bytes_from volume at (n + m))) (bytes_from volume (at + n) m) (omega (arith, size, all, rest))
    (λ k lt.
    get_or-drop n (bytes_from volume at (n + m)) k 0
    ∙ get_or-bytes_from volume at (n + m) (n + k) 0 (omega (arith, size, all, lt))
    ∙ ap volume (omega arith)
    ∙ sym (get_or-bytes_from volume (at + n) m k 0 (omega (arith, size, all, lt))))

pub behind_gate : (image : Image) (anchor : Anchor) (place : ℕ) → drop 512 (place_at image anchor place) ≡ bytes_at image anchor.log_vol (ring_byte anchor place + 512) 7680
behind_gate image anchor place = drop-bytes_from (image anchor.log_vol) (ring_byte anchor place) 512 7680

-- the same bytes at the same place
pub bytes-moved : (image : Image) (vol w at from : ℕ) (bytes others : List ℕ) → vol ≡ w → at ≡ from → bytes ≡ others → HasBytes vol at bytes image → HasBytes w from others image
bytes-moved image vol w at from bytes others vol_is at_is bytes_are has =
    subst (λ (v : ℕ). HasBytes v from others image) vol_is (subst (λ (k : ℕ). HasBytes vol k others image) at_is (subst (λ (l : List ℕ). HasBytes vol at l image) bytes_are has))

-- what was written after a gate
pub written_behind : (image : Image) (anchor : Anchor) (place : ℕ) (header : List ℕ) → length header ≡ 8192 → HasBytes anchor.log_vol (ring_byte anchor place + 512) (take (length header - 512) (drop 512 header)) image → IsWrittenBody image anchor place header
written_behind image anchor place header size has =
    let rest = drop 512 header in
    let same = between_to_end header 512 (length header) (omega arith) in
    let has_rest = subst (λ (l : List ℕ). HasBytes anchor.log_vol (ring_byte anchor place + 512) l image) same has in
    behind_gate image anchor place ∙ bytes_there anchor.log_vol (ring_byte anchor place + 512) 7680 rest image (length-drop 512 header ∙ omega (arith, size)) has_rest

-- a gate that was written closed
pub written_closed : (image : Image) (anchor : Anchor) (place : ℕ) → HasBytes anchor.log_vol (ring_byte anchor place) closed image → ¬ IsGateOpen image anchor place
unfolding closed
written_closed image anchor place has is_open =
    let size = length-replicate {A = ℕ} 512 0 in
    let start : ring_byte anchor place ≡ ring_byte anchor place + 0 = omega arith in
    let zero_there : image anchor.log_vol (ring_byte anchor place) ≡ 0 = ap (image anchor.log_vol) start ∙ has 0 (omega (arith, size)) in
    omega (arith, zero_there, is_open)

-- one image more
pub images_more : (image : Image) (anchor : Anchor) (place : ℕ) (images : List PageImage) (logged : PageImage) → AreImagesAt image anchor place images → place_at image anchor (place + length images) ≡ logged.page → AreImagesAt image anchor place (images ++ logged ∷ [])
images_more image anchor place [] logged are is = (subst (λ (p : ℕ). place_at image anchor p ≡ logged.page) (omega arith) is, tt)
images_more image anchor place (first ∷ images) logged are is = (
  are.0,
  images_more image anchor (place + 1) images logged are.1 (subst (λ (p : ℕ). place_at image anchor p ≡ logged.page) (omega arith) is),
)

-- Places.

pub gate_on_place : (anchor : Anchor) (place v k : ℕ) → IsGateAt anchor place v k → IsIn anchor.log_vol (ring_byte anchor place) 8192 v k
gate_on_place anchor place v k is = (is.0, is.1, omega (arith, is.2))

pub body_on_place : (anchor : Anchor) (place v k : ℕ) → IsHeaderBody anchor place v k → IsIn anchor.log_vol (ring_byte anchor place) 8192 v k
body_on_place anchor place v k is = (is.0, omega (arith, is.1), omega (arith, is.2))

-- A group was written but for its gate.
module _ (anchor : Anchor) (place : ℕ) (images : List PageImage) (few : length images + 2 ≤ 128) (d0 d1 d2 d3 : Disk)
    (header_body : OnlyWrites d0 d1 (IsHeaderBody anchor place)) (pages : OnlyWrites d1 d2 (IsOnPlaces anchor (place + 1) (length images)))
    (gate : OnlyWrites d2 d3 (IsGateAt anchor (place + 1 + length images))) where
  abbrev n : ℕ
  n = length images

  abbrev Body : ℕ → ℕ → Type 0
  Body = IsGroupBody anchor place n

  pub one_written : OnlyWrites d0 d1 Body
  one_written = only_writes-wider d0 d1 (IsHeaderBody anchor place) Body (λ v k is. inl is) header_body

  pub two_written : OnlyWrites d0 d2 Body
  two_written = only_writes-then d0 d1 d2 Body one_written (only_writes-wider d1 d2 (IsOnPlaces anchor (place + 1) n) Body (λ v k is. inr (inl is)) pages)

  pub three_written : OnlyWrites d0 d3 Body
  three_written = only_writes-then d0 d2 d3 Body two_written (only_writes-wider d2 d3 (IsGateAt anchor (place + 1 + n)) Body (λ v k is. inr (inr is)) gate)

  pub all_written : (d4 : Disk) → OnlyWrites d3 d4 NoPlace → OnlyWrites d0 d4 Body
  all_written d4 synced = only_writes-then d0 d3 d4 Body three_written (only_writes-wider d3 d4 NoPlace Body (λ v k none. absurd none) synced)

  module _ (d4 : Disk) (synced : OnlyWrites d3 d4 NoPlace) (told : Tells d0) where
    told-1 : Tells d1
    told-1 = header_body.touches.told ∙ told

    told-2 : Tells d2
    told-2 = pages.touches.told ∙ told-1

    told-3 : Tells d3
    told-3 = gate.touches.told ∙ told-2

    -- since the images were written, only the next gate has changed
    since_pages : (v k : ℕ) → ¬ IsGateAt anchor (place + 1 + n) v k → d4.now.contents v k ≡ d2.now.contents v k
    since_pages v k out = synced.touches.contents told-3 v k (λ none. none) ∙ gate.touches.contents told-2 v k out

    own_page : (v k : ℕ) → IsHeaderBody anchor place v k → d4.now.contents v k ≡ d1.now.contents v k
    own_page v k is =
        since_pages v k (λ at. apart anchor place (place + 1 + n) v k (omega arith) (omega arith) (body_on_place anchor place v k is) (gate_on_place anchor (place + 1 + n) v k at))
        ∙ pages.touches.contents told-1 v k (λ at. let lt = at.1 in apart anchor place (place + 1 + at.0) v k (omega arith) (omega arith) (body_on_place anchor place v k is) at.2)

    image_pages : (v k : ℕ) → IsOnPlaces anchor (place + 1) n v k → d4.now.contents v k ≡ d2.now.contents v k
    image_pages v k is =
        since_pages v k (λ at. let lt = is.1 in apart anchor (place + 1 + is.0) (place + 1 + n) v k (omega arith) (omega arith) is.2 (gate_on_place anchor (place + 1 + n) v k at))

    pub ready_to_open : (header : List ℕ) → IsWrittenBody d1.now.contents anchor place header → AreImagesAt d2.now.contents anchor (place + 1) images → ¬ IsGateOpen d3.now.contents anchor (place + 1 + n) → Syncs anchor.log_vol d3.now d4.now → IsReadyToOpen d4.now anchor place header images
    ready_to_open header behind are closed syncs = record {
      behind =
          behind_gate d4.now.contents anchor place
          ∙ bytes_from-same (d4.now.contents anchor.log_vol) (d1.now.contents anchor.log_vol) (ring_byte anchor place + 512) 7680 (λ k le lt. own_page anchor.log_vol k (refl, le, lt))
          ∙ sym (behind_gate d1.now.contents anchor place)
          ∙ behind;
      pages = images-same anchor d2.now.contents d4.now.contents images (place + 1) image_pages are;
      next = λ is_open. closed (sym (synced.touches.contents told-3 anchor.log_vol (ring_byte anchor (place + 1 + n)) (λ none. none)) ∙ is_open);
      synced = syncs.here;
    }

-- the page of one image more is written after those of the others
pub one_image_more : (anchor : Anchor) (place : ℕ) (images : List PageImage) (logged : PageImage) (d0 d1 : Disk) → Tells d0 → length images < 128 → OnlyWrites d0 d1 (IsIn anchor.log_vol (ring_byte anchor (place + length images)) 8192) → AreImagesAt d0.now.contents anchor place images
    → place_at d1.now.contents anchor (place + length images) ≡ logged.page → AreImagesAt d1.now.contents anchor place (images ++ logged ∷ [])
one_image_more anchor place images logged d0 d1 told few writes are is =
    images_more d1.now.contents anchor place images logged
    (images-same anchor d0.now.contents d1.now.contents images place (λ v k on. writes.touches.contents told v k (λ at. let lt = on.1 in apart anchor (place + on.0) (place + length images) v k (omega arith) (omega arith) on.2 at)) are) is
