-- Groups that are read one after the other.
use Rattle.std.proofs.Common.{◌≡◌, ℕ, zero, suc, ◌+◌, ◌<◌, ◌≤◌, ◌++◌, List, [], ◌∷◌, length, get_or, take, refl, sym, ap, ◌∙◌, subst, append_assoc, length-append, length-take, arith}
use Rattle.std.proofs.lemmas.List.{append-nil, get_or-map, length-map, take_all, take_more}
use Rattle.std.proofs.lemmas.List.Elements.{All-append}
use Rattle.log_ring.specs.domain_base.Gate.{IsOpen}
use Rattle.log_ring.specs.domain_base.declared.place.Home.{Home}
use Rattle.log_ring.specs.volume_disk.Disk.{Disk, Tells}
use Rattle.log_ring.specs.volume_disk.Image.{Image}
use Rattle.log_ring.proofs.OfVolumeDisk.Bytes.{get_or-bytes_from}
use Rattle.log_ring.specs.disk_label.declared.anchor.Anchor.{Anchor}
use Rattle.log_ring.specs.Header.{IsHeader, IsRead}
use Rattle.log_ring.specs.Images.{homes_of}
use Rattle.log_ring.specs.declared.header.Header.{Header}
use Rattle.log_ring.specs.declared.header.HeaderRead.TheVariants.{Group as AGroup, Bad}
use Rattle.log_ring.specs.declared.image.PageImage.{PageImage}
use Rattle.log_ring.proofs.HeaderPages.{one_header}
use Rattle.log_ring.specs.Groups.{AreGroups, AreImagesAt, Group, HasGroup, header_of, span}
use Rattle.log_ring.specs.Homes.{AreLoggable, IsLoggable}
use Rattle.log_ring.specs.Ring.{IsGateOpen, place_at, ring_byte}
use Rattle.log_ring.proofs.Redoing.{images_of-one_more}
use Rattle.log_recovery.specs.Groups.{AddsImages, AreAllLoggable, AreInTurn, HasScanned, IsNoGroup, MayBeNext, TakesGroup}
use Rattle.log_recovery.specs.declared.scan.Scan.{Scan}

-- The images of a group.

images_push : (image : Image) (anchor : Anchor) (place : ℕ) (images : List PageImage) (one : PageImage) → AreImagesAt image anchor place images → place_at image anchor (place + length images) ≡ one.page → AreImagesAt image anchor place (images ++ one ∷ [])
images_push image anchor place [] one there here = (ap (place_at image anchor) (omega arith) ∙ here, tt)
images_push image anchor place (first ∷ images) one there here =
    (there.0, images_push image anchor (place + 1) images one there.1 (ap (place_at image anchor) (omega arith) ∙ here))

homes_push : (images : List PageImage) (one : PageImage) → homes_of (images ++ one ∷ []) ≡ homes_of images ++ one.home ∷ []
homes_push [] one = refl
homes_push (first ∷ images) one = ap (λ (homes : List Home). first.home ∷ homes) (homes_push images one)

-- none is read yet
pub adds_none : (disk : Disk) (anchor : Anchor) (place : ℕ) (old : List PageImage) → AddsImages disk anchor place [] old old
adds_none disk anchor place old = record { added = []; is = sym (append-nil old); at = refl; there = λ told. tt }

-- and one more
pub adds_more : (disk : Disk) (anchor : Anchor) (place i : ℕ) (homes : List Home) (home : Home) (page : List ℕ) (old mid new : List PageImage) → i < length homes → home ≡ get_or homes i home → new ≡ mid ++ record { home = home; page = page } ∷ []
    → (Tells disk → page ≡ place_at disk.now.contents anchor (place + i)) → AddsImages disk anchor place (take i homes) old mid → AddsImages disk anchor place (take (i + 1) homes) old new
adds_more disk anchor place i homes home page old mid new lt is pushed read so_far =
    let one : PageImage = record { home = home; page = page } in
    let count : length so_far.added ≡ i =
    sym (length-map so_far.added (λ (image : PageImage). image.home)) ∙ ap (length {A = Home}) so_far.at ∙ length-take-le' i homes (omega (arith, lt)) in
    record {
      added = so_far.added ++ one ∷ [];
      is = pushed ∙ ap (λ (l : List PageImage). l ++ one ∷ []) so_far.is ∙ append_assoc old so_far.added (one ∷ []);
      at = homes_push so_far.added one ∙ (λ j. so_far.at j ++ is j ∷ []) ∙ sym (take_more homes i home lt);
      there = λ told. images_push disk.now.contents anchor place so_far.added one (so_far.there told) (ap (λ (k : ℕ). place_at disk.now.contents anchor (place + k)) count ∙ sym (read told));
    }
  where
    length-take-le' : (n : ℕ) (l : List Home) → n ≤ length l → length (take n l) ≡ n
    length-take-le' n l le = omega (arith, length-take n l)

-- all are read
pub adds_all : (disk : Disk) (anchor : Anchor) (place i : ℕ) (homes : List Home) (old new : List PageImage) → length homes ≤ i → AddsImages disk anchor place (take i homes) old new → AddsImages disk anchor place homes old new
adds_all disk anchor place i homes old new all adds = subst (λ (l : List Home). AddsImages disk anchor place l old new) (take_all i homes all) adds

-- The gate at a place, as a read shows it.

gate_byte : (image : Image) (anchor : Anchor) (place : ℕ) → get_or (place_at image anchor place) 0 0 ≡ image anchor.log_vol (ring_byte anchor place)
gate_byte image anchor place =
    let start : ring_byte anchor place + 0 ≡ ring_byte anchor place = omega arith in
    get_or-bytes_from (image anchor.log_vol) (ring_byte anchor place) 8192 0 0 (omega arith) ∙ ap (image anchor.log_vol) start

pub seen_open : (image : Image) (anchor : Anchor) (place : ℕ) → IsOpen (place_at image anchor place) → IsGateOpen image anchor place
seen_open image anchor place is_open = sym (gate_byte image anchor place) ∙ is_open

pub seen_closed : (image : Image) (anchor : Anchor) (place : ℕ) → ¬ IsOpen (place_at image anchor place) → ¬ IsGateOpen image anchor place
seen_closed image anchor place shut is_open = shut (gate_byte image anchor place ∙ is_open)

-- Homes that may be logged.

pub loggable_images : (anchor : Anchor) (images : List PageImage) (homes : List Home) → homes_of images ≡ homes → AreAllLoggable anchor homes → AreLoggable anchor images
loggable_images anchor images homes at all k d lt =
    let size : length homes ≡ length images = sym (ap (length {A = Home}) at) ∙ length-map images (λ (image : PageImage). image.home) in
    subst (IsLoggable anchor) (ap (λ (l : List Home). get_or l k d.home) (sym at) ∙ get_or-map (λ (image : PageImage). image.home) images k d d.home lt) (all k d.home (omega (arith, lt, size)))

pub loggable_homes : (anchor : Anchor) (images : List PageImage) → AreLoggable anchor images → AreAllLoggable anchor (homes_of images)
loggable_homes anchor [] all k d lt = absurd (omega (arith, lt))
loggable_homes anchor (first ∷ images) all zero d lt = all 0 first (omega arith)
loggable_homes anchor (first ∷ images) all (suc k) d lt = loggable_homes anchor images (λ i e le. all (suc i) e (omega (arith, le))) k d (omega (arith, lt))

pub loggable_more : (anchor : Anchor) (old added new : List PageImage) → new ≡ old ++ added → AreLoggable anchor old → AreLoggable anchor added → AreLoggable anchor new
loggable_more anchor old added new is one other = subst (AreLoggable anchor) (sym is) (All-append (λ (image : PageImage). IsLoggable anchor image.home) old added one other)

-- No group is next.

pub no_header : (image : Image) (anchor : Anchor) (used number : ℕ) → IsRead (place_at image anchor (anchor.start + used)) Bad → IsNoGroup image anchor used number
no_header image anchor used number read = record {
  is_open = seen_open image anchor (anchor.start + used) read.0;
  none = λ group next. read.1 (header_of group) next.stands.behind.header;
}

pub no_next : (image : Image) (anchor : Anchor) (used number : ℕ) (header : Header) → IsRead (place_at image anchor (anchor.start + used)) (AGroup header) → ¬ MayBeNext anchor used number header → IsNoGroup image anchor used number
no_next image anchor used number header read wrong = record {
  is_open = seen_open image anchor (anchor.start + used) read.0;
  none = λ group next.
      let is : header ≡ header_of group = one_header (place_at image anchor (anchor.start + used)) header (header_of group) read.1 next.stands.behind.header in
      let count : length (homes_of group.images) ≡ length group.images = length-map group.images (λ (one : PageImage). one.home) in
      wrong (subst (MayBeNext anchor used number) (sym is) (record {
        numbered = next.numbered;
        fits = (let fits = next.fits in omega (arith, fits, count));
        loggable = loggable_homes anchor group.images next.stands.behind.loggable;
      }));
}

-- One more group.

turn_push : (anchor : Anchor) (image : Image) (groups : List Group) (one : Group) (place number : ℕ) → AreInTurn anchor place number groups image → one.number ≡ number + length groups → HasGroup image anchor (place + span groups) one → AreInTurn anchor place number (groups ++ one ∷ []) image
turn_push anchor image [] one place number turn numbered stands = (numbered ∙ omega arith, subst (λ (k : ℕ). HasGroup image anchor k one) (omega arith) stands, tt)
turn_push anchor image (group ∷ groups) one place number turn numbered stands = (
  turn.0,
  turn.1,
  turn_push anchor image groups one (place + 1 + length group.images) (number + 1) turn.2 (numbered ∙ omega arith) (subst (λ (k : ℕ). HasGroup image anchor k one) (omega arith) stands),
)

span_push : (groups : List Group) (one : Group) → span (groups ++ one ∷ []) ≡ span groups + (1 + length one.images)
span_push [] one = omega arith
span_push (group ∷ groups) one = let rest = span_push groups one in omega (arith, rest)

pub one_group : (disk : Disk) (anchor : Anchor) (groups : List Group) (header : Header) (old new : Scan) → Tells disk → IsRead (place_at disk.now.contents anchor (anchor.start + old.used)) (AGroup header) → MayBeNext anchor old.used old.next header
    → TakesGroup disk anchor header old new → HasScanned disk.now.contents anchor groups old → (group : Group) × HasScanned disk.now.contents anchor (groups ++ group ∷ []) new
one_group disk anchor groups header old new told read next takes scanned = (
  group,
  record {
    stand = turn_push anchor image groups group anchor.start anchor.group scanned.stand (next.numbered ∙ sym scanned.next) (subst (λ (k : ℕ). HasGroup image anchor (anchor.start + k) group) (sym scanned.used) stands);
    fits = omega (arith, span_push groups group, scanned.used, next.fits, count);
    images = images_of-one_more groups group ∙ ap (λ (l : List PageImage). l ++ added) scanned.images ∙ sym takes.images.is;
    used = omega (arith, span_push groups group, scanned.used, takes.used, count);
    next = omega (arith, length-append groups (group ∷ []), scanned.next, takes.next);
  },
)
  where
    image : Image
    image = disk.now.contents

    added : List PageImage
    added = takes.images.added

    group : Group
    group = record { number = header.number; images = added }

    count : length header.homes ≡ length added
    count = sym (ap (length {A = Home}) takes.images.at) ∙ length-map added (λ (one : PageImage). one.home)

    stands : HasGroup image anchor (anchor.start + old.used) group
    stands = record {
      is_open = seen_open image anchor (anchor.start + old.used) read.0;
      behind = record {
        header = subst (λ (homes : List Home). IsHeader (place_at image anchor (anchor.start + old.used)) (record { number = header.number; homes = homes })) (sym takes.images.at) read.1;
        loggable = loggable_images anchor added header.homes takes.images.at next.loggable;
        images = takes.images.there told;
      };
    }

-- The groups up to a closed gate.

pub turn_ends : (anchor : Anchor) (image : Image) (groups : List Group) (place number : ℕ) → AreInTurn anchor place number groups image → ¬ IsGateOpen image anchor (place + span groups) → AreGroups anchor place number groups image
turn_ends anchor image [] place number turn shut = subst (λ (k : ℕ). ¬ IsGateOpen image anchor k) (omega arith) shut
turn_ends anchor image (group ∷ groups) place number turn shut =
    (turn.0, turn.1, turn_ends anchor image groups (place + 1 + length group.images) (number + 1) turn.2 (subst (λ (k : ℕ). ¬ IsGateOpen image anchor k) (omega arith) shut))
