-- What images show after calls on a rack with a log.
use Rattle.std.proofs.Common.{◌≡◌, ℕ, ◌+◌, List, [], ◌∷◌, ◌++◌, Option, None, Some, refl, sym, ◌∙◌, ap, arith}
use Rattle.std.proofs.lemmas.Grind.{flat_map-append}
use Rattle.std.proofs.lemmas.List.{append-nil}
use Rattle.std.specs.Option.{option_or}
use Rattle.meta_log.specs.domain_base.declared.place.Home.{Home}
use Rattle.meta_log.specs.volume_disk.Disk.{Disk, MayLeave, Moment}
use Rattle.meta_log.specs.volume_disk.Image.{Image, NoPlace, Places}
use Rattle.meta_log.specs.volume_disk.Run.{MayLeaveTorn, Touches}
use Rattle.meta_log.proofs.OfVolumeDisk.Laws.{both, only_reads-leaves, touches-leaves, touches-wider}
use Rattle.meta_log.specs.disk_label.declared.anchor.Anchor.{Anchor}
use Rattle.meta_log.specs.log_ring.Groups.{Group, HasLog, images_of, pages_in, redone, span}
use Rattle.meta_log.specs.log_ring.Homes.{IsLogPage}
use Rattle.meta_log.specs.log_ring.Images.{image_at, joined}
use Rattle.meta_log.specs.log_ring.LogLaws.{IsElsewhere}
use Rattle.meta_log.specs.log_ring.Ring.{IsOnLog, IsOnPlaces}
use Rattle.meta_log.specs.log_ring.Settling.{IsOnPage}
use Rattle.meta_log.specs.log_ring.declared.image.PageImage.{PageImage}
use Rattle.meta_log.proofs.OfLogRing.HomePages.{one_page, page-same}
use Rattle.meta_log.proofs.OfLogRing.Overlays.{image_at-append, image_at-joined}
use Rattle.meta_log.proofs.OfLogRing.RingPlaces.{on_log}
use Rattle.meta_log.proofs.OfLogRing.Staying.{log_stays}
use Rattle.meta_log.specs.Log.{Log, groups_of, next_number, pending_groups, used}
use Rattle.logged_rack.specs.Sides.{AppendShows, ForceShows, NoHome, ReadShows, ShowsAsBefore, SyncShows, WriteShows}

-- a page that has a byte on the log is one of it
pub log_page : (anchor : Anchor) (home : Home) (v k : ℕ) → IsOnPage home v k → IsOnLog anchor v k → IsLogPage anchor home
log_page anchor home v k here there =
    let low = here.1 in
    let high = here.2 in
    let low' = there.1 in
    let high' = there.2 in
    (sym here.0 ∙ there.0, omega arith, omega arith)

-- an image that differs from one of before in some places has its pages that lie beside them
shows_torn : (moment : Moment) (anchor : Anchor) (places : Places) (changed : Home → Type 0) → ((home : Home) (v k : ℕ) → ¬ IsLogPage anchor home → ¬ changed home → IsOnPage home v k → ¬ places v k) → (image : Image) → MayLeaveTorn places moment image → ShowsAsBefore moment anchor changed image
shows_torn moment anchor places changed beside image torn =
    (torn.0, torn.1, λ home outside other. ap (λ (page : List ℕ). Some page) (page-same home torn.0 image (λ v k here. torn.2 v k (beside home v k outside other here))))

pub force_shows : (old new : Disk) (log : Log) → ForceShows old new log
force_shows old new log told forces =
    touches-leaves old new Ring (ShowsAsBefore old.now log.anchor NoHome) told forces.writes.touches
    (shows_torn old.now log.anchor Ring NoHome (λ home v k outside other here there. outside (log_page log.anchor home v k here (on_log log.anchor (log.anchor.start + used log + there.0) v k there.2))))
  where
    Ring : Places
    Ring = IsOnPlaces log.anchor (log.anchor.start + used log) (span (pending_groups log) + 1)

pub read_shows : (old new : Disk) → ReadShows old new
read_shows old new told reads = only_reads-leaves old new (MayLeave old.now) told reads (λ image left. left)

pub write_shows : (old new : Disk) (anchor : Anchor) (groups : List Group) (home : Home) → WriteShows old new anchor groups home
write_shows old new anchor groups home loggable writes told stands =
    both old new (HasLog old.sizes anchor groups) (ShowsAsBefore old.now anchor (λ other. other ≡ home))
    (log_stays old new anchor groups told stands elsewhere).any_moment
    (touches-leaves old new (IsOnPage home) (ShowsAsBefore old.now anchor (λ other. other ≡ home)) told writes.touches
    (shows_torn old.now anchor (IsOnPage home) (λ other. other ≡ home) (λ h v k outside other here there. other (one_page h home v k here there))))
  where
    elsewhere : Touches old new (IsElsewhere anchor)
    elsewhere =
        touches-wider old new (IsOnPage home) (IsElsewhere anchor)
        (λ v k here. (
          λ anchors.
              let behind = loggable.behind in
              let low = here.1 in
              let high = anchors.1 in
              omega arith,
          λ ring. loggable.outside (log_page anchor home v k here ring),
        )) writes.touches

pub sync_shows : (old new : Disk) (anchor : Anchor) (groups : List Group) → SyncShows old new anchor groups
sync_shows old new anchor groups writes told stands =
    both old new (HasLog old.sizes anchor groups) (ShowsAsBefore old.now anchor NoHome)
    (log_stays old new anchor groups told stands (touches-wider old new NoPlace (IsElsewhere anchor) (λ v k none. absurd none) writes.touches)).any_moment
    (touches-leaves old new NoPlace (ShowsAsBefore old.now anchor NoHome) told writes.touches
    (shows_torn old.now anchor NoPlace NoHome (λ home v k outside other here none. none)))

-- Appending.

option_or_assoc : {X : Type 0} (a b c : Option X) → option_or (option_or a b) c ≡ option_or a (option_or b c)
option_or_assoc None b c = refl
option_or_assoc (Some x) b c = refl

-- the images of what is pending
pending_images : (number : ℕ) (images : List PageImage) → images_of (groups_of number images) ≡ images
pending_images number [] = refl
pending_images number (image ∷ images) = append-nil (image ∷ images)

-- the images of groups and of a pending one
images_with : (number : ℕ) (groups : List Group) (pending : List PageImage) → images_of (groups ++ groups_of number pending) ≡ images_of groups ++ pending
images_with number groups pending = flat_map-append (λ (g : Group). g.images) groups (groups_of number pending) ∙ ap (λ (l : List PageImage). images_of groups ++ l) (pending_images number pending)

-- what stands at a home once they are redone
redone_with : (number : ℕ) (groups : List Group) (pending : List PageImage) (image : Image) (home : Home) → redone (groups ++ groups_of number pending) image home ≡ option_or (option_or (image_at home pending) (image_at home (images_of groups))) (pages_in image home)
redone_with number groups pending image home =
    ap (λ (l : List PageImage). option_or (image_at home l) (pages_in image home)) (images_with number groups pending)
    ∙ ap (λ (o : Option (List ℕ)). option_or o (pages_in image home)) (image_at-append home (images_of groups) pending)

pub append_shows : (log : Log) (change : List PageImage) (groups : List Group) (image : Image) → AppendShows log change groups image
append_shows log change groups image distinct home =
    redone_with (next_number log) groups (joined change log.pending) image home
    ∙ ap (λ (o : Option (List ℕ)). option_or (option_or o below) page) (image_at-joined change log.pending home distinct)
    ∙ ap (λ (o : Option (List ℕ)). option_or o page) (option_or_assoc (image_at home change) (image_at home log.pending) below)
    ∙ option_or_assoc (image_at home change) (option_or (image_at home log.pending) below) page
    ∙ ap (λ (o : Option (List ℕ)). option_or (image_at home change) o) (sym (redone_with (next_number log) groups log.pending image home))
  where
    below : Option (List ℕ)
    below = image_at home (images_of groups)

    page : Option (List ℕ)
    page = pages_in image home
