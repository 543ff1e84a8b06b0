-- What is pending, as a group after the durable ones.
use Rattle.std.proofs.Common.{◌≡◌, ℕ, ◌+◌, ◌-◌, ◌<◌, ◌≤◌, List, [], ◌∷◌, ◌++◌, length, length-append, take, drop, refl, sym, ◌∙◌, ap, subst, arith}
use Rattle.std.proofs.lemmas.Grind.{flat_map-append}
use Rattle.std.proofs.lemmas.List.{append-nil, length-map}
use Rattle.std.proofs.lemmas.List.Elements.{All-append, All-nil}
use Rattle.std.proofs.lemmas.Slice.{between_is}
use Rattle.log_ring.specs.volume_disk.Disk.{Disk}
use Rattle.log_ring.specs.volume_disk.Run.{LeavesOnly, OnlyWrites}
use Rattle.log_ring.specs.disk_label.declared.anchor.Anchor.{Anchor}
use Rattle.log_ring.specs.Header.{IsSayable, header_for}
use Rattle.log_ring.specs.Images.{homes_of}
use Rattle.log_ring.specs.declared.image.PageImage.{PageImage}
use Rattle.log_ring.specs.Groups.{Group, LogStands, images_of, span}
use Rattle.log_ring.specs.Homes.{IsLoggable}
use Rattle.log_ring.specs.Ring.{IsOnPlaces}
use Rattle.meta_log.specs.Force.{Forces, HasEither, HasForced, HasMoreOnceSynced, HasWrittenGroup, MayFollow, WritesGroup, forced}
use Rattle.meta_log.proofs.SlotLists.{none_left, parts_joined}
use Rattle.meta_log.specs.Log.{IsLog, Log, Stands, group_of, groups_of, next_number, pending_groups, used}

-- the images of the slots from one on
pub images_between : (slots items : List PageImage) (first end : ℕ) → items ≡ slots → take (end - first) (drop first items) ≡ drop first (take end slots)
images_between slots items first end is = ap (λ (l : List PageImage). take (end - first) (drop first l)) is ∙ between_is slots first end

-- the images of the slots up to one are those of two parts
pub front_is : (slots items : List PageImage) (first end : ℕ) → first ≤ end → items ≡ slots → take end items ≡ take first slots ++ drop first (take end slots)
front_is slots items first end order is = ap (λ (l : List PageImage). take end l) is ∙ sym (parts_joined slots first end order)

abbrev log_with : Anchor → ℕ → List PageImage → List PageImage → Log
log_with anchor groups logged pending = record { anchor = anchor; groups = groups; logged = logged; pending = pending }

-- Groups and their images.

pub span_is : (groups : List Group) → span groups ≡ length groups + length (images_of groups)
span_is [] = omega arith
span_is (group ∷ groups) = let rest = span_is groups in let both = length-append group.images (images_of groups) in omega (arith, rest, both)

span-append : (groups others : List Group) → span (groups ++ others) ≡ span groups + span others
span-append [] others = omega arith
span-append (group ∷ groups) others = let rest = span-append groups others in omega (arith, rest)

-- images, if there are some, are one group
pub one_group : (number : ℕ) (images : List PageImage) → 0 < length images → groups_of number images ≡ group_of number images ∷ []
one_group number [] some = absurd (omega arith)
one_group number (image ∷ images) some = refl

images_of-groups_of : (number : ℕ) (images : List PageImage) → images_of (groups_of number images) ≡ images
images_of-groups_of number [] = refl
images_of-groups_of number (image ∷ images) = append-nil (image ∷ images)

length-homes_of : (images : List PageImage) → length (homes_of images) ≡ length images
length-homes_of images = length-map images (λ (image : PageImage). image.home)

module _ (log : Log) (is : IsLog log) where
  -- the durable groups of an image take the places that are counted
  pub span_used : (disk : Disk) (groups : List Group) → Stands disk log groups → span groups ≡ used log
  span_used disk groups stands = span_is groups ∙ (λ i. stands.count i + length (stands.images i))

  -- with what is pending as one more group
  pub stands_forced : (old new : Disk) (groups : List Group) → Stands old log groups → LogStands new log.anchor (groups ++ pending_groups log) → Stands new (forced log) (groups ++ pending_groups log)
  stands_forced old new groups stands now = record {
    stands = now;
    images = flat_map-append (λ (g : Group). g.images) groups (pending_groups log) ∙ (λ i. stands.images i ++ images_of-groups_of (next_number log) log.pending i);
    count = length-append groups (pending_groups log) ∙ (λ i. stands.count i + length (pending_groups log));
  }

  -- a log with what is pending made durable
  pub forced_is : IsLog (forced log)
  forced_is = record {
    slot = is.slot;
    start = is.start;
    behind = is.behind;
    fits =
        let within = is.fits in
        let spans = span_is (pending_groups log) in
        let images = ap (λ (l : List PageImage). length l) (images_of-groups_of (next_number log) log.pending) in
        let both = length-append log.logged log.pending in
        omega (arith, within, spans, images, both);
    number = let few = is.number in omega arith;
    most = omega arith;
    distinct = tt;
    pending = All-nil (λ (i : PageImage). IsLoggable log.anchor i.home);
    logged = All-append (λ (i : PageImage). IsLoggable log.anchor i.home) log.logged log.pending is.logged is.pending;
  }

  module _ (some : 0 < length log.pending) where
    abbrev group : Group
    group = group_of (next_number log) log.pending

    abbrev place : ℕ
    place = log.anchor.start + used log

    pending_is : pending_groups log ≡ group ∷ []
    pending_is = one_group (next_number log) log.pending some

    pub sayable : IsSayable (header_for (next_number log) log.pending)
    sayable = record {
      number = let few = is.number in let one = ap (λ (l : List Group). length l) pending_is in omega (arith, few, one);
      some = let size = length-homes_of log.pending in omega (arith, size, some);
      most = let size = length-homes_of log.pending in let most = is.most in omega (arith, size, most);
      distinct = is.distinct;
    }

    pub may_follow : (disk : Disk) (groups : List Group) → Stands disk log groups → MayFollow disk log.anchor groups place group
    may_follow disk groups stands = record {
      stands = stands.stands;
      place_is = ap (λ n. log.anchor.start + n) (sym (span_used disk groups stands));
      number_is = ap (λ n. log.anchor.group + n) (sym stands.count);
      loggable = is.pending;
      fits =
          let within = is.fits in
          let before = span_used disk groups stands in
          let both = span-append groups (group ∷ []) in
          let last = ap span pending_is in
          omega (arith, within, before, both, last);
    }

    pub forces : (d0 d1 : Disk) → WritesGroup d0 d1 log.anchor place group → Forces d0 d1 log
    forces d0 d1 writes = record {
      writes =
          let last = ap span pending_is in
          subst (λ n. OnlyWrites d0 d1 (IsOnPlaces log.anchor place n)) (omega (arith, last)) writes.writes;
      any_moment = λ told groups stands.
          subst (λ (gs : List Group). LeavesOnly d0 d1 (HasEither d0.sizes log.anchor groups (groups ++ gs))) (sym pending_is) (writes.any_moment told groups (may_follow d0 groups stands));
      synced = λ told groups stands.
          let last = ap span pending_is in
          subst (λ n. LeavesOnly d0 d1 (HasMoreOnceSynced d0 log.anchor place n groups (pending_groups log))) (omega (arith, last))
          (subst (λ (gs : List Group). LeavesOnly d0 d1 (HasMoreOnceSynced d0 log.anchor place (length log.pending + 2) groups gs)) (sym pending_is) (writes.synced told groups (may_follow d0 groups stands)));
    }

    pub has_forced : (d0 d1 : Disk) → HasWrittenGroup d0 d1 log.anchor place group → HasForced d0 d1 log
    has_forced d0 d1 written told groups stands =
        stands_forced d0 d1 groups stands (subst (λ (gs : List Group). LogStands d1 log.anchor (groups ++ gs)) (sym pending_is) (written told groups (may_follow d0 groups stands)))

-- what is said of a group of these images is said of what is pending
module _ (log : Log) (is : IsLog log) (some : 0 < length log.pending) (anchor : Anchor) (at number : ℕ) (images : List PageImage) (anchor_is : anchor ≡ log.anchor) (at_is : at ≡ log.anchor.start + used log) (number_is : number ≡ next_number log) (images_are : images ≡ log.pending) where
  pub sayable_images : IsSayable (header_for number images)
  sayable_images = subst (λ n. IsSayable (header_for n images)) (sym number_is) (subst (λ (l : List PageImage). IsSayable (header_for (next_number log) l)) (sym images_are) (sayable log is some))

  pub forces_images : (d0 d1 : Disk) → WritesGroup d0 d1 anchor at (group_of number images) → Forces d0 d1 log
  forces_images d0 d1 writes =
      forces log is some d0 d1
      (subst (λ (a : Anchor). WritesGroup d0 d1 a (place log is some) (group log is some)) anchor_is
      (subst (λ p. WritesGroup d0 d1 anchor p (group log is some)) at_is
      (subst (λ n. WritesGroup d0 d1 anchor at (group_of n log.pending)) number_is
      (subst (λ (l : List PageImage). WritesGroup d0 d1 anchor at (group_of number l)) images_are writes))))

  pub forced_images : (d0 d1 : Disk) → HasWrittenGroup d0 d1 anchor at (group_of number images) → HasForced d0 d1 log
  forced_images d0 d1 written =
      has_forced log is some d0 d1
      (subst (λ (a : Anchor). HasWrittenGroup d0 d1 a (place log is some) (group log is some)) anchor_is
      (subst (λ p. HasWrittenGroup d0 d1 anchor p (group log is some)) at_is
      (subst (λ n. HasWrittenGroup d0 d1 anchor at (group_of n log.pending)) number_is
      (subst (λ (l : List PageImage). HasWrittenGroup d0 d1 anchor at (group_of number l)) images_are written))))

-- a log with one more of its slots' images durable
pub view_forced : (anchor : Anchor) (groups : ℕ) (slots : List PageImage) (first end : ℕ) → first ≤ end → end ≤ length slots → 0 < length (drop first (take end slots))
    → log_with anchor (groups + 1) (take end slots) (drop end (take end slots)) ≡ forced (log_with anchor groups (take first slots) (drop first (take end slots)))
view_forced anchor groups slots first end order within some = λ i. record {
  anchor = anchor;
  groups = one_more i;
  logged = sym (parts_joined slots first end order) i;
  pending = none_left slots end within i;
}
  where
    one_more : groups + 1 ≡ groups + length (groups_of (anchor.group + groups) (drop first (take end slots)))
    one_more = let is = ap (λ (l : List Group). length l) (one_group (anchor.group + groups) (drop first (take end slots)) some) in omega (arith, is)
