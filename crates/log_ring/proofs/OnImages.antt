-- Groups on images: what they depend on, and that there is one list of them.
use Rattle.std.proofs.Common.{◌≡◌, ℕ, ◌+◌, ◌<◌, ◌≤◌, List, [], ◌∷◌, ◌++◌, length, refl, sym, ◌∙◌, subst, inl, inr, arith}
use Rattle.std.proofs.lemmas.List.{append-nil}
use Rattle.disk_label.specs.volume_disk.Image.{Image, SameIn}
use Rattle.disk_label.specs.declared.anchor.Anchor.{Anchor}
use Rattle.log_ring.specs.Header.{IsHeader}
use Rattle.log_ring.specs.Images.{homes_of}
use Rattle.log_ring.specs.Laws.{HasOneHeader}
use Rattle.log_ring.specs.declared.header.Header.{Header}
use Rattle.log_ring.specs.declared.image.PageImage.{PageImage}
use Rattle.log_ring.specs.Groups.{AreGroups, AreImagesAt, Group, HasGroup, header_of, span}
use Rattle.log_ring.specs.LogLaws.{HaveOneWay, IsReadOnLog, DependsOnRead}
use Rattle.log_ring.specs.Ring.{IsGateOpen, IsOnPlaces, place_at, ring_byte}
use Rattle.log_ring.proofs.RingPlaces.{fewer_places, first_place, further_on, on_log, one_place, place-same}

module _ (anchor : Anchor) (old new : Image) where
  -- images agree on the n places from this one on
  abbrev pub Agree : ℕ → ℕ → Type 0
  Agree place n = SameIn (IsOnPlaces anchor place n) old new

  pub agree_at : (place n i : ℕ) → i < n → Agree place n → place_at new anchor (place + i) ≡ place_at old anchor (place + i)
  agree_at place n i lt same = place-same anchor (place + i) old new (λ v k is. same v k (one_place anchor place i n v k lt is))

  pub agree_first : (place n : ℕ) → 0 < n → Agree place n → place_at new anchor place ≡ place_at old anchor place
  agree_first place n some same = subst (λ (p : ℕ). place_at new anchor p ≡ place_at old anchor p) (omega arith) (agree_at place n 0 some same)

  pub agree_later : (place more n : ℕ) → Agree place (more + n) → Agree (place + more) n
  agree_later place more n same v k is = same v k (further_on anchor place more n v k is)

  pub agree_fewer : (place n m : ℕ) → n ≤ m → Agree place m → Agree place n
  agree_fewer place n m le same v k is = same v k (fewer_places anchor place n m v k le is)

  pub images-same : (images : List PageImage) (place : ℕ) → Agree place (length images) → AreImagesAt old anchor place images → AreImagesAt new anchor place images
  images-same [] place same are = tt
  images-same (image ∷ images) place same are = (
    agree_first place (length (image ∷ images)) (omega arith) same ∙ are.0,
    images-same images (place + 1) (agree_later place 1 (length images) (agree_fewer place (1 + length images) (length (image ∷ images)) (omega arith) same)) are.1,
  )

  pub group-same : (group : Group) (place : ℕ) → Agree place (1 + length group.images) → HasGroup old anchor place group → HasGroup new anchor place group
  group-same group place same has = record {
    is_open = first_byte ∙ has.is_open;
    behind = record {
      header = subst (λ (page : List ℕ). IsHeader page (header_of group)) (sym (agree_first place (1 + length group.images) (omega arith) same)) has.behind.header;
      loggable = has.behind.loggable;
      images = images-same group.images (place + 1) (agree_later place 1 (length group.images) same) has.behind.images;
    };
  }
    where
      first_byte : new anchor.log_vol (ring_byte anchor place) ≡ old anchor.log_vol (ring_byte anchor place)
      first_byte =
          same anchor.log_vol (ring_byte anchor place) (first_place anchor place (1 + length group.images) (omega arith))

  -- groups stay where images agree on their places, whatever follows them
  pub groups_kept : (groups tail : List Group) (place number : ℕ) → Agree place (span groups) → AreGroups anchor place number groups old → AreGroups anchor (place + span groups) (number + length groups) tail new → AreGroups anchor place number (groups ++ tail) new
  groups_kept [] tail place number same are behind =
      subst (λ (p : ℕ). AreGroups anchor p number tail new) (omega arith) (subst (λ (n : ℕ). AreGroups anchor (place + 0) n tail new) (omega arith) behind)
  groups_kept (group ∷ groups) tail place number same are behind =
      let one = 1 + length group.images in (
        are.0,
        group-same group place (agree_fewer place one (one + span groups) (omega arith) same) are.1,
        groups_kept groups tail (place + 1 + length group.images) (number + 1)
            (subst (λ (p : ℕ). Agree p (span groups)) (omega arith) (agree_later place one (span groups) same)) are.2
            (subst (λ (p : ℕ). AreGroups anchor p (number + 1 + length groups) tail new) (omega arith)
            (subst (λ (n : ℕ). AreGroups anchor (place + (one + span groups)) n tail new) (omega arith) behind)),
      )

-- after the last group the gate is closed
pub next_closed : (anchor : Anchor) (image : Image) (groups : List Group) (place number : ℕ) → AreGroups anchor place number groups image → ¬ IsGateOpen image anchor (place + span groups)
next_closed anchor image [] place number are = subst (λ (p : ℕ). ¬ IsGateOpen image anchor p) (omega arith) are
next_closed anchor image (group ∷ groups) place number are =
    subst (λ (p : ℕ). ¬ IsGateOpen image anchor p) (omega arith) (next_closed anchor image groups (place + 1 + length group.images) (number + 1) are.2)

pub groups-same : (anchor : Anchor) (place number : ℕ) (groups : List Group) (old new : Image) → DependsOnRead anchor place number groups old new
groups-same anchor place number groups old new same are =
    subst (λ (gs : List Group). AreGroups anchor place number gs new) (append-nil groups)
    (groups_kept anchor old new groups [] place number (λ v k is. same v k (inl is)) are
    (λ is_open. next_closed anchor old groups place number are (sym (same anchor.log_vol (ring_byte anchor (place + span groups)) (inr (refl, refl))) ∙ is_open)))

-- all of it lies on the ring
pub read_on_log : (anchor : Anchor) (place : ℕ) (groups : List Group) → IsReadOnLog anchor place groups
read_on_log anchor place groups v k (inl is) = on_log anchor (place + is.0) v k is.2
read_on_log anchor place groups v k (inr is) = (is.0, omega (arith, is.1), omega (arith, is.1))

-- One list of groups.

pub images-once : (image : Image) (anchor : Anchor) (xs ys : List PageImage) (place : ℕ) → homes_of xs ≡ homes_of ys → AreImagesAt image anchor place xs → AreImagesAt image anchor place ys → xs ≡ ys
images-once image anchor [] [] place homes here there = refl
images-once image anchor [] (y ∷ ys) place homes here there = cc
images-once image anchor (x ∷ xs) [] place homes here there = cc
images-once image anchor (x ∷ xs) (y ∷ ys) place homes here there =
    let home : x.home ≡ y.home = cc in
    let page : x.page ≡ y.page = sym here.0 ∙ there.0 in
    let rest : homes_of xs ≡ homes_of ys = cc in
    λ i. record { home = home i; page = page i } ∷ images-once image anchor xs ys (place + 1) rest here.1 there.1 i

pub one_way : (one_header : (page : List ℕ) (one other : Header) → HasOneHeader page one other) (anchor : Anchor) (place number : ℕ) (groups others : List Group) (image : Image) → HaveOneWay anchor place number groups others image
one_way one_header anchor place number [] [] image are other = refl
one_way one_header anchor place number [] (h ∷ hs) image are other = absurd (are other.1.is_open)
one_way one_header anchor place number (g ∷ gs) [] image are other = absurd (other are.1.is_open)
one_way one_header anchor place number (g ∷ gs) (h ∷ hs) image are other =
    let header = one_header (place_at image anchor place) (header_of g) (header_of h) are.1.behind.header other.1.behind.header in
    let numbers : g.number ≡ h.number = λ i. (header i).number in
    let images : g.images ≡ h.images = images-once image anchor g.images h.images (place + 1) (λ i. (header i).homes) are.1.behind.images other.1.behind.images in
    let rest = one_way one_header anchor (place + 1 + length g.images) (number + 1) gs hs image are.2
    (subst (λ (n : ℕ). AreGroups anchor (place + 1 + n) (number + 1) hs image) (λ i. length (sym images i)) other.2) in
    λ i. record { number = numbers i; images = images i } ∷ rest i
