-- Pages that lead from one to the next, read one after the other.
use Rattle.std.proofs.Common.{◌≡◌, ◌∙◌, ◌⊎◌, inl, inr, ℕ, zero, suc, true, ◌<◌, List, [], ◌∷◌, ◌++◌, length, Option, Some, None, slice_get, refl, sym, ap, subst, arith, ⊎_elim}
use Rattle.std.proofs.lemmas.List.{append-nil}
use Rattle.std.specs.Option.{option_map}
use Rattle.std.specs.Prelude.{map}
use Rattle.domain_layout.specs.domain_base.declared.place.Home.{Home}
use Rattle.domain_layout.specs.page_store.Pages.{Pages}
use Rattle.domain_layout.specs.Reached.{Frame, IsRead, IsUnread, Reaches, Way, begins, goes_on}
use Rattle.domain_layout.proofs.OnePage.{some_same}
use Rattle.domain_layout.proofs.Reached.{is_read, read_after}

-- ---- lists

pub get_front : {X : Type 0} (xs ys : List X) (k : ℕ) → k < length xs → slice_get (xs ++ ys) k ≡ slice_get xs k
get_front [] ys k within = absurd (omega (arith, within))
get_front (x ∷ xs) ys zero within = refl
get_front (x ∷ xs) ys (suc k) within = get_front xs ys k (omega (arith, within))

pub get_seam : {X : Type 0} (xs : List X) (y : X) → slice_get (xs ++ y ∷ []) (length xs) ≡ Some y
get_seam [] y = refl
get_seam (x ∷ xs) y = get_seam xs y

pub get_none : {X : Type 0} (xs : List X) → slice_get xs (length xs) ≡ None
get_none [] = refl
get_none (x ∷ xs) = get_none xs

pub get_map : {X Y : Type 0} (f : X → Y) (xs : List X) (k : ℕ) → slice_get (map f xs) k ≡ option_map f (slice_get xs k)
get_map f [] k = refl
get_map f (x ∷ xs) zero = refl
get_map f (x ∷ xs) (suc k) = get_map f xs k

pub map_pushed : {X Y : Type 0} (f : X → Y) (xs : List X) (x : X) → map f (xs ++ x ∷ []) ≡ map f xs ++ f x ∷ []
map_pushed f [] x = refl
map_pushed f (y ∷ ys) x = ap (λ zs. f y ∷ zs) (map_pushed f ys x)

-- what stands in a list with one more
pub get_pushed : {X : Type 0} (xs : List X) (y : X) (k : ℕ) (z : X) → slice_get (xs ++ y ∷ []) k ≡ Some z → ((k < length xs) × (slice_get xs k ≡ Some z)) ⊎ ((k ≡ length xs) × (y ≡ z))
get_pushed [] y zero z is = inr (refl, some_same y z is)
get_pushed [] y (suc k) z is = absurd (let e : None ≡ Some z = is in absurd (cc))
get_pushed (x ∷ xs) y zero z is = inl (omega arith, is)
get_pushed (x ∷ xs) y (suc k) z is =
    ⊎_elim (λ front. inl (omega (arith, front.0), front.1)) (λ last. inr (omega (arith, last.0), last.1)) (get_pushed xs y k z is)

-- a list with one more is longer by one
pub pushed : {X : Type 0} (xs : List X) (y : X) → length (xs ++ y ∷ []) ≡ suc (length xs)
pushed [] y = refl
pushed (x ∷ xs) y = ap suc (pushed xs y)

pub within_of : {X : Type 0} (xs : List X) (k : ℕ) (z : X) → slice_get xs k ≡ Some z → k < length xs
within_of [] k z is = absurd (let e : None ≡ Some z = is in absurd (cc))
within_of (x ∷ xs) zero z is = omega arith
within_of (x ∷ xs) (suc k) z is = let less = within_of xs k z is in omega (arith, less)

-- ---- pages on a way

-- a page that is read at a place of a way, and what it leads to
pub record ReadSo (pages : Pages) (frame : Frame) (way : Way) (place : ℕ) (home : Home) (behind : Option Home) : Type 0 where
  pub page : List ℕ
  pub read : IsRead pages frame way place home page
  pub leads : way.next home page ≡ behind

-- the pages that were read, each of which leads to the next one, and the last to this home
pub record IsWayTo (pages : Pages) (frame : Frame) (way : Way) (homes : List Home) (onto : Home) : Type 0 where
  pub reached : Reaches pages frame way homes onto
  pub each : (k : ℕ) (home : Home) → slice_get homes k ≡ Some home → ReadSo pages frame way k home (slice_get (homes ++ onto ∷ []) (suc k))
  pub first : slice_get (homes ++ onto ∷ []) 0 ≡ Some way.first

-- all of them: the last leads to none
pub record IsWholeWay (pages : Pages) (frame : Frame) (way : Way) (homes : List Home) : Type 0 where
  pub each : (k : ℕ) (home : Home) → slice_get homes k ≡ Some home → ReadSo pages frame way k home (slice_get homes (suc k))
  pub first : slice_get homes 0 ≡ Some way.first

module _ (pages : Pages) (frame : Frame) (way : Way) (none : (home : Home) → ¬ IsUnread pages frame way home) where
  pub way_begins : IsWayTo pages frame way [] way.first
  way_begins = record { reached = begins; each = λ k home is. absurd (let e : None ≡ Some home = is in absurd (cc)); first = refl }

  module _ (homes : List Home) (onto : Home) (way_to : IsWayTo pages frame way homes onto) where
    -- the page that is come to is read
    pub comes_read : (page : List ℕ) × IsRead pages frame way (length homes) onto page
    comes_read = is_read pages frame way none homes onto way_to.reached

    first_still : (more : List Home) → slice_get ((homes ++ onto ∷ []) ++ more) 0 ≡ Some way.first
    first_still more = get_front (homes ++ onto ∷ []) more 0 (within_of (homes ++ onto ∷ []) 0 way.first way_to.first) ∙ way_to.first

    each_still : (behind : List Home) (page : List ℕ) → pages onto ≡ Some page → way.next onto page ≡ slice_get ((homes ++ onto ∷ []) ++ behind) (suc (length homes))
        → (k : ℕ) (home : Home) → slice_get (homes ++ onto ∷ []) k ≡ Some home → ReadSo pages frame way k home (slice_get ((homes ++ onto ∷ []) ++ behind) (suc k))
    each_still behind page there leads k home is = ⊎_elim front last (get_pushed homes onto k home is)
      where
        front : (k < length homes) × (slice_get homes k ≡ Some home) → ReadSo pages frame way k home (slice_get ((homes ++ onto ∷ []) ++ behind) (suc k))
        front at =
            let so = way_to.each k home at.1 in
            let small : suc k < length (homes ++ onto ∷ []) = longer (at.0) in
            record { page = so.page; read = so.read; leads = so.leads ∙ sym (get_front (homes ++ onto ∷ []) behind (suc k) small) }
          where
            longer : k < length homes → suc k < length (homes ++ onto ∷ [])
            longer less = omega (arith, less, within_of (homes ++ onto ∷ []) (length homes) onto (get_seam homes onto))

        last : (k ≡ length homes) × (onto ≡ home) → ReadSo pages frame way k home (slice_get ((homes ++ onto ∷ []) ++ behind) (suc k))
        last at =
            let read = comes_read in
            let same : read.0 ≡ page = some_same read.0 page (sym read.1.there ∙ there) in
            let here : ReadSo pages frame way (length homes) onto (slice_get ((homes ++ onto ∷ []) ++ behind) (suc (length homes))) =
            record { page = page; read = subst (IsRead pages frame way (length homes) onto) same read.1; leads = leads } in
            subst (λ h. ReadSo pages frame way k h (slice_get ((homes ++ onto ∷ []) ++ behind) (suc k))) at.1
            (subst (λ n. ReadSo pages frame way n onto (slice_get ((homes ++ onto ∷ []) ++ behind) (suc n))) (sym at.0) here)

    -- it leads on
    pub way_on : (page : List ℕ) → pages onto ≡ Some page → (next : Home) → way.next onto page ≡ Some next → IsWayTo pages frame way (homes ++ onto ∷ []) next
    way_on page there next leads =
        let after = read_after pages frame way none homes onto way_to.reached in
        let same : after.page ≡ page = some_same after.page page (sym after.there ∙ there) in
        let so : way.begins_so page ≡ true = subst (λ p. way.begins_so p ≡ true) same after.so in
        record {
          reached = goes_on homes onto next page way_to.reached after.may after.fresh there so leads;
          each = each_still (next ∷ []) page there (leads ∙ sym (seam next));
          first = first_still (next ∷ []);
        }
      where
        seam : (next : Home) → slice_get ((homes ++ onto ∷ []) ++ next ∷ []) (suc (length homes)) ≡ Some next
        seam next = ap (slice_get ((homes ++ onto ∷ []) ++ next ∷ [])) (sym (pushed homes onto)) ∙ get_seam (homes ++ onto ∷ []) next

    -- or it is the last
    pub way_ends : (page : List ℕ) → pages onto ≡ Some page → way.next onto page ≡ None → IsWholeWay pages frame way (homes ++ onto ∷ [])
    way_ends page there ends = record {
      each = λ k home is. shortened k home (each_still [] page there (ends ∙ sym none_behind) k home is);
      first = way_to.first;
    }
      where
        all : (homes ++ onto ∷ []) ++ [] ≡ homes ++ onto ∷ []
        all = append-nil (homes ++ onto ∷ [])

        none_behind : slice_get ((homes ++ onto ∷ []) ++ []) (suc (length homes)) ≡ None
        none_behind = ap (λ hs. slice_get hs (suc (length homes))) all ∙ ap (slice_get (homes ++ onto ∷ [])) (sym (pushed homes onto)) ∙ get_none (homes ++ onto ∷ [])

        shortened : (k : ℕ) (home : Home) → ReadSo pages frame way k home (slice_get ((homes ++ onto ∷ []) ++ []) (suc k)) → ReadSo pages frame way k home (slice_get (homes ++ onto ∷ []) (suc k))
        shortened k home so = record { page = so.page; read = so.read; leads = so.leads ∙ ap (λ hs. slice_get hs (suc k)) all }
