-- Entries of pages, one behind the other, and where they stand on these.
use Rattle.std.proofs.Common.{◌≡◌, ◌∙◌, ◌⊎◌, ◌↔◌, inl, inr, zero, suc, ℕ, ◌+◌, ◌<◌, ◌≤◌, List, [], ◌∷◌, ◌++◌, length, Some, None, map, slice_get, refl, sym, ap, subst, arith, ⊎_elim}
use Rattle.std.specs.Prelude.{unwrap_or}
use Rattle.std.specs.List.{flat_map}
use Rattle.std.proofs.lemmas.Option.{slice_get_within}
use Rattle.page_faults.specs.domain_base.declared.place.Home.{Home}
use Rattle.page_faults.specs.page_store.Pages.{Pages}
use Rattle.page_faults.specs.directory_pages.declared.entry.IndexEntry.{IndexEntry}
use Rattle.page_faults.specs.domain_layout.DirectoryRules.{AreReadPages, entries_in}
use Rattle.page_faults.specs.domain_layout.Reached.{Frame, IsRead, index_way}
use Rattle.page_faults.specs.page_ways.Walk.{AreRead}
use Rattle.index_row_faults.specs.Entries.{entries_at, entries_on, page_at, placed}
use Rattle.index_row_faults.specs.declared.entries.EntryAt.{EntryAt}

none_some : {X : Type 0} (x : X) → None ≡ Some x → ⊥
none_some x e = cc

some_same : {X : Type 0} (a b : X) → Some a ≡ Some b → a ≡ b
some_same a b e = cc

module _ {X Y : Type 0} (f : X → Y) where
  pub map_get : (xs : List X) (k : ℕ) (x : X) → slice_get xs k ≡ Some x → slice_get (map f xs) k ≡ Some (f x)
  map_get [] k x at = absurd (none_some x at)
  map_get (y ∷ xs) zero x at = ap (λ z. Some (f z)) (some_same y x at)
  map_get (y ∷ xs) (suc k) x at = map_get xs k x at

  pub get_map : (xs : List X) (k : ℕ) (y : Y) → slice_get (map f xs) k ≡ Some y → (x : X) × (slice_get xs k ≡ Some x) × (f x ≡ y)
  get_map [] k y at = absurd (none_some y at)
  get_map (x ∷ xs) zero y at = (x, refl, some_same (f x) y at)
  get_map (x ∷ xs) (suc k) y at = get_map xs k y at

-- lists that have the same at each place are the same
pub same_lists : {X : Type 0} (xs ys : List X) → ((k : ℕ) (x : X) → slice_get xs k ≡ Some x → slice_get ys k ≡ Some x) → ((k : ℕ) (x : X) → slice_get ys k ≡ Some x → slice_get xs k ≡ Some x) → xs ≡ ys
same_lists [] [] to from = refl
same_lists [] (y ∷ ys) to from = absurd (none_some y (from 0 y refl))
same_lists (x ∷ xs) [] to from = absurd (none_some x (to 0 x refl))
same_lists (x ∷ xs) (y ∷ ys) to from =
    let first : x ≡ y = sym (some_same y x (to 0 x refl)) in
    let rest : xs ≡ ys = same_lists xs ys (λ k z at. to (suc k) z at) (λ k z at. from (suc k) z at) in
    λ i. first i ∷ rest i

module _ (pages : Pages) (frame : Frame) (first : Home) (homes : List Home) (there : (k : ℕ) (home : Home) → (slice_get homes k ≡ Some home) ↔ ((page : List ℕ) × IsRead pages frame (index_way first) k home page)) where
  page_there : (home : Home) (page : List ℕ) → pages home ≡ Some page → page_at pages home ≡ page
  page_there home page is = ap (λ o. unwrap_or o []) is

  pub are_read_pages : AreReadPages pages frame first (map (page_at pages) homes)
  are_read_pages = record {
    each = λ k page. (
      λ at.
          let (home, listed, is) = get_map (page_at pages) homes k page at in
          let (bytes, read) = (there k home).0 listed in
          (home, subst (λ (b : List ℕ). IsRead pages frame (index_way first) k home b) (sym (page_there home bytes read.there) ∙ is) read),
      λ (home, read). map_get (page_at pages) homes k home ((there k home).1 (page, read)) ∙ ap (λ (b : List ℕ). Some b) (page_there home page read.there),
    );
  }

  pub one_index : (index : List (List ℕ)) → AreReadPages pages frame first index → index ≡ map (page_at pages) homes
  one_index index are = same_lists index (map (page_at pages) homes) (λ k page at. (are_read_pages.each k page).1 ((are.each k page).0 at)) (λ k page at. (are.each k page).1 ((are_read_pages.each k page).0 at))

-- ---- lists of lists, one behind the other

module _ {X Y : Type 0} (f : X → List Y) where
  -- how many stand in front of those of a place
  abbrev pub offset : List X → ℕ → ℕ
  offset [] place = 0
  offset (x ∷ xs) zero = 0
  offset (x ∷ xs) (suc place) = length (f x) + offset xs place

  front_get : (ys zs : List Y) (k : ℕ) (y : Y) → slice_get ys k ≡ Some y → slice_get (ys ++ zs) k ≡ Some y
  front_get [] zs k y at = absurd (none_some y at)
  front_get (x ∷ ys) zs zero y at = at
  front_get (x ∷ ys) zs (suc k) y at = front_get ys zs k y at

  back_get : (ys zs : List Y) (k : ℕ) (y : Y) → slice_get zs k ≡ Some y → slice_get (ys ++ zs) (length ys + k) ≡ Some y
  back_get [] zs k y at =
      let same : k ≡ 0 + k = omega arith in
      subst (λ n. slice_get zs n ≡ Some y) same at
  back_get (x ∷ ys) zs k y at =
      let same : suc (length ys + k) ≡ length (x ∷ ys) + k = omega arith in
      subst (λ n. slice_get (x ∷ (ys ++ zs)) n ≡ Some y) same (back_get ys zs k y at)

  parts_get : (ys zs : List Y) (k : ℕ) (y : Y) → slice_get (ys ++ zs) k ≡ Some y → ((k < length ys) × (slice_get ys k ≡ Some y)) ⊎ ((j : ℕ) × (k ≡ length ys + j) × (slice_get zs j ≡ Some y))
  parts_get [] zs k y at = inr (k, omega arith, at)
  parts_get (x ∷ ys) zs zero y at = inl (omega arith, at)
  parts_get (x ∷ ys) zs (suc k) y at = ⊎_elim (λ (low, is). inl (omega (arith, low), is)) (λ (j, same, is). inr (j, omega (arith, same), is)) (parts_get ys zs k y at)

  pub flat_at : (xs : List X) (place j : ℕ) (x : X) (y : Y) → slice_get xs place ≡ Some x → slice_get (f x) j ≡ Some y → slice_get (flat_map f xs) (offset xs place + j) ≡ Some y
  flat_at [] place j x y at is = absurd (none_some x at)
  flat_at (z ∷ xs) zero j x y at is =
      let same : j ≡ 0 + j = omega arith in
      subst (λ n. slice_get (f z ++ flat_map f xs) n ≡ Some y) same (front_get (f z) (flat_map f xs) j y (subst (λ (w : X). slice_get (f w) j ≡ Some y) (sym (some_same z x at)) is))
  flat_at (z ∷ xs) (suc place) j x y at is =
      let same : length (f z) + (offset xs place + j) ≡ (length (f z) + offset xs place) + j = omega arith in
      subst (λ n. slice_get (f z ++ flat_map f xs) n ≡ Some y) same (back_get (f z) (flat_map f xs) (offset xs place + j) y (flat_at xs place j x y at is))

  -- where an item stands
  pub record Stands (xs : List X) (k : ℕ) (y : Y) : Type 0 where
    pub place : ℕ
    pub j : ℕ
    pub x : X
    pub at : slice_get xs place ≡ Some x
    pub is : slice_get (f x) j ≡ Some y
    pub number : k ≡ offset xs place + j

  pub at_flat : (xs : List X) (k : ℕ) (y : Y) → slice_get (flat_map f xs) k ≡ Some y → Stands xs k y
  at_flat [] k y at = absurd (none_some y at)
  at_flat (x ∷ xs) k y at = ⊎_elim (λ (low, is). record { place = 0; j = k; x = x; at = refl; is = is; number = omega arith })
      (λ (j, same, is).
      let later = at_flat xs j y is in
      let number = later.number in
      record { place = suc later.place; j = later.j; x = later.x; at = later.at; is = later.is; number = omega (arith, same, number) })
      (parts_get (f x) (flat_map f xs) k y at)

  -- what stands on an earlier place stands in front
  pub offsets_rise : (xs : List X) (place other j : ℕ) (x y : X) → slice_get xs place ≡ Some x → slice_get xs other ≡ Some y → place < other → j < length (f x) → offset xs place + j < offset xs other
  offsets_rise [] place other j x y at at_other less within = absurd (none_some x at)
  offsets_rise (z ∷ xs) zero zero j x y at at_other less within = absurd (omega (arith, less))
  offsets_rise (z ∷ xs) (suc place) zero j x y at at_other less within = absurd (omega (arith, less))
  offsets_rise (z ∷ xs) zero (suc other) j x y at at_other less within =
      let here : j < length (f z) = subst (λ (w : X). j < length (f w)) (sym (some_same z x at)) within in
      omega (arith, here)
  offsets_rise (z ∷ xs) (suc place) (suc other) j x y at at_other less within = omega (arith, offsets_rise xs place other j x y at at_other (omega (arith, less)) within)
