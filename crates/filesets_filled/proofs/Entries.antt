-- A list of all rows of directories that lead to a tag.
use Rattle.std.proofs.Common.{◌≡◌, ◌∙◌, ◌⊎◌, inl, inr, ⊎_elim, ℕ, zero, suc, ◌+◌, Bool, true, false, cond, List, [], ◌∷◌, ◌++◌, map, Some, None, slice_get, refl, sym, ap, subst, arith}
use Rattle.fileset_shapes.specs.domain_base.declared.place.Tag.{Tag}
use Rattle.fileset_shapes.specs.page_store.Bitfiles.{Bitfiles, same_tag}
use Rattle.fileset_shapes.specs.directory_pages.RowPage.{rows_of}
use Rattle.fileset_shapes.specs.directory_pages.declared.row.Row.{Row}
use Rattle.fileset_shapes.specs.directory_rows.Directory.{row_pages}
use Rattle.fileset_shapes.proofs.OfLegalHistories.ValidLemmas.{some_inj}
use Rattle.fileset_shapes.proofs.OfNameSpace.Originals.{tag_itself, tags_same}
use Rattle.fileset_shapes.proofs.OfDirectoryRows.AllLed.{get_behind, get_front, get_parted}
use Rattle.fileset_shapes.specs.domain_layout.DirectoryRules.{RowPlace}

none_is_some : {P X : Type 0} (x : X) → None ≡ Some x → P
none_is_some x is = absurd (cc)

-- a row, and where it stands
pub record Entry : Type 0 where
  pub at : RowPlace
  pub row : Row

abbrev pub entry_at : Tag → ℕ → ℕ → Row → Entry
entry_at dir page place row = record { at = record { dir = dir; page = page; place = place }; row = row }

-- it stands in a list
abbrev pub IsIn : {X : Type 0} → List X → X → Type 0
IsIn xs x = (k : ℕ) × (slice_get xs k ≡ Some x)

-- nothing stands twice
abbrev pub AreDistinct : {X : Type 0} → List X → Type 0
AreDistinct [] = Unit {0}
AreDistinct (x ∷ xs) = ¬ IsIn xs x × AreDistinct xs

pub distinct_once : {X : Type 0} (xs : List X) → AreDistinct xs → (j k : ℕ) (x : X) → slice_get xs j ≡ Some x → slice_get xs k ≡ Some x → j ≡ k
distinct_once [] distinct j k x at at' = none_is_some x at
distinct_once (y ∷ xs) distinct zero zero x at at' = refl
distinct_once (y ∷ xs) distinct zero (suc k) x at at' = absurd (distinct.0 (k, at' ∙ ap Some (sym (some_inj at))))
distinct_once (y ∷ xs) distinct (suc j) zero x at at' = absurd (distinct.0 (j, at ∙ ap Some (sym (some_inj at'))))
distinct_once (y ∷ xs) distinct (suc j) (suc k) x at at' = ap suc (distinct_once xs distinct.1 j k x at at')

both_distinct : {X : Type 0} (xs ys : List X) → AreDistinct xs → AreDistinct ys → ((x : X) → IsIn xs x → ¬ IsIn ys x) → AreDistinct (xs ++ ys)
both_distinct [] ys distinct more apart = more
both_distinct (x ∷ xs) ys distinct more apart = (
  (λ is. ⊎_elim (λ here. distinct.0 (is.0, here)) (λ there. apart x (0, refl) there) (get_parted xs ys is.0 x is.1)),
  both_distinct xs ys distinct.1 more (λ y is. apart y (suc is.0, is.1)),
)

pub in_front : {X : Type 0} (xs ys : List X) (x : X) → IsIn xs x → IsIn (xs ++ ys) x
in_front xs ys x is = (is.0, get_front xs ys is.0 x is.1)

pub in_behind : {X : Type 0} (xs ys : List X) (x : X) → IsIn ys x → IsIn (xs ++ ys) x
in_behind xs ys x is = get_behind xs ys is.0 x is.1

pub in_parts : {X : Type 0} (xs ys : List X) (x : X) → IsIn (xs ++ ys) x → IsIn xs x ⊎ IsIn ys x
in_parts xs ys x is = ⊎_elim (λ here. inl (is.0, here)) (λ there. inr there) (get_parted xs ys is.0 x is.1)

-- ---- mapped lists

pub in_map : {X Y : Type 0} (f : X → Y) (xs : List X) (x : X) → IsIn xs x → IsIn (map f xs) (f x)
in_map f [] x is = none_is_some x is.1
in_map f (y ∷ xs) x (zero, at) = (0, ap (λ z. Some (f z)) (some_inj at))
in_map f (y ∷ xs) x (suc k, at) = let more = in_map f xs x (k, at) in (suc more.0, more.1)

pub in_mapped : {X Y : Type 0} (f : X → Y) (xs : List X) (y : Y) → IsIn (map f xs) y → (x : X) × IsIn xs x × (f x ≡ y)
in_mapped f [] y is = none_is_some y is.1
in_mapped f (x ∷ xs) y (zero, at) = (x, (0, refl), some_inj at)
in_mapped f (x ∷ xs) y (suc k, at) = let more = in_mapped f xs y (k, at) in (more.0, (suc more.1.0, more.1.1), more.2)

pub distinct_map : {X Y : Type 0} (f : X → Y) (xs : List X) → AreDistinct xs → ((a b : X) → IsIn xs a → IsIn xs b → f a ≡ f b → a ≡ b) → AreDistinct (map f xs)
distinct_map f [] distinct apart = tt
distinct_map f (x ∷ xs) distinct apart = (
  (λ is.
      let y = in_mapped f xs (f x) is in
      let same : y.0 ≡ x = apart y.0 x (suc y.1.0, y.1.1) (0, refl) y.2 in
      distinct.0 (y.1.0, y.1.1 ∙ ap Some same)),
  distinct_map f xs distinct.1 (λ a b is is'. apart a b (suc is.0, is.1) (suc is'.0, is'.1)),
)

module _ (shown : Bitfiles) (tag : Tag) where
  -- ---- the rows of a page, from a place on

  abbrev entries_on : Tag → ℕ → ℕ → List Row → List Entry
  entries_on dir page place [] = []
  entries_on dir page place (row ∷ rows) =
      cond (same_tag row.tag tag) (record { at = record { dir = dir; page = page; place = place }; row = row } ∷ entries_on dir page (place + 1) rows) (entries_on dir page (place + 1) rows)

  -- what is in it is a row from that place on
  record IsOn (dir : Tag) (page from : ℕ) (rows : List Row) (e : Entry) : Type 0 where
    pub dir_is : e.at.dir ≡ dir
    pub page_is : e.at.page ≡ page
    pub j : ℕ
    pub place : e.at.place ≡ from + j
    pub there : slice_get rows j ≡ Some e.row
    pub leads : e.row.tag ≡ tag

  on_entries : (dir : Tag) (page from : ℕ) (rows : List Row) (e : Entry) → IsIn (entries_on dir page from rows) e → IsOn dir page from rows e
  on_entries dir page from [] e is = none_is_some e is.1
  on_entries dir page from (row ∷ rows) e is = by_test (same_tag row.tag tag) refl is (λ k at. on_entries dir page (from + 1) rows e (k, at))
    where
      later : IsOn dir page (from + 1) rows e → IsOn dir page from (row ∷ rows) e
      later o = record { dir_is = o.dir_is; page_is = o.page_is; j = suc o.j; place = omega (arith, o.place); there = o.there; leads = o.leads }

      here : same_tag row.tag tag ≡ true → record { at = record { dir = dir; page = page; place = from }; row = row } ≡ e → IsOn dir page from (row ∷ rows) e
      here same is = record {
        dir_is = ap (λ (x : Entry). x.at.dir) (sym is);
        page_is = ap (λ (x : Entry). x.at.page) (sym is);
        j = 0;
        place = ap (λ (x : Entry). x.at.place) (sym is) ∙ omega arith;
        there = ap (λ (x : Entry). Some x.row) is;
        leads = ap (λ (x : Entry). x.row.tag) (sym is) ∙ tags_same row.tag tag same;
      }

      by_place : same_tag row.tag tag ≡ true → (k : ℕ) → slice_get (record { at = record { dir = dir; page = page; place = from }; row = row } ∷ entries_on dir page (from + 1) rows) k ≡ Some e
          → ((k : ℕ) → slice_get (entries_on dir page (from + 1) rows) k ≡ Some e → IsOn dir page (from + 1) rows e) → IsOn dir page from (row ∷ rows) e
      by_place same zero at again = here same (some_inj at)
      by_place same (suc k) at again = later (again k at)

      by_test : (b : Bool) → same_tag row.tag tag ≡ b
          → IsIn (cond b (record { at = record { dir = dir; page = page; place = from }; row = row } ∷ entries_on dir page (from + 1) rows) (entries_on dir page (from + 1) rows)) e
          → ((k : ℕ) → slice_get (entries_on dir page (from + 1) rows) k ≡ Some e → IsOn dir page (from + 1) rows e) → IsOn dir page from (row ∷ rows) e
      by_test true same is again = by_place same is.0 is.1 again
      by_test false other is again = later (again is.0 is.1)

  entries_in_on : (dir : Tag) (page from : ℕ) (rows : List Row) (j : ℕ) (row : Row) → slice_get rows j ≡ Some row → row.tag ≡ tag → (place : ℕ) → place ≡ from + j
      → IsIn (entries_on dir page from rows) (record { at = record { dir = dir; page = page; place = place }; row = row })
  entries_in_on dir page from [] j row at leads place is = none_is_some row at
  entries_in_on dir page from (r ∷ rows) zero row at leads place is =
      subst (λ b. IsIn (cond b (record { at = record { dir = dir; page = page; place = from }; row = r } ∷ entries_on dir page (from + 1) rows) (entries_on dir page (from + 1) rows)) (record { at = record { dir = dir; page = page; place = place }; row = row }))
      (sym (ap (λ (x : Row). same_tag x.tag tag) (some_inj at) ∙ ap (λ (t : Tag). same_tag t tag) leads ∙ tag_itself tag))
      (0, ap Some (first (some_inj at)))
    where
      first : r ≡ row → entry_at dir page from r ≡ entry_at dir page place row
      first same = let e : from ≡ place = omega (arith, is) in λ i. entry_at dir page (e i) (same i)
  entries_in_on dir page from (r ∷ rows) (suc j) row at leads place is =
      by_test (same_tag r.tag tag) (entries_in_on dir page (from + 1) rows j row at leads place (omega (arith, is)))
    where
      by_test : (b : Bool) → IsIn (entries_on dir page (from + 1) rows) (record { at = record { dir = dir; page = page; place = place }; row = row })
          → IsIn (cond b (record { at = record { dir = dir; page = page; place = from }; row = r } ∷ entries_on dir page (from + 1) rows) (entries_on dir page (from + 1) rows)) (record { at = record { dir = dir; page = page; place = place }; row = row })
      by_test true more = (suc more.0, more.1)
      by_test false more = more

  distinct_on : (dir : Tag) (page from : ℕ) (rows : List Row) → AreDistinct (entries_on dir page from rows)
  distinct_on dir page from [] = tt
  distinct_on dir page from (row ∷ rows) = by_test (same_tag row.tag tag) (distinct_on dir page (from + 1) rows)
    where
      fresh : ¬ IsIn (entries_on dir page (from + 1) rows) (record { at = record { dir = dir; page = page; place = from }; row = row })
      fresh is =
          let o = on_entries dir page (from + 1) rows (record { at = record { dir = dir; page = page; place = from }; row = row }) is in
          omega (arith, o.place)

      by_test : (b : Bool) → AreDistinct (entries_on dir page (from + 1) rows)
          → AreDistinct (cond b (record { at = record { dir = dir; page = page; place = from }; row = row } ∷ entries_on dir page (from + 1) rows) (entries_on dir page (from + 1) rows))
      by_test true more = (fresh, more)
      by_test false more = more

  -- ---- of pages, from a number on

  abbrev entries_of : Tag → ℕ → List (List ℕ) → List Entry
  entries_of dir from [] = []
  entries_of dir from (page ∷ pages) = entries_on dir from 0 (rows_of page) ++ entries_of dir (from + 1) pages

  record IsOf (dir : Tag) (from : ℕ) (pages : List (List ℕ)) (e : Entry) : Type 0 where
    pub dir_is : e.at.dir ≡ dir
    pub k : ℕ
    pub page_is : e.at.page ≡ from + k
    pub bytes : List ℕ
    pub page_there : slice_get pages k ≡ Some bytes
    pub there : slice_get (rows_of bytes) e.at.place ≡ Some e.row
    pub leads : e.row.tag ≡ tag

  of_entries : (dir : Tag) (from : ℕ) (pages : List (List ℕ)) (e : Entry) → IsIn (entries_of dir from pages) e → IsOf dir from pages e
  of_entries dir from [] e is = none_is_some e is.1
  of_entries dir from (page ∷ pages) e is = ⊎_elim
      (λ here.
      let o = on_entries dir from 0 (rows_of page) e here in
      let place : o.j ≡ e.at.place = omega (arith, o.place) in
      record { dir_is = o.dir_is; k = 0; page_is = o.page_is ∙ omega arith; bytes = page; page_there = refl; there = subst (λ n. slice_get (rows_of page) n ≡ Some e.row) place o.there; leads = o.leads })
      (λ there.
      let o = of_entries dir (from + 1) pages e there in
      record { dir_is = o.dir_is; k = suc o.k; page_is = omega (arith, o.page_is); bytes = o.bytes; page_there = o.page_there; there = o.there; leads = o.leads })
      (in_parts (entries_on dir from 0 (rows_of page)) (entries_of dir (from + 1) pages) e is)

  in_of : (dir : Tag) (from : ℕ) (pages : List (List ℕ)) (k : ℕ) (bytes : List ℕ) (place : ℕ) (row : Row) → slice_get pages k ≡ Some bytes → slice_get (rows_of bytes) place ≡ Some row → row.tag ≡ tag
      → (number : ℕ) → number ≡ from + k → IsIn (entries_of dir from pages) (record { at = record { dir = dir; page = number; place = place }; row = row })
  in_of dir from [] k bytes place row is at leads number same = none_is_some bytes is
  in_of dir from (page ∷ pages) zero bytes place row is at leads number same =
      let e : from ≡ number = omega (arith, same) in
      in_front (entries_on dir from 0 (rows_of page)) (entries_of dir (from + 1) pages) (record { at = record { dir = dir; page = number; place = place }; row = row })
      (subst (λ n. IsIn (entries_on dir from 0 (rows_of page)) (record { at = record { dir = dir; page = n; place = place }; row = row })) e
      (entries_in_on dir from 0 (rows_of page) place row (subst (λ (b : List ℕ). slice_get (rows_of b) place ≡ Some row) (sym (some_inj is)) at) leads place (omega arith)))
  in_of dir from (page ∷ pages) (suc k) bytes place row is at leads number same =
      in_behind (entries_on dir from 0 (rows_of page)) (entries_of dir (from + 1) pages) (record { at = record { dir = dir; page = number; place = place }; row = row })
      (in_of dir (from + 1) pages k bytes place row is at leads number (omega (arith, same)))

  distinct_of : (dir : Tag) (from : ℕ) (pages : List (List ℕ)) → AreDistinct (entries_of dir from pages)
  distinct_of dir from [] = tt
  distinct_of dir from (page ∷ pages) =
      both_distinct (entries_on dir from 0 (rows_of page)) (entries_of dir (from + 1) pages) (distinct_on dir from 0 (rows_of page)) (distinct_of dir (from + 1) pages)
      (λ e here there.
      let o = on_entries dir from 0 (rows_of page) e here in
      let p = of_entries dir (from + 1) pages e there in
      omega (arith, o.page_is, p.page_is))

  -- ---- of directories

  abbrev pub entries_to : List Tag → List Entry
  entries_to [] = []
  entries_to (dir ∷ dirs) = entries_of dir 0 (row_pages shown dir) ++ entries_to dirs

  -- a row of a directory leads to the tag
  pub record IsEntry (e : Entry) : Type 0 where
    pub bytes : List ℕ
    pub page_there : slice_get (row_pages shown e.at.dir) e.at.page ≡ Some bytes
    pub there : slice_get (rows_of bytes) e.at.place ≡ Some e.row
    pub leads : e.row.tag ≡ tag

  by_dir : (dir : Tag) (e : Entry) → IsOf dir 0 (row_pages shown dir) e → IsEntry e
  by_dir dir e o = record {
    bytes = o.bytes;
    page_there = (λ i. slice_get (row_pages shown (o.dir_is i)) e.at.page) ∙ ap (slice_get (row_pages shown dir)) (o.page_is ∙ omega arith) ∙ o.page_there;
    there = o.there;
    leads = o.leads;
  }

  pub to_entries : (dirs : List Tag) (e : Entry) → IsIn (entries_to dirs) e → IsEntry e × IsIn dirs e.at.dir
  to_entries [] e is = none_is_some e is.1
  to_entries (dir ∷ dirs) e is = ⊎_elim
      (λ here. let o = of_entries dir 0 (row_pages shown dir) e here in (by_dir dir e o, (0, ap Some (sym o.dir_is))))
      (λ there. let more = to_entries dirs e there in (more.0, (suc more.1.0, more.1.1)))
      (in_parts (entries_of dir 0 (row_pages shown dir)) (entries_to dirs) e is)

  pub in_to : (dirs : List Tag) (e : Entry) → IsIn dirs e.at.dir → IsEntry e → IsIn (entries_to dirs) e
  in_to [] e is entry = none_is_some e.at.dir is.1
  in_to (dir ∷ dirs) e (zero, at) entry =
      let same : e.at.dir ≡ dir = sym (some_inj at) in
      in_front (entries_of dir 0 (row_pages shown dir)) (entries_to dirs) e
      (subst (λ (d : Tag). IsIn (entries_of d 0 (row_pages shown d)) e) same
      (in_of e.at.dir 0 (row_pages shown e.at.dir) e.at.page entry.bytes e.at.place e.row entry.page_there entry.there entry.leads e.at.page (omega arith)))
  in_to (dir ∷ dirs) e (suc k, at) entry = in_behind (entries_of dir 0 (row_pages shown dir)) (entries_to dirs) e (in_to dirs e (k, at) entry)

  pub distinct_to : (dirs : List Tag) → AreDistinct dirs → AreDistinct (entries_to dirs)
  distinct_to [] distinct = tt
  distinct_to (dir ∷ dirs) distinct =
      both_distinct (entries_of dir 0 (row_pages shown dir)) (entries_to dirs) (distinct_of dir 0 (row_pages shown dir)) (distinct_to dirs distinct.1)
      (λ e here there.
      let o = of_entries dir 0 (row_pages shown dir) e here in
      let p = to_entries dirs e there in
      distinct.0 (p.1.0, p.1.1 ∙ ap Some o.dir_is))

-- what stands once by places is distinct
pub once_distinct : {X : Type 0} (xs : List X) → ((j k : ℕ) (x : X) → slice_get xs j ≡ Some x → slice_get xs k ≡ Some x → j ≡ k) → AreDistinct xs
once_distinct [] once = tt
once_distinct (x ∷ xs) once = (
  (λ is. let e : 0 ≡ suc is.0 = once 0 (suc is.0) x refl is.1 in absurd (omega (arith, e))),
  once_distinct xs (λ j k y at at'. let e : suc j ≡ suc k = once (suc j) (suc k) y at at' in omega (arith, e)),
)
