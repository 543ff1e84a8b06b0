-- Where the rows of a directory stand, page after page.
use Rattle.std.proofs.Common.{◌≡◌, ◌∙◌, ◌⊎◌, inl, inr, ⊎_elim, ℕ, zero, suc, ◌<◌, true, List, [], ◌∷◌, ◌++◌, Option, Some, None, slice_get, is_some, refl, sym, ap, subst, arith, true≢false}
use Rattle.std.proofs.lemmas.Bool.{cases_Bool}
use Rattle.fileset_shapes.specs.directory_pages.RowPage.{rows_of}
use Rattle.fileset_shapes.specs.directory_pages.Rows.{found, is_named}
use Rattle.fileset_shapes.specs.directory_pages.declared.row.Row.{Row}
use Rattle.fileset_shapes.specs.directory_rows.Directory.{NamesOnce, all_rows}
use Rattle.fileset_shapes.proofs.OfDirectoryRows.Entered.{named_found}
use Rattle.fileset_shapes.specs.domain_base.declared.place.Kind.{Kind}
use Rattle.fileset_shapes.specs.domain_base.declared.place.Tag.{Tag}
use Rattle.fileset_shapes.proofs.OfDirectoryRows.AllLed.{found_row, get_behind, get_front, get_parted, named_at}

none_is_some : {P X : Type 0} (x : X) → None ≡ Some x → P
none_is_some x is = absurd (cc)

-- a row stands on a page, at a place of it
pub record IsPlaced (pages : List (List ℕ)) (row : Row) : Type 0 where
  pub page : ℕ
  pub bytes : List ℕ
  pub there : slice_get pages page ≡ Some bytes
  pub place : ℕ
  pub at : slice_get (rows_of bytes) place ≡ Some row

pub placed : (pages : List (List ℕ)) (k : ℕ) (row : Row) → slice_get (all_rows pages) k ≡ Some row → IsPlaced pages row
placed [] k row is = none_is_some row is
placed (page ∷ pages) k row is = ⊎_elim
    (λ here. record { page = 0; bytes = page; there = refl; place = k; at = here })
    (λ later. let p = placed pages later.0 row later.1 in record { page = suc p.page; bytes = p.bytes; there = p.there; place = p.place; at = p.at })
    (get_parted (rows_of page) (all_rows pages) k row is)

pub flat_place : (pages : List (List ℕ)) (k : ℕ) (bytes : List ℕ) (j : ℕ) (row : Row) → slice_get pages k ≡ Some bytes → slice_get (rows_of bytes) j ≡ Some row → (i : ℕ) × (slice_get (all_rows pages) i ≡ Some row)
flat_place [] k bytes j row is at = none_is_some bytes is
flat_place (page ∷ pages) zero bytes j row is at =
    (j, get_front (rows_of page) (all_rows pages) j row (subst (λ (b : List ℕ). slice_get (rows_of b) j ≡ Some row) (sym (same_page is)) at))
  where
    same_page : Some page ≡ Some bytes → page ≡ bytes
    same_page e = cc
flat_place (page ∷ pages) (suc k) bytes j row is at =
    let more = flat_place pages k bytes j row is at in
    get_behind (rows_of page) (all_rows pages) more.0 row more.1

-- ---- no name twice

-- a name that is there is that of a row
named_row : (name : List ℕ) (rows : List Row) → is_named name rows ≡ true → (k : ℕ) × (row : Row) × (slice_get rows k ≡ Some row) × (row.name ≡ name)
named_row name rows is = by_found (found name rows) refl (sym (named_found name rows) ∙ is)
  where
    by_found : (o : Option (Tag × Kind)) → found name rows ≡ o → is_some o ≡ true → (k : ℕ) × (row : Row) × (slice_get rows k ≡ Some row) × (row.name ≡ name)
    by_found None none has = absurd cc
    by_found (Some what) some has = let row = found_row name rows what.0 what.1 some in (row.0, row.1, row.2, row.3)

-- rows, a later one of which has another name than each before it
pub once_by : (rows : List Row) → ((i j : ℕ) (a b : Row) → i < j → slice_get rows i ≡ Some a → slice_get rows j ≡ Some b → ¬ a.name ≡ b.name) → NamesOnce rows
once_by [] apart = tt
once_by (row ∷ rows) apart = (
  ⊎_elim (λ named. let later = named_row row.name rows named in absurd (apart 0 (suc later.0) row later.1 (omega arith) refl later.2 (sym later.3))) (λ other. other) (cases_Bool (is_named row.name rows)),
  once_by rows (λ i j a b less at at'. apart (suc i) (suc j) a b (omega (arith, less)) at at'),
)

-- a row is not after another of its name: on no later page, and at no later place of its page
abbrev AreApart : List (List ℕ) → Type 0
AreApart pages = (k k' : ℕ) (bytes bytes' : List ℕ) (j j' : ℕ) (a b : Row) → slice_get pages k ≡ Some bytes → slice_get pages k' ≡ Some bytes'
    → slice_get (rows_of bytes) j ≡ Some a → slice_get (rows_of bytes') j' ≡ Some b → (k < k') ⊎ ((k ≡ k') × (j < j')) → ¬ a.name ≡ b.name

both_once : (xs ys : List Row) → NamesOnce xs → NamesOnce ys → ((i j : ℕ) (a b : Row) → slice_get xs i ≡ Some a → slice_get ys j ≡ Some b → ¬ a.name ≡ b.name) → NamesOnce (xs ++ ys)
both_once [] ys once more apart = more
both_once (x ∷ xs) ys once more apart = (
  ⊎_elim
      (λ named.
      let row = named_row x.name (xs ++ ys) named in
      ⊎_elim
      (λ here. absurd (true≢false (sym (named_at x.name xs row.0 row.1 here row.3) ∙ once.0)))
      (λ there. absurd (apart 0 there.0 x row.1 refl there.1 (sym row.3)))
      (get_parted xs ys row.0 row.1 row.2))
      (λ other. other) (cases_Bool (is_named x.name (xs ++ ys))),
  both_once xs ys once.1 more (λ i j a b at at'. apart (suc i) j a b at at'),
)

pub names_once : (pages : List (List ℕ)) → AreApart pages → NamesOnce (all_rows pages)
names_once [] apart = tt
names_once (page ∷ pages) apart =
    both_once (rows_of page) (all_rows pages)
    (once_by (rows_of page) (λ i j a b less at at'. apart 0 0 page page i j a b refl refl at at' (inr (refl, less))))
    (names_once pages (λ k k' bytes bytes' j j' a b at at' there there' order. apart (suc k) (suc k') bytes bytes' j j' a b at at' there there'
    (⊎_elim (λ less. inl (omega (arith, less))) (λ same. inr (ap suc same.0, same.1)) order)))
    (λ i j a b at at'.
    let p = placed pages j b at' in
    apart 0 (suc p.page) page p.bytes i p.place a b refl p.there at p.at (inl (omega arith)))
