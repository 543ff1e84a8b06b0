-- What is decided: whether lists, tags and places are the same, and whether a page is one of rows.
use Rattle.std.proofs.Common.{◌≡◌, ◌∙◌, ◌⊎◌, inl, inr, ⊎_elim, ℕ, ◌^◌, List, [], ◌∷◌, ◌++◌, length, drop, refl, sym, ap, arith, true≢false}
use Rattle.std.proofs.Math.Seq.{drop-append_seam}
use Rattle.std.proofs.lemmas.Bool.{cases_Bool, cases_lt}
use Rattle.std.specs.List.{AllByRecursion}
use Rattle.fileset_shapes.specs.domain_base.declared.place.Kind.{Kind}
use Rattle.fileset_shapes.specs.domain_base.declared.place.Kind.TheVariants.{Directory, File}
use Rattle.fileset_shapes.specs.domain_base.declared.place.Tag.{Tag}
use Rattle.fileset_shapes.specs.page_store.Bitfiles.{same_tag}
use Rattle.fileset_shapes.specs.directory_pages.RowPage.{IsDirPage, IsRowPage, header, page_of, rows_of}
use Rattle.fileset_shapes.specs.directory_pages.Rows.{IsRow, is_row_name, spelling}
use Rattle.fileset_shapes.specs.directory_pages.declared.row.Row.{Row}
use Rattle.fileset_shapes.proofs.OfNameSpace.Originals.{tags_differ, tags_same}
use Rattle.fileset_shapes.specs.domain_layout.DirectoryRules.{RowPlace}
use Rattle.fileset_shapes.proofs.OfDomainLayout.Reached.{same_number}

pub list_decided : (xs ys : List ℕ) → (xs ≡ ys) ⊎ ¬ xs ≡ ys
list_decided [] [] = inl refl
list_decided [] (y ∷ ys) = inr (λ e. absurd (cc))
list_decided (x ∷ xs) [] = inr (λ e. absurd (cc))
list_decided (x ∷ xs) (y ∷ ys) = ⊎_elim
    (λ first. ⊎_elim (λ rest. inl (λ i. first i ∷ rest i)) (λ other. inr (λ e. other (ap (λ (zs : List ℕ). drop 1 zs) e))) (list_decided xs ys))
    (λ other. inr (λ e. other (ap (λ (zs : List ℕ). head zs) e)))
    (same_number x y)
  where
    head : List ℕ → ℕ
    head [] = 0
    head (z ∷ zs) = z

pub tag_decided : (a b : Tag) → (a ≡ b) ⊎ ¬ a ≡ b
tag_decided a b = ⊎_elim (λ same. inl (tags_same a b same)) (λ other. inr (tags_differ a b other)) (cases_Bool (same_tag a b))

pub place_decided : (a b : RowPlace) → (a ≡ b) ⊎ ¬ a ≡ b
place_decided a b = ⊎_elim
    (λ dirs. ⊎_elim
    (λ page. ⊎_elim (λ place. inl (λ i. record { dir = dirs i; page = page i; place = place i })) (λ other. inr (λ e. other (ap (λ (p : RowPlace). p.place) e))) (same_number a.place b.place))
    (λ other. inr (λ e. other (ap (λ (p : RowPlace). p.page) e))) (same_number a.page b.page))
    (λ other. inr (λ e. other (ap (λ (p : RowPlace). p.dir) e))) (tag_decided a.dir b.dir)

pub kind_decided : (a b : Kind) → (a ≡ b) ⊎ ¬ a ≡ b
kind_decided File File = inl refl
kind_decided Directory Directory = inl refl
kind_decided File Directory = inr (λ e. absurd (cc))
kind_decided Directory File = inr (λ e. absurd (cc))

row_decided : (row : Row) → IsRow row ⊎ ¬ IsRow row
row_decided row = ⊎_elim
    (λ slot. ⊎_elim
    (λ seq. ⊎_elim (λ named. inl (record { slot = slot; seq = seq; named = named })) (λ other. inr (λ is. true≢false (sym is.named ∙ other))) (cases_Bool (is_row_name row.name)))
    (λ high. inr (λ is. omega (arith, is.seq, high))) (cases_lt row.tag.seq (2 ^ 16)))
    (λ high. inr (λ is. omega (arith, is.slot, high))) (cases_lt row.tag.slot (2 ^ 32))

rows_decided : (rows : List Row) → AllByRecursion IsRow rows ⊎ ¬ AllByRecursion IsRow rows
rows_decided [] = inl tt
rows_decided (row ∷ rows) = ⊎_elim
    (λ first. ⊎_elim (λ rest. inl (first, rest)) (λ other. inr (λ is. other is.1)) (rows_decided rows))
    (λ other. inr (λ is. other is.0)) (row_decided row)

module _ (page : List ℕ) (rows : List Row) where
  abbrev front : List ℕ
  front = header rows ++ spelling rows

  parted : (rest : List ℕ) → page_of rows rest ≡ front ++ rest
  parted rest = refl

  -- what stands after the rows is the rest of the page
  behind_rows : IsRowPage page rows → page ≡ page_of rows (drop (length front) page)
  behind_rows is =
      let whole : page ≡ front ++ is.rest = is.parts ∙ parted is.rest in
      let rest : drop (length front) page ≡ is.rest = ap (drop (length front)) whole ∙ drop-append_seam front is.rest in
      is.parts ∙ ap (page_of rows) (sym rest)

  page_decided : IsRowPage page rows ⊎ ¬ IsRowPage page rows
  page_decided = ⊎_elim
      (λ whole. ⊎_elim
      (λ parts. ⊎_elim (λ good. inl (record { whole = whole; rest = drop (length front) page; parts = parts; good = good })) (λ other. inr (λ is. other is.good)) (rows_decided rows))
      (λ other. inr (λ is. other (behind_rows is))) (list_decided page (page_of rows (drop (length front) page))))
      (λ other. inr (λ is. other is.whole)) (same_number (length page) 8192)

pub dir_page_decided : (page : List ℕ) → IsDirPage page ⊎ ¬ IsDirPage page
dir_page_decided page = page_decided page (rows_of page)
