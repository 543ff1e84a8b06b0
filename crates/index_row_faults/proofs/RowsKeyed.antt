-- Hashes and pages of rows, one after the other.
use Rattle.std.proofs.Common.{◌≡◌, ◌∙◌, ◌+◌, ◌<◌, ◌==◌, ◌&&◌, ℕ, Bool, true, false, cond, List, [], ◌∷◌, ◌++◌, get_or, length, take, refl, sym, ap, arith}
use Rattle.std.specs.BTreeMap.{is_at}
use Rattle.std.specs.List.{count_by, filter}
use Rattle.std.proofs.lemmas.List.Sums.{count_by_more_no, count_by_more_yes, length-filter}
use Rattle.page_faults.specs.domain_base.contracts.place.TagOrd.TheImpl as tag_ord
use Rattle.page_faults.specs.domain_base.declared.place.Tag.{Tag}
use Rattle.page_faults.specs.directory_pages.Entries.{hash_of}
use Rattle.directory_faults.specs.declared.rows.RowThere.{RowThere}
use Rattle.index_row_faults.specs.Counts.{is_key}
use Rattle.index_row_faults.specs.Keys.{has_key}

module _ {X : Type 0} (p : X → Bool) where
  filter_append : (xs ys : List X) → length (filter p (xs ++ ys)) ≡ length (filter p xs) + length (filter p ys)
  filter_append [] ys = omega arith
  filter_append (x ∷ xs) ys = by_test (p x) (filter_append xs ys)
    where
      by_test : (b : Bool) → length (filter p (xs ++ ys)) ≡ length (filter p xs) + length (filter p ys)
          → length (cond b (x ∷ filter p (xs ++ ys)) (filter p (xs ++ ys))) ≡ length (cond b (x ∷ filter p xs) (filter p xs)) + length (filter p ys)
      by_test true rest = omega (arith, rest)
      by_test false rest = rest

  pub count_append : (xs ys : List X) → count_by p (xs ++ ys) ≡ count_by p xs + count_by p ys
  count_append xs ys = omega (arith, filter_append xs ys, length-filter p (xs ++ ys), length-filter p xs, length-filter p ys)

  pub count_one : (x : X) → count_by p (x ∷ []) ≡ cond (p x) 1 0
  count_one x = sym (length-filter p (x ∷ [])) ∙ by_test (p x)
    where
      by_test : (b : Bool) → length (cond b (x ∷ []) []) ≡ cond b 1 0
      by_test true = refl
      by_test false = refl

  pub count_more : (xs : List X) (k : ℕ) (d : X) → k < length xs → count_by p (take (k + 1) xs) ≡ count_by p (take k xs) + cond (p (get_or xs k d)) 1 0
  count_more xs k d within = by_test (p (get_or xs k d)) refl
    where
      by_test : (b : Bool) → p (get_or xs k d) ≡ b → count_by p (take (k + 1) xs) ≡ count_by p (take k xs) + cond b 1 0
      by_test true is = count_by_more_yes p xs k d within is
      by_test false is = count_by_more_no p xs k d within is ∙ (let zero_on : count_by p (take k xs) ≡ count_by p (take k xs) + 0 = omega arith in zero_on)

pub row_keyed : (dir : Tag) (hash page : ℕ) (old new : List (ℕ × ℕ)) (rows : List RowThere) (k : ℕ) (r : RowThere) (number : ℕ) → k < length rows → r ≡ get_or rows k r → number ≡ hash_of r.row.name
    → new ≡ old ++ cond (is_at ((tag_ord.ghosts).cmp r.at.dir) dir) ((number, r.at.page) ∷ []) [] → count_by (is_key hash page) old ≡ count_by (has_key dir hash page) (take k rows)
    → count_by (is_key hash page) new ≡ count_by (has_key dir hash page) (take (k + 1) rows)
row_keyed dir hash page old new rows k r number within is name_is put before =
    let one = by_test (is_at ((tag_ord.ghosts).cmp r.at.dir) dir) (r.at.page == page) in
    let more = count_more (has_key dir hash page) rows k r within in
    let here : ℕ = cond (has_key dir hash page r) 1 0 in
    let there : ℕ = cond (has_key dir hash page (get_or rows k r)) 1 0 in
    let last : here ≡ there = ap (λ (t : RowThere). let n : ℕ = cond (has_key dir hash page t) 1 0 in n) is in
    let added = ap (count_by (is_key hash page)) put in
    omega (arith, one, more, last, added, before)
  where
    by_test : (b c : Bool) → count_by (is_key hash page) (old ++ cond b ((number, r.at.page) ∷ []) []) ≡ count_by (is_key hash page) old + cond ((b && (hash_of r.row.name == hash)) && (r.at.page == page)) 1 0
    by_test true c = count_append (is_key hash page) old ((number, r.at.page) ∷ [])
        ∙ ap (λ n. count_by (is_key hash page) old + n) (count_one (is_key hash page) (number, r.at.page) ∙ ap (λ n. cond ((n == hash) && (r.at.page == page)) 1 0) name_is)
    by_test false c = count_append (is_key hash page) old [] ∙ refl
