-- Sums over the entries of a map, and over a list that names them.
use Rattle.std.proofs.Common.{◌≡◌, ◌∙◌, ⊎_elim, ℕ, zero, suc, ◌+◌, ◌-◌, ◌<◌, Bool, true, false, not, cond, List, [], ◌∷◌, length, Option, Some, None, IsSomeAnd, slice_get, refl, sym, ap, subst, arith}
use Rattle.std.proofs.lemmas.Bool.{cases_lt}
use Rattle.std.proofs.lemmas.Cmp.{eq_by_cmp_equiv}
use Rattle.std.proofs.lemmas.List.Sums.{sum_by-cons}
use Rattle.std.specs.Cmp.{nat_cmp_total}
use Rattle.std.specs.List.{sum_by}
use Rattle.std.specs.Option.{option_map, option_map_or}
use Rattle.std.specs.Ordering.{eq_by_cmp, is_eq, nat_cmp}
use Rattle.std.specs.declared.cmp.Ordering.{Ordering}
use Rattle.std.specs.declared.cmp.Ordering.TheVariants.{Less, Equal, Greater}
use Rattle.std.specs.FinMap as map
use Rattle.std.specs.FinMap.{nat_cmp-IsAntisymmetric}
use Rattle.no_faults.specs.domain_base.declared.place.Home.{Home}
use Rattle.no_faults.proofs.OfLegalHistories.ValidLemmas.{from_some_and, some_inj}
use Rattle.no_faults.proofs.OfFilesetModel.ChangeLemmas.{remove-from_sorted}
use Rattle.no_faults.proofs.OfFilesetModel.MoveLemmas.{entries-empty, from_sorted-entries, sorted_entries}
use Rattle.no_faults.specs.filesets_reading.Seen.{home_in}
use Rattle.no_faults.proofs.OfQuotaBook.OneNode.{total-others}
use Rattle.no_faults.proofs.OfSortedSets.EntryLemmas.{entries-from_sorted, is_sorted_where}
use Rattle.no_faults.proofs.OfSortedSets.Removal.{others}
use Rattle.attached_domain.specs.Counted.{pages_there}

none_is_some : {P X : Type 0} (x : X) → None ≡ Some x → P
none_is_some x is = absurd (cc)

-- ---- numbers that are the same

same_as : (a b : ℕ) → eq_by_cmp nat_cmp a b ≡ true → a ≡ b
same_as a b is = nat_cmp-IsAntisymmetric a b (equal (nat_cmp a b) is)
  where
    equal : (r : Ordering) → is_eq r ≡ true → r ≡ Equal
    equal Less is = absurd (cc)
    equal Equal is = refl
    equal Greater is = absurd (cc)

itself : (a : ℕ) → eq_by_cmp nat_cmp a a ≡ true
itself a = (eq_by_cmp_equiv nat_cmp_total).refl a

differs : (a b : ℕ) → ¬ a ≡ b → eq_by_cmp nat_cmp a b ≡ false
differs a b apart = by_test (eq_by_cmp nat_cmp a b) refl
  where
    by_test : (t : Bool) → eq_by_cmp nat_cmp a b ≡ t → t ≡ false
    by_test true is = absurd (apart (same_as a b is))
    by_test false is = refl

-- ---- maps of numbers

abbrev pub Numbered : Type 0 → Type 0
Numbered X = map.FinMap nat_cmp X

module _ {X : Type 0} where
  no_entry : (m : Numbered X) → ((n : ℕ) → map.get m n ≡ None) → m ≡ map.empty
  no_entry m none = map.same_map nat_cmp_total nat_cmp-IsAntisymmetric m map.empty (λ n. none n ∙ sym (map.get-empty nat_cmp n))

  entries-remove : (m : Numbered X) (k : ℕ) → map.entries (map.remove m k) ≡ others nat_cmp_total k (map.entries m)
  entries-remove m k =
      let es = map.entries m in
      ap map.entries (ap (λ n. map.remove n k) (sym (from_sorted-entries m)) ∙ sym (remove-from_sorted nat_cmp_total nat_cmp-IsAntisymmetric k es (sorted_entries m)))
      ∙ entries-from_sorted nat_cmp (others nat_cmp_total k es) (is_sorted_where nat_cmp (λ x. not (eq_by_cmp nat_cmp k x)) es (sorted_entries m))

  gone : (m : Numbered X) (k : ℕ) → map.get (map.remove m k) k ≡ None
  gone m k = map.get-remove nat_cmp_total m k k ∙ ap (λ b. cond b None (map.get m k)) (itself k)

  others_stay : (m : Numbered X) (k n : ℕ) → ¬ n ≡ k → map.get (map.remove m k) n ≡ map.get m n
  others_stay m k n apart = map.get-remove nat_cmp_total m k n ∙ ap (λ b. cond b None (map.get m n)) (differs n k apart)

  -- what is left was there, and under another number
  was_there : (m : Numbered X) (k n : ℕ) (x : X) → map.get (map.remove m k) n ≡ Some x → (¬ n ≡ k) × (map.get m n ≡ Some x)
  was_there m k n x is = (
    (λ same. none_is_some x (sym (gone m k) ∙ ap (map.get (map.remove m k)) (sym same) ∙ is)),
    by_test (eq_by_cmp nat_cmp n k) (sym (map.get-remove nat_cmp_total m k n) ∙ is),
  )
    where
      by_test : (b : Bool) → cond b None (map.get m n) ≡ Some x → map.get m n ≡ Some x
      by_test true is = none_is_some x is
      by_test false is = is

  -- a number for each list of entries that counts a weight for each
  module _ (total : List (ℕ × X) → ℕ) (weight : ℕ × X → ℕ) (cons : (e : ℕ × X) (es : List (ℕ × X)) → total (e ∷ es) ≡ weight e + total es) where
    without_one : (m : Numbered X) (k : ℕ) (x : X) → map.get m k ≡ Some x → total (map.entries (map.remove m k)) + weight (k, x) ≡ total (map.entries m)
    without_one m k x there =
        let es = map.entries m in
        let a = ap total (entries-remove m k) in
        let b : option_map_or (λ y. weight (k, y)) (map.get m k) 0 ≡ option_map_or (λ y. weight (k, y)) (map.find nat_cmp k es) 0 = ap (λ o. option_map_or (λ y. weight (k, y)) o 0) (map.get-entries m k) in
        let c : option_map_or (λ y. weight (k, y)) (map.get m k) 0 ≡ weight (k, x) = ap (λ o. option_map_or (λ y. weight (k, y)) o 0) there in
        let d = total-others total weight cons k es (map.entries_sorted m) in
        omega (arith, a, b, c, d)

    -- a list names each entry once, with its weight
    module _ {Y : Type 0} (key : Y → ℕ) (count : Y → ℕ) (nil : total [] ≡ 0) where
      pub record NamesEach (ys : List Y) (m : Numbered X) : Type 0 where
        pub once : (i j : ℕ) (one other : Y) → slice_get ys i ≡ Some one → slice_get ys j ≡ Some other → key one ≡ key other → i ≡ j
        pub each : (i : ℕ) (y : Y) → slice_get ys i ≡ Some y → IsSomeAnd (map.get m (key y)) (λ x. weight (key y, x) ≡ count y)
        pub only : (n : ℕ) (x : X) → map.get m n ≡ Some x → (i : ℕ) × (y : Y) × (slice_get ys i ≡ Some y) × (key y ≡ n)

      apart_from : (y : Y) (ys : List Y) (m : Numbered X) → NamesEach (y ∷ ys) m → (i : ℕ) (z : Y) → slice_get ys i ≡ Some z → ¬ key z ≡ key y
      apart_from y ys m names i z at same = let e = names.once (suc i) 0 z y at refl same in absurd (omega (arith, e))

      names_rest : (y : Y) (ys : List Y) (m : Numbered X) → NamesEach (y ∷ ys) m → NamesEach ys (map.remove m (key y))
      names_rest y ys m names = record {
        once = λ i j one other at at' same. let e = names.once (suc i) (suc j) one other at at' same in omega (arith, e);
        each = λ i z at. subst (λ o. IsSomeAnd o (λ x. weight (key z, x) ≡ count z)) (sym (others_stay m (key y) (key z) (apart_from y ys m names i z at))) (names.each (suc i) z at);
        only = λ n x is.
            let was = was_there m (key y) n x is in
            let one = names.only n x was.1 in
            rest n was.0 one.0 one.1 one.2 one.3;
      }
        where
          rest : (n : ℕ) → ¬ n ≡ key y → (i : ℕ) (z : Y) → slice_get (y ∷ ys) i ≡ Some z → key z ≡ n → (j : ℕ) × (w : Y) × (slice_get ys j ≡ Some w) × (key w ≡ n)
          rest n apart zero z at is = absurd (apart (sym is ∙ ap key (sym (some_inj at))))
          rest n apart (suc i) z at is = (i, z, at, is)

      pub summed : (ys : List Y) (m : Numbered X) → NamesEach ys m → total (map.entries m) ≡ sum_by count ys
      summed [] m names = ap total (ap map.entries (no_entry m none) ∙ entries-empty nat_cmp) ∙ nil
        where
          by_get : (n : ℕ) (o : Option X) → map.get m n ≡ o → o ≡ None
          by_get n None is = refl
          by_get n (Some x) is = let one = names.only n x is in none_is_some one.1 one.2

          none : (n : ℕ) → map.get m n ≡ None
          none n = by_get n (map.get m n) refl
      summed (y ∷ ys) m names =
          let first = from_some_and (λ x. weight (key y, x) ≡ count y) (map.get m (key y)) (names.each 0 y refl) in
          let rest = summed ys (map.remove m (key y)) (names_rest y ys m names) in
          let a = without_one m (key y) first.0 first.1 in
          let b = first.2 in
          let c = sum_by-cons count y ys in
          omega (arith, rest, a, b, c)

-- ---- pages at homes

one_each : {X : Type 0} (e : ℕ × X) (es : List (ℕ × X)) → length (e ∷ es) ≡ 1 + length es
one_each e es = omega arith

-- the pages of a file have the numbers of homes that are there
module _ (bytes : Home → List ℕ) where
  pub pages_counted : (homes : List (Option Home)) (from : ℕ) (pages : Numbered (List ℕ)) → ((p : ℕ) → map.get pages (from + p) ≡ option_map bytes (home_in homes p))
      → ((q : ℕ) → q < from → map.get pages q ≡ None) → map.len pages ≡ pages_there homes
  pages_counted [] from pages at below = ap map.len (no_entry pages none) ∙ map.len-empty nat_cmp (List ℕ)
    where
      none : (q : ℕ) → map.get pages q ≡ None
      none q = ⊎_elim (λ less. below q less) (λ far. let same : q ≡ from + (q - from) = omega (arith, far) in ap (map.get pages) same ∙ at (q - from)) (cases_lt q from)
  pages_counted (None ∷ homes) from pages at below =
      pages_counted homes (from + 1) pages (λ p. let same : from + 1 + p ≡ from + suc p = omega arith in ap (map.get pages) same ∙ at (suc p))
      (λ q less. ⊎_elim (λ before. below q before) (λ far. let same : q ≡ from + 0 = omega (arith, less, far) in ap (map.get pages) same ∙ at 0) (cases_lt q from))
  pages_counted (Some home ∷ homes) from pages at below =
      let left = map.remove pages from in
      let here : map.get pages from ≡ Some (bytes home) = (let same : from ≡ from + 0 = omega arith in ap (map.get pages) same ∙ at 0) in
      let rest = pages_counted homes (from + 1) left
      (λ p. let same : from + 1 + p ≡ from + suc p = omega arith in others_stay pages from (from + 1 + p) (λ is. omega (arith, is)) ∙ ap (map.get pages) same ∙ at (suc p))
      (λ q less. ⊎_elim (λ before. others_stay pages from q (λ is. omega (arith, is, before)) ∙ below q before) (λ far. let same : q ≡ from = omega (arith, less, far) in ap (map.get left) same ∙ gone pages from) (cases_lt q from)) in
      let a = without_one length (λ e. 1) one_each pages from (bytes home) here in
      let b = map.len-entries pages in
      let c = map.len-entries left in
      omega (arith, rest, a, b, c)
