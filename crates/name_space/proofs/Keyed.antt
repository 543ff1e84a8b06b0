-- Rows as entries by their names.
use Rattle.std.proofs.Common.{◌≡◌, ◌∙◌, ℕ, ◌+◌, ◌<◌, ◌≤◌, ◌==◌, ◌&&◌, ◌||◌, Bool, true, false, cond, is_some, List, [], ◌∷◌, Option, Some, None, length, map as map_each, suc, slice_index_or, sum_by, count_by, IsTrue, refl, sym, ap, subst, arith, true≢false}
use Rattle.std.proofs.lemmas.List.Sums.{sum_by-cons}
use Rattle.std.proofs.lemmas.List.Sorted.{sum_by-IsPermutation}
use Rattle.std.specs.List.Sorted.{IsPermutation, IsSortedByKey}
use Rattle.std.specs.declared.cmp.Ordering.{Ordering}
use Rattle.std.specs.declared.cmp.Ordering.TheVariants.{Less, Equal, Greater}
use Rattle.std.specs.Ordering.{eq_by_cmp, is_lt, ordering_reverse}
use Rattle.std.specs.Cmp.{eq_by_cmp_equiv, first_so, second_so}
use Rattle.std.specs.Cmp.Lexicographic.{texts_ties}
use Rattle.std.specs.Option.{option_map}
use Rattle.std.specs.FinMap as map
use Rattle.std.specs.FinMap.Entries.{below_all, find, is_sorted}
use Rattle.plain_program.specs.domain_base.declared.place.Kind.{Kind}
use Rattle.plain_program.specs.domain_base.declared.place.Tag.{Tag}
use Rattle.directory_rows.specs.directory_pages.declared.row.Row.{Row}
use Rattle.directory_rows.specs.directory_pages.Rows.{found, has_name, is_named}
use Rattle.directory_rows.proofs.OfDirectoryPages.Places.{is_named_so, named_is}
use Rattle.directory_rows.specs.Directory.{NamesOnce}
use Rattle.plain_program.specs.fileset_values.Orders.{Name, name_cmp, name_cmp-total, name_cmp-IsAntisymmetric}
use Rattle.plain_program.proofs.OfSortedSets.EntryLemmas.{entries-from_sorted, get-from_sorted}
use Rattle.name_space.specs.Names.{is_directory_kind}

abbrev pub entry_of : Row → Name × Bool
entry_of row = (row.name, is_directory_kind row.kind)

same_test : (q : Name) (row : Row) → eq_by_cmp name_cmp q row.name ≡ has_name q row
same_test q row = (eq_by_cmp_equiv name_cmp-total).symm q row.name ∙ sym (texts_ties row.name q)

-- what is found of a name among the entries is the kind of its row
pub found_kind : (q : Name) (rows : List Row) → find name_cmp q (map_each entry_of rows) ≡ option_map (λ (led : Tag × Kind). is_directory_kind led.1) (found q rows)
found_kind q [] = refl
found_kind q (row ∷ rows) =
    ap (λ b. cond b (Some (is_directory_kind row.kind)) (find name_cmp q (map_each entry_of rows))) (same_test q row)
    ∙ by_test (has_name q row) (found_kind q rows)
  where
    by_test : (b : Bool) → find name_cmp q (map_each entry_of rows) ≡ option_map (λ (led : Tag × Kind). is_directory_kind led.1) (found q rows)
        → cond b (Some (is_directory_kind row.kind)) (find name_cmp q (map_each entry_of rows)) ≡ option_map (λ (led : Tag × Kind). is_directory_kind led.1) (cond b (Some (row.tag, row.kind)) (found q rows))
    by_test true later = refl
    by_test false later = later

-- ---- names that stand once stand once in any order

-- what a row weighs under a name, by its kind
abbrev weight : Name → Row → ℕ
weight q row = cond (has_name q row) (cond (is_directory_kind row.kind) 2 1) 0

abbrev all : Name → List Row → ℕ
all q rows = sum_by (weight q) rows

abbrev how_many : Name → List Row → ℕ
how_many q rows = count_by (has_name q) rows

-- the kind of a name of that weight
abbrev by_weight : ℕ → Option Bool
by_weight n = cond (n == 0) None (Some (n == 2))

-- each name stands at most once
abbrev pub AreOnce : List Row → Type 0
AreOnce rows = (q : Name) → how_many q rows ≤ 1

one_more : (q : Name) (row : Row) (rows : List Row) → how_many q (row ∷ rows) ≡ cond (has_name q row) 1 0 + how_many q rows
one_more q row rows = sum_by-cons (λ row. cond (has_name q row) 1 0) row rows

unnamed : (q : Name) (rows : List Row) → is_named q rows ≡ false → how_many q rows ≡ 0
unnamed q [] none = refl
unnamed q (row ∷ rows) none = one_more q row rows ∙ by_test (has_name q row) none (unnamed q rows)
  where
    by_test : (b : Bool) → (b || is_named q rows) ≡ false → (is_named q rows ≡ false → how_many q rows ≡ 0) → cond b 1 0 + how_many q rows ≡ 0
    by_test true none rest = absurd (true≢false none)
    by_test false none rest = omega (arith, rest none)

once : (rows : List Row) → NamesOnce rows → AreOnce rows
once [] names q = omega arith
once (row ∷ rows) names q =
    elim (has_name q row) as (λ b. has_name q row ≡ b → how_many q (row ∷ rows) ≤ 1) [
      | true ↦ λ same.
          let none : how_many q rows ≡ 0 = unnamed q rows (ap (λ n. is_named n rows) (sym (named_is q row same)) ∙ names.0) in
          let sum : how_many q (row ∷ rows) ≡ 1 + how_many q rows = one_more q row rows ∙ ap (λ b. cond b 1 0 + how_many q rows) same in
          omega (arith, none, sum)
      | false ↦ λ other.
          let sum : how_many q (row ∷ rows) ≡ 0 + how_many q rows = one_more q row rows ∙ ap (λ b. cond b 1 0 + how_many q rows) other in
          omega (arith, sum, once rows names.1 q)
    ] refl

pub once_names : (rows : List Row) → NamesOnce rows → AreOnce rows
once_names = once

module _ (row : Row) (rows : List Row) (o : AreOnce (row ∷ rows)) where
  once_rest : AreOnce rows
  once_rest q = omega (arith, one_more q row rows, o q)

  once_first : how_many row.name rows ≡ 0
  once_first =
      let sum : how_many row.name (row ∷ rows) ≡ 1 + how_many row.name rows = one_more row.name row rows ∙ ap (λ b. cond b 1 0 + how_many row.name rows) (is_named_so row.name row refl) in
      omega (arith, sum, o row.name)

light : (q : Name) (rows : List Row) → how_many q rows ≡ 0 → all q rows ≡ 0
light q [] none = refl
light q (row ∷ rows) none =
    sum_by-cons (weight q) row rows ∙ by_test (has_name q row) (sym (one_more q row rows) ∙ none) (light q rows)
  where
    by_test : (b : Bool) → cond b 1 0 + how_many q rows ≡ 0 → (how_many q rows ≡ 0 → all q rows ≡ 0) → cond b (cond (is_directory_kind row.kind) 2 1) 0 + all q rows ≡ 0
    by_test true sum rest = absurd (omega (arith, sum))
    by_test false sum rest = omega (arith, rest (omega (arith, sum)))

-- what is found of a name is told by its weight
weighed : (q : Name) (rows : List Row) → AreOnce rows → find name_cmp q (map_each entry_of rows) ≡ by_weight (all q rows)
weighed q [] o = refl
weighed q (row ∷ rows) o =
    ap (λ b. cond b (Some (is_directory_kind row.kind)) (find name_cmp q (map_each entry_of rows))) (same_test q row)
    ∙ elim (has_name q row) as (λ b. has_name q row ≡ b → cond b (Some (is_directory_kind row.kind)) (find name_cmp q (map_each entry_of rows)) ≡ by_weight (cond b (cond (is_directory_kind row.kind) 2 1) 0 + all q rows)) [
      | true ↦ λ same.
          let none : all q rows ≡ 0 = light q rows (ap (λ n. how_many n rows) (sym (named_is q row same)) ∙ once_first row rows o) in
          by_kind (is_directory_kind row.kind) ∙ ap (λ n. by_weight (cond (is_directory_kind row.kind) 2 1 + n)) (sym none)
      | false ↦ λ other.
          let less : all q rows ≡ 0 + all q rows = omega arith in
          weighed q rows (once_rest row rows o) ∙ ap by_weight less
    ] refl
    ∙ ap by_weight (sym (sum_by-cons (weight q) row rows))
  where
    by_kind : (b : Bool) → Some b ≡ by_weight (cond b 2 1 + 0)
    by_kind true = refl
    by_kind false = refl

-- ---- sorted rows

name_below_all : (x y : Name) (es : List (Name × Bool)) → name_cmp x y ≡ Less → IsTrue (below_all name_cmp y es) → IsTrue (below_all name_cmp x es)
name_below_all x y [] lt below = refl
name_below_all x y (e ∷ es) lt below =
    both_so (ap is_lt (name_cmp-total.trans x y e.0 lt (is_less (name_cmp y e.0) (first_so _ _ below)))) (name_below_all x y es lt (second_so _ _ below))
  where
    is_less : (o : Ordering) → is_lt o ≡ true → o ≡ Less
    is_less Less is = refl
    is_less Equal is = absurd (true≢false (sym is))
    is_less Greater is = absurd (true≢false (sym is))

    both_so : {a b : Bool} → a ≡ true → b ≡ true → (a && b) ≡ true
    both_so {b = b} p q = ap (λ x. x && b) p ∙ q

-- rows in order of names that stand once are in strict order
strictly : (rows : List Row) → AreOnce rows → IsSortedByKey (λ (row : Row). row.name) name_cmp rows → IsTrue (is_sorted name_cmp (map_each entry_of rows))
strictly [] o sorted = refl
strictly (row ∷ []) o sorted = refl
strictly (row ∷ next ∷ rows) o sorted =
    let rest : IsTrue (is_sorted name_cmp (map_each entry_of (next ∷ rows))) =
    strictly (next ∷ rows) (once_rest row (next ∷ rows) o) (λ k d low below.
    let e : suc k + 1 ≡ suc (k + 1) = omega arith in
    let after : suc k + 1 < length (row ∷ next ∷ rows) = omega (arith, below) in
    ap (λ n. is_lt (name_cmp (slice_index_or (row ∷ next ∷ rows) n d).name (slice_index_or (next ∷ rows) k d).name)) (sym e)
    ∙ sorted (suc k) d (omega arith) after) in
    let alone : how_many row.name (next ∷ rows) ≡ 0 = once_first row (next ∷ rows) o in
    let differ : (¬ row.name ≡ next.name) = λ same.
    let sum : how_many row.name (next ∷ rows) ≡ 1 + how_many row.name rows = one_more row.name next rows ∙ ap (λ b. cond b 1 0 + how_many row.name rows) (is_named_so row.name next (sym same)) in
    absurd (omega (arith, sum, alone)) in
    let lt : name_cmp row.name next.name ≡ Less = rising (name_cmp row.name next.name) refl
    (ap is_lt (sym (name_cmp-total.antisymm next.name row.name)) ∙ sorted 0 row (omega arith) (omega arith)) differ in
    ap (λ b. b && is_sorted name_cmp (map_each entry_of (next ∷ rows))) (ap (λ o. is_lt o && below_all name_cmp row.name (map_each entry_of rows)) lt ∙ name_below_all row.name next.name (map_each entry_of rows) lt (first_so _ _ rest)) ∙ rest
  where
    rising : (o : Ordering) → name_cmp row.name next.name ≡ o → is_lt (ordering_reverse o) ≡ false → (¬ row.name ≡ next.name) → o ≡ Less
    rising Less is back differ = refl
    rising Equal is back differ = absurd (differ (name_cmp-IsAntisymmetric row.name next.name is))
    rising Greater is back differ = absurd (true≢false back)

-- ---- rows in order of their names

-- the kinds of rows by their names
abbrev pub keyed_map : List Row → map.FinMap name_cmp Bool
keyed_map rows = map.from_entries (map_each entry_of rows)

module _ (rows list : List Row) (names : NamesOnce rows) where
  -- they are the map of those rows' names and kinds
  pub sorted_entries_of : IsPermutation rows list → IsSortedByKey (λ (row : Row). row.name) name_cmp list
      → map.entries (keyed_map rows) ≡ map_each entry_of list
  sorted_entries_of same sorted =
      let o : AreOnce list = λ q. subst (λ (n : ℕ). n ≤ 1) (sym (sum_by-IsPermutation (λ row. cond (has_name q row) 1 0) rows list same)) (once rows names q) in
      let order = strictly list o sorted in
      ap map.entries (map.same_map name_cmp-total name_cmp-IsAntisymmetric _ (map.from_sorted (map_each entry_of list)) (λ q.
      map.get-from_entries name_cmp-total (map_each entry_of rows) q ∙ weighed q rows (once rows names)
      ∙ ap by_weight (sym (sum_by-IsPermutation (weight q) rows list same)) ∙ sym (weighed q list o)
      ∙ sym (get-from_sorted name_cmp (map_each entry_of list) q order)))
      ∙ entries-from_sorted name_cmp (map_each entry_of list) order

-- each name is one entry
pub entries_once : (rows : List Row) → NamesOnce rows → map.len (keyed_map rows) ≡ length rows
entries_once [] names = map.len-empty name_cmp Bool
entries_once (row ∷ rows) names =
    map.len-insert name_cmp-total (map.from_entries (map_each entry_of rows)) row.name (is_directory_kind row.kind)
    ∙ ap (λ o. cond (is_some o) (map.len (keyed_map rows)) (map.len (keyed_map rows) + 1)) none
    ∙ ap (λ n. n + 1) (entries_once rows names.1)
    ∙ omega arith
  where
    none : map.get (keyed_map rows) row.name ≡ None
    none =
        map.get-from_entries name_cmp-total (map_each entry_of rows) row.name ∙ weighed row.name rows (once rows names.1)
        ∙ ap by_weight (light row.name rows (unnamed row.name rows names.0))
