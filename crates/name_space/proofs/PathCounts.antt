-- How many paths lead to a number where there is one path more, or one less.
use Rattle.std.proofs.Common.{◌≡◌, ◌∙◌, ℕ, ◌+◌, ◌≤◌, ◌==◌, true, false, cond, count_by, List, [], ◌∷◌, Some, None, refl, sym, ap, arith, true≢false}
use Rattle.std.proofs.lemmas.Bool.{eq-eqb}
use Rattle.std.proofs.lemmas.List.Sums.{sum_by-cons}
use Rattle.std.specs.declared.cmp.Ordering.TheVariants.{Less, Equal, Greater}
use Rattle.std.specs.Ordering.{eq_by_cmp, is_eq}
use Rattle.std.specs.Cmp.{Equal-is, tied_itself}
use Rattle.std.specs.FinMap as map
use Rattle.std.specs.FinMap.Entries.{by_order, find, put}
use Rattle.plain_program.specs.fileset_model.Apply.{is_named_elsewhere}
use Rattle.plain_program.specs.fileset_model.Fileset.{Fileset}
use Rattle.plain_program.specs.fileset_values.Orders.{Path, path_cmp, path_cmp-total, path_cmp-IsAntisymmetric}
use Rattle.plain_program.specs.fileset_model.Paths.{paths_to}
use Rattle.plain_program.proofs.OfFilesetValues.MapLemmas.{get-remove_other, got-remove}
use Rattle.plain_program.proofs.OfLegalHistories.ValidCountLemmas.{another_path, named_by, no_paths}
use Rattle.plain_program.proofs.OfLegalHistories.ValidLemmas.{some_inj}

abbrev pub count_of : ℕ → List (Path × ℕ) → ℕ
count_of k es = count_by (λ e. e.1 == k) es

first_of : (k : ℕ) (e : Path × ℕ) (es : List (Path × ℕ)) → count_of k (e ∷ es) ≡ cond (e.1 == k) 1 0 + count_of k es
first_of k e es = sum_by-cons (λ (e : Path × ℕ). cond (e.1 == k) 1 0) e es

put_counted : (k : ℕ) (path : Path) (v : ℕ) (es : List (Path × ℕ)) → find path_cmp path es ≡ None → count_of k (put path_cmp path v es) ≡ cond (v == k) 1 0 + count_of k es
put_counted k path v [] none = first_of k (path, v) []
put_counted k path v (e ∷ es) none =
    let rest = put_counted k path v es in
    elim (path_cmp path e.0) as (λ o. cond (is_eq o) (Some e.1) (find path_cmp path es) ≡ None → count_of k (by_order o ((path, v) ∷ e ∷ es) ((e.0, v) ∷ es) (e ∷ put path_cmp path v es)) ≡ cond (v == k) 1 0 + count_of k (e ∷ es)) [
      | Less ↦ λ is. first_of k (path, v) (e ∷ es)
      | Equal ↦ λ is. absurd cc
      | Greater ↦ λ is. omega (arith, first_of k e (put path_cmp path v es), first_of k e es, rest is)
    ] none

-- a new path is one more for the number that it leads to
pub count-new : (m : map.FinMap path_cmp ℕ) (path : Path) (v k : ℕ) → map.get m path ≡ None → count_of k (map.entries (map.insert m path v)) ≡ cond (v == k) 1 0 + count_of k (map.entries m)
count-new m path v k none =
    ap (count_of k) (map.entries-insert path_cmp-total m path v) ∙ put_counted k path v (map.entries m) (sym (map.get-entries m path) ∙ none)

found_counted : (k : ℕ) (q : Path) (es : List (Path × ℕ)) → find path_cmp q es ≡ Some k → 1 ≤ count_of k es
found_counted k q [] is = absurd cc
found_counted k q (e ∷ es) is =
    elim (eq_by_cmp path_cmp q e.0) as (λ b. cond b (Some e.1) (find path_cmp q es) ≡ Some k → 1 ≤ count_of k (e ∷ es)) [
      | true ↦ λ here.
          let one : count_of k (e ∷ es) ≡ 1 + count_of k es = first_of k e es ∙ ap (λ b. cond b 1 0 + count_of k es) (eq-eqb e.1 k (some_inj here)) in
          omega (arith, one)
      | false ↦ λ later. omega (arith, first_of k e es, found_counted k q es later)
    ] is

-- a path that goes is one less
pub count-gone : (m : map.FinMap path_cmp ℕ) (path : Path) (v k : ℕ) → map.get m path ≡ Some v → count_of k (map.entries m) ≡ cond (v == k) 1 0 + count_of k (map.entries (map.remove m path))
count-gone m path v k there =
    let less = map.remove m path in
    let none : map.get less path ≡ None = map.get-remove path_cmp-total m path path ∙ ap (λ r. cond (is_eq r) None (map.get m path)) (tied_itself path_cmp-total path) in
    let back : m ≡ map.insert less path v = map.same_map path_cmp-total path_cmp-IsAntisymmetric m (map.insert less path v) (λ q.
    sym (map.get-insert path_cmp-total less path v q ∙ ap (cond (eq_by_cmp path_cmp q path) (Some v)) (map.get-remove path_cmp-total m path q) ∙ by_key q)) in
    ap (λ (n : map.FinMap path_cmp ℕ). count_of k (map.entries n)) back ∙ count-new less path v k none
  where
    by_key : (q : Path) → cond (eq_by_cmp path_cmp q path) (Some v) (cond (eq_by_cmp path_cmp q path) None (map.get m q)) ≡ map.get m q
    by_key q = elim (eq_by_cmp path_cmp q path) as (λ b. eq_by_cmp path_cmp q path ≡ b → cond b (Some v) (cond b None (map.get m q)) ≡ map.get m q) [
      | true ↦ λ same. sym (ap (map.get m) (path_cmp-IsAntisymmetric q path ((Equal-is (path_cmp q path)).0 same)) ∙ there)
      | false ↦ λ other. refl
    ] refl

module _ (tree : Fileset) (path : Path) (number : ℕ) (there : map.get tree.paths path ≡ Some number) where
  one_less : paths_to tree number ≡ 1 + count_of number (map.entries (map.remove tree.paths path))
  one_less =
      count-gone tree.paths path number number there
      ∙ ap (λ b. cond b 1 0 + count_of number (map.entries (map.remove tree.paths path))) (eq-eqb number number refl)

  -- the only path of a number
  pub alone : paths_to tree number ≡ 1 → is_named_elsewhere tree path number ≡ false
  alone single = elim (is_named_elsewhere tree path number) as (λ b. is_named_elsewhere tree path number ≡ b → b ≡ false) [
    | true ↦ λ is.
        let other = named_by tree path number is in
        let left = found_counted number other.0 (map.entries (map.remove tree.paths path))
        (sym (map.get-entries (map.remove tree.paths path) other.0) ∙ get-remove_other path_cmp-total path_cmp-IsAntisymmetric tree.paths path other.0 other.1 ∙ other.2) in
        absurd (omega (arith, one_less, single, left))
    | false ↦ λ is. refl
  ] refl

  -- one of several
  pub among : 2 ≤ paths_to tree number → is_named_elsewhere tree path number ≡ true
  among several = elim (is_named_elsewhere tree path number) as (λ b. is_named_elsewhere tree path number ≡ b → b ≡ true) [
    | true ↦ λ is. refl
    | false ↦ λ is.
        let none = no_paths (map.remove tree.paths path) number (λ q at.
        let was = got-remove path_cmp-total path_cmp-IsAntisymmetric tree.paths path q number at in
        true≢false (sym (another_path tree path number q was.1 was.0) ∙ is)) in
        absurd (omega (arith, one_less, several, none))
  ] refl
