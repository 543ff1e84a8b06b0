-- Lists of free cells in which no cell stands twice.
use Rattle.std.proofs.Common.{◌≡◌, ◌∙◌, ◌⊎◌, inl, inr, ⊎_elim, ℕ, suc, ◌+◌, ◌<◌, ◌≤◌, Bool, true, false, not, cond, ◌&&◌, ◌||◌, nat_eq, nat_lt, Option, Some, None, IfSome, List, [], ◌∷◌, ◌++◌, length, filter, append_assoc, refl, sym, ap, subst, arith}
use Rattle.std.proofs.lemmas.Bool.{both_ways, and_from, and_parts, or_left, or_right, or_cases, eq-eqb, eqb-true, true≢false, cases_Bool, lt-ltb, ltb-true, ne_eqb}
use Rattle.std.proofs.lemmas.List.{append-nil}
use Rattle.std.proofs.lemmas.List.Folds.{list_any-append}
use Rattle.std.proofs.lemmas.Map.Keys.{IsDistinct-push, IsDistinct-head, IsDistinct-tail}
use Rattle.std.specs.Option.{option_to_list}
use Rattle.std.specs.Cmp.{IsEquivalence}
use Rattle.std.specs.List.{AllByRecursion, IsDistinct}
use Rattle.metadata_cells.specs.CellPage.{is_free_in}
use Rattle.free_cells.specs.declared.volume.FreeCell.{FreeCell}
use Rattle.free_cells.specs.VolumeTable.{same_cell, is_among}

eq_flips : (a b : ℕ) → nat_eq a b ≡ nat_eq b a
eq_flips a b = ⊎_elim
    (λ same. same ∙ sym (eq-eqb b a (sym (eqb-true a b same))))
    (λ apart. apart ∙ sym (ne_eqb b a (λ same. both_ways (nat_eq a b) apart (eq-eqb a b (sym same))))) (cases_Bool (nat_eq a b))

pub cell_itself : (f : FreeCell) → same_cell f f ≡ true
cell_itself f = and_from (nat_eq f.page f.page) (nat_eq f.cell f.cell) (eq-eqb f.page f.page refl) (eq-eqb f.cell f.cell refl)

pub cells_same : (f g : FreeCell) → same_cell f g ≡ true → f ≡ g
cells_same f g same =
    let both = and_parts (nat_eq f.page g.page) (nat_eq f.cell g.cell) same in
    (λ i. record { page = eqb-true f.page g.page both.0 i; cell = eqb-true f.cell g.cell both.1 i })

pub cells_flip : (f g : FreeCell) → same_cell f g ≡ same_cell g f
cells_flip f g = (λ i. eq_flips f.page g.page i && eq_flips f.cell g.cell i)

pub same_cell_laws : IsEquivalence same_cell
same_cell_laws = record {
  refl = cell_itself;
  symm = cells_flip;
  congr = λ f g h same. ap (λ x. same_cell x h) (cells_same f g same);
}

pub among_push : (free : List FreeCell) (g f : FreeCell) → is_among (free ++ g ∷ []) f ≡ (is_among free f || same_cell f g)
among_push free g f = list_any-append (same_cell f) free (g ∷ []) ∙ ap (λ b. is_among free f || b) (or_none (same_cell f g))
  where
    or_none : (b : Bool) → (b || false) ≡ b
    or_none true = refl
    or_none false = refl

pub none_apart : IsDistinct same_cell []
unfolding IsDistinct
none_apart = tt

pub apart_push : (free : List FreeCell) (g : FreeCell) → IsDistinct same_cell free → is_among free g ≡ false → IsDistinct same_cell (free ++ g ∷ [])
apart_push free g apart missing = IsDistinct-push same_cell_laws free g apart missing

-- ---- one more cell of a page is looked at

below_more : (c k : ℕ) → nat_lt c (k + 1) ≡ (nat_lt c k || nat_eq c k)
below_more c k = by_order (nat_lt c k) refl (nat_eq c k) refl
  where
    by_order : (l : Bool) → nat_lt c k ≡ l → (e : Bool) → nat_eq c k ≡ e → nat_lt c (k + 1) ≡ (l || e)
    by_order true less e same = lt-ltb c (k + 1) (omega (arith, ltb-true c k less))
    by_order false more true same = lt-ltb c (k + 1) (omega (arith, eqb-true c k same))
    by_order false more false other = ⊎_elim
        (λ is. absurd (both_ways (nat_lt c k) more (lt-ltb c k (less_or (ltb-true c (k + 1) is) (λ e. both_ways (nat_eq c k) other (eq-eqb c k e))))))
        (λ is. is) (cases_Bool (nat_lt c (k + 1)))
      where
        less_or : c < k + 1 → ¬ c ≡ k → c < k
        less_or le ne = omega (arith, le, ne)

yes_step : (a b l e is : Bool) → (e ≡ true → is ≡ true) → ((a || (b && (l && is))) || (b && e)) ≡ (a || (b && ((l || e) && is)))
yes_step true b l e is holds = refl
yes_step false false l e is holds = refl
yes_step false true true true is holds = rw (holds refl) refl
yes_step false true true false true holds = refl
yes_step false true true false false holds = refl
yes_step false true false true is holds = rw (holds refl) refl
yes_step false true false false is holds = refl

no_step : (a b l e is : Bool) → (e ≡ true → is ≡ false) → (a || (b && (l && is))) ≡ (a || (b && ((l || e) && is)))
no_step a b true e is fails = refl
no_step a b false true is fails = rw (fails refl) refl
no_step a b false false is fails = refl

-- a free cell of the page whose number is below k
abbrev pub is_free_below : ℕ → ℕ → List ℕ → FreeCell → Bool
is_free_below k number page f = nat_eq f.page number && (nat_lt f.cell k && is_free_in page f.cell)

module _ (number k : ℕ) (page : List ℕ) (old : FreeCell → Bool) where
  abbrev Joined : ℕ → (FreeCell → Bool) → Type 0
  Joined k free = (f : FreeCell) → free f ≡ (old f || is_free_below k number page f)

  pub joined_more : (free : List FreeCell) → Joined k (is_among free) → is_free_in page k ≡ true → Joined (k + 1) (is_among (free ++ (record { page = number; cell = k }) ∷ []))
  joined_more free joined is f =
      among_push free (record { page = number; cell = k }) f ∙ ap (λ b. b || same_cell f (record { page = number; cell = k })) (joined f)
      ∙ yes_step (old f) (nat_eq f.page number) (nat_lt f.cell k) (nat_eq f.cell k) (is_free_in page f.cell) (λ same. ap (is_free_in page) (eqb-true f.cell k same) ∙ is)
      ∙ ap (λ b. old f || (nat_eq f.page number && (b && is_free_in page f.cell))) (sym (below_more f.cell k))

  pub joined_same : (free : List FreeCell) → Joined k (is_among free) → is_free_in page k ≡ false → Joined (k + 1) (is_among free)
  joined_same free joined is f =
      joined f
      ∙ no_step (old f) (nat_eq f.page number) (nat_lt f.cell k) (nat_eq f.cell k) (is_free_in page f.cell) (λ same. ap (is_free_in page) (eqb-true f.cell k same) ∙ is)
      ∙ ap (λ b. old f || (nat_eq f.page number && (b && is_free_in page f.cell))) (sym (below_more f.cell k))

  -- the cell that is looked at is not among the free ones yet
  pub not_yet : (free : List FreeCell) → Joined k (is_among free) → ((f : FreeCell) → f.page ≡ number → old f ≡ false) → is_among free (record { page = number; cell = k }) ≡ false
  not_yet free joined fresh =
      joined (record { page = number; cell = k })
      ∙ (λ i. fresh (record { page = number; cell = k }) refl i || (nat_eq number number && (not_below i && is_free_in page k)))
      ∙ none (nat_eq number number)
    where
      not_below : nat_lt k k ≡ false
      not_below = ⊎_elim (λ is. absurd (irrefl (ltb-true k k is))) (λ is. is) (cases_Bool (nat_lt k k))
        where
          irrefl : k < k → ⊥
          irrefl less = omega (arith, less)

      none : (b : Bool) → (false || (b && (false && is_free_in page k))) ≡ false
      none true = refl
      none false = refl

pub joined_none : (number : ℕ) (page : List ℕ) (old : FreeCell → Bool) (f : FreeCell) → old f ≡ (old f || is_free_below 0 number page f)
joined_none number page old f = either (old f) (nat_eq f.page number) (nat_lt f.cell 0) (⊎_elim (λ is. absurd (none_below (ltb-true f.cell 0 is))) (λ is. is) (cases_Bool (nat_lt f.cell 0)))
  where
    none_below : {c : ℕ} → c < 0 → ⊥
    none_below less = omega (arith, less)

    either : (a b l : Bool) → l ≡ false → a ≡ (a || (b && (l && is_free_in page f.cell)))
    either true b l none = refl
    either false true l none = rw none refl
    either false false l none = refl

-- ---- a list without repeats, whose members all lie in another list, is not longer

module _ (x : FreeCell) where
  abbrev others : List FreeCell → List FreeCell
  others ys = filter (λ y. not (same_cell x y)) ys

  at_most : (ys : List FreeCell) → length (others ys) ≤ length ys
  at_most [] = omega arith
  at_most (y ∷ ys) = step (not (same_cell x y)) (at_most ys)
    where
      step : (b : Bool) → length (others ys) ≤ length ys → length (cond b (y ∷ others ys) (others ys)) ≤ suc (length ys)
      step true le = omega (arith, le)
      step false le = omega (arith, le)

  fewer : (ys : List FreeCell) → is_among ys x ≡ true → length (others ys) < length ys
  fewer [] there = absurd (true≢false (sym there))
  fewer (y ∷ ys) there = by_test (same_cell x y) refl (λ later. fewer ys later)
    where
      by_test : (b : Bool) → same_cell x y ≡ b → (is_among ys x ≡ true → length (others ys) < length ys) → length (others (y ∷ ys)) < length (y ∷ ys)
      by_test true is more = rw is (omega (arith, at_most ys))
      by_test false is more = rw is (omega (arith, more (ap (λ b. b || is_among ys x) (sym is) ∙ there)))

  still : (f : FreeCell) (ys : List FreeCell) → same_cell f x ≡ false → is_among ys f ≡ true → is_among (others ys) f ≡ true
  still f [] other there = there
  still f (y ∷ ys) other there = by_test (same_cell x y) refl (or_cases (same_cell f y) (is_among ys f) there) (λ later. still f ys other later)
    where
      by_test : (b : Bool) → same_cell x y ≡ b → (same_cell f y ≡ true) ⊎ (is_among ys f ≡ true) → (is_among ys f ≡ true → is_among (others ys) f ≡ true) → is_among (others (y ∷ ys)) f ≡ true
      by_test true is (inl here) more = absurd (both_ways (same_cell f x) other (cells_flip f x ∙ ap (same_cell x) (cells_same f y here) ∙ is))
      by_test true is (inr later) more = rw is (more later)
      by_test false is (inl here) more = rw is (or_left (same_cell f y) (is_among (others ys) f) here)
      by_test false is (inr later) more = rw is (or_right (same_cell f y) (is_among (others ys) f) (more later))

not_head : (x : FreeCell) (xs : List FreeCell) → AllByRecursion (λ y. same_cell x y ≡ false) xs → is_among xs x ≡ false
not_head x [] all = refl
not_head x (y ∷ xs) all = (λ i. all.0 i || not_head x xs all.1 i)

pub no_longer : (xs ys : List FreeCell) → IsDistinct same_cell xs → ((f : FreeCell) → is_among xs f ≡ true → is_among ys f ≡ true) → length xs ≤ length ys
no_longer [] ys apart inside = omega arith
no_longer (x ∷ xs) ys apart inside =
    let missing = not_head x xs (IsDistinct-head same_cell x xs apart) in
    let rest = no_longer xs (others x ys) (IsDistinct-tail same_cell x xs apart)
    (λ f there. still x f ys
    (⊎_elim (λ same. absurd (both_ways (is_among xs x) missing (ap (is_among xs) (sym (cells_same f x same)) ∙ there))) (λ is. is) (cases_Bool (same_cell f x)))
    (inside f (or_right (same_cell f x) (is_among xs f) there))) in
    omega (arith, rest, fewer x ys (inside x (or_left (same_cell x x) (is_among xs x) (cell_itself x))))

-- ---- the last cell is taken off

all_parts : (P : FreeCell → Type 0) (xs : List FreeCell) (y : FreeCell) → AllByRecursion P (xs ++ y ∷ []) → AllByRecursion P xs × P y
all_parts P [] y all = (tt, all.0)
all_parts P (x ∷ xs) y all = let rest = all_parts P xs y all.1 in ((all.0, rest.0), rest.1)

front_apart : (xs : List FreeCell) (y : FreeCell) → IsDistinct same_cell (xs ++ y ∷ []) → IsDistinct same_cell xs × (is_among xs y ≡ false)
unfolding IsDistinct
front_apart [] y apart = (tt, refl)
front_apart (x ∷ xs) y apart =
    let head = all_parts (λ z. same_cell x z ≡ false) xs y apart.0 in
    let rest = front_apart xs y apart.1 in
    ((head.0, rest.0), (λ i. (cells_flip y x ∙ head.1) i || rest.1 i))

pub popped_apart : (old new : List FreeCell) (r : Option FreeCell) → old ≡ new ++ option_to_list r → IsDistinct same_cell old → IsDistinct same_cell new
popped_apart old new None is apart = subst (IsDistinct same_cell) (is ∙ append-nil new) apart
popped_apart old new (Some f) is apart = (front_apart new f (subst (IsDistinct same_cell) is apart)).0

pub popped_cells : (old new : List FreeCell) (r : Option FreeCell) → old ≡ new ++ option_to_list r → IsDistinct same_cell old
    → IfSome r (λ f. (is_among old f ≡ true) × ((g : FreeCell) → is_among new g ≡ (not (same_cell f g) && is_among old g)))
popped_cells old new None is apart = tt
popped_cells old new (Some f) is apart =
    let all : (g : FreeCell) → is_among old g ≡ (is_among new g || same_cell g f) = λ g. ap (λ fs. is_among fs g) is ∙ among_push new f g in
    let gone : is_among new f ≡ false = (front_apart new f (subst (IsDistinct same_cell) is apart)).1 in (
      all f ∙ or_right (is_among new f) (same_cell f f) (cell_itself f),
      (λ g. ap (λ b. b) (left g (same_cell f g) refl gone) ∙ sym (ap (λ b. not (same_cell f g) && b) (all g))),
    )
  where
    keep : (b : Bool) → b ≡ (b || false)
    keep true = refl
    keep false = refl

    left : (g : FreeCell) (b : Bool) → same_cell f g ≡ b → is_among new f ≡ false → is_among new g ≡ (not (same_cell f g) && (is_among new g || same_cell g f))
    left g true same gone = ap (is_among new) (sym (cells_same f g same)) ∙ gone ∙ sym (ap (λ b. not b && (is_among new g || same_cell g f)) same)
    left g false other gone = rw other (rw (cells_flip g f ∙ other) (keep (is_among new g)))

-- ---- a list is another one with one cell more at its end

pub less_apart : (old new : List FreeCell) (f : FreeCell) → old ≡ new ++ f ∷ [] → IsDistinct same_cell old → IsDistinct same_cell new
less_apart old new f is apart = popped_apart old new (Some f) is apart

pub less_cells : (old new : List FreeCell) (f : FreeCell) → old ≡ new ++ f ∷ [] → IsDistinct same_cell old
    → (is_among old f ≡ true) × ((g : FreeCell) → is_among new g ≡ (not (same_cell f g) && is_among old g))
less_cells old new f is apart = popped_cells old new (Some f) is apart

-- ---- two lists one after the other

pub among_both : (xs ys : List FreeCell) (f : FreeCell) → is_among (xs ++ ys) f ≡ (is_among xs f || is_among ys f)
among_both xs ys f = list_any-append (same_cell f) xs ys

-- no cell of the second list is in the first
abbrev pub AreApart : List FreeCell → List FreeCell → Type 0
AreApart xs ys = (f : FreeCell) → is_among ys f ≡ true → is_among xs f ≡ false

pub rest_apart : (xs ys : List FreeCell) → IsDistinct same_cell (xs ++ ys) → IsDistinct same_cell ys × AreApart xs ys
rest_apart [] ys apart = (apart, λ f there. refl)
rest_apart (x ∷ xs) ys apart =
    let rest = rest_apart xs ys (IsDistinct-tail same_cell x (xs ++ ys) apart) in
    let missing = not_head x (xs ++ ys) (IsDistinct-head same_cell x (xs ++ ys) apart) in (
      rest.0,
      (λ f there. or_from_none (same_cell f x) (is_among xs f)
          (⊎_elim (λ same. absurd (both_ways (is_among (xs ++ ys) x) missing (among_both xs ys x ∙ or_right (is_among xs x) (is_among ys x) (ap (is_among ys) (sym (cells_same f x same)) ∙ there)))) (λ other. other)
          (cases_Bool (same_cell f x))) (rest.1 f there)),
    )
  where
    or_from_none : (a b : Bool) → a ≡ false → b ≡ false → (a || b) ≡ false
    or_from_none a b first second = (λ i. first i || second i)

pub front_of_apart : (xs ys : List FreeCell) → IsDistinct same_cell (xs ++ ys) → IsDistinct same_cell xs
front_of_apart xs [] apart = subst (IsDistinct same_cell) (append-nil xs) apart
front_of_apart xs (y ∷ ys) apart = less_apart (xs ++ y ∷ []) xs y refl (front_of_apart (xs ++ y ∷ []) ys (subst (IsDistinct same_cell) (sym (append_assoc xs (y ∷ []) ys)) apart))

pub both_apart : (xs ys : List FreeCell) → IsDistinct same_cell xs → IsDistinct same_cell ys → AreApart xs ys → IsDistinct same_cell (xs ++ ys)
both_apart xs [] first second apart = subst (IsDistinct same_cell) (sym (append-nil xs)) first
both_apart xs (y ∷ ys) first second apart =
    let missing = apart y (or_left (same_cell y y) (is_among ys y) (cell_itself y)) in
    let not_later = not_head y ys (IsDistinct-head same_cell y ys second) in
    subst (IsDistinct same_cell) (append_assoc xs (y ∷ []) ys)
    (both_apart (xs ++ y ∷ []) ys (apart_push xs y first missing) (IsDistinct-tail same_cell y ys second)
    (λ f there. among_push xs y f ∙ none (is_among xs f) (same_cell f y) (apart f (or_right (same_cell f y) (is_among ys f) there))
    (⊎_elim (λ same. absurd (both_ways (is_among ys y) not_later (ap (is_among ys) (sym (cells_same f y same)) ∙ there))) (λ other. other) (cases_Bool (same_cell f y)))))
  where
    none : (a b : Bool) → a ≡ false → b ≡ false → (a || b) ≡ false
    none a b one other = (λ i. one i || other i)
