-- The pages of open volumes that are held are no more than the homes of a list that has them all.
use Rattle.std.proofs.Common.{◌≡◌, ◌∙◌, ℕ, zero, suc, ◌+◌, ◌-◌, ◌≤◌, Bool, true, false, not, cond, nat_eq, List, [], ◌∷◌, ◌++◌, length, filter, map as map_each, Contains, Option, Some, None, slice_get, slice_index_or, refl, sym, ap, subst, arith, ⊎_elim, eqb-true, eq-eqb}
use Rattle.std.proofs.lemmas.Bool.{and_parts, cases_Bool, or_cases, true≢false}
use Rattle.std.proofs.lemmas.List.{length-append, length-map}
use Rattle.std.proofs.lemmas.List.Elements.{Contains-append_left, Contains-append_right}
use Rattle.std.proofs.lemmas.List.Filters.{length-filter_both}
use Rattle.std.proofs.lemmas.List.Sums.{sum_by-cons}
use Rattle.std.proofs.lemmas.Option.{get_or_from_slice_get}
use Rattle.std.specs.Cmp.{nat_cmp_total, tied_itself}
use Rattle.std.specs.FinMap.{nat_cmp-IsAntisymmetric}
use Rattle.std.specs.FinSet.{FinSet, contains, contains-empty, contains-remove, empty, len, len-empty, len-remove, remove, same_set}
use Rattle.std.specs.List.{list_any, sum_by}
use Rattle.std.specs.Ordering.{eq_by_cmp, is_eq, nat_cmp}
use Rattle.no_faults.specs.domain_base.declared.place.Home.{Home}
use Rattle.no_faults.specs.domain_memory.Held.{held_if_open, held_open}
use Rattle.no_faults.specs.free_space.Spaces.{Spaces, held_pages, volume_of}
use Rattle.no_faults.specs.free_space.VolumeSpace.{VolumeSpace, is_waiting}

-- ---- lists

in_none : {X P : Type 0} (x : X) → Contains [] x → P
in_none x (k, within, is) = absurd (omega (arith, within))

tail_of : {X : Type 0} (y : X) (ys : List X) (x : X) → ¬ x ≡ y → Contains (y ∷ ys) x → Contains ys x
tail_of y ys x other (zero, within, is) = absurd (other (sym is))
tail_of y ys x other (suc k, within, is) = (k, omega (arith, within), is)

map_among : {X Y : Type 0} (f : X → Y) (xs : List X) (x : X) → Contains xs x → Contains (map_each f xs) (f x)
map_among f [] x among = in_none x among
map_among f (y ∷ ys) x (zero, within, is) = (0, omega arith, ap f is)
map_among f (y ∷ ys) x (suc k, within, is) = Contains-append_right (f y ∷ []) (map_each f ys) (f x) (map_among f ys x (k, omega (arith, within), is))

kept_among : {X : Type 0} (p : X → Bool) (xs : List X) (x : X) → Contains xs x → p x ≡ true → Contains (filter p xs) x
kept_among p [] x among passes = in_none x among
kept_among p (y ∷ ys) x (zero, within, is) passes =
    subst (λ b. Contains (cond b (y ∷ filter p ys) (filter p ys)) x) (sym (ap p is ∙ passes)) (0, omega arith, is)
kept_among p (y ∷ ys) x (suc k, within, is) passes = by_test (p y) (kept_among p ys x (k, omega (arith, within), is) passes)
  where
    by_test : (b : Bool) → Contains (filter p ys) x → Contains (cond b (y ∷ filter p ys) (filter p ys)) x
    by_test true rest = Contains-append_right (y ∷ []) (filter p ys) x rest
    by_test false rest = rest

-- ---- a set is no larger than a list that has all of it

not_true : (b : Bool) → ¬ b ≡ true → b ≡ false
not_true true none = absurd (none refl)
not_true false none = refl

none_in : (s : FinSet nat_cmp) → ((q : ℕ) → ¬ contains s q ≡ true) → len s ≡ 0
none_in s none =
    ap len (same_set nat_cmp_total nat_cmp-IsAntisymmetric s empty (λ q. not_true (contains s q) (none q) ∙ sym (contains-empty nat_cmp q))) ∙ len-empty nat_cmp

one_less : (b : Bool) (most less : ℕ) → less ≡ cond b (most - 1) most → most ≤ less + 1
one_less true most less is = omega (arith, is)
one_less false most less is = omega (arith, is)

-- what is in a set without a number is another, and in the set
record IsOther (s : FinSet nat_cmp) (n q : ℕ) : Type 0 where
  other : ¬ q ≡ n
  there : contains s q ≡ true

other_of : (s : FinSet nat_cmp) (n q : ℕ) → contains (remove s n) q ≡ true → IsOther s n q
other_of s n q is =
    let both = and_parts (not (eq_by_cmp nat_cmp q n)) (contains s q) (sym (contains-remove nat_cmp_total s n q) ∙ is) in
    record {
      other = λ same. let tie : eq_by_cmp nat_cmp q n ≡ true = ap is_eq (ap (nat_cmp q) (sym same) ∙ tied_itself nat_cmp_total q) in true≢false (sym both.0 ∙ ap not tie);
      there = both.1;
    }

pub len_covered : (ns : List ℕ) (s : FinSet nat_cmp) → ((q : ℕ) → contains s q ≡ true → Contains ns q) → len s ≤ length ns
len_covered [] s each = let none = none_in s (λ q is. in_none q (each q is)) in omega (arith, none)
len_covered (n ∷ ns) s each =
    let rest = len_covered ns (remove s n) (λ q is. let o = other_of s n q is in tail_of n ns q o.other (each q o.there)) in
    let less = one_less (contains s n) (len s) (len (remove s n)) (len-remove nat_cmp_total s n) in
    omega (arith, rest, less)

-- ---- one volume

passing_among : {X : Type 0} (f : X → ℕ) (xs : List X) (n : ℕ) → list_any (λ x. nat_eq n (f x)) xs ≡ true → Contains (map_each f xs) n
passing_among f [] n is = absurd (true≢false (sym is))
passing_among f (x ∷ xs) n is =
    ⊎_elim (λ here. (0, omega arith, sym (eqb-true n (f x) here)))
    (λ later. Contains-append_right (f x ∷ []) (map_each f xs) n (passing_among f xs n later))
    (or_cases (nat_eq n (f x)) (list_any (λ y. nat_eq n (f y)) xs) is)

held_few : (v : VolumeSpace) (ns : List ℕ) → ((p : ℕ) → contains v.used p ≡ true → is_waiting v p ≡ false → Contains ns p) → held_pages (Some v) ≤ length ns
held_few v ns each =
    let waiting : List ℕ = map_each (λ w. w.page) v.waiting in
    let all : len v.used ≤ length (waiting ++ ns) = len_covered (waiting ++ ns) v.used (λ p used.
    ⊎_elim (λ waits. Contains-append_left waiting ns p (passing_among (λ w. w.page) v.waiting p waits))
    (λ settled. Contains-append_right waiting ns p (each p used settled)) (cases_Bool (is_waiting v p))) in
    let many : length waiting ≡ length v.waiting = length-map v.waiting (λ w. w.page) in
    omega (arith, all, length-append waiting ns, many)

-- ---- all of them

-- the list has each page that is held on a volume, if that is open
abbrev pub HasHeldOn : List Home → ℕ → Option VolumeSpace → Type 0
HasHeldOn homes vol None = Unit {0}
HasHeldOn homes vol (Some v) = v.is_open ≡ true → (page : ℕ) → contains v.used page ≡ true → is_waiting v page ≡ false → Contains homes (record { vol = vol; page = page })

abbrev on_volume : ℕ → Home → Bool
on_volume vol home = nat_eq home.vol vol

abbrev elsewhere : ℕ → Home → Bool
elsewhere vol home = not (nat_eq home.vol vol)

one_volume : (homes : List Home) (vol : ℕ) (o : Option VolumeSpace) → HasHeldOn homes vol o → held_if_open o ≤ length (filter (on_volume vol) homes)
one_volume homes vol None has = omega arith
one_volume homes vol (Some v) has = by_open v.is_open refl
  where
    there : v.is_open ≡ true → held_pages (Some v) ≤ length (filter (on_volume vol) homes)
    there opened =
        let here : List Home = filter (on_volume vol) homes in
        let few = held_few v (map_each (λ (h : Home). h.page) here) (λ page used settled.
        map_among (λ (h : Home). h.page) here (record { vol = vol; page = page })
        (kept_among (on_volume vol) homes (record { vol = vol; page = page }) (has opened page used settled) (eq-eqb vol vol refl))) in
        omega (arith, few, length-map here (λ (h : Home). h.page))

    by_open : (b : Bool) → v.is_open ≡ b → cond b (held_pages (Some v)) 0 ≤ length (filter (on_volume vol) homes)
    by_open true opened = there opened
    by_open false closed = omega arith

other_volume : (homes : List Home) (vol k : ℕ) (o : Option VolumeSpace) → HasHeldOn homes (vol + suc k) o → HasHeldOn (filter (elsewhere vol) homes) (vol + 1 + k) o
other_volume homes vol k None has = tt
other_volume homes vol k (Some v) has = λ opened page used settled.
    let number : vol + suc k ≡ vol + 1 + k = omega arith in
    let apart : nat_eq (vol + 1 + k) vol ≡ false = not_true (nat_eq (vol + 1 + k) vol) (λ same. let e = eqb-true (vol + 1 + k) vol same in omega (arith, e)) in
    kept_among (elsewhere vol) homes (record { vol = vol + 1 + k; page = page })
    (subst (λ n. Contains homes (record { vol = n; page = page })) number (has opened page used settled)) (ap not apart)

all_volumes : (volumes : List (Option VolumeSpace)) (vol : ℕ) (homes : List Home) → ((k : ℕ) (o : Option VolumeSpace) → slice_get volumes k ≡ Some o → HasHeldOn homes (vol + k) o) → sum_by held_if_open volumes ≤ length homes
all_volumes [] vol homes each = omega arith
all_volumes (o ∷ rest) vol homes each =
    let number : vol + 0 ≡ vol = omega arith in
    let here = one_volume homes vol o (subst (λ n. HasHeldOn homes n o) number (each 0 o refl)) in
    let later = all_volumes rest (vol + 1) (filter (elsewhere vol) homes) (λ k x at. other_volume homes vol k x (each (suc k) x at)) in
    let both = length-filter_both (on_volume vol) (elsewhere vol) (λ home. refl) homes in
    omega (arith, here, later, both, sum_by-cons held_if_open o rest)

-- if a list has each page that is held on an open volume, it is as long
pub held_within : (space : Spaces) (homes : List Home) → ((vol : ℕ) → 1 ≤ vol → HasHeldOn homes vol (volume_of space vol)) → held_open space ≤ length homes
held_within space homes each = all_volumes space.volumes 1 homes (λ k o at.
    let place : 1 + k - 1 ≡ k = omega arith in
    subst (HasHeldOn homes (1 + k)) (ap (λ n. slice_index_or space.volumes n None) place ∙ get_or_from_slice_get space.volumes k o None at) (each (1 + k) (omega arith)))
