-- No rows that say a map are fewer than its runs.
use Rattle.std.proofs.Common.{◌≡◌, ℕ, ◌+◌, ◌-◌, ◌<◌, ◌≤◌, Bool, true, false, ltb, leb, eqb, List, [], ◌∷◌, length, refl, sym, ap, subst, ◌∙◌, inl, inr, arith}
use Rattle.std.proofs.lemmas.Bool.{cases_Bool, le-leb, ltb-true, and_from, eq-eqb, ltb-false, false≢true}
use Rattle.std.proofs.lemmas.List.{length-append}
use Rattle.extent_maps.specs.declared.run.Run.{Run}
use Rattle.extent_maps.specs.declared.run.RunPlace.{RunPlace}
use Rattle.extent_maps.specs.declared.run.RunPlace.TheVariants as place
use Rattle.extent_maps.specs.declared.run.PagePlace.TheVariants.{Absent}
use Rattle.extent_maps.specs.Runs.{AreRuns, SamePlaces, behind, end_of, front_of, goes_on, joined, place_of, placed, rest_from, same_place}
use Rattle.extent_maps.proofs.RunLemmas.{absent_before, all_map, behind_first, covers_not_before, covers_not_behind}
use Rattle.extent_maps.proofs.EditLemmas.{covers_from, joined_places, never_absent, rest_follows, rest_is_run}
use Rattle.extent_records.specs.Writing.{parts, pieces}

-- rows of at most this number of pages, each after the one before it
abbrev pub RisingFrom : ℕ → ℕ → List Run → Type 0
RisingFrom most from [] = Unit {0}
RisingFrom most from (run ∷ runs) = (from ≤ run.page) × (1 ≤ run.count) × (run.count ≤ most) × RisingFrom most (end_of run) runs

pub behind_none : (x : RunPlace) → behind 0 x ≡ x
behind_none (place.At home) = grind arith
behind_none place.Holes = refl

pub placed_is : (x y : RunPlace) → placed x ≡ placed y → x ≡ y
placed_is (place.At a) (place.At b) e = cc
placed_is (place.At a) place.Holes e = absurd cc
placed_is place.Holes (place.At b) e = absurd cc
placed_is place.Holes place.Holes e = refl

pub same_self : (x : RunPlace) → same_place x x ≡ true
same_self (place.At a) = and_from (eqb a.vol a.vol) (eqb a.page a.page) (eq-eqb a.vol a.vol refl) (eq-eqb a.page a.page refl)
same_self place.Holes = refl

-- ** Where the first of some runs has its pages

pub rising_absent : (most from : ℕ) (runs : List Run) (p : ℕ) → RisingFrom most from runs → p < from → place_of runs p ≡ Absent
rising_absent most from [] p h lt = refl
rising_absent most from (r ∷ rs) p h lt =
    let before : p < r.page = omega (arith, h.0, lt) in
    let end : p < end_of r = omega (arith, before) in
    rw (covers_not_before r p before) (rising_absent most (end_of r) rs p h.3 end)

pub place_first : (r : Run) (rs : List Run) (p : ℕ) → r.page ≤ p → p < end_of r → place_of (r ∷ rs) p ≡ placed (behind (p - r.page) r.first)
place_first r rs p le lt = rw (covers_from r p le lt) refl

pub place_start : (r : Run) (rs : List Run) → 1 ≤ r.count → place_of (r ∷ rs) r.page ≡ placed r.first
place_start r rs some =
    let none : r.page - r.page ≡ 0 = omega arith in
    place_first r rs r.page (omega arith) (omega (arith, some)) ∙ ap (λ n. placed (behind n r.first)) none ∙ ap placed (behind_none r.first)

pub place_not_before : (r : Run) (rs : List Run) (p : ℕ) → p < r.page → place_of (r ∷ rs) p ≡ place_of rs p
place_not_before r rs p lt = rw (covers_not_before r p lt) refl

pub place_not_behind : (r : Run) (rs : List Run) (p : ℕ) → end_of r ≤ p → place_of (r ∷ rs) p ≡ place_of rs p
place_not_behind r rs p le = rw (covers_not_behind r p le) refl

pub absent_in_front : (x : Run) (xs : List Run) (p : ℕ) → AreRuns (x ∷ xs) → p < end_of x → place_of xs p ≡ Absent
absent_in_front x xs p h lt = absent_before xs p (all_map {P = λ (r : Run). end_of x ≤ r.page} {Q = λ (r : Run). p < r.page} (λ r le. omega (arith, le, lt)) xs (behind_first x xs h))

-- a run parted in two
pub split_places : (c : ℕ) (run : Run) (runs : List Run) → c ≤ run.count → SamePlaces (front_of c run ∷ rest_from c run ∷ runs) (run ∷ runs)
split_places c run runs le =
    let whole : c + (run.count - c) ≡ run.count = omega (arith, le) in
    let goes : goes_on (front_of c run) (rest_from c run) ≡ true = and_from (eqb (run.page + c) (run.page + c)) (same_place (behind c run.first) (behind c run.first)) (eq-eqb (run.page + c) (run.page + c) refl) (same_self (behind c run.first)) in
    let all : SamePlaces (front_of c run ∷ rest_from c run ∷ runs) (joined (front_of c run) (rest_from c run) ∷ runs) = joined_places (front_of c run) (rest_from c run) runs goes in
    subst (λ n. SamePlaces (front_of c run ∷ rest_from c run ∷ runs) ((record { page = run.page; count = n; first = run.first }) ∷ runs)) whole all

-- ** The first runs of two lists with the same places

same_page : (most from : ℕ) (y x : Run) (ys xs : List Run) → AreRuns (x ∷ xs) → RisingFrom most from (y ∷ ys) → SamePlaces (y ∷ ys) (x ∷ xs) → x.page ≡ y.page
same_page most from y x ys xs h r same = go (ltb x.page y.page) refl (ltb y.page x.page) refl
  where
    go : (a : Bool) → ltb x.page y.page ≡ a → (b : Bool) → ltb y.page x.page ≡ b → x.page ≡ y.page
    go true e b f =
        let lt = ltb-true x.page y.page e in
        let rising : RisingFrom most y.page (y ∷ ys) = (omega arith, r.1, r.2, r.3) in
        absurd (never_absent x.first (sym (place_start x xs h.0.some) ∙ same x.page ∙ rising_absent most y.page (y ∷ ys) x.page rising lt))
    go false e true f =
        let lt = ltb-true y.page x.page f in
        let none : place_of (x ∷ xs) y.page ≡ Absent = place_not_before x xs y.page lt ∙ absent_in_front x xs y.page h (omega (arith, lt)) in
        absurd (never_absent y.first (sym (place_start y ys r.1) ∙ sym (same y.page) ∙ none))
    go false e false f = omega (arith, ltb-false x.page y.page e, ltb-false y.page x.page f)

same_first : (most from : ℕ) (y x : Run) (ys xs : List Run) → AreRuns (x ∷ xs) → RisingFrom most from (y ∷ ys) → SamePlaces (y ∷ ys) (x ∷ xs) → x.first ≡ y.first
same_first most from y x ys xs h r same =
    let page = same_page most from y x ys xs h r same in
    placed_is x.first y.first (sym (place_start x xs h.0.some) ∙ same x.page ∙ ap (place_of (y ∷ ys)) page ∙ place_start y ys r.1)

-- a run does not go on after its end
ends_there : (x : Run) (xs : List Run) → AreRuns (x ∷ xs) → place_of xs (end_of x) ≡ placed (behind x.count x.first) → ⊥
ends_there x [] h e = never_absent (behind x.count x.first) (sym e)
ends_there x (n ∷ ns) h e = go (ltb (end_of x) n.page) refl
  where
    go : (b : Bool) → ltb (end_of x) n.page ≡ b → ⊥
    go true lt =
        let before = ltb-true (end_of x) n.page lt in
        let none : place_of (n ∷ ns) (end_of x) ≡ Absent = place_not_before n ns (end_of x) before ∙ absent_in_front n ns (end_of x) h.2 (omega (arith, before)) in
        never_absent (behind x.count x.first) (sym e ∙ none)
    go false lt =
        let behind_end = h.1.behind in
        let is : end_of x ≡ n.page = omega (arith, behind_end, ltb-false (end_of x) n.page lt) in
        let first : behind x.count x.first ≡ n.first = placed_is (behind x.count x.first) n.first (sym e ∙ ap (place_of (n ∷ ns)) is ∙ place_start n ns h.2.0.some) in
        let goes : goes_on x n ≡ true = and_from (eqb (end_of x) n.page) (same_place (behind x.count x.first) n.first) (eq-eqb (end_of x) n.page is) (ap (same_place (behind x.count x.first)) (sym first) ∙ same_self (behind x.count x.first)) in
        false≢true (sym h.1.apart ∙ goes)

not_longer : (most from : ℕ) (y x : Run) (ys xs : List Run) → AreRuns (x ∷ xs) → RisingFrom most from (y ∷ ys) → SamePlaces (y ∷ ys) (x ∷ xs) → x.count < y.count → ⊥
not_longer most from y x ys xs h r same lt =
    let page = same_page most from y x ys xs h r same in
    let first = same_first most from y x ys xs h r same in
    let off : end_of x - y.page ≡ x.count = omega (arith, page) in
    let there : place_of (y ∷ ys) (end_of x) ≡ placed (behind x.count x.first) = place_first y ys (end_of x) (omega (arith, page)) (omega (arith, page, lt)) ∙ ap (λ n. placed (behind n y.first)) off ∙ ap (λ f. placed (behind x.count f)) (sym first) in
    ends_there x xs h (sym (place_not_behind x xs (end_of x) (omega arith)) ∙ same (end_of x) ∙ there)

same_tails : (most from : ℕ) (y x : Run) (ys xs : List Run) → AreRuns (x ∷ xs) → RisingFrom most from (y ∷ ys) → SamePlaces (y ∷ ys) (x ∷ xs) → x.count ≡ y.count → SamePlaces ys xs
same_tails most from y x ys xs h r same count p = go (ltb p (end_of x)) refl
  where
    end : end_of x ≡ end_of y
    end = let page = same_page most from y x ys xs h r same in omega (arith, page, count)

    go : (b : Bool) → ltb p (end_of x) ≡ b → place_of xs p ≡ place_of ys p
    go true e =
        let lt = ltb-true p (end_of x) e in
        absent_in_front x xs p h lt ∙ sym (rising_absent most (end_of y) ys p r.3 (omega (arith, lt, end)))
    go false e =
        let le : end_of x ≤ p = ltb-false p (end_of x) e in
        sym (place_not_behind x xs p le) ∙ same p ∙ place_not_behind y ys p (omega (arith, le, end))

rest_tails : (most from : ℕ) (y x : Run) (ys xs : List Run) → AreRuns (x ∷ xs) → RisingFrom most from (y ∷ ys) → SamePlaces (y ∷ ys) (x ∷ xs) → y.count < x.count
    → SamePlaces ys (rest_from y.count x ∷ xs)
rest_tails most from y x ys xs h r same less p = go (ltb p (end_of y)) refl
  where
    page : x.page ≡ y.page
    page = same_page most from y x ys xs h r same

    go : (b : Bool) → ltb p (end_of y) ≡ b → place_of (rest_from y.count x ∷ xs) p ≡ place_of ys p
    go true e =
        let lt = ltb-true p (end_of y) e in
        let before : p < x.page + y.count = omega (arith, lt, page) in
        place_not_before (rest_from y.count x) xs p before ∙ absent_in_front x xs p h (omega (arith, before, less)) ∙ sym (rising_absent most (end_of y) ys p r.3 lt)
    go false e =
        let le : end_of y ≤ p = ltb-false p (end_of y) e in
        let front : x.page + y.count ≤ p = omega (arith, le, page) in
        sym (place_not_behind (front_of y.count x) (rest_from y.count x ∷ xs) p front) ∙ sym (split_places y.count x xs (omega (arith, less)) p) ∙ same p ∙ place_not_behind y ys p le

-- ** Numbers of rows

pub pieces_one : (most : ℕ) (run : Run) → run.count ≤ most → pieces most run ≡ run ∷ []
pieces_one most run le = rw (le-leb run.count most le) refl

pub few_pieces : (most : ℕ) (run : Run) → (1 ≤ length (pieces most run)) × (length (pieces most run) ≤ 2)
few_pieces most run = elim (cases_Bool (leb run.count most)) [
  | inl short ↦ rw short (omega arith, omega arith)
  | inr long ↦ rw long (omega arith, omega arith)
]

pub fewest : (most : ℕ) (ys xs : List Run) (from : ℕ) → AreRuns xs → RisingFrom most from ys → SamePlaces ys xs → length (parts most xs) ≤ length ys
fewest most [] [] from h r same = omega arith
fewest most [] (x ∷ xs) from h r same = absurd (never_absent x.first (sym (place_start x xs h.0.some) ∙ same x.page))
fewest most (y ∷ ys) [] from h r same = omega arith
fewest most (y ∷ ys) (x ∷ xs) from h r same = go (ltb x.count y.count) refl (ltb y.count x.count) refl (λ xs2 h2 same2. fewest most ys xs2 (end_of y) h2 r.3 same2)
  where
    go : (a : Bool) → ltb x.count y.count ≡ a → (b : Bool) → ltb y.count x.count ≡ b
        → ((xs2 : List Run) → AreRuns xs2 → SamePlaces ys xs2 → length (parts most xs2) ≤ length ys) → length (parts most (x ∷ xs)) ≤ length (y ∷ ys)
    go true e b f next = absurd (not_longer most from y x ys xs h r same (ltb-true x.count y.count e))
    go false e true f next =
        let less = ltb-true y.count x.count f in
        let rest = rest_from y.count x in
        let runs : AreRuns (rest ∷ xs) = (rest_is_run y.count x h.0 less, rest_follows y.count x xs less h.1, h.2) in
        let tail = next (rest ∷ xs) runs (rest_tails most from y x ys xs h r same less) in
        omega (arith, tail, length-append (pieces most rest) (parts most xs), length-append (pieces most x) (parts most xs), (few_pieces most rest).0, (few_pieces most x).1)
    go false e false f next =
        let count : x.count ≡ y.count = omega (arith, ltb-false x.count y.count e, ltb-false y.count x.count f) in
        let tail = next xs h.2 (same_tails most from y x ys xs h r same count) in
        let short : x.count ≤ most = omega (arith, count, r.2) in
        let one : length (pieces most x) ≡ 1 = ap length (pieces_one most x short) in
        omega (arith, tail, length-append (pieces most x) (parts most xs), one)
