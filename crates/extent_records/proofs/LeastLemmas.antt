-- No records that say a map are fewer than those that are written for it.
use Rattle.std.proofs.Common.{◌≡◌, ℕ, ◌+◌, ◌-◌, ◌*◌, ◌<◌, ◌≤◌, Bool, true, false, cond, ltb, eqb, List, [], ◌∷◌, ◌++◌, length, map, drop, refl, sym, ap, subst, ◌∙◌, ◌⊎◌, inl, inr, arith}
use Rattle.std.specs.List.{flat_map, AllByRecursion}
use Rattle.std.proofs.Math.Nat.{mul-le-mul_left}
use Rattle.std.proofs.lemmas.Grind.{flat_map-append}
use Rattle.std.proofs.lemmas.Bool.{ltb-true, ltb-false, eqb-true, eq-eqb, and_from, false≢true}
use Rattle.std.proofs.lemmas.List.{length-append, length-drop, length-map}
use Rattle.cell_records.specs.domain_base.declared.version.Version.{Version}
use Rattle.cell_records.specs.domain_base.declared.version.Version.TheVariants.{Three, Four}
use Rattle.extent_maps.specs.declared.run.Run.{Run}
use Rattle.extent_maps.specs.declared.run.RunPlace.{RunPlace}
use Rattle.extent_maps.specs.declared.run.RunPlace.TheVariants as place
use Rattle.extent_maps.specs.Runs.{AreRuns, behind, covers, end_of, goes_on, place_of, placed, same_place}
use Rattle.extent_maps.proofs.RunLemmas.{all_map, behind_first}
use Rattle.extent_maps.proofs.EditLemmas.{behind_twice, covers_is, never_absent}
use Rattle.cell_records.specs.declared.record.Record.{Record}
use Rattle.cell_records.specs.Records.{kind_of}
use Rattle.extent_records.specs.Rows.{AreOneMap, IsMapOf, IsPlaced, NoPageTwice, runs_in, runs_of, there, times}
use Rattle.extent_records.specs.Writing.{AllSuit, Suits, chain_kind, hole_kind, is_of_holes, most_rows, short_kind}
use Rattle.extent_records.specs.Listing.{Fills, IsLeastList, IsOfChain, ListsMap, SaysMap, hole_part, holes_in, home_part, homes_in}
use Rattle.extent_records.proofs.ChainLemmas.{there_few}
use Rattle.extent_records.proofs.FewestLemmas.{absent_in_front, place_first, place_not_before, place_not_behind, place_start, placed_is, same_self}
use Rattle.extent_records.proofs.PutLemmas.{all_back, all_front}
use Rattle.extent_records.proofs.RecordLemmas.{allowed_few, rows_suit}

-- ** A rising list is no longer than one that has all its numbers

abbrev Member : ℕ → List ℕ → Type 0
Member x [] = ⊥
Member x (y ∷ ys) = (x ≡ y) ⊎ Member x ys

abbrev Rises : List ℕ → Type 0
Rises [] = Unit {0}
Rises (x ∷ xs) = AllByRecursion (λ (z : ℕ). x < z) xs × Rises xs

abbrev remove : ℕ → List ℕ → List ℕ
remove x [] = []
remove x (y ∷ ys) = cond (eqb x y) ys (y ∷ remove x ys)

length_remove : (x : ℕ) (ys : List ℕ) → Member x ys → length ys ≡ length (remove x ys) + 1
length_remove x [] m = absurd m
length_remove x (y ∷ ys) m = go (eqb x y) refl m (λ more. length_remove x ys more)
  where
    go : (b : Bool) → eqb x y ≡ b → (x ≡ y) ⊎ Member x ys → (Member x ys → length ys ≡ length (remove x ys) + 1) → length (y ∷ ys) ≡ length (remove x (y ∷ ys)) + 1
    go true e m next = rw e (omega arith)
    go false e (inl is) next = absurd (false≢true (sym e ∙ eq-eqb x y is))
    go false e (inr m) next = rw e (let tail = next m in omega (arith, tail))

member_remove : (z x : ℕ) (ys : List ℕ) → x < z → Member z ys → Member z (remove x ys)
member_remove z x [] lt m = absurd m
member_remove z x (y ∷ ys) lt m = go (eqb x y) refl m (λ more. member_remove z x ys lt more)
  where
    go : (b : Bool) → eqb x y ≡ b → (z ≡ y) ⊎ Member z ys → (Member z ys → Member z (remove x ys)) → Member z (remove x (y ∷ ys))
    go true e (inl is) next = absurd (omega (arith, lt, is, eqb-true x y e))
    go true e (inr m) next = rw e m
    go false e (inl is) next = rw e (inl is)
    go false e (inr m) next = rw e (inr (next m))

all_members : (x : ℕ) (xs ys : List ℕ) → AllByRecursion (λ (z : ℕ). x < z) xs → AllByRecursion (λ (z : ℕ). Member z ys) xs → AllByRecursion (λ (z : ℕ). Member z (remove x ys)) xs
all_members x [] ys a m = tt
all_members x (z ∷ zs) ys a m = (member_remove z x ys a.0 m.0, all_members x zs ys a.1 m.1)

no_longer : (xs ys : List ℕ) → Rises xs → AllByRecursion (λ (z : ℕ). Member z ys) xs → length xs ≤ length ys
no_longer [] ys r m = omega arith
no_longer (x ∷ xs) ys r m = let tail = no_longer xs (remove x ys) r.1 (all_members x xs ys r.0 m.1) in omega (arith, tail, length_remove x ys m.0)

-- ** Runs begin where rows begin

-- what stands at the page before a place's is not the page before it
abbrev Begins : ℕ → RunPlace → List Run → Type 0
Begins s first rows = (q : ℕ) → q + 1 ≡ s → (z : RunPlace) → place_of rows q ≡ placed z → first ≡ behind 1 z → ⊥

abbrev pages : List Run → List ℕ
pages = map (λ (r : Run). r.page)

-- whether a place's page is kept
abbrev is_home : RunPlace → Bool
is_home (place.At home) = true
is_home place.Holes = false

-- the rows of a sort
abbrev part : Bool → Run → List Run
part true run = home_part run.first run
part false run = hole_part run.first run

part_has : (run : Run) (rest : List Run) → pages (part (is_home run.first) run ++ rest) ≡ run.page ∷ pages rest
part_has run rest = go run.first refl
  where
    go : (x : RunPlace) → run.first ≡ x → pages (part (is_home x) run ++ rest) ≡ run.page ∷ pages rest
    go (place.At home) e = rw e refl
    go place.Holes e = rw e refl

member_back : (s : ℕ) (xs ys : List ℕ) → Member s ys → Member s (xs ++ ys)
member_back s [] ys m = m
member_back s (x ∷ xs) ys m = inr (member_back s xs ys m)

pages_append : (xs ys : List Run) → pages (xs ++ ys) ≡ pages xs ++ pages ys
pages_append [] ys = refl
pages_append (x ∷ xs) ys = ap (λ l. x.page ∷ l) (pages_append xs ys)

home_behind : (n : ℕ) (x : RunPlace) → is_home (behind n x) ≡ is_home x
home_behind n (place.At home) = refl
home_behind n place.Holes = refl

one_there : (x : RunPlace) → there (placed x) ≡ 1
one_there (place.At home) = refl
one_there place.Holes = refl

begins_row : (rows : List Run) (s : ℕ) (first : RunPlace) → NoPageTwice rows → place_of rows s ≡ placed first → Begins s first rows → Member s (pages (flat_map (part (is_home first)) rows))
begins_row [] s first once at begins = never_absent first (sym at)
begins_row (y ∷ ys) s first once at begins = go (covers y s) refl (λ once2 at2 begins2. begins_row ys s first once2 at2 begins2)
  where
    once_tail : NoPageTwice ys
    once_tail p = omega (arith, once p)

    begins_tail : Begins s first ys
    begins_tail q next z e is = begins q next z (at_q (covers y q) refl) is
      where
        at_q : (b : Bool) → covers y q ≡ b → place_of (y ∷ ys) q ≡ placed z
        at_q true has = absurd (two (once q))
          where
            two : times (y ∷ ys) q ≤ 1 → ⊥
            two le =
                let one : 1 + times ys q ≤ 1 = subst (λ b. cond b 1 0 + times ys q ≤ 1) has le in
                omega (arith, one, there_few ys q, ap there e, one_there z)
        at_q false lacks = rw lacks e

    member : (b : Bool) → b ≡ is_home first → Member s (pages (part b y ++ flat_map (part b) ys)) → Member s (pages (part (is_home first) y ++ flat_map (part (is_home first)) ys))
    member b e m = subst (λ b. Member s (pages (part b y ++ flat_map (part b) ys))) e m

    go : (b : Bool) → covers y s ≡ b → (NoPageTwice ys → place_of ys s ≡ placed first → Begins s first ys → Member s (pages (flat_map (part (is_home first)) ys)))
        → Member s (pages (part (is_home first) y ++ flat_map (part (is_home first)) ys))
    go false lacks next =
        let tail : place_of ys s ≡ placed first = sym (ap (λ b. cond b (placed (behind (s - y.page) y.first)) (place_of ys s)) lacks) ∙ at in
        subst (Member s) (sym (pages_append (part (is_home first) y) (flat_map (part (is_home first)) ys))) (member_back s (pages (part (is_home first) y)) (pages (flat_map (part (is_home first)) ys)) (next once_tail tail begins_tail))
    go true has next = here (ltb y.page s) refl
      where
        within : (y.page ≤ s) × (s < end_of y)
        within = covers_is y s has

        is : behind (s - y.page) y.first ≡ first
        is = placed_is (behind (s - y.page) y.first) first (sym (place_first y ys s within.0 within.1) ∙ at)

        here : (b : Bool) → ltb y.page s ≡ b → Member s (pages (part (is_home first) y ++ flat_map (part (is_home first)) ys))
        here false e =
            let same : s ≡ y.page = omega (arith, within.0, ltb-false y.page s e) in
            let home : is_home y.first ≡ is_home first = sym (home_behind (s - y.page) y.first) ∙ ap is_home is in
            member (is_home y.first) home (subst (Member s) (sym (part_has y (flat_map (part (is_home y.first)) ys))) (inl same))
        here true e =
            let lt = ltb-true y.page s e in
            let q : s - 1 + 1 ≡ s = omega (arith, lt) in
            let before : y.page ≤ s - 1 = omega (arith, lt) in
            let off : s - y.page ≡ (s - 1 - y.page) + 1 = omega (arith, lt) in
            absurd (begins (s - 1) q (behind (s - 1 - y.page) y.first) (place_first y ys (s - 1) before (omega (arith, within.1))) (sym is ∙ ap (λ n. behind n y.first) off ∙ behind_twice (s - 1 - y.page) 1 y.first))

-- ** Runs of a map begin there

-- the run does not go on from a page of the other
abbrev NotFrom : Run → Run → Type 0
NotFrom r x = (q : ℕ) → q + 1 ≡ x.page → (z : RunPlace) → covers r q ≡ true → placed (behind (q - r.page) r.first) ≡ placed z → x.first ≡ behind 1 z → ⊥

-- the run begins where it stands
abbrev BeginsThere : List Run → Run → Type 0
BeginsThere runs x = (place_of runs x.page ≡ placed x.first) × Begins x.page x.first runs

next_apart : (r x : Run) (xs : List Run) → AreRuns (r ∷ x ∷ xs) → NotFrom r x
next_apart r x xs h q next z has e is =
    let within = covers_is r q has in
    let end : end_of r ≡ x.page = omega (arith, within.1, next, h.1.behind) in
    let z_is : behind (q - r.page) r.first ≡ z = placed_is (behind (q - r.page) r.first) z e in
    let off : r.count ≡ (q - r.page) + 1 = omega (arith, within.0, next, end) in
    let first : behind r.count r.first ≡ x.first = ap (λ n. behind n r.first) off ∙ behind_twice (q - r.page) 1 r.first ∙ ap (behind 1) z_is ∙ sym is in
    let goes : goes_on r x ≡ true = and_from (eqb (end_of r) x.page) (same_place (behind r.count r.first) x.first) (eq-eqb (end_of r) x.page end) (ap (same_place (behind r.count r.first)) (sym first) ∙ same_self (behind r.count r.first)) in
    false≢true (sym h.1.apart ∙ goes)

all_apart : (r : Run) (rs : List Run) → AreRuns (r ∷ rs) → AllByRecursion (NotFrom r) rs
all_apart r [] h = tt
all_apart r (n ∷ ns) h = (
  next_apart r n ns h,
  all_map {P = λ (x : Run). end_of n ≤ x.page} {Q = NotFrom r} (λ x le q next z has e is. omega (arith, le, next, (covers_is r q has).1, h.1.behind, h.2.0.some)) ns (behind_first n ns h.2),
)

later_begin : (r : Run) (rs xs : List Run) → AllByRecursion (λ (x : Run). end_of r ≤ x.page) xs → AllByRecursion (NotFrom r) xs → AllByRecursion (BeginsThere rs) xs
    → AllByRecursion (BeginsThere (r ∷ rs)) xs
later_begin r rs [] le apart begin = tt
later_begin r rs (x ∷ xs) le apart begin = ((place_not_behind r rs x.page le.0 ∙ begin.0.0, begins), later_begin r rs xs le.1 apart.1 begin.1)
  where
    begins : Begins x.page x.first (r ∷ rs)
    begins q next z e is = go (covers r q) refl
      where
        go : (b : Bool) → covers r q ≡ b → ⊥
        go true has = apart.0 q next z has (sym (ap (λ b. cond b (placed (behind (q - r.page) r.first)) (place_of rs q)) has) ∙ e) is
        go false lacks = begin.0.1 q next z (sym (ap (λ b. cond b (placed (behind (q - r.page) r.first)) (place_of rs q)) lacks) ∙ e) is

runs_begin : (runs : List Run) → AreRuns runs → AllByRecursion (BeginsThere runs) runs
runs_begin [] h = tt
runs_begin (r ∷ rs) h = ((place_start r rs h.0.some, first_begins), later_begin r rs rs (behind_first r rs h) (all_apart r rs h) (runs_begin rs h.2))
  where
    first_begins : Begins r.page r.first (r ∷ rs)
    first_begins q next z e is = never_absent z (sym e ∙ place_not_before r rs q (omega (arith, next)) ∙ absent_in_front r rs q h (omega (arith, next)))

-- the runs of a sort of some that begin in the map
part_members : (b : Bool) (rows map xs : List Run) → NoPageTwice rows → ((p : ℕ) → place_of map p ≡ place_of rows p) → AllByRecursion (BeginsThere map) xs
    → AllByRecursion (λ (s : ℕ). Member s (pages (flat_map (part b) rows))) (pages (flat_map (part b) xs))
part_members b rows map [] once same h = tt
part_members b rows map (x ∷ xs) once same h = go b (is_home x.first) refl (part_members b rows map xs once same h.1)
  where
    found : Member x.page (pages (flat_map (part (is_home x.first)) rows))
    found = begins_row rows x.page x.first once (sym (same x.page) ∙ h.0.0) (λ q next z e is. h.0.1 q next z (same q ∙ e) is)

    go : (b c : Bool) → is_home x.first ≡ c → AllByRecursion (λ (s : ℕ). Member s (pages (flat_map (part b) rows))) (pages (flat_map (part b) xs))
        → AllByRecursion (λ (s : ℕ). Member s (pages (flat_map (part b) rows))) (pages (part b x ++ flat_map (part b) xs))
    go b c e tail = place_case x.first refl b c e tail
      where
        place_case : (f : RunPlace) → x.first ≡ f → (b c : Bool) → is_home x.first ≡ c → AllByRecursion (λ (s : ℕ). Member s (pages (flat_map (part b) rows))) (pages (flat_map (part b) xs))
            → AllByRecursion (λ (s : ℕ). Member s (pages (flat_map (part b) rows))) (pages (part b x ++ flat_map (part b) xs))
        place_case (place.At home) e true c k tail = rw e (subst (λ f. Member x.page (pages (flat_map (part (is_home f)) rows))) e found, tail)
        place_case (place.At home) e false c k tail = rw e tail
        place_case place.Holes e true c k tail = rw e tail
        place_case place.Holes e false c k tail = rw e (subst (λ f. Member x.page (pages (flat_map (part (is_home f)) rows))) e found, tail)

part_rises : (b : Bool) (runs : List Run) → AreRuns runs → Rises (pages (flat_map (part b) runs))
part_rises b [] h = tt
part_rises b (r ∷ rs) h = go b r.first refl (part_rises b rs h.2)
  where
    behind_all : (b : Bool) (xs : List Run) → AllByRecursion (λ (x : Run). r.page < x.page) xs → AllByRecursion (λ (s : ℕ). r.page < s) (pages (flat_map (part b) xs))
    behind_all b [] a = tt
    behind_all b (x ∷ xs) a = one b x.first refl (behind_all b xs a.1)
      where
        one : (b : Bool) (f : RunPlace) → x.first ≡ f → AllByRecursion (λ (s : ℕ). r.page < s) (pages (flat_map (part b) xs)) → AllByRecursion (λ (s : ℕ). r.page < s) (pages (part b x ++ flat_map (part b) xs))
        one true (place.At home) e tail = rw e (a.0, tail)
        one false (place.At home) e tail = rw e tail
        one true place.Holes e tail = rw e tail
        one false place.Holes e tail = rw e (a.0, tail)

    all : (b : Bool) → AllByRecursion (λ (s : ℕ). r.page < s) (pages (flat_map (part b) rs))
    all b = behind_all b rs (all_map {P = λ (x : Run). end_of r ≤ x.page} {Q = λ (x : Run). r.page < x.page} (λ x le. omega (arith, le, h.0.some)) rs (behind_first r rs h))

    go : (b : Bool) (f : RunPlace) → r.first ≡ f → Rises (pages (flat_map (part b) rs)) → Rises (pages (part b r ++ flat_map (part b) rs))
    go true (place.At home) e tail = rw e (all true, tail)
    go false (place.At home) e tail = rw e tail
    go true place.Holes e tail = rw e tail
    go false place.Holes e tail = rw e (all false, tail)

-- a map has no more runs of a sort than records that say it have rows
part_fewest : (b : Bool) (rows map : List Run) → AreRuns map → NoPageTwice rows → ((p : ℕ) → place_of map p ≡ place_of rows p) → length (flat_map (part b) map) ≤ length (flat_map (part b) rows)
part_fewest b rows map h once same =
    let few = no_longer (pages (flat_map (part b) map)) (pages (flat_map (part b) rows)) (part_rises b map h) (part_members b rows map map once same (runs_begin map h)) in
    omega (arith, few, length-map (flat_map (part b) map) (λ (r : Run). r.page), length-map (flat_map (part b) rows) (λ (r : Run). r.page))

-- ** How many rows records have

-- this number of records of extents and of holes, and their rows
record Counts (n : ℕ) (rows : List Run) (total : ℕ) : Type 0 where
  pub extents : ℕ
  pub holes : ℕ
  pub all : extents + holes ≡ total
  pub homes : length (homes_in rows) ≤ n * extents
  pub kept : length (holes_in rows) ≤ 16 * holes

few_homes : (kind : ℕ) (runs : List Run) → is_of_holes kind ≡ false → AllSuit kind runs → (length (homes_in runs) ≤ length runs) × (length (holes_in runs) ≡ 0)
few_homes kind [] plain h = (omega arith, refl)
few_homes kind (r ∷ rs) plain h = go r.first refl h.0 (few_homes kind rs plain h.1)
  where
    go : (f : RunPlace) → r.first ≡ f → Suits kind (placed f) → (length (homes_in rs) ≤ length rs) × (length (holes_in rs) ≡ 0)
        → (length (home_part f r ++ homes_in rs) ≤ length (r ∷ rs)) × (length (hole_part f r ++ holes_in rs) ≡ 0)
    go (place.At home) e s tail = (omega (arith, tail.0), tail.1)
    go place.Holes e s tail = absurd (false≢true (sym plain ∙ s))

few_holes : (kind : ℕ) (runs : List Run) → is_of_holes kind ≡ true → AllSuit kind runs → (length (holes_in runs) ≤ length runs) × (length (homes_in runs) ≡ 0)
few_holes kind [] holes h = (omega arith, refl)
few_holes kind (r ∷ rs) holes h = go r.first refl h.0 (few_holes kind rs holes h.1)
  where
    go : (f : RunPlace) → r.first ≡ f → Suits kind (placed f) → (length (holes_in rs) ≤ length rs) × (length (homes_in rs) ≡ 0)
        → (length (hole_part f r ++ holes_in rs) ≤ length (r ∷ rs)) × (length (home_part f r ++ homes_in rs) ≡ 0)
    go (place.At home) e s tail = absurd (false≢true (sym s.0 ∙ holes))
    go place.Holes e s tail = (omega (arith, tail.0), tail.1)

homes_append : (xs ys : List Run) → length (homes_in (xs ++ ys)) ≡ length (homes_in xs) + length (homes_in ys)
homes_append xs ys = ap length (flat_map-append (λ (run : Run). home_part run.first run) xs ys) ∙ length-append (homes_in xs) (homes_in ys)

holes_append : (xs ys : List Run) → length (holes_in (xs ++ ys)) ≡ length (holes_in xs) + length (holes_in ys)
holes_append xs ys = ap length (flat_map-append (λ (run : Run). hole_part run.first run) xs ys) ∙ length-append (holes_in xs) (holes_in ys)

counts : (version : Version) (chain : List Record) → AllByRecursion (IsOfChain version) chain → AllByRecursion IsPlaced (runs_of chain) → Counts (most_rows (chain_kind version)) (runs_of chain) (length chain)
counts version [] each placed = record { extents = 0; holes = 0; all = refl; homes = omega arith; kept = omega arith }
counts version (r ∷ rs) each placed = go (is_of_holes (kind_of r)) refl (counts version rs each.1 (all_back IsPlaced (runs_in r) (runs_of rs) placed))
  where
    n : ℕ
    n = most_rows (chain_kind version)

    suits : AllSuit (kind_of r) (runs_in r)
    suits = rows_suit r (all_front IsPlaced (runs_in r) (runs_of rs) placed)

    few : length (runs_in r) ≤ most_rows (kind_of r)
    few = (allowed_few r each.0.allowed).few

    go : (b : Bool) → is_of_holes (kind_of r) ≡ b → Counts (most_rows (chain_kind version)) (runs_of rs) (length rs) → Counts (most_rows (chain_kind version)) (runs_of (r ∷ rs)) (length (r ∷ rs))
    go true e tail =
        let mine = few_holes (kind_of r) (runs_in r) e suits in
        let rows = each.0.holes e in
        record {
          extents = tail.extents;
          holes = tail.holes + 1;
          all = omega (arith, tail.all);
          homes = omega (arith, tail.homes, homes_append (runs_in r) (runs_of rs), mine.1);
          kept = omega (arith, tail.kept, holes_append (runs_in r) (runs_of rs), mine.0, few, rows);
        }
    go false e tail =
        let mine = few_homes (kind_of r) (runs_in r) e suits in
        let rows = each.0.rows in
        record {
          extents = tail.extents + 1;
          holes = tail.holes;
          all = omega (arith, tail.all);
          homes = omega (arith, tail.homes, homes_append (runs_in r) (runs_of rs), mine.0, few, rows);
          kept = omega (arith, tail.kept, holes_append (runs_in r) (runs_of rs), mine.1);
        }

fills_count : (kind : ℕ) (runs : List Run) (records : List Record) → 1 ≤ most_rows kind → Fills kind runs records → most_rows kind * length records < length runs + most_rows kind
fills_count kind runs [] some h = omega (arith, some)
fills_count kind runs (r ∷ []) some h = omega (arith, h.0)
fills_count kind runs (r ∷ next ∷ rs) some h =
    let tail = fills_count kind (drop (most_rows kind) runs) (next ∷ rs) some h.2 in
    omega (arith, tail, h.2.0, length-drop (most_rows kind) runs)

-- this number of records with n rows each, the last with one at least, are no more than any with
-- room for the rows
no_more : (n rows a c : ℕ) → n * a < rows + n → rows ≤ n * c → a ≤ c
no_more n rows a c full room = go (ltb c a) refl
  where
    go : (b : Bool) → ltb c a ≡ b → a ≤ c
    go true e =
        let more : c + 1 ≤ a = let lt = ltb-true c a e in omega (arith, lt) in
        let product = mul-le-mul_left n more in
        absurd (omega (arith, product, full, room))
    go false e = ltb-false c a e

some_rows : (version : Version) → (1 ≤ most_rows (chain_kind version)) × (1 ≤ most_rows hole_kind)
some_rows Three = (omega arith, omega arith)
some_rows Four = (omega arith, omega arith)

lists_least : (version : Version) (map : List Run) (records others : List Record) → AreRuns map → ListsMap version map records → SaysMap version map others → length records ≤ length others
lists_least version map records others h lists says =
    omega (
      arith,
      ap length lists.list,
      length-append lists.chain lists.kept,
      ap length says.list,
      rest.all,
      no_more (most_rows (chain_kind version)) (length (drop (most_rows (short_kind version)) (homes_in map))) (length lists.chain) rest.extents (fills_count (chain_kind version) (drop (most_rows (short_kind version)) (homes_in map)) lists.chain (some_rows version).0 lists.extents) (omega (arith, length-drop (most_rows (short_kind version)) (homes_in map), homes_rows, rest.homes)),
      no_more 16 (length (holes_in map)) (length lists.kept) rest.holes (fills_count hole_kind (holes_in map) lists.kept (some_rows version).1 lists.holes) (omega (arith, holes_rows, rest.kept)),
    )
  where
    said : runs_of others ≡ runs_in says.short ++ runs_of says.chain
    said = ap runs_of says.list

    placed : AllByRecursion IsPlaced (runs_in says.short ++ runs_of says.chain)
    placed = subst (AllByRecursion IsPlaced) said says.one_map.placed

    rest : Counts (most_rows (chain_kind version)) (runs_of says.chain) (length says.chain)
    rest = counts version says.chain says.each (all_back IsPlaced (runs_in says.short) (runs_of says.chain) placed)

    first : (length (homes_in (runs_in says.short)) ≤ length (runs_in says.short)) × (length (holes_in (runs_in says.short)) ≡ 0)
    first = few_homes (kind_of says.short) (runs_in says.short) says.extents (rows_suit says.short (all_front IsPlaced (runs_in says.short) (runs_of says.chain) placed))

    homes_rows : length (homes_in map) ≤ most_rows (short_kind version) + length (homes_in (runs_of says.chain))
    homes_rows =
        let few = part_fewest true (runs_of others) map h says.one_map.once says.same in
        omega (arith, few, ap (λ l. length (homes_in l)) said, homes_append (runs_in says.short) (runs_of says.chain), first.0, (allowed_few says.short says.allowed).few, says.rows)

    holes_rows : length (holes_in map) ≤ length (holes_in (runs_of says.chain))
    holes_rows =
        let few = part_fewest false (runs_of others) map h says.one_map.once says.same in
        omega (arith, few, ap (λ l. length (holes_in l)) said, holes_append (runs_in says.short) (runs_of says.chain), first.1)

-- ** The records that are written say the map

chain_each : (version : Version) (runs : List Run) (records : List Record) → Fills (chain_kind version) runs records → AllByRecursion (IsOfChain version) records
chain_each version runs [] h = tt
chain_each version runs (r ∷ rs) h = (record { allowed = h.1.is_map.allowed; rows = rows (kind_of r) h.1.of_kind; holes = holes version (kind_of r) h.1.of_kind }, chain_each version (drop (most_rows (chain_kind version)) runs) rs h.2)
  where
    rows : (k : ℕ) → k ≡ chain_kind version → most_rows k ≤ most_rows (chain_kind version)
    rows k e = rw e (omega arith)

    holes : (v : Version) (k : ℕ) → k ≡ chain_kind v → is_of_holes k ≡ true → most_rows k ≤ most_rows hole_kind
    holes Three k e is = absurd (false≢true (sym (ap is_of_holes e) ∙ is))
    holes Four k e is = absurd (false≢true (sym (ap is_of_holes e) ∙ is))

kept_each : (version : Version) (runs : List Run) (records : List Record) → Fills hole_kind runs records → AllByRecursion (IsOfChain version) records
kept_each version runs [] h = tt
kept_each version runs (r ∷ rs) h = (record { allowed = h.1.is_map.allowed; rows = rows version (kind_of r) h.1.of_kind; holes = λ is. holes (kind_of r) h.1.of_kind }, kept_each version (drop (most_rows hole_kind) runs) rs h.2)
  where
    rows : (v : Version) (k : ℕ) → k ≡ hole_kind → most_rows k ≤ most_rows (chain_kind v)
    rows Three k e = rw e (omega arith)
    rows Four k e = rw e (omega arith)

    holes : (k : ℕ) → k ≡ hole_kind → most_rows k ≤ most_rows hole_kind
    holes k e = rw e (omega arith)

each_append : (version : Version) (xs ys : List Record) → AllByRecursion (IsOfChain version) xs → AllByRecursion (IsOfChain version) ys → AllByRecursion (IsOfChain version) (xs ++ ys)
each_append version [] ys a b = b
each_append version (x ∷ xs) ys a b = (a.0, each_append version xs ys a.1 b)

pub least_list : (version : Version) (map : List Run) (records : List Record) → AreRuns map → ListsMap version map records → AreOneMap records → IsMapOf records map → IsLeastList version map records
least_list version map records h lists one same = record {
  says = record {
    short = lists.short;
    chain = lists.chain ++ lists.kept;
    list = lists.list;
    allowed = lists.first.is_map.allowed;
    rows = rows (kind_of lists.short) lists.first.of_kind;
    extents = extents version (kind_of lists.short) lists.first.of_kind;
    each = each_append version lists.chain lists.kept (chain_each version (drop (most_rows (short_kind version)) (homes_in map)) lists.chain lists.extents) (kept_each version (holes_in map) lists.kept lists.holes);
    one_map = one;
    same = same;
  };
  least = λ others says. lists_least version map records others h lists says;
}
  where
    rows : (k : ℕ) → k ≡ short_kind version → most_rows k ≤ most_rows (short_kind version)
    rows k e = rw e (omega arith)

    extents : (v : Version) (k : ℕ) → k ≡ short_kind v → is_of_holes k ≡ false
    extents Three k e = ap is_of_holes e
    extents Four k e = ap is_of_holes e
