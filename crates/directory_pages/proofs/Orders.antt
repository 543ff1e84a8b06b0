-- Entries in their order.
use Rattle.std.proofs.Common.{◌≡◌, ◌∙◌, ◌⊎◌, inl, inr, ℕ, ◌<◌, ◌≤◌, ◌&&◌, Bool, true, false, not, cond, nat_eq, nat_lt, Option, Some, None, List, [], ◌∷◌, ◌++◌, refl, sym, ap, subst, arith}
use Rattle.std.proofs.lemmas.Bool.{and_from, and_parts, both_ways, cases_lt, eq-eqb, eqb-true, lt-ltb, ltb-true, or_cases, or_left, or_right}
use Rattle.std.specs.List.{AllByRecursion}
use Rattle.std.specs.Option.{is_some, unwrap_or}
use Rattle.directory_pages.specs.declared.entry.IndexEntry.{IndexEntry}
use Rattle.directory_pages.specs.Changes.{StartsHigh}
use Rattle.directory_pages.specs.Entries.{Has, HasNext, IsNext, Rise, first_from, is_below}

-- ---- the order of two entries

abbrev Below : IndexEntry → IndexEntry → Type 0
Below a b = (a.hash < b.hash) ⊎ ((a.hash ≡ b.hash) × (a.page < b.page))

abbrev NotBelow : IndexEntry → IndexEntry → Type 0
NotBelow a b = (b.hash < a.hash) ⊎ ((a.hash ≡ b.hash) × (b.page ≤ a.page))

below_is : (a b : IndexEntry) → is_below a b ≡ true → Below a b
below_is a b is =
    elim (or_cases (nat_lt a.hash b.hash) (nat_eq a.hash b.hash && nat_lt a.page b.page) is) [
      | inl less ↦ inl (ltb-true a.hash b.hash less)
      | inr same ↦ let parts = and_parts (nat_eq a.hash b.hash) (nat_lt a.page b.page) same in inr (eqb-true a.hash b.hash parts.0, ltb-true a.page b.page parts.1)
    ]

below_from : (a b : IndexEntry) → Below a b → is_below a b ≡ true
below_from a b (inl less) = or_left (nat_lt a.hash b.hash) (nat_eq a.hash b.hash && nat_lt a.page b.page) (lt-ltb a.hash b.hash less)
below_from a b (inr same) =
    or_right (nat_lt a.hash b.hash) (nat_eq a.hash b.hash && nat_lt a.page b.page)
    (and_from (nat_eq a.hash b.hash) (nat_lt a.page b.page) (eq-eqb a.hash b.hash same.0) (lt-ltb a.page b.page same.1))

not_below_is : (a b : IndexEntry) → is_below a b ≡ false → NotBelow a b
not_below_is a b other =
    elim (cases_lt a.hash b.hash) [
      | inl less ↦ absurd (both_ways (is_below a b) other (below_from a b (inl less)))
      | inr most ↦ elim (cases_lt b.hash a.hash) [
        | inl more ↦ inl more
        | inr least ↦ elim (cases_lt a.page b.page) [
          | inl less ↦ absurd (both_ways (is_below a b) other (below_from a b (inr (omega (arith, most, least), less))))
          | inr page ↦ inr (omega (arith, most, least), page)
        ]
      ]
    ]

-- what is not above an entry that is below the key is below it
through : (a m key : IndexEntry) → NotBelow m a → Below m key → Below a key
through a m key (inl less) (inl below) = inl (omega (arith, less, below))
through a m key (inl less) (inr below) = inl (omega (arith, less, below.0))
through a m key (inr same) (inl below) = inl (omega (arith, same.0, below))
through a m key (inr same) (inr below) = inr (omega (arith, same.0, below.0), omega (arith, same.1, below.1))

pub below_too : (a m key : IndexEntry) → is_below m a ≡ false → is_below m key ≡ true → is_below a key ≡ true
below_too a m key not_above below = below_from a key (through a m key (not_below_is m a not_above) (below_is m key below))

-- ---- the first entry from a key on

abbrev pub or_first : Option IndexEntry → Option IndexEntry → Option IndexEntry
or_first None other = other
or_first (Some e) other = Some e

pub first-append : (key : IndexEntry) (xs ys : List IndexEntry) → first_from key (xs ++ ys) ≡ or_first (first_from key xs) (first_from key ys)
first-append key [] ys = refl
first-append key (x ∷ xs) ys = by_test (is_below x key) refl (first-append key xs ys)
  where
    by_test : (b : Bool) → is_below x key ≡ b → first_from key (xs ++ ys) ≡ or_first (first_from key xs) (first_from key ys) → first_from key (x ∷ (xs ++ ys)) ≡ or_first (first_from key (x ∷ xs)) (first_from key ys)
    by_test true below later =
        ap (λ b. cond (not b) (Some x) (first_from key (xs ++ ys))) below ∙ later ∙ ap (λ b. or_first (cond (not b) (Some x) (first_from key xs)) (first_from key ys)) (sym below)
    by_test false other later =
        ap (λ b. cond (not b) (Some x) (first_from key (xs ++ ys))) other ∙ ap (λ b. or_first (cond (not b) (Some x) (first_from key xs)) (first_from key ys)) (sym other)

pub or_none : (a b : Option IndexEntry) → a ≡ None → or_first a b ≡ b
or_none a b none = ap (λ o. or_first o b) none

first_below : (key x : IndexEntry) (xs : List IndexEntry) → is_below x key ≡ true → first_from key (x ∷ xs) ≡ first_from key xs
first_below key x xs below = ap (λ b. cond (not b) (Some x) (first_from key xs)) below

pub first_here : (key x : IndexEntry) (xs : List IndexEntry) → is_below x key ≡ false → first_from key (x ∷ xs) ≡ Some x
first_here key x xs other = ap (λ b. cond (not b) (Some x) (first_from key xs)) other

last_of_all : (P : IndexEntry → Type 0) (xs : List IndexEntry) (m : IndexEntry) → AllByRecursion P (xs ++ m ∷ []) → P m
last_of_all P [] m all = all.0
last_of_all P (x ∷ xs) m all = last_of_all P xs m all.1

-- where the last one is below the key, all are
pub all_below : (key : IndexEntry) (xs : List IndexEntry) (m : IndexEntry) → Rise (xs ++ m ∷ []) → is_below m key ≡ true → first_from key (xs ++ m ∷ []) ≡ None
all_below key [] m rise below = first_below key m [] below
all_below key (x ∷ xs) m rise below =
    first_below key x (xs ++ m ∷ []) (below_too x m key (last_of_all (λ later. is_below later x ≡ false) xs m rise.0) below) ∙ all_below key xs m rise.1 below

-- ---- parts of rising entries

all_left : (P : IndexEntry → Type 0) (xs ys : List IndexEntry) → AllByRecursion P (xs ++ ys) → AllByRecursion P xs
all_left P [] ys all = tt
all_left P (x ∷ xs) ys all = (all.0, all_left P xs ys all.1)

pub rise_left : (xs ys : List IndexEntry) → Rise (xs ++ ys) → Rise xs
rise_left [] ys rise = tt
rise_left (x ∷ xs) ys rise = (all_left (λ later. is_below later x ≡ false) xs ys rise.0, rise_left xs ys rise.1)

pub rise_right : (xs ys : List IndexEntry) → Rise (xs ++ ys) → Rise ys
rise_right [] ys rise = rise
rise_right (x ∷ xs) ys rise = rise_right xs ys rise.1

-- ---- what the first entry from a key on says

abbrev entry_of : ℕ → ℕ → IndexEntry
entry_of hash page = record { hash = hash; page = page }

has_all : (P : IndexEntry → Type 0) (xs : List IndexEntry) (hash page : ℕ) → AllByRecursion P xs → Has xs hash page → P (entry_of hash page)
has_all P [] hash page all has = absurd has
has_all P (x ∷ xs) hash page all (inl here) = subst P (λ i. record { hash = here.0 i; page = here.1 i }) all.0
has_all P (x ∷ xs) hash page all (inr later) = has_all P xs hash page all.1 later

pub none_next : (hash from : ℕ) (xs : List IndexEntry) → first_from (entry_of hash from) xs ≡ None → ¬ HasNext hash from xs
none_next hash from [] none next = absurd next.2
none_next hash from (x ∷ xs) none next = by_test (is_below x (entry_of hash from)) refl (none_next hash from xs) next.2
  where
    not_some : Some x ≡ None → ⊥
    not_some e = cc

    by_test : (b : Bool) → is_below x (entry_of hash from) ≡ b → (first_from (entry_of hash from) xs ≡ None → ¬ HasNext hash from xs) → Has (x ∷ xs) hash next.0 → ⊥
    by_test false other later has = not_some (sym (first_here (entry_of hash from) x xs other) ∙ none)
    by_test true below later (inr has) = later (sym (first_below (entry_of hash from) x xs below) ∙ none) (next.0, next.1, has)
    by_test true below later (inl here) = too_low (below_is x (entry_of hash from) below)
      where
        too_low : Below x (entry_of hash from) → ⊥
        too_low (inl less) = omega (arith, less, here.0)
        too_low (inr same) = omega (arith, same.1, here.1, next.1)

some_is : (a b : IndexEntry) → Some a ≡ Some b → a ≡ b
some_is a b e = cc

pub some_next : (hash from : ℕ) (xs : List IndexEntry) (e : IndexEntry) → Rise xs → first_from (entry_of hash from) xs ≡ Some e → e.hash ≡ hash → IsNext hash from xs e.page
some_next hash from [] e rise some same = absurd (not_some some)
  where
    not_some : None ≡ Some e → ⊥
    not_some is = cc
some_next hash from (x ∷ xs) e rise some same = by_test (is_below x (entry_of hash from)) refl (λ later. some_next hash from xs e rise.1 later same)
  where
    low : (other : ℕ) → Has (x ∷ xs) hash other → from ≤ other → Below x (entry_of hash from) → Has xs hash other
    low other (inr has) begins below = has
    low other (inl here) begins (inl less) = absurd (omega (arith, less, here.0))
    low other (inl here) begins (inr page) = absurd (omega (arith, page.1, here.1, begins))

    from_here : x ≡ e → NotBelow x (entry_of hash from) → IsNext hash from (x ∷ xs) e.page
    from_here is not_below = record {
      begins = starts not_below (ap (λ (y : IndexEntry). y.hash) is) (ap (λ (y : IndexEntry). y.page) is);
      there = inl (ap (λ (y : IndexEntry). y.hash) is ∙ same, ap (λ (y : IndexEntry). y.page) is);
      least = least;
    }
      where
        starts : NotBelow x (entry_of hash from) → x.hash ≡ e.hash → x.page ≡ e.page → from ≤ e.page
        starts (inl more) h p = absurd (omega (arith, more, h, same))
        starts (inr page) h p = omega (arith, page.1, p)

        later : (other : ℕ) → x.hash ≡ e.hash → x.page ≡ e.page → NotBelow (entry_of hash other) x → e.page ≤ other
        later other h p (inl more) = absurd (omega (arith, more, h, same))
        later other h p (inr page) = omega (arith, page.1, p)

        least : (other : ℕ) → Has (x ∷ xs) hash other → from ≤ other → e.page ≤ other
        least other (inl here) begins = let p = ap (λ (y : IndexEntry). y.page) is in omega (arith, here.1, p)
        least other (inr has) begins =
            later other (ap (λ (y : IndexEntry). y.hash) is) (ap (λ (y : IndexEntry). y.page) is)
            (not_below_is (entry_of hash other) x (has_all (λ y. is_below y x ≡ false) xs hash other rise.0 has))

    by_test : (b : Bool) → is_below x (entry_of hash from) ≡ b → (first_from (entry_of hash from) xs ≡ Some e → IsNext hash from xs e.page) → IsNext hash from (x ∷ xs) e.page
    by_test false other later = from_here (some_is x e (sym (first_here (entry_of hash from) x xs other) ∙ some)) (not_below_is x (entry_of hash from) other)
    by_test true below later =
        let next = later (sym (first_below (entry_of hash from) x xs below) ∙ some) in
        record {
          begins = next.begins;
          there = inr next.there;
          least = λ other has begins. next.least other (low other has begins (below_is x (entry_of hash from) below)) begins;
        }

-- the first entry from a key on has another hash: none with this one is left
pub other_next : (hash from : ℕ) (xs : List IndexEntry) (e : IndexEntry) → Rise xs → first_from (entry_of hash from) xs ≡ Some e → (¬ e.hash ≡ hash) → ¬ HasNext hash from xs
other_next hash from [] e rise some other next = absurd next.2
other_next hash from (x ∷ xs) e rise some other next = by_test (is_below x (entry_of hash from)) refl (λ later. other_next hash from xs e rise.1 later other) next.2
  where
    by_test : (b : Bool) → is_below x (entry_of hash from) ≡ b → (first_from (entry_of hash from) xs ≡ Some e → ¬ HasNext hash from xs) → Has (x ∷ xs) hash next.0 → ⊥
    by_test true below later (inr has) = later (sym (first_below (entry_of hash from) x xs below) ∙ some) (next.0, next.1, has)
    by_test true below later (inl here) = too_low (below_is x (entry_of hash from) below)
      where
        too_low : Below x (entry_of hash from) → ⊥
        too_low (inl less) = omega (arith, less, here.0)
        too_low (inr page) = omega (arith, page.1, here.1, next.1)
    by_test false high later has = go has (some_is x e (sym (first_here (entry_of hash from) x xs high) ∙ some)) (not_below_is x (entry_of hash from) high)
      where
        above : x.hash ≡ e.hash → NotBelow x (entry_of hash from) → hash < x.hash
        above h (inl more) = more
        above h (inr same) = absurd (other (sym h ∙ same.0))

        high_up : hash < x.hash → NotBelow (entry_of hash next.0) x → ⊥
        high_up more (inl less) = omega (arith, more, less)
        high_up more (inr same) = omega (arith, more, same.0)

        go : Has (x ∷ xs) hash next.0 → x ≡ e → NotBelow x (entry_of hash from) → ⊥
        go (inl here) is not_below = other (sym (ap (λ (y : IndexEntry). y.hash) is) ∙ here.0)
        go (inr has) is not_below =
            high_up (above (ap (λ (y : IndexEntry). y.hash) is) not_below)
            (not_below_is (entry_of hash next.0) x (has_all (λ y. is_below y x ≡ false) xs hash next.0 rise.0 has))

pub or_is_some : (a b : Option IndexEntry) → is_some a ≡ true → or_first a b ≡ a
or_is_some None b some = absurd cc
or_is_some (Some e) b some = refl

pub or_is_none : (a b : Option IndexEntry) → is_some a ≡ false → or_first a b ≡ b
or_is_none None b none = refl
or_is_none (Some e) b none = absurd cc

pub some_or : (a : Option IndexEntry) (e : IndexEntry) → Some (unwrap_or a e) ≡ or_first a (Some e)
some_or None e = refl
some_or (Some x) e = refl

-- ---- an entry more, or one less

all_append : (P : IndexEntry → Type 0) (xs ys : List IndexEntry) → AllByRecursion P xs → AllByRecursion P ys → AllByRecursion P (xs ++ ys)
all_append P [] ys all more = more
all_append P (x ∷ xs) ys all more = (all.0, all_append P xs ys all.1 more)

pub all_both : (P : IndexEntry → Type 0) (xs ys : List IndexEntry) → AllByRecursion P xs → AllByRecursion P ys → AllByRecursion P (xs ++ ys)
all_both = all_append

all_right : (P : IndexEntry → Type 0) (xs ys : List IndexEntry) → AllByRecursion P (xs ++ ys) → AllByRecursion P ys
all_right P [] ys all = all
all_right P (x ∷ xs) ys all = all_right P xs ys all.1

pub rise_without : (front : List IndexEntry) (m : IndexEntry) (back : List IndexEntry) → Rise (front ++ m ∷ back) → Rise (front ++ back)
rise_without [] m back rise = rise.1
rise_without (x ∷ front) m back rise = (
  all_append (λ later. is_below later x ≡ false) front back (all_left (λ later. is_below later x ≡ false) front (m ∷ back) rise.0) (all_right (λ later. is_below later x ≡ false) front (m ∷ back) rise.0).1,
  rise_without front m back rise.1,
)

not_both : (a b : IndexEntry) → Below a b → Below b a → ⊥
not_both a b (inl less) (inl more) = omega (arith, less, more)
not_both a b (inl less) (inr same) = omega (arith, less, same.0)
not_both a b (inr same) (inl more) = omega (arith, same.0, more)
not_both a b (inr same) (inr page) = omega (arith, same.1, page.1)

not_above : (a b : IndexEntry) → is_below a b ≡ true → is_below b a ≡ false
not_above a b below = by_test (is_below b a) refl
  where
    by_test : (t : Bool) → is_below b a ≡ t → is_below b a ≡ false
    by_test true more = absurd (not_both a b (below_is a b below) (below_is b a more))
    by_test false other = other

-- what is not below one that is not below the key is not below the key
still_above : (y m key : IndexEntry) → is_below y m ≡ false → is_below m key ≡ false → is_below y key ≡ false
still_above y m key over high = by_test (is_below y key) refl
  where
    step : NotBelow y m → NotBelow m key → Below y key → ⊥
    step (inl a) (inl b) (inl c) = omega (arith, a, b, c)
    step (inl a) (inl b) (inr c) = omega (arith, a, b, c.0)
    step (inl a) (inr b) (inl c) = omega (arith, a, b.0, c)
    step (inl a) (inr b) (inr c) = omega (arith, a, b.0, c.0)
    step (inr a) (inl b) (inl c) = omega (arith, a.0, b, c)
    step (inr a) (inl b) (inr c) = omega (arith, a.0, b, c.0)
    step (inr a) (inr b) (inl c) = omega (arith, a.0, b.0, c)
    step (inr a) (inr b) (inr c) = omega (arith, a.1, b.1, c.1)

    by_test : (t : Bool) → is_below y key ≡ t → is_below y key ≡ false
    by_test true below = absurd (step (not_below_is y m over) (not_below_is m key high) (below_is y key below))
    by_test false other = other

all_above : (key m : IndexEntry) (ys : List IndexEntry) → is_below m key ≡ false → AllByRecursion (λ later. is_below later m ≡ false) ys → AllByRecursion (λ later. is_below later key ≡ false) ys
all_above key m [] high all = tt
all_above key m (y ∷ ys) high all = (still_above y m key all.0 high, all_above key m ys high all.1)

key_above : (key : IndexEntry) (ys : List IndexEntry) → Rise ys → StartsHigh key ys → AllByRecursion (λ later. is_below later key ≡ false) ys
key_above key [] rise high = tt
key_above key (y ∷ ys) rise high = (high, all_above key y ys high rise.0)

pub rise_with : (front : List IndexEntry) (key : IndexEntry) (back : List IndexEntry) → Rise (front ++ back) → AllByRecursion (λ entry. is_below entry key ≡ true) front → StartsHigh key back → Rise (front ++ key ∷ back)
rise_with [] key back rise low high = (key_above key back rise high, rise)
rise_with (x ∷ front) key back rise low high = (
  all_append (λ later. is_below later x ≡ false) front (key ∷ back) (all_left (λ later. is_below later x ≡ false) front back rise.0) (not_above x key low.0, all_right (λ later. is_below later x ≡ false) front back rise.0),
  rise_with front key back rise.1 low.1 high,
)

-- entries are all below the key if none is not below it
pub none_from : (key : IndexEntry) (xs : List IndexEntry) → first_from key xs ≡ None → AllByRecursion (λ entry. is_below entry key ≡ true) xs
none_from key [] none = tt
none_from key (x ∷ xs) none = by_test (is_below x key) refl (none_from key xs)
  where
    not_some : Some x ≡ None → ⊥
    not_some e = cc

    by_test : (t : Bool) → is_below x key ≡ t → (first_from key xs ≡ None → AllByRecursion (λ entry. is_below entry key ≡ true) xs) → (is_below x key ≡ true) × AllByRecursion (λ entry. is_below entry key ≡ true) xs
    by_test true below later = (below, later (sym (first_below key x xs below) ∙ none))
    by_test false other later = absurd (not_some (sym (first_here key x xs other) ∙ none))

low_not : (key : IndexEntry) (xs : List IndexEntry) → AllByRecursion (λ entry. is_below entry key ≡ true) xs → Has xs key.hash key.page → ⊥
low_not key [] low has = has
low_not key (x ∷ xs) low (inr has) = low_not key xs low.1 has
low_not key (x ∷ xs) low (inl here) = too_low (below_is x key low.0)
  where
    too_low : Below x key → ⊥
    too_low (inl less) = omega (arith, less, here.0)
    too_low (inr same) = omega (arith, same.1, here.1)

same_entry : (m key : IndexEntry) → NotBelow m key → NotBelow key m → m ≡ key
same_entry m key (inl a) (inl b) = absurd (omega (arith, a, b))
same_entry m key (inl a) (inr b) = absurd (omega (arith, a, b.0))
same_entry m key (inr a) (inl b) = absurd (omega (arith, a.0, b))
same_entry m key (inr a) (inr b) = let page : m.page ≡ key.page = omega (arith, a.1, b.1) in λ i. record { hash = a.0 i; page = page i }

-- an entry that is there is the first that is not below it
pub first_is : (key : IndexEntry) (front : List IndexEntry) (m : IndexEntry) (back : List IndexEntry) → Rise (front ++ m ∷ back) → AllByRecursion (λ entry. is_below entry key ≡ true) front → is_below m key ≡ false
    → Has (front ++ m ∷ back) key.hash key.page → m ≡ key
first_is key [] m back rise low high (inl here) = λ i. record { hash = here.0 i; page = here.1 i }
first_is key [] m back rise low high (inr has) = same_entry m key (not_below_is m key high) (not_below_is key m (has_all (λ y. is_below y m ≡ false) back key.hash key.page rise.0 has))
first_is key (x ∷ front) m back rise low high (inr has) = first_is key front m back rise.1 low.1 high has
first_is key (x ∷ front) m back rise low high (inl here) = absurd (low_not key (x ∷ []) (low.0, tt) (inl here))

pub is_there : (key : IndexEntry) (xs : List IndexEntry) → Has xs key.hash key.page → first_from key xs ≡ None → ⊥
is_there key xs has none = low_not key xs (none_from key xs none) has
