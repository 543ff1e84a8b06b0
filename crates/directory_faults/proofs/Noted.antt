-- Names that were noted by their directories.
use Rattle.std.proofs.Common.{◌≡◌, ◌∙◌, ◌⊎◌, ◌↔◌, inl, inr, ℕ, ◌+◌, Bool, true, false, not, cond, List, [], Some, Bor, slice_get, refl, sym, ap, subst, arith, ⊎_elim}
use Rattle.std.specs.BTreeMap.{is_at}
use Rattle.std.specs.BTreeSet.{BTreeSet, contains, contains_by}
use Rattle.std.specs.Cmp.{Equal-is, nat_cmp_is}
use Rattle.std.specs.Cmp.Lexicographic.{slice_cmp}
use Rattle.std.specs.List.{list_any}
use Rattle.std.specs.Ordering.{nat_cmp, ordering_then}
use Rattle.std.specs.declared.cmp.Ordering.{Ordering}
use Rattle.std.specs.declared.cmp.Ordering.TheVariants.{Less, Equal, Greater}
use Rattle.std.proofs.lemmas.Bool.{cases_lt}
use Rattle.std.proofs.lemmas.Cmp.{nat_list_cmp_total, tied_itself}
use Rattle.std.proofs.lemmas.Map.Lookups.{exact_bytes, exact_unsigned}
use mathlib.Core.Bool.{false≢true}
use Rattle.fileset_shapes.specs.domain_base.declared.place.Tag.{Tag}
use Rattle.fileset_shapes.specs.domain_base.contracts.place.TagOrd.TheImpl as tags
use Rattle.directory_faults.specs.Names.{IsNamedAlike, IsNamedBefore, IsNoted, name_order}
use Rattle.directory_faults.specs.declared.rows.RowThere.{RowThere}

-- ---- the order of names

pub then_equal : (a b : Ordering) → ordering_then a b ≡ Equal → (a ≡ Equal) × (b ≡ Equal)
then_equal Less b e = absurd (false≢true ((Equal-is Less).1 e))
then_equal Equal b e = (refl, e)
then_equal Greater b e = absurd (false≢true ((Equal-is Greater).1 e))

pub tags_alike : (a b : Tag) → (tags.ghosts).cmp a b ≡ Equal → a ≡ b
tags_alike a b e =
    let both = then_equal (nat_cmp a.slot b.slot) (nat_cmp a.seq b.seq) e in
    let slot = exact_unsigned a.slot b.slot both.0 in
    let seq = exact_unsigned a.seq b.seq both.1 in
    λ i. record { slot = slot i; seq = seq i }

pub tag_itself : (a : Tag) → (tags.ghosts).cmp a a ≡ Equal
tag_itself a = subst (λ o. ordering_then o (nat_cmp a.seq a.seq) ≡ Equal) (nat_cmp_is a.slot a.slot Equal refl) (sym (nat_cmp_is a.seq a.seq Equal refl))

abbrev pub Noted : Type 0
Noted = Tag × Bor (List ℕ)

abbrev pub noted_order : Noted → Noted → Ordering
noted_order x y = ordering_then ((tags.ghosts).cmp x.0 y.0) (slice_cmp nat_cmp x.1.now y.1.now)

-- a row's name as it is noted
abbrev noted_of : RowThere → Noted
noted_of r = (r.at.dir, record { ref_ptr = (0, 0); now = r.row.name })

orders_same : (names : BTreeSet Noted) (r : RowThere) (key : Noted) → key.0 ≡ r.at.dir → key.1.now ≡ r.row.name → contains noted_order names key ≡ contains_by (name_order r) names
orders_same names r key dir name = λ i. contains_by (λ (k : Noted). ordering_then ((tags.ghosts).cmp (dir i) k.0) (slice_cmp nat_cmp (name i) k.1.now)) names

alike_at : (row other : RowThere) (key : Noted) → key.0 ≡ row.at.dir → key.1.now ≡ row.row.name → (is_at (noted_order key) (noted_of other) ≡ true) ↔ IsNamedAlike row other
alike_at row other key dir name = (to_alike, from_alike)
  where
    to_alike : is_at (noted_order key) (noted_of other) ≡ true → IsNamedAlike row other
    to_alike is =
        let both = then_equal ((tags.ghosts).cmp key.0 other.at.dir) (slice_cmp nat_cmp key.1.now other.row.name) ((Equal-is (noted_order key (noted_of other))).0 is) in
        (sym dir ∙ tags_alike key.0 other.at.dir both.0, sym name ∙ exact_bytes key.1.now other.row.name both.1)

    from_alike : IsNamedAlike row other → is_at (noted_order key) (noted_of other) ≡ true
    from_alike (same, also) =
        let first : (tags.ghosts).cmp key.0 other.at.dir ≡ Equal = subst (λ (t : Tag). (tags.ghosts).cmp key.0 t ≡ Equal) (dir ∙ same) (tag_itself key.0) in
        let second : slice_cmp nat_cmp key.1.now other.row.name ≡ Equal = subst (λ (n : List ℕ). slice_cmp nat_cmp key.1.now n ≡ Equal) (name ∙ also) (tied_itself nat_list_cmp_total key.1.now) in
        (Equal-is (noted_order key (noted_of other))).1 (subst (λ o. ordering_then o (slice_cmp nat_cmp key.1.now other.row.name) ≡ Equal) (sym first) second)

-- ---- a name that is noted

not_not : (added has : Bool) → added ≡ not has → (not added ≡ true) ↔ (has ≡ true)
not_not added true e = ((λ _. refl), (λ _. ap not e))
not_not added false e = ((λ is. absurd (false≢true (sym (ap not e) ∙ is))), (λ is. absurd (false≢true is)))

pub was_noted : (names : BTreeSet Noted) (row : RowThere) (key : Noted) (added : Bool) → key.0 ≡ row.at.dir → key.1.now ≡ row.row.name
    → added ≡ not (contains noted_order names key) → (not added ≡ true) ↔ IsNoted names row
was_noted names row key added dir name is = not_not added (contains_by (name_order row) names) (is ∙ ap not (orders_same names row key dir name))

pub cond_true : (test has : Bool) → (cond test true has ≡ true) ↔ ((has ≡ true) ⊎ (test ≡ true))
cond_true true has = ((λ _. inr refl), (λ _. refl))
cond_true false has = ((λ is. inl is), (λ which. ⊎_elim (λ is. is) (λ is. absurd (false≢true is)) which))

pub now_noted : (old new : BTreeSet Noted) (row : RowThere) (key : Noted) → key.0 ≡ row.at.dir → key.1.now ≡ row.row.name
    → ((q : Noted) → contains noted_order new q ≡ cond (is_at (noted_order key) q) true (contains noted_order old q))
    → (other : RowThere) → IsNoted new other ↔ (IsNoted old other ⊎ IsNamedAlike row other)
now_noted old new row key dir name updates other = (
  λ is. ⊎_elim (λ has. inl has) (λ test. inr (alike.0 test)) (either.0 (sym there ∙ is)),
  λ which. there ∙ either.1 (⊎_elim (λ has. inl has) (λ same. inr (alike.1 same)) which),
)
  where
    alike : (is_at (noted_order key) (noted_of other) ≡ true) ↔ IsNamedAlike row other
    alike = alike_at row other key dir name

    there : contains noted_order new (noted_of other) ≡ cond (is_at (noted_order key) (noted_of other)) true (contains noted_order old (noted_of other))
    there = updates (noted_of other)

    either : (cond (is_at (noted_order key) (noted_of other)) true (contains noted_order old (noted_of other)) ≡ true) ↔ ((contains noted_order old (noted_of other) ≡ true) ⊎ (is_at (noted_order key) (noted_of other) ≡ true))
    either = cond_true (is_at (noted_order key) (noted_of other)) (contains noted_order old (noted_of other))

-- ---- row by row

-- the names of the rows in front of a place are noted
abbrev pub AreNoted : BTreeSet Noted → List RowThere → ℕ → Type 0
AreNoted names rows number = (r : RowThere) → IsNoted names r ↔ IsNamedBefore rows number r

pub none_noted : (names : BTreeSet Noted) (rows : List RowThere) → names.keys ≡ [] → AreNoted names rows 0
none_noted names rows empty r = (
  λ is. absurd (false≢true (sym (ap (list_any (is_at (name_order r))) empty) ∙ is)),
  λ (k, one, below, at, alike). absurd (omega (arith, below)),
)

some_same : (a b : RowThere) → Some a ≡ Some b → a ≡ b
some_same a b e = cc

pub one_noted : (old new : BTreeSet Noted) (rows : List RowThere) (number : ℕ) (row : RowThere) → slice_get rows number ≡ Some row → AreNoted old rows number
    → ((other : RowThere) → IsNoted new other ↔ (IsNoted old other ⊎ IsNamedAlike row other)) → AreNoted new rows (number + 1)
one_noted old new rows number row at are put r = (
  λ is. ⊎_elim (λ before. let (k, one, below, there, alike) = (are r).0 before in (k, one, omega (arith, below), there, alike)) (λ alike. (number, row, omega arith, at, alike)) ((put r).0 is),
  λ before. (put r).1 (last before),
)
  where
    last : IsNamedBefore rows (number + 1) r → IsNoted old r ⊎ IsNamedAlike row r
    last (k, one, below, there, alike) =
        ⊎_elim (λ low. inl ((are r).1 (k, one, low, there, alike)))
        (λ high.
        let here : k ≡ number = omega (arith, below, high) in
        inr (subst (λ (x : RowThere). IsNamedAlike x r) (some_same one row (sym there ∙ ap (slice_get rows) here ∙ at)) alike))
        (cases_lt k number)
