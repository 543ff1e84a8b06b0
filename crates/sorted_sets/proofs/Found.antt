-- Spans that meet another one.
use Rattle.std.proofs.Common.{◌≡◌, ◌∙◌, ◌⊎◌, ◌↔◌, ◌==◌, inl, inr, ℕ, ◌+◌, ◌<◌, ◌≤◌, true, false, IsTrue, List, get_or, length, Option, Some, None, IfNone, IfSome, is_some, Result, Ok, Err, OnErr, OnOk, if◌then◌else◌, eqb-true, refl, sym, ap, subst, arith, ⊎_elim}
use Rattle.std.proofs.lemmas.Bool.{cases_lt}
use mathlib.Core.Bool.{false≢true}
use Rattle.std.proofs.lemmas.Bool.Decides.{nat_tests}
use Rattle.sorted_sets.specs.Rising.{Drops, IsRising, Sets, value_at}
use Rattle.sorted_sets.proofs.Search.{value-present}
use Rattle.sorted_sets.proofs.Placed.{placed}
use Rattle.sorted_sets.specs.Spans.{AreSpans, HasIn, Meets}
use Rattle.sorted_sets.specs.declared.span.Span.{Span}

some_same : {X : Type 0} (a b : X) → Some a ≡ Some b → a ≡ b
some_same a b e = cc

none_some : {X : Type 0} (x : X) → None ≡ Some x → ⊥
none_some x e = cc

abbrev pub Entry : Type 0
Entry = ℕ × ℕ

-- none begins before a number, so none meets what ends there
pub none_before : (spans : List Entry) (span : Span) → ((k : ℕ) (d : Entry) → 0 ≤ k → k < length spans → span.to ≤ (get_or spans k d).0)
    → (met : Span) → value_at spans met.from ≡ Some met.to → ¬ Meets span met
none_before spans span back met has (before, behind) =
    let there = placed spans met.from met.to has in
    let first : (get_or spans there.0 (met.from, met.to)).0 ≡ met.from = ap (λ (e : Entry). e.0) there.2 in
    omega (arith, back there.0 (met.from, met.to) (omega arith) there.1, first, before)

module _ (spans : List Entry) (rising : IsRising spans) (are : AreSpans spans) (span : Span) (count last : ℕ) (is_last : count ≡ last + 1) (within : count ≤ length spans)
    (front : (k : ℕ) (d : Entry) → k < count → (get_or spans k d).0 < span.to)
    (back : (k : ℕ) (d : Entry) → count ≤ k → k < length spans → span.to ≤ (get_or spans k d).0)
    (from to : ℕ) (at : (d : Entry) → get_or spans last d ≡ (from, to)) where
  pub last_there : value_at spans from ≡ Some to
  last_there =
      value-present spans rising from last (from, to) (omega (arith, is_last, within)) (ap (λ (e : Entry). e.0) (at (from, to))) ∙ ap (λ (e : Entry). Some e.1) (at (from, to))

  pub last_met : span.from < to → Meets span (record { from = from; to = to })
  last_met behind =
      let first : (get_or spans last (from, to)).0 ≡ from = ap (λ (e : Entry). e.0) (at (from, to)) in
      (omega (arith, front last (from, to) (omega (arith, is_last)), first), behind)

  -- if the last one before the end of another does not meet it, none does
  pub none_met : to ≤ span.from → (met : Span) → value_at spans met.from ≡ Some met.to → ¬ Meets span met
  none_met ends met has (before, behind) =
      let there = placed spans met.from met.to has in
      let one : Entry = (met.from, met.to) in
      let first : (get_or spans there.0 one).0 ≡ met.from = ap (λ (e : Entry). e.0) there.2 in
      let last_first : (get_or spans last one).0 ≡ from = ap (λ (e : Entry). e.0) (at one) in
      ⊎_elim
      (λ low.
      let rises = rising there.0 last one low (omega (arith, is_last, within)) in
      let apart = are.apart met.from met.to from to has last_there (omega (arith, rises, first, last_first)) in
      let some = are.some from to last_there in
      omega (arith, apart, some, ends, behind))
      (λ high. ⊎_elim
      (λ further. omega (arith, back there.0 one (omega (arith, further, is_last)) there.1, first, before))
      (λ near.
      let here : there.0 ≡ last = omega (arith, high, near) in
      let alike : one ≡ (from, to) = sym there.2 ∙ subst (λ k. get_or spans k one ≡ (from, to)) (sym here) (at one) in
      let ends_there : met.to ≡ to = ap (λ (e : Entry). e.1) alike in
      omega (arith, ends_there, ends, behind))
      (cases_lt last there.0))
      (cases_lt there.0 last)

-- ---- a span that meets another one is taken off

module _ (old new : List Entry) (are : AreSpans old) (span met : Span) (some : span.from < span.to) (there : value_at old met.from ≡ Some met.to) (meets : Meets span met)
    (drops : Drops old new met.from) where
  still : (from to : ℕ) → value_at new from ≡ Some to → (¬ met.from ≡ from) × (value_at old from ≡ Some to)
  still from to has = elim (met.from == from) as (λ b. (met.from == from) ≡ b → value_at new from ≡ (if b then None else value_at old from) → (¬ met.from ≡ from) × (value_at old from ≡ Some to)) [
    | true ↦ λ test was. absurd (none_some to (sym was ∙ has))
    | false ↦ λ test was. ((λ same. absurd (grind (arith, nat_tests))), sym was ∙ has)
  ] refl (drops from)

  stays : (from to : ℕ) → ¬ met.from ≡ from → value_at old from ≡ Some to → value_at new from ≡ Some to
  stays from to other has = elim (met.from == from) as (λ b. (met.from == from) ≡ b → value_at new from ≡ (if b then None else value_at old from) → value_at new from ≡ Some to) [
    | true ↦ λ test was. absurd (other (eqb-true met.from from test))
    | false ↦ λ test was. was ∙ has
  ] refl (drops from)

  pub taken_spans : AreSpans new
  taken_spans = record {
    some = λ from to has. are.some from to (still from to has).1;
    apart = λ from to other end has also. are.apart from to other end (still from to has).1 (still other end also).1;
  }

  module _ (from to n : ℕ) (least : (from ≤ span.from) × (from ≤ met.from) × ((from ≡ span.from) ⊎ (from ≡ met.from)))
      (most : (span.to ≤ to) × (met.to ≤ to) × ((to ≡ span.to) ⊎ (to ≡ met.to))) where
    in_both : (from ≤ n) → (n < to) → ((span.from ≤ n) × (n < span.to)) ⊎ ((met.from ≤ n) × (n < met.to))
    in_both begins ends =
        ⊎_elim
        (λ low. inr (⊎_elim (λ is. absurd (omega (arith, is, low, begins))) (λ is. omega (arith, is, begins)) least.2, omega (arith, low, meets.1)))
        (λ high. ⊎_elim (λ inside. inl (high, inside))
        (λ out. inr (omega (arith, out, meets.0), ⊎_elim (λ is. absurd (omega (arith, is, out, ends))) (λ is. omega (arith, is, ends)) most.2)) (cases_lt n span.to))
        (cases_lt n span.from)

    pub taken_same : (HasIn new n ⊎ ((from ≤ n) × (n < to))) ↔ (HasIn old n ⊎ ((span.from ≤ n) × (n < span.to)))
    taken_same = (
      λ which. ⊎_elim (λ (f, t, has, begins, ends). inl (f, t, (still f t has).1, begins, ends))
          (λ (begins, ends). ⊎_elim (λ in_span. inr in_span) (λ in_met. inl (met.from, met.to, there, in_met.0, in_met.1)) (in_both begins ends)) which,
      λ which. ⊎_elim (λ (f, t, has, begins, ends). by_first f t has begins ends) (λ (begins, ends). inr (omega (arith, least.0, begins), omega (arith, most.0, ends))) which,
    )
      where
        by_first : (f t : ℕ) → value_at old f ≡ Some t → f ≤ n → n < t → HasIn new n ⊎ ((from ≤ n) × (n < to))
        by_first f t has begins ends =
            ⊎_elim (λ low. inl (f, t, stays f t (λ e. omega (arith, e, low)) has, begins, ends))
            (λ high. ⊎_elim (λ low. inl (f, t, stays f t (λ e. omega (arith, e, low)) has, begins, ends))
            (λ least_too.
            let same : f ≡ met.from = omega (arith, high, least_too) in
            let ends_so : t ≡ met.to = some_same t met.to (sym has ∙ ap (value_at old) same ∙ there) in
            inr (omega (arith, least.1, same, begins), omega (arith, most.1, ends_so, ends)))
            (cases_lt met.from f))
            (cases_lt f met.from)

-- ---- a span that meets none is put on the list

module _ (old new : List Entry) (are : AreSpans old) (span : Span) (some : span.from < span.to) (none : (met : Span) → value_at old met.from ≡ Some met.to → ¬ Meets span met)
    (sets : Sets old new span.from span.to) where
  either : (from to : ℕ) → value_at new from ≡ Some to → ((from ≡ span.from) × (to ≡ span.to)) ⊎ (value_at old from ≡ Some to)
  either from to has = elim (span.from == from) as (λ b. (span.from == from) ≡ b → value_at new from ≡ (if b then Some span.to else value_at old from) → ((from ≡ span.from) × (to ≡ span.to)) ⊎ (value_at old from ≡ Some to)) [
    | true ↦ λ test is. inl (sym (eqb-true span.from from test), some_same to span.to (sym has ∙ is))
    | false ↦ λ test is. inr (sym is ∙ has)
  ] refl (sets from)

  here : value_at new span.from ≡ Some span.to
  here = elim (span.from == span.from) as (λ b. (span.from == span.from) ≡ b → value_at new span.from ≡ (if b then Some span.to else value_at old span.from) → value_at new span.from ≡ Some span.to) [
    | true ↦ λ test is. is
    | false ↦ λ test is. absurd (grind (arith, nat_tests))
  ] refl (sets span.from)

  kept : (from to : ℕ) → value_at old from ≡ Some to → value_at new from ≡ Some to
  kept from to has = elim (span.from == from) as (λ b. (span.from == from) ≡ b → value_at new from ≡ (if b then Some span.to else value_at old from) → value_at new from ≡ Some to) [
    | true ↦ λ test is.
        let same = eqb-true span.from from test in
        let ends = are.some from to has in
        absurd (none (record { from = from; to = to }) has (omega (arith, same, some), omega (arith, same, ends)))
    | false ↦ λ test is. is ∙ has
  ] refl (sets from)

  apart_from : (from to : ℕ) → value_at old from ≡ Some to → (to ≤ span.from) ⊎ (span.to ≤ from)
  apart_from from to has =
      ⊎_elim (λ before. ⊎_elim (λ behind. absurd (none (record { from = from; to = to }) has (before, behind))) (λ ends. inl ends) (cases_lt span.from to)) (λ after. inr after) (cases_lt from span.to)

  pub put_spans : AreSpans new
  put_spans = record {
    some = λ from to has. ⊎_elim (λ is. omega (arith, is.0, is.1, some)) (λ was. are.some from to was) (either from to has);
    apart = λ from to other end has also less. ⊎_elim
        (λ is. ⊎_elim (λ same. omega (arith, is.0, same.0, less))
        (λ was. ⊎_elim (λ ends. let some_too = are.some other end was in omega (arith, ends, is.0, less, some_too)) (λ begins. omega (arith, begins, is.1)) (apart_from other end was)) (either other end also))
        (λ was. ⊎_elim (λ same. ⊎_elim (λ ends. omega (arith, ends, same.0)) (λ begins. omega (arith, begins, same.0, less, some)) (apart_from from to was))
        (λ was_too. are.apart from to other end was was_too less) (either other end also))
        (either from to has);
  }

  pub put_has : (n : ℕ) → HasIn new n ↔ (HasIn old n ⊎ ((span.from ≤ n) × (n < span.to)))
  put_has n = (
    λ (from, to, has, begins, ends). ⊎_elim (λ is. inr (omega (arith, is.0, begins), omega (arith, is.1, ends))) (λ was. inl (from, to, was, begins, ends)) (either from to has),
    λ which. ⊎_elim (λ (from, to, has, begins, ends). (from, to, kept from to has, begins, ends)) (λ (begins, ends). (span.from, span.to, here, begins, ends)) which,
  )

-- ---- whether a span has a number of a set

pub meets_some : (spans : List Entry) (are : AreSpans spans) (span met : Span) → span.from < span.to → value_at spans met.from ≡ Some met.to → Meets span met
    → (n : ℕ) × ((span.from ≤ n) × (n < span.to)) × HasIn spans n
meets_some spans are span met some there meets =
    let some_too = are.some met.from met.to there in
    ⊎_elim (λ low. (met.from, (omega (arith, low), meets.0), (met.from, met.to, there, omega arith, some_too)))
    (λ high. (span.from, (omega arith, some), (met.from, met.to, there, high, meets.1)))
    (cases_lt span.from met.from)

pub one_decides : (spans : List Entry) (are : AreSpans spans) (span : Span) → span.from < span.to → (met : Option Span) → IfSome met (λ m. (value_at spans m.from ≡ Some m.to) × Meets span m)
    → IfNone met ((m : Span) → value_at spans m.from ≡ Some m.to → ¬ Meets span m) → IsTrue (is_some met) ↔ ((n : ℕ) × ((span.from ≤ n) × (n < span.to)) × HasIn spans n)
one_decides spans are span some (Some met) there none = ((λ yes. meets_some spans are span met some there.0 there.1), (λ has. refl))
one_decides spans are span some None there none = (
  λ yes. absurd (false≢true yes),
  λ (n, of, (from, to, has, begins, ends)). absurd (none (record { from = from; to = to }) has (omega (arith, begins, of.1), omega (arith, ends, of.0))),
)

-- ---- a span put on the list, if memory can be had

module _ {E : Type 0} (r : Result (Unit {0}) E) (old new : List Entry) (are : AreSpans old) (span : Span) (some : span.from < span.to)
    (none : (met : Span) → value_at old met.from ≡ Some met.to → ¬ Meets span met) where
  pub spans_after : OnOk r (Sets old new span.from span.to) → OnErr r (new ≡ old) → AreSpans new
  spans_after = elim r as (λ r. OnOk r (Sets old new span.from span.to) → OnErr r (new ≡ old) → AreSpans new) [
    | Ok _ ↦ λ sets same. put_spans old new are span some none sets
    | Err _ ↦ λ sets same. subst AreSpans (sym same) are
  ]

  pub has_after : OnOk r (Sets old new span.from span.to) → OnOk r ((n : ℕ) → HasIn new n ↔ (HasIn old n ⊎ ((span.from ≤ n) × (n < span.to))))
  has_after = elim r as (λ r. OnOk r (Sets old new span.from span.to) → OnOk r ((n : ℕ) → HasIn new n ↔ (HasIn old n ⊎ ((span.from ≤ n) × (n < span.to))))) [
    | Ok _ ↦ λ sets. put_has old new are span some none sets
    | Err _ ↦ λ sets. tt
  ]

pub on_ok : {E : Type 0} (r : Result (Unit {0}) E) (P Q : Type 0) → (P → Q) → OnOk r P → OnOk r Q
on_ok (Ok _) P Q more is = more is
on_ok (Err _) P Q more is = tt
