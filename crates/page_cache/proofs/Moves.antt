-- What becomes of the queue when the frame of one number waits for another group.
use Rattle.std.proofs.Common.{◌≡◌, ◌==◌, ◌∙◌, ◌^◌, ◌<◌, ℕ, true, false, List, Option, Some, None, IsSome, is_some, if◌then◌else◌, eqb-true, refl, sym, ap, subst, arith}
use Rattle.std.specs.Option.{ForSome}
use mathlib.Core.Bool.{false≢true}
use Rattle.page_store.specs.domain_base.declared.place.Home.{Home}
use Rattle.page_store.specs.sorted_sets.Homes.{number_of}
use Rattle.page_store.specs.sorted_sets.Rising.{value_at}
use Rattle.page_cache.specs.Queues.{Enters, Groups, IsQueueOf, Leaves, is_place, place_at, place_of, with_group}

pub some_none : {X : Type 0} (x : X) → None ≡ Some x → ⊥
some_none x is = false≢true (ap is_some is)

abbrev number_at : Option Home → ℕ
number_at None = 0
number_at (Some home) = number_of home

same_number : (n : ℕ) → (n == n) ≡ true
same_number n = grind arith

-- a place is that of a number in some group
pub at_group : (group : Option ℕ) (number place : ℕ) → place_of group number ≡ Some place → (r : ℕ) × (place ≡ place_at r number)
at_group None number place is = absurd (some_none _ is)
at_group (Some r) number place is = (r, grind (arith, is))

-- the frames of two numbers have no place in common
pub one_number : (one two : Option ℕ) (n m place : ℕ) → n < 2 ^ 64 → m < 2 ^ 64 → place_of one n ≡ Some place → place_of two m ≡ Some place → n ≡ m
one_number one two n m place n_narrow m_narrow first second =
    let a = at_group one n place first in
    let b = at_group two m place second in
    omega (arith, a.1, b.1)

-- where a place is none of the number's, the test says so
is_its_place : (place : Option ℕ) (q : ℕ) → is_place place q ≡ true → place ≡ Some q
is_its_place None q is = absurd (false≢true is)
is_its_place (Some p) q is = ap Some (eqb-true p q is)

is_its_place-same : (place : Option ℕ) (q : ℕ) → place ≡ Some q → is_place place q ≡ true
is_its_place-same place q is = rw is (same_number q)

-- a number that waits for another group is as narrow as the others
narrow_with : (groups : Groups) (number : ℕ) (group : Option ℕ) → number < 2 ^ 64 → ((n : ℕ) → ForSome (with_group number None groups n) (λ g. n < 2 ^ 64)) → (n : ℕ) → ForSome (with_group number group groups n) (λ g. n < 2 ^ 64)
narrow_with groups number group is_narrow narrow n g = (elim (number == n) as (λ b. (number == n) ≡ b → ((if b then None else groups n) ≡ Some g → n < 2 ^ 64) → (if b then group else groups n) ≡ Some g → n < 2 ^ 64) [
  | true ↦ λ t was has. subst (λ m. m < 2 ^ 64) (eqb-true number n t) is_narrow
  | false ↦ λ t was has. was has
]) refl (narrow n g)

-- and so where it is left out
narrow_out : (groups : Groups) (number : ℕ) → ((n : ℕ) → ForSome (groups n) (λ g. n < 2 ^ 64)) → (n : ℕ) → ForSome (with_group number None groups n) (λ g. n < 2 ^ 64)
narrow_out groups number narrow n g = elim (number == n) as (λ b. (if b then None else groups n) ≡ Some g → n < 2 ^ 64) [
  | true ↦ λ has. absurd (some_none _ has)
  | false ↦ λ has. narrow n g has
]

module _ (groups : Groups) (narrow : (n : ℕ) → ForSome (groups n) (λ s. n < 2 ^ 64)) where
  -- only a frame has a place
  pub narrow_place : (n place : ℕ) → place_of (groups n) n ≡ Some place → n < 2 ^ 64
  narrow_place n place is = (elim (groups n) as (λ s. groups n ≡ s → place_of s n ≡ Some place → n < 2 ^ 64) [
    | None ↦ λ at is. absurd (some_none _ is)
    | Some s ↦ λ at is. narrow n s at
  ]) refl is

  module _ (number : ℕ) (is_narrow : number < 2 ^ 64) (old new : List (ℕ × Home)) (queue : IsQueueOf groups old) where
    -- what the frame of the number had is there
    pub stood : ForSome (place_of (groups number) number) (λ place. IsSome (value_at old place))
    stood = queue.listed number

    module _ (leaves : Leaves old new number (groups number)) where
      listed_without : (n place : ℕ) → place_of (with_group number None groups n) n ≡ Some place → IsSome (value_at new place)
      listed_without n place = (elim (number == n) as (λ b. (number == n) ≡ b → place_of (if b then None else groups n) n ≡ Some place → IsSome (value_at new place)) [
        | true ↦ λ t is. absurd (some_none _ is)
        | false ↦ λ t is. (elim (is_place (place_of (groups number) number) place) as (λ b. is_place (place_of (groups number) number) place ≡ b → value_at new place ≡ (if b then None else value_at old place) → IsSome (value_at new place)) [
          | true ↦ λ at gone.
              let same : number ≡ n = one_number _ _ number n place is_narrow (narrow_place n place is) (is_its_place _ place at) is in
              absurd (false≢true (sym t ∙ rw same (same_number n)))
          | false ↦ λ at stays. subst IsSome (sym stays) (queue.listed n place is)
        ]) refl (leaves place)
      ]) refl

      only_without : (place : ℕ) (home : Home) → value_at new place ≡ Some home → place_of (with_group number None groups (number_of home)) (number_of home) ≡ Some place
      only_without place home is = (elim (is_place (place_of (groups number) number) place) as (λ b. is_place (place_of (groups number) number) place ≡ b → value_at new place ≡ (if b then None else value_at old place) → place_of (with_group number None groups (number_of home)) (number_of home) ≡ Some place) [
        | true ↦ λ at gone. absurd (some_none _ (sym gone ∙ is))
        | false ↦ λ at stays.
            let was = queue.only place home (sym stays ∙ is) in
            (elim (number == number_of home) as (λ b. (number == number_of home) ≡ b → place_of (if b then None else groups (number_of home)) (number_of home) ≡ Some place) [
              | true ↦ λ t.
                  let same : number ≡ number_of home = eqb-true _ _ t in
                  let its = subst (λ m. place_of (groups m) m ≡ Some place) (sym same) was in
                  absurd (false≢true (sym at ∙ is_its_place-same _ place its))
              | false ↦ λ t. was
            ]) refl
      ]) refl (leaves place)

      -- the queue has all others, once the home has left
      pub queue_without : IsQueueOf (with_group number None groups) new
      queue_without = record { narrow = narrow_out groups number narrow; listed = listed_without; only = only_without }

module _ (groups : Groups) (home : Home) (narrow : (n : ℕ) → ForSome (with_group (number_of home) None groups n) (λ s. n < 2 ^ 64)) where
  module _ (old new : List (ℕ × Home)) (queue : IsQueueOf (with_group (number_of home) None groups) old) (is_narrow : number_of home < 2 ^ 64) where
    -- nothing stands where the home is to stand
    pub is_free : (to : Option ℕ) → ForSome (place_of to (number_of home)) (λ place. value_at old place ≡ None)
    is_free to place at = (elim (value_at old place) as (λ v. value_at old place ≡ v → v ≡ None) [
      | None ↦ λ is. refl
      | Some other ↦ λ is.
          let its = queue.only place other is in
          let other_narrow = narrow_place (with_group (number_of home) None groups) narrow (number_of other) place its in
          (elim (number_of home == number_of other) as (λ b. (number_of home == number_of other) ≡ b → place_of (if b then None else groups (number_of other)) (number_of other) ≡ Some place → Some other ≡ None) [
            | true ↦ λ t has. absurd (some_none _ has)
            | false ↦ λ t has.
                let same : number_of home ≡ number_of other = one_number _ _ _ _ place is_narrow other_narrow at has in
                absurd (false≢true (sym t ∙ rw same (same_number (number_of other))))
          ]) refl its
    ]) refl

    module _ (to : Option ℕ) (enters : Enters old new home to) where
      listed_with : (n place : ℕ) → place_of (with_group (number_of home) to groups n) n ≡ Some place → IsSome (value_at new place)
      listed_with n place is = (elim (is_place (place_of to (number_of home)) place) as (λ b. is_place (place_of to (number_of home)) place ≡ b → value_at new place ≡ (if b then Some home else value_at old place) → IsSome (value_at new place)) [
        | true ↦ λ at here. subst IsSome (sym here) refl
        | false ↦ λ at stays. subst IsSome (sym stays) ((elim (number_of home == n) as (λ b. (number_of home == n) ≡ b → place_of (if b then to else groups n) n ≡ Some place → IsSome (value_at old place)) [
          | true ↦ λ t has.
              let same : number_of home ≡ n = eqb-true _ _ t in
              let its = subst (λ m. place_of to m ≡ Some place) (sym same) has in
              absurd (false≢true (sym at ∙ is_its_place-same _ place its))
          | false ↦ λ t has. queue.listed n place (rw t has)
        ]) refl is)
      ]) refl (enters place)

      only_with : (place : ℕ) (other : Home) → value_at new place ≡ Some other → place_of (with_group (number_of home) to groups (number_of other)) (number_of other) ≡ Some place
      only_with place other is = (elim (is_place (place_of to (number_of home)) place) as (λ b. is_place (place_of to (number_of home)) place ≡ b → value_at new place ≡ (if b then Some home else value_at old place) → place_of (with_group (number_of home) to groups (number_of other)) (number_of other) ≡ Some place) [
        | true ↦ λ at here.
            let same : number_of home ≡ number_of other = ap number_at (sym here ∙ is) in
            let its = is_its_place _ place at in
            rw (← same, same_number (number_of home)) its
        | false ↦ λ at stays.
            let was = queue.only place other (sym stays ∙ is) in
            (elim (number_of home == number_of other) as (λ b. (number_of home == number_of other) ≡ b → place_of (if b then None else groups (number_of other)) (number_of other) ≡ Some place → place_of (if b then to else groups (number_of other)) (number_of other) ≡ Some place) [
              | true ↦ λ t has. absurd (some_none _ has)
              | false ↦ λ t has. has
            ]) refl was
      ]) refl (enters place)

      -- the queue has the frame that stands so now
      pub queue_with : IsQueueOf (with_group (number_of home) to groups) new
      queue_with = record { narrow = narrow_with groups (number_of home) to is_narrow narrow; listed = listed_with; only = only_with }
