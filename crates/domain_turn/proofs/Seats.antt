-- What a seat's view says, by cases.
use Rattle.std.proofs.Common.{◌+◌, ◌≤◌, ℕ, zero, suc, drop, get_or, ◌≡◌, Option, Some, None, is_some, IsSomeAnd, MatchBool, true, false, Bool, refl, sym, arith, ◌<◌, List, [], ◌∷◌, ◌++◌, ◌∙◌, ap, append_assoc, length}
use mathlib.Core.Bool.{false≢true}
use Rattle.domain_turn.specs.declared.pass.Pass.{Pass}
use Rattle.domain_turn.specs.Kept.{resting}
use Rattle.domain_turn.specs.Passes.{in_hand, known}
use Rattle.domain_turn.specs.Plays.{carried_by}

pub some_and : {X : Type 0} (P : X → Type 0) (o : Option X) → IsSomeAnd o P → (x : X) × (o ≡ Some x) × P x
some_and P None is = absurd is
some_and P (Some x) is = (x, refl, is)

pub some_of : {X : Type 0} (o : Option X) → is_some o ≡ true → (x : X) × (o ≡ Some x)
some_of None is = absurd (false≢true is)
some_of (Some x) is = (x, refl)

pub match_true : (A B : Type 0) (b : Bool) → b ≡ true → MatchBool b A B → A
match_true A B true is side = side
match_true A B false is side = absurd (false≢true is)

pub none_of : {X : Type 0} (o : Option X) → is_some o ≡ false → o ≡ None
none_of None is = refl
none_of (Some x) is = absurd (false≢true (sym is))

-- a list that is not empty has a first element
pub first_there : {X : Type 0} (xs : List X) → 0 < length xs → (x : X) × (more : List X) × (xs ≡ x ∷ more)
first_there [] some = absurd (omega (arith, some))
first_there (x ∷ xs) some = (x, xs, refl)

pub emptied : {X : Type 0} (xs : List X) → length xs ≡ 0 → xs ≡ []
emptied [] none = refl
emptied (x ∷ xs) none = absurd (omega (arith, none))

-- one of a list goes to the end of another: together they are as they were
pub moved_over : {X : Type 0} (old new : List X) (x : X) (xs rest more all : List X) → xs ≡ x ∷ more → rest ≡ more → new ≡ old ++ x ∷ [] → old ++ xs ≡ all → new ++ rest ≡ all
moved_over old new x xs rest more all first rest_is new_is whole =
    (λ c. new_is c ++ rest_is c) ∙ append_assoc old (x ∷ []) more ∙ ap (λ back. old ++ back) (sym first) ∙ whole

-- what the seat of a pass that has nothing in hand knows
pub idle : {T : Type 0} (pass : Pass T) → in_hand pass ≡ None → pass.seat.me ≡ (resting (known pass ∷ []), [])
idle pass free = λ c. (
  record { shares = pass.one c; ticket = none_of pass.seat.me.0.ticket (pass.queued ∙ ap is_some free) c; holds = free c },
  (pass.carried ∙ ap carried_by free) c,
)

-- the elements from a place on begin with the one that stands there
pub from_there : (xs : List ℕ) (k : ℕ) → k < length xs → drop k xs ≡ get_or xs k 0 ∷ drop (k + 1) xs
from_there xs k low = let same : suc k ≡ k + 1 = omega arith in by_next xs k low ∙ ap (λ (n : ℕ). get_or xs k 0 ∷ drop n xs) same
  where
    by_next : (xs : List ℕ) (k : ℕ) → k < length xs → drop k xs ≡ get_or xs k 0 ∷ drop (suc k) xs
    by_next [] k low = absurd (omega (arith, low))
    by_next (x ∷ xs) zero low = refl
    by_next (x ∷ xs) (suc k) low = by_next xs k (omega (arith, low))

-- after the last there is none
pub past_all : (xs : List ℕ) (k : ℕ) → length xs ≤ k → drop k xs ≡ []
past_all [] zero low = refl
past_all [] (suc k) low = refl
past_all (x ∷ xs) zero low = absurd (omega (arith, low))
past_all (x ∷ xs) (suc k) low = past_all xs k (omega (arith, low))
