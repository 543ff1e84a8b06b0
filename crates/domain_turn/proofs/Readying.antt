-- The passes that a new turn gives are ready for work.
use Rattle.std.proofs.Common.{◌≡◌, ℕ, zero, suc, ◌+◌, ◌<◌, ◌≤◌, List, [], ◌∷◌, length, map, slice_index_or, Contains, None, false, refl, ap, sym, ◌∙◌, arith, replicate, ◌*◌, suc-mul}
use lib.ListN.{length-map}
use Rattle.domain_turn.proofs.Opening.{length_from}
use Rattle.domain_turn.specs.declared.pass.Pass.{Pass}
use Rattle.domain_turn.specs.declared.table.Turn.{Turn}
use Rattle.domain_turn.specs.declared.view.Share.{Share}
use Rattle.domain_turn.specs.Kept.{shares_from}
use Rattle.domain_turn.specs.Passes.{in_hand, known}
use Rattle.domain_turn.specs.Telling.{Telling}
use Rattle.domain_turn.specs.Turns.{IsPassOf}
use Rattle.domain_turn.specs.Views.{total}
use Rattle.domain_turn.specs.Working.{IsBack, IsReady}

-- a new share: its number, and how much it may add
pub record IsNew (wanted least : ℕ) (share : Share) : Type 0 where
  pub number : share.number ≡ wanted
  pub left : least ≤ share.left
  pub goes_on : share.ended ≡ false

same_place : {A : Type 0} (xs : List A) (k : ℕ) (d : A) → k < length xs → slice_index_or xs k (slice_index_or xs k d) ≡ slice_index_or xs k d
same_place [] k d low = absurd (omega (arith, low))
same_place (x ∷ xs) zero d low = refl
same_place (x ∷ xs) (suc k) d low = same_place xs k d (omega (arith, low))

module _ {T : Type 0} (told : Telling T) (value : T) (left : ℕ) where
  -- where each may add as much
  abbrev pub AllMay : List ℕ → Type 0
  AllMay [] = Unit {0}
  AllMay (x ∷ xs) = (left ≤ x) × AllMay xs

  new_at : (number : ℕ) (lefts : List ℕ) (passes : List (Pass T)) (k : ℕ) (d : Pass T) → AllMay lefts → map known passes ≡ shares_from told value number lefts → k < length passes
      → IsNew (number + k) left (known (slice_index_or passes k d))
  new_at number [] [] k d may are low = absurd (omega (arith, low))
  new_at number [] (pass ∷ passes) k d may are low = absurd (cc are)
  new_at number (x ∷ xs) [] k d may are low = absurd (omega (arith, low))
  new_at number (x ∷ xs) (pass ∷ passes) zero d may are low = let is = cons_first are in record {
    number = ap (λ (s : Share). s.number) is ∙ omega arith;
    left = let bound = may.0 in let same = ap (λ (s : Share). s.left) is in omega (arith, bound, same);
    goes_on = ap (λ (s : Share). s.ended) is;
  }
    where
      cons_first : {A : Type 0} {a b : A} {xs ys : List A} → (a ∷ xs) ≡ (b ∷ ys) → a ≡ b
      cons_first same = cc same
  new_at number (x ∷ xs) (pass ∷ passes) (suc k) d may are low =
      let next = new_at (number + 1) xs passes k d may.1 (cc are) (omega (arith, low)) in record {
        number = let is = next.number in omega (arith, is);
        left = next.left;
        goes_on = next.goes_on;
      }

  -- the passes of clients that a new turn gave
  pub all_ready : (turn : Turn T) (lefts : List ℕ) (passes : List (Pass T)) → AllMay lefts → length lefts ≤ 8 → map known passes ≡ shares_from told value 0 lefts
      → length passes ≡ length lefts → ((pass : Pass T) → Contains passes pass → IsPassOf turn pass × (in_hand pass ≡ None))
      → (k : ℕ) (d : Pass T) → k < length passes → IsReady turn k left (slice_index_or passes k d)
  all_ready turn lefts passes may few are as_many each k d low =
      let is = new_at 0 lefts passes k d may are low in
      let there = each (slice_index_or passes k d) (k, low, same_place passes k d low) in record {
        here = there.0;
        free = there.1;
        number = let number = is.number in omega (arith, number);
        low = omega (arith, low, few, as_many);
        left = is.left;
        goes_on = is.goes_on;
      }

-- n times the same: what they may add together
pub sum_of : (n x : ℕ) → total (λ (left : ℕ). left) (replicate n x) ≡ n * x
sum_of zero x = omega arith
sum_of (suc n) x = let rest = sum_of n x in omega (arith, rest, suc-mul n x)

pub all_may : {T : Type 0} (told : Telling T) (value : T) (n x : ℕ) → AllMay told value x (replicate n x)
all_may told value zero x = tt
all_may told value (suc n) x = (omega arith, all_may told value n x)

-- a pass for each number
pub as_many_passes : {T : Type 0} (told : Telling T) (value : T) (lefts : List ℕ) (passes : List (Pass T)) → map known passes ≡ shares_from told value 0 lefts → length passes ≡ length lefts
as_many_passes told value lefts passes are = sym (length-map passes known) ∙ ap length are ∙ length_from told value 0 lefts

module _ {T : Type 0} where
  -- the passes that a new turn gave have nothing in hand
  pub all_back : (turn : Turn T) (passes : List (Pass T)) → ((pass : Pass T) → Contains passes pass → IsPassOf turn pass × (in_hand pass ≡ None))
      → (k : ℕ) (d : Pass T) → k < length passes → IsBack turn (slice_index_or passes k d)
  all_back turn passes each k d low = let there = each (slice_index_or passes k d) (k, low, same_place passes k d low) in record { here = there.0; free = there.1 }
