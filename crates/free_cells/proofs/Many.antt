-- Bits of many pages of a volume, one after the other.
use Rattle.std.proofs.Common.{◌≡◌, ◌∙◌, ℕ, zero, suc, ◌+◌, ◌<◌, Bool, true, false, ◌&&◌, ◌||◌, List, [], ◌∷◌, length, take, get_or, IsSome, if◌then◌else◌, nat_eq, refl, sym, ap, arith, ⊎_elim}
use Rattle.std.proofs.lemmas.Bool.{cases_eq, eq-eqb, ne_eqb, or_left, or_right}
use Rattle.std.proofs.lemmas.List.{take_more}
use Rattle.std.proofs.lemmas.List.Folds.{list_any-append}
use Rattle.std.specs.List.{list_any}
use Rattle.metadata_cells.specs.domain_base.declared.place.Home.{Home}
use Rattle.metadata_cells.specs.page_store.Pages.{Pages}
use Rattle.free_cells.specs.Marks.{is_marked}
use Rattle.free_cells.specs.Marking.{MarksAll}

or_false : (b : Bool) → (b || false) ≡ b
or_false true = refl
or_false false = refl

and_none : (b : Bool) → (b && false) ≡ false
and_none true = refl
and_none false = refl

-- one of some numbers passes a test, if one in front does or the one after them
pub any_more : {X : Type 0} (test : X → Bool) (xs : List X) (i : ℕ) (d : X) → i < length xs
    → list_any test (take (i + 1) xs) ≡ (list_any test (take i xs) || test (get_or xs i d))
any_more test xs i d within =
    ap (list_any test) (take_more xs i d within)
    ∙ list_any-append test (take i xs) (get_or xs i d ∷ [])
    ∙ ap (λ b. list_any test (take i xs) || b) (or_false (test (get_or xs i d)))

pub marks_none : (vol : ℕ) (is_used : Bool) (pages : Pages) → MarksAll vol (λ _. false) is_used pages pages
marks_none vol is_used pages = record {
  bits = λ u q. sym (ap (λ b. if b then is_used else is_marked pages u q) (and_none (nat_eq u vol)));
  there = λ home. refl;
  elsewhere = λ home apart. refl;
}

module _ (vol : ℕ) (among more all : ℕ → Bool) (is_used : Bool) (a b c : Pages) (first : MarksAll vol among is_used a b) (next : MarksAll vol more is_used b c)
    (both : (q : ℕ) → all q ≡ (among q || more q)) where
  bit_by : (u q : ℕ) (in_first in_then here : Bool) → is_marked b u q ≡ (if here && in_first then is_used else is_marked a u q)
      → (if here && in_then then is_used else is_marked b u q) ≡ (if here && (in_first || in_then) then is_used else is_marked a u q)
  bit_by u q true true true is = refl
  bit_by u q false true true is = refl
  bit_by u q true false true is = is
  bit_by u q false false true is = is
  bit_by u q in_first in_then false is = is

  pub marks_both : MarksAll vol all is_used a c
  marks_both = record {
    bits = λ u q. next.bits u q ∙ bit_by u q (among q) (more q) (nat_eq u vol) (first.bits u q) ∙ sym (ap (λ t. if nat_eq u vol && t then is_used else is_marked a u q) (both q));
    there = λ home. next.there home ∙ first.there home;
    elsewhere = λ home apart.
        next.elsewhere home (λ q is. apart q (both q ∙ or_right (among q) (more q) is))
        ∙ first.elsewhere home (λ q is. apart q (both q ∙ or_left (among q) (more q) is));
  }

-- what is said of it and of a store's room and old pages
pub record GoesOn (vol : ℕ) (among : ℕ → Bool) (is_used : Bool) (old new : Pages) (room room_now : ℕ) (before before_now : Pages) : Type 0 where
  pub marks : MarksAll vol among is_used old new
  pub same_room : room_now ≡ room
  pub same_before : before_now ≡ before

pub still_there : (vol : ℕ) (among : ℕ → Bool) (is_used : Bool) (old new : Pages) → MarksAll vol among is_used old new → (home : Home) → IsSome (old home) → IsSome (new home)
still_there vol among is_used old new marks home some = marks.there home ∙ some

pub any_at : {X : Type 0} (test : X → Bool) (xs : List X) (i : ℕ) (d : X) → i < length xs → test (get_or xs i d) ≡ true → list_any test xs ≡ true
any_at test [] i d within is = absurd (omega (arith, within))
any_at test (x ∷ xs) zero d within is = or_left (test x) (list_any test xs) is
any_at test (x ∷ xs) (suc i) d within is = or_right (test x) (list_any test xs) (any_at test xs i d (omega (arith, within)) is)

pub flip : (a b : ℕ) → nat_eq a b ≡ nat_eq b a
flip a b = ⊎_elim (λ same. eq-eqb a b same ∙ sym (eq-eqb b a (sym same))) (λ apart. ne_eqb a b apart ∙ sym (ne_eqb b a (λ e. apart (sym e)))) (cases_eq a b)

take_none : {X : Type 0} (i : ℕ) → take {A = X} i [] ≡ []
take_none zero = refl
take_none (suc i) = refl

pub take_whole : {X : Type 0} (xs : List X) (i : ℕ) → (i < length xs → ⊥) → take i xs ≡ xs
take_whole [] i far = take_none i
take_whole (x ∷ xs) zero far = absurd (far (omega arith))
take_whole {X} (x ∷ xs) (suc i) far = ap (λ (l : List X). x ∷ l) (take_whole xs i (λ within. far (omega (arith, within))))
