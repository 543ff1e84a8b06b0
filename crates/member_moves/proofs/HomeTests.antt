-- Which homes are the same, and which moves have a home.
use Rattle.std.proofs.Common.{◌≡◌, true, false, nat_eq, List, ◌∷◌, refl, sym, subst}
use Rattle.std.proofs.lemmas.Bool.{and_from, and_parts, both_ways, eq-eqb, eqb-true, false_from_ne_true, or_left, or_parts, or_right}
use Rattle.std.specs.List.{list_any}
use Rattle.log_recovery.specs.domain_base.declared.place.Home.{Home}
use Rattle.log_recovery.specs.page_store.Pages.{same_home}
use Rattle.member_moves.specs.declared.page_move.Move.{Move}
use Rattle.member_moves.specs.Moves.{IsInNone, has_home, is_from}

same_vol_page : (a b : Home) → a.vol ≡ b.vol → a.page ≡ b.page → a ≡ b
same_vol_page a b vol page = λ i. record { vol = vol i; page = page i }

pub homes_same : (a b : Home) → same_home a b ≡ true → a ≡ b
homes_same a b same =
    let both = and_parts (nat_eq a.vol b.vol) (nat_eq a.page b.page) same in
    same_vol_page a b (eqb-true a.vol b.vol both.0) (eqb-true a.page b.page both.1)

pub same_itself : (a : Home) → same_home a a ≡ true
same_itself a =
    and_from (nat_eq a.vol a.vol) (nat_eq a.page a.page) (eq-eqb a.vol a.vol refl)
    (eq-eqb a.page a.page refl)

-- where two homes differ, so they do the other way round
pub other_swapped : (a b : Home) → same_home a b ≡ false → same_home b a ≡ false
other_swapped a b other =
    false_from_ne_true (same_home b a) (λ same.
    both_ways (same_home a b) other
    (subst (λ (h : Home). same_home a h ≡ true) (sym (homes_same b a same)) (same_itself a)))

-- a home that is one of a move's is the same as none that is not
pub not_the_home : (moves : List Move) (a b : Home) → IsInNone moves a
    → list_any (has_home b) moves ≡ true → same_home b a ≡ false
not_the_home moves a b none there =
    false_from_ne_true (same_home b a) (λ same.
    both_ways (list_any (has_home a) moves) none
    (subst (λ (h : Home). list_any (has_home h) moves ≡ true) (homes_same b a same) there))

-- a move has its two homes
pub has_from : (move : Move) → has_home move.from move ≡ true
has_from move =
    or_left (same_home move.from move.from) (same_home move.to move.from) (same_itself move.from)

pub has_to : (move : Move) → has_home move.to move ≡ true
has_to move =
    or_right (same_home move.from move.to) (same_home move.to move.to) (same_itself move.to)

-- a home that is in none of the moves is none of the first one's
pub record IsBeside (home : Home) (move : Move) (moves : List Move) : Type 0 where
  pub from : same_home move.from home ≡ false
  pub to : same_home move.to home ≡ false
  pub rest : IsInNone moves home

pub beside : (home : Home) (move : Move) (moves : List Move) → IsInNone (move ∷ moves) home
    → IsBeside home move moves
beside home move moves none =
    let first = or_parts (has_home home move) (list_any (has_home home) moves) none in
    let homes = or_parts (is_from home move) (same_home move.to home) first.0 in
    record { from = homes.0; to = homes.1; rest = first.1 }
