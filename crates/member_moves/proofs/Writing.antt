-- Where a page is written that moves, or does not.
use Rattle.std.proofs.Common.{◌≡◌, ℕ, zero, suc, ◌<◌, true, false, cond, List, [], ◌∷◌, length, get_or, Option, Some, None, Contains, refl, sym, ◌∙◌, ap, ⊎_elim, arith}
use Rattle.std.proofs.lemmas.Bool.{cases_Bool, or_from, or_parts}
use Rattle.std.proofs.lemmas.List.Folds.{list_any_at}
use Rattle.std.specs.List.{find, list_any}
use Rattle.std.specs.Option.{option_map}
use Rattle.log_recovery.specs.domain_base.declared.place.Home.{Home}
use Rattle.log_recovery.specs.page_store.Pages.{same_home}
use Rattle.member_moves.specs.declared.page_move.Move.{Move}
use Rattle.member_moves.specs.Moves.{AreApart, IsInNone, has_home, is_from, other_home, writes_of}
use Rattle.member_moves.proofs.HomeTests.{has_from, has_to, homes_same, not_the_home, other_swapped, same_itself}

-- a move among others is the first one that has its homes
found_by_home : (moves : List Move) (home : Home) (k : ℕ) (move : Move) → AreApart moves → k < length moves → get_or moves k move ≡ move → has_home home move ≡ true
    → find (has_home home) moves ≡ Some move
found_by_home [] home k move apart within is has = absurd (omega arith)
found_by_home (first ∷ moves) home zero move apart within is has =
    ap (λ b. cond b (Some first) (find (has_home home) moves)) (ap (has_home home) is ∙ has) ∙ ap Some is
found_by_home (first ∷ moves) home (suc k) move apart within is has =
    let there : list_any (has_home home) moves ≡ true = list_any_at (has_home home) moves k move (omega arith) (ap (has_home home) is ∙ has) in
    let not_first : has_home home first ≡ false =
    or_from (is_from home first) (same_home first.to home)
    (other_swapped home first.from (not_the_home moves first.from home apart.0 there))
    (other_swapped home first.to (not_the_home moves first.to home apart.1 there)) in
    ap (λ b. cond b (Some first) (find (has_home home) moves)) not_first
    ∙ found_by_home moves home k move apart.2 (omega arith) is has

other_of_from : (move : Move) → other_home move.from move ≡ move.to
other_of_from move = ap (λ b. cond b move.to move.from) (same_itself move.from)

other_of_to : (move : Move) → other_home move.to move ≡ move.from
other_of_to move =
    ⊎_elim
    (λ (same : same_home move.from move.to ≡ true). ap (λ b. cond b move.to move.from) same ∙ sym (homes_same move.from move.to same))
    (λ (other : same_home move.from move.to ≡ false). ap (λ b. cond b move.to move.from) other)
    (cases_Bool (same_home move.from move.to))

pub writes_of-from : (moves : List Move) (move : Move) → AreApart moves → Contains moves move → writes_of moves move.from ≡ (move.from, Some move.to)
writes_of-from moves move apart among =
    ap (λ (m : Option Move). (move.from, option_map (other_home move.from) m)) (found_by_home moves move.from among.0 move apart among.1 among.2 (has_from move))
    ∙ ap (λ (h : Home). (move.from, Some h)) (other_of_from move)

pub writes_of-to : (moves : List Move) (move : Move) → AreApart moves → Contains moves move → writes_of moves move.to ≡ (move.to, Some move.from)
writes_of-to moves move apart among =
    ap (λ (m : Option Move). (move.to, option_map (other_home move.to) m)) (found_by_home moves move.to among.0 move apart among.1 among.2 (has_to move))
    ∙ ap (λ (h : Home). (move.to, Some h)) (other_of_to move)

none_found : (moves : List Move) (home : Home) → IsInNone moves home → find (has_home home) moves ≡ None
none_found [] home none = refl
none_found (move ∷ moves) home none =
    let parts = or_parts (has_home home move) (list_any (has_home home) moves) none in
    ap (λ b. cond b (Some move) (find (has_home home) moves)) parts.0 ∙ none_found moves home parts.1

pub writes_of-alone : (moves : List Move) (home : Home) → IsInNone moves home → writes_of moves home ≡ (home, None)
writes_of-alone moves home none = ap (λ (m : Option Move). (home, option_map (other_home home) m)) (none_found moves home none)
