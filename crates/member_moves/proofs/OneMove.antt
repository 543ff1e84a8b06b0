-- What each change of the moves makes of the one from each home.
use Rattle.std.proofs.Common.{◌≡◌, not, true, false, Bool, cond, List, [], ◌∷◌, Option, Some, None, refl, sym, ◌∙◌, ap, subst, if◌then◌else◌, ⊎_elim}
use Rattle.std.proofs.lemmas.Bool.{cases_Bool}
use Rattle.std.specs.Option.{option_map}
use Rattle.log_recovery.specs.domain_base.declared.place.Home.{Home}
use Rattle.log_recovery.specs.page_store.Pages.{same_home}
use Rattle.member_moves.specs.declared.page_move.Move.{Move}
use Rattle.member_moves.specs.declared.page_move.Phase.{Phase}
use Rattle.member_moves.specs.Moves.{IsInNone, is_from, move_of, rephased, reserved, started, with_phase, without}
use Rattle.member_moves.proofs.HomeTests.{beside, homes_same, other_swapped}
use Rattle.member_moves.proofs.StayApart.{from_kept}

-- the home of a move that is not from `from` is another one
other_from : (move : Move) (from home : Home) → is_from from move ≡ false → is_from home move ≡ true → same_home from home ≡ false
other_from move from home other is =
    other_swapped home from
    (subst (λ (h : Home). same_home h from ≡ false) (homes_same move.from home is) other)

pub move_of-started : (moves : List Move) (from to : Home) → IsInNone moves from → (home : Home)
    → move_of (started from to moves) home ≡ (if same_home from home then Some (reserved from to) else move_of moves home)
move_of-started [] from to none home = refl
move_of-started (move ∷ moves) from to none home =
    let by = beside from move moves none in
    let later = move_of (started from to moves) home in
    let new = Some (reserved from to) in
    ⊎_elim
    (λ is.
    ap (λ b. cond b (Some move) later) is
    ∙ sym (ap (λ b. cond b new (cond (is_from home move) (Some move) (move_of moves home))) (other_from move from home by.from is)
    ∙ ap (λ b. cond b (Some move) (move_of moves home)) is))
    (λ not_is.
    ap (λ b. cond b (Some move) later) not_is ∙ move_of-started moves from to by.rest home
    ∙ sym (ap (λ b. cond (same_home from home) new (cond b (Some move) (move_of moves home))) not_is))
    (cases_Bool (is_from home move))

pub move_of-with_phase : (moves : List Move) (phase : Phase) (from home : Home)
    → move_of (with_phase phase from moves) home ≡ option_map (rephased phase from) (move_of moves home)
move_of-with_phase [] phase from home = refl
move_of-with_phase (move ∷ moves) phase from home =
    let changed = rephased phase from in
    ap (λ (h : Home). cond (same_home h home) (Some (changed move)) (move_of (with_phase phase from moves) home)) (from_kept phase from move)
    ∙ ap (cond (is_from home move) (Some (changed move))) (move_of-with_phase moves phase from home)
    ∙ elim (is_from home move) as (λ b. cond b (Some (changed move)) (option_map changed (move_of moves home)) ≡ option_map changed (cond b (Some move) (move_of moves home))) [
      | true ↦ refl
      | false ↦ refl
    ]

pub move_of-without : (moves : List Move) (from home : Home)
    → move_of (without from moves) home ≡ (if same_home from home then None else move_of moves home)
move_of-without [] from home = let nothing : Option Move = None in elim (same_home from home) as (λ b. nothing ≡ cond b nothing nothing) [ true ↦ refl | false ↦ refl ]
move_of-without (move ∷ moves) from home =
    let still = without from moves in
    let rest = move_of-without moves from home in
    let found : Bool → Option Move = λ b. cond b (Some move) (move_of moves home) in
    ⊎_elim
    (λ is.
    ap (λ b. move_of (cond (not b) (move ∷ still) still) home) is ∙ rest
    ∙ sym (ap (λ (h : Home). cond (same_home from home) None (found (same_home h home))) (homes_same move.from from is)
    ∙ elim (same_home from home) as (λ b. cond b None (found b) ≡ cond b None (move_of moves home)) [ true ↦ refl | false ↦ refl ]))
    (λ other.
    ap (λ b. move_of (cond (not b) (move ∷ still) still) home) other
    ∙ ap (cond (is_from home move) (Some move)) rest
    ∙ ⊎_elim
    (λ here.
    ap (λ b. cond b (Some move) (cond (same_home from home) None (move_of moves home))) here
    ∙ sym (ap (λ b. cond b None (found (is_from home move))) (other_from move from home other here) ∙ ap found here))
    (λ away.
    ap (λ b. cond b (Some move) (cond (same_home from home) None (move_of moves home))) away
    ∙ sym (ap (λ b. cond (same_home from home) None (found b)) away))
    (cases_Bool (is_from home move)))
    (cases_Bool (is_from from move))
