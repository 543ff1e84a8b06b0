-- No home comes to be in two moves.
use Rattle.std.proofs.Common.{◌≡◌, ◌||◌, Bool, true, false, cond, List, [], ◌∷◌, refl, sym, ◌∙◌, ap, subst}
use Rattle.std.proofs.lemmas.Bool.{or_from}
use Rattle.std.proofs.lemmas.List.Folds.{list_any-append}
use Rattle.std.specs.List.{list_any}
use Rattle.std.specs.Prelude.{filter}
use Rattle.log_recovery.specs.domain_base.declared.place.Home.{Home}
use Rattle.log_recovery.specs.page_store.Pages.{same_home}
use Rattle.member_moves.specs.declared.page_move.Move.{Move}
use Rattle.member_moves.specs.declared.page_move.Phase.{Phase}
use Rattle.member_moves.specs.Moves.{AreApart, IsInNone, has_home, is_from, rephased, reserved, started, with_phase}
use Rattle.member_moves.proofs.HomeTests.{beside, other_swapped}

-- a move in another phase has the homes that it had
pub from_kept : (phase : Phase) (from : Home) (move : Move) → (rephased phase from move).from ≡ move.from
from_kept phase from move =
    elim (is_from from move) as (λ b. (cond b (record move { phase = phase }) move).from ≡ move.from) [
      | true ↦ refl
      | false ↦ refl
    ]

pub to_kept : (phase : Phase) (from : Home) (move : Move) → (rephased phase from move).to ≡ move.to
to_kept phase from move =
    elim (is_from from move) as (λ b. (cond b (record move { phase = phase }) move).to ≡ move.to) [
      | true ↦ refl
      | false ↦ refl
    ]

homes_kept : (phase : Phase) (from home : Home) (move : Move) → has_home home (rephased phase from move) ≡ has_home home move
homes_kept phase from home move =
    ap (λ (a : Home). same_home a home || same_home (rephased phase from move).to home) (from_kept phase from move)
    ∙ ap (λ (a : Home). same_home move.from home || same_home a home) (to_kept phase from move)

none_started : (moves : List Move) (from to home : Home) → IsInNone moves home → same_home from home ≡ false → same_home to home ≡ false → IsInNone (started from to moves) home
none_started moves from to home none old new =
    list_any-append (has_home home) moves (reserved from to ∷ [])
    ∙ or_from (list_any (has_home home) moves) (list_any (has_home home) (reserved from to ∷ [])) none
    (or_from (has_home home (reserved from to)) false (or_from (same_home from home) (same_home to home) old new) refl)

pub apart_started : (moves : List Move) (from to : Home) → AreApart moves → IsInNone moves from → IsInNone moves to → same_home from to ≡ false → AreApart (started from to moves)
apart_started [] from to apart none_from none_to other = (refl, refl, tt, other)
apart_started (move ∷ moves) from to apart none_from none_to other =
    let by_from = beside from move moves none_from in
    let by_to = beside to move moves none_to in (
      none_started moves from to move.from apart.0 (other_swapped move.from from by_from.from) (other_swapped move.from to by_to.from),
      none_started moves from to move.to apart.1 (other_swapped move.to from by_from.to) (other_swapped move.to to by_to.to),
      apart_started moves from to apart.2 by_from.rest by_to.rest other,
      apart.3,
    )

none_rephased : (moves : List Move) (phase : Phase) (from home : Home) → list_any (has_home home) (with_phase phase from moves) ≡ list_any (has_home home) moves
none_rephased [] phase from home = refl
none_rephased (move ∷ moves) phase from home =
    ap (λ b. b || list_any (has_home home) (with_phase phase from moves)) (homes_kept phase from home move)
    ∙ ap (λ b. has_home home move || b) (none_rephased moves phase from home)

pub apart_rephased : (moves : List Move) (phase : Phase) (from : Home) → AreApart moves → AreApart (with_phase phase from moves)
apart_rephased [] phase from apart = tt
apart_rephased (move ∷ moves) phase from apart =
    let still = with_phase phase from moves in (
      subst (IsInNone still) (sym (from_kept phase from move)) (none_rephased moves phase from move.from ∙ apart.0),
      subst (IsInNone still) (sym (to_kept phase from move)) (none_rephased moves phase from move.to ∙ apart.1),
      apart_rephased moves phase from apart.2,
      ap (λ (a : Home). same_home a (rephased phase from move).to) (from_kept phase from move) ∙ ap (same_home move.from) (to_kept phase from move) ∙ apart.3,
    )

none_left : (keep : Move → Bool) (moves : List Move) (home : Home) → IsInNone moves home → IsInNone (filter keep moves) home
none_left keep [] home none = refl
none_left keep (move ∷ moves) home none =
    let by = beside home move moves none in
    let rest = none_left keep moves home by.rest in
    elim (keep move) as (λ b. IsInNone (cond b (move ∷ filter keep moves) (filter keep moves)) home) [
      | true ↦ or_from (has_home home move) (list_any (has_home home) (filter keep moves)) (or_from (is_from home move) (same_home move.to home) by.from by.to) rest
      | false ↦ rest
    ]

-- moves that are some of those that are apart are apart
pub apart_left : (keep : Move → Bool) (moves : List Move) → AreApart moves → AreApart (filter keep moves)
apart_left keep [] apart = tt
apart_left keep (move ∷ moves) apart =
    let rest = apart_left keep moves apart.2 in
    elim (keep move) as (λ b. AreApart (cond b (move ∷ filter keep moves) (filter keep moves))) [
      | true ↦ (none_left keep moves move.from apart.0, none_left keep moves move.to apart.1, rest, apart.3)
      | false ↦ rest
    ]
