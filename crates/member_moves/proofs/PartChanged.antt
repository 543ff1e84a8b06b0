-- A loop that changes each move.
use Rattle.std.proofs.Common.{◌≡◌, ℕ, ◌<◌, ◌≤◌, List, length, get_or, map, sym, ◌∙◌, arith}
use Rattle.std.proofs.lemmas.List.{length-map, get_or-map, ext_get_or}
use Rattle.log_recovery.specs.domain_base.declared.place.Home.{Home}
use Rattle.member_moves.specs.declared.page_move.Move.{Move}
use Rattle.member_moves.specs.Moves.{reserved}

-- the first i moves are changed, and the others are as they were
pub record IsPartChanged (change : Move → Move) (old new : List Move) (i : ℕ) : Type 0 where
  pub len : length new ≡ length old
  pub changed : (k : ℕ) (d : Move) → k < i → k < length old → get_or new k d ≡ change (get_or old k d)
  pub others : (k : ℕ) (d : Move) → i ≤ k → k < length old → get_or new k d ≡ get_or old k d

-- all are changed where the loop ends
pub all_changed : (change : Move → Move) (old new : List Move) (i : ℕ) → IsPartChanged change old new i → length new ≤ i → new ≡ map change old
all_changed change old new i part past =
    let home : Home = record { vol = 0; page = 0 } in
    let some = reserved home home in
    ext_get_or some new (map change old) (part.len ∙ sym (length-map old change))
    (λ k within. part.changed k some (omega arith) (omega (arith, part.len)) ∙ sym (get_or-map change old k some some (omega (arith, part.len))))
