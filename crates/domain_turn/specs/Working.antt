-- Passes that are ready for work, and that come back from it.
use Rattle.std.specs.Prelude.{◌≡◌, ◌≤◌, ◌<◌, ℕ, List, None, false, length, slice_index_or}
use Rattle.domain_turn.specs.declared.pass.Pass.{Pass}
use Rattle.domain_turn.specs.declared.table.Turn.{Turn}
use Rattle.domain_turn.specs.Passes.{in_hand, known}
use Rattle.domain_turn.specs.Turns.{IsPassOf, passes_of}

-- the pass of a client, which has nothing in hand, may add `count` entries and has not ended
pub record IsReady {T : Type 0} (turn : Turn T) (client count : ℕ) (pass : Pass T) : Type 0 where
  pub here : IsPassOf turn pass
  pub free : in_hand pass ≡ None
  pub number : (known pass).number ≡ client
  pub low : client < 8
  pub left : count ≤ (known pass).left
  pub goes_on : (known pass).ended ≡ false

-- the pass has nothing in hand
pub record IsBack {T : Type 0} (turn : Turn T) (pass : Pass T) : Type 0 where
  pub here : IsPassOf turn pass
  pub free : in_hand pass ≡ None

-- the passes of a turn's clients, in their order, where each may add `count` entries
pub record AreReady {T : Type 0} (turn : Turn T) (count : ℕ) (passes : List (Pass T)) : Type 0 where
  pub all : length passes ≡ passes_of turn
  pub each : (client : ℕ) (d : Pass T) → client < length passes
      → IsReady turn client count (slice_index_or passes client d)

-- the passes of a turn, in their order, with nothing in hand
pub record AreBack {T : Type 0} (turn : Turn T) (passes : List (Pass T)) : Type 0 where
  pub all : length passes ≡ passes_of turn
  pub each : (number : ℕ) (d : Pass T) → number < length passes
      → IsBack turn (slice_index_or passes number d)
