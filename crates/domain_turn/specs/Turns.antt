-- A turn, as its callers see it.
use Rattle.std.specs.Prelude.{◌≡◌, ℕ, length}
use Rattle.domain_turn.specs.declared.pass.Pass.{Pass}
use Rattle.domain_turn.specs.declared.table.Turn.{Turn}

module _ {T : Type 0} where
  -- the value with which it began
  abbrev pub start_of : Turn T → T
  start_of turn = turn.table.shared.key.value.value

  -- how many passes were made
  abbrev pub passes_of : Turn T → ℕ
  passes_of turn = length turn.table.shared.key.lefts.items

  -- the pass is one of the turn
  abbrev pub IsPassOf : Turn T → Pass T → Type 0
  IsPassOf turn pass = pass.seat.table_id ≡ turn.table.shared.table_id
