-- What a pass knows of a turn, and what is counted over all passes.
use Rattle.std.specs.Prelude.{ℕ, ◌+◌, ◌==◌, ◌&&◌, Bool, true, false, nat_lt, List, [], ◌∷◌, length, Option, Some, None, is_some, filter}
use Rattle.fileset_values.specs.declared.command.Actor.{Actor}
use Rattle.fileset_values.specs.declared.command.Actor.TheVariants as actor
use Rattle.fileset_values.specs.declared.entry.Entry.{Entry}
use Rattle.domain_turn.specs.declared.view.Share.{Share}
use Rattle.domain_turn.specs.declared.view.View.{View}

-- the pass of this number adds the entries of this actor: 0 to 7 are the clients 1 to 8, 8 is the
-- mover's, and no other pass adds any
abbrev pub is_actor : ℕ → Actor → Bool
is_actor number (actor.Client client) = nat_lt number 8 && (client == number + 1)
is_actor number actor.Mover = number == 8

-- the entries that a pass added
abbrev pub entries_of : ℕ → List Entry → List Entry
entries_of number = filter (λ (entry : Entry). is_actor number entry.actor)

-- a count of each, added up
abbrev pub total : {X : Type 0} → (X → ℕ) → List X → ℕ
total count [] = 0
total count (x ∷ xs) = count x + total count xs

abbrev pub one_if : Bool → ℕ
one_if true = 1
one_if false = 0

-- 1 if it is this ticket
abbrev pub has_ticket : Option ℕ → ℕ → ℕ
has_ticket None ticket = 0
has_ticket (Some mine) ticket = one_if (mine == ticket)

module _ {T : Type 0} where
  -- how many passes the seat has
  abbrev pub passes_in : View T → ℕ
  passes_in view = length view.shares

  -- how many of them have this number
  abbrev pub times_in : ℕ → View T → ℕ
  times_in number view = total (λ (share : Share). one_if (share.number == number)) view.shares

  -- how many entries they may still add
  abbrev pub lefts_in : View T → ℕ
  lefts_in view = total (λ (share : Share). share.left) view.shares

  -- how many of them have ended
  abbrev pub ends_in : View T → ℕ
  ends_in view = total (λ (share : Share). one_if share.ended) view.shares

  -- 1 if the seat stands in the queue
  abbrev pub waits_in : View T → ℕ
  waits_in view = one_if (is_some view.ticket)

  -- 1 if it has the value
  abbrev pub holds_in : View T → ℕ
  holds_in view = one_if (is_some view.holds)
