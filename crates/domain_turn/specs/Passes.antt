-- Passes of a turn, as its callers see them.
use Rattle.std.specs.Prelude.{◌≡◌, ◌==◌, ◌<◌, ◌≤◌, ℕ, List, ◌∷◌, ◌++◌, length, Option, Contains, map}
use mathlib.Core.List.{IsPrefix}
use Rattle.fileset_values.specs.declared.entry.Entry.{Entry}
use Rattle.domain_turn.specs.Plays.{share_in}
use Rattle.domain_turn.specs.Telling.{Telling}
use Rattle.domain_turn.specs.Views.{entries_of, is_actor, one_if, total}
use Rattle.domain_turn.specs.declared.pass.Pass.{Pass}
use Rattle.domain_turn.specs.declared.view.Share.{Share}

module _ {T : Type 0} where
  -- what a pass knows
  abbrev pub known : Pass T → Share
  known pass = share_in pass.seat.me.0

  -- the value that it took and has not put back
  abbrev pub in_hand : Pass T → Option T
  in_hand pass = pass.seat.me.0.holds

-- the value with which a turn ends: it is at rest, begins with what each of these passes saw, lasts
-- as far as they were told, and what was added since the start is what they say, and no more: each
-- number below that of the passes is one pass's
pub record IsLast {T : Type 0} (told : Telling T) (shares : List Share) (start : List Entry) (value : T) : Type 0 where
  pub rests : told.rests value
  pub news : List Entry
  pub history : told.history value ≡ start ++ news
  pub seen : (share : Share) → Contains shares share → IsPrefix share.seen (told.history value)
  pub mine : (share : Share) → Contains shares share → entries_of share.number news ≡ share.mine
  pub actors : (entry : Entry) → Contains news entry
      → (number : ℕ) × (number < length shares) × (is_actor number entry.actor ≡ Rattle.std.specs.Prelude.true)
  pub all : (number : ℕ) → number < length shares
      → total (λ (share : Share). one_if (share.number == number)) shares ≡ 1
  pub begun : (share : Share) → Contains shares share → share.number ≡ 8
      → told.begun value ≡ share.begun
  pub committed : (share : Share) → Contains shares share
      → share.committed ≤ length (told.history value)
  pub durable : (share : Share) → Contains shares share → share.durable ≤ told.lasting value
  pub lefts : total (λ (share : Share). share.left) shares ≤ told.room value
