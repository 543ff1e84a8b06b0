-- What holds of the words, the slot and the views of a turn, whatever the threads do. The words are
-- the tickets drawn and the ticket served, both modulo 2^64, the length of the history, how much of
-- it lasts, and how many passes have ended.
use Rattle.std.specs.Prelude.{◌≡◌, ℕ, ◌+◌, ◌%◌, ◌^◌, ◌<◌, ◌≤◌, true, nat_lt, List, [], ◌∷◌, ◌++◌, length, Option, Some, None, Contains}
use mathlib.Core.Option.{some}
use mathlib.Core.List.{IsPrefix}
use lib.ListN.{get_elem?}
use Rattle.atomic_table.specs.Table.{State}
use Rattle.fileset_values.specs.declared.entry.Entry.{Entry}
use Rattle.domain_turn.specs.Telling.{Telling}
use Rattle.domain_turn.specs.Views.{ends_in, entries_of, has_ticket, holds_in, is_actor, lefts_in, one_if, passes_in, times_in, total, waits_in}
use Rattle.domain_turn.specs.declared.view.Share.{Share}
use Rattle.domain_turn.specs.declared.view.Beginning.{Beginning}
use Rattle.domain_turn.specs.declared.view.View.{View}

-- what a share says is so of the value that stands for all, if `passes` passes were made from this
-- history on, these entries were added, at least `least` entries last, and `ended` passes have
-- ended
pub record IsShare {T : Type 0} (told : Telling T) (passes : ℕ) (base : List Entry) (value : T) (news : List Entry) (least ended : ℕ) (share : Share) : Type 0 where
  pub number : share.number < passes
  pub start : share.start ≡ base
  pub seen : IsPrefix share.seen (told.history value)
  pub mine : entries_of share.number news ≡ share.mine
  pub saw : (old : List Entry) × (share.seen ≡ share.start ++ old)
      × (entries_of share.number old ≡ share.mine)
  pub begun : share.number ≡ 8 → share.begun ≡ told.begun value
  pub lasting : share.lasting ≤ told.lasting value
  pub committed : share.committed ≤ length (told.history value)
  pub durable : share.durable ≤ least
  pub ends : share.ends ≤ ended

-- a seat's shares say what is so, its ticket is one that waits, and who has the value has the ticket
-- that is served; only a seat with a pass waits
pub record Knows {T : Type 0} (told : Telling T) (passes : ℕ) (base : List Entry) (value : T) (news : List Entry) (least ended drawn served : ℕ) (view : View T) : Type 0 where
  pub shares : (share : Share) → Contains view.shares share
      → IsShare told passes base value news least ended share
  pub ticket : (ticket : ℕ) → view.ticket ≡ Some ticket → (served ≤ ticket) × (ticket < drawn)
  pub holds : (held : T) → view.holds ≡ Some held → (held ≡ value) × (view.ticket ≡ Some served)
  pub waits : waits_in view ≤ passes_in view

-- one value stands for all: it is at home, at rest, unless a seat has it. Its history is that of the
-- start with what the passes added. No two seats have one number or one ticket
pub record Kept {T : Type 0} (told : Telling T) (start : Beginning T) (s : State (Option T) (View T)) : Type 0 where
  pub value : T
  pub news : List Entry
  pub drawn : ℕ
  pub served : ℕ
  pub durable : ℕ
  pub words : s.words
      ≡ drawn % 2 ^ 64 ∷ served % 2 ^ 64 ∷ length (told.history value) ∷ durable
      ∷ total ends_in s.views ∷ []
  pub home : total holds_in s.views ≡ 0
      → (s.homes ≡ some (Some value) ∷ []) × told.rests value
  pub history : told.history value ≡ told.history start.value.value ++ news
  pub actors : (entry : Entry) → Contains news entry
      → (number : ℕ) × (number < length start.lefts.items)
      × (is_actor number entry.actor ≡ true)
  pub lefts : total lefts_in s.views ≤ told.room value
  pub passes : total passes_in s.views ≡ length start.lefts.items
  pub few : length start.lefts.items ≤ 10
  pub once : (number : ℕ) → total (times_in number) s.views
      ≡ one_if (nat_lt number (length start.lefts.items))
  pub apart : (ticket : ℕ)
      → total (λ (view : View T). has_ticket view.ticket ticket) s.views ≤ 1
  pub queue : drawn ≡ served + total waits_in s.views
  pub lasts : durable ≤ told.lasting value
  pub each : (seat : ℕ) (view : View T) → get_elem? s.views seat ≡ some view
      → Knows told (length start.lefts.items) (told.history start.value.value) value
      news durable (total ends_in s.views) drawn served view

-- the passes that are made at the start, from this number on
abbrev pub shares_from : {T : Type 0} → Telling T → T → ℕ → List ℕ → List Share
shares_from told value number [] = []
shares_from told value number (left ∷ lefts) = record {
  number = number;
  start = told.history value;
  seen = told.history value;
  mine = [];
  left = left;
  begun = told.begun value;
  lasting = told.lasting value;
  committed = length (told.history value);
  durable = told.lasting value;
  ends = 0;
  ended = Rattle.std.specs.Prelude.false;
} ∷ shares_from told value (number + 1) lefts

-- a seat that has these passes, and no ticket
abbrev pub resting : {T : Type 0} → List Share → View T
resting shares = record { shares = shares; ticket = None; holds = None }

-- the first seat has all passes
abbrev pub first_view : {T : Type 0} → Telling T → Beginning T → View T
first_view told start = resting (shares_from told start.value.value 0 start.lefts.items)
