-- What each step of a turn tells the seat that takes it.
use Rattle.std.specs.Prelude.{◌≡◌, ℕ, ◌+◌, ◌-◌, ◌%◌, ◌^◌, ◌<◌, ◌≤◌, ◌==◌, max, true, List, [], ◌∷◌, ◌++◌, length, drop, Option, Some, None, Contains, MatchBool}
use mathlib.Core.List.{IsPrefix}
use Rattle.atomic_table.specs.Table.{Me, Step}
use Rattle.fileset_values.specs.declared.entry.Entry.{Entry}
use Rattle.domain_turn.specs.Kept.{resting}
use Rattle.domain_turn.specs.Telling.{Telling}
use Rattle.domain_turn.specs.Views.{entries_of, is_actor}
use Rattle.domain_turn.specs.declared.view.Share.{Share}
use Rattle.domain_turn.specs.declared.view.View.{View}

abbrev Sat : Type 0 → Type 0
Sat T = Me (Option T) (View T)

abbrev At : Type 0 → Type 0
At T = Step (Option T)

-- a share with which none began
abbrev pub no_share : Share
no_share = record {
  number = 0;
  start = [];
  seen = [];
  mine = [];
  left = 0;
  begun = None;
  lasting = 0;
  committed = 0;
  durable = 0;
  ends = 0;
  ended = Rattle.std.specs.Prelude.false;
}

-- the share of a seat that has one pass
abbrev pub first_of : List Share → Share
first_of [] = no_share
first_of (share ∷ shares) = share

abbrev pub share_in : {T : Type 0} → View T → Share
share_in view = first_of view.shares

abbrev pub rest_of : List Share → List Share
rest_of [] = []
rest_of (share ∷ shares) = shares

-- what was added to the one history so that it became the other
abbrev pub added : {T : Type 0} → Telling T → T → T → List Entry
added told old new = drop (length (told.history old)) (told.history new)

-- the value that its pass takes, after what it knew: nothing was lost, its own entries since the
-- start are those it made, it had seen them all, and there is room for those it may make
pub record Finds {T : Type 0} (told : Telling T) (share : Share) (value : T) : Type 0 where
  pub rests : told.rests value
  pub seen : IsPrefix share.seen (told.history value)
  pub news : List Entry
  pub since : told.history value ≡ share.start ++ news
  pub mine : entries_of share.number news ≡ share.mine
  pub saw : (old : List Entry) × (share.seen ≡ share.start ++ old)
      × (entries_of share.number old ≡ share.mine)
  pub room : share.left ≤ told.room value
  pub begun : share.number ≡ 8 → told.begun value ≡ share.begun
  pub lasting : share.lasting ≤ told.lasting value
  pub committed : share.committed ≤ length (told.history value)
  pub durable : share.durable ≤ told.lasting value

-- the value may be put back in place of the one that was taken: it goes on with that history, by
-- entries of this pass that it still may add
pub record MayPut {T : Type 0} (told : Telling T) (share : Share) (taken value : T) : Type 0 where
  pub rests : told.rests value
  pub grown : told.history value ≡ told.history taken ++ added told taken value
  pub left : length (added told taken value) ≤ share.left
  pub actor : (entry : Entry) → Contains (added told taken value) entry
      → is_actor share.number entry.actor ≡ true
  pub lasting : told.lasting taken ≤ told.lasting value
  pub room : told.room taken ≤ told.room value + length (added told taken value)
  pub begun : ¬ (share.number ≡ 8) → told.begun value ≡ told.begun taken

-- the share once the value was taken
abbrev pub with_taken : {T : Type 0} → Telling T → Share → T → Share
with_taken told share value =
    record share { seen = told.history value; lasting = told.lasting value }

-- the share once the value was put back in place of the one taken
abbrev pub with_put : {T : Type 0} → Telling T → Share → T → T → Share
with_put told share taken value = record share {
  seen = told.history value;
  mine = share.mine ++ added told taken value;
  left = share.left - length (added told taken value);
  begun = told.begun value;
  lasting = told.lasting value;
}

-- if the value is not at home, the slot is with the seat that has it, empty
abbrev pub carried_by : {T : Type 0} → Option T → List (ℕ × Option T)
carried_by None = []
carried_by (Some value) = (0, None) ∷ []

-- the seat with another share in place of its one
abbrev pub with_share : {T : Type 0} → View T → Share → View T
with_share view share = record view { shares = share ∷ [] }

-- the seat has one pass, with this share, and stands in the queue
abbrev pub queued : {T : Type 0} → Share → ℕ → View T
queued share ticket = record { shares = share ∷ []; ticket = Some ticket; holds = None }

-- and has the value
abbrev pub holding : {T : Type 0} → Share → ℕ → T → View T
holding share ticket value =
    record { shares = share ∷ []; ticket = Some ticket; holds = Some value }

module _ {T : Type 0} where
  -- a ticket was drawn
  abbrev pub draws : At T → Sat T → ℕ → Sat T → Type 0
  draws s v found w = (ticket : ℕ) × (found ≡ ticket % 2 ^ 64)
      × (w ≡ (queued (share_in v.0) ticket, []))

  -- the ticket is served, and the value is at hand, or another's is
  abbrev pub looks : Telling T → At T → Sat T → ℕ → Sat T → Type 0
  looks told s v found w = (ticket : ℕ) → v.0.ticket ≡ Some ticket
      → MatchBool (found == ticket % 2 ^ 64)
      ((value : T) × Finds told (share_in v.0) value
      × (w ≡ (holding (with_taken told (share_in v.0) value) ticket value, (0, Some value) ∷ [])))
      (w ≡ v)

  -- what is at hand stands for all from now on, in place of what was taken, whose length was found
  abbrev pub puts : Telling T → At T → Sat T → ℕ → Sat T → Type 0
  puts told s v found w = (ticket : ℕ) (taken value : T) → v.0.ticket ≡ Some ticket
      → v.0.holds ≡ Some taken → v.1 ≡ (0, Some value) ∷ []
      → (found ≡ length (told.history taken))
      × (w ≡ (holding (with_put told (share_in v.0) taken value) ticket value, v.1))

  -- the next ticket is served
  abbrev pub passes_on : At T → Sat T → ℕ → Sat T → Type 0
  passes_on s v found w = w ≡ (resting v.0.shares, [])

  -- this much of the history is known to last
  abbrev pub notes : At T → Sat T → ℕ → Sat T → Type 0
  notes s v found w = w ≡ (with_share v.0 (record (share_in v.0) { durable = max (share_in v.0).durable s.first }), v.1)

  -- a length of the history that was found
  abbrev pub sees_committed : At T → Sat T → ℕ → Sat T → Type 0
  sees_committed s v found w = (length (share_in v.0).seen ≤ found)
      × ((share_in v.0).committed ≤ found)
      × ((share_in v.0).durable ≤ found)
      × (w ≡ (with_share v.0 (record (share_in v.0) { committed = found }), v.1))

  -- how much was found to last
  abbrev pub sees_durable : At T → Sat T → ℕ → Sat T → Type 0
  sees_durable s v found w = ((share_in v.0).durable ≤ found)
      × (w ≡ (with_share v.0 (record (share_in v.0) { durable = found }), v.1))

  -- the pass has ended
  abbrev pub ends : At T → Sat T → ℕ → Sat T → Type 0
  ends s v found w = w ≡ (with_share v.0 (record (share_in v.0) { ended = true }), v.1)

  -- how many passes were found to have ended
  abbrev pub sees_ends : At T → Sat T → ℕ → Sat T → Type 0
  sees_ends s v found w = ((share_in v.0).ends ≤ found)
      × (w ≡ (with_share v.0 (record (share_in v.0) { ends = found }), v.1))
