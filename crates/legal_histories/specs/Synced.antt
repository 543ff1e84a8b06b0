-- A file that was synced, and that nothing touched since.
use Rattle.std.specs.Prelude.{◌≡◌, ◌≢◌, ℕ, ◌++◌, Bool, true, false, List, ◌∷◌, All, Contains, IsSomeAnd, Some}
use Rattle.std.specs.FinMap as map
use Rattle.fileset_model.specs.Paths.{node_at}
use Rattle.fileset_model.specs.Filesets.{FilesetMap}
use Rattle.fileset_model.specs.fileset_values.declared.command.Command.TheVariants.{Fsync, Rmfset}
use Rattle.fileset_model.specs.fileset_values.declared.command.Place.{Place}
use Rattle.fileset_model.specs.declared.fileset.Role.TheVariants.{Original}
use Rattle.fileset_model.specs.declared.node.Node.{Node}
use Rattle.fileset_model.specs.fileset_values.declared.reply.Refusal.TheVariants.{Panicked}
use Rattle.fileset_model.specs.fileset_values.declared.reply.Reply.{Reply}
use Rattle.fileset_model.specs.fileset_values.declared.reply.Reply.TheVariants.{Refused}
use Rattle.legal_histories.specs.AfterStop.{is_done_by}
use Rattle.legal_histories.specs.Changed.{at, changed_by}
use Rattle.legal_histories.specs.Point.{Answered}

-- whether a command with this reply may have done something: one that panicked may
abbrev pub may_have_acted : Reply → Bool
may_have_acted (Refused (Panicked volume)) = true
may_have_acted (Refused refusal) = false
may_have_acted reply = true

-- an entry leaves what stands at a place: it does not change it, and does not remove its fileset
pub record Leaves (place : Place) (a : Answered) : Type 0 where
  pub unchanged : may_have_acted a.entry.reply ≡ true → (number : ℕ)
      → Contains (at a.before.filesets place.fileset place.path) (place.fileset, number)
      → ¬ (Contains (changed_by a.before.filesets a.entry.command) (place.fileset, number))
  pub stays : may_have_acted a.entry.reply ≡ true → a.entry.command ≢ Rmfset place.fileset

-- this file stands at a place of an original
abbrev pub StandsAt : FilesetMap → Place → Node → Type 0
StandsAt all place node =
    IsSomeAnd (map.get all place.fileset)
    (λ slot. (slot.role ≡ Original) × (node_at slot.tree place.path ≡ Some node))

-- an fsync that answered Done by call t found this file at a place, and nothing touched it since
pub record IsSynced (past : List Answered) (t : ℕ) (place : Place) (node : Node) : Type 0 where
  pub before : List Answered
  pub sync : Answered
  pub after : List Answered
  pub split : past ≡ before ++ sync ∷ after
  pub command : sync.entry.command ≡ Fsync place
  pub done : is_done_by t sync.entry ≡ true
  pub stood : StandsAt sync.before.filesets place node
  pub untouched : All (Leaves place) after
