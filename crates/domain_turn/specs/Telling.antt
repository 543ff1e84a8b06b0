-- What a value tells of its history.
use Rattle.std.specs.Prelude.{ℕ, List, Option}
use Rattle.fileset_values.specs.declared.command.Command.{Command}
use Rattle.fileset_values.specs.declared.entry.Entry.{Entry}

-- its history, how much of it lasts, whether it is at rest, for how many entries more it has room,
-- and the command of the job that runs
pub record Telling (T : Type 0) : Type 1 where
  pub history : T → List Entry
  pub lasting : T → ℕ
  pub rests : T → Type 0
  pub room : T → ℕ
  pub begun : T → Option Command

abbrev pub telling : {T : Type 0} → (T → List Entry) → (T → ℕ) → (T → Type 0) → (T → ℕ) → (T → Option Command) → Telling T
telling history lasting rests room begun =
    record { history = history; lasting = lasting; rests = rests; room = room; begun = begun }
