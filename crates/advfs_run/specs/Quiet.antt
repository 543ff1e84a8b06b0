-- Replies that tell of no volume that failed.
use Rattle.std.specs.Prelude.{◌≡◌, ℕ, List, All}
use Rattle.domain_attaching.specs.fileset_values.declared.entry.Entry.{Entry}
use Rattle.domain_attaching.specs.fileset_values.declared.reply.Refusal.TheVariants.{Panicked, ReadFault}
use Rattle.domain_attaching.specs.fileset_values.declared.reply.Reply.{Reply}
use Rattle.domain_attaching.specs.fileset_values.declared.reply.Reply.TheVariants.{Refused}

-- a reply tells neither that a read of a volume failed nor that a volume panicked
abbrev pub TellsNoFault : Reply → Type 0
TellsNoFault reply = (volume : ℕ) → (¬ (reply ≡ Refused (ReadFault volume)))
    × (¬ (reply ≡ Refused (Panicked volume)))

-- nor does that of any of these
abbrev pub TellNoFault : List Entry → Type 0
TellNoFault entries = All (λ e. TellsNoFault e.reply) entries
