-- Limits that are laid over a domain's memory, and answered.
use Rattle.std.proofs.Common.{◌≡◌, ◌⊎◌, ℕ, List, None, Some, inl, inr, refl, ap, subst, slice_get}
use Rattle.std.specs.FinMap.{get, insert}
use Rattle.name_commands.specs.fileset_model.Apply.{Answers, AnswersIfMemory, refusal_of}
use Rattle.name_commands.specs.fileset_model.Filesets.{FilesetMap}
use Rattle.name_commands.specs.fileset_values.declared.command.Command.{Command}
use Rattle.name_commands.specs.fileset_values.declared.command.Command.TheVariants.{Setquota}
use Rattle.name_commands.specs.fileset_values.declared.command.Owner.{Owner}
use Rattle.name_commands.specs.fileset_model.declared.fileset.FilesetSlot.{FilesetSlot}
use Rattle.name_commands.specs.fileset_model.declared.fileset.Limits.{Limits}
use Rattle.name_commands.specs.fileset_values.declared.reply.Refusal.{Refusal}
use Rattle.name_commands.specs.fileset_values.declared.reply.Refusal.TheVariants.{OutOfMemory}
use Rattle.name_commands.specs.fileset_values.declared.reply.Reply.TheVariants.{Done, Refused}
use Rattle.name_commands.specs.fileset_table.declared.slot.FilesetEntry.{FilesetEntry}
use Rattle.name_commands.specs.standing_laws.SetsQuota.{fileset_limited}
use Rattle.name_commands.specs.domain_standing.Standing.{AreBooksOf, HaveParents}
use Rattle.name_commands.specs.domain_memory.Memory.{StandsFor}
use Rattle.name_commands.specs.domain_memory.Staged.{IsSettled, IsStaged, staged_books, staged_in}
use Rattle.name_commands.specs.domain_memory.declared.memory.DomainMemory.{DomainMemory}
use Rattle.name_commands.proofs.OfDomainMemory.SettledKept.{settled_kept}
use Rattle.name_commands.specs.domain_changes.Table.{HasOriginal}
use Rattle.name_commands.specs.Coming.{IsAnswered}
use Rattle.name_commands.proofs.Means.{limited, may_limit, refused, there}
use Rattle.name_commands.proofs.Removal.{HasNamed}

-- nothing is refused
pub allows_limits : (memory : DomainMemory) (number : ℕ) (name : List ℕ) (who : Owner) (files blocks : ℕ) → HasNamed (slice_get memory.table.slots number) name → IsSettled memory → (all : FilesetMap) → StandsFor memory all → refusal_of all (Setquota name who files blocks) ≡ None
allows_limits memory number name who files blocks h settled all stands =
    let kept = settled_kept memory all settled stands in
    let at = there (staged_in memory) all kept.staged.stands.slots number h.entry h.has in
    subst (λ (n : List ℕ). refusal_of all (Setquota n who files blocks) ≡ None) h.named (may_limit (staged_in memory) all number h.entry at.0 who files blocks kept.staged.stands.slots h.has at.1)

-- it is refused, or memory was short; and what was laid over the domain is taken back
pub settled_refused : (memory : DomainMemory) (command : Command) (refusal : Refusal) → IsSettled memory → ((all : FilesetMap) → StandsFor memory all → (refusal_of all command ≡ Some refusal) ⊎ (refusal ≡ OutOfMemory)) → (all : FilesetMap) → StandsFor memory all
    → IsAnswered memory all command (Refused refusal)
settled_refused memory command refusal settled why all stands = record { now = all; kept = settled_kept memory all settled stands; means = by (why all stands) }
  where
    by : (refusal_of all command ≡ Some refusal) ⊎ (refusal ≡ OutOfMemory) → AnswersIfMemory all command (Refused refusal) all
    by (inl is) = inl (refused all command refusal is)
    by (inr short) = inr (ap Refused short, refl)

-- they are set
pub limits_done : (old new : DomainMemory) (number : ℕ) (name : List ℕ) (who : Owner) (limits : Limits) (h : HasNamed (slice_get old.table.slots number) name) → IsSettled old
    → ((entry : FilesetEntry) → HasOriginal old number entry → (all : FilesetMap) → IsStaged old all → (fileset : FilesetSlot) → get all entry.name ≡ Some fileset → IsStaged new (insert all entry.name (fileset_limited who limits fileset)))
    → ((all : FilesetMap) → IsStaged old all → HaveParents (staged_in old) → HaveParents (staged_in new))
    → ((entry : FilesetEntry) → HasOriginal old number entry → (all : FilesetMap) → IsStaged old all → (fileset : FilesetSlot) → get all entry.name ≡ Some fileset → AreBooksOf (staged_books old) (staged_in old) all
    → AreBooksOf (staged_books new) (staged_in new) (insert all entry.name (fileset_limited who limits fileset)))
    → (all : FilesetMap) → StandsFor old all → IsAnswered new all (Setquota name who limits.files limits.blocks) Done
limits_done old new number name who limits h settled staged parents books all stands =
    let kept = settled_kept old all settled stands in
    let at = there (staged_in old) all kept.staged.stands.slots number h.entry h.has in
    let now = insert all h.entry.name (fileset_limited who limits at.0) in
    record {
      now = now;
      kept = record {
        staged = staged h.entry h.has all kept.staged at.0 at.1;
        parents = parents all kept.staged kept.parents;
        books = books h.entry h.has all kept.staged at.0 at.1 kept.books;
      };
      means = inl (subst (λ (n : List ℕ). Answers all (Setquota n who limits.files limits.blocks) Done now) h.named (limited (staged_in old) all number h.entry at.0 who limits kept.staged.stands.slots h.has at.1));
    }
