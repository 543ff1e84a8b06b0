-- A removal that is laid over a domain's memory, and answered.
use Rattle.std.proofs.Common.{◌≡◌, ℕ, true, false, List, Option, Some, None, IfNone, IsSomeAnd, inl, refl, sym, subst, slice_get, true≢false}
use Rattle.std.proofs.Math.Logic.{∥∥₁_map}
use Rattle.std.specs.FinMap.{remove}
use Rattle.std.specs.List.{list_any}
use Rattle.std.specs.Cmp.Lexicographic.{bytes_decides}
use Rattle.domain_changes.specs.fileset_model.Filesets.{FilesetMap}
use Rattle.domain_changes.specs.fileset_values.declared.command.Command.TheVariants.{Rmfset}
use Rattle.domain_changes.specs.fileset_model.declared.fileset.FilesetSlot.{FilesetSlot}
use Rattle.domain_changes.specs.fileset_values.declared.reply.Refusal.{Refusal}
use Rattle.domain_changes.specs.fileset_values.declared.reply.Refusal.TheVariants.{NoFileset}
use Rattle.domain_changes.specs.fileset_values.declared.reply.Reply.TheVariants.{Done}
use Rattle.domain_changes.specs.fileset_model.Apply.{Answers, in_fileset}
use Rattle.domain_changes.specs.fileset_table.Table.{has_name, is_original}
use Rattle.domain_changes.specs.fileset_table.declared.slot.FilesetEntry.{FilesetEntry}
use Rattle.domain_changes.specs.fileset_table.declared.slot.SlotItem.{SlotItem}
use Rattle.domain_changes.specs.fileset_table.declared.slot.SlotItem.TheVariants as slot
use Rattle.domain_changes.proofs.OfStoredSet.Stable.{one_bool}
use Rattle.domain_changes.specs.domain_layout.CellRules.{of_clone}
use Rattle.domain_changes.specs.domain_standing.Standing.{AreBooksOf, HaveParents}
use Rattle.domain_changes.specs.domain_memory.Memory.{StandsFor}
use Rattle.domain_changes.specs.domain_memory.Staged.{IsSettled, IsStaged, IsStagedForSome, staged_books, staged_in}
use Rattle.domain_changes.specs.domain_memory.declared.memory.DomainMemory.{DomainMemory}
use Rattle.domain_changes.proofs.OfDomainMemory.SettledKept.{settled_kept}
use Rattle.domain_changes.specs.Table.{HasOriginal}
use Rattle.domain_state.specs.History.{StandsForSome}
use Rattle.name_commands.specs.Coming.{IsAnswered}
use Rattle.name_commands.proofs.Means.{in_none, missing, removed}

-- what is so where nothing is found
pub when_none : {X : Type 0} {P : Type 0} (o : Option X) → IfNone o P → ((x : X) → ¬ o ≡ Some x) → P
when_none None is none = is
when_none (Some x) is none = absurd (none x refl)

pub staged_some : (memory : DomainMemory) → IsSettled memory → ∥ StandsForSome memory ∥₁ → ∥ IsStagedForSome memory ∥₁
staged_some memory settled held = ∥∥₁_map held (λ s. (s.0, (settled_kept memory s.0 settled s.1).staged))

-- the original that a slot has with a name
pub record HasNamed (o : Option SlotItem) (name : List ℕ) : Type 0 where
  pub entry : FilesetEntry
  pub has : o ≡ Some (slot.Original entry)
  pub named : entry.name ≡ name

pub has_named : (o : Option SlotItem) (name : List ℕ) → IsSomeAnd o (λ item. has_name name item ≡ true) → of_clone o ≡ false → HasNamed o name
has_named None name is none = absurd is
has_named (Some slot.Free) name is none = absurd (true≢false (sym is))
has_named (Some (slot.Removed first_tag quota)) name is none = absurd (true≢false (sym is))
has_named (Some (slot.Clone of number entry)) name is none = absurd (true≢false none)
has_named (Some (slot.Original entry)) name is none = record { entry = entry; has = refl; named = (bytes_decides entry.name name).0 is }

pub found : (memory : DomainMemory) (number : ℕ) (name : List ℕ) → ∥ IsStagedForSome memory ∥₁ → IsSomeAnd (slice_get memory.table.slots number) (λ item. has_name name item ≡ true) → HasNamed (slice_get memory.table.slots number) name
found memory number name staged is =
    has_named (slice_get memory.table.slots number) name is (one_bool _ _ (∥∥₁_map staged (λ s. s.1.stands.slots.no_clone number)))

pub is_its : (o : Option SlotItem) (name : List ℕ) → HasNamed o name → IsSomeAnd o (λ item. is_original item ≡ true)
is_its o name h = subst (λ (x : Option SlotItem). IsSomeAnd x (λ item. is_original item ≡ true)) (sym h.has) refl

-- no fileset has the name
pub refuses_none : (memory : DomainMemory) (name : List ℕ) → IsSettled memory → list_any (has_name name) memory.table.slots ≡ false → (all : FilesetMap) → StandsFor memory all → (checks : FilesetSlot → List (Option Refusal)) → in_fileset all name checks ≡ Some NoFileset
refuses_none memory name settled none all stands checks = in_none all name checks (missing (staged_in memory) all (settled_kept memory all settled stands).staged.stands.slots name none)

-- it begins to be removed
pub answers_done : (old new : DomainMemory) (number : ℕ) (name : List ℕ) (h : HasNamed (slice_get old.table.slots number) name) → IsSettled old
    → ((entry : FilesetEntry) → HasOriginal old number entry → (all : FilesetMap) → IsStaged old all → IsStaged new (remove all entry.name))
    → ((all : FilesetMap) → IsStaged old all → HaveParents (staged_in old) → HaveParents (staged_in new))
    → ((entry : FilesetEntry) → HasOriginal old number entry → (all : FilesetMap) → IsStaged old all → AreBooksOf (staged_books old) (staged_in old) all → AreBooksOf (staged_books new) (staged_in new) (remove all entry.name))
    → (all : FilesetMap) → StandsFor old all → IsAnswered new all (Rmfset name) Done
answers_done old new number name h settled staged parents books all stands =
    let kept = settled_kept old all settled stands in
    record {
      now = remove all h.entry.name;
      kept = record {
        staged = staged h.entry h.has all kept.staged;
        parents = parents all kept.staged kept.parents;
        books = books h.entry h.has all kept.staged kept.books;
      };
      means = inl (subst (λ (n : List ℕ). Answers all (Rmfset n) Done (remove all h.entry.name)) h.named (removed (staged_in old) all number h.entry kept.staged.stands.slots h.has));
    }
