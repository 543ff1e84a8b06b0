-- A new fileset that is laid over a domain's memory, and answered.
use Rattle.std.proofs.Common.{◌≡◌, ◌<◌, ◌≤◌, ℕ, true, false, true≢false, List, Option, Some, None, IfNone, IfSome, IsSomeAnd, is_some, count_by, inl, refl, sym, subst, slice_get, leb-true, le-leb, arith}
use Rattle.std.proofs.Math.Logic.{∥∥₁_map}
use Rattle.std.specs.FinMap.{insert}
use Rattle.std.specs.List.{list_any}
use Rattle.domain_changes.specs.domain_base.declared.place.Home.{Home}
use Rattle.domain_changes.specs.fileset_model.Apply.{refusal_of}
use Rattle.domain_changes.specs.fileset_model.Filesets.{FilesetMap}
use Rattle.domain_changes.specs.fileset_values.declared.command.Command.TheVariants.{Mkfset}
use Rattle.domain_changes.specs.fileset_values.declared.reply.Refusal.TheVariants.{FilesetExists, FilesetsFull}
use Rattle.domain_changes.specs.fileset_values.declared.reply.Reply.TheVariants.{Done}
use Rattle.domain_changes.specs.fileset_table.Page.{IsTablePage}
use Rattle.domain_changes.specs.fileset_table.Table.{IsTable, has_name, is_fileset, is_free}
use Rattle.domain_changes.specs.fileset_table.declared.slot.SlotItem.{SlotItem}
use Rattle.domain_changes.specs.fileset_table.declared.slot.SlotItem.TheVariants as slot
use Rattle.domain_changes.proofs.OfStoredSet.Stable.{one_bool}
use Rattle.domain_changes.specs.standing_laws.NewFileset.{empty_slot}
use Rattle.domain_changes.specs.domain_standing.Domain.{DomainNow}
use Rattle.domain_changes.specs.domain_standing.Standing.{AreBooksOf, HaveParents}
use Rattle.domain_changes.specs.domain_standing.Tables.{StandTables}
use Rattle.domain_changes.specs.domain_memory.Memory.{StandsFor}
use Rattle.domain_changes.specs.domain_memory.Staged.{IsSettled, IsStaged, IsStagedForSome, staged_books, staged_in}
use Rattle.domain_changes.specs.domain_memory.declared.memory.DomainMemory.{DomainMemory}
use Rattle.domain_changes.proofs.OfDomainMemory.SettledKept.{settled_kept}
use Rattle.name_commands.specs.Coming.{IsAnswered}
use Rattle.name_commands.proofs.Counted.{is_full, not_full}
use Rattle.name_commands.proofs.Means.{begun, is_taken, may_begin}
use Rattle.name_commands.proofs.Removal.{HasNamed}

-- a domain's table keeps the rules of tables
pub table_good : (d : DomainNow) → StandTables d → IsTable d.table
table_good d tables = by_home d.frame.anchor.table tables.laid.table
  where
    by_page : (o : Option (List ℕ)) → IsSomeAnd o (λ page. IsTablePage page d.table) → IsTable d.table
    by_page None is = absurd is
    by_page (Some page) is = is.good

    by_home : (o : Option Home) → IsSomeAnd o (λ home. IsSomeAnd (d.pages home) (λ page. IsTablePage page d.table)) → IsTable d.table
    by_home None is = absurd is
    by_home (Some home) is = by_page (d.pages home) is

pub free_is : (o : Option SlotItem) → IsSomeAnd o (λ item. is_free item ≡ true) → o ≡ Some slot.Free
free_is None is = absurd is
free_is (Some slot.Free) is = refl
free_is (Some (slot.Original entry)) is = absurd (true≢false (sym is))
free_is (Some (slot.Clone of number entry)) is = absurd (true≢false (sym is))
free_is (Some (slot.Removed first_tag quota)) is = absurd (true≢false (sym is))

-- 16 are the most, so where they are not 16 they are fewer
pub fewer : (memory : DomainMemory) (all : FilesetMap) → IsStaged memory all → ¬ count_by is_fileset memory.table.slots ≡ 16 → count_by is_fileset memory.table.slots < 16
fewer memory all staged apart = let few = (table_good (staged_in memory) staged.stands.tables).together.few in omega (arith, few, apart)

pub few_staged : (memory : DomainMemory) → ∥ IsStagedForSome memory ∥₁ → ¬ count_by is_fileset memory.table.slots ≡ 16 → count_by is_fileset memory.table.slots < 16
few_staged memory staged apart =
    let most : count_by is_fileset memory.table.slots ≤ 16 = leb-true _ 16 (one_bool _ _ (∥∥₁_map staged (λ s. le-leb (count_by is_fileset memory.table.slots) 16 (table_good (staged_in memory) s.1.stands.tables).together.few))) in
    omega (arith, most, apart)

-- there is a fileset of the name
pub refuses_taken : (memory : DomainMemory) (number : ℕ) (name : List ℕ) → HasNamed (slice_get memory.table.slots number) name → IsSettled memory → (all : FilesetMap) → StandsFor memory all → refusal_of all (Mkfset name) ≡ Some FilesetExists
refuses_taken memory number name h settled all stands =
    let kept = settled_kept memory all settled stands in
    subst (λ (n : List ℕ). refusal_of all (Mkfset n) ≡ Some FilesetExists) h.named (is_taken (staged_in memory) all number h.entry kept.staged.stands.slots h.has)

-- there are 16
pub refuses_full : (memory : DomainMemory) (name : List ℕ) → IsSettled memory → list_any (has_name name) memory.table.slots ≡ false → count_by is_fileset memory.table.slots ≡ 16 → (all : FilesetMap) → StandsFor memory all
    → refusal_of all (Mkfset name) ≡ Some FilesetsFull
refuses_full memory name settled none many all stands =
    let kept = settled_kept memory all settled stands in
    is_full (staged_in memory) all kept.staged.stands name none (omega (arith, many))

-- nothing is refused
pub allows_begun : (memory : DomainMemory) (name : List ℕ) → IsSettled memory → list_any (has_name name) memory.table.slots ≡ false → ¬ count_by is_fileset memory.table.slots ≡ 16 → (all : FilesetMap) → StandsFor memory all
    → refusal_of all (Mkfset name) ≡ None
allows_begun memory name settled none apart all stands =
    let kept = settled_kept memory all settled stands in
    may_begin (staged_in memory) all name kept.staged.stands.slots none (not_full (staged_in memory) all kept.staged.stands (fewer memory all kept.staged apart))

-- it begins
pub answers_begun : (old new : DomainMemory) (name : List ℕ) → IsSettled old → list_any (has_name name) old.table.slots ≡ false → ¬ count_by is_fileset old.table.slots ≡ 16
    → ((all : FilesetMap) → IsStaged old all → IsStaged new (insert all name empty_slot))
    → ((all : FilesetMap) → IsStaged old all → HaveParents (staged_in old) → HaveParents (staged_in new))
    → ((all : FilesetMap) → IsStaged old all → AreBooksOf (staged_books old) (staged_in old) all → AreBooksOf (staged_books new) (staged_in new) (insert all name empty_slot))
    → (all : FilesetMap) → StandsFor old all → IsAnswered new all (Mkfset name) Done
answers_begun old new name settled none apart staged parents books all stands =
    let kept = settled_kept old all settled stands in
    record {
      now = insert all name empty_slot;
      kept = record {
        staged = staged all kept.staged;
        parents = parents all kept.staged kept.parents;
        books = books all kept.staged kept.books;
      };
      means = inl (begun (staged_in old) all name kept.staged.stands.slots none (not_full (staged_in old) all kept.staged.stands (fewer old all kept.staged apart)));
    }

-- what is known of what is found, and where nothing is
pub when_some : {X : Type 0} {P : X → Type 0} (o : Option X) → is_some o ≡ true → IfSome o P → (x : X) × P x
when_some None is known = absurd (true≢false (sym is))
when_some (Some x) is known = (x, known)

pub when_nothing : {X : Type 0} {P : Type 0} (o : Option X) → is_some o ≡ false → IfNone o P → P
when_nothing None is known = known
when_nothing (Some x) is known = absurd (true≢false is)
