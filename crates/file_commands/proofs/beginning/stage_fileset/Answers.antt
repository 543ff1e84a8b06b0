use Rattle.std.proofs.Common.{◌≡◌, ◌∙◌, false, true, List, ℕ, IsSomeAnd, slice_get, sym, subst}
use Rattle.std.specs.List.{list_any}
use Rattle.name_commands.specs.fileset_model.Filesets.{FilesetMap}
use Rattle.name_commands.specs.fileset_values.declared.command.Command.TheVariants.{Mkfset}
use Rattle.name_commands.specs.fileset_values.declared.reply.Reply.TheVariants.{Done}
use Rattle.name_commands.specs.fileset_table.Table.{has_name}
use Rattle.name_commands.specs.domain_memory.Memory.{StandsFor}
use Rattle.name_commands.specs.Coming.{IsAnswered}
use Rattle.name_commands.proofs.Begun.{allows_begun, answers_begun, few_staged, refuses_full, refuses_taken, when_nothing, when_some}
use Rattle.name_commands.proofs.Removal.{found, staged_some}
use Rattle.file_commands.proofs.Stops.{ends_wanting}
use Rattle.file_commands.proofs.beginning.stage_fileset.Goals as goal

pub returns-then-is_some-clause-ends : goal.returns-then-is_some-clause-ends
returns-then-is_some-clause-ends c =
    let at = when_some c.find.result (sym c.is_some.ensures ∙ c.if-is_some.true) c.find.ensures.some in
    refuses_taken c.args.memory.now at.0 c.args.fileset.now
    (found c.args.memory.now at.0 c.args.fileset.now (staged_some c.args.memory.now c.requires.settled c.requires.stands)
    (subst (λ (name : List ℕ). IsSomeAnd (slice_get c.args.memory.now.table.slots at.0) (λ item. has_name name item ≡ true)) c.as_slice.ensures at.1))
    c.requires.settled

pub returns-then-count_filesets-eq-MAX_FILESETS-clause-ends : goal.returns-then-count_filesets-eq-MAX_FILESETS-clause-ends
returns-then-count_filesets-eq-MAX_FILESETS-clause-ends c =
    let none = when_nothing c.find.result (sym c.is_some.ensures ∙ c.if-is_some.false) c.find.ensures.none in
    refuses_full c.args.memory.now c.args.fileset.now c.requires.settled (subst (λ (name : List ℕ). list_any (has_name name) c.args.memory.now.table.slots ≡ false) c.as_slice.ensures none)
    (sym c.count_filesets.ensures ∙ c.if-count_filesets-eq-MAX_FILESETS.true)

pub returns-in_default-clause-ends : goal.returns-in_default-clause-ends
returns-in_default-clause-ends c =
    let none = when_nothing c.find.result (sym c.is_some.ensures ∙ c.if-is_some.false) c.find.ensures.none in
    allows_begun c.args.memory.now c.args.fileset.now c.requires.settled (subst (λ (name : List ℕ). list_any (has_name name) c.args.memory.now.table.slots ≡ false) c.as_slice.ensures none)
    (λ is. c.if-count_filesets-eq-MAX_FILESETS.false (c.count_filesets.ensures ∙ is))

pub begin_fileset-requires-clause-stands : goal.begin_fileset-requires-clause-stands
begin_fileset-requires-clause-stands c = staged_some c.args.memory.now c.requires.settled c.requires.stands

pub begin_fileset-requires-clause-few : goal.begin_fileset-requires-clause-few
begin_fileset-requires-clause-few c = few_staged c.args.memory.now (staged_some c.args.memory.now c.requires.settled c.requires.stands) (λ is. c.if-count_filesets-eq-MAX_FILESETS.false (c.count_filesets.ensures ∙ is))

pub returns-in_err-begin_fileset-clause-ends : goal.returns-in_err-begin_fileset-clause-ends
returns-in_err-begin_fileset-clause-ends c = λ all stands.
    let none = when_nothing c.find.result (sym c.is_some.ensures ∙ c.if-is_some.false) c.find.ensures.none in
    ends_wanting c.begin_fileset.new.memory all (Mkfset c.args.fileset.now) c.from_residual-in_err-begin_fileset.result c.in_err-begin_fileset.field-0.0 c.from_residual-in_err-begin_fileset.ensures.1
    (allows_begun c.args.memory.now c.args.fileset.now c.requires.settled (subst (λ (name : List ℕ). list_any (has_name name) c.args.memory.now.table.slots ≡ false) c.as_slice.ensures none)
    (λ is. c.if-count_filesets-eq-MAX_FILESETS.false (c.count_filesets.ensures ∙ is)) all stands)

pub returns-clause-ends : goal.returns-clause-ends
returns-clause-ends c =
    let old = c.args.memory.now in
    let new = c.begin_fileset.new.memory in
    let none = when_nothing c.find.result (sym c.is_some.ensures ∙ c.if-is_some.false) c.find.ensures.none in
    subst (λ (name : List ℕ). (all : FilesetMap) → StandsFor old all → IsAnswered new all (Mkfset name) Done) c.in_ok-name.ensures
    (answers_begun old new c.in_ok-name.name c.requires.settled (subst (λ (name : List ℕ). list_any (has_name name) old.table.slots ≡ false) (c.as_slice.ensures ∙ sym c.in_ok-name.ensures) none)
    (λ is. c.if-count_filesets-eq-MAX_FILESETS.false (c.count_filesets.ensures ∙ is)) c.in_ok-begin_fileset.ensures.staged c.in_ok-begin_fileset.ensures.parents c.in_ok-begin_fileset.ensures.books)
