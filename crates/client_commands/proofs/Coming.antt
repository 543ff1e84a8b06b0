-- What a client is answered may be committed with its change.
use Rattle.std.proofs.Common.{◌≡◌, ◌∙◌, ◌≤◌, ◌&&◌, ℕ, Bool, false, List, Option, Contains, All, map, Ordering, Equal, Greater, Less, inl, inr, slice_get, refl, sym, ap, subst}
use Rattle.std.proofs.Math.Logic.{∥∥₁_elim}
use Rattle.std.specs.FinMap.{contains_key, get}
use Rattle.std.specs.Option.{option_map_or}
use Rattle.std.specs.Ordering.{nat_cmp, ordering_then}
use Rattle.std.specs.FinSet.{contains-empty, contains-retain, empty, nat_cmp-IsAntisymmetric, same_set}
use Rattle.file_commands.specs.page_store.Pages.{Pages}
use Rattle.file_commands.specs.fileset_model.Apply.{AnswersIfMemory}
use Rattle.file_commands.specs.fileset_model.Filesets.{FilesetMap}
use Rattle.file_commands.specs.fileset_values.Orders.{name_cmp, name_cmp-IsAntisymmetric}
use Rattle.file_commands.specs.fileset_values.declared.command.Actor.{Actor}
use Rattle.file_commands.specs.fileset_values.declared.command.Command.{Command}
use Rattle.file_commands.specs.fileset_values.declared.entry.Entry.{Entry}
use Rattle.file_commands.specs.fileset_values.declared.reply.Refusal.TheVariants.{Panicked}
use Rattle.file_commands.specs.fileset_values.declared.reply.Reply.{Reply}
use Rattle.file_commands.specs.fileset_values.declared.reply.Reply.TheVariants.{Refused}
use Rattle.file_commands.specs.legal_histories.Legal.{IsForActor, MayFollow}
use Rattle.file_commands.specs.legal_histories.PlainRun.{IsInside}
use Rattle.file_commands.specs.legal_histories.Point.{Point, running_job}
use Rattle.file_commands.specs.legal_histories.State.{Apply, LooksLikeState, Numbered, State, numbered_cmp, numbered_cmp-total, still_striped}
use Rattle.file_commands.specs.legal_histories.Step.{Step}
use Rattle.file_commands.specs.legal_histories.Step.Step.{out_of_memory}
use Rattle.file_commands.specs.legal_histories.GoingOn.{ComesTo, LeadsOn}
use Rattle.file_commands.proofs.OfLegalHistories.GoesOn.{command_steps}
use Rattle.file_commands.proofs.OfLegalHistories.Inside.{stays_inside}
use Rattle.file_commands.proofs.OfLegalHistories.PlainLemmas.{there_itself}
use Rattle.file_commands.specs.domain_layout.Reached.{Frame}
use Rattle.file_commands.specs.domain_memory.Kept.{KeepsKept}
use Rattle.file_commands.specs.domain_memory.Memory.{StandsFor}
use Rattle.file_commands.specs.domain_memory.Staged.{MayBeKept}
use Rattle.file_commands.specs.fileset_table.Table.{Table}
use Rattle.file_commands.specs.domain_memory.declared.memory.DomainMemory.{DomainMemory}
use Rattle.file_commands.specs.domain_state.History.{IsCalm, MayCommit, StandsForSome}
use Rattle.file_commands.specs.domain_state.Short.{HadPages}
use Rattle.file_commands.specs.name_commands.Coming.{ComesNext, IsAnswered}

-- ---- no file is striped if none was

second : (a b : Ordering) → ordering_then a b ≡ Equal → (a ≡ Equal) × (b ≡ Equal)
second Less b e = absurd (cc)
second Equal b e = (refl, e)
second Greater b e = absurd (cc)

numbers_are : (x y : Numbered) → numbered_cmp x y ≡ Equal → x ≡ y
numbers_are x y e =
    let both = second (name_cmp x.0 y.0) (nat_cmp x.1 y.1) e in
    λ i. (name_cmp-IsAntisymmetric x.0 y.0 both.0 i, nat_cmp-IsAntisymmetric x.1 y.1 both.1 i)

none_striped : (all : FilesetMap) → still_striped all empty ≡ empty
none_striped all = same_set numbered_cmp-total numbers_are (still_striped all empty) empty (λ q.
    contains-retain empty (striped_in all) q (λ x tie. ap (striped_in all) (sym (numbers_are q x tie)))
    ∙ ap (λ b. b && striped_in all q) (contains-empty numbered_cmp q) ∙ sym (contains-empty numbered_cmp q))
  where
    striped_in : FilesetMap → Numbered → Bool
    striped_in all = λ n. option_map_or (λ slot. contains_key slot.tree.nodes n.1) (get all n.0) false

-- ---- the step

pub looks_itself : (s : State) → LooksLikeState s s
looks_itself s = record { filesets = λ name. there_itself (get s.filesets name); rest = refl }

module _ (start : State) (entries : List Entry) (job : Option Command) (e : Entry) (all now : FilesetMap) (next : ComesNext entries e) (unstriped : start.striped ≡ empty) (point : Point) (comes : ComesTo start entries job point)
    (same : point.state ≡ record start { filesets = all }) where
  pub follows : MayFollow point e
  follows = record {
    stamp = subst (λ h. All (λ before. before.stamp ≤ e.stamp) h) (sym comes.answered) next.stamp;
    panicked = λ volume there. absurd (next.calm volume (subst (λ h. Contains (map (λ (before : Entry). before.reply) h) (Refused (Panicked volume))) comes.answered there));
    actor = subst (λ (a : Actor). IsForActor a e.command (running_job point)) (sym next.actor) next.command;
  }

  abbrev end : State
  end = record start { filesets = now }

  steps : AnswersIfMemory all e.command e.reply now → Step point e end
  steps (inl means) = command_steps point e end (subst (λ (s : State). Apply s e.command e.reply end) (sym same)
      (means, λ i. record end { striped = (unstriped ∙ sym (none_striped now) ∙ ap (still_striped now) (sym unstriped)) i }))
  steps (inr short) = out_of_memory short.0 (ap (λ (x : FilesetMap). record start { filesets = x }) short.1 ∙ sym same)

  pub leads : AnswersIfMemory all e.command e.reply now → LeadsOn point e (record start { filesets = now })
  leads means = record { end = end; follows = follows; step = steps means; looks = looks_itself end }

pub may_commit : (pages : Pages) (frame : Frame) (sizes : List ℕ) (memory : DomainMemory) (entries : List Entry) (job : Option Command) (e : Entry) (all now : FilesetMap) → MayBeKept memory now → ComesNext entries e
    → AnswersIfMemory all e.command e.reply now → MayCommit pages frame sizes memory entries job e all
may_commit pages frame sizes memory entries job e all now kept next means = record {
  now = now;
  kept = kept;
  step = λ start is point comes same. leads start entries job e all now next is.striped point comes same means;
}

-- a reply without a cause that lies outside tells of no volume that failed
pub inside_calm : (memory : DomainMemory) (reply : Reply) → ∥ StandsForSome memory ∥₁ → ((all : FilesetMap) → StandsFor memory all → IsInside reply) → IsCalm reply
inside_calm memory reply stands inside volume =
    (λ is. ∥∥₁_elim stands (λ x y. absurd x) (λ some. subst IsInside is (inside some.0 some.1)), λ is. ∥∥₁_elim stands (λ x y. absurd x) (λ some. subst IsInside is (inside some.0 some.1)))

-- nor of want of pages
pub inside_spared : (memory : DomainMemory) (reply : Reply) → ∥ StandsForSome memory ∥₁ → ((all : FilesetMap) → StandsFor memory all → IsInside reply) → HadPages reply
inside_spared memory reply stands inside free need is = ∥∥₁_elim stands (λ x y. absurd x) (λ some. subst IsInside is (inside some.0 some.1))

-- and such is each answer
pub answer_inside : (memory : DomainMemory) (command : Command) (reply : Reply) → ((all : FilesetMap) → StandsFor memory all → IsAnswered memory all command reply) → (all : FilesetMap) → StandsFor memory all → IsInside reply
answer_inside memory command reply answered all stands = let a = answered all stands in stays_inside all command reply a.now a.means

-- ---- over what was kept

-- what was kept of one memory is what was kept of the other
pub kept_turned : (old new : DomainMemory) → KeepsKept old new → KeepsKept new old
kept_turned old new kept = record {
  frame = sym kept.frame;
  table = sym kept.table;
  places = λ number. sym (kept.places number);
  books = λ number entry there. sym (kept.books number entry (ap (λ (t : Table). slice_get t.slots number) (sym kept.table) ∙ there));
  pages = sym kept.pages;
  spaces = λ vol. sym (kept.spaces vol);
  cells = λ vol. sym (kept.cells vol);
  marks = λ vol. sym (kept.marks vol);
  list = sym kept.list;
}
