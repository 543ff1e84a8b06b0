-- A history goes on by an entry whose change is kept.
use Rattle.std.proofs.Common.{◌≡◌, ◌∙◌, ◌++◌, ◌∷◌, [], ℕ, List, Option, ap, arith}
use Rattle.std.proofs.Math.Logic.{∥∥₁_map}
use Rattle.no_faults.specs.page_store.Pages.{Pages}
use Rattle.no_faults.specs.fileset_model.Filesets.{FilesetMap}
use Rattle.no_faults.specs.fileset_values.declared.command.Command.{Command}
use Rattle.no_faults.specs.fileset_values.declared.entry.Entry.{Entry}
use Rattle.no_faults.proofs.OfReleaseList.Lists.{longer}
use Rattle.no_faults.specs.legal_histories.State.{State}
use Rattle.no_faults.specs.legal_histories.GoingOn.{job_left}
use Rattle.no_faults.proofs.OfLegalHistories.GoesOn.{goes_on_from}
use Rattle.no_faults.specs.page_ways.Frame.{frame_in}
use Rattle.no_faults.specs.domain_layout.Reached.{Frame}
use Rattle.no_faults.specs.domain_standing.Domain.{DomainNow}
use Rattle.no_faults.specs.domain_memory.Held.{held_open}
use Rattle.no_faults.specs.domain_memory.Memory.{StandsFor, books_in, kept_in}
use Rattle.no_faults.specs.domain_memory.Staged.{IsStagedForSome, MayBeKept}
use Rattle.no_faults.specs.domain_memory.declared.memory.DomainMemory.{DomainMemory}
use Rattle.domain_state.specs.History.{GoesOn, MayCommit, MayCommitUnchanged}
use Rattle.domain_state.specs.Room.{HoldsFew}
use Rattle.domain_state.proofs.NoClones.{have_no_clone}
use Rattle.domain_state.proofs.StaysWithin.{within_back, within_committed, within_longer}
use Rattle.no_faults.proofs.OfDomainMemory.KeptStands.{stands_still}

module _ (pages : Pages) (frame : Frame) (sizes : List ℕ) (old : DomainMemory) (entries : List Entry) (job : Option Command) (e : Entry) (held : ∥ GoesOn pages frame sizes old entries job ∥₁)
    (may : (all : FilesetMap) → StandsFor old all → MayCommit pages frame sizes old entries job e all) where
  pub is_staged : ∥ IsStagedForSome old ∥₁
  is_staged = ∥∥₁_map held (λ goes. let m = may goes.all goes.stands in (m.now, m.kept.staged))

  pub committed : (new : DomainMemory) → new.frame ≡ old.frame → held_open (kept_in new).space ≡ held_open old.space → HoldsFew old → ((all : FilesetMap) → MayBeKept old all → StandsFor new all) → ∥ GoesOn pages frame sizes new (entries ++ e ∷ []) (job_left e.actor job) ∥₁
  committed new anchor keeps few kept = ∥∥₁_map held (λ goes.
      let m = may goes.all goes.stands in
      record {
        same = ap frame_in anchor ∙ goes.same;
        all = m.now;
        stands = kept m.now m.kept;
        leads = λ start is. ∥∥₁_map (goes.leads start is) (λ legal.
            goes_on_from start (record start { filesets = goes.all }) (record start { filesets = m.now }) entries job e (have_no_clone (kept_in old) goes.all goes.stands.stands.slots) legal (m.step start is));
        within = within_committed pages frame sizes old new entries e keeps few goes.within;
      })

pub discarded : (pages : Pages) (frame : Frame) (sizes : List ℕ) (old new : DomainMemory) (entries : List Entry) (job : Option Command) → ∥ GoesOn pages frame sizes old entries job ∥₁
    → kept_in new ≡ kept_in old → books_in new ≡ books_in old → ∥ GoesOn pages frame sizes new entries job ∥₁
discarded pages frame sizes old new entries job held kept books =
    ∥∥₁_map held (λ goes. record { same = ap (λ (d : DomainNow). d.frame) kept ∙ goes.same; all = goes.all; stands = stands_still old new goes.all kept books goes.stands; leads = goes.leads; within = within_back pages frame sizes old new entries kept goes.within })

-- and so it does by one that changes nothing
pub unchanged : (pages : Pages) (frame : Frame) (sizes : List ℕ) (memory : DomainMemory) (entries : List Entry) (job : Option Command) (e : Entry) → ∥ GoesOn pages frame sizes memory entries job ∥₁
    → ((all : FilesetMap) → StandsFor memory all → MayCommitUnchanged pages frame sizes entries job e all) → ∥ GoesOn pages frame sizes memory (entries ++ e ∷ []) (job_left e.actor job) ∥₁
unchanged pages frame sizes memory entries job e held may = ∥∥₁_map held (λ goes. record {
  same = goes.same;
  all = goes.all;
  stands = goes.stands;
  leads = λ start is. ∥∥₁_map (goes.leads start is) (λ legal.
      let now : State = record start { filesets = goes.all } in
      goes_on_from start now now entries job e (have_no_clone (kept_in memory) goes.all goes.stands.stands.slots) legal (may goes.all goes.stands start is));
  within = within_longer pages frame sizes memory memory entries (entries ++ e ∷ []) goes.within (omega arith) (omega (arith, longer entries e));
})
