-- A history that is begun.
use Rattle.std.proofs.Common.{◌≡◌, List, [], None, ℕ, IsSomeAnd, refl, sym, subst}
use Rattle.std.proofs.Math.Logic.{∥∥₁_map}
use Rattle.std.specs.FinMap.{get}
use Rattle.no_faults.specs.domain_base.declared.place.Home.{Home}
use Rattle.no_faults.specs.page_store.Pages.{Pages}
use Rattle.no_faults.specs.fileset_model.Filesets.{FilesetMap}
use Rattle.no_faults.specs.fileset_model.LooksLike.{LooksLike}
use Rattle.no_faults.specs.fileset_table.Page.{IsTablePage}
use Rattle.no_faults.specs.legal_histories.Legal.{Legal, stays}
use Rattle.no_faults.specs.legal_histories.Point.{start_point}
use Rattle.no_faults.specs.legal_histories.State.{State}
use Rattle.no_faults.specs.page_ways.Frame.{frame_in}
use Rattle.no_faults.specs.staged_pages.Store.{before_of}
use Rattle.no_faults.specs.domain_layout.Read.{ReadsFrom, contents_of}
use Rattle.no_faults.specs.domain_layout.Reached.{Frame}
use Rattle.no_faults.proofs.OfDomainLayout.OneShape.{one_shape}
use Rattle.no_faults.proofs.OfDomainLayout.OneSlot.{one_filling}
use Rattle.no_faults.proofs.OfDomainLayout.OneMeaning.{there_same}
use Rattle.no_faults.proofs.OfDomainLayout.OnePage.{HasOne, one_of}
use Rattle.no_faults.specs.domain_standing.Domain.{DomainNow}
use Rattle.no_faults.proofs.OfDomainStanding.OneMeaning.{reads_so}
use Rattle.no_faults.specs.domain_memory.Memory.{StandsFor, kept_in}
use Rattle.no_faults.specs.domain_memory.declared.memory.DomainMemory.{DomainMemory}
use Rattle.domain_state.specs.History.{GoesOn, LeadsTo, StandsForSome}
use Rattle.domain_state.specs.Opening.{IsStartOf}
use Rattle.domain_state.specs.Room.{IsWithinRoom}

-- pages are read in one way
reads_once : (pages : Pages) (home : Home) (all other : FilesetMap) → ReadsFrom pages home all → ReadsFrom pages home other → LooksLike all other
reads_once pages home all other one two =
    one_filling pages home (contents_of pages) one.shapes all other one.shaped one.filled
    (λ name. there_same (contents_of pages) (one.shapes name) (two.shapes name) (get other name)
    (one_shape pages home one.shapes two.shapes name one.shaped two.shaped) (two.filled name))

-- a state that looks like the filesets is where a history without an entry leads
legal_none : (start : State) (all : FilesetMap) → LooksLike start.filesets all → Legal start [] None (record start { filesets = all })
legal_none start all alike = record {
  point = start_point start;
  chain = stays;
  answered = refl;
  running = refl;
  ends = record { filesets = alike; rest = refl };
}

module _ (memory : DomainMemory) (sizes : List ℕ) where
  -- the filesets of a start look like those for which the domain stands
  pub looks_so : (all : FilesetMap) → StandsFor memory all → (start : State) → IsStartOf (before_of memory.pages) (frame_in memory.frame) sizes start → LooksLike start.filesets all
  looks_so all stands start is =
      let d : DomainNow = kept_in memory in
      let there : HasOne d.frame.anchor.table (λ h. IsSomeAnd (d.pages h) (λ page. IsTablePage page d.table)) = one_of d.frame.anchor.table _ stands.stands.tables.laid.table in
      let reads : ReadsFrom d.pages there.value all = reads_so d all there.value stands.stands there.there (λ place. refl) in
      reads_once d.pages there.value start.filesets all (is.filesets there.value there.there) reads

  leads_none : (all : FilesetMap) → StandsFor memory all → LeadsTo (before_of memory.pages) (frame_in memory.frame) sizes [] None all
  leads_none all stands start is = ∣ legal_none start all (looks_so all stands start is) ∣₁

  goes_on : ((all : FilesetMap) → StandsFor memory all → IsWithinRoom (before_of memory.pages) (frame_in memory.frame) sizes memory []) → ∥ StandsForSome memory ∥₁ → ∥ GoesOn (before_of memory.pages) (frame_in memory.frame) sizes memory [] None ∥₁
  goes_on within held = ∥∥₁_map held (λ some. record { same = refl; all = some.0; stands = some.1; leads = leads_none some.0 some.1; within = within some.0 some.1 })

  -- the same by other names
  pub begun : (pages : Pages) (frame : Frame) → pages ≡ before_of memory.pages → frame ≡ frame_in memory.frame → ((all : FilesetMap) → StandsFor memory all → IsWithinRoom (before_of memory.pages) (frame_in memory.frame) sizes memory []) → ∥ StandsForSome memory ∥₁ → ∥ GoesOn pages frame sizes memory [] None ∥₁
  begun pages frame pages_are frame_is within held =
      subst (λ (f : Frame). ∥ GoesOn pages f sizes memory [] None ∥₁) (sym frame_is)
      (subst (λ (p : Pages). ∥ GoesOn p (frame_in memory.frame) sizes memory [] None ∥₁) (sym pages_are) (goes_on within held))
