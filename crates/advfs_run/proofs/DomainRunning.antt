-- A run over a domain that was opened, and its closing.
use Rattle.std.proofs.Common.{◌≡◌, ◌∙◌, ℕ, ◌≤◌, List, All, Option, None, ap, arith, refl, sym, subst}
use Rattle.std.proofs.Math.Logic.{∥∥₁_elim, ∥∥₁_map, ∥∥₁_prop}
use Rattle.domain_attaching.specs.domain_base.Counts.{HasRisen}
use Rattle.domain_attaching.specs.domain_base.declared.version.Version.{Version}
use Rattle.domain_attaching.specs.page_store.Pages.{Pages}
use Rattle.domain_attaching.specs.volume_disk.Disk.{Disk, MayLeave, Tells, raised_at}
use Rattle.domain_attaching.specs.volume_disk.Image.{Image}
use Rattle.domain_attaching.specs.disk_label.declared.anchor.Anchor.{Anchor}
use Rattle.domain_attaching.specs.volume_disk.Run.{Touches}
use Rattle.domain_attaching.proofs.OfVolumeDisk.Laws.{HasRisen-before, HasRisen-raised_at}
use Rattle.domain_attaching.specs.fileset_model.Filesets.{FilesetMap}
use Rattle.domain_attaching.specs.fileset_values.declared.command.Command.{Command}
use Rattle.domain_attaching.specs.fileset_values.declared.entry.Entry.{Entry}
use Rattle.domain_attaching.specs.legal_histories.Legal.{Legal}
use Rattle.domain_attaching.specs.legal_histories.State.{State, new_domain}
use Rattle.domain_attaching.specs.log_recovery.Settling.{Anywhere, HasNoGroup}
use Rattle.domain_attaching.specs.staged_pages.Store.{before_of}
use Rattle.domain_attaching.specs.domain_layout.Read.{Means}
use Rattle.domain_attaching.specs.domain_layout.Reached.{Frame}
use Rattle.domain_attaching.specs.page_ways.Frame.{frame_in}
use Rattle.domain_attaching.specs.domain_memory.Memory.{StandsFor, kept_in}
use Rattle.domain_attaching.specs.domain_memory.declared.memory.DomainMemory.{DomainMemory}
use Rattle.domain_attaching.specs.domain_state.History.{GoesOn, StandsForSome}
use Rattle.domain_attaching.specs.domain_state.Opening.{HasVolumesOf, IsStartOf}
use Rattle.domain_attaching.proofs.OfLogRecovery.OneOutcome.{one_anchor}
use Rattle.domain_attaching.proofs.OfDomainState.AttachedStart.{has_start}
use Rattle.domain_attaching.proofs.OfDomainState.NewStart.{is_start}
use Rattle.domain_attaching.specs.domain_layout.NewDomain.{IsNew}
use Rattle.domain_attaching.specs.domain_making.Making.{IsOnFirst, new_frame, pages_in_use}
use Rattle.domain_attaching.specs.Attaching.{IsReadFrom}
use Rattle.domain_attaching.specs.Closing.{HasRoomFor, MeansKept}
use Rattle.domain_attaching.specs.declared.closing_room.ClosingRoom.{ClosingRoom}
use Rattle.domain_attaching.proofs.AtClose.{room_of_other}
use Rattle.domain_attaching.proofs.OfDomainStanding.OneMeaning.{reads_so}
use Rattle.run_parts.specs.declared.status.Status.{Status}
use Rattle.run_parts.specs.declared.status.Status.TheVariants as status
use Rattle.advfs_run.specs.Runs.{AreStampedWithin, ClosesAs, Keeps, LeadsFrom, LeadsFromNew, RunsFrom}

-- ---- where a history leads

-- images that mean these filesets, and have an anchor with the volumes of a state, mean the state
keeps_state : (disk : Disk) (anchor : Anchor) (all : FilesetMap) (start : State) → ((image : Image) → MayLeave disk.now image → ∥ Means disk.sizes image all ∥₁) → ∥ HasNoGroup disk anchor ∥₁ → HasVolumesOf anchor start → Keeps disk (record start { filesets = all })
keeps_state disk anchor all start keeps none volumes image left =
    ∥∥₁_elim none ∥∥₁_prop (λ n. ∥∥₁_map (keeps image left) (λ means. record {
      means = means;
      volumes = subst (λ a. HasVolumesOf a (record start { filesets = all })) (one_anchor disk.sizes image anchor means.anchor (n.stands image left).anchor_is means.log.anchor_is)
          (record { members = volumes.members; log_volume = volumes.log_volume; version = volumes.version });
    }))

-- a domain that goes on leads to what it stands for, which is kept where that is
pub leads_kept : (pages : Pages) (frame : Frame) (sizes : List ℕ) (memory : DomainMemory) (entries : List Entry) (job : Option Command) (old new : Disk) (closed : Type 0)
    → ∥ GoesOn pages frame sizes memory entries job ∥₁ → job ≡ None → (closed → Tells old → MeansKept new memory) → (closed → Tells old → ∥ HasNoGroup new memory.frame.anchor ∥₁)
    → ∥ LeadsFrom pages frame sizes entries new (Tells old × closed) ∥₁
leads_kept pages frame sizes memory entries job old new closed goes none means stands = ∥∥₁_map goes (λ on. record {
  all = on.all;
  leads = λ start is. subst (λ (j : Option Command). ∥ Legal start entries j (record start { filesets = on.all }) ∥₁) none (on.leads start is);
  kept = λ both start is. keeps_state new frame.anchor on.all start (means both.1 both.0 on.all on.stands) (subst (λ (f : Frame). ∥ HasNoGroup new f.anchor ∥₁) on.same (stands both.1 both.0)) is.volumes;
  volumes = λ both. subst (λ (f : Frame). ∥ HasNoGroup new f.anchor ∥₁) on.same (stands both.1 both.0);
})

-- the same of another name for the rack of before
pub leads_since : (pages : Pages) (frame : Frame) (sizes : List ℕ) (entries : List Entry) (old mid new : Disk) (closed : Type 0)
    → (Tells old → Tells mid) → ∥ LeadsFrom pages frame sizes entries new (Tells mid × closed) ∥₁ → ∥ LeadsFrom pages frame sizes entries new (Tells old × closed) ∥₁
leads_since pages frame sizes entries old mid new closed told leads =
    ∥∥₁_map leads (λ on. record {
      all = on.all;
      leads = on.leads;
      kept = λ both. on.kept (told both.0, both.1);
      volumes = λ both. on.volumes (told both.0, both.1);
    })

-- a domain that was made runs from the empty state
pub runs_new : (version : Version) (old made new : Disk) (memory : DomainMemory) (entries : List Entry) (closed : Type 0) → Touches old made IsOnFirst
    → IsNew (before_of memory.pages) (new_frame version (pages_in_use version old.sizes)) → frame_in memory.frame ≡ new_frame version (pages_in_use version old.sizes)
    → ∥ LeadsFrom (before_of memory.pages) (frame_in memory.frame) made.sizes entries new (Tells made × closed) ∥₁ → ∥ LeadsFromNew version old.sizes entries new (Tells old × closed) ∥₁
runs_new version old made new memory entries closed touches fresh frame leads = ∥∥₁_map leads (λ on. record {
  all = on.all;
  leads = on.leads (new_domain version old.sizes)
      (subst (λ (l : List ℕ). IsStartOf (before_of memory.pages) (frame_in memory.frame) l (new_domain version old.sizes)) (sym touches.sizes) starts);
  kept = λ both. on.kept (touches.told ∙ both.0, both.1) (new_domain version old.sizes)
      (subst (λ (l : List ℕ). IsStartOf (before_of memory.pages) (frame_in memory.frame) l (new_domain version old.sizes)) (sym touches.sizes) starts);
  volumes = λ both. ∥∥₁_map (on.volumes (touches.told ∙ both.0, both.1)) (λ none. (memory.frame.anchor, starts.volumes, none));
})
  where
    starts : IsStartOf (before_of memory.pages) (frame_in memory.frame) old.sizes (new_domain version old.sizes)
    starts = subst (λ (f : Frame). IsStartOf (before_of memory.pages) f old.sizes (new_domain version old.sizes)) (sym frame) (is_start version old.sizes (before_of memory.pages) fresh)

-- a domain that was attached runs from what the rack had
pub runs_from : (old attached new : Disk) (memory : DomainMemory) (sizes : List ℕ) (entries : List Entry) (closed : Type 0) → Touches old attached Anywhere → sizes ≡ attached.sizes
    → ∥ StandsForSome memory ∥₁ → (Tells old → IsReadFrom old.sizes old.now.contents memory) → (Tells old → (all : FilesetMap) → Means old.sizes old.now.contents all → StandsFor memory all)
    → ∥ LeadsFrom (before_of memory.pages) (frame_in memory.frame) sizes entries new (Tells attached × closed) ∥₁ → RunsFrom old new entries closed
runs_from old attached new memory sizes entries closed touches same stands from means leads = record {
  pages = before_of memory.pages;
  frame = frame_in memory.frame;
  opened = λ told. let is = from told in (is.found, is.anchor, is.same, is.whole);
  meant = λ told all meant home at. reads_so (kept_in memory) all home (means told all meant).stands at (λ place. refl);
  some = ∥∥₁_map stands (λ of_some. has_start memory old.sizes of_some.0 of_some.1);
  leads = subst (λ (l : List ℕ). ∥ LeadsFrom (before_of memory.pages) (frame_in memory.frame) l entries new (Tells old × closed) ∥₁) (same ∙ touches.sizes)
      (leads_since (before_of memory.pages) (frame_in memory.frame) sizes entries old attached new closed (λ told. touches.told ∙ told) leads);
}

-- ---- stamps

-- entries that were all answered after so many calls
pub stamped_within : (old mid new : Disk) (entries : List Entry) → All (λ (e : Entry). e.stamp ≡ mid.calls) entries → old.calls ≤ mid.calls → mid.calls ≤ new.calls → AreStampedWithin old new entries
stamped_within old mid new entries are low high k d there =
    let is = are k d there in
    (omega (arith, is, low), omega (arith, is, high))

-- they stay so if the calls of before are fewer
pub stamped_since : (old mid new : Disk) (entries : List Entry) → old.calls ≤ mid.calls → AreStampedWithin mid new entries → AreStampedWithin old new entries
stamped_since old mid new entries low are k d there =
    let is = are k d there in
    let from = is.0 in
    (omega (arith, from, low), is.1)

-- ---- closing

-- the room that was taken at the opening is that of the domain as it goes on
pub room_still : (pages : Pages) (frame : Frame) (sizes : List ℕ) (memory : DomainMemory) (entries : List Entry) (job : Option Command) (room : ClosingRoom)
    → ∥ GoesOn pages frame sizes memory entries job ∥₁ → HasRoomFor frame.anchor room → HasRoomFor memory.frame.anchor room
room_still pages frame sizes memory entries job room goes = room_of_other frame.anchor memory.frame.anchor room (∥∥₁_map goes (λ on. ap (λ f. f.anchor) on.same))

-- a write or a sync failed, whose count has risen; and so it did since an earlier time
pub failed_closing : (before after : ℕ → ℕ) (vol number : ℕ) → number ≡ vol → after ≡ raised_at before vol → HasRisen (before number) (after number)
failed_closing before after vol number same is =
    subst (λ (v : ℕ). HasRisen (before v) (after v)) (sym same) (subst (λ (faults : ℕ → ℕ). HasRisen (before vol) (faults vol)) (sym is) (HasRisen-raised_at before vol))

pub closes_since : (old mid new : Disk) (end : Status) → Touches old mid Anywhere → mid.write_faults ≡ old.write_faults → ClosesAs mid new end → ClosesAs old new end
closes_since old mid new status.Ok touches passed closes = closes ∙ passed
closes_since old mid new (status.VolumeFault vol) touches passed closes = HasRisen-before (old.write_faults vol) (mid.write_faults vol) (new.write_faults vol) (touches.write_faults vol) closes
closes_since old mid new other touches passed closes = closes

-- a domain that was not closed has not ended well
pub fault_not_ok : (vol : ℕ) → status.VolumeFault vol ≡ status.Ok → ⊥
fault_not_ok vol is = cc
