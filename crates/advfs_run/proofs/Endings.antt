-- How a run ends, by its parts.
use Rattle.std.proofs.Common.{inl, inr, ◌≡◌, ◌∙◌, ℕ, Bool, List, [], ◌∷◌, ◌++◌, Option, Some, None, Result, Ok, Err, refl, sym, ap, subst, ⊎_elim, map}
use Rattle.std.proofs.lemmas.List.{append-nil}
use Rattle.std.proofs.lemmas.List.Elements.{All-nil}
use Rattle.std.specs.Io.KnownBytes.{Appends}
use Rattle.std.specs.List.{flat_map}
use Rattle.domain_attaching.specs.domain_base.declared.version.Version.{Version}
use Rattle.domain_attaching.specs.volume_disk.Disk.{Disk}
use Rattle.domain_attaching.specs.fileset_values.declared.entry.Entry.{Entry}
use Rattle.run_parts.specs.script_text.History.{history_text}
use Rattle.run_parts.specs.script_text.Turns.{turn_of, turns_of}
use Rattle.run_parts.specs.script_text.declared.script.Section.{Section}
use Rattle.advfs_run.specs.Runs.{AreStampedWithin, BeginsNot, ClosesAs, WriteFailed}
use Rattle.run_parts.specs.Reading.{Follows, GetsNoScript, HasRead}
use Rattle.run_parts.specs.Transfer.{AppendsFront, AppendsPart}
use Rattle.run_parts.specs.Exit.{status_of_print}
use Rattle.run_parts.specs.declared.print.PrintError.{PrintError}
use Rattle.run_parts.specs.declared.print.PrintError.TheVariants as print
use Rattle.run_parts.proofs.Reading.{Follows-from_answers, IsNoLonger-from_short}
use Rattle.run_parts.specs.declared.words.Form.{Form}
use Rattle.run_parts.specs.declared.words.Form.TheVariants as a_form
use Rattle.run_parts.specs.declared.status.Status.{Status}
use Rattle.run_parts.specs.declared.status.Status.TheVariants as status
use Rattle.run_parts.specs.declared.status.Unattached.{Unattached}
use Rattle.run_parts.specs.declared.status.Unattached.TheVariants as unfit
use Rattle.run_parts.specs.declared.verifying.DomainCounts.{DomainCounts}
use Rattle.advfs_run.specs.Run.{CountsFor, EndsFor, HasBegun, HasSections, IsCutShort, IsLargeFor, IsPrinted, IsRun, LeadsFor, LeavesContents, NotBegun, PrintsAs, RunsFor, StopsFor}

-- ---- no command was answered

pub none_appended : (held : Option (List ℕ)) (history : List Entry) → history ≡ [] → Appends held held (history_text history)
none_appended None history none = tt
none_appended (Some bytes) history none = sym (append-nil bytes) ∙ ap (λ h. bytes ++ history_text h) (sym none)

pub none_front : (held : Option (List ℕ)) (history : List Entry) → history ≡ [] → AppendsFront held held (history_text history)
none_front held history none = record {
  front = history_text history;
  rest = [];
  whole = sym (append-nil (history_text history));
  grown = none_appended held history none;
}

pub none_stamped : (old new : Disk) (history : List Entry) → history ≡ [] → AreStampedWithin old new history
none_stamped old new history none = subst (AreStampedWithin old new) (sym none) (All-nil _)

-- for want of a script

module _ (left : Option (List ℕ)) (read : List ℕ) (history : List Entry) (none : history ≡ []) where
  pub unread : (s : Status) → GetsNoScript left read s → HasRead left read s history
  unread status.Ok gets = absurd gets
  unread (status.Usage word) gets = (none, gets)
  unread status.SourceFault gets = (none, gets)
  unread status.TooLong gets = (none, gets)
  unread (status.BadScript line kind) gets = (none, gets)
  unread (status.NotADomain vol at) gets = absurd gets
  unread (status.VolumeFault vol) gets = absurd gets
  unread status.SinkFault gets = absurd gets
  unread (status.Found faults) gets = absurd gets
  unread (status.Occupied page) gets = absurd gets
  unread status.OutOfMemory gets = inl (none, gets)
  unread (status.VolumeSmall pages) gets = absurd gets
  unread (status.Unfit why) gets = absurd gets

  pub unread_begun : (s : Status) → GetsNoScript left read s → ¬ HasBegun s
  unread_begun status.Ok gets begun = gets
  unread_begun (status.Usage word) gets begun = begun
  unread_begun status.SourceFault gets begun = begun
  unread_begun status.TooLong gets begun = begun
  unread_begun (status.BadScript line kind) gets begun = begun
  unread_begun (status.NotADomain vol at) gets begun = begun
  unread_begun (status.VolumeFault vol) gets begun = begun
  unread_begun status.SinkFault gets begun = gets
  unread_begun (status.Found faults) gets begun = begun
  unread_begun (status.Occupied page) gets begun = begun
  unread_begun status.OutOfMemory gets begun = begun
  unread_begun (status.VolumeSmall pages) gets begun = begun
  unread_begun (status.Unfit why) gets begun = begun

  pub unread_ends : (form : Form) (old new : Disk) (s : Status) → IsRun (Ok form) → GetsNoScript left read s → EndsFor (Ok form) old new s
  unread_ends (a_form.Try pages) old new status.Ok run gets = absurd gets
  unread_ends (a_form.Try pages) old new (status.Usage word) run gets = tt
  unread_ends (a_form.Try pages) old new status.SourceFault run gets = tt
  unread_ends (a_form.Try pages) old new status.TooLong run gets = tt
  unread_ends (a_form.Try pages) old new (status.BadScript line kind) run gets = tt
  unread_ends (a_form.Try pages) old new (status.NotADomain vol at) run gets = absurd gets
  unread_ends (a_form.Try pages) old new (status.VolumeFault vol) run gets = absurd gets
  unread_ends (a_form.Try pages) old new status.SinkFault run gets = tt
  unread_ends (a_form.Try pages) old new (status.Found faults) run gets = absurd gets
  unread_ends (a_form.Try pages) old new (status.Occupied page) run gets = absurd gets
  unread_ends (a_form.Try pages) old new status.OutOfMemory run gets = tt
  unread_ends (a_form.Try pages) old new (status.VolumeSmall n) run gets = absurd gets
  unread_ends (a_form.Try pages) old new (status.Unfit why) run gets = absurd gets
  unread_ends a_form.Run old new status.Ok run gets = absurd gets
  unread_ends a_form.Run old new (status.Usage word) run gets = tt
  unread_ends a_form.Run old new status.SourceFault run gets = tt
  unread_ends a_form.Run old new status.TooLong run gets = tt
  unread_ends a_form.Run old new (status.BadScript line kind) run gets = tt
  unread_ends a_form.Run old new (status.NotADomain vol at) run gets = absurd gets
  unread_ends a_form.Run old new (status.VolumeFault vol) run gets = absurd gets
  unread_ends a_form.Run old new status.SinkFault run gets = tt
  unread_ends a_form.Run old new (status.Found faults) run gets = absurd gets
  unread_ends a_form.Run old new (status.Occupied page) run gets = absurd gets
  unread_ends a_form.Run old new status.OutOfMemory run gets = tt
  unread_ends a_form.Run old new (status.VolumeSmall n) run gets = absurd gets
  unread_ends a_form.Run old new (status.Unfit why) run gets = absurd gets
  unread_ends (a_form.Make version overwrites) old new s run gets = absurd run
  unread_ends a_form.Verify old new s run gets = absurd run

  pub unread_printed : (s : Status) → GetsNoScript left read s → ¬ IsPrinted s
  unread_printed status.Ok gets printed = gets
  unread_printed (status.Usage word) gets printed = printed
  unread_printed status.SourceFault gets printed = printed
  unread_printed status.TooLong gets printed = printed
  unread_printed (status.BadScript line kind) gets printed = printed
  unread_printed (status.NotADomain vol at) gets printed = printed
  unread_printed (status.VolumeFault vol) gets printed = gets
  unread_printed status.SinkFault gets printed = printed
  unread_printed (status.Found faults) gets printed = printed
  unread_printed (status.Occupied page) gets printed = printed
  unread_printed status.OutOfMemory gets printed = printed
  unread_printed (status.VolumeSmall pages) gets printed = printed
  unread_printed (status.Unfit why) gets printed = printed

  -- for want of a domain

  module _ (sections : List Section) (has : HasSections left read sections) where
    pub unbegun_read : (form : Form) (old new : Disk) (s : Status) → NotBegun form old new s → HasRead left read s history
    unbegun_read (a_form.Try pages) old new status.Ok not_begun = absurd not_begun
    unbegun_read (a_form.Try pages) old new (status.Usage word) not_begun = absurd not_begun
    unbegun_read (a_form.Try pages) old new status.SourceFault not_begun = absurd not_begun
    unbegun_read (a_form.Try pages) old new status.TooLong not_begun = absurd not_begun
    unbegun_read (a_form.Try pages) old new (status.BadScript line kind) not_begun = absurd not_begun
    unbegun_read (a_form.Try pages) old new (status.NotADomain vol at) not_begun = absurd not_begun
    unbegun_read (a_form.Try pages) old new (status.VolumeFault vol) not_begun = inl (none, (has.script, has.is_script))
    unbegun_read (a_form.Try pages) old new status.SinkFault not_begun = absurd not_begun
    unbegun_read (a_form.Try pages) old new (status.Found faults) not_begun = absurd not_begun
    unbegun_read (a_form.Try pages) old new (status.Occupied page) not_begun = absurd not_begun
    unbegun_read (a_form.Try pages) old new status.OutOfMemory not_begun = inl (none, IsNoLonger-from_short read has.is_script.short)
    unbegun_read (a_form.Try pages) old new (status.VolumeSmall n) not_begun = (none, (has.script, has.is_script))
    unbegun_read (a_form.Try pages) old new (status.Unfit why) not_begun = absurd not_begun
    unbegun_read a_form.Run old new status.Ok not_begun = absurd not_begun
    unbegun_read a_form.Run old new (status.Usage word) not_begun = absurd not_begun
    unbegun_read a_form.Run old new status.SourceFault not_begun = absurd not_begun
    unbegun_read a_form.Run old new status.TooLong not_begun = absurd not_begun
    unbegun_read a_form.Run old new (status.BadScript line kind) not_begun = absurd not_begun
    unbegun_read a_form.Run old new (status.NotADomain vol at) not_begun = (none, (has.script, has.is_script))
    unbegun_read a_form.Run old new (status.VolumeFault vol) not_begun = inl (none, (has.script, has.is_script))
    unbegun_read a_form.Run old new status.SinkFault not_begun = absurd not_begun
    unbegun_read a_form.Run old new (status.Found faults) not_begun = absurd not_begun
    unbegun_read a_form.Run old new (status.Occupied page) not_begun = absurd not_begun
    unbegun_read a_form.Run old new status.OutOfMemory not_begun = inl (none, IsNoLonger-from_short read has.is_script.short)
    unbegun_read a_form.Run old new (status.VolumeSmall n) not_begun = absurd not_begun
    unbegun_read a_form.Run old new (status.Unfit why) not_begun = (none, (has.script, has.is_script))
    unbegun_read (a_form.Make version overwrites) old new s not_begun = absurd not_begun
    unbegun_read a_form.Verify old new s not_begun = absurd not_begun

pub unbegun_begun : (form : Form) (old new : Disk) (s : Status) → NotBegun form old new s → ¬ HasBegun s
unbegun_begun (a_form.Try pages) old new status.Ok not_begun begun = not_begun
unbegun_begun (a_form.Try pages) old new (status.Usage word) not_begun begun = begun
unbegun_begun (a_form.Try pages) old new status.SourceFault not_begun begun = begun
unbegun_begun (a_form.Try pages) old new status.TooLong not_begun begun = begun
unbegun_begun (a_form.Try pages) old new (status.BadScript line kind) not_begun begun = begun
unbegun_begun (a_form.Try pages) old new (status.NotADomain vol at) not_begun begun = begun
unbegun_begun (a_form.Try pages) old new (status.VolumeFault vol) not_begun begun = begun
unbegun_begun (a_form.Try pages) old new status.SinkFault not_begun begun = not_begun
unbegun_begun (a_form.Try pages) old new (status.Found faults) not_begun begun = begun
unbegun_begun (a_form.Try pages) old new (status.Occupied page) not_begun begun = begun
unbegun_begun (a_form.Try pages) old new status.OutOfMemory not_begun begun = begun
unbegun_begun (a_form.Try pages) old new (status.VolumeSmall n) not_begun begun = begun
unbegun_begun (a_form.Try pages) old new (status.Unfit why) not_begun begun = begun
unbegun_begun a_form.Run old new status.Ok not_begun begun = not_begun
unbegun_begun a_form.Run old new (status.Usage word) not_begun begun = begun
unbegun_begun a_form.Run old new status.SourceFault not_begun begun = begun
unbegun_begun a_form.Run old new status.TooLong not_begun begun = begun
unbegun_begun a_form.Run old new (status.BadScript line kind) not_begun begun = begun
unbegun_begun a_form.Run old new (status.NotADomain vol at) not_begun begun = begun
unbegun_begun a_form.Run old new (status.VolumeFault vol) not_begun begun = begun
unbegun_begun a_form.Run old new status.SinkFault not_begun begun = not_begun
unbegun_begun a_form.Run old new (status.Found faults) not_begun begun = begun
unbegun_begun a_form.Run old new (status.Occupied page) not_begun begun = begun
unbegun_begun a_form.Run old new status.OutOfMemory not_begun begun = begun
unbegun_begun a_form.Run old new (status.VolumeSmall n) not_begun begun = begun
unbegun_begun a_form.Run old new (status.Unfit why) not_begun begun = begun
unbegun_begun (a_form.Make version overwrites) old new s not_begun begun = not_begun
unbegun_begun a_form.Verify old new s not_begun begun = not_begun

pub unbegun_ends : (form : Form) (old new : Disk) (s : Status) → NotBegun form old new s → EndsFor (Ok form) old new s
unbegun_ends (a_form.Try pages) old new status.Ok not_begun = absurd not_begun
unbegun_ends (a_form.Try pages) old new (status.Usage word) not_begun = tt
unbegun_ends (a_form.Try pages) old new status.SourceFault not_begun = tt
unbegun_ends (a_form.Try pages) old new status.TooLong not_begun = tt
unbegun_ends (a_form.Try pages) old new (status.BadScript line kind) not_begun = tt
unbegun_ends (a_form.Try pages) old new (status.NotADomain vol at) not_begun = not_begun
unbegun_ends (a_form.Try pages) old new (status.VolumeFault vol) not_begun = not_begun
unbegun_ends (a_form.Try pages) old new status.SinkFault not_begun = tt
unbegun_ends (a_form.Try pages) old new (status.Found faults) not_begun = not_begun
unbegun_ends (a_form.Try pages) old new (status.Occupied page) not_begun = not_begun
unbegun_ends (a_form.Try pages) old new status.OutOfMemory not_begun = tt
unbegun_ends (a_form.Try pages) old new (status.VolumeSmall n) not_begun = not_begun
unbegun_ends (a_form.Try pages) old new (status.Unfit why) not_begun = not_begun
unbegun_ends a_form.Run old new status.Ok not_begun = absurd not_begun
unbegun_ends a_form.Run old new (status.Usage word) not_begun = tt
unbegun_ends a_form.Run old new status.SourceFault not_begun = tt
unbegun_ends a_form.Run old new status.TooLong not_begun = tt
unbegun_ends a_form.Run old new (status.BadScript line kind) not_begun = tt
unbegun_ends a_form.Run old new (status.NotADomain vol at) not_begun = not_begun
unbegun_ends a_form.Run old new (status.VolumeFault vol) not_begun = not_begun.0
unbegun_ends a_form.Run old new status.SinkFault not_begun = tt
unbegun_ends a_form.Run old new (status.Found faults) not_begun = not_begun
unbegun_ends a_form.Run old new (status.Occupied page) not_begun = not_begun
unbegun_ends a_form.Run old new status.OutOfMemory not_begun = tt
unbegun_ends a_form.Run old new (status.VolumeSmall n) not_begun = not_begun
unbegun_ends a_form.Run old new (status.Unfit why) not_begun = not_begun
unbegun_ends (a_form.Make version overwrites) old new s not_begun = tt
unbegun_ends a_form.Verify old new s not_begun = tt

pub unbegun_run : (form : Form) (old new : Disk) (s : Status) (history : List Entry) → IsRun (Ok form) → history ≡ [] → ¬ HasBegun s → LeavesContents old new → RunsFor (Ok form) old new s history
unbegun_run (a_form.Try pages) old new s history run none begun left = inl (none, begun)
unbegun_run a_form.Run old new s history run none begun left = inl (none, begun, left)
unbegun_run (a_form.Make version overwrites) old new s history run none begun left = none
unbegun_run a_form.Verify old new s history run none begun left = none

-- what a domain has is left if it was not attached
left_unfit : (old new : Disk) (why : Unattached) → BeginsNot old new (status.Unfit why) → LeavesContents old new
left_unfit old new unfit.Cloned not_begun = inr (inl not_begun.0)
left_unfit old new unfit.ReadThrough not_begun = inr (inl not_begun.0)
left_unfit old new unfit.WrongQuotas not_begun = inr (inl not_begun.0)
left_unfit old new unfit.RemovedFile not_begun = inr (inl not_begun.0)
left_unfit old new unfit.CutDirectory not_begun = inr (inl not_begun.0)
left_unfit old new unfit.NoNumbers not_begun = inr (inr not_begun.1)

left_so : (old new : Disk) (s : Status) → BeginsNot old new s → LeavesContents old new
left_so old new status.Ok not_begun = absurd not_begun
left_so old new (status.Usage word) not_begun = absurd not_begun
left_so old new status.SourceFault not_begun = absurd not_begun
left_so old new status.TooLong not_begun = absurd not_begun
left_so old new (status.BadScript line kind) not_begun = absurd not_begun
left_so old new (status.NotADomain vol at) not_begun = inr (inl not_begun.0)
left_so old new (status.VolumeFault vol) not_begun = inr (inr not_begun.1)
left_so old new status.SinkFault not_begun = absurd not_begun
left_so old new (status.Found faults) not_begun = absurd not_begun
left_so old new (status.Occupied page) not_begun = absurd not_begun
left_so old new status.OutOfMemory not_begun = inr (inr not_begun)
left_so old new (status.VolumeSmall n) not_begun = absurd not_begun
left_so old new (status.Unfit why) not_begun = left_unfit old new why not_begun

pub refused_run : (form : Form) (old new : Disk) (s : Status) (history : List Entry) → history ≡ [] → NotBegun form old new s → RunsFor (Ok form) old new s history
refused_run (a_form.Try pages) old new s history none not_begun = inl (none, unbegun_begun (a_form.Try pages) old new s not_begun)
refused_run a_form.Run old new s history none not_begun = inl (none, unbegun_begun a_form.Run old new s not_begun, left_so old new s not_begun)
refused_run (a_form.Make version overwrites) old new s history none not_begun = absurd not_begun
refused_run a_form.Verify old new s history none not_begun = absurd not_begun

-- ---- a run that has begun

pub follows : (left : Option (List ℕ)) (read : List ℕ) (sections : List Section) (history : List Entry) → HasSections left read sections → map turn_of history ≡ flat_map turns_of sections
    → Follows left read history
follows left read sections history has turns =
    Follows-from_answers left read has.script history has.is_script (record { sections = sections; same = has.same; turns_are = turns })

-- the status with which a domain was closed
pub closed_read : (left : Option (List ℕ)) (read : List ℕ) (history : List Entry) (old new : Disk) (end : Status) → Follows left read history → ClosesAs old new end → HasRead left read end history
closed_read left read history old new status.Ok is closed = is
closed_read left read history old new (status.Usage word) is closed = absurd closed
closed_read left read history old new status.SourceFault is closed = absurd closed
closed_read left read history old new status.TooLong is closed = absurd closed
closed_read left read history old new (status.BadScript line kind) is closed = absurd closed
closed_read left read history old new (status.NotADomain vol at) is closed = absurd closed
closed_read left read history old new (status.VolumeFault vol) is closed = inr is
closed_read left read history old new status.SinkFault is closed = absurd closed
closed_read left read history old new (status.Found faults) is closed = absurd closed
closed_read left read history old new (status.Occupied page) is closed = absurd closed
closed_read left read history old new status.OutOfMemory is closed = absurd closed
closed_read left read history old new (status.VolumeSmall n) is closed = absurd closed
closed_read left read history old new (status.Unfit why) is closed = absurd closed

closed_ends : (form : Form) (old new : Disk) (end : Status) → IsRun (Ok form) → IsLargeFor form old → ClosesAs old new end → EndsFor (Ok form) old new end
closed_ends (a_form.Try pages) old new status.Ok run large closed = (large, closed)
closed_ends (a_form.Try pages) old new (status.Usage word) run large closed = tt
closed_ends (a_form.Try pages) old new status.SourceFault run large closed = tt
closed_ends (a_form.Try pages) old new status.TooLong run large closed = tt
closed_ends (a_form.Try pages) old new (status.BadScript line kind) run large closed = tt
closed_ends (a_form.Try pages) old new (status.NotADomain vol at) run large closed = closed
closed_ends (a_form.Try pages) old new (status.VolumeFault vol) run large closed = inr closed
closed_ends (a_form.Try pages) old new status.SinkFault run large closed = tt
closed_ends (a_form.Try pages) old new (status.Found faults) run large closed = closed
closed_ends (a_form.Try pages) old new (status.Occupied page) run large closed = closed
closed_ends (a_form.Try pages) old new status.OutOfMemory run large closed = tt
closed_ends (a_form.Try pages) old new (status.VolumeSmall n) run large closed = absurd closed
closed_ends (a_form.Try pages) old new (status.Unfit why) run large closed = closed
closed_ends a_form.Run old new status.Ok run large closed = closed
closed_ends a_form.Run old new (status.Usage word) run large closed = tt
closed_ends a_form.Run old new status.SourceFault run large closed = tt
closed_ends a_form.Run old new status.TooLong run large closed = tt
closed_ends a_form.Run old new (status.BadScript line kind) run large closed = tt
closed_ends a_form.Run old new (status.NotADomain vol at) run large closed = absurd closed
closed_ends a_form.Run old new (status.VolumeFault vol) run large closed = inr closed
closed_ends a_form.Run old new status.SinkFault run large closed = tt
closed_ends a_form.Run old new (status.Found faults) run large closed = closed
closed_ends a_form.Run old new (status.Occupied page) run large closed = closed
closed_ends a_form.Run old new status.OutOfMemory run large closed = tt
closed_ends a_form.Run old new (status.VolumeSmall n) run large closed = closed
closed_ends a_form.Run old new (status.Unfit why) run large closed = absurd closed
closed_ends (a_form.Make version overwrites) old new end run large closed = tt
closed_ends a_form.Verify old new end run large closed = tt

-- the status once its history was printed, or was not
module _ (answered : List Entry) (end s : Status) (prints : PrintsAs answered end s) where
  pub by_end : (P : Status → Type 0) → P end → P status.SinkFault → P status.OutOfMemory → P s
  by_end P of_end of_sink of_memory =
      ⊎_elim (λ same. subst P (sym same) of_end) (λ other. ⊎_elim (λ sink. subst P (sym sink) of_sink) (λ memory. subst P (sym memory.0) of_memory) other) prints

  pub ended_read : (left : Option (List ℕ)) (read : List ℕ) (history : List Entry) (old new : Disk) → Follows left read history → ClosesAs old new end → HasRead left read s history
  ended_read left read history old new is closed =
      by_end (λ x. HasRead left read x history) (closed_read left read history old new end is closed) is (inr is)

  pub ended_ends : (form : Form) (old new : Disk) → IsRun (Ok form) → IsLargeFor form old → ClosesAs old new end → EndsFor (Ok form) old new s
  ended_ends form old new run large closed =
      by_end (EndsFor (Ok form) old new) (closed_ends form old new end run large closed) (sink form run) (memory form run)
    where
      sink : (f : Form) → IsRun (Ok f) → EndsFor (Ok f) old new status.SinkFault
      sink (a_form.Try pages) is = tt
      sink a_form.Run is = tt
      sink (a_form.Make version overwrites) is = tt
      sink a_form.Verify is = tt

      memory : (f : Form) → IsRun (Ok f) → EndsFor (Ok f) old new status.OutOfMemory
      memory (a_form.Try pages) is = tt
      memory a_form.Run is = tt
      memory (a_form.Make version overwrites) is = tt
      memory a_form.Verify is = tt

  pub ended_lost : (old new : Disk) → ClosesAs old new end → (vol : ℕ) → s ≡ status.VolumeFault vol → WriteFailed old new vol
  ended_lost old new closed vol is =
      ⊎_elim (λ same. subst (ClosesAs old new) (sym same ∙ is) closed) (λ other. ⊎_elim (λ sink. absurd (no_sink (sym sink ∙ is))) (λ memory. absurd (no_memory (sym memory.0 ∙ is))) other) prints
    where
      no_sink : ¬ status.SinkFault ≡ status.VolumeFault vol
      no_sink same = cc

      no_memory : ¬ status.OutOfMemory ≡ status.VolumeFault vol
      no_memory same = cc

  pub ended_run : (form : Form) (old new : Disk) → ClosesAs old new end → LeadsFor form old new answered (end ≡ status.Ok) → RunsFor (Ok form) old new s answered
  ended_run (a_form.Try pages) old new closes leads = inr (record { end = end; prints = prints; closes = closes; leads = leads })
  ended_run a_form.Run old new closes leads = inr (record { end = end; prints = prints; closes = closes; leads = leads })
  ended_run (a_form.Make version overwrites) old new closes leads = absurd leads
  ended_run a_form.Verify old new closes leads = absurd leads

-- ---- a history that was not printed

module _ (before after : Option (List ℕ)) where
  pub some_answered : (history : List Entry) → AppendsPart before after (history_text history) → ¬ history ≡ []
  some_answered [] part is = part.some (nothing part.front part.rest part.whole)
    where
      nothing : (front rest : List ℕ) → [] ≡ front ++ rest → rest ≡ []
      nothing [] rest whole = sym whole
      nothing (x ∷ front) rest whole = absurd (cc)
  some_answered (entry ∷ history) part is = cc

  module _ (history : List Entry) (s : Status) where
    pub unprinted : (end : Status) (error : PrintError) → s ≡ status_of_print error → (error ≡ print.OutOfMemory → AppendsPart before after (history_text history)) → PrintsAs history end s
    unprinted end print.SinkFault is part = inr (inl is)
    unprinted end print.OutOfMemory is part = inr (inr (is, some_answered history (part refl)))

    pub unprinted_short : (error : PrintError) → s ≡ status_of_print error → (error ≡ print.OutOfMemory → AppendsPart before after (history_text history)) → IsCutShort s history before after
    unprinted_short print.SinkFault is part = λ memory some. absurd (no_sink (sym is ∙ memory))
      where
        no_sink : ¬ status.SinkFault ≡ status.OutOfMemory
        no_sink same = cc
    unprinted_short print.OutOfMemory is part = λ memory some. part refl

-- ---- stops, by the form of the words

pub StopsFor-err : (form : Result Form ℕ) (word : ℕ) (old new : Disk) → Err word ≡ form → StopsFor form old new
StopsFor-err form word old new is = subst (λ (f : Result Form ℕ). StopsFor f old new) is tt

pub StopsFor-run : (form : Result Form ℕ) (asked : Form) (old new : Disk) → IsRun (Ok asked) → Ok asked ≡ form → StopsFor form old new
StopsFor-run form asked old new run is = subst (λ (f : Result Form ℕ). StopsFor f old new) is (at asked run)
  where
    at : (f : Form) → IsRun (Ok f) → StopsFor (Ok f) old new
    at (a_form.Try pages) asks = tt
    at a_form.Run asks = tt
    at (a_form.Make version overwrites) asks = absurd asks
    at a_form.Verify asks = absurd asks

pub StopsFor-verify : (form : Result Form ℕ) (old new : Disk) → Ok a_form.Verify ≡ form → StopsFor form old new
StopsFor-verify form old new is = subst (λ (f : Result Form ℕ). StopsFor f old new) is tt

pub StopsFor-make : (form : Result Form ℕ) (version : Version) (overwrites : Bool) (old new : Disk) → Ok (a_form.Make version overwrites) ≡ form → StopsFor (Ok (a_form.Make version overwrites)) old new → StopsFor form old new
StopsFor-make form version overwrites old new is stops = subst (λ (f : Result Form ℕ). StopsFor f old new) is stops

-- ---- what was counted, by the form of the words

pub CountsFor-none : (form : Result Form ℕ) (disk : Disk) (found : Option DomainCounts) → found ≡ None → CountsFor form disk found
CountsFor-none form disk found is = subst (λ (counts : Option DomainCounts). CountsFor form disk counts) (sym is) (at form)
  where
    at : (f : Result Form ℕ) → CountsFor f disk None
    at (Err word) = refl
    at (Ok (a_form.Try pages)) = refl
    at (Ok a_form.Run) = refl
    at (Ok (a_form.Make version overwrites)) = refl
    at (Ok a_form.Verify) = tt

pub CountsFor-verify : (form : Result Form ℕ) (disk : Disk) (found : Option DomainCounts) → Ok a_form.Verify ≡ form → CountsFor (Ok a_form.Verify) disk found
    → CountsFor form disk found
CountsFor-verify form disk found is counted = subst (λ (f : Result Form ℕ). CountsFor f disk found) is counted
