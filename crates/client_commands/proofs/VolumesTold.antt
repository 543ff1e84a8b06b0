-- What is shown of volumes may be told: the history goes on by it, and nothing changes.
use Rattle.std.proofs.Common.{◌≡◌, ◌∷◌, ℕ, false, [], List, MatchOption, Option, Some, None, inl, inr, refl, sym, ap, subst}
use Rattle.file_commands.specs.domain_layout.Reached.{Frame}
use Rattle.file_commands.specs.fileset_model.Apply.{answer_of, in_fileset, read_checks}
use Rattle.file_commands.specs.fileset_model.Filesets.{FilesetMap}
use Rattle.file_commands.specs.fileset_model.Paths.{first_refusal}
use Rattle.file_commands.specs.fileset_values.declared.command.Command.{Command}
use Rattle.file_commands.specs.fileset_values.declared.command.Command.TheVariants.{Read, Showfdmn, Showfile}
use Rattle.file_commands.specs.fileset_values.declared.command.Place.{Place}
use Rattle.file_commands.specs.fileset_values.declared.entry.Entry.{Entry}
use Rattle.file_commands.specs.fileset_values.declared.reply.ExtentItem.{ExtentItem}
use Rattle.file_commands.specs.fileset_values.declared.reply.Refusal.{Refusal}
use Rattle.file_commands.specs.fileset_values.declared.reply.Reply.{Reply}
use Rattle.file_commands.specs.fileset_values.declared.reply.Reply.TheVariants.{Extents, Refused, Volumes}
use Rattle.file_commands.specs.fileset_values.declared.reply.VolumeItem.{VolumeItem}
use Rattle.file_commands.proofs.OfLegalHistories.Inside.{stays_inside}
use Rattle.file_commands.specs.legal_histories.PlainRun.{IsInside}
use Rattle.file_commands.specs.legal_histories.Point.{Point}
use Rattle.file_commands.specs.legal_histories.State.{State}
use Rattle.file_commands.specs.legal_histories.Step.{Step}
use Rattle.file_commands.specs.legal_histories.Step.Step.{on_volumes, out_of_memory}
use Rattle.file_commands.specs.legal_histories.VolumeReply.{VolumeReply, is_movers}
use Rattle.file_commands.specs.legal_histories.Volumes.{ShowsExtents, ShowsMembers, pages_at, volume_refusal}
use Rattle.file_commands.specs.page_store.Pages.{Pages}
use Rattle.file_commands.specs.page_ways.Frame.{frame_in}
use Rattle.file_commands.specs.domain_memory.Memory.{StandsFor}
use Rattle.file_commands.specs.domain_memory.declared.memory.DomainMemory.{DomainMemory}
use Rattle.file_commands.specs.domain_state.History.{IsCalm, MayCommitUnchanged, StandsForSome}
use Rattle.file_commands.specs.domain_state.Opening.{HasVolumesOf}
use Rattle.file_commands.specs.domain_state.Short.{HadPages}
use Rattle.file_commands.specs.name_commands.Coming.{ComesNext}
use Rattle.client_commands.specs.Shown.{IsShowing, IsShown, IsShownIfMemory, ShowsHomes}
use Rattle.client_commands.proofs.Coming.{follows, inside_calm, inside_spared, looks_itself}

pub showing_client : (c : Command) → IsShowing c → is_movers c ≡ false
showing_client Showfdmn is = refl
showing_client (Showfile place) is = refl
showing_client c is = absurd is

-- ---- the answer by the state

module _ (memory : DomainMemory) (all : FilesetMap) (s : State) (filesets : s.filesets ≡ all) (has_volumes : HasVolumesOf memory.frame.anchor s) where
  -- what a command that shows volumes answers in a state
  abbrev InState : Command → Reply → Type 0
  InState Showfdmn reply = (s ≡ s) × ((lines : List VolumeItem) × (reply ≡ Volumes lines) × ShowsMembers s lines)
  InState (Showfile place) reply = MatchOption (volume_refusal s (Showfile place))
      ((s ≡ s) × ((runs : List ExtentItem) × (reply ≡ Extents runs) × ShowsExtents s.members (pages_at s.filesets place) runs))
      (λ refusal. (reply ≡ Refused refusal) × (s ≡ s))
  InState c reply = ⊥

  file_in_state : (place : Place) (reply : Reply) (o : Option Refusal) → MatchOption o ((es : List ExtentItem) × (reply ≡ Extents es) × ShowsHomes memory all place es) (λ told. reply ≡ Refused told)
      → MatchOption (first_refusal (o ∷ None ∷ [])) ((s ≡ s) × ((runs : List ExtentItem) × (reply ≡ Extents runs) × ShowsExtents s.members (pages_at s.filesets place) runs)) (λ refusal. (reply ≡ Refused refusal) × (s ≡ s))
  file_in_state place reply None (es, told, homes) =
      (refl, (es, told, subst (λ (f : FilesetMap). ShowsExtents s.members (pages_at f place) es) (sym filesets) (homes.shown s has_volumes)))
  file_in_state place reply (Some refusal) told = (told, refl)

  in_state : (c : Command) (reply : Reply) → IsShowing c → IsShown memory all c reply → InState c reply
  in_state Showfdmn reply is (lines, told, volumes) = (refl, (lines, told, volumes.shown s has_volumes))
  in_state (Showfile place) reply is shown =
      subst (λ (f : FilesetMap). MatchOption (first_refusal (in_fileset f place.fileset (read_checks place.path) ∷ None ∷ [])) ((s ≡ s) × ((runs : List ExtentItem) × (reply ≡ Extents runs) × ShowsExtents s.members (pages_at s.filesets place) runs)) (λ refusal. (reply ≡ Refused refusal) × (s ≡ s)))
      (sym filesets) (file_in_state place reply (in_fileset all place.fileset (read_checks place.path)) shown)
  in_state c reply is shown = absurd is

replies : (memory : DomainMemory) (all : FilesetMap) (point : Point) → point.state.filesets ≡ all → HasVolumesOf memory.frame.anchor point.state → (c : Command) (reply : Reply) → IsShowing c → IsShown memory all c reply → VolumeReply point c reply point.state
replies memory all point filesets has_volumes Showfdmn reply is shown = in_state memory all point.state filesets has_volumes Showfdmn reply is shown
replies memory all point filesets has_volumes (Showfile place) reply is shown = in_state memory all point.state filesets has_volumes (Showfile place) reply is shown
replies memory all point filesets has_volumes c reply is shown = absurd is

-- ---- the history goes on

pub may_tell : (pages : Pages) (frame : Frame) (sizes : List ℕ) (memory : DomainMemory) (entries : List Entry) (job : Option Command) (e : Entry) (all : FilesetMap) → frame_in memory.frame ≡ frame → ComesNext entries e → IsShowing e.command
    → IsShownIfMemory memory all e.command e.reply → MayCommitUnchanged pages frame sizes entries job e all
may_tell pages frame sizes memory entries job e all frame_is next showing shown start is point comes same = record {
  end = record start { filesets = all };
  follows = follows start entries job e all all next is.striped point comes same;
  step = subst (Step point e) same (steps shown);
  looks = looks_itself (record start { filesets = all });
}
  where
    has_volumes : HasVolumesOf memory.frame.anchor point.state
    has_volumes =
        let at_start : HasVolumesOf memory.frame.anchor start = subst (λ (f : Frame). HasVolumesOf f.anchor start) (sym frame_is) is.volumes in
        subst (HasVolumesOf memory.frame.anchor) (sym same) (record { members = at_start.members; log_volume = at_start.log_volume; version = at_start.version })

    steps : IsShownIfMemory memory all e.command e.reply → Step point e point.state
    steps (inl told) = on_volumes (replies memory all point (ap (λ (s : State). s.filesets) same) has_volumes e.command e.reply showing told)
    steps (inr short) = out_of_memory short refl

-- ---- it has no cause that lies outside

-- a file is refused as a read of it would be
refused_inside : (told : Refusal) (all : FilesetMap) (place : Place) → in_fileset all place.fileset (read_checks place.path) ≡ Some told → IsInside (Refused told)
refused_inside told all place refused =
    stays_inside all (Read place 0 0) (Refused told) all
    (inl (subst (λ o. MatchOption o ((Refused told ≡ answer_of all (Read place 0 0)) × (all ≡ all)) (λ refusal. (Refused told ≡ Refused refusal) × (all ≡ all))) (sym refused) (refl, refl)))

pub shown_inside : (memory : DomainMemory) (all : FilesetMap) (c : Command) (reply : Reply) → IsShownIfMemory memory all c reply → IsInside reply
shown_inside memory all c reply (inr short) = subst IsInside (sym short) tt
shown_inside memory all Showfdmn reply (inl (lines, told, volumes)) = subst IsInside (sym told) tt
shown_inside memory all (Showfile place) reply (inl shown) = by_refusal (in_fileset all place.fileset (read_checks place.path)) refl shown
  where
    by_refusal : (o : Option Refusal) → in_fileset all place.fileset (read_checks place.path) ≡ o → MatchOption o ((es : List ExtentItem) × (reply ≡ Extents es) × ShowsHomes memory all place es) (λ told. reply ≡ Refused told) → IsInside reply
    by_refusal None refused (es, told, homes) = subst IsInside (sym told) tt
    by_refusal (Some refusal) refused told = subst IsInside (sym told) (refused_inside refusal all place refused)
shown_inside memory all c reply (inl shown) = absurd shown

-- so it tells neither of a volume that failed nor of want of pages
pub shown_calm : (memory : DomainMemory) (c : Command) (reply : Reply) → ∥ StandsForSome memory ∥₁ → ((all : FilesetMap) → StandsFor memory all → IsShownIfMemory memory all c reply) → IsCalm reply
shown_calm memory c reply stands shown = inside_calm memory reply stands (λ all stood. shown_inside memory all c reply (shown all stood))

pub shown_spared : (memory : DomainMemory) (c : Command) (reply : Reply) → ∥ StandsForSome memory ∥₁ → ((all : FilesetMap) → StandsFor memory all → IsShownIfMemory memory all c reply) → HadPages reply
shown_spared memory c reply stands shown = inside_spared memory reply stands (λ all stood. shown_inside memory all c reply (shown all stood))
