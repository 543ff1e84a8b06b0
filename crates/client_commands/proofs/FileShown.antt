-- Where the pages of a file at a place stand, shown.
use Rattle.std.proofs.Common.{◌≡◌, ◌∙◌, ◌∷◌, ◌<◌, ℕ, All, [], IsSomeAnd, List, MatchOption, Option, Some, None, Ok, Err, Result, refl, sym, ap, subst}
use Rattle.std.specs.FinMap as maps
use Rattle.std.specs.Option.{option_map_or}
use Rattle.file_commands.specs.fileset_files.Files.{AreFiles, Chains, place_at}
use Rattle.file_commands.specs.domain_base.declared.place.Kind.TheVariants.{Directory, File}
use Rattle.file_commands.specs.domain_base.declared.place.Tag.{Tag}
use Rattle.file_commands.specs.fileset_model.Apply.{in_fileset, out_of_sync, read_checks}
use Rattle.file_commands.specs.fileset_model.Filesets.{FilesetMap}
use Rattle.file_commands.specs.fileset_model.Pages.{Pages}
use Rattle.file_commands.specs.fileset_model.Paths.{directory_here, node_at}
use Rattle.file_commands.specs.fileset_values.declared.command.Command.{Command}
use Rattle.file_commands.specs.fileset_values.declared.command.Command.TheVariants.{Showfdmn, Showfile}
use Rattle.file_commands.specs.fileset_values.declared.command.Place.{Place}
use Rattle.file_commands.specs.fileset_model.declared.fileset.FilesetSlot.{FilesetSlot}
use Rattle.file_commands.specs.fileset_model.declared.node.Node.{Node}
use Rattle.file_commands.specs.fileset_model.declared.node.Node.TheVariants as node
use Rattle.file_commands.specs.fileset_values.declared.reply.ExtentItem.{ExtentItem}
use Rattle.file_commands.specs.fileset_values.declared.reply.Refusal.{Refusal}
use Rattle.file_commands.specs.fileset_values.declared.reply.Refusal.TheVariants.{IsDirectory}
use Rattle.file_commands.specs.fileset_values.declared.reply.Reply.{Reply}
use Rattle.file_commands.specs.fileset_values.declared.reply.Reply.TheVariants.{Extents, Refused}
use Rattle.file_commands.specs.fileset_values.declared.reply.VolumeItem.{VolumeItem}
use Rattle.file_commands.specs.legal_histories.State.{Member, MemberMap, State}
use Rattle.file_commands.specs.legal_histories.Volumes.{ShowsExtents, ShowsMembers, file_pages, pages_at}
use Rattle.file_commands.specs.page_ways.Frame.{frame_in}
use Rattle.file_commands.specs.staged_pages.Store.{pages_of}
use Rattle.file_commands.specs.domain_memory.Slots.{places_in, slot_in}
use Rattle.file_commands.specs.domain_memory.declared.memory.DomainMemory.{DomainMemory}
use Rattle.file_commands.specs.domain_state.Opening.{HasVolumesOf}
use Rattle.file_commands.specs.name_changes.Looking.{IsSame}
use Rattle.file_commands.specs.file_changes.Extents.{HasMembers, StandsThere}
use Rattle.file_commands.specs.file_changes.Reading.{pages_in}
use Rattle.file_commands.specs.file_changes.Reading.{pages_at as pages_there}
use Rattle.file_commands.specs.file_changes.Stages.{AreFilesIn}
use Rattle.file_commands.specs.name_commands.Placing.{IsLost, IsPlaced}
use Rattle.client_commands.specs.Shown.{AreHeld, IsShowing, IsShown, ShowsAs, ShowsHomes, ShowsVolumes}
use Rattle.file_commands.specs.name_commands.declared.stop.Stop.{Stop}
use Rattle.file_commands.specs.name_commands.declared.stop.Stop.TheVariants as stop
use Rattle.client_commands.proofs.MemberLines.{member_is}
use Rattle.file_commands.proofs.OfNameCommands.PlacedThere.{placed_is, read_refusal}

-- ---- a file that was found

module _ (memory : DomainMemory) (all : FilesetMap) (place : Place) (number : ℕ) (tag : Tag) where
  -- the pages of the node
  same_pages : (o : Option Node) → option_map_or file_pages o maps.empty ≡ option_map_or pages_in o maps.empty
  same_pages None = refl
  same_pages (Some (node.File uid gid size logged pages)) = refl
  same_pages (Some (node.Directory uid gid)) = refl

  pages_are : (p : IsPlaced memory all place number tag File) → pages_at all place ≡ pages_there p.fileset.tree place.path
  pages_are p =
      ap (λ (o : Option FilesetSlot). option_map_or (λ slot. option_map_or file_pages (node_at slot.tree place.path) maps.empty) o maps.empty) p.here
      ∙ same_pages (node_at p.fileset.tree place.path)

  -- each page of the domain's members is one of a state's
  has_members : (s : State) → HasVolumesOf memory.frame.anchor s → HasMembers (frame_in memory.frame) s.members
  has_members s has_volumes home within =
      subst (λ (o : Option Member). IsSomeAnd o (λ member. home.page < member.pages)) (sym (member_is memory s has_volumes home.vol within.0)) within.1

  pub file_shown : (p : IsPlaced memory all place number tag File) (extents : List ExtentItem)
      → ((members : MemberMap) → HasMembers (frame_in memory.frame) members → ShowsExtents members (pages_there p.fileset.tree place.path) extents)
      → ((chains : Chains) → AreFilesIn memory number chains → All (StandsThere (place_at chains tag)) extents)
      → IsShown memory all (Showfile place) (Extents extents)
  file_shown p extents shown there = subst (λ o. MatchOption o ((es : List ExtentItem) × (Extents extents ≡ Extents es) × ShowsHomes memory all place es) (λ told. Extents extents ≡ Refused told))
      (sym (read_refusal memory all place number tag File p)) (
        extents,
        refl,
        record {
          shown = λ s has_volumes. subst (λ (pages : Pages). ShowsExtents s.members pages extents) (sym (pages_are p)) (shown s.members (has_members s has_volumes));
          number = number;
          tag = tag;
          placed = p;
          there = there;
        },
      )

  pub directory_shown : IsPlaced memory all place number tag Directory → IsShown memory all (Showfile place) (Refused IsDirectory)
  directory_shown p = subst (λ o. MatchOption o ((es : List ExtentItem) × (Refused IsDirectory ≡ Extents es) × ShowsHomes memory all place es) (λ told. Refused IsDirectory ≡ Refused told))
      (sym (read_refusal memory all place number tag Directory p)) refl

-- if no path leads there
pub lost_shown : (memory : DomainMemory) (all : FilesetMap) (place : Place) (s : Stop) → IsLost all place s → ShowsAs memory all (Showfile place) (Err s)
lost_shown memory all place (stop.Refused told) lost = subst (λ o. MatchOption o ((es : List ExtentItem) × (Refused told ≡ Extents es) × ShowsHomes memory all place es) (λ r. Refused told ≡ Refused r))
    (sym (lost (λ slot. directory_here slot place.path ∷ out_of_sync slot place.path ∷ []))) refl
lost_shown memory all place stop.NoPage lost = tt
lost_shown memory all place stop.OutOfMemory lost = tt

-- ---- memory that is as it was

pub turned : (memory last : DomainMemory) → IsSame memory last → IsSame last memory
turned memory last same = record {
  same = sym (ap (λ (m : DomainMemory). record m { slots = memory.slots; listed = memory.listed }) same.same);
  slots = sym same.slots;
  listed = sym same.listed;
}

module _ (memory last : DomainMemory) (same : IsSame memory last) where
  files_are : (number : ℕ) (chains : Chains) → AreFilesIn last number chains → AreFilesIn memory number chains
  files_are number chains are =
      subst (λ items. AreFiles number (places_in (slot_in items number)) (pages_of memory.pages) chains) same.slots
      (subst (λ (m : DomainMemory). AreFiles number (places_in (slot_in last.slots.items number)) (pages_of m.pages) chains) same.same are)

  homes_still : (all : FilesetMap) (place : Place) (extents : List ExtentItem) → ShowsHomes memory all place extents → ShowsHomes last all place extents
  homes_still all place extents homes = record {
    shown = subst (λ (m : DomainMemory). (s : State) → HasVolumesOf m.frame.anchor s → ShowsExtents s.members (pages_at all place) extents) (sym same.same) homes.shown;
    number = homes.number;
    tag = homes.tag;
    placed = placed_is memory last same all place homes.number homes.tag File homes.placed;
    there = λ chains are. homes.there chains (files_are homes.number chains are);
  }

  volumes_still : (lines : List VolumeItem) → ShowsVolumes memory lines → ShowsVolumes last lines
  volumes_still lines volumes = record {
    shown = subst (λ (m : DomainMemory). (s : State) → HasVolumesOf m.frame.anchor s → ShowsMembers s lines) (sym same.same) volumes.shown;
    held = subst (λ (m : DomainMemory). AreHeld m lines) (sym same.same) volumes.held;
  }

  pub shown_still : (all : FilesetMap) (command : Command) (reply : Reply) → IsShowing command → IsShown memory all command reply → IsShown last all command reply
  shown_still all Showfdmn reply is (lines, told, volumes) = (lines, told, volumes_still lines volumes)
  shown_still all (Showfile place) reply is shown = by_refusal (in_fileset all place.fileset (read_checks place.path)) shown
    where
      by_refusal : (o : Option Refusal) → MatchOption o ((es : List ExtentItem) × (reply ≡ Extents es) × ShowsHomes memory all place es) (λ told. reply ≡ Refused told)
          → MatchOption o ((es : List ExtentItem) × (reply ≡ Extents es) × ShowsHomes last all place es) (λ told. reply ≡ Refused told)
      by_refusal None (es, told, homes) = (es, told, homes_still all place es homes)
      by_refusal (Some refusal) told = told
  shown_still all command reply is shown = absurd is

  pub shows_still : (all : FilesetMap) (command : Command) (r : Result Reply Stop) → IsShowing command → ShowsAs memory all command r → ShowsAs last all command r
  shows_still all command (Ok reply) is shown = shown_still all command reply is shown
  shows_still all command (Err (stop.Refused told)) is shown = shown_still all command (Refused told) is shown
  shows_still all command (Err stop.NoPage) is shown = tt
  shows_still all command (Err stop.OutOfMemory) is shown = tt
