-- All of a domain but its filesets stands on after a call on a tag.
use Rattle.std.proofs.Common.{◌≡◌, ℕ, List, [], ◌∷◌, Option, Some, None}
use Rattle.std.specs.Option.{option_and_then}
use Rattle.domain_standing.specs.domain_base.declared.place.CellAt.{CellAt}
use Rattle.domain_standing.specs.domain_base.declared.place.Home.{Home}
use Rattle.domain_standing.specs.domain_base.declared.place.Tag.{Tag}
use Rattle.domain_standing.specs.metadata_cells.Chain.{PlacedCell}
use Rattle.domain_standing.specs.fileset_model.Filesets.{FilesetMap}
use Rattle.domain_standing.specs.free_space.Spaces.{volume_of}
use Rattle.domain_standing.specs.free_space.VolumeSpace.{VolumeSpace}
use Rattle.domain_standing.specs.fileset_files.Files.{Chains}
use Rattle.domain_standing.specs.release_list.Listed.{IsEntry}
use Rattle.domain_standing.specs.release_list.Listing.{Adds, Listing}
use Rattle.domain_standing.specs.release_list.Standing.{Files}
use Rattle.domain_standing.specs.release_steps.Tags.{start_of}
use Rattle.domain_standing.specs.Chains.{IndexesAt, IsToDo}
use Rattle.domain_standing.specs.Domain.{DomainNow}
use Rattle.domain_standing.specs.Holders.{AreHeldAt, Holder, Holds, HoldsOwned, IsUnheld}
use Rattle.domain_standing.specs.Rest.{SaysTheRest, StaysInOriginal}
use Rattle.domain_standing.specs.Slots.{StandSlots}
use Rattle.domain_standing.specs.Tables.{StandTables}
use Rattle.standing_laws.specs.Leads.{LeadsOn, StandsBelow, fileset_now}
use Rattle.standing_laws.specs.Left.{LeavesNothing}
use Rattle.standing_laws.proofs.EntryListed.{chains_listed}
use Rattle.standing_laws.proofs.HeldStill.{owned_still}
use Rattle.standing_laws.proofs.NothingLeft.{chains_stand}
use Rattle.standing_laws.proofs.RestStands.{rest_stands}
use Rattle.standing_laws.proofs.TablesStand.{tables_stand}

-- ---- with another list

module _ (d : DomainNow) (listed : Listing) where
  abbrev other : DomainNow
  other = record d { list = listed }

  pub tables_listed : StandTables d → StandTables other
  tables_listed stand = record {
    laid = stand.laid;
    log = stand.log;
    few = stand.few;
    may = stand.may;
    volumes = λ vol member. let first = stand.volumes vol member in record { cell = first.cell; stands = first.stands; says = first.says };
    cells = stand.cells;
  }

  pub slots_listed : (all : FilesetMap) → StandSlots d all → StandSlots other all
  slots_listed all stand = record { shapes = stand.shapes; are = stand.are; filled = stand.filled; sets = stand.sets; no_clone = stand.no_clone }

  module _ (files : Files) (indexes : IndexesAt) where
    held_before : (holder : Holder) (home : Home) → Holds other files indexes holder home → Holds d files indexes holder home
    held_before Holder.of_volume home held = held
    held_before Holder.of_log home held = held
    held_before Holder.of_table home held = held
    held_before Holder.of_cells home held = held
    held_before (Holder.of_tags number) home held = held
    held_before (Holder.of_index at place) home held = held
    held_before (Holder.of_file at page) home held = held

    held_then : (holder : Holder) (home : Home) → Holds d files indexes holder home → Holds other files indexes holder home
    held_then Holder.of_volume home held = held
    held_then Holder.of_log home held = held
    held_then Holder.of_table home held = held
    held_then Holder.of_cells home held = held
    held_then (Holder.of_tags number) home held = held
    held_then (Holder.of_index at place) home held = held
    held_then (Holder.of_file at page) home held = held

    unheld_then : (home : Home) → IsUnheld d files indexes home → IsUnheld other files indexes home
    unheld_then home none holder held = none holder (held_before holder home held)

    unheld_before : (home : Home) → IsUnheld other files indexes home → IsUnheld d files indexes home
    unheld_before home none holder held = none holder (held_then holder home held)

    space_listed : (vol : ℕ) (o : Option VolumeSpace) → AreHeldAt d files indexes vol o → AreHeldAt other files indexes vol o
    space_listed vol None at = at
    space_listed vol (Some space) at = (
      at.0,
      record {
        count = at.1.count;
        opened = at.1.opened;
        free = λ page within. let free = at.1.free page within in (
          (λ unused. let is = free.0 unused in (unheld_then (record { vol = vol; page = page }) is.0, is.1)),
          (λ is. free.1 (unheld_before (record { vol = vol; page = page }) is.0, is.1)),
        );
        waits = λ page waits. unheld_then (record { vol = vol; page = page }) (at.1.waits page waits);
      },
    )

    pub owned_listed : HoldsOwned d files indexes → HoldsOwned other files indexes
    owned_listed owned = record {
      once = λ home one two held also. owned.once home one two (held_before one home held) (held_before two home also);
      spaces = λ vol low. space_listed vol (volume_of d.space vol) (owned.spaces vol low);
    }

    stays_before : (chain : List PlacedCell) → StaysInOriginal other chain → StaysInOriginal d chain
    stays_before [] stays = stays
    stays_before (first ∷ rest) stays = stays

    pub rest_listed : SaysTheRest d files → SaysTheRest other files
    rest_listed rest = record {
      kinds = λ at cell on. rest.kinds at cell (record { member = on.member; table = on.table; stands = on.stands });
      firsts = λ at cell on primary. rest.firsts at cell (record { member = on.member; table = on.table; stands = on.stands }) primary;
      births = λ at cell value of stands has. rest.births at cell value (record { number = of.number; original = of.original; tag = of.tag; leads = of.leads }) stands has;
      holes = λ at chain is stays. rest.holes at chain is (stays_before chain stays);
    }

-- ---- after a call

module _ (number : ℕ) (tag : Tag) (d now : DomainNow) (chains chains_now : Chains) (files files_now : Files) (indexes : IndexesAt) (below : StandsBelow d files indexes) (s : LeadsOn number tag d now chains chains_now files files_now) where
  pub below_stands : LeavesNothing number d.frame.version tag (fileset_now d number chains files) (fileset_now now number chains_now files_now) s.call → StandsBelow now files_now indexes
  below_stands nothing = record {
    tables = tables_stand number tag d now chains chains_now files files_now indexes below s;
    chains = chains_stand number tag d now chains chains_now files files_now indexes below s nothing;
    owned = owned_still number tag d now chains chains_now files files_now indexes below s;
    rest = rest_stands number tag d now chains chains_now files files_now indexes below s;
  }

  pub below_listed : (start : CellAt) (clone : Option CellAt) (listed : Listing) → option_and_then start_of (chains tag) ≡ Some start → IsToDo files_now start → IsEntry files_now (record { at = start; clone = clone })
      → Adds start clone now.list.entries listed.entries → listed.tag_pages ≡ now.list.tag_pages → StandsBelow (record now { list = listed }) files_now indexes
  below_listed start clone listed begins to_do may adds same = record {
    tables = tables_listed now listed (tables_stand number tag d now chains chains_now files files_now indexes below s);
    chains = chains_listed number tag d now chains chains_now files files_now indexes below s start clone listed begins to_do may adds same;
    owned = owned_listed now listed files_now indexes (owned_still number tag d now chains chains_now files files_now indexes below s);
    rest = rest_listed now listed files_now indexes (rest_stands number tag d now chains chains_now files files_now indexes below s);
  }
