-- What a fileset has at a tag, by the state of the file that the tag names.
use Rattle.std.proofs.Common.{◌≡◌, ◌∙◌, ◌==◌, Bool, true, false, cond, if◌then◌else◌, List, Option, Some, None, refl}
use Rattle.std.specs.Option.{option_and_then, option_map, option_map_or}
use Rattle.standing_laws.specs.domain_base.declared.place.Kind.TheVariants.{Directory, File}
use Rattle.standing_laws.specs.domain_base.declared.place.Tag.{Tag}
use Rattle.standing_laws.specs.cell_records.declared.record.Leftover.TheVariants.{Remove, Trim}
use Rattle.standing_laws.specs.cell_records.declared.record.Record.{Record}
use Rattle.standing_laws.specs.cell_records.declared.record.Record.TheVariants as written
use Rattle.standing_laws.specs.metadata_cells.Chain.{PlacedCell}
use Rattle.standing_laws.specs.extent_maps.Runs.{home_at}
use Rattle.standing_laws.specs.extent_records.Writing.{places_before}
use Rattle.standing_laws.specs.file_chains.Files.{places_of}
use Rattle.standing_laws.specs.fileset_files.Files.{Chains, attributes_in, first_record, is_removed, keep_in, says_remove}
use Rattle.standing_laws.specs.fileset_files.Index.{index_place_of}
use Rattle.standing_laws.specs.fileset_files.State.{FileState, parent_of, pending_in, pending_of, state_of, state_with, states_of}
use Rattle.standing_laws.specs.fileset_files.States.{if_live, is_removing, live_at}
use Rattle.standing_laws.specs.domain_layout.Seen.{SeenFile, seen_in}
use Rattle.set_standing.specs.Nodes.{seen_of}

-- a file that is to be removed says so in its records
removed_is : (o : Option Record) → option_map_or says_remove o false ≡ is_removing (option_and_then pending_in o)
removed_is None = refl
removed_is (Some r) = by_record r
  where
    by_record : (r : Record) → says_remove r ≡ is_removing (pending_in r)
    by_record (written.Pending Remove) = refl
    by_record (written.Pending Trim) = refl
    by_record r = refl

abbrev none : Option SeenFile
none = None

none_seen : (b : Bool) → cond b none none ≡ none
none_seen true = refl
none_seen false = refl

seen_if : (b : Bool) (state : FileState) → cond b None (Some (seen_of state)) ≡ option_map seen_of (cond b None (Some state))
seen_if true state = refl
seen_if false state = refl

seen_is : (cells : List PlacedCell) → seen_in cells ≡ option_map seen_of (option_and_then if_live (state_of cells))
seen_is cells = by_record (first_record 1 cells)
  where
    by_record : (o : Option Record) → cond (is_removed cells) None (option_and_then (λ is.
        option_map (λ keep. record { is = is; homes = λ page. home_at (places_before keep (places_of cells) page) }) (option_and_then keep_in o)) (option_and_then attributes_in o))
        ≡ option_map seen_of (option_and_then if_live (option_and_then (state_with cells) o))
    by_record None = none_seen (is_removed cells)
    by_record (Some (written.Attributes kind uid gid flags size keep links birth unsynced)) =
        let state : FileState = record {
          attributes = record { kind = if kind == 2 then Directory else File; uid = uid; gid = gid; is_logged = flags == 1; size = size; links = links };
          keep = keep;
          birth = birth;
          unsynced = unsynced;
          parent = parent_of cells;
          index = index_place_of cells;
          pending = pending_of cells;
          places = places_of cells;
        } in
        (λ i. cond (removed_is (first_record 6 cells) i) None (Some (seen_of state))) ∙ seen_if (is_removing (pending_of cells)) state
    by_record (Some r) = none_seen (is_removed cells)

pub live_seen : (chains : Chains) (tag : Tag) → option_and_then seen_in (chains tag) ≡ option_map seen_of (live_at (states_of chains) tag)
live_seen chains tag = by_chain (chains tag)
  where
    by_chain : (o : Option (List PlacedCell)) → option_and_then seen_in o ≡ option_map seen_of (option_and_then if_live (option_and_then state_of o))
    by_chain None = refl
    by_chain (Some cells) = seen_is cells
