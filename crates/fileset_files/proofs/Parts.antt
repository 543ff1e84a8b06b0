-- What a file is, by the records of its first cell and its map.
use Rattle.std.proofs.Common.{◌≡◌, ◌∙◌, ℕ, Bool, cond, List, Option, Some, None, IfSome, IsSomeAnd, refl, sym, ap, subst, ⊎_elim}
use Rattle.std.proofs.lemmas.Bool.{cases_Bool}
use Rattle.std.specs.Option.{option_and_then, option_map}
use Rattle.file_chains.specs.domain_base.declared.place.CellAt.{CellAt}
use Rattle.file_chains.specs.domain_base.declared.place.Tag.{Tag}
use Rattle.file_chains.specs.page_store.Bitfiles.{same_tag}
use Rattle.file_chains.specs.page_store.Pages.{Pages}
use Rattle.file_chains.specs.cell_records.declared.record.Leftover.{Leftover}
use Rattle.file_chains.specs.cell_records.declared.record.Record.{Record}
use Rattle.file_chains.specs.cell_records.declared.record.Record.TheVariants as written
use Rattle.file_chains.specs.metadata_cells.Chain.{PlacedCell}
use Rattle.tag_dirs.specs.declared.dir.TagPlace.{TagPlace}
use Rattle.tag_dirs.specs.Directory.{cell_of}
use Rattle.file_chains.specs.extent_maps.Runs.{Places}
use Rattle.file_chains.specs.Files.{IsFile, places_of}
use Rattle.fileset_files.specs.declared.indexing.IndexPlace.{IndexPlace}
use Rattle.fileset_files.specs.Changes.{with_chain}
use Rattle.fileset_files.specs.Files.{AreFiles, Chains, LeadsToFile, attributes_in, first_record}
use Rattle.fileset_files.specs.Index.{index_place_of}
use Rattle.fileset_files.specs.State.{FileState, parent_of, pending_of, state_of, state_with, states_of, with_changed}
use Rattle.fileset_files.proofs.OneChain.{chain_other, chain_same}
use Rattle.fileset_files.proofs.OneFile.{tags_same}

-- the file with these parts, whose record of attributes is this one
abbrev pub from_parts : Option Tag → Option IndexPlace → Option Leftover → Places → Record → Option FileState
from_parts parent index pending places (written.Attributes kind uid gid flags size keep links birth unsynced) =
    option_map (λ is. record { attributes = is; keep = keep; birth = birth; unsynced = unsynced; parent = parent; index = index; pending = pending; places = places })
    (attributes_in (written.Attributes kind uid gid flags size keep links birth unsynced))
from_parts parent index pending places _ = None

pub parts_are : (cells : List PlacedCell) (r : Record) → state_with cells r ≡ from_parts (parent_of cells) (index_place_of cells) (pending_of cells) (places_of cells) r
parts_are cells (written.Attributes kind uid gid flags size keep links birth unsynced) = refl
parts_are cells r = refl

-- what these cells are, once each part is known
pub state_is : (cells : List PlacedCell) (first : Option Record) (parent : Option Tag) (index : Option IndexPlace) (pending : Option Leftover) (places : Places) → first_record 1 cells ≡ first → parent_of cells ≡ parent → index_place_of cells ≡ index
    → pending_of cells ≡ pending → places_of cells ≡ places → state_of cells ≡ option_and_then (from_parts parent index pending places) first
state_is cells first parent index pending places is_first is_parent is_index is_pending is_places =
    (λ i. option_and_then (λ r. parts_are cells r i) (first_record 1 cells)) ∙ (λ i. option_and_then (from_parts (is_parent i) (is_index i) (is_pending i) (is_places i)) (is_first i))

-- ---- the file of one tag, and all others

pub record FileAt (pages : Pages) (cells : List PlacedCell) : Type 0 where
  pub at : CellAt
  pub is_file : IsFile pages at cells

pub file_at : (fileset : ℕ) (places : List TagPlace) (pages : Pages) (chains : Chains) → AreFiles fileset places pages chains → (tag : Tag) (cells : List PlacedCell) → chains tag ≡ Some cells → FileAt pages cells
file_at fileset places pages chains are tag cells is =
    let leads = subst (λ o. IfSome o (LeadsToFile fileset places pages tag)) is (are.some tag) in
    by_cell (cell_of pages places tag) leads.leads
  where
    by_cell : (o : Option CellAt) → IsSomeAnd o (λ at. IsFile pages at cells) → FileAt pages cells
    by_cell None there = absurd there
    by_cell (Some at) there = record { at = at; is_file = there }

module _ (tag : Tag) (change : List PlacedCell → List PlacedCell) (how : FileState → FileState) (chains : Chains) (one : (cells : List PlacedCell) → chains tag ≡ Some cells → state_of (change cells) ≡ option_map how (state_of cells)) where
  by_chain : (o : Option (List PlacedCell)) → chains tag ≡ o → option_and_then state_of (option_map change o) ≡ option_map how (option_and_then state_of o)
  by_chain None is = refl
  by_chain (Some cells) is = one cells is

  at_tag : (t : Tag) → t ≡ tag → option_and_then state_of (option_map change (chains t)) ≡ option_map how (option_and_then state_of (chains t))
  at_tag t is = subst (λ (u : Tag). option_and_then state_of (option_map change (chains u)) ≡ option_map how (option_and_then state_of (chains u))) (sym is) (by_chain (chains tag) refl)

  each : (t : Tag) → states_of (with_chain tag change chains) t ≡ with_changed tag how (states_of chains) t
  each t = ⊎_elim
      (λ same.
      ap (option_and_then state_of) (chain_same tag change chains t same) ∙ at_tag t (tags_same t tag same)
      ∙ sym (ap (λ (b : Bool). cond b (option_map how (option_and_then state_of (chains t))) (option_and_then state_of (chains t))) same))
      (λ other.
      ap (option_and_then state_of) (chain_other tag change chains t other)
      ∙ sym (ap (λ (b : Bool). cond b (option_map how (option_and_then state_of (chains t))) (option_and_then state_of (chains t))) other))
      (cases_Bool (same_tag t tag))

  pub states_changed : states_of (with_chain tag change chains) ≡ with_changed tag how (states_of chains)
  states_changed = λ i t. each t i
