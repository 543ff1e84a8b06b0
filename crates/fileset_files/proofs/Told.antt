-- What is told of a tag's file, by what it is.
use Rattle.std.proofs.Common.{◌≡◌, ◌∙◌, ℕ, Bool, true, false, cond, List, [], ◌∷◌, Option, Some, None, IfSome, IsSome, refl, sym, ap, arith}
use Rattle.std.proofs.lemmas.Bool.{true≢false}
use Rattle.std.specs.Option.{option_and_then, option_map, option_map_or}
use Rattle.file_chains.specs.domain_base.declared.place.CellAt.{CellAt}
use Rattle.file_chains.specs.domain_base.declared.place.Tag.{Tag}
use Rattle.file_chains.specs.page_store.Pages.{Pages}
use Rattle.file_chains.specs.cell_records.declared.record.Leftover.{Leftover}
use Rattle.file_chains.specs.cell_records.declared.record.Leftover.TheVariants.{Remove, Trim}
use Rattle.file_chains.specs.cell_records.declared.record.Record.{Record}
use Rattle.file_chains.specs.cell_records.declared.record.Record.TheVariants as written
use Rattle.file_chains.specs.cell_records.Records.{kind_of}
use Rattle.file_chains.specs.metadata_cells.Cell.{record_of}
use Rattle.file_chains.specs.metadata_cells.Chain.{PlacedCell}
use Rattle.tag_dirs.specs.declared.dir.TagPlace.{TagPlace}
use Rattle.file_chains.specs.extent_maps.declared.run.PagePlace.TheVariants.{Absent}
use Rattle.file_chains.specs.Files.{IsFile, places_of}
use Rattle.file_chains.proofs.MapRecords.{kind_found}
use Rattle.fileset_files.specs.Files.{AreFiles, Chains, attributes_in, attributes_of, first_record, keep_in, keep_of, of_live, place_at, says_remove}
use Rattle.fileset_files.specs.Index.{index_place_of}
use Rattle.fileset_files.specs.State.{FileState, pending_in, pending_of, state_of, state_with, states_of}
use Rattle.fileset_files.proofs.Parts.{file_at}
use Rattle.fileset_files.specs.States.{if_live, is_removing, live_at, place_in}

some_is_none : {X : Type 0} (x : X) → None ≡ Some x → ⊥
some_is_none x e = cc

-- a file that is to be removed says so in its records
removed_is : (o : Option Record) → option_map_or says_remove o false ≡ is_removing (option_and_then pending_in o)
removed_is None = refl
removed_is (Some r) = by_record r
  where
    by_record : (r : Record) → says_remove r ≡ is_removing (pending_in r)
    by_record (written.Pending Remove) = refl
    by_record (written.Pending Trim) = refl
    by_record r = refl

-- what the file has that the cells make
pending_is : (cells : List PlacedCell) (state : FileState) → state_of cells ≡ Some state → state.pending ≡ pending_of cells
pending_is cells state is = by_record (first_record 1 cells) is
  where
    by_record : (o : Option Record) → option_and_then (state_with cells) o ≡ Some state → state.pending ≡ pending_of cells
    by_record None is = absurd (some_is_none state is)
    by_record (Some (written.Attributes kind uid gid flags size keep links birth unsynced)) is = sym (ap (λ (o : Option FileState). option_map_or (λ (s : FileState). s.pending) o None) is)
    by_record (Some r) is = absurd (some_is_none state is)

attributes_are : (cells : List PlacedCell) → attributes_of cells ≡ option_map (λ (s : FileState). s.attributes) (state_of cells)
attributes_are cells = by_record (first_record 1 cells)
  where
    by_record : (o : Option Record) → option_and_then attributes_in o ≡ option_map (λ (s : FileState). s.attributes) (option_and_then (state_with cells) o)
    by_record None = refl
    by_record (Some (written.Attributes kind uid gid flags size keep links birth unsynced)) = refl
    by_record (Some r) = refl

keep_is : (cells : List PlacedCell) → keep_of cells ≡ option_map (λ (s : FileState). s.keep) (state_of cells)
keep_is cells = by_record (first_record 1 cells)
  where
    by_record : (o : Option Record) → option_and_then keep_in o ≡ option_map (λ (s : FileState). s.keep) (option_and_then (state_with cells) o)
    by_record None = refl
    by_record (Some (written.Attributes kind uid gid flags size keep links birth unsynced)) = refl
    by_record (Some r) = refl

-- the cells of a file make one
module _ (cells : List PlacedCell) (kind_one : (o : Option Record) → first_record 1 cells ≡ o → IfSome o (λ r. kind_of r ≡ 1)) (some : IsSome (first_record 1 cells)) where
  index_is : index_place_of cells ≡ option_and_then (λ (s : FileState). s.index) (state_of cells)
  index_is = by_record (first_record 1 cells) refl some
    where
      by_record : (o : Option Record) → first_record 1 cells ≡ o → IsSome o → index_place_of cells ≡ option_and_then (λ (s : FileState). s.index) (option_and_then (state_with cells) o)
      by_record None is there = absurd (true≢false (sym there))
      by_record (Some (written.Attributes kind uid gid flags size keep links birth unsynced)) is there = refl
      by_record (Some r) is there = absurd (omega (arith, kind_one (Some r) is))

  places_are : (page : ℕ) → places_of cells page ≡ option_map_or (λ (s : FileState). s.places page) (state_of cells) Absent
  places_are page = by_record (first_record 1 cells) refl some
    where
      by_record : (o : Option Record) → first_record 1 cells ≡ o → IsSome o → places_of cells page ≡ option_map_or (λ (s : FileState). s.places page) (option_and_then (state_with cells) o) Absent
      by_record None is there = absurd (true≢false (sym there))
      by_record (Some (written.Attributes kind uid gid flags size keep links birth unsynced)) is there = refl
      by_record (Some r) is there = absurd (omega (arith, kind_one (Some r) is))

-- ---- what is told of live files

live_map : {X : Type 0} (how : FileState → Option X) (left : Option Leftover) (o : Option FileState) → ((s : FileState) → o ≡ Some s → s.pending ≡ left) → cond (is_removing left) None (option_and_then how o) ≡ option_and_then how (option_and_then if_live o)
live_map how left None is = by_test (is_removing left)
  where
    by_test : (b : Bool) → cond b None (option_and_then how None) ≡ option_and_then how None
    by_test true = refl
    by_test false = refl
live_map how left (Some s) is = ap (λ (l : Option Leftover). cond (is_removing l) None (how s)) (sym (is s refl)) ∙ by_test (is_removing s.pending)
  where
    by_test : (b : Bool) → cond b None (how s) ≡ option_and_then how (cond b None (Some s))
    by_test true = refl
    by_test false = refl

mapped : {X : Type 0} (how : FileState → X) (o : Option FileState) → option_map how o ≡ option_and_then (λ s. Some (how s)) o
mapped how None = refl
mapped how (Some s) = refl

-- one thing of a live file, which the cells say
pub told_live : {X : Type 0} (what : List PlacedCell → Option X) (how : FileState → Option X) (chains : Chains) (tag : Tag) → ((cells : List PlacedCell) → chains tag ≡ Some cells → what cells ≡ option_and_then how (state_of cells))
    → option_and_then (of_live what) (chains tag) ≡ option_and_then how (live_at (states_of chains) tag)
told_live what how chains tag same = by_chain (chains tag) refl
  where
    by_chain : (o : Option (List PlacedCell)) → chains tag ≡ o → option_and_then (of_live what) o ≡ option_and_then how (option_and_then if_live (option_and_then state_of o))
    by_chain None is = refl
    by_chain (Some cells) is =
        (λ i. cond (removed_is (first_record 6 cells) i) None (same cells is i))
        ∙ live_map how (pending_of cells) (state_of cells) (λ s. pending_is cells s)

module _ (fileset : ℕ) (places : List TagPlace) (pages : Pages) (chains : Chains) (are : AreFiles fileset places pages chains) (tag : Tag) where
  pub told_attributes : option_and_then (of_live attributes_of) (chains tag) ≡ option_map (λ (s : FileState). s.attributes) (live_at (states_of chains) tag)
  told_attributes =
      told_live attributes_of (λ s. Some s.attributes) chains tag (λ cells is. attributes_are cells ∙ mapped (λ s. s.attributes) (state_of cells))
      ∙ sym (mapped (λ s. s.attributes) (live_at (states_of chains) tag))

  pub told_keep : option_and_then (of_live keep_of) (chains tag) ≡ option_map (λ (s : FileState). s.keep) (live_at (states_of chains) tag)
  told_keep =
      told_live keep_of (λ s. Some s.keep) chains tag (λ cells is. keep_is cells ∙ mapped (λ s. s.keep) (state_of cells))
      ∙ sym (mapped (λ s. s.keep) (live_at (states_of chains) tag))

  record Fits (cells : List PlacedCell) : Type 0 where
    kind : (o : Option Record) → first_record 1 cells ≡ o → IfSome o (λ r. kind_of r ≡ 1)
    some : IsSome (first_record 1 cells)

  fits : (cells : List PlacedCell) → chains tag ≡ Some cells → Fits cells
  fits cells is = let f = file_at fileset places pages chains are tag cells is in by_cells cells f.at f.is_file
    where
      by_cells : (cells : List PlacedCell) (at : CellAt) → IsFile pages at cells → Fits cells
      by_cells [] at is_file = absurd is_file
      by_cells (first ∷ rest) at is_file = record { kind = by_record; some = is_file.1.attributes }
        where
          by_record : (o : Option Record) → record_of 1 first.cell.records ≡ o → IfSome o (λ r. kind_of r ≡ 1)
          by_record None is = tt
          by_record (Some r) is = kind_found 1 first.cell.records r is

  pub told_index : option_and_then (of_live index_place_of) (chains tag) ≡ option_and_then (λ (s : FileState). s.index) (live_at (states_of chains) tag)
  told_index = told_live index_place_of (λ s. s.index) chains tag (λ cells is. let f = fits cells is in index_is cells f.kind f.some)

  pub told_place : (page : ℕ) → place_at chains tag page ≡ place_in (states_of chains) tag page
  told_place page = by_chain (chains tag) refl
    where
      by_chain : (o : Option (List PlacedCell)) → chains tag ≡ o → option_map_or (λ cells. places_of cells page) o Absent ≡ option_map_or (λ (s : FileState). s.places page) (option_and_then state_of o) Absent
      by_chain None is = refl
      by_chain (Some cells) is = let f = fits cells is in places_are cells f.kind f.some page
