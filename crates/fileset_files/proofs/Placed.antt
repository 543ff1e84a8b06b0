-- What a file is after one of its pages moves to another place, or it gets a new one.
use Rattle.std.proofs.Common.{◌≡◌, ◌∙◌, ℕ, Bool, true, false, cond, nat_le, not, List, [], ◌∷◌, Option, Some, None, refl, sym, ap, arith, ⊎_elim}
use Rattle.std.proofs.lemmas.Bool.{cases_Bool}
use Rattle.std.specs.Option.{option_and_then, option_map}
use Rattle.file_chains.specs.domain_base.declared.place.Kind.{Kind}
use Rattle.file_chains.specs.domain_base.declared.place.Kind.TheVariants.{Directory, File}
use Rattle.file_chains.specs.domain_base.declared.place.Tag.{Tag}
use Rattle.file_chains.specs.domain_base.declared.version.Version.{Version}
use Rattle.file_chains.specs.domain_base.declared.version.Version.TheVariants.{Four, Three}
use Rattle.file_chains.specs.page_store.Bitfiles.{same_tag}
use Rattle.file_chains.specs.cell_records.declared.record.Record.{Record}
use Rattle.file_chains.specs.cell_records.declared.record.Record.TheVariants as written
use Rattle.file_chains.specs.cell_records.Records.{kind_of}
use Rattle.file_chains.specs.metadata_cells.Cell.{record_of}
use Rattle.file_chains.specs.metadata_cells.Chain.{PlacedCell}
use Rattle.file_chains.specs.extent_maps.declared.run.PagePlace.{PagePlace}
use Rattle.file_chains.specs.extent_maps.declared.run.PagePlace.TheVariants.{Absent}
use Rattle.file_chains.specs.extent_maps.Runs.{Places, with_place}
use Rattle.file_chains.specs.extent_records.Writing.{most_rows, short_kind}
use Rattle.file_chains.specs.FileChanges.{SameFirst, other_records}
use Rattle.file_chains.specs.Files.{has_rows, places_of}
use Rattle.fileset_files.specs.declared.new_cells.NewFile.{NewFile}
use Rattle.fileset_files.specs.Creation.{SaysNew, new_attributes, new_parent, with_new}
use Rattle.fileset_files.specs.Files.{Chains, first_record}
use Rattle.fileset_files.specs.Index.{index_place_in, index_place_of}
use Rattle.fileset_files.specs.State.{FileState, parent_in, parent_of, pending_in, pending_of, state_of, states_of, with_state}
use Rattle.fileset_files.proofs.FirstCell.{find_filter}
use Rattle.fileset_files.proofs.Parts.{from_parts, state_is}
use Rattle.fileset_files.specs.States.{new_parent_tag, new_state, placed}

-- ---- a page at another place

no_rows_of : (k : ℕ) → nat_le 1 (most_rows k) ≡ false → (r : Record) → kind_of r ≡ k → not (has_rows r) ≡ true
no_rows_of k none r is = ap (λ (n : ℕ). not (nat_le 1 (most_rows n))) is ∙ ap not none

-- records but for those that say where pages stand are found as before
pub found_again : (k : ℕ) → nat_le 1 (most_rows k) ≡ false → (before after : List Record) → other_records after ≡ other_records before → record_of k after ≡ record_of k before
found_again k none before after same =
    sym (find_filter k (λ r. not (has_rows r)) after (no_rows_of k none)) ∙ ap (record_of k) same ∙ find_filter k (λ r. not (has_rows r)) before (no_rows_of k none)

-- the file with these cells, but for its attributes and for where its pages stand
abbrev at_places : List PlacedCell → Places → Record → Option FileState
at_places cells places r = from_parts (parent_of cells) (index_place_of cells) (pending_of cells) places r

pub page_placed : (page : ℕ) (place : PagePlace) (chain after : List PlacedCell) → SameFirst chain after → ((p : ℕ) → places_of after p ≡ with_place page place (places_of chain) p) → state_of after ≡ option_map (placed page place) (state_of chain)
page_placed page place [] after first at = absurd first
page_placed page place (a ∷ chain) [] first at = absurd first
page_placed page place (a ∷ chain) (b ∷ after) first at =
    state_is (b ∷ after) (first_record 1 (a ∷ chain)) (parent_of (a ∷ chain)) (index_place_of (a ∷ chain)) (pending_of (a ∷ chain)) (with_place page place (places_of (a ∷ chain))) (found_again 1 refl a.cell.records b.cell.records first.2)
    (ap (option_and_then parent_in) (found_again 10 refl a.cell.records b.cell.records first.2)) (ap (option_and_then index_place_in) (found_again 9 refl a.cell.records b.cell.records first.2))
    (ap (option_and_then pending_in) (found_again 6 refl a.cell.records b.cell.records first.2)) (λ i p. at p i)
    ∙ by_record (first_record 1 (a ∷ chain))
    ∙ sym
    (ap (option_map (placed page place))
    (state_is (a ∷ chain) (first_record 1 (a ∷ chain)) (parent_of (a ∷ chain)) (index_place_of (a ∷ chain)) (pending_of (a ∷ chain)) (places_of (a ∷ chain)) refl refl refl refl refl))
  where
    by_attributes : (r : Record) → at_places (a ∷ chain) (with_place page place (places_of (a ∷ chain))) r ≡ option_map (placed page place) (at_places (a ∷ chain) (places_of (a ∷ chain)) r)
    by_attributes (written.Attributes kind uid gid flags size keep links birth unsynced) = refl
    by_attributes r = refl

    by_record : (o : Option Record) → option_and_then (at_places (a ∷ chain) (with_place page place (places_of (a ∷ chain)))) o ≡ option_map (placed page place) (option_and_then (at_places (a ∷ chain) (places_of (a ∷ chain))) o)
    by_record None = refl
    by_record (Some r) = by_attributes r

-- ---- a new file

module _ (version : Version) (what : NewFile) (tag : Tag) (first : PlacedCell) (says : SaysNew version what tag first.cell.records) (no_page : (page : ℕ) → places_of (first ∷ []) page ≡ Absent) where
  not_short : (k : ℕ) → ¬ k ≡ 4 → ¬ k ≡ 14 → ¬ k ≡ short_kind version
  not_short k three four = by_version version
    where
      by_version : (v : Version) → ¬ k ≡ short_kind v
      by_version Three = three
      by_version Four = four

  is_new : state_of (first ∷ []) ≡ Some (new_state what tag)
  is_new =
      state_is (first ∷ []) (Some (new_attributes what)) (new_parent_tag what.kind tag) None None (λ page. Absent) says.attributes (ap (option_and_then parent_in) says.parent ∙ by_kind what.kind)
      (ap (option_and_then index_place_in) (says.others 9 (λ is. omega (arith, is)) (λ is. omega (arith, is)) (not_short 9 (λ is. omega (arith, is)) (λ is. omega (arith, is)))))
      (ap (option_and_then pending_in) (says.others 6 (λ is. omega (arith, is)) (λ is. omega (arith, is)) (not_short 6 (λ is. omega (arith, is)) (λ is. omega (arith, is)))))
      (λ i page. no_page page i)
      ∙ by_file what.kind
    where
      by_kind : (kind : Kind) → option_and_then parent_in (new_parent kind tag) ≡ new_parent_tag kind tag
      by_kind File = refl
      by_kind Directory = refl

      by_file : (kind : Kind) → from_parts (new_parent_tag kind tag) None None (λ page. Absent) (new_attributes (record what { kind = kind })) ≡ Some (new_state (record what { kind = kind }) tag)
      by_file File = refl
      by_file Directory = refl

  pub states_made : (chains : Chains) → states_of (with_new tag (first ∷ []) chains) ≡ with_state tag (new_state what tag) (states_of chains)
  states_made chains = λ i t. each t i
    where
      each : (t : Tag) → states_of (with_new tag (first ∷ []) chains) t ≡ with_state tag (new_state what tag) (states_of chains) t
      each t = ⊎_elim
          (λ same.
          ap (λ (b : Bool). option_and_then state_of (cond b (Some (first ∷ [])) (chains t))) same ∙ is_new
          ∙ sym (ap (λ (b : Bool). cond b (Some (new_state what tag)) (option_and_then state_of (chains t))) same))
          (λ other.
          ap (λ (b : Bool). option_and_then state_of (cond b (Some (first ∷ [])) (chains t))) other
          ∙ sym (ap (λ (b : Bool). cond b (Some (new_state what tag)) (option_and_then state_of (chains t))) other))
          (cases_Bool (same_tag t tag))
