-- What a file is whose first cell says something else, but not of pages.
use Rattle.std.proofs.Common.{◌≡◌, ◌∙◌, ℕ, Bool, true, false, cond, nat_eq, List, ◌∷◌, Option, Some, None, IfSome, refl, sym, ap, arith}
use Rattle.std.specs.Option.{option_and_then, option_map}
use Rattle.file_chains.specs.domain_base.declared.place.Kind.{Kind}
use Rattle.file_chains.specs.domain_base.declared.place.Kind.TheVariants.{Directory, File}
use Rattle.file_chains.specs.domain_base.declared.place.Tag.{Tag}
use Rattle.file_chains.specs.page_store.Pages.{Pages}
use Rattle.file_chains.specs.cell_records.declared.record.Leftover.{Leftover}
use Rattle.file_chains.specs.cell_records.declared.record.Leftover.TheVariants.{Remove, Trim}
use Rattle.file_chains.specs.cell_records.declared.record.Record.{Record}
use Rattle.file_chains.specs.cell_records.declared.record.Record.TheVariants as written
use Rattle.file_chains.specs.cell_records.Records.{kind_of}
use Rattle.file_chains.specs.metadata_cells.Cell.{Cell, record_of}
use Rattle.file_chains.specs.metadata_cells.Chain.{PlacedCell}
use Rattle.file_chains.specs.extent_maps.Runs.{Places, place_of}
use Rattle.file_chains.specs.Files.{AreFile, map_records, places_of}
use Rattle.file_chains.proofs.MapRecords.{kind_found}
use Rattle.fileset_files.specs.declared.attributes.Attributes.{Attributes}
use Rattle.fileset_files.specs.declared.indexing.IndexPlace.{IndexPlace}
use Rattle.fileset_files.specs.Changes.{kind_number, says_attributes, says_parent, says_removed, with_attributes, with_first}
use Rattle.fileset_files.specs.Index.{index_place_in, index_record, says_index}
use Rattle.fileset_files.specs.Stripes.{says_stripe, stripe_record}
use Rattle.fileset_files.specs.declared.striping.Stripe.{Stripe}
use Rattle.fileset_files.specs.State.{FileState, parent_in, pending_in, state_of}
use Rattle.fileset_files.specs.Truncation.{resized, says_size, says_truncated}
use Rattle.fileset_files.proofs.FirstCell.{find_other, find_put}
use Rattle.fileset_files.proofs.FirstTogether.{attributes_keep, index_keeps, parent_keeps, runs_kept, stripe_keeps, truncated_keeps}
use Rattle.fileset_files.proofs.RemovedTogether.{removed_keeps}
use Rattle.fileset_files.proofs.Room.{attributes_kind}
use Rattle.fileset_files.proofs.Parts.{from_parts, state_is}
use Rattle.fileset_files.specs.States.{cut, described, indexed, put_in, to_remove}

module _ (pages : Pages) (first : PlacedCell) (rest : List PlacedCell) (file : AreFile pages first rest) where
  abbrev was : List Record
  was = first.cell.records

  abbrev parent : Option Record → Option Tag
  parent r = option_and_then parent_in r

  abbrev index : Option Record → Option IndexPlace
  index r = option_and_then index_place_in r

  abbrev pending : Option Record → Option Leftover
  pending r = option_and_then pending_in r

  -- the file by the records of its first cell and its map
  abbrev said : Option Record → Option Record → Option Record → Option Record → Option FileState
  said r1 r10 r9 r6 = option_and_then (from_parts (parent r10) (index r9) (pending r6) (places_of (first ∷ rest))) r1

  said_before : state_of (first ∷ rest) ≡ said (record_of 1 was) (record_of 10 was) (record_of 9 was) (record_of 6 was)
  said_before = state_is (first ∷ rest) (record_of 1 was) (parent (record_of 10 was)) (index (record_of 9 was)) (pending (record_of 6 was)) (places_of (first ∷ rest)) refl refl refl refl refl

  said_after : (change : Cell → Cell) → map_records (change first.cell).records ≡ map_records was → (r1 r10 r9 r6 : Option Record)
      → record_of 1 (change first.cell).records ≡ r1 → record_of 10 (change first.cell).records ≡ r10 → record_of 9 (change first.cell).records ≡ r9 → record_of 6 (change first.cell).records ≡ r6
      → state_of (with_first change (first ∷ rest)) ≡ said r1 r10 r9 r6
  said_after change maps r1 r10 r9 r6 is_1 is_10 is_9 is_6 =
      state_is (with_first change (first ∷ rest)) r1 (parent r10) (index r9) (pending r6) (places_of (first ∷ rest)) is_1 (ap parent is_10) (ap index is_9) (ap pending is_6)
      (ap place_of (runs_kept change first rest maps))

  -- ---- its attributes

  kind_again : (kind : Kind) → cond (nat_eq (kind_number kind) 2) Directory File ≡ kind
  kind_again File = refl
  kind_again Directory = refl

  flag_again : (b : Bool) → nat_eq (cond b 1 0) 1 ≡ b
  flag_again true = refl
  flag_again false = refl

  set_in : (value : Attributes) (p : Option Tag) (i : Option IndexPlace) (l : Option Leftover) (places : Places) (r : Record) → from_parts p i l places (with_attributes value r) ≡ option_map (described value) (from_parts p i l places r)
  set_in value p i l places (written.Attributes kind uid gid flags size keep links birth unsynced) =
      λ j. Some (record {
        attributes = record { kind = kind_again value.kind j; uid = value.uid; gid = value.gid; is_logged = flag_again value.is_logged j; size = value.size; links = value.links };
        keep = keep;
        birth = birth;
        unsynced = unsynced;
        parent = p;
        index = i;
        pending = l;
        places = places;
      })
  set_in value p i l places r = refl

  abbrev put_attributes : Attributes → Option Record
  put_attributes value = option_map (with_attributes value) (record_of 1 was)

  attributes_of_kind : (value : Attributes) → IfSome (put_attributes value) (λ r. kind_of r ≡ 1)
  attributes_of_kind value = by_record (record_of 1 was) refl
    where
      by_record : (o : Option Record) → record_of 1 was ≡ o → IfSome (option_map (with_attributes value) o) (λ r. kind_of r ≡ 1)
      by_record None is = tt
      by_record (Some r) is = attributes_kind value r ∙ kind_found 1 was r is

  pub attributes_said : (value : Attributes) → state_of (with_first (says_attributes value) (first ∷ rest)) ≡ option_map (described value) (state_of (first ∷ rest))
  attributes_said value =
      let of_kind = attributes_of_kind value in
      said_after (says_attributes value) (attributes_keep pages first rest file value) (put_attributes value) (record_of 10 was) (record_of 9 was) (record_of 6 was) (find_put 1 (put_attributes value) was of_kind)
      (find_other 1 10 (put_attributes value) was (λ is. omega (arith, is)) of_kind) (find_other 1 9 (put_attributes value) was (λ is. omega (arith, is)) of_kind) (find_other 1 6 (put_attributes value) was (λ is. omega (arith, is)) of_kind)
      ∙ by_record (record_of 1 was) ∙ sym (ap (option_map (described value)) said_before)
    where
      by_record : (o : Option Record) → said (option_map (with_attributes value) o) (record_of 10 was) (record_of 9 was) (record_of 6 was) ≡ option_map (described value) (said o (record_of 10 was) (record_of 9 was) (record_of 6 was))
      by_record None = refl
      by_record (Some r) = set_in value (parent (record_of 10 was)) (index (record_of 9 was)) (pending (record_of 6 was)) (places_of (first ∷ rest)) r

  -- ---- its parent, its index, and that it is to be removed

  pub parent_said : (value : Tag) → state_of (with_first (says_parent value) (first ∷ rest)) ≡ option_map (put_in value) (state_of (first ∷ rest))
  parent_said value =
      let new : Option Record = Some (written.Parent value.slot value.seq) in
      said_after (says_parent value) (parent_keeps pages first rest file value) (record_of 1 was) new (record_of 9 was) (record_of 6 was) (find_other 10 1 new was (λ is. omega (arith, is)) refl)
      (find_put 10 new was refl) (find_other 10 9 new was (λ is. omega (arith, is)) refl) (find_other 10 6 new was (λ is. omega (arith, is)) refl)
      ∙ by_record (record_of 1 was) ∙ sym (ap (option_map (put_in value)) said_before)
    where
      by_attributes : (r : Record) → said (Some r) (Some (written.Parent value.slot value.seq)) (record_of 9 was) (record_of 6 was) ≡ option_map (put_in value) (said (Some r) (record_of 10 was) (record_of 9 was) (record_of 6 was))
      by_attributes (written.Attributes kind uid gid flags size keep links birth unsynced) = refl
      by_attributes r = refl

      by_record : (o : Option Record) → said o (Some (written.Parent value.slot value.seq)) (record_of 9 was) (record_of 6 was) ≡ option_map (put_in value) (said o (record_of 10 was) (record_of 9 was) (record_of 6 was))
      by_record None = refl
      by_record (Some r) = by_attributes r

  pub stripe_said : (value : Stripe) → state_of (with_first (says_stripe value) (first ∷ rest)) ≡ option_map (λ (state : FileState). state) (state_of (first ∷ rest))
  stripe_said value =
      let new : Option Record = Some (stripe_record value) in
      said_after (says_stripe value) (stripe_keeps pages first rest file value) (record_of 1 was) (record_of 10 was) (record_of 9 was) (record_of 6 was) (find_other 11 1 new was (λ is. omega (arith, is)) refl)
      (find_other 11 10 new was (λ is. omega (arith, is)) refl) (find_other 11 9 new was (λ is. omega (arith, is)) refl) (find_other 11 6 new was (λ is. omega (arith, is)) refl)
      ∙ sym said_before ∙ as_it_was (state_of (first ∷ rest))
    where
      as_it_was : (o : Option FileState) → o ≡ option_map (λ (state : FileState). state) o
      as_it_was None = refl
      as_it_was (Some state) = refl

  pub index_said : (value : Option IndexPlace) → state_of (with_first (says_index value) (first ∷ rest)) ≡ option_map (indexed value) (state_of (first ∷ rest))
  index_said value =
      let new = option_map index_record value in
      let of_kind = index_of_kind value in
      said_after (says_index value) (index_keeps pages first rest file value) (record_of 1 was) (record_of 10 was) new (record_of 6 was) (find_other 9 1 new was (λ is. omega (arith, is)) of_kind)
      (find_other 9 10 new was (λ is. omega (arith, is)) of_kind) (find_put 9 new was of_kind) (find_other 9 6 new was (λ is. omega (arith, is)) of_kind)
      ∙ by_record value (record_of 1 was) ∙ sym (ap (option_map (indexed value)) said_before)
    where
      index_of_kind : (o : Option IndexPlace) → IfSome (option_map index_record o) (λ r. kind_of r ≡ 9)
      index_of_kind None = tt
      index_of_kind (Some place) = refl

      by_attributes : (o : Option IndexPlace) (r : Record) → said (Some r) (record_of 10 was) (option_map index_record o) (record_of 6 was) ≡ option_map (indexed o) (said (Some r) (record_of 10 was) (record_of 9 was) (record_of 6 was))
      by_attributes None (written.Attributes kind uid gid flags size keep links birth unsynced) = refl
      by_attributes None r = refl
      by_attributes (Some place) (written.Attributes kind uid gid flags size keep links birth unsynced) = refl
      by_attributes (Some place) r = refl

      by_record : (o : Option IndexPlace) (a : Option Record) → said a (record_of 10 was) (option_map index_record o) (record_of 6 was) ≡ option_map (indexed o) (said a (record_of 10 was) (record_of 9 was) (record_of 6 was))
      by_record o None = refl
      by_record o (Some r) = by_attributes o r

  pub removal_said : state_of (with_first says_removed (first ∷ rest)) ≡ option_map to_remove (state_of (first ∷ rest))
  removal_said =
      let new : Option Record = Some (written.Pending Remove) in
      said_after says_removed (removed_keeps pages first rest file) (record_of 1 was) (record_of 10 was) (record_of 9 was) new (find_other 6 1 new was (λ is. omega (arith, is)) refl)
      (find_other 6 10 new was (λ is. omega (arith, is)) refl) (find_other 6 9 new was (λ is. omega (arith, is)) refl) (find_put 6 new was refl)
      ∙ by_record (record_of 1 was) ∙ sym (ap (option_map to_remove) said_before)
    where
      by_attributes : (r : Record) → said (Some r) (record_of 10 was) (record_of 9 was) (Some (written.Pending Remove)) ≡ option_map to_remove (said (Some r) (record_of 10 was) (record_of 9 was) (record_of 6 was))
      by_attributes (written.Attributes kind uid gid flags size keep links birth unsynced) = refl
      by_attributes r = refl

      by_record : (o : Option Record) → said o (record_of 10 was) (record_of 9 was) (Some (written.Pending Remove)) ≡ option_map to_remove (said o (record_of 10 was) (record_of 9 was) (record_of 6 was))
      by_record None = refl
      by_record (Some r) = by_attributes r

  -- ---- its size

  resized_kind : (size : ℕ) (lowered : Option ℕ) (r : Record) → kind_of (resized size lowered r) ≡ kind_of r
  resized_kind size lowered (written.Attributes kind uid gid flags was keep links birth unsynced) = refl
  resized_kind size lowered r = refl

  abbrev put_size : ℕ → Option ℕ → Option Record
  put_size size lowered = option_map (resized size lowered) (record_of 1 was)

  size_of_kind : (size : ℕ) (lowered : Option ℕ) → IfSome (put_size size lowered) (λ r. kind_of r ≡ 1)
  size_of_kind size lowered = by_record (record_of 1 was) refl
    where
      by_record : (o : Option Record) → record_of 1 was ≡ o → IfSome (option_map (resized size lowered) o) (λ r. kind_of r ≡ 1)
      by_record None is = tt
      by_record (Some r) is = resized_kind size lowered r ∙ kind_found 1 was r is

  pub size_said : (size : ℕ) (lowered : Option ℕ) → state_of (with_first (says_truncated size lowered) (first ∷ rest)) ≡ option_map (cut size lowered) (state_of (first ∷ rest))
  size_said size None =
      let new = put_size size None in
      let of_kind = size_of_kind size None in
      said_after (says_truncated size None) (truncated_keeps pages first rest file size None) new (record_of 10 was) (record_of 9 was) (record_of 6 was) (find_put 1 new was of_kind)
      (find_other 1 10 new was (λ is. omega (arith, is)) of_kind) (find_other 1 9 new was (λ is. omega (arith, is)) of_kind) (find_other 1 6 new was (λ is. omega (arith, is)) of_kind)
      ∙ by_record (record_of 1 was) ∙ sym (ap (option_map (cut size None)) said_before)
    where
      by_attributes : (r : Record) → said (Some (resized size None r)) (record_of 10 was) (record_of 9 was) (record_of 6 was) ≡ option_map (cut size None) (said (Some r) (record_of 10 was) (record_of 9 was) (record_of 6 was))
      by_attributes (written.Attributes kind uid gid flags was keep links birth unsynced) = refl
      by_attributes r = refl

      by_record : (o : Option Record) → said (option_map (resized size None) o) (record_of 10 was) (record_of 9 was) (record_of 6 was) ≡ option_map (cut size None) (said o (record_of 10 was) (record_of 9 was) (record_of 6 was))
      by_record None = refl
      by_record (Some r) = by_attributes r
  size_said size (Some keep) =
      let new = put_size size (Some keep) in
      let of_kind = size_of_kind size (Some keep) in
      let trim : Option Record = Some (written.Pending Trim) in
      let mid = (says_size size (Some keep) first.cell).records in
      said_after (says_truncated size (Some keep)) (truncated_keeps pages first rest file size (Some keep)) new (record_of 10 was) (record_of 9 was) trim
      (find_other 6 1 trim mid (λ is. omega (arith, is)) refl ∙ find_put 1 new was of_kind)
      (find_other 6 10 trim mid (λ is. omega (arith, is)) refl ∙ find_other 1 10 new was (λ is. omega (arith, is)) of_kind)
      (find_other 6 9 trim mid (λ is. omega (arith, is)) refl ∙ find_other 1 9 new was (λ is. omega (arith, is)) of_kind)
      (find_put 6 trim mid refl)
      ∙ by_record (record_of 1 was) ∙ sym (ap (option_map (cut size (Some keep))) said_before)
    where
      by_attributes : (r : Record) → said (Some (resized size (Some keep) r)) (record_of 10 was) (record_of 9 was) (Some (written.Pending Trim)) ≡ option_map (cut size (Some keep)) (said (Some r) (record_of 10 was) (record_of 9 was) (record_of 6 was))
      by_attributes (written.Attributes kind uid gid flags was kept links birth unsynced) = refl
      by_attributes r = refl

      by_record : (o : Option Record) → said (option_map (resized size (Some keep)) o) (record_of 10 was) (record_of 9 was) (Some (written.Pending Trim)) ≡ option_map (cut size (Some keep)) (said o (record_of 10 was) (record_of 9 was) (record_of 6 was))
      by_record None = refl
      by_record (Some r) = by_attributes r
