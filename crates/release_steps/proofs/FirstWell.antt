-- All goes on to belong together where the first cell of a tag's file says something else, or the
-- tag goes.
use Rattle.std.proofs.Common.{◌≡◌, ◌∙◌, ℕ, Bool, false, cond, List, ◌∷◌, Option, Some, None, IfSome, IsSomeAnd, Contains, refl, sym, ap, subst, arith, inl, IsSome, is_some}
use Rattle.std.specs.Option.{option_and_then, option_map, option_map_or}
use Rattle.release_list.specs.domain_base.declared.place.CellAt.{CellAt}
use Rattle.release_list.specs.domain_base.declared.place.Home.{Home}
use Rattle.release_list.specs.domain_base.declared.place.Tag.{Tag}
use Rattle.release_list.specs.page_store.Bitfiles.{same_tag}
use Rattle.release_list.specs.page_store.Pages.{Pages}
use Rattle.release_list.specs.cell_records.declared.record.Leftover.TheVariants.{Remove, Trim}
use Rattle.release_list.specs.cell_records.declared.record.Record.{Record}
use Rattle.release_list.specs.cell_records.declared.record.Record.TheVariants as written
use Rattle.release_list.specs.cell_records.Records.{kind_of}
use Rattle.release_list.specs.metadata_cells.Cell.{Cell, record_of}
use Rattle.release_list.specs.metadata_cells.Chain.{LeavesOthers, PlacedCell, is_at, places as cell_places}
use Rattle.release_list.specs.tag_dirs.Directory.{cell_of}
use Rattle.release_list.specs.extent_maps.Runs.{place_of}
use Rattle.release_list.specs.file_chains.Allocated.{AreAllocated}
use Rattle.release_list.specs.file_chains.Files.{AreFile, IsFile, map_records}
use Rattle.release_list.proofs.OfFileChains.ChainChanges.{in_first}
use Rattle.release_list.proofs.OfFileChains.MapRecords.{kind_found}
use Rattle.release_list.specs.fileset_files.declared.attributes.Attributes.{Attributes}
use Rattle.release_list.specs.fileset_files.Changes.{ChangesBeside, ChangesFirst, says_attributes, says_parent, says_removed, with_attributes, with_chain, with_first, without_chain}
use Rattle.release_list.specs.fileset_files.declared.indexing.IndexPlace.{IndexPlace}
use Rattle.release_list.specs.fileset_files.Index.{index_record, says_index}
use Rattle.release_list.specs.fileset_files.Files.{AreApart, AreFiles, Chains, LeadsToFile, is_removed, says_remove}
use Rattle.release_list.specs.fileset_files.Truncation.{resized, says_size, says_truncated}
use Rattle.release_list.proofs.OfFilesetFiles.FirstCell.{find_other, find_put}
use Rattle.release_list.proofs.OfFilesetFiles.FirstTogether.{attributes_keep, index_keeps, parent_keeps, runs_kept, truncated_keeps}
use Rattle.release_list.proofs.OfFilesetFiles.OneChain.{chain_other, chain_same, same_tag_itself}
use Rattle.release_list.proofs.OfFilesetFiles.RemovedTogether.{removed_keeps}
use Rattle.release_list.proofs.OfFilesetFiles.Room.{attributes_kind}
use Rattle.release_list.proofs.OfFilesetFiles.Truncated.{resized_kind}
use Rattle.release_list.specs.Listed.{left_of, leftover_in}
use Rattle.release_list.specs.Standing.{Files, IsFileOrQuotas, IsStanding, source_in, with_file}
use Rattle.release_list.specs.Steps.{IsWell, now_of}
use Rattle.release_list.proofs.Standings.{apart_by, chain_beside, file_there, place_by, source_by, standing}
use Rattle.release_steps.specs.Calls.{StandsWell, Drops, FilesetNow, SetsFirst}
use Rattle.release_steps.specs.Tags.{AreAmong, chains_in, start_of}
use Rattle.release_steps.proofs.OneFile.{IsPut, put_listed, put_together, SaysByFirst}
use Rattle.release_steps.proofs.PutWell.{among_by}
use Rattle.release_steps.proofs.StillAmong.{still_among}
use Rattle.release_steps.proofs.TagFile.{file_is, other_starts}
use Rattle.release_steps.proofs.Wells.{well_by}
use Rattle.release_list.specs.declared.list.Entry.{Entry}
use Rattle.release_list.proofs.Spread.{none_not}
use Rattle.release_list.specs.tag_dirs.declared.dir.TagPlace.{TagPlace}

-- ---- what the cell says then

-- where pages stand, and through which file it is read, is the same
pub record SaysBeside (says : Cell → Cell) (cell : Cell) : Type 0 where
  pub maps : map_records (says cell).records ≡ map_records cell.records
  pub source : record_of 2 (says cell).records ≡ record_of 2 cell.records

-- and it is to be removed no more than it was, and to be trimmed where it was
pub record StaysLive (says : Cell → Cell) (cell : Cell) : Type 0 where
  pub live : option_map_or says_remove (record_of 6 cell.records) false ≡ false → option_map_or says_remove (record_of 6 (says cell).records) false ≡ false
  pub trim : option_and_then leftover_in (record_of 6 cell.records) ≡ Some Trim → option_and_then leftover_in (record_of 6 (says cell).records) ≡ Some Trim

changed_kind : (kind : ℕ) (change : Record → Record) → ((r : Record) → kind_of (change r) ≡ kind_of r) → (rs : List Record) → IfSome (option_map change (record_of kind rs)) (λ r. kind_of r ≡ kind)
changed_kind kind change same rs = by_found (record_of kind rs) refl
  where
    by_found : (o : Option Record) → record_of kind rs ≡ o → IfSome (option_map change o) (λ r. kind_of r ≡ kind)
    by_found None is = tt
    by_found (Some r) is = same r ∙ kind_found kind rs r is

by_same_live : (says : Cell → Cell) (cell : Cell) → record_of 6 (says cell).records ≡ record_of 6 cell.records → StaysLive says cell
by_same_live says cell same = record {
  live = λ live. ap (λ o. option_map_or says_remove o false) same ∙ live;
  trim = λ trim. ap (option_and_then leftover_in) same ∙ trim;
}

module _ (pages : Pages) (first : PlacedCell) (rest : List PlacedCell) (file : AreFile pages first rest) where
  attributes_other : (value : Attributes) (k : ℕ) → ¬ k ≡ 1 → record_of k (says_attributes value first.cell).records ≡ record_of k first.cell.records
  attributes_other value k one = find_other 1 k (option_map (with_attributes value) (record_of 1 first.cell.records)) first.cell.records one (changed_kind 1 (with_attributes value) (attributes_kind value) first.cell.records)

  pub attributes_beside : (value : Attributes) → SaysBeside (says_attributes value) first.cell
  attributes_beside value = record {
    maps = attributes_keep pages first rest file value;
    source = attributes_other value 2 (λ e. omega (arith, e));
  }

  pub attributes_live : (value : Attributes) → StaysLive (says_attributes value) first.cell
  attributes_live value = by_same_live (says_attributes value) first.cell (attributes_other value 6 (λ e. omega (arith, e)))

  parent_other : (parent : Tag) (k : ℕ) → ¬ k ≡ 10 → record_of k (says_parent parent first.cell).records ≡ record_of k first.cell.records
  parent_other parent k ten = find_other 10 k (Some (written.Parent parent.slot parent.seq)) first.cell.records ten refl

  pub parent_beside : (parent : Tag) → SaysBeside (says_parent parent) first.cell
  parent_beside parent = record {
    maps = parent_keeps pages first rest file parent;
    source = parent_other parent 2 (λ e. omega (arith, e));
  }

  pub parent_live : (parent : Tag) → StaysLive (says_parent parent) first.cell
  parent_live parent = by_same_live (says_parent parent) first.cell (parent_other parent 6 (λ e. omega (arith, e)))

  index_kind : (o : Option IndexPlace) → IfSome (option_map index_record o) (λ r. kind_of r ≡ 9)
  index_kind None = tt
  index_kind (Some index) = refl

  index_other : (index : Option IndexPlace) (k : ℕ) → ¬ k ≡ 9 → record_of k (says_index index first.cell).records ≡ record_of k first.cell.records
  index_other index k nine = find_other 9 k (option_map index_record index) first.cell.records nine (index_kind index)

  pub index_beside : (index : Option IndexPlace) → SaysBeside (says_index index) first.cell
  index_beside index = record {
    maps = index_keeps pages first rest file index;
    source = index_other index 2 (λ e. omega (arith, e));
  }

  pub index_live : (index : Option IndexPlace) → StaysLive (says_index index) first.cell
  index_live index = by_same_live (says_index index) first.cell (index_other index 6 (λ e. omega (arith, e)))

  size_other : (size : ℕ) (lowered : Option ℕ) (k : ℕ) → ¬ k ≡ 1 → record_of k (says_size size lowered first.cell).records ≡ record_of k first.cell.records
  size_other size lowered k one = find_other 1 k (option_map (resized size lowered) (record_of 1 first.cell.records)) first.cell.records one (changed_kind 1 (resized size lowered) (resized_kind size lowered) first.cell.records)

  trim_there : (size keep : ℕ) → record_of 6 (says_truncated size (Some keep) first.cell).records ≡ Some (written.Pending Trim)
  trim_there size keep = find_put 6 (Some (written.Pending Trim)) (says_size size (Some keep) first.cell).records refl

  pub truncated_beside : (size : ℕ) (lowered : Option ℕ) → SaysBeside (says_truncated size lowered) first.cell
  truncated_beside size None = record {
    maps = truncated_keeps pages first rest file size None;
    source = size_other size None 2 (λ e. omega (arith, e));
  }
  truncated_beside size (Some keep) = record {
    maps = truncated_keeps pages first rest file size (Some keep);
    source = find_other 6 2 (Some (written.Pending Trim)) (says_size size (Some keep) first.cell).records (λ e. omega (arith, e)) refl ∙ size_other size (Some keep) 2 (λ e. omega (arith, e));
  }

  pub truncated_live : (size : ℕ) (lowered : Option ℕ) → StaysLive (says_truncated size lowered) first.cell
  truncated_live size None = by_same_live (says_truncated size None) first.cell (size_other size None 6 (λ e. omega (arith, e)))
  truncated_live size (Some keep) = record {
    live = λ live. ap (λ o. option_map_or says_remove o false) (trim_there size keep);
    trim = λ trim. ap (option_and_then leftover_in) (trim_there size keep);
  }

  pub removed_beside : SaysBeside says_removed first.cell
  removed_beside = record {
    maps = removed_keeps pages first rest file;
    source = find_other 6 2 (Some (written.Pending Remove)) first.cell.records (λ e. omega (arith, e)) refl;
  }

-- a record of what is left is there
pub some_record : (o : Option Record) → option_and_then leftover_in o ≡ Some Trim → IsSome o
some_record None trim = absurd (none_not Trim trim)
some_record (Some r) trim = refl

-- ---- the file, and all others

-- a tag's chain is a file's
pub are_file : (fileset : ℕ) (places : List TagPlace) (pages : Pages) (chains : Chains) → AreFiles fileset places pages chains → (tag : Tag) (first : PlacedCell) (rest : List PlacedCell) → chains tag ≡ Some (first ∷ rest) → AreFile pages first rest
are_file fileset places pages chains are tag first rest is = by_cell (cell_of pages places tag) (subst (λ o. IfSome o (LeadsToFile fileset places pages tag)) is (are.some tag)).leads
  where
    by_cell : (o : Option CellAt) → IsSomeAnd o (λ at. IsFile pages at (first ∷ rest)) → AreFile pages first rest
    by_cell None leads = absurd leads
    by_cell (Some at) leads = leads.1

abbrev pub NoMore : ℕ → Home → Type 0
NoMore p home = ⊥

module _ (fileset : ℕ) (tag : Tag) (old : FilesetNow) (stood : StandsWell fileset old) (new : Pages) (first : PlacedCell) (rest : List PlacedCell) (is : old.chains tag ≡ Some (first ∷ rest)) (says : Cell → Cell)
    (allocated : AreAllocated old.domain.space old.domain.cells new) (file_now : IsFile new first.at (with_first says (first ∷ rest))) (leaves : (a : CellAt) (cs : List PlacedCell) → old.domain.files a ≡ Some cs → ¬ Contains (cell_places cs) first.at → IsFileOrQuotas new a cs)
    (beside : SaysBeside says first.cell) where
  abbrev files : Files
  files = old.domain.files

  abbrev after : List PlacedCell
  after = with_first says (first ∷ rest)

  there : files first.at ≡ Some (first ∷ rest)
  there = file_is fileset old.places old.domain.pages old.chains stood.together.files files stood.among.same tag (first ∷ rest) is first.at refl

  was : IsStanding old.domain.cells old.domain.pages first.at (first ∷ rest)
  was = standing old.domain.space old.domain.cells old.domain.pages files stood.well.together first.at (first ∷ rest) there

  apart : (a : CellAt) (cs : List PlacedCell) → files a ≡ Some cs → ¬ a ≡ first.at → AreApart (first ∷ rest) cs
  apart a cs is_a not_at = apart_by old.domain.space old.domain.cells old.domain.pages files stood.well.together first.at a (first ∷ rest) cs there is_a (λ same. not_at (sym same))

  pub set_put : IsPut old.domain.space old.domain.space old.domain.cells old.domain.cells new files first.at after NoMore
  set_put = record {
    allocated = allocated;
    stands = record { stands = inl file_now; on_tables = (was.on_tables.0, was.on_tables.1) };
    tables = λ vol p on. on;
    held = λ home is. is;
    leaves = λ a cs is_a not_at. leaves a cs is_a (λ inside. apart a cs is_a not_at first.at (in_first first.at first rest refl) inside);
    apart = apart;
    pages = λ p home is. inl (place_by files first.at (first ∷ rest) p there ∙ sym (ap (λ rs. place_of rs p) (runs_kept says first rest beside.maps)) ∙ is);
    nowhere = λ p home more. absurd more;
    held_more = λ p home more. absurd more;
    only_more = λ p q home more again. absurd more;
    source = ap (option_and_then source_in) beside.source ∙ sym (source_by files first.at (first ∷ rest) there);
  }

  pub set_well : ((e : Entry) → Contains old.domain.list.entries e → e.at ≡ first.at → SaysByFirst after) → IsWell (now_of old.domain.list (with_file first.at (Some after) files) old.domain.space old.domain.cells new)
  set_well says_first = record {
    together = put_together old.domain.space old.domain.space old.domain.cells old.domain.cells old.domain.pages new files stood.well.together first.at after NoMore set_put;
    listed = put_listed old.domain.space old.domain.space old.domain.cells old.domain.cells old.domain.pages new files stood.well.together first.at after NoMore set_put old.domain.list stood.well.listed says_first
        (λ home inside p more. more);
  }

  pub set_among : (chains_now : Chains) → ((t : Tag) → same_tag t tag ≡ false → chains_now t ≡ old.chains t) → chains_in (with_file first.at (Some after) files) chains_now tag ≡ chains_now tag → IfSome (chains_now tag) (λ cs. is_removed cs ≡ false)
      → ((e : Entry) → Contains old.domain.list.entries e → option_and_then start_of (chains_now tag) ≡ Some e.at → option_and_then left_of (chains_now tag) ≡ Some Trim)
      → AreAmong (now_of old.domain.list (with_file first.at (Some after) files) old.domain.space old.domain.cells new) old.places chains_now
  set_among chains_now others own live trim =
      still_among old.domain.list old.domain.space old.domain.space old.domain.cells old.domain.cells old.domain.pages new files stood.well.together first.at after NoMore set_put
      tag old.places old.places old.chains chains_now
      (record { same = stood.among.same; live = stood.among.live; trimmed = stood.among.trimmed; low = stood.among.low; no_tags = stood.among.no_tags; not_listed = stood.among.not_listed })
      others
      (other_starts fileset old.places old.domain.pages old.chains stood.together.files files stood.among.same tag (first ∷ rest) is first.at refl)
      own live trim stood.among.low (λ h held no. no) (λ p h more. absurd more) stood.well.listed.pages_held

-- ---- the calls

module _ (fileset : ℕ) (tag : Tag) (old new : FilesetNow) (stood : StandsWell fileset old) (says : Cell → Cell) (s : SetsFirst fileset tag says old new) where
  abbrev pub chains_set : Chains
  chains_set = with_chain tag (with_first says) old.chains

  pub tag_now : chains_set tag ≡ Some (with_first says (s.first ∷ s.rest))
  tag_now = chain_same tag (with_first says) old.chains tag (same_tag_itself tag) ∙ ap (option_map (with_first says)) s.is

  led : LeadsToFile fileset old.places new.domain.pages tag (with_first says (s.first ∷ s.rest))
  led = subst (λ o. IfSome o (LeadsToFile fileset old.places new.domain.pages tag)) tag_now (s.together.files.some tag)

  first_file : (o : Option CellAt) → IsSomeAnd o (λ at. IsFile new.domain.pages at (with_first says (s.first ∷ s.rest))) → IsFile new.domain.pages s.first.at (with_first says (s.first ∷ s.rest))
  first_file None is = absurd is
  first_file (Some at) is = (refl, is.1)

  set_leaves : LeavesOthers (is_at s.first.at) old.domain.pages new.domain.pages
  set_leaves = (subst (λ o. ChangesFirst o old.domain.pages new.domain.pages) s.is s.beside).0

  set_beside : (a : CellAt) (cs : List PlacedCell) → old.domain.files a ≡ Some cs → ¬ Contains (cell_places cs) s.first.at → IsFileOrQuotas new.domain.pages a cs
  set_beside a cs is out = chain_beside old.domain.pages new.domain.pages s.first.at a cs set_leaves out (standing old.domain.space old.domain.cells old.domain.pages old.domain.files stood.well.together a cs is).stands

  pub set_file : AreFile old.domain.pages s.first s.rest
  set_file = are_file fileset old.places old.domain.pages old.chains stood.together.files tag s.first s.rest s.is

  module _ (beside : SaysBeside says s.first.cell) (live : StaysLive says s.first.cell) where
    -- where it is on the list, it is to be trimmed
    left_trim : (e : Entry) → Contains old.domain.list.entries e → e.at ≡ s.first.at → left_of (s.first ∷ s.rest) ≡ Some Trim
    left_trim e inside same = ap (option_and_then left_of) (sym s.is) ∙ stood.among.trimmed e inside tag (ap (option_and_then start_of) s.is ∙ ap Some (sym same))

    pub first_well : IsWell new.domain
    first_well = well_by new.domain old.domain.list _ old.domain.space old.domain.cells s.list s.files s.space s.cells
        (set_well fileset tag old stood new.domain.pages s.first s.rest s.is says s.together.allocated (first_file (cell_of new.domain.pages old.places tag) led.leads) set_beside beside
        (λ e inside same. inl (some_record (record_of 6 (says s.first.cell).records) (live.trim (left_trim e inside same)))))

    pub first_among : AreAmong new.domain new.places new.chains
    first_among = among_by new.domain old.places new.places chains_set new.chains old.domain.list _ old.domain.space old.domain.cells s.list s.files s.places s.chains
        (set_among fileset tag old stood new.domain.pages s.first s.rest s.is says s.together.allocated (first_file (cell_of new.domain.pages old.places tag) led.leads) set_beside beside chains_set
        (λ t other. chain_other tag (with_first says) old.chains t other)
        (ap (λ o. option_and_then (with_file s.first.at (Some (with_first says (s.first ∷ s.rest))) old.domain.files) (option_and_then start_of o)) tag_now
        ∙ file_there s.first.at (Some (with_first says (s.first ∷ s.rest))) old.domain.files ∙ sym tag_now)
        (subst (λ o. IfSome o (λ cs. is_removed cs ≡ false)) (sym tag_now) (live.live (subst (λ o. IfSome o (λ cs. is_removed cs ≡ false)) s.is (stood.among.live tag))))
        (λ e inside is. ap (option_and_then left_of) tag_now
        ∙ live.trim (ap (option_and_then left_of) (sym s.is) ∙ stood.among.trimmed e inside tag (ap (option_and_then start_of) s.is ∙ sym (ap (option_and_then start_of) tag_now) ∙ is))))

module _ (fileset : ℕ) (tag : Tag) (old new : FilesetNow) (stood : StandsWell fileset old) (s : Drops fileset tag old new) where
  abbrev pub chains_left : Chains
  chains_left = without_chain tag old.chains

  pub no_chain : chains_left tag ≡ None
  no_chain = ap (λ (b : Bool). cond b None (old.chains tag)) (same_tag_itself tag)

  dropped_file : IsFile new.domain.pages s.at (with_first says_removed (s.first ∷ s.rest))
  dropped_file = subst (λ o. IsSomeAnd o (λ cells. IsFile new.domain.pages s.at (with_first says_removed cells))) s.is s.removes.pending

  dropped_now : IsFile new.domain.pages s.first.at (with_first says_removed (s.first ∷ s.rest))
  dropped_now = (refl, dropped_file.1)

  dropped_leaves : LeavesOthers (is_at s.first.at) old.domain.pages new.domain.pages
  dropped_leaves = (subst (λ o. ChangesBeside old.places o old.domain.pages new.domain.pages) s.is s.beside).cells

  dropped_beside : (a : CellAt) (cs : List PlacedCell) → old.domain.files a ≡ Some cs → ¬ Contains (cell_places cs) s.first.at → IsFileOrQuotas new.domain.pages a cs
  dropped_beside a cs is out = chain_beside old.domain.pages new.domain.pages s.first.at a cs dropped_leaves out (standing old.domain.space old.domain.cells old.domain.pages old.domain.files stood.well.together a cs is).stands

  pub dropped_was : AreFile old.domain.pages s.first s.rest
  dropped_was = are_file fileset old.places old.domain.pages old.chains stood.together.files tag s.first s.rest s.is

  pub files_left : new.domain.files ≡ with_file s.first.at (Some (with_first says_removed (s.first ∷ s.rest))) old.domain.files
  files_left = s.files ∙ ap (λ (a : CellAt). with_file a (Some (with_first says_removed (s.first ∷ s.rest))) old.domain.files) (sym dropped_file.0)

  pub dropped_well : IsWell new.domain
  dropped_well = well_by new.domain old.domain.list _ old.domain.space old.domain.cells s.list files_left s.space s.cells
      (set_well fileset tag old stood new.domain.pages s.first s.rest s.is says_removed s.together.allocated dropped_now dropped_beside (removed_beside old.domain.pages s.first s.rest dropped_was)
      (λ e inside same. inl (ap is_some (find_put 6 (Some (written.Pending Remove)) s.first.cell.records refl))))

  pub dropped_among : AreAmong new.domain new.places new.chains
  dropped_among = among_by new.domain old.places new.places chains_left new.chains old.domain.list _ old.domain.space old.domain.cells s.list files_left s.places s.chains
      (set_among fileset tag old stood new.domain.pages s.first s.rest s.is says_removed s.together.allocated dropped_now dropped_beside (removed_beside old.domain.pages s.first s.rest dropped_was) chains_left
      (λ t other. ap (λ (b : Bool). cond b None (old.chains t)) other)
      (ap (λ o. option_and_then (with_file s.first.at (Some (with_first says_removed (s.first ∷ s.rest))) old.domain.files) (option_and_then start_of o)) no_chain ∙ sym no_chain)
      (subst (λ o. IfSome o (λ cs. is_removed cs ≡ false)) (sym no_chain) tt)
      (λ e inside is. absurd (none_not e.at (sym (ap (option_and_then start_of) no_chain) ∙ is))))
