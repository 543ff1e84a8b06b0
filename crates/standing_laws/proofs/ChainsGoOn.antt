-- What a call on a tag makes of the chain of its file.
use Rattle.std.proofs.Common.{◌≡◌, ◌∙◌, ◌⊎◌, inl, inr, ℕ, zero, suc, List, [], ◌∷◌, Option, Some, None, IfSome, IsSome, Contains, is_some, refl, ap, arith}
use Rattle.std.specs.Option.{option_and_then, option_map}
use Rattle.domain_standing.specs.domain_base.declared.place.CellAt.{CellAt}
use Rattle.domain_standing.specs.domain_base.declared.place.Tag.{Tag}
use Rattle.domain_standing.specs.domain_base.declared.version.Version.{Version}
use Rattle.domain_standing.specs.domain_base.declared.version.Version.TheVariants.{Three, Four}
use Rattle.domain_standing.specs.cell_records.declared.record.Leftover.TheVariants.{Remove, Trim}
use Rattle.domain_standing.specs.cell_records.declared.record.Record.{Record}
use Rattle.domain_standing.specs.cell_records.declared.record.Record.TheVariants as written
use Rattle.domain_standing.specs.cell_records.Records.{kind_of}
use Rattle.domain_standing.specs.metadata_cells.Cell.{Cell, record_of}
use Rattle.domain_standing.specs.metadata_cells.Chain.{PlacedCell, places}
use Rattle.domain_standing.specs.extent_records.Writing.{short_kind}
use Rattle.domain_standing.proofs.OfFileChains.ChainChanges.{in_first}
use Rattle.domain_standing.proofs.OfFileChains.MapRecords.{kind_found}
use Rattle.domain_standing.specs.fileset_files.declared.attributes.Attributes.{Attributes}
use Rattle.domain_standing.specs.fileset_files.Changes.{says_attributes, says_parent, says_removed, with_attributes, with_first}
use Rattle.domain_standing.specs.fileset_files.Files.{Chains, first_record}
use Rattle.domain_standing.specs.fileset_files.Truncation.{resized, says_size, says_truncated}
use Rattle.domain_standing.proofs.OfFilesetFiles.FirstCell.{find_other, find_put}
use Rattle.domain_standing.proofs.OfFilesetFiles.Room.{attributes_kind}
use Rattle.domain_standing.proofs.OfFilesetFiles.Truncated.{resized_kind}
use Rattle.domain_standing.specs.release_list.Listed.{left_of, leftover_in}
use Rattle.domain_standing.specs.release_list.Standing.{with_file}
use Rattle.domain_standing.proofs.OfReleaseList.Firsts.{first_same}
use Rattle.domain_standing.specs.release_steps.Calls.{Call, Drops, FilesetNow, Gives, Makes, Refuses, SetsFirst, StandsWell, cut, described, dropped, given, indexed, made, moved, put_in, refused}
use Rattle.domain_standing.specs.release_steps.Tags.{start_of}
use Rattle.domain_standing.proofs.OfReleaseSteps.CallTables.{chain_put}
use Rattle.domain_standing.proofs.OfReleaseSteps.FirstWell.{files_left, tag_now as tag_set}
use Rattle.domain_standing.proofs.OfReleaseSteps.MakeWell.{no_file, tag_now as tag_made}
use Rattle.domain_standing.proofs.OfReleaseSteps.Said.{left_first}
use Rattle.domain_standing.proofs.OfReleaseSteps.TagFile.{started}
use Rattle.standing_laws.specs.Leads.{MayCall}
use Rattle.standing_laws.proofs.CellsNow.{AreUsed, CellsGoOn, dropped_cells, given_cells, made_cells, set_cells}

-- ---- records of a first cell

pub changed_kind : (kind : ℕ) (change : Record → Record) → ((r : Record) → kind_of (change r) ≡ kind_of r) → (rs : List Record) → IfSome (option_map change (record_of kind rs)) (λ r. kind_of r ≡ kind)
changed_kind kind change same rs = by_found (record_of kind rs) refl
  where
    by_found : (o : Option Record) → record_of kind rs ≡ o → IfSome (option_map change o) (λ r. kind_of r ≡ kind)
    by_found None is = tt
    by_found (Some r) is = same r ∙ kind_found kind rs r is

pub size_other : (size : ℕ) (lowered : Option ℕ) (cell : Cell) (k : ℕ) → ¬ k ≡ 1 → record_of k (says_size size lowered cell).records ≡ record_of k cell.records
size_other size lowered cell k one = find_other 1 k (option_map (resized size lowered) (record_of 1 cell.records)) cell.records one (changed_kind 1 (resized size lowered) (resized_kind size lowered) cell.records)

pub not_six : (version : Version) → ¬ 6 ≡ short_kind version
not_six Three is = omega (arith, is)
not_six Four is = omega (arith, is)

not_nine : (version : Version) → ¬ 9 ≡ short_kind version
not_nine Three is = omega (arith, is)
not_nine Four is = omega (arith, is)

-- a cell with a change says the same of its index, and something to be left to do where it did
record Says (says : Cell → Cell) (cell : Cell) : Type 0 where
  index : record_of 9 (says cell).records ≡ record_of 9 cell.records
  left : IsSome (option_and_then leftover_in (record_of 6 cell.records)) → IsSome (option_and_then leftover_in (record_of 6 (says cell).records))

same_left : (says : Cell → Cell) (cell : Cell) → record_of 6 (says cell).records ≡ record_of 6 cell.records
    → IsSome (option_and_then leftover_in (record_of 6 cell.records)) → IsSome (option_and_then leftover_in (record_of 6 (says cell).records))
same_left says cell same is = ap (λ o. is_some (option_and_then leftover_in o)) same ∙ is

attributes_says : (value : Attributes) (cell : Cell) → Says (says_attributes value) cell
attributes_says value cell = record {
  index = other 9 (λ e. omega (arith, e));
  left = same_left (says_attributes value) cell (other 6 (λ e. omega (arith, e)));
}
  where
    other : (k : ℕ) → ¬ k ≡ 1 → record_of k (says_attributes value cell).records ≡ record_of k cell.records
    other k one = find_other 1 k (option_map (with_attributes value) (record_of 1 cell.records)) cell.records one (changed_kind 1 (with_attributes value) (attributes_kind value) cell.records)

parent_says : (parent : Tag) (cell : Cell) → Says (says_parent parent) cell
parent_says parent cell = record {
  index = find_other 10 9 (Some (written.Parent parent.slot parent.seq)) cell.records (λ e. omega (arith, e)) refl;
  left = same_left (says_parent parent) cell (find_other 10 6 (Some (written.Parent parent.slot parent.seq)) cell.records (λ e. omega (arith, e)) refl);
}

truncated_says : (size : ℕ) (lowered : Option ℕ) (cell : Cell) → Says (says_truncated size lowered) cell
truncated_says size None cell = record {
  index = size_other size None cell 9 (λ e. omega (arith, e));
  left = same_left (says_size size None) cell (size_other size None cell 6 (λ e. omega (arith, e)));
}
truncated_says size (Some keep) cell = record {
  index = find_other 6 9 (Some (written.Pending Trim)) (says_size size (Some keep) cell).records (λ e. omega (arith, e)) refl ∙ size_other size (Some keep) cell 9 (λ e. omega (arith, e));
  left = λ is. ap (λ o. is_some (option_and_then leftover_in o)) (find_put 6 (Some (written.Pending Trim)) (says_size size (Some keep) cell).records refl);
}

removed_there : (cell : Cell) → record_of 6 (says_removed cell).records ≡ Some (written.Pending Remove)
removed_there cell = find_put 6 (Some (written.Pending Remove)) cell.records refl

removed_says : (cell : Cell) → Says says_removed cell
removed_says cell = record {
  index = find_other 6 9 (Some (written.Pending Remove)) cell.records (λ e. omega (arith, e)) refl;
  left = λ is. ap (λ o. is_some (option_and_then leftover_in o)) (removed_there cell);
}

-- ---- over a call

-- the tag's file begins where it began, has all its cells still, and says the same of its index, and something
-- to be left to do where it did
pub record FileGoesOn (tag : Tag) (old : FilesetNow) (start : CellAt) (was after : List PlacedCell) : Type 0 where
  pub is : old.chains tag ≡ Some was
  pub began : start_of was ≡ Some start
  pub kept : (at : CellAt) → Contains (places was) at → Contains (places after) at
  pub index : first_record 9 after ≡ first_record 9 was
  pub left : IsSome (left_of was) → IsSome (left_of after)

-- none began there, and the tag named none; and no index is said
pub record FileIsNew (tag : Tag) (old : FilesetNow) (start : CellAt) (after : List PlacedCell) : Type 0 where
  pub none : old.domain.files start ≡ None
  pub fresh : old.chains tag ≡ None
  pub no_index : first_record 9 after ≡ None
  pub no_left : left_of after ≡ None

-- one file alone has another chain, with all cells that changed; the tag names it, or it is to be removed
pub record ChainGoesOn (tag : Tag) (old new : FilesetNow) : Type 0 where
  pub changed : List PlacedCell
  pub goes : CellsGoOn old new changed
  pub start : CellAt
  pub after : List PlacedCell
  pub begins : start_of after ≡ Some start
  pub files : new.domain.files ≡ with_file start (Some after) old.domain.files
  pub mine : (at : CellAt) → Contains (places changed) at → Contains (places after) at
  pub ends : (new.chains tag ≡ Some after) ⊎ (left_of after ≡ Some Remove)
  pub from : FileIsNew tag old start after ⊎ ((was : List PlacedCell) × FileGoesOn tag old start was after)

-- a first cell is one of the chain
first_mine : (changed : PlacedCell) (rest : List PlacedCell) (at : CellAt) → Contains (places (changed ∷ [])) at → Contains (places (changed ∷ rest)) at
first_mine changed rest at (zero, within, is) = in_first at changed rest is
first_mine changed rest at (suc k, within, is) = absurd (omega (arith, within))

module _ (number : ℕ) (version : Version) (tag : Tag) (old new : FilesetNow) (stood : StandsWell number old) (used : AreUsed old) where
  given_chain : Gives number version tag old new → ChainGoesOn tag old new
  given_chain s =
      let change = s.puts.change.change in
      let begins = started new.domain.pages s.puts.change.start s.chain change.changes.after change.changes.first change.changes.is_file in
      record {
        changed = change.changes.after;
        goes = given_cells number version tag old new stood s;
        start = s.puts.change.start;
        after = change.changes.after;
        begins = begins.1;
        files = s.puts.files;
        mine = λ at inside. inside;
        ends = inl (ap (λ (c : Chains). c tag) s.puts.chains ∙ chain_put number version tag old new s.home s.chain s.puts);
        from = inr (
          s.chain,
          record {
            is = s.puts.is;
            began = begins.0;
            kept = change.kept;
            index = first_same 9 refl s.chain change.changes.after change.changes.first;
            left = λ is. ap is_some (left_first s.chain change.changes.after change.changes.first) ∙ is;
          },
        );
      }

  -- the first cell of its chain says something else
  set_chain : (says : Cell → Cell) (s : SetsFirst number tag says old new) → Says says s.first.cell → ChainGoesOn tag old new
  set_chain says s same = record {
    changed = record { at = s.first.at; cell = says s.first.cell } ∷ [];
    goes = set_cells number version tag old new stood says s;
    start = s.first.at;
    after = with_first says (s.first ∷ s.rest);
    begins = refl;
    files = s.files;
    mine = first_mine (record { at = s.first.at; cell = says s.first.cell }) s.rest;
    ends = inl (ap (λ (c : Chains). c tag) s.chains ∙ tag_set number tag old new stood says s);
    from = inr (s.first ∷ s.rest, record { is = s.is; began = refl; kept = λ at inside. inside; index = same.index; left = same.left });
  }

  dropped_chain : Drops number tag old new → ChainGoesOn tag old new
  dropped_chain s =
      let same = removed_says s.first.cell in
      record {
        changed = record { at = s.first.at; cell = says_removed s.first.cell } ∷ [];
        goes = dropped_cells number version tag old new stood s;
        start = s.first.at;
        after = with_first says_removed (s.first ∷ s.rest);
        begins = refl;
        files = files_left number tag old new stood s;
        mine = first_mine (record { at = s.first.at; cell = says_removed s.first.cell }) s.rest;
        ends = inr (ap (option_and_then leftover_in) (removed_there s.first.cell));
        from = inr (s.first ∷ s.rest, record { is = s.is; began = refl; kept = λ at inside. inside; index = same.index; left = same.left });
      }

  made_chain : Makes number version tag old new → ChainGoesOn tag old new
  made_chain s = record {
    changed = s.creates.first ∷ [];
    goes = made_cells number version tag old new stood used s;
    start = s.creates.first.at;
    after = s.creates.first ∷ [];
    begins = refl;
    files = s.files;
    mine = λ at inside. inside;
    ends = inl (ap (λ (c : Chains). c tag) s.chains ∙ tag_made number version tag old new stood s);
    from = inl (record {
      none = no_file number version tag old new stood s;
      fresh = s.creates.fresh;
      no_index = s.creates.says.others 9 (λ e. omega (arith, e)) (λ e. omega (arith, e)) (not_nine version);
      no_left = ap (option_and_then leftover_in) (s.creates.says.others 6 (λ e. omega (arith, e)) (λ e. omega (arith, e)) (not_six version));
    });
  }

  pub call_chain : (so_far : ℕ) (call : Call number version tag old new) → MayCall so_far number version tag old new call → Refuses old new ⊎ ChainGoesOn tag old new
  call_chain so_far (refused s) may = inl s
  call_chain so_far (given s) may = inr (given_chain s)
  call_chain so_far (moved s) may = absurd may
  call_chain so_far (described value s) may = inr (set_chain (says_attributes value) s (attributes_says value s.first.cell))
  call_chain so_far (put_in parent s) may = inr (set_chain (says_parent parent) s (parent_says parent s.first.cell))
  call_chain so_far (indexed index s) may = absurd may
  call_chain so_far (cut size lowered s) may = inr (set_chain (says_truncated size lowered) s (truncated_says size lowered s.first.cell))
  call_chain so_far (dropped s) may = inr (dropped_chain s)
  call_chain so_far (made s) may = inr (made_chain s)
