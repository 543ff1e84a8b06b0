-- Where a call leaves nothing to be done anew, what is to be done is on the list, and the chains of the domain
-- stand on.
use Rattle.std.proofs.Common.{◌≡◌, ◌∙◌, ℕ, List, [], ◌∷◌, Option, Some, None, Contains, is_some, refl, sym, ap, subst, arith, ⊎_elim}
use Rattle.std.specs.Option.{option_and_then, option_map}
use Rattle.domain_standing.specs.domain_base.declared.place.CellAt.{CellAt}
use Rattle.domain_standing.specs.domain_base.declared.place.Tag.{Tag}
use Rattle.domain_standing.specs.domain_base.declared.version.Version.{Version}
use Rattle.domain_standing.specs.cell_records.declared.record.Record.TheVariants as written
use Rattle.domain_standing.specs.metadata_cells.Cell.{Cell, record_of}
use Rattle.domain_standing.specs.metadata_cells.Chain.{PlacedCell}
use Rattle.domain_standing.specs.fileset_files.Changes.{says_attributes, says_parent, with_attributes, with_first}
use Rattle.domain_standing.specs.fileset_files.Files.{Chains}
use Rattle.domain_standing.specs.fileset_files.Truncation.{says_truncated}
use Rattle.domain_standing.proofs.OfFilesetFiles.FirstCell.{find_other}
use Rattle.domain_standing.proofs.OfFilesetFiles.Room.{attributes_kind}
use Rattle.domain_standing.specs.release_list.Listed.{left_of, leftover_in}
use Rattle.domain_standing.specs.release_list.Listing.{Listing}
use Rattle.domain_standing.specs.release_list.Standing.{Files, with_file}
use Rattle.domain_standing.proofs.OfReleaseList.Standings.{file_other, file_there, same_or_not}
use Rattle.domain_standing.specs.release_steps.Calls.{Call, FilesetNow, Gives, Makes, SetsFirst, StandsWell, cut, described, dropped, given, indexed, made, moved, put_in, refused}
use Rattle.domain_standing.proofs.OfReleaseSteps.MakeWell.{no_file}
use Rattle.domain_standing.proofs.OfReleaseSteps.Said.{left_first}
use Rattle.domain_standing.proofs.OfReleaseSteps.TagFile.{file_is, started}
use Rattle.domain_standing.specs.Chains.{IndexesAt, IsOnList, IsToDo, StandChains}
use Rattle.domain_standing.specs.Domain.{DomainNow}
use Rattle.standing_laws.specs.Leads.{LeadsOn, MayCall, StandsBelow, fileset_now}
use Rattle.standing_laws.specs.Left.{LeavesNothing}
use Rattle.standing_laws.proofs.ChainsGoOn.{changed_kind, not_six, size_other}
use Rattle.standing_laws.proofs.ChainsNamed.{indexed_now, list_same, listed_now, named_now, tag_pages_now}
use Rattle.standing_laws.proofs.ChainsStand.{used_now}
use Rattle.standing_laws.proofs.SlotsStand.{quotas_now, slots_now, well_now}

module _ (number : ℕ) (version : Version) (tag : Tag) (old new : FilesetNow) (stood : StandsWell number old) where
  -- as much is left to be done of each file
  abbrev SameLeft : Type 0
  SameLeft = (at : CellAt) → option_and_then left_of (new.domain.files at) ≡ option_and_then left_of (old.domain.files at)

  one_file : (start : CellAt) (after : List PlacedCell) → new.domain.files ≡ with_file start (Some after) old.domain.files → left_of after ≡ option_and_then left_of (old.domain.files start) → SameLeft
  one_file start after files same at = ⊎_elim
      (λ here.
      ap (λ (a : CellAt). option_and_then left_of (new.domain.files a)) here ∙ ap (λ (f : Files). option_and_then left_of (f start)) files ∙ ap (option_and_then left_of) (file_there start (Some after) old.domain.files)
      ∙ same ∙ sym (ap (λ (a : CellAt). option_and_then left_of (old.domain.files a)) here))
      (λ apart. ap (λ (f : Files). option_and_then left_of (f at)) files ∙ ap (option_and_then left_of) (file_other start (Some after) old.domain.files at apart))
      (same_or_not at start)

  given_left : Gives number version tag old new → SameLeft
  given_left s =
      let change = s.puts.change.change.changes in
      let begins = started new.domain.pages s.puts.change.start s.chain change.after change.first change.is_file in
      one_file s.puts.change.start change.after s.puts.files
      (left_first s.chain change.after change.first
      ∙ sym (ap (option_and_then left_of) (file_is number old.places old.domain.pages old.chains stood.together.files old.domain.files stood.among.same tag s.chain s.puts.is s.puts.change.start begins.0)))

  set_left : (says : Cell → Cell) (s : SetsFirst number tag says old new) → record_of 6 (says s.first.cell).records ≡ record_of 6 s.first.cell.records → SameLeft
  set_left says s same =
      one_file s.first.at (with_first says (s.first ∷ s.rest)) s.files
      (ap (option_and_then leftover_in) same
      ∙ sym (ap (option_and_then left_of) (file_is number old.places old.domain.pages old.chains stood.together.files old.domain.files stood.among.same tag (s.first ∷ s.rest) s.is s.first.at refl)))

  made_left : Makes number version tag old new → SameLeft
  made_left s =
      one_file s.creates.first.at (s.creates.first ∷ []) s.files
      (ap (option_and_then leftover_in) (s.creates.says.others 6 (λ e. omega (arith, e)) (λ e. omega (arith, e)) (not_six version))
      ∙ sym (ap (option_and_then left_of) (no_file number version tag old new stood s)))

  pub same_left : (so_far : ℕ) (call : Call number version tag old new) → MayCall so_far number version tag old new call → LeavesNothing number version tag old new call → SameLeft
  same_left so_far (refused s) may none = λ at. ap (λ (f : Files). option_and_then left_of (f at)) s.files
  same_left so_far (given s) may none = given_left s
  same_left so_far (moved s) may none = absurd may
  same_left so_far (described value s) may none =
      set_left (says_attributes value) s
      (find_other 1 6 (option_map (with_attributes value) (record_of 1 s.first.cell.records)) s.first.cell.records (λ e. omega (arith, e)) (changed_kind 1 (with_attributes value) (attributes_kind value) s.first.cell.records))
  same_left so_far (put_in parent s) may none =
      set_left (says_parent parent) s (find_other 10 6 (Some (written.Parent parent.slot parent.seq)) s.first.cell.records (λ e. omega (arith, e)) refl)
  same_left so_far (indexed index s) may none = absurd may
  same_left so_far (cut size lowered s) may none =
      set_left (says_truncated size lowered) s
      (ap (λ (l : Option ℕ). record_of 6 (says_truncated size l s.first.cell).records) none ∙ size_other size None s.first.cell 6 (λ e. omega (arith, e)))
  same_left so_far (dropped s) may none = absurd none
  same_left so_far (made s) may none = made_left s

module _ (number : ℕ) (tag : Tag) (d now : DomainNow) (chains chains_now : Chains) (files files_now : Files) (indexes : IndexesAt) (below : StandsBelow d files indexes) (s : LeadsOn number tag d now chains chains_now files files_now)
    (nothing : LeavesNothing number d.frame.version tag (fileset_now d number chains files) (fileset_now now number chains_now files_now) s.call)
  where
    abbrev was : FilesetNow
    was = fileset_now d number chains files

    abbrev is : FilesetNow
    is = fileset_now now number chains_now files_now

    to_do : (at : CellAt) → IsToDo files_now at → IsOnList now at
    to_do at left =
        let before : IsToDo files at = ap is_some (sym (same_left number d.frame.version tag was is s.well d.table.made s.call s.may nothing at)) ∙ left in
        let on = below.chains.to_do at before in
        (on.0, subst (λ (l : Listing). Contains l.entries on.0) (sym (list_same number tag d now chains chains_now files files_now indexes below s)) on.1, on.2)

    pub chains_stand : StandChains now files_now indexes
    chains_stand = record {
      well = well_now number tag d now chains chains_now files files_now indexes below s;
      slots = slots_now number tag d now chains chains_now files files_now indexes below s;
      quotas = quotas_now number tag d now chains chains_now files files_now indexes below s;
      indexed = indexed_now number tag d now chains chains_now files files_now indexes below s;
      used = used_now number tag d now chains chains_now files files_now indexes below s;
      named = named_now number tag d now chains chains_now files files_now indexes below s;
      to_do = to_do;
      listed = listed_now number tag d now chains chains_now files files_now indexes below s;
      tag_pages = tag_pages_now number tag d now chains chains_now files files_now indexes below s;
    }
