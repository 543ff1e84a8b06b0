-- Through which file each is read stays over calls on a tag.
use Rattle.std.proofs.Common.{◌≡◌, ◌∙◌, ℕ, List, [], ◌∷◌, Some, refl, sym, ap, ⊎_elim}
use Rattle.std.specs.Option.{option_and_then}
use Rattle.release_list.specs.domain_base.declared.place.CellAt.{CellAt}
use Rattle.release_list.specs.domain_base.declared.place.Home.{Home}
use Rattle.release_list.specs.domain_base.declared.place.Tag.{Tag}
use Rattle.release_list.specs.domain_base.declared.version.Version.{Version}
use Rattle.release_list.specs.metadata_cells.Cell.{Cell}
use Rattle.release_list.specs.metadata_cells.Chain.{PlacedCell}
use Rattle.release_list.specs.file_chains.FileChanges.{SameFirst}
use Rattle.release_list.specs.fileset_files.Changes.{says_removed, with_first}
use Rattle.release_list.specs.Standing.{Files, source_at, source_in, source_of, with_file}
use Rattle.release_list.proofs.Firsts.{first_same}
use Rattle.release_list.proofs.Standings.{file_other, file_there, same_or_not, source_by}
use Rattle.release_steps.specs.Calls.{Call, Calls, FilesetNow, PutsPage, StandsWell, cut, described, dropped, given, indexed, made, moved, no_call, one_more, put_in, refused}
use Rattle.release_steps.specs.Tags.{start_of}
use Rattle.release_steps.proofs.CallsWell.{stands_call}
use Rattle.release_steps.proofs.FirstWell.{SaysBeside, attributes_beside, dropped_was, files_left, index_beside, parent_beside, removed_beside, set_file, truncated_beside}
use Rattle.release_steps.proofs.MakeWell.{put}
use Rattle.release_steps.proofs.TagFile.{file_is, started}

source_first : (chain after : List PlacedCell) → SameFirst chain after → source_of after ≡ source_of chain
source_first [] after same = absurd same
source_first (a ∷ xs) [] same = absurd same
source_first (a ∷ xs) (b ∷ ys) same = ap (option_and_then source_in) (first_same 2 refl (a ∷ xs) (b ∷ ys) same)

module _ (fileset : ℕ) (version : Version) (tag : Tag) (old new : FilesetNow) (stood : StandsWell fileset old) where
  abbrev Same : Type 0
  Same = (a : CellAt) → source_at new.domain.files a ≡ source_at old.domain.files a

  by_put : (at : CellAt) (after : List PlacedCell) → new.domain.files ≡ with_file at (Some after) old.domain.files → source_of after ≡ source_at old.domain.files at → Same
  by_put at after files same a = ap (λ (f : Files). source_at f a) files ∙ ⊎_elim
      (λ is_at. ap (source_at (with_file at (Some after) old.domain.files)) is_at ∙ ap (option_and_then source_of) (file_there at (Some after) old.domain.files) ∙ same ∙ ap (source_at old.domain.files) (sym is_at))
      (λ not_at. ap (option_and_then source_of) (file_other at (Some after) old.domain.files a not_at))
      (same_or_not a at)

  tags_file : (chain : List PlacedCell) (at : CellAt) → old.chains tag ≡ Some chain → start_of chain ≡ Some at → old.domain.files at ≡ Some chain
  tags_file chain at is start = file_is fileset old.places old.domain.pages old.chains stood.together.files old.domain.files stood.among.same tag chain is at start

  put_source : (home : Home) (chain : List PlacedCell) → PutsPage fileset version tag home chain old new → Same
  put_source home chain s =
      let after = s.change.change.changes.after in
      let first = s.change.change.changes.first in
      let begins = started new.domain.pages s.change.start chain after first s.change.change.changes.is_file in
      by_put s.change.start after s.files (source_first chain after first ∙ sym (source_by old.domain.files s.change.start chain (tags_file chain s.change.start s.is begins.0)))

  set_source : (says : Cell → Cell) (first : PlacedCell) (rest : List PlacedCell) → old.chains tag ≡ Some (first ∷ rest) → SaysBeside says first.cell → new.domain.files ≡ with_file first.at (Some (with_first says (first ∷ rest))) old.domain.files → Same
  set_source says first rest is beside files =
      by_put first.at (with_first says (first ∷ rest)) files (ap (option_and_then source_in) beside.source ∙ sym (source_by old.domain.files first.at (first ∷ rest) (tags_file (first ∷ rest) first.at is refl)))

  source_call : Call fileset version tag old new → Same
  source_call (refused s) = λ a. ap (λ (f : Files). source_at f a) s.files
  source_call (given s) = put_source s.home s.chain s.puts
  source_call (moved s) = put_source s.home s.chain s.puts
  source_call (described value s) = set_source _ s.first s.rest s.is (attributes_beside old.domain.pages s.first s.rest (set_file fileset tag old new stood _ s) value) s.files
  source_call (put_in parent s) = set_source _ s.first s.rest s.is (parent_beside old.domain.pages s.first s.rest (set_file fileset tag old new stood _ s) parent) s.files
  source_call (indexed index s) = set_source _ s.first s.rest s.is (index_beside old.domain.pages s.first s.rest (set_file fileset tag old new stood _ s) index) s.files
  source_call (cut size lowered s) = set_source _ s.first s.rest s.is (truncated_beside old.domain.pages s.first s.rest (set_file fileset tag old new stood _ s) size lowered) s.files
  source_call (dropped s) = set_source says_removed s.first s.rest s.is (removed_beside old.domain.pages s.first s.rest (dropped_was fileset tag old new stood s)) (files_left fileset tag old new stood s)
  source_call (made s) = by_put s.creates.first.at (s.creates.first ∷ []) s.files (put fileset version tag old new stood s).source

record SourcesStill (fileset : ℕ) (first now : FilesetNow) : Type 0 where
  stood : StandsWell fileset now
  same : (a : CellAt) → source_at now.domain.files a ≡ source_at first.domain.files a

pub sources_stay : (fileset : ℕ) (version : Version) (tag : Tag) (first last : FilesetNow) → Calls fileset version tag first last → StandsWell fileset first → (a : CellAt) → source_at last.domain.files a ≡ source_at first.domain.files a
sources_stay fileset version tag first last calls stood = all.same
  where
    all : SourcesStill fileset first last
    all = elim calls as (λ last calls. SourcesStill fileset first last) [
      | no_call ↦ record { stood = stood; same = λ a. refl }
      | one_more between last (calls → was) call ↦ record {
        stood = stands_call fileset version tag between last was.stood call;
        same = λ a. source_call fileset version tag between last was.stood call a ∙ was.same a;
      }
    ]
