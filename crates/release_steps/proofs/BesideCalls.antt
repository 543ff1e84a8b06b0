-- What calls on a tag leave of the domain's other files.
use Rattle.std.proofs.Common.{◌≡◌, ◌∙◌, ℕ, List, [], ◌∷◌, Option, Some, refl, sym, ap, subst}
use Rattle.std.specs.Option.{option_and_then}
use Rattle.release_list.specs.domain_base.declared.place.CellAt.{CellAt}
use Rattle.release_list.specs.domain_base.declared.place.Home.{Home}
use Rattle.release_list.specs.domain_base.declared.place.Tag.{Tag}
use Rattle.release_list.specs.domain_base.declared.version.Version.{Version}
use Rattle.release_list.specs.metadata_cells.Cell.{Cell}
use Rattle.release_list.specs.metadata_cells.Chain.{PlacedCell}
use Rattle.release_list.specs.fileset_files.Changes.{with_first}
use Rattle.release_list.specs.fileset_files.Files.{Chains}
use Rattle.release_list.specs.fileset_files.Together.{AreTogether}
use Rattle.release_list.specs.Standing.{Files, with_file}
use Rattle.release_list.specs.Steps.{IsWell}
use Rattle.release_list.proofs.Spread.{none_not, some_same}
use Rattle.release_list.proofs.Standings.{file_other}
use Rattle.release_steps.specs.Calls.{StandsWell, Call, Calls, Drops, FilesetNow, Makes, PutsPage, SetsFirst, cut, described, dropped, given, indexed, made, moved, no_call, one_more, put_in, refused}
use Rattle.release_steps.specs.Tags.{AreAmong, start_of}
use Rattle.release_steps.proofs.CallsWell.{stands_call}
use Rattle.release_steps.proofs.CallTables.{chain_put}
use Rattle.release_steps.proofs.FirstWell.{files_left, no_chain}
use Rattle.release_steps.proofs.FirstWell as set
use Rattle.release_steps.proofs.MakeWell.{no_file}
use Rattle.release_steps.proofs.MakeWell as make
use Rattle.release_steps.proofs.TagFile.{started}

-- the file that begins at a cell is not the tag's
abbrev IsNotOf : Tag → FilesetNow → CellAt → Type 0
IsNotOf tag now a = ¬ option_and_then start_of (now.chains tag) ≡ Some a

module _ (fileset : ℕ) (version : Version) (tag : Tag) (old new : FilesetNow) (stood : StandsWell fileset old) (a : CellAt) (cs : List PlacedCell) (there : old.domain.files a ≡ Some cs) (other : IsNotOf tag old a) where
  -- a file begins where another does not
  by_file : (at : CellAt) (chain : Option (List PlacedCell)) → new.domain.files ≡ with_file at chain old.domain.files → ¬ a ≡ at → new.domain.files a ≡ old.domain.files a
  by_file at chain files not_at = ap (λ (f : Files). f a) files ∙ file_other at chain old.domain.files a not_at

  not_start : (at : CellAt) (chain : List PlacedCell) → old.chains tag ≡ Some chain → start_of chain ≡ Some at → ¬ a ≡ at
  not_start at chain is start same = other (ap (option_and_then start_of) is ∙ start ∙ ap Some (sym same))

  by_start : (at : CellAt) (chain : List PlacedCell) (chains : Chains) → new.chains ≡ chains → chains tag ≡ Some chain → start_of chain ≡ Some at → ¬ a ≡ at → IsNotOf tag new a
  by_start at chain chains same is start not_at now =
      not_at (sym (some_same at a (sym (ap (λ (c : Chains). option_and_then start_of (c tag)) same ∙ ap (option_and_then start_of) is ∙ start) ∙ now)))

  pub record IsBesideNow : Type 0 where
    pub same : new.domain.files a ≡ old.domain.files a
    pub apart : IsNotOf tag new a

  put_beside : (home : Home) (chain : List PlacedCell) → PutsPage fileset version tag home chain old new → IsBesideNow
  put_beside home chain s =
      let after = s.change.change.changes.after in
      let begins = started new.domain.pages s.change.start chain after s.change.change.changes.first s.change.change.changes.is_file in
      let apart = not_start s.change.start chain s.is begins.0 in
      record {
        same = by_file s.change.start (Some after) s.files apart;
        apart = by_start s.change.start after _ s.chains (chain_put fileset version tag old new home chain s) begins.1 apart;
      }

  set_beside : (says : Cell → Cell) → SetsFirst fileset tag says old new → IsBesideNow
  set_beside says s =
      let apart = not_start s.first.at (s.first ∷ s.rest) s.is refl in
      record {
        same = by_file s.first.at (Some (with_first says (s.first ∷ s.rest))) s.files apart;
        apart = by_start s.first.at (with_first says (s.first ∷ s.rest)) _ s.chains (set.tag_now fileset tag old new stood says s) refl apart;
      }

  drop_beside : Drops fileset tag old new → IsBesideNow
  drop_beside s = record {
    same = by_file s.first.at _ (files_left fileset tag old new stood s) (not_start s.first.at (s.first ∷ s.rest) s.is refl);
    apart = λ now. none_not a (sym (ap (λ (c : Chains). option_and_then start_of (c tag)) s.chains ∙ ap (option_and_then start_of) (no_chain fileset tag old new stood s)) ∙ now);
  }

  make_beside : Makes fileset version tag old new → IsBesideNow
  make_beside s =
      let apart : ¬ a ≡ s.creates.first.at = λ same. none_not cs (sym (no_file fileset version tag old new stood s) ∙ ap old.domain.files (sym same) ∙ there) in
      record {
        same = by_file s.creates.first.at (Some (s.creates.first ∷ [])) s.files apart;
        apart = by_start s.creates.first.at (s.creates.first ∷ []) _ s.chains (make.tag_now fileset version tag old new stood s) refl apart;
      }

  pub call_beside : Call fileset version tag old new → IsBesideNow
  call_beside (refused s) = record {
    same = ap (λ (f : Files). f a) s.files;
    apart = subst (λ (c : Chains). ¬ option_and_then start_of (c tag) ≡ Some a) (sym s.chains) other;
  }
  call_beside (given s) = put_beside s.home s.chain s.puts
  call_beside (moved s) = put_beside s.home s.chain s.puts
  call_beside (described value s) = set_beside _ s
  call_beside (put_in parent s) = set_beside _ s
  call_beside (indexed index s) = set_beside _ s
  call_beside (cut size lowered s) = set_beside _ s
  call_beside (dropped s) = drop_beside s
  call_beside (made s) = make_beside s

record StaysBeside (fileset : ℕ) (tag : Tag) (first now : FilesetNow) (a : CellAt) : Type 0 where
  stood : StandsWell fileset now
  same : now.domain.files a ≡ first.domain.files a
  other : IsNotOf tag now a

pub other_files_same : (fileset : ℕ) (version : Version) (tag : Tag) (first last : FilesetNow) → Calls fileset version tag first last
    → AreTogether fileset first.places first.domain.space first.domain.cells first.domain.pages first.chains → IsWell first.domain → AreAmong first.domain first.places first.chains
    → (a : CellAt) (cs : List PlacedCell) → first.domain.files a ≡ Some cs → ¬ option_and_then start_of (first.chains tag) ≡ Some a → last.domain.files a ≡ Some cs
other_files_same fileset version tag first last calls together well among a cs there other = all.same ∙ there
  where
    all : StaysBeside fileset tag first last a
    all = elim calls as (λ last calls. StaysBeside fileset tag first last a) [
      | no_call ↦ record { stood = record { well = well; together = together; among = among }; same = refl; other = other }
      | one_more between last (calls → was) call ↦
          let now = call_beside fileset version tag between last was.stood a cs (was.same ∙ there) was.other call in
          record {
            stood = stands_call fileset version tag between last was.stood call;
            same = now.same ∙ was.same;
            other = now.apart;
          }
    ]
