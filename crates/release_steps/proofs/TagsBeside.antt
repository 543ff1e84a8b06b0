-- Files of tags beside a list stay over steps, and begin at cells of their own.
use Rattle.std.proofs.Common.{◌≡◌, ◌∙◌, ℕ, false, List, Option, Some, None, refl, sym, ap}
use Rattle.std.specs.Option.{option_and_then}
use Rattle.release_list.specs.domain_base.declared.place.CellAt.{CellAt}
use Rattle.release_list.specs.domain_base.declared.place.Tag.{Tag}
use Rattle.release_list.specs.domain_base.declared.version.Version.{Version}
use Rattle.release_list.specs.page_store.Bitfiles.{same_tag}
use Rattle.release_list.specs.page_store.Pages.{Pages}
use Rattle.release_list.specs.metadata_cells.Chain.{PlacedCell}
use Rattle.release_list.specs.tag_dirs.declared.dir.TagPlace.{TagPlace}
use Rattle.release_list.specs.free_cells.Cells.{Cells}
use Rattle.release_list.specs.free_space.Spaces.{Spaces}
use Rattle.release_list.specs.fileset_files.Files.{Chains}
use Rattle.release_list.specs.fileset_files.Together.{AreTogether}
use Rattle.release_list.specs.Steps.{Now, Steps}
use Rattle.release_list.proofs.Spread.{none_not}
use Rattle.release_steps.specs.Kept.{IsBeside}
use Rattle.release_steps.specs.Tags.{AreAmong, chains_in, start_of}
use Rattle.release_steps.proofs.Others.{others_stay}
use Rattle.release_steps.proofs.Tags.{starts_differ}

pub begin_apart : (fileset : ℕ) (places : List TagPlace) (space : Spaces) (cells : Cells) (pages : Pages) (chains : Chains) → AreTogether fileset places space cells pages chains → (one other : Tag) → same_tag one other ≡ false
    → (at : CellAt) → option_and_then start_of (chains one) ≡ Some at → ¬ option_and_then start_of (chains other) ≡ Some at
begin_apart fileset places space cells pages chains are one other differ at is_one is_other = by_one (chains one) refl is_one
  where
    by_other : (xs : List PlacedCell) → chains one ≡ Some xs → start_of xs ≡ Some at → (o : Option (List PlacedCell)) → chains other ≡ o → option_and_then start_of o ≡ Some at → ⊥
    by_other xs is start None none start_none = none_not at start_none
    by_other xs is start (Some ys) is_ys start_ys = starts_differ fileset places space cells pages chains are one other xs ys at at differ is is_ys start start_ys refl

    by_one : (o : Option (List PlacedCell)) → chains one ≡ o → option_and_then start_of o ≡ Some at → ⊥
    by_one None none start = none_not at start
    by_one (Some xs) is start = by_other xs is start (chains other) refl is_other

pub beside_stay : (group : ℕ) (version : Version) (first : Now) (count : ℕ) (last : Now) → Steps group version first count last → (places : List TagPlace) (chains : Chains) → AreAmong first places chains
    → (tag : Tag) → ((at : CellAt) → option_and_then start_of (chains tag) ≡ Some at → IsBeside first.list at) → chains_in last.files chains tag ≡ chains tag
beside_stay group version first count last steps places chains among tag beside = by_start (option_and_then start_of (chains tag)) refl ∙ among.same tag
  where
    by_start : (o : Option CellAt) → option_and_then start_of (chains tag) ≡ o → option_and_then last.files (option_and_then start_of (chains tag)) ≡ option_and_then first.files (option_and_then start_of (chains tag))
    by_start None is = ap (option_and_then last.files) is ∙ sym (ap (option_and_then first.files) is)
    by_start (Some at) is = ap (option_and_then last.files) is ∙ others_stay group version first count last steps at (beside at is) ∙ sym (ap (option_and_then first.files) is)
