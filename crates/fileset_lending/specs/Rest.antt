-- What stays of a set of files that calls change, and what is listed of files that are taken away.
use Rattle.std.specs.Prelude.{◌≡◌, ◌++◌, ◌∷◌, ℕ, List, [], Option, None}
use Rattle.std.proofs.Common.{◌∙◌, append_assoc, refl, sym, ap, subst}
use Rattle.std.proofs.lemmas.List.{append-nil}
use Rattle.domain_memory.specs.domain_base.declared.place.CellAt.{CellAt}
use Rattle.domain_memory.specs.domain_base.declared.place.Tag.{Tag}
use Rattle.domain_memory.specs.page_store.Pages.{Pages}
use Rattle.domain_memory.specs.tag_dirs.declared.dir.TagPlace.{TagPlace}
use Rattle.domain_memory.specs.fileset_files.Changes.{Removes}
use Rattle.domain_memory.specs.fileset_files.Files.{Chains}
use Rattle.domain_memory.specs.stored_set.Sets.{without_index}
use Rattle.domain_memory.specs.free_cells.Cells.{Cells, is_closed, kept_of}
use Rattle.domain_memory.specs.free_space.Spaces.{Spaces, kept_spaces}
use Rattle.domain_memory.specs.free_space.VolumeSpace.{VolumeSpace}
use Rattle.set_standing.specs.Follow.{Said}
use Rattle.set_standing.specs.Parts.{KeepsAround, Parts}
use Rattle.set_standing.proofs.PartsKept.{both_kept, none_kept}
use Rattle.fileset_lending.specs.declared.parts.CallSettings.{CallSettings}

-- cells are listed after those that were
abbrev pub Lists : List CellAt → List CellAt → Type 0
Lists removed removed_now = (more : List CellAt) × (removed ++ more ≡ removed_now)

-- the parts in which the files of a fileset stand
abbrev pub parts_of : List TagPlace → Pages → Spaces → Cells → Parts
parts_of tags pages space cells =
    record { tags = tags; pages = pages; space = space; cells = cells }

-- what is kept of each volume's free space, which a change that is taken back comes back to
abbrev pub kept_volumes : Spaces → List (Option VolumeSpace)
kept_volumes space = (kept_spaces space).volumes

-- and what is kept of free space and of free cells is what it was, and so are the volumes that are
-- closed
pub record KeepsKept (parts parts_now : Parts) : Type 0 where
  pub spaces : kept_volumes parts_now.space ≡ kept_volumes parts.space
  pub cells : (vol : ℕ) → kept_of parts_now.cells vol ≡ kept_of parts.cells vol
  pub marks : (vol : ℕ) → is_closed parts_now.cells vol ≡ is_closed parts.cells vol

-- the fileset's number, what calls are given and the pages that a change is taken back to are as
-- they were, and so are the cells that were listed, perhaps with more after them, and what is kept
-- of free space and free cells; and whatever domain stood around the fileset does still, once those
-- cells are on its list, with directories that say what they said or what was said of them
pub record LeavesRest (said : Said) (fileset fileset_now : ℕ) (settings settings_now : CallSettings)
    (before before_now : Pages) (removed removed_now : List CellAt) (parts parts_now : Parts)
    : Type 0 where
  pub same_number : fileset_now ≡ fileset
  pub same_settings : settings_now ≡ settings
  pub same_before : before_now ≡ before
  pub lists : Lists removed removed_now
  pub kept : KeepsKept parts parts_now
  pub around : KeepsAround said fileset settings.version settings.born lists.0 parts parts_now

-- if nothing is changed, all of this holds
pub rest_is : (fileset : ℕ) (settings : CallSettings) (before : Pages) (removed : List CellAt)
    (parts : Parts)
    → LeavesRest None fileset fileset settings settings before before removed removed parts parts
rest_is fileset settings before removed parts = record {
  same_number = refl;
  same_settings = refl;
  same_before = refl;
  lists = ([], append-nil removed);
  kept = record { spaces = refl; cells = λ vol. refl; marks = λ vol. refl };
  around = none_kept fileset settings.version settings.born parts;
}

abbrev lists_joined : (a b c : List CellAt) → Lists a b → Lists b c → Lists a c
lists_joined a b c first then = (
  first.0 ++ then.0,
  sym (append_assoc a first.0 then.0) ∙ ap (λ xs. xs ++ then.0) first.1 ∙ then.1,
)

-- and after two changes, if it is after each, and the first says nothing of a directory
pub rest_joined : (said : Said) (f g h : ℕ) (s t u : CallSettings) (p q r : Pages)
    (a b c : List CellAt) (x y z : Parts) → LeavesRest None f g s t p q a b x y → LeavesRest said g h t u q r b c y z
    → LeavesRest said f h s u p r a c x z
rest_joined said f g h s t u p q r a b c x y z first then = record {
  same_number = then.same_number ∙ first.same_number;
  same_settings = then.same_settings ∙ first.same_settings;
  same_before = then.same_before ∙ first.same_before;
  lists = lists_joined a b c first.lists then.lists;
  kept = record {
    spaces = then.kept.spaces ∙ first.kept.spaces;
    cells = λ vol. then.kept.cells vol ∙ first.kept.cells vol;
    marks = λ vol. then.kept.marks vol ∙ first.kept.marks vol;
  };
  around = both_kept f s.version s.born said first.lists.0 then.lists.0 x y z first.around
      (subst (λ (n : ℕ). KeepsAround said n s.version s.born then.lists.0 y z) first.same_number
      (subst (λ (w : CallSettings). KeepsAround said g w.version w.born then.lists.0 y z)
      first.same_settings then.around));
}

-- the tag names nothing any more, and the cell at which its chain begins is listed after the
-- others: that says that all of the file or directory is to be let go of, and names no index
pub record TakesAway (fileset : ℕ) (places : List TagPlace) (tag : Tag) (chains : Chains)
    (removed removed_now : List CellAt) (new : Pages) : Type 0 where
  pub at : CellAt
  pub listed : removed_now ≡ removed ++ at ∷ []
  pub removes : Removes fileset places tag at (without_index tag chains) new
