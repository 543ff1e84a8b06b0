-- What calls leave as it was.
use Rattle.std.proofs.Common.{◌≡◌, ◌∙◌, ◌++◌, ◌∷◌, ℕ, List, [], refl, sym}
use Rattle.std.proofs.lemmas.List.{append-nil}
use Rattle.domain_memory.specs.domain_base.declared.place.CellAt.{CellAt}
use Rattle.domain_memory.specs.page_store.Pages.{Pages}
use Rattle.fileset_lending.specs.declared.parts.CallSettings.{CallSettings}
use Rattle.set_standing.specs.Follow.{Said}
use Rattle.set_standing.specs.Parts.{KeepsAround, Parts}
use Rattle.fileset_lending.specs.Rest.{KeepsKept, LeavesRest}

-- no cell is listed
pub kept : {said : Said} (fileset fileset_now : ℕ) (settings : CallSettings) (before before_now : Pages) (removed : List CellAt) (parts parts_now : Parts) → fileset_now ≡ fileset → before_now ≡ before → KeepsKept parts parts_now → KeepsAround said fileset settings.version settings.born [] parts parts_now → LeavesRest said fileset fileset_now settings settings before before_now removed removed parts parts_now
kept fileset fileset_now settings before before_now removed parts parts_now files pages keeps around = record { same_number = files; same_settings = refl; same_before = pages; lists = ([], append-nil removed); kept = keeps; around = around }

-- one is
pub kept_with : {said : Said} (fileset fileset_now : ℕ) (settings : CallSettings) (before before_now : Pages) (removed removed_now : List CellAt) (at : CellAt) (parts parts_now : Parts) → fileset_now ≡ fileset → before_now ≡ before → removed_now ≡ removed ++ at ∷ [] → KeepsKept parts parts_now → KeepsAround said fileset settings.version settings.born (at ∷ []) parts parts_now → LeavesRest said fileset fileset_now settings settings before before_now removed removed_now parts parts_now
kept_with fileset fileset_now settings before before_now removed removed_now at parts parts_now files pages listed keeps around = record { same_number = files; same_settings = refl; same_before = pages; lists = (at ∷ [], sym listed); kept = keeps; around = around }

-- the cells that are listed are the same
pub kept_as : {said : Said} (fileset fileset_now : ℕ) (settings : CallSettings) (before before_now : Pages) (removed removed_now : List CellAt) (parts parts_now : Parts) → fileset_now ≡ fileset → before_now ≡ before → removed_now ≡ removed → KeepsKept parts parts_now → KeepsAround said fileset settings.version settings.born [] parts parts_now → LeavesRest said fileset fileset_now settings settings before before_now removed removed_now parts parts_now
kept_as fileset fileset_now settings before before_now removed removed_now parts parts_now files pages same keeps around = record { same_number = files; same_settings = refl; same_before = pages; lists = ([], append-nil removed ∙ sym same); kept = keeps; around = around }
