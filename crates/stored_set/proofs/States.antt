-- The map of files where one of them changes.
use Rattle.std.proofs.Common.{◌≡◌, ℕ, Bool, true, false, cond, List, [], ◌∷◌, None, refl}
use Rattle.std.specs.Option.{option_and_then, option_map}
use Rattle.index_pages.specs.domain_base.declared.place.CellAt.{CellAt}
use Rattle.index_pages.specs.domain_base.declared.place.Tag.{Tag}
use Rattle.index_pages.specs.page_store.Bitfiles.{same_tag}
use Rattle.index_pages.specs.page_store.Pages.{Pages}
use Rattle.index_pages.specs.metadata_cells.Cell.{Cell}
use Rattle.index_pages.specs.metadata_cells.Chain.{PlacedCell}
use Rattle.index_pages.specs.tag_dirs.declared.dir.TagPlace.{TagPlace}
use Rattle.index_pages.specs.file_chains.Files.{IsFile}
use Rattle.index_pages.specs.fileset_files.Changes.{with_chain, with_first, without_chain}
use Rattle.index_pages.specs.fileset_files.Files.{AreFiles, Chains}
use Rattle.index_pages.specs.fileset_files.State.{FileState, state_of, states_of, with_changed, without_state}
use Rattle.index_pages.proofs.OfFilesetFiles.Calls.{Says}
use Rattle.index_pages.proofs.OfFilesetFiles.Parts.{file_at, states_changed}

says_of : (change : Cell → Cell) (how : FileState → FileState) → Says change how → (pages : Pages) (cells : List PlacedCell) (at : CellAt) → IsFile pages at cells → state_of (with_first change cells) ≡ option_map how (state_of cells)
says_of change how says pages [] at is = absurd is
says_of change how says pages (first ∷ rest) at is = says pages first rest is.1

-- the first cell of one says something else
pub said_states : (fileset : ℕ) (places : List TagPlace) (pages : Pages) (chains : Chains) (tag : Tag) (change : Cell → Cell) (how : FileState → FileState) → AreFiles fileset places pages chains → Says change how
    → states_of (with_chain tag (with_first change) chains) ≡ with_changed tag how (states_of chains)
said_states fileset places pages chains tag change how are says =
    states_changed tag (with_first change) how chains (λ cs is. let f = file_at fileset places pages chains are tag cs is in says_of change how says pages cs f.at f.is_file)

-- one is taken out
pub taken_states : (tag : Tag) (chains : Chains) → states_of (without_chain tag chains) ≡ without_state tag (states_of chains)
taken_states tag chains = λ i t. each t i
  where
    by_tag : (t : Tag) (b : Bool) → option_and_then state_of (cond b None (chains t)) ≡ cond b None (option_and_then state_of (chains t))
    by_tag t true = refl
    by_tag t false = refl

    each : (t : Tag) → states_of (without_chain tag chains) t ≡ without_state tag (states_of chains) t
    each t = by_tag t (same_tag t tag)
