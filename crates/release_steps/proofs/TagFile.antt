-- The file of a tag among those of a domain, and the files beside it.
use Rattle.std.proofs.Common.{◌≡◌, ◌∙◌, ℕ, false, List, [], ◌∷◌, Option, Some, None, IfSome, Contains, refl, sym, ap, subst}
use Rattle.std.specs.Option.{option_and_then}
use Rattle.release_list.specs.domain_base.declared.place.CellAt.{CellAt}
use Rattle.release_list.specs.domain_base.declared.place.Tag.{Tag}
use Rattle.release_list.specs.page_store.Bitfiles.{same_tag}
use Rattle.release_list.specs.page_store.Pages.{Pages}
use Rattle.release_list.specs.metadata_cells.Chain.{PlacedCell, places as cell_places}
use Rattle.release_list.specs.tag_dirs.declared.dir.TagPlace.{TagPlace}
use Rattle.release_list.specs.free_cells.Cells.{Cells}
use Rattle.release_list.specs.free_space.Spaces.{Spaces}
use Rattle.release_list.specs.file_chains.FileChanges.{LeavesOtherCells, SameFirst}
use Rattle.release_list.specs.file_chains.Files.{IsFile}
use Rattle.release_list.proofs.OfFileChains.ChainChanges.{in_first}
use Rattle.release_list.specs.fileset_files.Files.{AreApart, AreFiles, Chains}
use Rattle.release_list.proofs.OfFilesetFiles.OneChain.{stand_still}
use Rattle.release_list.specs.Standing.{Files, IsFileOrQuotas, StandTogether}
use Rattle.release_list.proofs.Spread.{none_not, some_same}
use Rattle.release_list.proofs.Standings.{chain_by, stand_chain, standing}
use Rattle.release_steps.specs.Tags.{chains_in, start_of}
use Rattle.release_steps.proofs.StillAmong.{file_of_tag}

-- a chain that begins somewhere has a cell there
start_inside : (cs : List PlacedCell) (at : CellAt) → start_of cs ≡ Some at → Contains (cell_places cs) at
start_inside [] at start = absurd (none_not at start)
start_inside (first ∷ rest) at start = in_first at first rest (some_same first.at at start)

-- both chains begin where the file does
pub started : (new : Pages) (start : CellAt) (chain after : List PlacedCell) → SameFirst chain after → IsFile new start after → (start_of chain ≡ Some start) × (start_of after ≡ Some start)
started new start [] after same file = absurd same
started new start (a ∷ chain) [] same file = absurd same
started new start (a ∷ chain) (b ∷ after) same file = (ap Some (sym same.0 ∙ file.0), ap Some file.0)

module _ (fileset : ℕ) (places : List TagPlace) (pages : Pages) (chains : Chains) (are : AreFiles fileset places pages chains) (files : Files) (same : (tag : Tag) → chains_in files chains tag ≡ chains tag) (tag : Tag) where
  -- a tag whose file begins at a cell has the file that the domain has there
  by_start : (t : Tag) (a : CellAt) (o : Option (List PlacedCell)) → chains t ≡ o → option_and_then start_of o ≡ Some a → (cs : List PlacedCell) × (chains t ≡ Some cs) × (start_of cs ≡ Some a)
  by_start t a None is start = absurd (none_not a start)
  by_start t a (Some cs) is start = (cs, is, start)

  pub no_other_start : (at : CellAt) → files at ≡ None → (t : Tag) (a : CellAt) → option_and_then start_of (chains t) ≡ Some a → ¬ a ≡ at
  no_other_start at none t a start is =
      let it = by_start t a (chains t) refl start in
      none_not it.0 (sym none ∙ sym (ap files is) ∙ file_of_tag files chains t it.0 a (same t) it.1 it.2)

  module _ (chain : List PlacedCell) (is : chains tag ≡ Some chain) (at : CellAt) (start : start_of chain ≡ Some at) where
    pub file_is : files at ≡ Some chain
    file_is = file_of_tag files chains tag chain at (same tag) is start

    pub other_starts : (t : Tag) (a : CellAt) → same_tag t tag ≡ false → option_and_then start_of (chains t) ≡ Some a → ¬ a ≡ at
    other_starts t a other start_t it =
        let that = by_start t a (chains t) refl start_t in
        let one : that.0 ≡ chain = some_same that.0 chain (sym (file_of_tag files chains t that.0 a (same t) that.1 that.2) ∙ ap files it ∙ file_is) in
        let apart = subst (λ o. IfSome o (AreApart that.0)) is (subst (λ o. IfSome o (λ xs. IfSome (chains tag) (AreApart xs))) that.1 (are.apart t tag other)) in
        apart at (subst (λ (cs : List PlacedCell). Contains (cell_places cs) at) (sym one) (start_inside chain at start)) (start_inside chain at start)

-- files beside one of which a call changes cells alone
pub beside_left : (space : Spaces) (cells : Cells) (old new : Pages) (files : Files) → StandTogether space cells old files → (chain : List PlacedCell) → LeavesOtherCells cells chain old new → (a : CellAt) (cs : List PlacedCell) → files a ≡ Some cs → AreApart cs chain → IsFileOrQuotas new a cs
beside_left space cells old new files together chain others a cs is apart =
    let was = standing space cells old files together a cs is in
    chain_by old new a cs (stand_still old new cells chain cs others apart was.on_tables (stand_chain old a cs was.stands)) was.stands
