-- What an answer says of a step.
use Rattle.std.proofs.Common.{◌≡◌, ◌↔◌, ℕ, List, Option, Result, Ok, Err, IfOk, subst}
use Rattle.fileset_files.specs.domain_base.declared.place.CellAt.{CellAt}
use Rattle.fileset_files.specs.domain_base.declared.version.Version.{Version}
use Rattle.fileset_files.specs.page_store.Pages.{Pages}
use Rattle.fileset_files.specs.metadata_cells.Chain.{PlacedCell}
use Rattle.fileset_files.specs.free_cells.Cells.{Cells}
use Rattle.fileset_files.specs.free_space.Spaces.{Spaces}
use Rattle.file_release.specs.declared.reader.Reader.{Reader}
use Rattle.file_release.specs.declared.released.Released.{Released}
use Rattle.file_release.specs.declared.released.Released.TheVariants as released
use Rattle.file_release.specs.Releases.{Progresses, Releases}
use Rattle.file_release.specs.Sharing.{IsReleased}

module _ (from : ℕ) (start : CellAt) (reader : Option Reader) (group : ℕ) (version : Version) (chain own : List PlacedCell) (space space_now : Spaces) (cells cells_now : Cells) (old new : Pages) where
  -- a step is no answer that nothing was let go of
  not_nothing : (what : Released) → Releases from start reader group version chain own space space_now cells cells_now old new what → what ≡ released.Nothing → ⊥
  not_nothing what steps is = subst (λ (w : Released). Progresses w from chain steps.after steps.cells_between cells_now) is steps.progress

  pub went_some : {E : Type 0} (r : Result Released E) → IfOk r (Releases from start reader group version chain own space space_now cells cells_now old new)
      → IfOk r (λ what. ¬ what ≡ released.Nothing → Releases from start reader group version chain own space space_now cells cells_now old new what)
  went_some (Ok what) steps = λ _. steps
  went_some (Err e) steps = tt

  pub something : {E : Type 0} (r : Result Released E) → (IsReleased from chain → ⊥) → IfOk r (Releases from start reader group version chain own space space_now cells cells_now old new) → IfOk r (λ what. (what ≡ released.Nothing) ↔ IsReleased from chain)
  something (Ok what) unreleased steps = ((λ is. absurd (not_nothing what steps is)), (λ is. absurd (unreleased is)))
  something (Err e) unreleased steps = tt

  pub kept_none : {E : Type 0} (r : Result Released E) → IfOk r (Releases from start reader group version chain own space space_now cells cells_now old new)
      → IfOk r (λ what. what ≡ released.Nothing → (space_now ≡ space) × (cells_now ≡ cells) × (new ≡ old))
  kept_none (Ok what) steps = λ is. absurd (not_nothing what steps is)
  kept_none (Err e) steps = tt

  -- so what is said of such an answer is true
  pub idle_none : {E : Type 0} (X : Type 0) (r : Result Released E) → IfOk r (Releases from start reader group version chain own space space_now cells cells_now old new) → IfOk r (λ what. what ≡ released.Nothing → X)
  idle_none X (Ok what) steps = λ is. absurd (not_nothing what steps is)
  idle_none X (Err e) steps = tt
