-- A chain that has none of the changed cells stays.
use Rattle.std.proofs.Common.{◌≡◌, Bool, false, List, [], ◌∷◌, ◌++◌, subst, ◌∙◌}
use Rattle.std.specs.List.{AllByRecursion}
use Rattle.page_store.specs.domain_base.declared.place.CellAt.{CellAt}
use Rattle.page_store.specs.Pages.{Pages}
use Rattle.metadata_cells.specs.Cell.{Cell}
use Rattle.metadata_cells.specs.Chain.{StandsAt, PlacedCell, Path, begins, goes_on, IsChain, LeavesOthers, AreApart}

module _ (P : PlacedCell → Type 0) where
  all_front : (xs : List PlacedCell) (y : PlacedCell) → AllByRecursion P (xs ++ y ∷ []) → AllByRecursion P xs
  all_front [] y all = tt
  all_front (x ∷ xs) y all = (all.0, all_front xs y all.1)

  all_last : (xs : List PlacedCell) (y : PlacedCell) → AllByRecursion P (xs ++ y ∷ []) → P y
  all_last [] y all = all.0
  all_last (x ∷ xs) y all = all_last xs y all.1

module _ (old new : Pages) (changed : CellAt → Bool) (leaves : LeavesOthers changed old new) where
  pub stands_stays : (at : CellAt) (cell : Cell) → changed at ≡ false → StandsAt old at cell → StandsAt new at cell
  stands_stays at cell apart stands = record { bytes = stands.bytes; there = leaves at apart ∙ stands.there; is = stands.is }

  pub path_stays : (start : CellAt) (passed : List PlacedCell) (last : PlacedCell) → Path old start passed last → AreApart changed (passed ++ last ∷ []) → Path new start passed last
  path_stays start passed last path apart =
      elim path as (λ passed last path. AreApart changed (passed ++ last ∷ []) → Path new start passed last) [
        | begins cell stands ↦ λ apart. begins cell (stands_stays start cell apart.0 stands)
        | goes_on passed last at cell (path → earlier) next fresh stands follows ↦ λ apart.
            goes_on passed last at cell (earlier (all_front _ (passed ++ last ∷ []) _ apart)) next fresh
            (stands_stays at cell (all_last _ (passed ++ last ∷ []) _ apart) stands) follows
      ] apart

  pub chain_stays : (start : CellAt) (cells : List PlacedCell) → AreApart changed cells → IsChain old start cells → IsChain new start cells
  chain_stays start cells apart chain = record {
    passed = chain.passed;
    last = chain.last;
    path = path_stays start chain.passed chain.last chain.path (subst (AreApart changed) chain.all apart);
    ends = chain.ends;
    all = chain.all;
  }
