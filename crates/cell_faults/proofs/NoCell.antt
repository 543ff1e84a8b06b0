-- Whether no cell that a version has stands at a place.
use Rattle.std.proofs.Common.{◌≡◌, ◌∙◌, ◌↔◌, ◌≤◌, ℕ, Bool, true, false, not, IsTrue, List, length, nat_eq, refl, sym, ap, subst}
use Rattle.std.specs.List.{AllByRecursion, list_all}
use mathlib.Core.Bool.{false≢true}
use Rattle.page_ways.specs.domain_base.Page.{zero_bytes}
use Rattle.page_ways.specs.domain_base.declared.place.CellAt.{CellAt}
use Rattle.page_ways.specs.domain_base.declared.version.Version.{Version}
use Rattle.page_ways.specs.page_store.Pages.{Pages}
use Rattle.page_ways.specs.cell_records.Records.{kind_of, last_kind}
use Rattle.page_ways.specs.metadata_cells.Cell.{Cell, IsFreeCell}
use Rattle.page_ways.specs.metadata_cells.CellPage.{cell_of}
use Rattle.page_ways.specs.metadata_cells.Chain.{StandsAt}
use Rattle.page_ways.proofs.OfMetadataCells.OneByOne.{are_zeros, zeros_are}
use Rattle.page_ways.proofs.OfMetadataCells.Unique.{one_stands}
use Rattle.cell_faults.specs.Pages.{HasNoCell}

-- zeros are a free cell
pub zeros_are_free : (bytes : List ℕ) (zeros : Bool) → length bytes ≡ 292 → zeros ≡ list_all (λ b. nat_eq b 0) bytes → IsTrue zeros ↔ IsFreeCell bytes
zeros_are_free bytes zeros len tested = (
  λ yes. zeros_are bytes (sym tested ∙ yes) ∙ ap zero_bytes len,
  λ free. tested ∙ ap (list_all (λ b. nat_eq b 0)) free ∙ are_zeros 292,
)

module _ (pages : Pages) (version : Version) (page : List ℕ) (at : CellAt) (used : ¬ IsFreeCell (cell_of page at.cell)) where
  abbrev AreKnown : Cell → Type 0
  AreKnown cell = AllByRecursion (λ r. kind_of r ≤ last_kind version) cell.records

  pub known_decides : (cell : Cell) (known : Bool) → StandsAt pages at cell → IsTrue known ↔ AreKnown cell → IsTrue (not known) ↔ HasNoCell pages version page at
  known_decides cell true stands decides = (λ wrong. absurd (false≢true wrong), λ none. absurd (none.1 cell stands (decides.0 refl)))
  known_decides cell false stands decides = (λ _. (used, λ other there all. false≢true (decides.1 (subst AreKnown (one_stands pages at other cell there stands) all))), λ _. refl)

  pub none_stands : ((cell : Cell) → ¬ StandsAt pages at cell) → IsTrue true ↔ HasNoCell pages version page at
  none_stands none = (λ _. (used, λ cell stands all. none cell stands), λ _. refl)
