-- The kinds of cells: a cell whose kind is that of a free one is free on a well-formed page, and one of another kind is not.
use Rattle.std.proofs.Common.{◌≡◌, ◌∙◌, ℕ, ◌+◌, ◌*◌, ◌<◌, true, Some, IsSomeAnd, List, drop, slice_index, sym, ap, subst, arith, ⊎_elim}
use Rattle.std.proofs.lemmas.Bool.{eqb-true, eq-eqb}
use Rattle.std.proofs.lemmas.List.{get_or-drop, get_or-take}
use Rattle.page_store.specs.domain_base.Page.{zero_bytes, slice_index-zero_bytes}
use Rattle.page_store.specs.domain_base.declared.place.CellAt.{CellAt}
use Rattle.page_store.specs.Pages.{Pages}
use Rattle.cell_records.specs.Fields.{number_at}
use Rattle.metadata_cells.specs.declared.head.CellKind.{CellKind}
use Rattle.metadata_cells.specs.declared.head.CellKind.TheVariants.{Primary, Chain, Quota, Volume}
use Rattle.metadata_cells.specs.Cell.{IsFreeCell, kind_number}
use Rattle.metadata_cells.specs.CellPage.{IsCellPage, IsUsedAt, cell_at, cell_of, is_free_in}

number_one : (at : ℕ) (bytes : List ℕ) → number_at 1 at bytes ≡ slice_index bytes at
unfolding number_at
number_one at bytes = let e : at + 0 ≡ at = omega arith in omega (arith, get_or-drop at bytes 0 0, ap (slice_index bytes) e)

pub kind_there : (page : List ℕ) (c : ℕ) → number_at 1 15 (cell_of page c) ≡ slice_index page (31 + 292 * c)
kind_there page c =
    let e : 16 + 292 * c + 15 ≡ 31 + 292 * c = omega arith in
    number_one 15 (cell_of page c) ∙ get_or-take 292 (drop (16 + 292 * c) page) 15 0 (omega arith) ∙ get_or-drop (16 + 292 * c) page 15 0 ∙ ap (slice_index page) e

not_free : (k : CellKind) → ¬ kind_number k ≡ 0
not_free Primary is = omega (arith, is)
not_free Chain is = omega (arith, is)
not_free Quota is = omega (arith, is)
not_free Volume is = omega (arith, is)

pub free_kind : (page : List ℕ) (c : ℕ) → IsCellPage page → c < 28 → is_free_in page c ≡ true → IsFreeCell (cell_of page c)
free_kind page c good below free =
    ⊎_elim (λ is. is)
    (λ used. absurd (not_free used.0.head.kind (sym used.1.head.kind ∙ kind_there page c ∙ eqb-true (slice_index page (31 + 292 * c)) 0 free)))
    (good.cells c below)

pub used_not_zeros : (pages : Pages) (at : CellAt) → IsUsedAt pages at → ¬ cell_at pages at ≡ Some (zero_bytes 292)
used_not_zeros pages at used zeros =
    let there = subst (λ o. IsSomeAnd o (λ bytes. ¬ number_at 1 15 bytes ≡ 0)) zeros used in
    there (number_one 15 (zero_bytes 292) ∙ slice_index-zero_bytes 292 15 (omega arith))

-- a cell of zeros has the kind of a free one
pub zeros_kind : (page : List ℕ) (c : ℕ) → IsFreeCell (cell_of page c) → is_free_in page c ≡ true
zeros_kind page c free =
    eq-eqb (slice_index page (31 + 292 * c)) 0 (sym (kind_there page c) ∙ ap (number_at 1 15) free ∙ number_one 15 (zero_bytes 292) ∙ slice_index-zero_bytes 292 15 (omega arith))
