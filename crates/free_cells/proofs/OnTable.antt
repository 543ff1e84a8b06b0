-- The free cells of a table are no more than its cells.
use Rattle.std.proofs.Common.{◌≡◌, ◌∙◌, ℕ, zero, suc, ◌+◌, ◌*◌, ◌<◌, ◌≤◌, true, false, List, [], ◌∷◌, ◌++◌, length, get_or, map, refl, sym, ap, arith, length-append, ⊎_elim}
use Rattle.std.proofs.lemmas.Bool.{or_left, or_right, or_cases}
use Rattle.std.proofs.lemmas.List.{get_or-map}
use Rattle.std.proofs.lemmas.List.Folds.{list_any-append}
use Rattle.std.proofs.lemmas.List.FromFn.{get_or-range_with_len}
use Rattle.std.specs.List.{IsDistinct, range_with_len}
use Rattle.free_cells.specs.declared.volume.FreeCell.{FreeCell}
use Rattle.free_cells.specs.VolumeTable.{IsOn, same_cell, is_among}
use Rattle.free_cells.proofs.Among.{among_push, apart_push, cell_itself, cells_same, no_longer}

abbrev cells_of_page : ℕ → List FreeCell
cells_of_page page = map (λ (c : ℕ). record { page = page; cell = c }) (range_with_len 0 28)

cells_on : List ℕ → List FreeCell
cells_on [] = []
cells_on (page ∷ table) = cells_of_page page ++ cells_on table

how_many : (table : List ℕ) → length (cells_on table) ≡ 28 * length table
unfolding cells_on
how_many [] = refl
how_many (page ∷ table) =
    let one : length (cells_of_page page) ≡ 28 = refl in
    omega (arith, length-append (cells_of_page page) (cells_on table), how_many table, one)

at_place : (f : FreeCell) (fs : List FreeCell) (i : ℕ) (d : FreeCell) → i < length fs → get_or fs i d ≡ f → is_among fs f ≡ true
at_place f [] i d within is = absurd (omega (arith, within))
at_place f (g ∷ fs) zero d within is = or_left (same_cell f g) (is_among fs f) (ap (same_cell f) is ∙ cell_itself f)
at_place f (g ∷ fs) (suc i) d within is = or_right (same_cell f g) (is_among fs f) (at_place f fs i d (omega (arith, within)) is)

on_page : (f : FreeCell) → f.cell < 28 → is_among (cells_of_page f.page) f ≡ true
on_page f below =
    at_place f (cells_of_page f.page) f.cell f below
    (get_or-map (λ (c : ℕ). record f { cell = c }) (range_with_len 0 28) f.cell 0 f below
    ∙ ap (λ (c : ℕ). record f { cell = c }) (get_or-range_with_len 0 28 f.cell 0 below ∙ (let e : 0 + f.cell ≡ f.cell = omega arith in e)))

on_table : (f : FreeCell) (table : List ℕ) (k : ℕ) → k < length table → get_or table k f.page ≡ f.page → f.cell < 28 → is_among (cells_on table) f ≡ true
unfolding cells_on
on_table f [] k within is below = absurd (omega (arith, within))
on_table f (page ∷ table) zero within is below =
    list_any-append (same_cell f) (cells_of_page page) (cells_on table)
    ∙ or_left (is_among (cells_of_page page) f) (is_among (cells_on table) f) (ap (λ p. is_among (cells_of_page p) f) is ∙ on_page f below)
on_table f (page ∷ table) (suc k) within is below =
    list_any-append (same_cell f) (cells_of_page page) (cells_on table)
    ∙ or_right (is_among (cells_of_page page) f) (is_among (cells_on table) f) (on_table f table k (omega (arith, within)) is below)

module _ (table : List ℕ) (free : List FreeCell) (apart : IsDistinct same_cell free) (on : (f : FreeCell) → is_among free f ≡ true → IsOn table f) where
  pub no_more : length free ≤ 28 * length table
  no_more = omega (arith, how_many table, no_longer free (cells_on table) apart (λ f there. let is = on f there in on_table f table is.0.0 is.0.1 is.0.2 is.1))

  -- there is room for one that is in use
  pub room_left : (f : FreeCell) → IsOn table f → is_among free f ≡ false → length free < 28 * length table
  room_left f placed used =
      let inside : (g : FreeCell) → is_among (free ++ f ∷ []) g ≡ true → is_among (cells_on table) g ≡ true
      = λ g there. ⊎_elim (λ old. let is = on g old in on_table g table is.0.0 is.0.1 is.0.2 is.1)
      (λ same. ap (is_among (cells_on table)) (cells_same g f same) ∙ on_table f table placed.0.0 placed.0.1 placed.0.2 placed.1)
      (or_cases (is_among free g) (same_cell g f) (sym (among_push free f g) ∙ there)) in
      omega (arith, how_many table, length-append free (f ∷ []), no_longer (free ++ f ∷ []) (cells_on table) (apart_push free f apart used) inside)
