-- A volume's table that was read or changed in the list of them.
use Rattle.std.proofs.Common.{◌≡◌, ◌∙◌, ℕ, zero, suc, ◌+◌, ◌<◌, Bool, true, false, cond, ◌&&◌, ◌||◌, nat_eq, nat_lt, List, [], ◌∷◌, ◌++◌, length, get_or, set, Result, Ok, Err, OnOk, OnErr, refl, sym, ap, subst, arith, ⊎_elim}
use Rattle.std.proofs.lemmas.Bool.{eqb-true, eq-eqb, cases_Bool, both_ways}
use Rattle.std.proofs.lemmas.List.{get_or_read, get_or-set_same, get_or-set_other}
use Rattle.std.specs.List.{Contains}
use Rattle.metadata_cells.specs.domain_base.declared.place.CellAt.{CellAt}
use Rattle.metadata_cells.specs.domain_base.declared.place.Home.{Home}
use Rattle.metadata_cells.specs.CellPage.{is_free_in}
use Rattle.free_cells.specs.declared.volume.FreeCell.{FreeCell}
use Rattle.free_cells.specs.VolumeTable.{AreOn, VolumeIs, VolumeTable, is_among, is_free_there, no_table}
use Rattle.free_cells.specs.Cells.{Cells, Holds, is_closed, is_free, is_on, kept_of, table_of, volume_of, with_page_last}

pub map_ok : {A E : Type 0} {P Q : Type 0} → (P → Q) → (r : Result A E) → OnOk r P → OnOk r Q
map_ok f (Ok x) p = f p
map_ok f (Err e) p = tt

-- what both answers of a call give
pub by_result : {A E : Type 0} {P Q R : Type 0} → (P → R) → (Q → R) → (r : Result A E) → OnOk r P → OnErr r Q → R
by_result ok err (Ok x) p q = ok p
by_result ok err (Err e) p q = err q

-- what is read at a volume's place
pub volume_read : (cells : Cells) (i vol : ℕ) (v : VolumeTable) → i < length cells → i + 1 ≡ vol → v ≡ get_or cells i v → v ≡ volume_of cells vol
volume_read cells i vol v within next read =
    let e : suc i ≡ vol = omega (arith, next) in
    get_or_read cells i v within read no_table ∙ ap (volume_of cells) e

pub none_fresh : (v : VolumeTable) (number : ℕ) → AreOn v → ¬ Contains v.table number → (f : FreeCell) → f.page ≡ number → is_among v.free f ≡ false
none_fresh v number on fresh f is = ⊎_elim (λ there. absurd (fresh (subst (Contains v.table) is (on f there).0))) (λ none. none) (cases_Bool (is_among v.free f))

module _ (cells : Cells) (i vol : ℕ) (v : VolumeTable) (within : i < length cells) (next : i + 1 ≡ vol) where
  abbrev new : Cells
  new = set cells i v

  there : volume_of new vol ≡ v
  there = let e : vol ≡ suc i = omega (arith, next) in ap (volume_of new) e ∙ get_or-set_same cells i v no_table within

  elsewhere : (w : ℕ) → nat_eq w vol ≡ false → volume_of new w ≡ volume_of cells w
  elsewhere zero other = refl
  elsewhere (suc j) other = get_or-set_other cells i j v no_table (λ same. both_ways (nat_eq (suc j) vol) other (eq-eqb (suc j) vol (omega (arith, same, next))))

module _ (cells : Cells) (i : ℕ) (home : Home) (page : List ℕ) (v : VolumeTable) (within : i < length cells) (next : i + 1 ≡ home.vol)
    (is : VolumeIs (table_of cells home.vol ++ home.page ∷ []) (is_closed cells home.vol) (λ g. is_among (volume_of cells home.vol).free g || is_free_there home.page page g) (kept_of cells home.vol) v) where
  tables : (w : ℕ) → table_of (set cells i v) w ≡ with_page_last home cells w
  tables w = by_test (nat_eq w home.vol) refl
    where
      by_test : (b : Bool) → nat_eq w home.vol ≡ b → table_of (set cells i v) w ≡ with_page_last home cells w
      by_test true same =
          let e = eqb-true w home.vol same in
          ap (table_of (set cells i v)) e ∙ ap (λ (t : VolumeTable). t.table) (there cells i home.vol v within next) ∙ is.pages ∙ ap (λ w. table_of cells w ++ home.page ∷ []) (sym e)
          ∙ ap (λ b. cond b (table_of cells w ++ home.page ∷ []) (table_of cells w)) (sym same)
      by_test false other = ap (λ (t : VolumeTable). t.table) (elsewhere cells i home.vol v within next w other)
          ∙ ap (λ b. cond b (table_of cells w ++ home.page ∷ []) (table_of cells w)) (sym other)

  marks : (w : ℕ) → is_closed (set cells i v) w ≡ is_closed cells w
  marks w = by_test (nat_eq w home.vol) refl
    where
      by_test : (b : Bool) → nat_eq w home.vol ≡ b → is_closed (set cells i v) w ≡ is_closed cells w
      by_test true same =
          let e = eqb-true w home.vol same in
          ap (is_closed (set cells i v)) e ∙ ap (λ (t : VolumeTable). t.is_closed) (there cells i home.vol v within next) ∙ is.mark ∙ ap (is_closed cells) (sym e)
      by_test false other = ap (λ (t : VolumeTable). t.is_closed) (elsewhere cells i home.vol v within next w other)

  keeps : (w : ℕ) → kept_of (set cells i v) w ≡ kept_of cells w
  keeps w = by_test (nat_eq w home.vol) refl
    where
      by_test : (b : Bool) → nat_eq w home.vol ≡ b → kept_of (set cells i v) w ≡ kept_of cells w
      by_test true same =
          let e = eqb-true w home.vol same in
          ap (kept_of (set cells i v)) e ∙ ap (λ (t : VolumeTable). t.kept) (there cells i home.vol v within next) ∙ is.keeps ∙ ap (kept_of cells) (sym e)
      by_test false other = ap (λ (t : VolumeTable). t.kept) (elsewhere cells i home.vol v within next w other)

  abbrev joined : CellAt → Bool
  joined at = is_free cells at || (is_on home at && is_free_in page at.cell)

  abbrev place : CellAt → FreeCell
  place at = record { page = at.page; cell = at.cell }

  free : (at : CellAt) → is_free (set cells i v) at ≡ joined at
  free at = by_test (nat_eq at.vol home.vol) refl
    where
      regroup : (a p l k : Bool) → (a || (p && (l && k))) ≡ (a || (((true && p) && l) && k))
      regroup true p l k = refl
      regroup false true l k = refl
      regroup false false l k = refl

      alone : (a p l k : Bool) → a ≡ (a || (((false && p) && l) && k))
      alone true p l k = refl
      alone false p l k = refl

      by_test : (b : Bool) → nat_eq at.vol home.vol ≡ b → is_free (set cells i v) at ≡ joined at
      by_test true same =
          let e = eqb-true at.vol home.vol same in
          ap (λ w. is_among (volume_of (set cells i v) w).free (place at)) e ∙ ap (λ (t : VolumeTable). is_among t.free (place at)) (there cells i home.vol v within next) ∙ is.cells (place at)
          ∙ ap (λ w. is_among (volume_of cells w).free (place at) || is_free_there home.page page (place at)) (sym e)
          ∙ regroup (is_free cells at) (nat_eq at.page home.page) (nat_lt at.cell 28) (is_free_in page at.cell)
          ∙ ap (λ b. is_free cells at || (((b && nat_eq at.page home.page) && nat_lt at.cell 28) && is_free_in page at.cell)) (sym same)
      by_test false other =
          ap (λ (t : VolumeTable). is_among t.free (place at)) (elsewhere cells i home.vol v within next at.vol other)
          ∙ alone (is_free cells at) (nat_eq at.page home.page) (nat_lt at.cell 28) (is_free_in page at.cell)
          ∙ ap (λ b. is_free cells at || (((b && nat_eq at.page home.page) && nat_lt at.cell 28) && is_free_in page at.cell)) (sym other)

  pub page_joined : Holds (with_page_last home cells) (is_closed cells) joined (kept_of cells) (set cells i v)
  page_joined = record { tables = tables; marks = marks; cells = free; keeps = keeps }
