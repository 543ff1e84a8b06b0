-- Pages and tables after a page was taken, and a cell where it was wanted.
use Rattle.std.proofs.Common.{◌≡◌, ℕ, ◌≤◌, Bool, true, false, cond, nat_eq, List, [], ◌∷◌, ◌++◌, get_or, Contains, refl, sym, subst, zero, suc, arith, ⊎_elim, ◌⊎◌, inl, inr}
use Rattle.std.proofs.lemmas.Bool.{eqb-true}
use Rattle.file_chains.specs.domain_base.declared.place.Home.{Home}
use Rattle.file_chains.specs.page_store.Pages.{Pages}
use Rattle.file_chains.specs.metadata_cells.Chain.{PlacedCell}
use Rattle.file_chains.specs.extent_maps.declared.run.PagePlace.{PagePlace}
use Rattle.file_chains.specs.free_cells.Cells.{Cells, table_of}
use Rattle.file_chains.specs.free_space.VolumeSpace.{with_page}
use Rattle.file_chains.specs.free_space.Spaces.{CanTake, IsHeld, Spaces, change_volume}
use Rattle.file_chains.proofs.OfFreeSpace.Places.{free_can, held_taken}
use Rattle.file_chains.specs.Allocated.{AddsTablePage, AreAllocated}
use Rattle.file_chains.specs.FileChanges.{AreOnTables}
use Rattle.file_chains.specs.MapChanges.{TakesIfFull, TakesOne}
use Rattle.file_chains.proofs.Allocated.{not_in_table}
use Rattle.file_chains.proofs.Spaces.{can_before, held_still, not_held}
use Rattle.fileset_files.specs.Together.{IsHeldApart}

-- ---- a page that is taken

pub allocated_taken : (space : Spaces) (cells : Cells) (pages : Pages) (home : Home) → AreAllocated space cells pages → AreAllocated (change_volume (with_page home.page) space home.vol) cells pages
allocated_taken space cells pages home allocated = record {
  belong = allocated.belong;
  held = λ vol place from within. held_still space home.vol home.page vol (get_or (table_of cells vol) place 0) (allocated.held vol place from within);
  table = λ vol p from can. allocated.table vol p from (can_before space home.vol home.page vol p can);
  opened = λ vol p from can. allocated.opened vol p from (can_before space home.vol home.page vol p can);
  first = λ vol p from can. allocated.first vol p from (can_before space home.vol home.page vol p can);
  ends = allocated.ends;
}

pub apart_taken : (space : Spaces) (cells : Cells) (home h : Home) → IsHeldApart space cells h → IsHeldApart (change_volume (with_page home.page) space home.vol) cells h
apart_taken space cells home h is = record { held = held_still space home.vol home.page h.vol h.page is.held; off_table = is.off_table }

-- the page itself
pub apart_now : (space : Spaces) (cells : Cells) (pages : Pages) (home : Home) → 1 ≤ home.vol → AreAllocated space cells pages → CanTake space home.vol home.page → IsHeldApart (change_volume (with_page home.page) space home.vol) cells home
apart_now space cells pages home low allocated can = record {
  held = held_taken space home.vol home.page (free_can space home.vol home.page can);
  off_table = not_in_table space cells pages home.vol home.page low allocated can;
}

-- ---- a table with one page more

in_front : (xs : List ℕ) (more p : ℕ) → Contains xs p → Contains (xs ++ more ∷ []) p
in_front [] more p inside = absurd (omega (arith, inside.1))
in_front (x ∷ xs) more p (zero, within, is) = (0, omega arith, is)
in_front (x ∷ xs) more p (suc k, within, is) = let later = in_front xs more p (k, omega (arith, within), is) in (suc later.0, omega (arith, later.1), later.2)

front_or_last : (xs : List ℕ) (more p : ℕ) → Contains (xs ++ more ∷ []) p → Contains xs p ⊎ (more ≡ p)
front_or_last [] more p (zero, within, is) = inr is
front_or_last [] more p (suc k, within, is) = absurd (omega (arith, within))
front_or_last (x ∷ xs) more p (zero, within, is) = inl (0, omega arith, is)
front_or_last (x ∷ xs) more p (suc k, within, is) =
    ⊎_elim (λ front. inl (suc front.0, omega (arith, front.1), front.2)) (λ last. inr last) (front_or_last xs more p (k, omega (arith, within), is))

module _ (space space_now : Spaces) (cells between : Cells) (old new : Pages) (home : Home) (adds : AddsTablePage home space space_now cells between old new) where
  table_more : (vol p : ℕ) → Contains (table_of cells vol) p → Contains (table_of between vol) p
  table_more vol p on = subst (λ (t : List ℕ). Contains t p) (sym (adds.joins.tables vol)) (by_volume (nat_eq vol home.vol))
    where
      by_volume : (b : Bool) → Contains (cond b (table_of cells vol ++ home.page ∷ []) (table_of cells vol)) p
      by_volume true = in_front (table_of cells vol) home.page p on
      by_volume false = on

  apart_more : (h : Home) → IsHeldApart space cells h → IsHeldApart space_now between h
  apart_more h is = record {
    held = subst (λ (s : Spaces). IsHeld s h.vol h.page) (sym adds.used) (held_still space home.vol home.page h.vol h.page is.held);
    off_table = λ on. by_volume (nat_eq h.vol home.vol) refl (subst (λ (t : List ℕ). Contains t h.page) (adds.joins.tables h.vol) on);
  }
    where
      by_volume : (b : Bool) → nat_eq h.vol home.vol ≡ b → Contains (cond b (table_of cells h.vol ++ home.page ∷ []) (table_of cells h.vol)) h.page → ⊥
      by_volume false other on = is.off_table on
      by_volume true same on =
          ⊎_elim (λ front. is.off_table front)
          (λ last. not_held space home.vol home.page adds.free
          (subst (λ (p : ℕ). IsHeld space home.vol p) (sym last) (subst (λ (v : ℕ). IsHeld space v h.page) (eqb-true h.vol home.vol same) is.held)))
          (front_or_last (table_of cells h.vol) home.page h.page on)

module _ (prefer : ℕ) (space space_now : Spaces) (cells cells_now : Cells) (old : Pages) (one : TakesOne prefer space space_now cells cells_now old) where
  pub one_tables : (vol p : ℕ) → Contains (table_of cells vol) p → Contains (table_of cells_now vol) p
  one_tables vol p on = subst (λ (t : List ℕ). Contains t p) (sym (one.takes.taken.tables vol)) (⊎_elim
      (λ had. subst (λ (c : Cells). Contains (table_of c vol) p) (sym had.same_cells) on)
      (λ none. table_more space space_now cells one.takes.between old one.between none.home none.adds vol p on)
      one.takes.before)

  pub one_apart : (h : Home) → IsHeldApart space cells h → IsHeldApart space_now cells_now h
  one_apart h is =
      let mid : IsHeldApart space_now one.takes.between h = ⊎_elim
      (λ had. subst (λ (s : Spaces). IsHeldApart s one.takes.between h) (sym had.same_space) (subst (λ (c : Cells). IsHeldApart space c h) (sym had.same_cells) is))
      (λ none. apart_more space space_now cells one.takes.between old one.between none.home none.adds h is)
      one.takes.before in
      record { held = mid.held; off_table = λ on. mid.off_table (subst (λ (t : List ℕ). Contains t h.page) (one.takes.taken.tables h.vol) on) }

module _ (page : ℕ) (place : PagePlace) (chain : List PlacedCell) (prefer : ℕ) (space space_now : Spaces) (cells cells_now : Cells) (old : Pages) (taken : TakesIfFull page place chain prefer space space_now cells cells_now old) where
  -- a table's pages stay on it
  pub tables_grow : (vol p : ℕ) → Contains (table_of cells vol) p → Contains (table_of cells_now vol) p
  tables_grow vol p on = ⊎_elim
      (λ same. subst (λ (c : Cells). Contains (table_of c vol) p) (sym same.1) on)
      (λ one. one_tables prefer space space_now cells cells_now old one.1 vol p on)
      taken

  -- and a page that is held and on none is still held and on none
  pub apart_grows : (h : Home) → IsHeldApart space cells h → IsHeldApart space_now cells_now h
  apart_grows h is = ⊎_elim
      (λ same. subst (λ (s : Spaces). IsHeldApart s cells_now h) (sym same.0) (subst (λ (c : Cells). IsHeldApart space c h) (sym same.1) is))
      (λ one. one_apart prefer space space_now cells cells_now old one.1 h is)
      taken

pub on_grown : (cells cells_now : Cells) → ((vol p : ℕ) → Contains (table_of cells vol) p → Contains (table_of cells_now vol) p) → (cs : List PlacedCell) → AreOnTables cells cs → AreOnTables cells_now cs
on_grown cells cells_now grow [] on = tt
on_grown cells cells_now grow (c ∷ cs) on = (grow c.at.vol c.at.page on.0, on_grown cells cells_now grow cs on.1)
