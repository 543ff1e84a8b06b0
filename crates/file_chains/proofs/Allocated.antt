-- What stays of free cells, free space and pages that belong together.
use Rattle.std.proofs.Common.{◌≡◌, ◌∙◌, ⊎_elim, ℕ, zero, suc, ◌<◌, ◌≤◌, not, Bool, true, false, cond, nat_eq, nat_lt, Option, Some, None, IfNone, IsSome, IsSomeAnd, List, [], ◌∷◌, ◌++◌, length, slice_index, get_or, Contains, refl, sym, ap, subst, arith, length-append}
use Rattle.std.proofs.lemmas.Bool.{and_from, and_parts, both_ways, cases_lt, eqb-true, eq-eqb, or_cases, or_right}
use Rattle.std.proofs.lemmas.List.{get_or_append_left}
use Rattle.std.proofs.Math.Seq.{get_or-append_seam}
use Rattle.free_cells.specs.domain_base.declared.place.CellAt.{CellAt}
use Rattle.free_cells.specs.domain_base.declared.place.Home.{Home}
use Rattle.free_cells.specs.page_store.Pages.{Pages, same_home}
use Rattle.free_cells.specs.metadata_cells.CellPage.{IsEmptyPage, next_of}
use Rattle.free_cells.proofs.OfMetadataCells.Changed.{homes_same, same_itself}
use Rattle.free_cells.specs.Cells.{Cells, JoinsEmptyPage, can_take, is_closed, is_free, is_on, table_of}
use Rattle.free_cells.specs.Belong.{Belong, LeadsTo, home_at, last_home}
use Rattle.free_cells.proofs.Belongs.{some_and}
use Rattle.free_cells.specs.free_space.VolumeSpace.{with_page}
use Rattle.free_cells.specs.free_space.Spaces.{CanTake, IsHeld, Spaces, change_volume, missed}
use Rattle.free_cells.proofs.OfFreeSpace.Places.{free_can, held_taken}
use Rattle.file_chains.specs.Allocated.{AreAllocated}
use Rattle.file_chains.proofs.Spaces.{can_before, held_still, not_held}

-- what stands within a list is the same whatever stands for one past its end
pub there_is : {X : Type 0} (xs : List X) (k : ℕ) (a b : X) → k < length xs → get_or xs k a ≡ get_or xs k b
there_is [] k a b within = absurd (omega (arith, within))
there_is (x ∷ xs) zero a b within = refl
there_is (x ∷ xs) (suc k) a b within = there_is xs k a b (omega (arith, within))

-- a page that can be taken stands in no table
pub not_in_table : (space : Spaces) (cells : Cells) (pages : Pages) (vol p : ℕ) → 1 ≤ vol → AreAllocated space cells pages → CanTake space vol p → ¬ Contains (table_of cells vol) p
not_in_table space cells pages vol p some allocated can there =
    not_held space vol p can (subst (IsHeld space vol) (there_is (table_of cells vol) there.0 0 p there.1 ∙ there.2) (allocated.held vol there.0 some there.1))

pub allocated_missed : (space : Spaces) (cells : Cells) (pages : Pages) → AreAllocated space cells pages → AreAllocated (missed space) cells pages
allocated_missed space cells pages allocated = record {
  belong = allocated.belong;
  held = allocated.held;
  table = allocated.table;
  opened = allocated.opened;
  first = allocated.first;
  ends = allocated.ends;
}

module _ (space : Spaces) (cells new_cells : Cells) (pages new_pages : Pages) (home : Home) (some : 1 ≤ home.vol) (allocated : AreAllocated space cells pages) (can : CanTake space home.vol home.page)
    (joins : JoinsEmptyPage home cells new_cells) (page : IsSomeAnd (new_pages home) (IsEmptyPage (length (table_of cells home.vol))))
    (elsewhere : (h : Home) → same_home h home ≡ false → same_home h (last_home cells home.vol) ≡ false → new_pages h ≡ pages h) (belong : Belong new_cells new_pages) where
  abbrev now : Spaces
  now = change_volume (with_page home.page) space home.vol

  -- a volume's table is as it was, or has the page after it
  table_other : (vol : ℕ) → nat_eq vol home.vol ≡ false → table_of new_cells vol ≡ table_of cells vol
  table_other vol other = joins.tables vol ∙ ap (λ (b : Bool). cond b (table_of cells vol ++ home.page ∷ []) (table_of cells vol)) other

  table_same : (vol : ℕ) → nat_eq vol home.vol ≡ true → table_of new_cells vol ≡ table_of cells vol ++ home.page ∷ []
  table_same vol same = joins.tables vol ∙ ap (λ (b : Bool). cond b (table_of cells vol ++ home.page ∷ []) (table_of cells vol)) same

  -- the page at a place is one of before, or the new one
  held_now : (vol place : ℕ) → 1 ≤ vol → place < length (table_of new_cells vol) → IsHeld now vol (slice_index (table_of new_cells vol) place)
  held_now vol place from within = by_volume (nat_eq vol home.vol) refl
    where
      longer : (table : List ℕ) → ((k : ℕ) → k < length table → IsHeld now vol (slice_index table k)) → IsHeld now vol home.page → place < length (table ++ home.page ∷ []) → IsHeld now vol (slice_index (table ++ home.page ∷ []) place)
      longer table old new below = ⊎_elim
          (λ less. subst (IsHeld now vol) (sym (get_or_append_left table (home.page ∷ []) 0 place less)) (old place less))
          (λ past. let e : place ≡ length table = omega (arith, past, below, length-append table (home.page ∷ [])) in
          subst (IsHeld now vol) (sym (ap (slice_index (table ++ home.page ∷ [])) e ∙ get_or-append_seam table home.page [] 0)) new)
          (cases_lt place (length table))

      by_volume : (b : Bool) → nat_eq vol home.vol ≡ b → IsHeld now vol (slice_index (table_of new_cells vol) place)
      by_volume true same =
          let e = table_same vol same in
          subst (λ (t : List ℕ). IsHeld now vol (slice_index t place)) (sym e)
          (longer (table_of cells vol) (λ k less. held_still space home.vol home.page vol (slice_index (table_of cells vol) k) (allocated.held vol k from less))
          (subst (λ (v : ℕ). IsHeld now v home.page) (sym (eqb-true vol home.vol same)) (held_taken space home.vol home.page (free_can space home.vol home.page can)))
          (subst (λ (t : List ℕ). place < length t) e within))
      by_volume false other =
          let e = table_other vol other in
          subst (λ (t : List ℕ). IsHeld now vol (slice_index t place)) (sym e)
          (held_still space home.vol home.page vol (slice_index (table_of cells vol) place) (allocated.held vol place from (subst (λ (t : List ℕ). place < length t) e within)))

  has_table : (vol : ℕ) → 0 < length (table_of cells vol) → 0 < length (table_of new_cells vol)
  has_table vol more = by_volume (nat_eq vol home.vol) refl
    where
      by_volume : (b : Bool) → nat_eq vol home.vol ≡ b → 0 < length (table_of new_cells vol)
      by_volume true same = omega (arith, ap length (table_same vol same), length-append (table_of cells vol) (home.page ∷ []))
      by_volume false other = omega (arith, ap length (table_other vol other), more)

  ends_now : (vol : ℕ) → LeadsTo new_cells vol new_pages 0
  ends_now vol place last = by_volume (nat_eq vol home.vol) refl
    where
      by_volume : (b : Bool) → nat_eq vol home.vol ≡ b → IsSomeAnd (new_pages (home_at new_cells vol place)) (λ page. next_of page ≡ 0)
      by_volume true same =
          let e = table_same vol same in
          let at : place ≡ length (table_of cells vol) = omega (arith, last, ap length e, length-append (table_of cells vol) (home.page ∷ [])) in
          let number : slice_index (table_of new_cells vol) place ≡ home.page = ap (λ t. slice_index t place) e ∙ ap (slice_index (table_of cells vol ++ home.page ∷ [])) at ∙ get_or-append_seam (table_of cells vol) home.page [] 0 in
          let here : home_at new_cells vol place ≡ home = (λ i. record { vol = eqb-true vol home.vol same i; page = number i }) in
          subst (λ (h : Home). IsSomeAnd (new_pages h) (λ page. next_of page ≡ 0)) (sym here) (some_and (new_pages home) (λ page empty. empty.last) page)
      by_volume false other =
          let e = table_other vol other in
          let number : slice_index (table_of new_cells vol) place ≡ slice_index (table_of cells vol) place = ap (λ t. slice_index t place) e in
          let here : home_at new_cells vol place ≡ home_at cells vol place = (λ i. record { vol = vol; page = number i }) in
          let vols : (h : Home) → h.vol ≡ home.vol → same_home (home_at cells vol place) h ≡ false
          = λ h of. apart_volumes (home_at cells vol place) h (λ same. both_ways (nat_eq vol home.vol) other (eq-eqb vol home.vol (same ∙ of))) in
          subst (λ o. IsSomeAnd o (λ page. next_of page ≡ 0)) (sym (ap new_pages here ∙ elsewhere (home_at cells vol place) (vols home refl) (vols (last_home cells home.vol) refl)))
          (allocated.ends vol place (last ∙ ap length e))
        where
          apart_volumes : (a b : Home) → ¬ a.vol ≡ b.vol → same_home a b ≡ false
          apart_volumes a b other = by_same (same_home a b) refl
            where
              by_same : (t : Bool) → same_home a b ≡ t → same_home a b ≡ false
              by_same true is = absurd (other (ap (λ (h : Home). h.vol) (homes_same a b is)))
              by_same false is = is

  pub allocated_grown : AreAllocated now new_cells new_pages
  allocated_grown = record {
    belong = belong;
    held = held_now;
    table = λ vol p from can_now. has_table vol (allocated.table vol p from (can_before space home.vol home.page vol p can_now));
    opened = λ vol p from can_now. joins.marks vol ∙ allocated.opened vol p from (can_before space home.vol home.page vol p can_now);
    first = λ vol p from can_now. allocated.first vol p from (can_before space home.vol home.page vol p can_now);
    ends = ends_now;
  }

pub same_allocated : {space space_now : Spaces} {cells cells_now : Cells} {pages pages_now : Pages} → space_now ≡ space → cells_now ≡ cells → pages_now ≡ pages → AreAllocated space cells pages → AreAllocated space_now cells_now pages_now
same_allocated {space = space} {space_now = space_now} {cells = cells} {cells_now = cells_now} {pages = pages} space_is cells_is pages_is allocated =
    subst (λ p. AreAllocated space_now cells_now p) (sym pages_is)
    (subst (λ c. AreAllocated space_now c pages) (sym cells_is) (subst (λ s. AreAllocated s cells pages) (sym space_is) allocated))

-- ---- a cell of the page that was added

module _ (cells between : Cells) (home : Home) (joins : JoinsEmptyPage home cells between) (opened : is_closed cells home.vol ≡ false) where
  first_cell : CellAt
  first_cell = record { vol = home.vol; page = home.page; cell = 0 }

  first_can : can_take between first_cell ≡ true
  unfolding first_cell
  first_can = and_from (is_free between first_cell) (not (is_closed between home.vol))
      (joins.cells first_cell ∙ or_right (is_free cells first_cell) (is_on home first_cell) (and_from (same_home home home) (nat_lt 0 28) (same_itself home) refl))
      (ap not (joins.marks home.vol ∙ opened))

  pub some_there : (o : Option CellAt) → IfNone o ((at : CellAt) → can_take between at ≡ false) → IsSome o
  some_there None none = absurd (both_ways (can_take between first_cell) (none first_cell) first_can)
  some_there (Some at) none = refl

  pub is_there : ((q : CellAt) → can_take cells q ≡ false) → (at : CellAt) → can_take between at ≡ true → is_on home at ≡ true
  is_there none at can =
      let both = and_parts (is_free between at) (not (is_closed between at.vol)) can in
      ⊎_elim
      (λ was. absurd (both_ways (can_take cells at) (none at) (and_from (is_free cells at) (not (is_closed cells at.vol)) was (ap not (sym (joins.marks at.vol)) ∙ both.1))))
      (λ on. on)
      (or_cases (is_free cells at) (is_on home at) (sym (joins.cells at) ∙ both.0))
