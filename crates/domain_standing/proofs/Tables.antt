-- The tables of cells of a domain without a fault belong together with its free space.
use Rattle.std.proofs.Common.{◌≡◌, ◌∙◌, ◌⊎◌, inl, inr, ℕ, zero, suc, ◌+◌, ◌<◌, ◌≤◌, nat_lt, ◌&&◌, Bool, true, false, cond, List, [], ◌∷◌, length, Option, Some, None, IsSomeAnd, Contains, slice_get, slice_index, refl, sym, ap, subst, arith, ⊎_elim}
use Rattle.std.proofs.lemmas.Bool.{cases_Bool, lt-ltb}
use Rattle.std.specs.Prelude.{slice_index_or}
use Rattle.std.specs.Option.{option_and_then}
use Rattle.fileset_shapes.specs.domain_base.Page.{zero_bytes}
use Rattle.fileset_shapes.specs.domain_base.declared.place.CellAt.{CellAt}
use Rattle.fileset_shapes.specs.domain_base.declared.place.Home.{Home}
use Rattle.fileset_shapes.specs.page_store.Pages.{Pages}
use Rattle.fileset_shapes.specs.log_ring.Homes.{IsMember}
use Rattle.fileset_shapes.specs.metadata_cells.Cell.{IsFreeCell}
use Rattle.fileset_shapes.specs.metadata_cells.CellPage.{IsCellPage, cell_at, cell_of, home_of, is_cell_page, is_free_in, next_of}
use Rattle.fileset_shapes.proofs.OfMetadataCells.CellKinds.{free_kind}
use Rattle.fileset_shapes.specs.free_cells.Belong.{Belong, IsPageOf, LeadsTo}
use Rattle.fileset_shapes.specs.free_cells.Cells.{Cells, is_closed, is_free, table_of}
use Rattle.fileset_shapes.specs.free_space.Spaces.{CanTake, IsHeld, Spaces}
use Rattle.fileset_shapes.specs.file_chains.Allocated.{AreAllocated}
use Rattle.fileset_shapes.specs.domain_layout.Faults.{HasNoTablesFault}
use Rattle.fileset_shapes.specs.domain_layout.Layout.{IsLayout, IsPageAt, Layout}
use Rattle.fileset_shapes.specs.domain_layout.Owners.{IsOwned, frame_of}
use Rattle.fileset_shapes.specs.domain_layout.Owners.Owner.{of_cells, of_volume}
use Rattle.fileset_shapes.proofs.OfDomainLayout.OnePage.{HasOne, one_of}
use Rattle.fileset_shapes.proofs.OfDomainLayout.OwnedOnce.{cell_place}
use Rattle.fileset_shapes.proofs.OfDomainLayout.Reached.{member_or_none}
use Rattle.fileset_shapes.proofs.OfFilesetsReading.Ways.{within_of}
use Rattle.domain_standing.specs.Space.{AreCellsOf, IsFreeAt, IsOpen, IsSpaceOf}
use Rattle.domain_standing.proofs.Held.{held, takeable}

-- ---- lists

some_and : {X : Type 0} (P Q : X → Type 0) → ((x : X) → P x → Q x) → (o : Option X) → IsSomeAnd o P → IsSomeAnd o Q
some_and P Q by None is = absurd is
some_and P Q by (Some x) is = by x is

any_default : (xs : List ℕ) (k d : ℕ) → k < length xs → slice_index_or xs k d ≡ slice_index xs k
any_default [] k d within = absurd (omega (arith, within))
any_default (x ∷ xs) zero d within = refl
any_default (x ∷ xs) (suc k) d within = any_default xs k d (omega (arith, within))

past : (xs : List ℕ) (k d : ℕ) → length xs ≤ k → slice_index_or xs k d ≡ d
past [] k d far = refl
past (x ∷ xs) zero d far = absurd (omega (arith, far))
past (x ∷ xs) (suc k) d far = past xs k d (omega (arith, far))

index_in : (xs : List ℕ) (k : ℕ) → k < length xs → Contains xs (slice_index xs k)
index_in xs k within = (k, within, any_default xs k (slice_index xs k) within)

none_in : (xs : List ℕ) (k : ℕ) → xs ≡ [] → k < length xs → ⊥
none_in xs k none within = let e : length xs ≡ 0 = ap length none in omega (arith, e, within)

-- ---- tables

module _ (pages : Pages) (layout : Layout) (space : Spaces) (cells : Cells) (laid : IsLayout pages layout) (none : HasNoTablesFault pages (frame_of layout))
    (is : IsSpaceOf pages layout space) (are : AreCellsOf pages layout cells) where
  -- a volume with a table is a member
  pub of_member : (vol k : ℕ) → k < length (table_of cells vol) → IsMember layout.anchor vol
  of_member vol k within =
      ⊎_elim (λ member. member) (λ other. absurd (none_in (table_of cells vol) k (are.others vol other) within)) (member_or_none layout.anchor vol)

  page_at : (vol k : ℕ) → IsMember layout.anchor vol → k < length (table_of cells vol)
      → IsSomeAnd (pages (record { vol = vol; page = slice_index (table_of cells vol) k })) (IsPageAt (table_of cells vol) k)
  page_at vol k member within =
      subst (λ table. k < length table → IsSomeAnd (pages (record { vol = vol; page = slice_index table k })) (IsPageAt table k))
      (sym (are.tables vol member)) ((laid.cells vol member).each k) within

  run : (vol k : ℕ) → k < length (table_of cells vol) → IsSomeAnd (pages (record { vol = vol; page = slice_index (table_of cells vol) k })) (IsPageOf (table_of cells vol) k)
  run vol k within =
      some_and (IsPageAt (table_of cells vol) k) (IsPageOf (table_of cells vol) k)
      (λ page at. record { good = at.good; indexed = at.indexed; linked = λ more. at.linked ∙ any_default (table_of cells vol) (k + 1) 0 more })
      (pages (record { vol = vol; page = slice_index (table_of cells vol) k })) (page_at vol k (of_member vol k within) within)

  -- a page of a table is well formed
  good_page : (home : Home) → IsMember layout.anchor home.vol → Contains (layout.cells home.vol) home.page → IsSomeAnd (pages home) IsCellPage
  good_page home member (k, within, there) =
      let at : slice_index (layout.cells home.vol) k ≡ home.page = sym (any_default (layout.cells home.vol) k home.page within) ∙ there in
      subst (λ page. IsSomeAnd (pages (record { vol = home.vol; page = page })) IsCellPage) at
      (some_and (IsPageAt (layout.cells home.vol) k) IsCellPage (λ page is. is.good)
      (pages (record { vol = home.vol; page = slice_index (layout.cells home.vol) k })) ((laid.cells home.vol member).each k within))

  free_bytes : (page : List ℕ) (cell : ℕ) → IsCellPage page → cell < 28 → is_free_in page cell ≡ true
      → option_and_then (λ page. cond (is_cell_page page && nat_lt cell 28) (Some (cell_of page cell)) None) (Some page) ≡ Some (zero_bytes 292)
  free_bytes page cell good within free =
      let test : (is_cell_page page && nat_lt cell 28) ≡ true = (λ i. good.magic i && lt-ltb cell 28 within i) in
      ap (λ b. cond b (Some (cell_of page cell)) None) test ∙ ap Some (free_kind page cell good within free)

  zeros : (at : CellAt) → IsFreeAt pages layout at → cell_at pages at ≡ Some (zero_bytes 292)
  zeros at free = by_page (pages (home_of at)) (good_page (home_of at) free.member free.table) free.free
    where
      by_page : (o : Option (List ℕ)) → IsSomeAnd o IsCellPage → IsSomeAnd o (λ page. is_free_in page at.cell ≡ true)
          → option_and_then (λ page. cond (is_cell_page page && nat_lt at.cell 28) (Some (cell_of page at.cell)) None) o ≡ Some (zero_bytes 292)
      by_page None good kind = absurd good
      by_page (Some page) good kind = free_bytes page at.cell good free.within kind

  on_table : (at : CellAt) → IsFreeAt pages layout at → Contains (table_of cells at.vol) at.page
  on_table at free = subst (λ table. Contains table at.page) (sym (are.tables at.vol free.member)) free.table

  belong : Belong cells pages
  belong = record {
    run = run;
    on_table = λ at free. on_table at ((are.free at).0 free);
    zeros = λ at free. zeros at ((are.free at).0 free);
  }

  table_held : (vol k : ℕ) → 1 ≤ vol → k < length (table_of cells vol) → IsHeld space vol (slice_index (table_of cells vol) k)
  table_held vol k first within =
      let member = of_member vol k within in
      let among : Contains (layout.cells vol) (slice_index (table_of cells vol) k) = subst (λ table. Contains table (slice_index (table_of cells vol) k)) (are.tables vol member) (index_in (table_of cells vol) k within) in
      let place = cell_place pages layout laid none (record { vol = vol; page = slice_index (table_of cells vol) k }) member among in
      held pages layout space is (record { vol = vol; page = slice_index (table_of cells vol) k }) place.is.read.may.0 (λ unowned. unowned (of_cells, (member, among)))

  has_table : (vol page : ℕ) → 1 ≤ vol → CanTake space vol page → 0 < length (table_of cells vol)
  has_table vol page first can =
      let take = takeable pages layout space is vol page first can in
      subst (λ table. 0 < length table) (sym (are.tables vol take.member)) (within_of (layout.cells vol) 0 _ (laid.cells vol take.member).begins)

  not_closed : (vol page : ℕ) → 1 ≤ vol → CanTake space vol page → is_closed cells vol ≡ false
  not_closed vol page first can =
      let take = takeable pages layout space is vol page first can in
      ⊎_elim (λ closed. absurd ((are.closed vol take.member).0 closed take.opened)) (λ opened. opened) (cases_Bool (is_closed cells vol))

  not_first : (vol page : ℕ) → 1 ≤ vol → CanTake space vol page → ¬ page ≡ 0
  not_first vol page first can low =
      let take = takeable pages layout space is vol page first can in
      take.unowned (of_volume, (take.member, omega (arith, low)))

  ends : (vol : ℕ) → LeadsTo cells vol pages 0
  ends vol k last =
      some_and (IsPageAt (table_of cells vol) k) (λ page. next_of page ≡ 0) (λ page at. at.linked ∙ past (table_of cells vol) (k + 1) 0 (omega (arith, last)))
      (pages (record { vol = vol; page = slice_index (table_of cells vol) k })) (page_at vol k (of_member vol k (omega (arith, last))) (omega (arith, last)))

  pub allocated : AreAllocated space cells pages
  allocated = record { belong = belong; held = table_held; table = has_table; opened = not_closed; first = not_first; ends = ends }
