-- The cells in use after a call on a tag: those of the tag's chain that it changed, and those that stood before.
use Rattle.std.proofs.Common.{◌≡◌, ◌∙◌, ◌⊎◌, ◌&&◌, inl, inr, ℕ, zero, suc, ◌<◌, ◌≤◌, Bool, true, false, cond, nat_lt, List, [], ◌∷◌, ◌++◌, length, Option, Some, None, IfSome, IsSomeAnd, Contains, slice_index, refl, sym, ap, subst, arith, ⊎_elim}
use Rattle.std.proofs.lemmas.Bool.{and_parts, cases_Bool, eq-eqb, lt-ltb, ltb-true}
use Rattle.std.specs.List.{AllByRecursion}
use Rattle.std.specs.Option.{option_and_then}
use Rattle.std.specs.Prelude.{slice_index_or}
use Rattle.domain_standing.specs.domain_base.declared.place.CellAt.{CellAt}
use Rattle.domain_standing.specs.domain_base.declared.place.Home.{Home}
use Rattle.domain_standing.specs.domain_base.declared.place.Tag.{Tag}
use Rattle.domain_standing.specs.domain_base.declared.version.Version.{Version}
use Rattle.domain_standing.specs.page_store.Pages.{Pages, same_home}
use Rattle.domain_standing.specs.metadata_cells.declared.head.CellHead.{CellHead}
use Rattle.domain_standing.specs.metadata_cells.declared.head.CellKind.{CellKind}
use Rattle.domain_standing.specs.metadata_cells.declared.head.CellKind.TheVariants.{Chain, Primary, Quota, Volume}
use Rattle.domain_standing.specs.metadata_cells.Cell.{Cell}
use Rattle.domain_standing.specs.metadata_cells.CellPage.{IsCellPage, cell_at, cell_of, home_of, is_cell_page, is_free_in}
use Rattle.domain_standing.specs.metadata_cells.Chain.{Follow, PlacedCell, StandsAt, is_at, may_follow, places}
use Rattle.domain_standing.proofs.OfMetadataCells.CellKinds.{free_kind, used_not_zeros, zeros_kind}
use Rattle.domain_standing.proofs.OfMetadataCells.Changed.{homes_same}
use Rattle.domain_standing.proofs.OfMetadataCells.Unique.{one_stands}
use Rattle.domain_standing.specs.free_cells.Belong.{Belong, IsPageOf, home_at}
use Rattle.domain_standing.specs.free_cells.Cells.{Cells, is_free, table_of}
use Rattle.domain_standing.proofs.OfFreeCells.Belongs.{used_not_free}
use Rattle.domain_standing.specs.free_space.Spaces.{Spaces}
use Rattle.domain_standing.specs.file_chains.Allocated.{AreAllocated}
use Rattle.domain_standing.specs.file_chains.Changes.{IsInUse}
use Rattle.domain_standing.specs.file_chains.FileChanges.{AreOnTables}
use Rattle.domain_standing.specs.file_chains.Files.{AreFile, IsFile}
use Rattle.domain_standing.specs.file_chains.MapChanges.{IsHandedOut, TakesOne}
use Rattle.domain_standing.proofs.OfFileChains.Added.{handed_now, used_of}
use Rattle.domain_standing.proofs.OfFileChains.ChainChanges.{at_same, in_first, in_later, stand_file}
use Rattle.domain_standing.specs.fileset_files.Changes.{ChangesBeside, ChangesFirst, says_removed, with_first}
use Rattle.domain_standing.proofs.OfFilesetFiles.Grown.{allocated_taken}
use Rattle.domain_standing.proofs.OfReleaseList.Lists.{last_in}
use Rattle.domain_standing.proofs.OfReleaseList.Standings.{same_or_not}
use Rattle.domain_standing.specs.release_steps.Calls.{Drops, FilesetNow, Gives, Makes, Refuses, SetsFirst, StandsWell}
use Rattle.domain_standing.proofs.OfReleaseSteps.FirstWell.{are_file, tag_now as tag_set}
use Rattle.domain_standing.proofs.OfReleaseSteps.MakeWell.{tag_now as tag_made}
use Rattle.standing_laws.proofs.TablesTaken.{low_table}

-- ---- cells

pub all_in : {X : Type 0} (P : X → Type 0) (xs : List X) → AllByRecursion P xs → (x : X) → Contains xs x → P x
all_in P [] all x inside = absurd (omega (arith, inside.1))
all_in P (y ∷ ys) all x (zero, within, is) = subst P is all.0
all_in P (y ∷ ys) all x (suc k, within, is) = all_in P ys all.1 x (k, omega (arith, within), is)

pub in_or_out : (cs : List PlacedCell) (at : CellAt) → Contains (places cs) at ⊎ ¬ Contains (places cs) at
in_or_out [] at = inr (λ inside. omega (arith, inside.1))
in_or_out (c ∷ cs) at = ⊎_elim
    (λ same. inl (in_first at c cs same))
    (λ other. ⊎_elim (λ later. inl (in_later at c cs later)) (λ none. inr (out other none)) (in_or_out cs at))
    (same_or_not c.at at)
  where
    out : ¬ c.at ≡ at → ¬ Contains (places cs) at → ¬ Contains (places (c ∷ cs)) at
    out other none (zero, within, is) = other is
    out other none (suc k, within, is) = none (k, omega (arith, within), is)

pub placed : (cs : List PlacedCell) (at : CellAt) → Contains (places cs) at → (c : PlacedCell) × Contains cs c × (c.at ≡ at)
placed [] at inside = absurd (omega (arith, inside.1))
placed (c ∷ cs) at (zero, within, is) = (c, (0, omega arith, refl), is)
placed (c ∷ cs) at (suc k, within, is) =
    let later = placed cs at (k, omega (arith, within), is) in
    (later.0, (suc later.1.0, omega (arith, later.1.1), later.1.2), later.2)

-- a cell in use is one of the 28 of its page
pub below_28 : (pages : Pages) (at : CellAt) (cell : Cell) → StandsAt pages at cell → at.cell < 28
below_28 pages at cell stands = by_page (pages (home_of at)) stands.there
  where
    none_is_some : {Y : Type 0} → (y : Y) → None ≡ Some y → ⊥
    none_is_some y e = cc

    by_page : (o : Option (List ℕ)) → option_and_then (λ page. cond (is_cell_page page && nat_lt at.cell 28) (Some (cell_of page at.cell)) None) o ≡ Some stands.bytes → at.cell < 28
    by_page None is = absurd (none_is_some stands.bytes is)
    by_page (Some page) is = ⊎_elim
        (λ both. ltb-true at.cell 28 (and_parts (is_cell_page page) (nat_lt at.cell 28) both).1)
        (λ not_both. absurd (none_is_some stands.bytes (sym (ap (λ (b : Bool). cond b (Some (cell_of page at.cell)) None) not_both) ∙ is)))
        (cases_Bool (is_cell_page page && nat_lt at.cell 28))

-- ---- no cell of a file's chain is of the kind of a volume's first

primary_not : (k : CellKind) → k ≡ Primary → ¬ k ≡ Volume
primary_not k primary volume = let e : Primary ≡ Volume = sym primary ∙ volume in absurd (cc)

quota_neither : (Quota ≡ Primary) ⊎ (Quota ≡ Chain) → ⊥
quota_neither is = ⊎_elim (λ e. cc) (λ e. cc) is

volume_neither : (Volume ≡ Primary) ⊎ (Volume ≡ Chain) → ⊥
volume_neither is = ⊎_elim (λ e. cc) (λ e. cc) is

follower : (k next : CellKind) → (k ≡ Primary) ⊎ (k ≡ Chain) → may_follow k next ≡ true → next ≡ Chain
follower Primary Primary is may = let e : false ≡ true = may in absurd (cc)
follower Primary Chain is may = refl
follower Primary Quota is may = let e : false ≡ true = may in absurd (cc)
follower Primary Volume is may = let e : false ≡ true = may in absurd (cc)
follower Chain Primary is may = let e : false ≡ true = may in absurd (cc)
follower Chain Chain is may = refl
follower Chain Quota is may = let e : false ≡ true = may in absurd (cc)
follower Chain Volume is may = let e : false ≡ true = may in absurd (cc)
follower Quota next is may = absurd (quota_neither is)
follower Volume next is may = absurd (volume_neither is)

pub later_chain : (pages : Pages) (head : CellHead) (cs : List PlacedCell) → (head.kind ≡ Primary) ⊎ (head.kind ≡ Chain) → Follow pages head cs → AllByRecursion (λ (c : PlacedCell). c.cell.head.kind ≡ Chain) cs
later_chain pages head [] is follow = tt
later_chain pages head (c ∷ cs) is follow =
    let chain = follower head.kind c.cell.head.kind is follow.1 in
    (chain, later_chain pages c.cell.head cs (inr chain) follow.3)

none_of_volume : (pages : Pages) (first : PlacedCell) (rest : List PlacedCell) → AreFile pages first rest → (c : PlacedCell) → Contains (first ∷ rest) c → ¬ c.cell.head.kind ≡ Volume
none_of_volume pages first rest file c (zero, within, is) volume = primary_not first.cell.head.kind file.primary (ap (λ (x : PlacedCell). x.cell.head.kind) is ∙ volume)
none_of_volume pages first rest file c (suc k, within, is) volume =
    let chain = all_in (λ (x : PlacedCell). x.cell.head.kind ≡ Chain) rest (later_chain pages first.cell.head rest (inl file.primary) file.links.follow) c (k, omega (arith, within), is) in
    let e : Chain ≡ Volume = sym chain ∙ volume in absurd (cc)

-- ---- over a call

-- of the cells of a chain each stands then, and what is in use beside them stood before
pub record CellsGoOn (old new : FilesetNow) (after : List PlacedCell) : Type 0 where
  pub stand : (c : PlacedCell) → Contains after c → StandsAt new.domain.pages c.at c.cell
  pub handed : (at : CellAt) → IsHandedOut new.domain.cells at → IsHandedOut old.domain.cells at ⊎ Contains (places after) at
  pub others : (at : CellAt) (cell : Cell) → StandsAt old.domain.pages at cell → Contains (table_of old.domain.cells at.vol) at.page
      → StandsAt new.domain.pages at cell ⊎ (Contains (places after) at × ¬ cell.head.kind ≡ Volume)

same_handed : (cells cells_now : Cells) → cells_now ≡ cells → (at : CellAt) → IsHandedOut cells_now at → IsHandedOut cells at
same_handed cells cells_now same at is = subst (λ (c : Cells). IsHandedOut c at) same is

pub refused_cells : (old new : FilesetNow) → Refuses old new → CellsGoOn old new []
refused_cells old new s = record {
  stand = λ c inside. absurd (omega (arith, inside.1));
  handed = λ at is. inl (same_handed old.domain.cells new.domain.cells s.cells at is);
  others = λ at cell stands on. inl (subst (λ (ps : Pages). StandsAt ps at cell) (sym s.pages) stands);
}

module _ (number : ℕ) (version : Version) (tag : Tag) (old new : FilesetNow) (stood : StandsWell number old) where
  -- the tag's chain as it was
  chain_file : (cs : List PlacedCell) → old.chains tag ≡ Some cs → (at : CellAt) (cell : Cell) → StandsAt old.domain.pages at cell → Contains (places cs) at → ¬ cell.head.kind ≡ Volume
  chain_file [] is at cell stands inside volume = absurd (omega (arith, inside.1))
  chain_file (first ∷ rest) is at cell stands inside volume =
      let file = are_file number old.places old.domain.pages old.chains stood.together.files tag first rest is in
      let c = placed (first ∷ rest) at inside in
      let there = all_in (λ (c : PlacedCell). StandsAt old.domain.pages c.at c.cell) (first ∷ rest) (stand_file old.domain.pages first.at (first ∷ rest) (refl, file)) c.0 c.1 in
      none_of_volume old.domain.pages first rest file c.0 c.1
      (ap (λ (x : Cell). x.head.kind) (one_stands old.domain.pages at c.0.cell cell (subst (λ (a : CellAt). StandsAt old.domain.pages a c.0.cell) c.2 there) stands) ∙ volume)

  pub given_cells : (s : Gives number version tag old new) → CellsGoOn old new s.puts.change.change.changes.after
  given_cells s = record {
    stand = all_in (λ (c : PlacedCell). StandsAt new.domain.pages c.at c.cell) s.puts.change.change.changes.after (stand_file new.domain.pages s.puts.change.start s.puts.change.change.changes.after s.puts.change.change.changes.is_file);
    handed = s.puts.change.change.handed;
    others = λ at cell stands on. ⊎_elim
        (λ inside. inr (s.puts.change.change.kept at inside, chain_file s.chain s.puts.is at cell stands inside))
        (λ out. inl (s.puts.others at cell stands on out))
        (in_or_out s.chain at);
  }

  -- one cell that is changed
  one_cell : (at : CellAt) (cell : Cell) → StandsAt new.domain.pages at cell → (c : PlacedCell) → Contains (record { at = at; cell = cell } ∷ []) c → StandsAt new.domain.pages c.at c.cell
  one_cell at cell stands c inside = all_in (λ (c : PlacedCell). StandsAt new.domain.pages c.at c.cell) (record { at = at; cell = cell } ∷ []) (stands, tt) c inside

  one_others : (first : PlacedCell) (rest : List PlacedCell) → old.chains tag ≡ Some (first ∷ rest) → (changed : Cell) → ((at : CellAt) → is_at first.at at ≡ false → cell_at new.domain.pages at ≡ cell_at old.domain.pages at) → (at : CellAt) (cell : Cell) → StandsAt old.domain.pages at cell
      → StandsAt new.domain.pages at cell ⊎ (Contains (places (record { at = first.at; cell = changed } ∷ [])) at × ¬ cell.head.kind ≡ Volume)
  one_others first rest is changed leaves at cell stands = ⊎_elim
      (λ here. inr (in_first at (record { at = first.at; cell = changed }) [] (at_same first.at at here), chain_file (first ∷ rest) is at cell stands (in_first at first rest (at_same first.at at here))))
      (λ other. inl (record { bytes = stands.bytes; there = leaves at other ∙ stands.there; is = stands.is }))
      (cases_Bool (is_at first.at at))

  pub set_cells : (says : Cell → Cell) (s : SetsFirst number tag says old new) → CellsGoOn old new (record { at = s.first.at; cell = says s.first.cell } ∷ [])
  set_cells says s = record {
    stand = one_cell s.first.at (says s.first.cell) (are_file number old.places new.domain.pages _ s.together.files tag (record { at = s.first.at; cell = says s.first.cell }) s.rest (tag_set number tag old new stood says s)).links.stands;
    handed = λ at is. inl (same_handed old.domain.cells new.domain.cells s.cells at is);
    others = λ at cell stands on. one_others s.first s.rest s.is (says s.first.cell) (subst (λ o. ChangesFirst o old.domain.pages new.domain.pages) s.is s.beside).0 at cell stands;
  }

  pub dropped_cells : (s : Drops number tag old new) → CellsGoOn old new (record { at = s.first.at; cell = says_removed s.first.cell } ∷ [])
  dropped_cells s = record {
    stand = one_cell s.first.at (says_removed s.first.cell) (subst (λ o. IsSomeAnd o (λ cells. IsFile new.domain.pages s.at (with_first says_removed cells))) s.is s.removes.pending).1.links.stands;
    handed = λ at is. inl (same_handed old.domain.cells new.domain.cells s.cells at is);
    others = λ at cell stands on. one_others s.first s.rest s.is (says_removed s.first.cell) (subst (λ o. ChangesBeside old.places o old.domain.pages new.domain.pages) s.is s.beside).cells at cell stands;
  }

-- ---- a cell that is handed out is in use

-- a page of a table
module _ (pages : Pages) (cells : Cells) (belong : Belong cells pages) where
  table_page : (at : CellAt) → Contains (table_of cells at.vol) at.page → IsSomeAnd (pages (home_of at)) IsCellPage
  table_page at (k, within, is) =
      let page : slice_index (table_of cells at.vol) k ≡ at.page = there (table_of cells at.vol) k within is in
      subst (λ (p : ℕ). IsSomeAnd (pages (record { vol = at.vol; page = p })) IsCellPage) page (good (pages (home_at cells at.vol k)) (belong.run at.vol k within))
    where
      there : (xs : List ℕ) (k : ℕ) → k < length xs → slice_index_or xs k at.page ≡ at.page → slice_index xs k ≡ at.page
      there [] k within is = absurd (omega (arith, within))
      there (x ∷ xs) zero within is = is
      there (x ∷ xs) (suc k) within is = there xs k (omega (arith, within)) is

      good : (o : Option (List ℕ)) → IsSomeAnd o (IsPageOf (table_of cells at.vol) k) → IsSomeAnd o IsCellPage
      good None there = absurd there
      good (Some page) there = there.good

  bytes_there : (at : CellAt) → at.cell < 28 → (page : List ℕ) → pages (home_of at) ≡ Some page → IsCellPage page → cell_at pages at ≡ Some (cell_of page at.cell)
  bytes_there at within page is good =
      let test : (is_cell_page page && nat_lt at.cell 28) ≡ true = (λ i. good.magic i && lt-ltb at.cell 28 within i) in
      ap (option_and_then (λ page. cond (is_cell_page page && nat_lt at.cell 28) (Some (cell_of page at.cell)) None)) is ∙ ap (λ b. cond b (Some (cell_of page at.cell)) None) test

  pub used_or_free : (at : CellAt) → Contains (table_of cells at.vol) at.page → at.cell < 28
      → IsInUse pages at ⊎ IsSomeAnd (pages (home_of at)) (λ page. is_free_in page at.cell ≡ true)
  used_or_free at on within = by_page (pages (home_of at)) refl (table_page at on)
    where
      by_page : (o : Option (List ℕ)) → pages (home_of at) ≡ o → IsSomeAnd o IsCellPage → IsInUse pages at ⊎ IsSomeAnd o (λ page. is_free_in page at.cell ≡ true)
      by_page None is good = absurd good
      by_page (Some page) is good = ⊎_elim
          (λ free. inr (zeros_kind page at.cell free))
          (λ used. inl (used.0, record { bytes = cell_of page at.cell; there = bytes_there at within page is good; is = used.1 }))
          (good.cells at.cell within)

  pub free_not_used : (at : CellAt) → Contains (table_of cells at.vol) at.page → at.cell < 28 → IsSomeAnd (pages (home_of at)) (λ page. is_free_in page at.cell ≡ true) → ¬ IsInUse pages at
  free_not_used at on within free used = by_page (pages (home_of at)) refl (table_page at on) free
    where
      by_page : (o : Option (List ℕ)) → pages (home_of at) ≡ o → IsSomeAnd o IsCellPage → IsSomeAnd o (λ page. is_free_in page at.cell ≡ true) → ⊥
      by_page None is good free = good
      by_page (Some page) is good free = used_not_zeros pages at (used_of pages at used.0 used.1) (bytes_there at within page is good ∙ ap Some (free_kind page at.cell good within free))

-- all that were handed out are in use
abbrev pub AreUsed : FilesetNow → Type 0
AreUsed old = (at : CellAt) → IsHandedOut old.domain.cells at → IsInUse old.domain.pages at

module _ (number : ℕ) (version : Version) (tag : Tag) (old new : FilesetNow) (stood : StandsWell number old) (used : AreUsed old) where
  -- a cell is handed out for a new file, and it is the file's
  made_handed : (s : Makes number version tag old new) (space : Spaces) → AreAllocated space old.domain.cells old.domain.pages → TakesOne s.prefer space new.domain.space old.domain.cells new.domain.cells old.domain.pages
      → StandsAt new.domain.pages s.creates.first.at s.creates.first.cell → Contains (table_of new.domain.cells s.creates.first.at.vol) s.creates.first.at.page
      → (at : CellAt) → IsHandedOut new.domain.cells at → IsHandedOut old.domain.cells at ⊎ Contains (places (s.creates.first ∷ [])) at
  made_handed s space allocated one stands on at is = ⊎_elim
      (λ was. inl was)
      (λ same. ⊎_elim
      (λ was. let cell = used first.at was in absurd (s.creates.was_free cell.0 cell.1 was.on))
      (λ also. inr (in_first at first [] (sym also ∙ same)))
      (handed first.at (record {
        on = on;
        within = below_28 new.domain.pages first.at first.cell stands;
        taken = used_not_free new.domain.cells new.domain.pages s.creates.together.allocated.belong first.at (used_of new.domain.pages first.at first.cell stands);
      })))
      (handed at is)
    where
      first : PlacedCell
      first = s.creates.first

      low : 1 ≤ one.at.vol
      low = ⊎_elim
          (λ had. low_table old.domain.cells one.at.vol one.at.page (allocated.belong.on_table one.at
          (subst (λ (c : Cells). is_free c one.at ≡ true) had.same_cells (and_parts (is_free one.takes.between one.at) _ one.takes.free).0)))
          (λ none.
          let on : Contains (table_of one.takes.between none.home.vol) none.home.page = subst (λ (t : List ℕ). Contains t none.home.page)
          (sym (none.adds.joins.tables none.home.vol ∙ ap (λ (b : Bool). cond b (table_of old.domain.cells none.home.vol ++ none.home.page ∷ []) (table_of old.domain.cells none.home.vol)) (eq-eqb none.home.vol none.home.vol refl)))
          (last_in (table_of old.domain.cells none.home.vol) none.home.page) in
          let same : home_of one.at ≡ none.home = homes_same (home_of one.at) none.home (and_parts (same_home (home_of one.at) none.home) (nat_lt one.at.cell 28) none.on).0 in
          subst (λ (h : Home). 1 ≤ h.vol) (sym same) (low_table one.takes.between none.home.vol none.home.page on))
          one.takes.before

      handed : (q : CellAt) → IsHandedOut new.domain.cells q → IsHandedOut old.domain.cells q ⊎ (one.at ≡ q)
      handed = handed_now s.prefer one.at space new.domain.space old.domain.cells new.domain.cells old.domain.pages one.between low allocated one.takes

  pub made_cells : (s : Makes number version tag old new) → CellsGoOn old new (s.creates.first ∷ [])
  made_cells s = record {
    stand = one_cell number version tag old new stood s.creates.first.at s.creates.first.cell stands;
    handed = ⊎_elim
        (λ cell. made_handed s old.domain.space stood.together.allocated cell.cell stands on)
        (λ page. made_handed s _ (allocated_taken old.domain.space old.domain.cells old.domain.pages page.home stood.together.allocated) page.cell stands on)
        s.taken;
    others = λ at cell stands on. inl (s.others at cell stands on (λ inside. omega (arith, inside.1)));
  }
    where
      stands : StandsAt new.domain.pages s.creates.first.at s.creates.first.cell
      stands = (are_file number new.places new.domain.pages _ s.creates.together.files tag s.creates.first [] (tag_made number version tag old new stood s)).links.stands

      on : Contains (table_of new.domain.cells s.creates.first.at.vol) s.creates.first.at.page
      on = (subst (λ o. IfSome o (AreOnTables new.domain.cells)) (tag_made number version tag old new stood s) (s.creates.together.on_tables tag)).0

-- ---- what is in use then

module _ (old new : FilesetNow) (after : List PlacedCell) (used : AreUsed old) (goes : CellsGoOn old new after) where
  pub in_use_now : (at : CellAt) → IsHandedOut new.domain.cells at → IsInUse new.domain.pages at
  in_use_now at is = ⊎_elim
      (λ was. let cell = used at was in ⊎_elim (λ stands. (cell.0, stands)) (λ inside. in_after inside.0) (goes.others at cell.0 cell.1 was.on))
      in_after
      (goes.handed at is)
    where
      in_after : Contains (places after) at → IsInUse new.domain.pages at
      in_after inside = let c = placed after at inside in (c.0.cell, subst (λ (a : CellAt). StandsAt new.domain.pages a c.0.cell) c.2 (goes.stand c.0 c.1))

  -- a cell in use stood before, or is one of the chain
  pub cell_was : Belong new.domain.cells new.domain.pages → (at : CellAt) (cell : Cell) → StandsAt new.domain.pages at cell → Contains (table_of new.domain.cells at.vol) at.page
      → (StandsAt old.domain.pages at cell × Contains (table_of old.domain.cells at.vol) at.page) ⊎ Contains after (record { at = at; cell = cell })
  cell_was belong at cell stands on = ⊎_elim
      (λ was. let before = used at was in ⊎_elim
      (λ still. inl (subst (λ (c : Cell). StandsAt old.domain.pages at c) (one_stands new.domain.pages at before.0 cell still stands) before.1, was.on))
      (λ inside. inr (in_after inside.0))
      (goes.others at before.0 before.1 was.on))
      (λ inside. inr (in_after inside))
      (goes.handed at (record {
        on = on;
        within = below_28 new.domain.pages at cell stands;
        taken = used_not_free new.domain.cells new.domain.pages belong at (used_of new.domain.pages at cell stands);
      }))
    where
      in_after : Contains (places after) at → Contains after (record { at = at; cell = cell })
      in_after inside =
          let c = placed after at inside in
          let same : c.0.cell ≡ cell = one_stands new.domain.pages at c.0.cell cell (subst (λ (a : CellAt). StandsAt new.domain.pages a c.0.cell) c.2 (goes.stand c.0 c.1)) stands in
          subst (Contains after) (λ i. record { at = c.2 i; cell = same i }) c.1
