-- Of a chain of quota cells, and of free cells, it is enough to know that they are so.
use Rattle.std.proofs.Common.{◌≡◌, ◌∙◌, ◌⊎◌, ◌==◌, ℕ, Bool, true, false, Option, Some, None, IsSomeAnd, List, [], ◌∷◌, Contains, refl, sym, ap, inl, inr, ⊎_elim, true≢false}
use Rattle.std.proofs.Math.Logic.{∥∥₁_map}
use Rattle.std.proofs.lemmas.Bool.{both_ways, eq-eqb, eqb-true}
use Rattle.std.specs.Coded.{Coded-set, coded_list, coded_option}
use Rattle.std.specs.Option.{option_and_then}
use Rattle.domain_memory.specs.domain_base.declared.place.CellAt.{CellAt}
use Rattle.domain_memory.specs.domain_base.declared.place.Home.{Home}
use Rattle.domain_memory.specs.page_store.Pages.{Pages}
use Rattle.domain_memory.specs.cell_records.Records.{kind_of}
use Rattle.domain_memory.specs.cell_records.declared.record.Record.{Record}
use Rattle.domain_memory.specs.metadata_cells.Cell.{Cell}
use Rattle.domain_memory.specs.metadata_cells.declared.head.CellHead.{CellHead}
use Rattle.domain_memory.specs.metadata_cells.Chain.{AreDistinct, Follow, PlacedCell}
use Rattle.domain_memory.specs.tag_dirs.Directory.{IsDirectory}
use Rattle.domain_memory.specs.extent_maps.declared.run.PagePlace.TheVariants.{Absent, At}
use Rattle.domain_memory.specs.free_cells.Cells.{Cells, table_of}
use Rattle.domain_memory.specs.free_space.Spaces.{Spaces}
use Rattle.domain_memory.specs.file_chains.Allocated.{AreAllocated}
use Rattle.domain_memory.specs.file_chains.FileChanges.{AreOnTables}
use Rattle.domain_memory.specs.fileset_files.Together.{AreTogether}
use Rattle.domain_memory.proofs.OfStoredSet.Stable.{IsStable, all, both, cell_kind_code, contains, determined, equal, four, is_none, not, nothing, one_bool, one_number, place_code, placed_code, unit}
use Rattle.domain_memory.proofs.OfStoredSet.StableCells.{stands}
use Rattle.domain_memory.proofs.OfStoredSet.StableFiles.{together}
use Rattle.domain_memory.specs.release_list.Standing.{AreQuotas, IsQuotaCell, IsQuotas}
use Rattle.domain_memory.proofs.OfReleaseList.Standings.{standing}
use Rattle.domain_memory.proofs.OfDomainLayout.OneShape.{links_same}
use Rattle.domain_memory.specs.domain_layout.TagRules.{quota_of}
use Rattle.domain_memory.specs.fileset_table.declared.slot.FilesetEntry.{FilesetEntry}
use Rattle.domain_memory.specs.release_steps.QuotaChain.{IsQuotaChain}
use Rattle.domain_memory.specs.staged_pages.Store.{pages_of}
use Rattle.domain_memory.specs.domain_standing.Chains.{AreQuotasOf}
use Rattle.domain_memory.specs.standing_laws.NewFileset.{no_chains}
use Rattle.domain_memory.proofs.OfStandingLaws.OtherSlots.{links_of}
use Rattle.domain_memory.specs.Staged.{IsStagedForSome, staged_in}
use Rattle.domain_memory.specs.declared.memory.DomainMemory.{DomainMemory}
use Rattle.domain_changes.specs.Table.{HasOriginal}

-- ---- quota cells

follow : (pages : Pages) (h : CellHead) (cs : List PlacedCell) → IsStable (Follow pages h cs)
follow pages h [] = is_none h.next
follow pages h (c ∷ cs) = four (equal (coded_option place_code) _ _) (one_bool _ _) (stands pages c.at c.cell) (follow pages c.cell.head cs)

distinct : (cs : List PlacedCell) → IsStable (AreDistinct cs)
distinct [] = unit
distinct (c ∷ cs) = both not (distinct cs)

seven_or_eight : (r : Record) → IsStable ((kind_of r ≡ 7) ⊎ (kind_of r ≡ 8))
seven_or_eight r t = by_test (kind_of r == 7) refl
  where
    by_test : (b : Bool) → (kind_of r == 7) ≡ b → (kind_of r ≡ 7) ⊎ (kind_of r ≡ 8)
    by_test true is = inl (eqb-true (kind_of r) 7 is)
    by_test false is = inr (one_number _ _ (∥∥₁_map t (λ x. ⊎_elim (λ seven. absurd (both_ways (kind_of r == 7) is (eq-eqb (kind_of r) 7 seven))) (λ eight. eight) x)))

quota_cell : (cell : Cell) → IsStable (IsQuotaCell cell)
quota_cell cell t = record {
  kind = equal cell_kind_code _ _ (∥∥₁_map t (λ x. x.kind));
  limits = all (λ r. (kind_of r ≡ 7) ⊎ (kind_of r ≡ 8)) seven_or_eight cell.records (∥∥₁_map t (λ x. x.limits));
}

are_quotas : (pages : Pages) (first : PlacedCell) (rest : List PlacedCell) → IsStable (AreQuotas pages first rest)
are_quotas pages first rest t = record {
  links = record {
    stands = stands pages first.at first.cell (∥∥₁_map t (λ x. x.links.stands));
    follow = follow pages first.cell.head rest (∥∥₁_map t (λ x. x.links.follow));
    distinct = distinct (first ∷ rest) (∥∥₁_map t (λ x. x.links.distinct));
  };
  cells = all (λ (c : PlacedCell). IsQuotaCell c.cell) (λ c. quota_cell c.cell) (first ∷ rest) (∥∥₁_map t (λ x. x.cells));
}

quotas : (pages : Pages) (at : CellAt) (cs : List PlacedCell) → IsStable (IsQuotas pages at cs)
quotas pages at [] = nothing
quotas pages at (first ∷ rest) = both (equal place_code _ _) (are_quotas pages first rest)

on_tables : (cells : Cells) (cs : List PlacedCell) → IsStable (AreOnTables cells cs)
on_tables cells cs = all (λ (c : PlacedCell). Contains (table_of cells c.at.vol) c.at.page) (λ c. contains (table_of cells c.at.vol) c.at.page) cs

chain_known : (pages : Pages) (cells : Cells) (at : CellAt) → IsStable ((chain : List PlacedCell) × (IsQuotas pages at chain × AreOnTables cells chain))
chain_known pages cells at =
    determined (λ (chain : List PlacedCell). IsQuotas pages at chain × AreOnTables cells chain) (λ a b. Coded-set (coded_list placed_code) a b) (λ a b x y. links_same pages at a b (links_of pages at a x.0) (links_of pages at b y.0))
    (λ chain. both (quotas pages at chain) (on_tables cells chain))

-- ---- a slot's chain

module _ (memory : DomainMemory) (number : ℕ) (entry : FilesetEntry) (has : HasOriginal memory number entry) where
  chain_there : (s : IsStagedForSome memory) (at : CellAt) → entry.quota ≡ Some at → (chain : List PlacedCell) × (IsQuotas (pages_of memory.pages) at chain × AreOnTables memory.cells chain)
  chain_there s at named = by_chain (s.1.stands.files at) refl (s.1.stands.chains.quotas number at (ap (option_and_then quota_of) has ∙ named))
    where
      by_chain : (o : Option (List PlacedCell)) → s.1.stands.files at ≡ o → IsSomeAnd o (AreQuotasOf (staged_in memory) number at) → (chain : List PlacedCell) × (IsQuotas (pages_of memory.pages) at chain × AreOnTables memory.cells chain)
      by_chain None none are = absurd are
      by_chain (Some cs) some are = (cs, (are.quotas, (standing memory.space memory.cells (pages_of memory.pages) s.1.stands.files s.1.stands.chains.well.together at cs some).on_tables))

  pub asks_chain : ∥ IsStagedForSome memory ∥₁ → (chain : List PlacedCell) × IsQuotaChain (pages_of memory.pages) entry.quota chain × AreOnTables memory.cells chain
  asks_chain staged = by_first entry.quota refl
    where
      by_first : (o : Option CellAt) → entry.quota ≡ o → (chain : List PlacedCell) × IsQuotaChain (pages_of memory.pages) o chain × AreOnTables memory.cells chain
      by_first None none = ([], refl, tt)
      by_first (Some at) named = let found = chain_known (pages_of memory.pages) memory.cells at (∥∥₁_map staged (λ s. chain_there s at named)) in (found.0, found.1.0, found.1.1)

-- ---- free cells and free space

absent_not : (home : Home) → Absent ≡ At home → ⊥
absent_not home e = cc

empty_directory : (pages : Pages) → IsDirectory pages []
empty_directory pages = record {
  run = λ k. tt;
  apart = λ j k p q at_j at_k same. absurd (cc);
  first = tt;
}

no_files_together : (space : Spaces) (cells : Cells) (pages : Pages) → AreAllocated space cells pages → AreTogether 0 [] space cells pages no_chains
no_files_together space cells pages allocated = record {
  files = record {
    directory = empty_directory pages;
    none = λ tag none. refl;
    some = λ tag. tt;
    apart = λ s u other. tt;
  };
  allocated = allocated;
  on_tables = λ tag. tt;
  tag_pages = λ home is. absurd (true≢false (sym is));
  file_pages = λ tag page home is. absurd (absent_not home is);
  once = λ s u p q home a b. absurd (absent_not home a);
}

pub asks_allocated : (memory : DomainMemory) → ∥ IsStagedForSome memory ∥₁ → AreAllocated memory.space memory.cells (pages_of memory.pages)
asks_allocated memory staged = (together 0 [] memory.space memory.cells (pages_of memory.pages) no_chains
    (∥∥₁_map staged (λ s. no_files_together memory.space memory.cells (pages_of memory.pages) s.1.stands.chains.well.together.allocated))).allocated
