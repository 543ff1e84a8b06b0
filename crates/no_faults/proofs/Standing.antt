-- Where no rule of tables and extents is broken, each chain is a file's or one of quota cells, on pages of tables.
use Rattle.std.proofs.Common.{◌≡◌, ◌∙◌, ◌⊎◌, inl, inr, ℕ, ◌≤◌, ◌^◌, ◌||◌, nat_eq, true, List, [], ◌∷◌, Option, Some, None, IfSome, Contains, refl, sym, ap, subst, arith, ⊎_elim}
use Rattle.std.proofs.lemmas.Bool.{and_parts, cases_Bool, eqb-true, or_cases}
use Rattle.std.specs.List.{AllByRecursion, list_all}
use Rattle.domain_memory.specs.domain_base.declared.place.CellAt.{CellAt}
use Rattle.domain_memory.specs.page_store.Pages.{Pages}
use Rattle.domain_memory.specs.cell_records.Records.{kind_of}
use Rattle.domain_memory.specs.cell_records.declared.record.Record.{Record}
use Rattle.domain_memory.specs.log_ring.Homes.{IsMember, member_of}
use Rattle.domain_memory.specs.metadata_cells.Cell.{Cell}
use Rattle.domain_memory.specs.metadata_cells.Chain.{Follow, PlacedCell, may_follow}
use Rattle.domain_memory.specs.metadata_cells.declared.head.CellKind.{CellKind}
use Rattle.domain_memory.specs.metadata_cells.declared.head.CellKind.TheVariants as kinds
use Rattle.domain_memory.specs.free_cells.Cells.{Cells}
use Rattle.domain_memory.specs.file_chains.FileChanges.{AreOnTables}
use Rattle.domain_memory.specs.file_chains.Files.{IsFile}
use Rattle.domain_memory.specs.fileset_files.Files.{HasFirstKinds}
use Rattle.domain_memory.specs.release_list.Standing.{IsQuotaCell, IsQuotas, IsStanding}
use Rattle.domain_memory.specs.domain_layout.CellRules.{are_limits}
use Rattle.domain_memory.specs.domain_layout.Faults.{HasNoExtentFault, HasNoTablesFault}
use Rattle.domain_memory.specs.domain_layout.Layout.{IsLayout, Layout}
use Rattle.domain_memory.specs.domain_layout.Owners.{IsOnTable, frame_of}
use Rattle.domain_memory.proofs.OfDomainLayout.Named.{no_cell}
use Rattle.domain_memory.proofs.OfDomainLayout.OwnedOnce.{used_on}
use Rattle.domain_memory.proofs.OfFilesetsReading.ChainsThere.{FirstFile, first_file}
use Rattle.domain_memory.specs.domain_standing.Space.{AreCellsOf}
use Rattle.no_faults.specs.Attached.{IsFirstQuota}
use Rattle.no_faults.proofs.Begun.{ChainAt, IsNamedQuota, chain_at, files, quota_in}
use Rattle.no_faults.proofs.Walked.{IsOnWay}

-- what comes behind a quota cell is one
pub quota_follows : (kind : CellKind) → may_follow kinds.Quota kind ≡ true → kind ≡ kinds.Quota
quota_follows kinds.Primary may = absurd (cc)
quota_follows kinds.Chain may = absurd (cc)
quota_follows kinds.Quota may = refl
quota_follows kinds.Volume may = absurd (cc)

limits_all : (rs : List Record) → list_all (λ r. nat_eq (kind_of r) 7 || nat_eq (kind_of r) 8) rs ≡ true → AllByRecursion (λ r. (kind_of r ≡ 7) ⊎ (kind_of r ≡ 8)) rs
limits_all [] is = tt
limits_all (r ∷ rs) is =
    let parts = and_parts (nat_eq (kind_of r) 7 || nat_eq (kind_of r) 8) (list_all (λ r. nat_eq (kind_of r) 7 || nat_eq (kind_of r) 8) rs) is in (
      ⊎_elim (λ users. inl (eqb-true (kind_of r) 7 users)) (λ groups. inr (eqb-true (kind_of r) 8 groups)) (or_cases (nat_eq (kind_of r) 7) (nat_eq (kind_of r) 8) parts.0),
      limits_all rs parts.1,
    )

-- each cell of a list is on pages of tables
all_map : {X : Type 0} {P Q : X → Type 0} → ((x : X) → P x → Q x) → (xs : List X) → AllByRecursion P xs → AllByRecursion Q xs
all_map by [] all = tt
all_map by (x ∷ xs) all = (by x all.0, all_map by xs all.1)

module _ (pages : Pages) (layout : Layout) (laid : IsLayout pages layout) (fault : HasNoExtentFault pages (frame_of layout))
    (small : (vol : ℕ) → IsMember layout.anchor vol → (member_of layout.anchor vol).pages ≤ 1048576)
    (quotas : (number : ℕ) (at : CellAt) → quota_in layout number ≡ Some at → ¬ ¬ IsFirstQuota pages (frame_of layout) number at) where
  none : HasNoTablesFault pages (frame_of layout)
  none = fault.tables

  abbrev pub Chain : CellAt → List PlacedCell → Type 0
  Chain at chain = ChainAt pages layout laid fault.tables small quotas at chain

  wide : (vol : ℕ) → IsMember layout.anchor vol → (member_of layout.anchor vol).pages ≤ 2 ^ 32
  wide vol member = let few = small vol member in omega (arith, few)

  -- ---- quota cells

  pub quota_cell : (at : CellAt) (cell : Cell) → IsOnTable pages layout at cell → cell.head.kind ≡ kinds.Quota → IsQuotaCell cell
  quota_cell at cell on kind = record {
    kind = kind;
    limits = limits_all cell.records (⊎_elim (λ good. good)
        (λ wrong. absurd (no_cell pages layout laid none at (inr (inr (inl (record { cell = cell; used = used_on pages layout laid none at cell on; wrong = inr (kind, wrong) }))))))
        (cases_Bool (are_limits cell.records)));
  }

  quota_cells : (start : CellAt) (c : PlacedCell) → c.cell.head.kind ≡ kinds.Quota → (cs : List PlacedCell) → Follow pages c.cell.head cs → AllByRecursion (IsOnWay pages layout start) (c ∷ cs)
      → AllByRecursion (λ (d : PlacedCell). IsQuotaCell d.cell) (c ∷ cs)
  quota_cells start c kind [] follow all = (quota_cell c.at c.cell all.0.on kind, tt)
  quota_cells start c kind (d ∷ ds) (leads, may, stands, more) all = (
    quota_cell c.at c.cell all.0.on kind,
    quota_cells start d (quota_follows d.cell.head.kind (subst (λ k. may_follow k d.cell.head.kind ≡ true) kind may)) ds more all.1,
  )

  -- ---- what a chain is

  -- it is a file's, with the kinds of records that a first cell may have, or of quota cells that a slot names
  pub record IsAsIs (at : CellAt) (chain : List PlacedCell) : Type 0 where
    pub is : (IsFile pages at chain × HasFirstKinds chain) ⊎ (IsQuotas pages at chain × IsNamedQuota layout at)

  as_is : (at : CellAt) (chain : List PlacedCell) → Chain at chain → IsAsIs at chain
  as_is at chain c = subst (IsAsIs at) (sym c.all) (record { is = ⊎_elim of_file of_quotas c.begun.kind })
    where
      kind_is : c.first.cell.head.kind ≡ c.begun.cell.head.kind
      kind_is = ap (λ (x : Cell). x.head.kind) c.cell_is

      of_file : c.begun.cell.head.kind ≡ kinds.Primary
          → (IsFile pages at (c.first ∷ c.rest) × HasFirstKinds (c.first ∷ c.rest)) ⊎ (IsQuotas pages at (c.first ∷ c.rest) × IsNamedQuota layout at)
      of_file primary =
          let file : FirstFile pages layout laid fault wide c.first c.rest =
          first_file pages layout laid fault wide c.first c.rest (λ unused. unused (used_on pages layout laid none c.first.at c.first.cell c.on_way.0.on)) (kind_is ∙ primary) c.links in
          inl ((c.at_is, file.is), file.kinds)

      of_quotas : (c.begun.cell.head.kind ≡ kinds.Quota) × IsNamedQuota layout c.first.at
          → (IsFile pages at (c.first ∷ c.rest) × HasFirstKinds (c.first ∷ c.rest)) ⊎ (IsQuotas pages at (c.first ∷ c.rest) × IsNamedQuota layout at)
      of_quotas (kind, named) = inr (
        (c.at_is, record { links = c.links; cells = quota_cells c.first.at c.first (kind_is ∙ kind) c.rest c.links.follow c.on_way }),
        subst (IsNamedQuota layout) c.at_is named,
      )

  pub is_as : (at : CellAt) (chain : List PlacedCell) → files pages layout laid fault.tables small quotas at ≡ Some chain → IsAsIs at chain
  is_as at chain there = as_is at chain (chain_at pages layout laid fault.tables small quotas at chain there)

  module _ (cells : Cells) (are : AreCellsOf pages layout cells) where
    on_tables : (at : CellAt) (chain : List PlacedCell) → Chain at chain → AreOnTables cells chain
    on_tables at chain c =
        subst (AreOnTables cells) (sym c.all)
        (all_map (λ (d : PlacedCell) (way : IsOnWay pages layout c.first.at d). subst (λ table. Contains table d.at.page) (sym (are.tables d.at.vol way.on.member)) way.on.table) (c.first ∷ c.rest) c.on_way)

    pub each : (at : CellAt) → IfSome (files pages layout laid fault.tables small quotas at) (IsStanding cells pages at)
    each at = by_chain (files pages layout laid fault.tables small quotas at) refl
      where
        by_chain : (o : Option (List PlacedCell)) → files pages layout laid fault.tables small quotas at ≡ o → IfSome o (IsStanding cells pages at)
        by_chain None there = tt
        by_chain (Some chain) there = record {
          stands = ⊎_elim (λ file. inl file.0) (λ quota. inr quota.0) (is_as at chain there).is;
          on_tables = on_tables at chain (chain_at pages layout laid fault.tables small quotas at chain there);
        }
