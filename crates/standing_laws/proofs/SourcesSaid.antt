-- No file of a domain is read through another one just where no chain's first cell says so.
use Rattle.std.proofs.Common.{◌≡◌, ◌∙◌, ℕ, zero, suc, List, [], ◌∷◌, Option, Some, None, IfSome, IsSome, IsSomeAnd, Contains, length, inl, refl, sym, ap, subst, arith, ⊎_elim, true≢false}
use Rattle.std.specs.List.{AllByRecursion}
use Rattle.std.specs.Option.{option_and_then}
use Rattle.domain_standing.specs.domain_base.declared.place.CellAt.{CellAt}
use Rattle.domain_standing.specs.metadata_cells.Cell.{Cell, record_of}
use Rattle.domain_standing.specs.metadata_cells.Chain.{PlacedCell, StandsAt, places}
use Rattle.domain_standing.specs.metadata_cells.declared.head.CellKind.TheVariants.{Chain, Primary, Quota, Volume}
use Rattle.domain_standing.proofs.OfMetadataCells.Unique.{one_stands}
use Rattle.domain_standing.specs.free_cells.Cells.{table_of}
use Rattle.domain_standing.specs.file_chains.Files.{IsFile}
use Rattle.domain_standing.specs.log_ring.Homes.{IsMember}
use Rattle.domain_standing.specs.release_list.Standing.{Files, IsFileOrQuotas, IsQuotaCell, IsStanding, Source, source_at, source_in, source_of}
use Rattle.domain_standing.proofs.OfReleaseList.Standings.{quota_first, stand_chain}
use Rattle.domain_standing.proofs.OfDomainLayout.Reached.{member_or_none}
use Rattle.domain_standing.specs.domain_layout.CellRules.{IsFirstPlace}
use Rattle.domain_standing.specs.Chains.{IndexesAt}
use Rattle.domain_standing.specs.Domain.{DomainNow, layout_of}
use Rattle.domain_standing.specs.Sources.{HasSource, StandAlone}
use Rattle.domain_standing.specs.Tables.{first_place}
use Rattle.standing_laws.specs.Leads.{StandsBelow}
use Rattle.standing_laws.proofs.CellsNow.{all_in, later_chain, placed}

module _ (d : DomainNow) (files : Files) (indexes : IndexesAt) (below : StandsBelow d files indexes) where
  its_member : (vol p : ℕ) → Contains (table_of d.cells vol) p → IsMember d.frame.anchor vol
  its_member vol p on = ⊎_elim
      (λ member. member)
      (λ none. let e : length (table_of d.cells vol) ≡ 0 = ap length (below.tables.cells.others vol none) in absurd (omega (arith, e, on.1)))
      (member_or_none d.frame.anchor vol)

  standing_at : (at : CellAt) (chain : List PlacedCell) → files at ≡ Some chain → IsStanding d.cells d.pages at chain
  standing_at at chain there = subst (λ o. IfSome o (IsStanding d.cells d.pages at)) there (below.chains.well.together.each at)

  -- ---- what is alone has chains that say nothing

  one_alone : StandAlone d → (at : CellAt) (chain : List PlacedCell) → files at ≡ Some chain → source_of chain ≡ None
  one_alone alone at [] there = refl
  one_alone alone at (first ∷ rest) there =
      let stands = standing_at at (first ∷ rest) there in
      ⊎_elim
      (λ file. by_source file stands.on_tables.0 (source_of (first ∷ rest)) refl)
      (λ quotas. ap (option_and_then source_in) (quota_first d.pages at (first ∷ rest) quotas 2 (λ e. omega (arith, e)) (λ e. omega (arith, e))))
      stands.stands
    where
      by_source : IsFile d.pages at (first ∷ rest) → Contains (table_of d.cells first.at.vol) first.at.page → (o : Option Source) → source_of (first ∷ rest) ≡ o → o ≡ None
      by_source file on None none = refl
      by_source file on (Some source) some = absurd (alone first.at (record {
        cell = first.cell;
        on = record { member = its_member first.at.vol first.at.page on; table = on; stands = file.1.links.stands };
        kind = file.1.primary;
        says = subst IsSome (sym some) refl;
      }))

  pub files_alone : StandAlone d → (at : CellAt) → source_at files at ≡ None
  files_alone alone at = by_chain (files at) refl
    where
      by_chain : (o : Option (List PlacedCell)) → files at ≡ o → option_and_then source_of o ≡ None
      by_chain None there = refl
      by_chain (Some chain) there = one_alone alone at chain there

  -- ---- a first cell in use begins a chain

  module _ (none : (at : CellAt) → source_at files at ≡ None) (at : CellAt) (has : HasSource d.pages (layout_of d) at) where
    not_of_volume : ¬ IsFirstPlace d.frame at
    not_of_volume first =
        let volume = below.tables.volumes at.vol has.on.member in
        let at_first : first_place d.frame at.vol ≡ at = λ i. record { vol = at.vol; page = sym first.0 i; cell = sym first.1 i } in
        let same = one_stands d.pages at volume.cell has.cell (subst (λ (x : CellAt). StandsAt d.pages x volume.cell) at_first volume.stands) has.on.stands in
        let e : Volume ≡ Primary = sym volume.says.kind ∙ ap (λ (c : Cell). c.head.kind) same ∙ has.kind in absurd (cc)

    none_said : (start : CellAt) (first : PlacedCell) (rest : List PlacedCell) → files start ≡ Some (first ∷ rest) → first.cell ≡ has.cell → ⊥
    none_said start first rest there same =
        let nothing : option_and_then source_in (record_of 2 has.cell.records) ≡ None =
        ap (λ (c : Cell). option_and_then source_in (record_of 2 c.records)) (sym same) ∙ sym (ap (option_and_then source_of) there) ∙ none start
        in
        true≢false (sym (subst IsSome nothing has.says))

    in_chain : (start : CellAt) (cs : List PlacedCell) → files start ≡ Some cs → Contains (places cs) at → ⊥
    in_chain start [] there inside = absurd (omega (arith, inside.1))
    in_chain start (first ∷ rest) there inside = by_place (placed (first ∷ rest) at inside)
      where
        chain : IsFileOrQuotas d.pages start (first ∷ rest)
        chain = (standing_at start (first ∷ rest) there).stands

        its_cell : (c : PlacedCell) → Contains (first ∷ rest) c → c.at ≡ at → c.cell ≡ has.cell
        its_cell c within at_it = one_stands d.pages at c.cell has.cell
            (subst (λ (x : CellAt). StandsAt d.pages x c.cell) at_it (all_in (λ (c : PlacedCell). StandsAt d.pages c.at c.cell) (first ∷ rest) (stand_chain d.pages start (first ∷ rest) chain) c within))
            has.on.stands

        later_not : (c : PlacedCell) → Contains rest c → ¬ c.cell.head.kind ≡ Primary
        later_not c within is_primary = ⊎_elim
            (λ file.
            let kind = all_in (λ (x : PlacedCell). x.cell.head.kind ≡ Chain) rest (later_chain d.pages first.cell.head rest (inl file.1.primary) file.1.links.follow) c within in
            let e : Primary ≡ Chain = sym is_primary ∙ kind in absurd (cc))
            (λ quotas.
            let kind = all_in (λ (x : PlacedCell). IsQuotaCell x.cell) rest quotas.1.cells.1 c within in
            let e : Primary ≡ Quota = sym is_primary ∙ kind.kind in absurd (cc))
            chain

        by_place : (c : PlacedCell) × Contains (first ∷ rest) c × (c.at ≡ at) → ⊥
        by_place (c, (zero, within, is), at_it) = none_said start first rest there (ap (λ (x : PlacedCell). x.cell) is ∙ its_cell c (zero, within, is) at_it)
        by_place (c, (suc k, within, is), at_it) = later_not c (k, omega (arith, within), is) (ap (λ (x : Cell). x.head.kind) (its_cell c (suc k, within, is) at_it) ∙ has.kind)

    is_none : ⊥
    is_none = ⊎_elim not_of_volume (λ inside. by_files inside.0 (files inside.0) refl inside.1) (below.chains.used at has.cell has.on)
      where
        by_files : (start : CellAt) (o : Option (List PlacedCell)) → files start ≡ o → IsSomeAnd o (λ cs. Contains (places cs) at) → ⊥
        by_files start None there inside = inside
        by_files start (Some cs) there inside = in_chain start cs there inside

  pub alone_by_files : ((at : CellAt) → source_at files at ≡ None) → StandAlone d
  alone_by_files none at has = is_none none at has
