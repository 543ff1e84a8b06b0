-- Pages of the chains of a domain that was read: each is held, is none of cells, and is that of one page alone.
use Rattle.std.proofs.Common.{◌≡◌, ◌∙◌, inl, ℕ, zero, suc, true, false, List, [], ◌∷◌, Option, Some, None, IfSome, IsSome, IsSomeAnd, Contains, refl, sym, ap, subst, arith, ⊎_elim}
use Rattle.std.specs.List.{AllByRecursion}
use Rattle.std.specs.Option.{option_and_then, option_map_or}
use Rattle.domain_memory.specs.domain_base.declared.place.CellAt.{CellAt}
use Rattle.domain_memory.specs.domain_base.declared.place.Home.{Home}
use Rattle.domain_memory.specs.metadata_cells.CellPage.{home_of}
use Rattle.domain_memory.specs.metadata_cells.Chain.{PlacedCell, is_at, places}
use Rattle.domain_memory.specs.extent_maps.declared.run.PagePlace.TheVariants.{Absent, At}
use Rattle.domain_memory.specs.free_cells.Cells.{table_of}
use Rattle.domain_memory.specs.file_chains.Files.{IsFile, places_of}
use Rattle.domain_memory.specs.fileset_files.Files.{AreApart}
use Rattle.domain_memory.specs.fileset_files.Together.{IsHeldApart}
use Rattle.domain_memory.specs.release_list.Standing.{ReadsThrough, Source, StandTogether, place_in, source_at, source_in, source_of}
use Rattle.domain_memory.proofs.OfReleaseList.Standings.{at_itself, quota_first}
use Rattle.domain_memory.specs.domain_layout.Owners.{BelongsTo, HasExtent, IsOwnedOnce, frame_of}
use Rattle.domain_memory.specs.domain_layout.Owners.Owner.{of_cells, of_file}
use Rattle.domain_memory.specs.domain_layout.Reached.{MayBe}
use Rattle.domain_memory.proofs.OfDomainLayout.OwnedOnce.{no_extent, owned_once, same_cell}
use Rattle.domain_memory.proofs.OfDomainLayout.Reached.{may_be_by}
use Rattle.domain_memory.proofs.OfDomainStanding.FilePages.{IsSaid, is_said}
use Rattle.domain_memory.proofs.OfDomainStanding.Held.{held}
use Rattle.domain_memory.proofs.OfDomainStanding.Tables.{allocated, of_member}
use Rattle.domain_memory.specs.domain_standing.Domain.{DomainNow, layout_of}
use Rattle.no_faults.specs.Attached.{IsReadFrom}
use Rattle.no_faults.proofs.Apart.{chains_apart}
use Rattle.no_faults.proofs.Begun.{nowhere}
use Rattle.no_faults.proofs.Domain.{Chain, chain_at, fault, files, quotas, small, tables}
use Rattle.no_faults.proofs.Standing.{each, is_as}
use Rattle.no_faults.proofs.Walked.{IsOnWay}

pub not_placed : {P : Type 0} (home : Home) → Absent ≡ At home → P
not_placed home is = absurd (cc)

pub all_at : {X : Type 0} (P : X → Type 0) (xs : List X) (x : X) → AllByRecursion P xs → Contains xs x → P x
all_at P [] x all (k, within, is) = absurd (omega (arith, within))
all_at P (y ∷ ys) x all (zero, within, is) = subst P is all.0
all_at P (y ∷ ys) x all (suc k, within, is) = all_at P ys x all.1 (k, omega (arith, within), is)

pub place_among : (cells : List PlacedCell) (c : PlacedCell) → Contains cells c → Contains (places cells) c.at
place_among [] c (k, within, is) = absurd (omega (arith, within))
place_among (d ∷ ds) c (zero, within, is) = (0, omega arith, ap (λ (x : PlacedCell). x.at) is)
place_among (d ∷ ds) c (suc k, within, is) = let more = place_among ds c (k, omega (arith, within), is) in (suc more.0, omega (arith, more.1), more.2)

pub at_differs : (a b : CellAt) → is_at a b ≡ false → ¬ a ≡ b
at_differs a b differ same = let e : true ≡ false = sym (at_itself a) ∙ ap (is_at a) same ∙ differ in absurd (cc)

module _ (d : DomainNow) (is : IsReadFrom d) where
  pub one_owner : IsOwnedOnce d.pages (layout_of d)
  one_owner = owned_once d.pages (layout_of d) is.tables.laid is.no_fault is.tables.log

  -- a page of a chain belongs to it, by one of its cells
  pub record IsOfChain (start : CellAt) (page : ℕ) (home : Home) : Type 0 where
    pub chain : List PlacedCell
    pub there : files d is start ≡ Some chain
    pub at : CellAt
    pub among : Contains (places chain) at
    pub extent : HasExtent d.pages (layout_of d) at page home

  said_by : (start : CellAt) (page : ℕ) (home : Home) (chain : List PlacedCell) → files d is start ≡ Some chain → IsSaid chain page home → IsOfChain start page home
  said_by start page home chain there said =
      let c = chain_at d is start chain there in
      let way : IsOnWay d.pages (layout_of d) c.first.at said.c = all_at (IsOnWay d.pages (layout_of d) c.first.at) (c.first ∷ c.rest) said.c c.on_way (subst (λ cs. Contains cs said.c) c.all said.among) in
      record {
        chain = chain;
        there = there;
        at = said.c.at;
        among = place_among chain said.c said.among;
        extent = record { cell = said.c.cell; on = way.on; value = said.value; among = said.within; place = said.place };
      }

  pub of_chain : (start : CellAt) (page : ℕ) (home : Home) → place_in (files d is) start page ≡ At home → IsOfChain start page home
  of_chain start page home stands = by_chain (files d is start) refl stands
    where
      by_chain : (o : Option (List PlacedCell)) → files d is start ≡ o → option_map_or (λ cells. places_of cells page) o Absent ≡ At home → IsOfChain start page home
      by_chain None there placed = not_placed home placed
      by_chain (Some chain) there placed = said_by start page home chain there (is_said chain page home placed)

  -- ---- chains apart

  pub two_chains : (a b : CellAt) (xs ys : List PlacedCell) → files d is a ≡ Some xs → files d is b ≡ Some ys → ¬ a ≡ b → AreApart xs ys
  two_chains a b xs ys one other differ =
      chains_apart d.pages (layout_of d) is.tables.laid (tables d is) (small d is) (quotas d is) a b xs ys (chain_at d is a xs one) (chain_at d is b ys other) differ

  apart : (a b : CellAt) → is_at a b ≡ false → IfSome (files d is a) (λ xs. IfSome (files d is b) (AreApart xs))
  apart a b differ = by_one (files d is a) refl
    where
      by_other : (xs : List PlacedCell) → files d is a ≡ Some xs → (o : Option (List PlacedCell)) → files d is b ≡ o → IfSome o (AreApart xs)
      by_other xs one None other = tt
      by_other xs one (Some ys) other = two_chains a b xs ys one other (at_differs a b differ)

      by_one : (o : Option (List PlacedCell)) → files d is a ≡ o → IfSome o (λ xs. IfSome (files d is b) (AreApart xs))
      by_one None one = tt
      by_one (Some xs) one = by_other xs one (files d is b) refl

  -- a cell in two chains is of one
  pub one_chain : (a b at : CellAt) (xs ys : List PlacedCell) → files d is a ≡ Some xs → files d is b ≡ Some ys → Contains (places xs) at → Contains (places ys) at → a ≡ b
  one_chain a b at xs ys one other in_one in_other =
      ⊎_elim (λ same. same) (λ differ. absurd (two_chains a b xs ys one other differ at in_one in_other)) (same_cell a b)

  -- ---- pages

  pub of_table : (home : Home) → Contains (table_of d.cells home.vol) home.page → BelongsTo d.pages (layout_of d) of_cells home
  of_table home among =
      let member = of_member d.pages (layout_of d) d.space d.cells is.tables.laid (tables d is) is.space is.tables.cells home.vol among.0 among.1 in
      (member, subst (λ table. Contains table home.page) (is.tables.cells.tables home.vol member) among)

  may_stand : (page : ℕ) (home : Home) (at : CellAt) → HasExtent d.pages (layout_of d) at page home → MayBe (frame_of (layout_of d)) home
  may_stand page home at extent =
      may_be_by (frame_of (layout_of d)) home (λ wrong. no_extent d.pages (layout_of d) is.tables.laid is.no_fault (home_of at) (at, refl, record { page = page; home = home; has = extent; wrong = inl wrong }))

  cells_of_file : {P : Type 0} (at : CellAt) (page : ℕ) → of_cells ≡ of_file at page → P
  cells_of_file at page same = absurd (cc)

  held_apart : (start : CellAt) (page : ℕ) (home : Home) → place_in (files d is) start page ≡ At home → IsHeldApart d.space d.cells home
  held_apart start page home stands =
      let one = of_chain start page home stands in
      record {
        held = held d.pages (layout_of d) d.space is.space home (may_stand page home one.at one.extent).0 (λ unowned. unowned (of_file one.at page, one.extent));
        off_table = λ among. cells_of_file one.at page (one_owner home of_cells (of_file one.at page) (of_table home among) one.extent);
      }

  same_at : (at other : CellAt) (p q : ℕ) → of_file at p ≡ of_file other q → at ≡ other
  same_at at other p q same = cc

  same_page : (at other : CellAt) (p q : ℕ) → of_file at p ≡ of_file other q → p ≡ q
  same_page at other p q same = cc

  pub once : (a b : CellAt) (p q : ℕ) (home : Home) → place_in (files d is) a p ≡ At home → place_in (files d is) b q ≡ At home → (a ≡ b) × (p ≡ q)
  once a b p q home one other =
      let x = of_chain a p home one in
      let y = of_chain b q home other in
      let same = one_owner home (of_file x.at p) (of_file y.at q) x.extent y.extent in
      (one_chain a b x.at x.chain y.chain x.there y.there x.among (subst (Contains (places y.chain)) (sym (same_at x.at y.at p q same)) y.among), same_page x.at y.at p q same)

  -- ---- no file reads through another

  first_source : (at : CellAt) (chain : List PlacedCell) → files d is at ≡ Some chain → source_of chain ≡ None
  first_source at chain there =
      ⊎_elim (λ file. of_file (subst (IsFile d.pages at) c.all file.0))
      (λ quota. ap (option_and_then source_in) (quota_first d.pages at chain quota.0 2 (λ e. omega (arith, e)) (λ e. omega (arith, e))))
      (is_as d.pages (layout_of d) is.tables.laid (fault d is) (small d is) (quotas d is) at chain there).is
    where
      c : Chain d is at chain
      c = chain_at d is at chain there

      of_file : IsFile d.pages at (c.first ∷ c.rest) → source_of chain ≡ None
      of_file file = subst (λ cs. source_of cs ≡ None) (sym c.all) (by_source (source_of (c.first ∷ c.rest)) refl)
        where
          by_source : (o : Option Source) → source_of (c.first ∷ c.rest) ≡ o → o ≡ None
          by_source None none = refl
          by_source (Some source) some =
              absurd (is.sources c.first.at (record { cell = c.first.cell; on = c.on_way.0.on; kind = file.1.primary; says = subst IsSome (sym some) refl }))

  pub no_source : (at : CellAt) → source_at (files d is) at ≡ None
  no_source at = by_chain (files d is at) refl
    where
      by_chain : (o : Option (List PlacedCell)) → files d is at ≡ o → option_and_then source_of o ≡ None
      by_chain None there = refl
      by_chain (Some chain) there = first_source at chain there

  pub reads_none : (clone at : CellAt) → ¬ ReadsThrough (files d is) clone at
  reads_none clone at reads = by_source (source_at (files d is) clone) (no_source clone) reads
    where
      by_source : (o : Option Source) → o ≡ None → IsSomeAnd o (λ source. source.at ≡ at) → ⊥
      by_source None none through = through
      by_source (Some source) none through = nowhere source (sym none)

  pub together : StandTogether d.space d.cells d.pages (files d is)
  together = record {
    allocated = allocated d.pages (layout_of d) d.space d.cells is.tables.laid (tables d is) is.space is.tables.cells;
    each = each d.pages (layout_of d) is.tables.laid (fault d is) (small d is) (quotas d is) d.cells is.tables.cells;
    apart = apart;
    held = held_apart;
    once = once;
    one_deep = λ a b c one other. reads_none a b one;
  }
