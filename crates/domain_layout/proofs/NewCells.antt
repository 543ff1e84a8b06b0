-- The cells of a domain that was just made: no rule of cells is broken.
use Rattle.std.proofs.Common.{◌≡◌, ◌∙◌, ℕ, zero, suc, ◌+◌, ◌*◌, ◌<◌, ◌≤◌, List, Some, slice_index, refl, sym, ap, subst, arith, ⊎_elim}
use Rattle.std.proofs.lemmas.Bool.{eqb-true}
use Rattle.std.specs.List.{AllByRecursion}
use Rattle.file_release.specs.domain_base.declared.place.CellAt.{CellAt}
use Rattle.file_release.specs.domain_base.declared.place.Home.{Home}
use Rattle.file_release.specs.domain_base.declared.version.Version.{Version}
use Rattle.file_release.specs.domain_base.declared.version.Version.TheVariants.{Three, Four}
use Rattle.file_release.specs.page_store.Pages.{Pages}
use Rattle.file_release.specs.cell_records.Fields.{number_at}
use Rattle.file_release.specs.cell_records.Records.{kind_of, last_kind}
use Rattle.file_release.specs.metadata_cells.declared.head.CellKind.{CellKind}
use Rattle.file_release.specs.metadata_cells.declared.head.CellKind.TheVariants.{Primary, Chain, Quota, Volume}
use Rattle.file_release.specs.metadata_cells.Cell.{Cell, IsCell, IsFreeCell, kind_number}
use Rattle.file_release.specs.metadata_cells.CellPage.{cell_at, cell_of}
use Rattle.file_release.specs.metadata_cells.Chain.{StandsAt}
use Rattle.file_release.proofs.OfMetadataCells.CellKinds.{kind_there, zeros_kind}
use Rattle.file_release.proofs.OfMetadataCells.Unique.{one_cell}
use Rattle.file_release.proofs.OfMetadataCells.Walk.{one_kind}
use Rattle.fileset_table.specs.Table.{Table}
use Rattle.domain_layout.specs.CellRules.{HasWrongCell, IsCellFault, IsCellOf, IsCellsFault, IsChainHead, IsFirstPlace, IsLink, IsPlace, IsUsed, IsWrongVolumeCell, Link, SaysVolume}
use Rattle.domain_layout.specs.Reached.{Frame, first_cells}
use Rattle.domain_layout.proofs.OnePage.{at_first, bytes_are, cell_said, no_cells_page, no_wrong_header, that_page}
use Rattle.domain_layout.specs.NewDomain.{IsNewAnchor, IsNewCells, firsts, on_first}

-- a kind of cells in use is none of free ones
pub kind_some : (kind : CellKind) → ¬ kind_number kind ≡ 0
kind_some Primary is = omega (arith, is)
kind_some Chain is = omega (arith, is)
kind_some Quota is = omega (arith, is)
kind_some Volume is = omega (arith, is)

volume_known : (version : Version) → 12 ≤ last_kind version
volume_known Three = omega arith
volume_known Four = omega arith

-- a cell in use is the one that says the volume
pub record IsTheCell (number : ℕ) (kind : CellKind) : Type 0 where
  pub first : number ≡ 0
  pub volume : kind ≡ Volume

module _ (pages : Pages) (frame : Frame) (anchor : IsNewAnchor frame) (page : List ℕ) (there : pages (on_first (firsts frame).cells) ≡ Some page) (is : IsNewCells frame page) where
  -- ---- one cell

  pub known : AllByRecursion (λ r. kind_of r ≤ last_kind frame.version) is.cell.records
  known = subst (AllByRecursion (λ r. kind_of r ≤ last_kind frame.version)) (sym is.says.says) (volume_known frame.version, tt)

  some_wrong : (cell : ℕ) → cell < 28 → ¬ IsFreeCell (cell_of page cell) → ((c : Cell) → ¬ IsCellOf frame.version (cell_of page cell) c) → ⊥
  some_wrong zero within used wrong = wrong is.cell (record { is = is.first; known = known })
  some_wrong (suc n) within used wrong = used (is.free (suc n) (omega arith) within)

  no_wrong_cell : (home : Home) → ¬ HasWrongCell pages frame home
  no_wrong_cell home wrong =
      let same = (that_page pages frame anchor page there is.good is.indexed is.last wrong.place home wrong.page wrong.is).same in
      some_wrong wrong.cell wrong.within
      (λ free. wrong.used (subst (λ p. IsFreeCell (cell_of p wrong.cell)) (sym same) free))
      (λ c of. wrong.wrong c (subst (λ p. IsCellOf frame.version (cell_of p wrong.cell) c) (sym same) of))

  of_kind : (number : ℕ) (kind : CellKind) → number < 28 → number_at 1 15 (cell_of page number) ≡ kind_number kind → IsTheCell number kind
  of_kind zero kind within said = record {
    first = refl;
    volume = one_kind kind Volume (sym said ∙ is.first.head.kind ∙ ap kind_number is.says.kind);
  }
  of_kind (suc n) kind within said =
      let free = is.free (suc n) (omega arith) within in
      absurd (kind_some kind (sym said ∙ kind_there page (suc n) ∙ eqb-true (slice_index page (31 + 292 * suc n)) 0 (zeros_kind page (suc n) free)))

  pub kind_is : (at : CellAt) (bytes : List ℕ) (kind : CellKind) → IsPlace pages frame at → cell_at pages at ≡ Some bytes → number_at 1 15 bytes ≡ kind_number kind → IsTheCell at.cell kind
  kind_is at bytes kind place said kind_said =
      of_kind at.cell kind place.within (sym (ap (number_at 1 15) (bytes_are pages frame anchor page there is.good is.indexed is.last at bytes place said)) ∙ kind_said)

  pub link_is : (at : CellAt) (link : Link) → IsLink pages frame at link → IsTheCell at.cell link.kind
  link_is at link there_is = kind_is at there_is.bytes link.kind there_is.place there_is.there there_is.kind

  pub used_is : (at : CellAt) (cell : Cell) → IsUsed pages frame at cell → cell ≡ is.cell
  used_is at cell used =
      let stands = used.stands in
      let the = kind_is at stands.bytes cell.head.kind used.place stands.there stands.is.head.kind in
      let bytes : stands.bytes ≡ cell_of page 0 = bytes_are pages frame anchor page there is.good is.indexed is.last at stands.bytes used.place stands.there ∙ ap (cell_of page) the.first in
      one_cell (cell_of page 0) cell is.cell (subst (λ b. IsCell b cell) bytes stands.is) is.first

  -- ---- the rules of cells

  no_primary : (kind : CellKind) → kind ≡ Volume → ¬ kind ≡ Primary
  no_primary kind volume primary = let e : Volume ≡ Primary = sym volume ∙ primary in absurd (cc)

  no_chain : (kind : CellKind) → kind ≡ Volume → ¬ kind ≡ Chain
  no_chain kind volume chain = let e : Volume ≡ Chain = sym volume ∙ chain in absurd (cc)

  no_quota : (kind : CellKind) → kind ≡ Volume → ¬ kind ≡ Quota
  no_quota kind volume quota = let e : Volume ≡ Quota = sym volume ∙ quota in absurd (cc)

  used_volume : (at : CellAt) (cell : Cell) → IsUsed pages frame at cell → cell.head.kind ≡ Volume
  used_volume at cell used = ap (λ (c : Cell). c.head.kind) (used_is at cell used) ∙ is.says.kind

  no_head : (at : CellAt) (link : Link) → ¬ IsChainHead pages frame at link
  no_head at link head =
      let volume = (link_is at link head.0).volume in
      ⊎_elim (no_primary link.kind volume) (λ quota. no_quota link.kind volume quota.0) head.1

  no_wrong_volume : (at : CellAt) → ¬ IsWrongVolumeCell pages frame at
  no_wrong_volume at wrong = ⊎_elim (λ w. unsaid w.0 w.1 w.2) (λ w. elsewhere w.0 w.1 w.3) wrong
    where
      at_one : IsPlace pages frame at → at.vol ≡ 1
      at_one place = ap (λ (h : Home). h.vol) (at_first pages frame anchor page there is.good is.indexed is.last at place)

      unsaid : IsPlace pages frame at → IsFirstPlace frame at → ((cell : Cell) → StandsAt pages at cell → ¬ SaysVolume frame at.vol cell) → ⊥
      unsaid place first none =
          none is.cell (record {
            bytes = cell_of page at.cell;
            there = cell_said pages frame anchor page there is.good is.indexed is.last at place;
            is = subst (λ c. IsCell (cell_of page c) is.cell) (sym first.1) is.first;
          }) (subst (λ vol. SaysVolume frame vol is.cell) (sym (at_one place)) is.says)

      elsewhere : (link : Link) → IsLink pages frame at link → ¬ IsFirstPlace frame at → ⊥
      elsewhere link linked other =
          other (ap (λ (h : Home). h.page) (at_first pages frame anchor page there is.good is.indexed is.last at linked.place) ∙ ap (first_cells frame) (sym (at_one linked.place)), (link_is at link linked).first)

  no_cell_fault : (table : Table) (at : CellAt) → ¬ IsCellFault pages frame table at
  no_cell_fault table at fault =
      ⊎_elim (no_wrong_volume at)
      (λ a. ⊎_elim (λ w. no_primary w.cell.head.kind (used_volume at w.cell w.used) w.kind)
      (λ b. ⊎_elim (λ w. ⊎_elim (λ chain. no_chain w.cell.head.kind (used_volume at w.cell w.used) chain.0) (λ quota. no_quota w.cell.head.kind (used_volume at w.cell w.used) quota.0) w.wrong)
      (λ c. ⊎_elim (λ w. no_head w.start w.is.first w.is.begins)
      (λ d. ⊎_elim (λ w. let volume = (link_is at w.link w.is).volume in ⊎_elim (no_chain w.link.kind volume) (no_quota w.link.kind volume) w.kind)
      (λ e. ⊎_elim (λ w. no_head w.chain.start w.first w.chain.is_head)
      (λ f. ⊎_elim (λ w. no_head w.chain.start w.first w.chain.is_head)
      (λ w. no_primary w.first.head.kind (used_volume w.start w.first w.first_is) w.kind) f) e) d) c) b) a)
      fault

  pub no_cells_fault : (table : Table) (home : Home) → ¬ IsCellsFault pages frame table home
  no_cells_fault table home fault =
      ⊎_elim (no_cells_page pages frame anchor page there is.good is.indexed is.last home)
      (λ a. ⊎_elim (no_wrong_header pages frame anchor page there is.good is.indexed is.last home)
      (λ b. ⊎_elim (no_wrong_cell home) (λ w. no_cell_fault table w.0 w.2) b) a)
      fault
