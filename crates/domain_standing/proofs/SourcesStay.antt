-- No file comes to be read through another one where pages of cells stay.
use Rattle.std.proofs.Common.{◌≡◌, ◌∙◌, ℕ, List, Option, Contains, sym, ap, subst}
use Rattle.fileset_shapes.specs.domain_base.declared.place.CellAt.{CellAt}
use Rattle.fileset_shapes.specs.domain_base.declared.place.Home.{Home}
use Rattle.fileset_shapes.specs.metadata_cells.CellPage.{cell_at, home_of}
use Rattle.fileset_shapes.specs.free_cells.Cells.{table_of}
use Rattle.fileset_shapes.specs.log_ring.Homes.{IsMember}
use Rattle.domain_standing.specs.Domain.{DomainNow, layout_of}
use Rattle.domain_standing.specs.Sources.{HasSource, StandAlone}

module _ (d now : DomainNow) (anchor : now.frame.anchor ≡ d.frame.anchor) (tables : (vol : ℕ) → IsMember d.frame.anchor vol → table_of now.cells vol ≡ table_of d.cells vol)
    (pages : (home : Home) → IsMember d.frame.anchor home.vol → Contains (table_of d.cells home.vol) home.page → now.pages home ≡ d.pages home) where
  said_before : (at : CellAt) → HasSource now.pages (layout_of now) at → HasSource d.pages (layout_of d) at
  said_before at has =
      let member = subst (λ a. IsMember a at.vol) anchor has.on.member in
      let table = subst (λ (t : List ℕ). Contains t at.page) (tables at.vol member) has.on.table in
      record {
        cell = has.cell;
        on = record {
          member = member;
          table = table;
          stands = record {
            bytes = has.on.stands.bytes;
            there = sym (ap (λ (o : Option (List ℕ)). cell_at (λ _. o) at) (pages (home_of at) member table)) ∙ has.on.stands.there;
            is = has.on.stands.is;
          };
        };
        kind = has.kind;
        says = has.says;
      }

  pub sources_stay : StandAlone d → StandAlone now
  sources_stay alone at has = alone at (said_before at has)
