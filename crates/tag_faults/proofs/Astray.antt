-- First cells that are found to be read through others than they may are those of the rule.
use Rattle.std.proofs.Common.{◌≡◌, ◌∙◌, ◌↔◌, refl, ap}
use Rattle.cell_faults.specs.domain_base.declared.place.CellAt.{CellAt}
use Rattle.cell_faults.specs.domain_base.declared.place.Home.{Home}
use Rattle.cell_faults.specs.page_store.Pages.{Pages}
use Rattle.cell_faults.specs.metadata_cells.Cell.{kind_number}
use Rattle.cell_faults.specs.metadata_cells.CellPage.{home_of}
use Rattle.cell_faults.specs.metadata_cells.declared.head.CellKind.TheVariants.{Primary}
use Rattle.cell_faults.specs.fileset_table.Table.{Table}
use Rattle.cell_faults.specs.domain_layout.CellRules.{next_in}
use Rattle.cell_faults.specs.domain_layout.Reached.{Frame}
use Rattle.cell_faults.specs.cell_chains.Links.{HasLink}
use Rattle.cell_faults.specs.cell_chains.declared.links.CellLink.{CellLink}
use Rattle.cell_faults.specs.cell_chains.declared.links.CellLinks.{CellLinks}
use Rattle.cell_faults.specs.Links.{AreLinks}
use Rattle.cell_faults.proofs.Walks.{is_link}
use Rattle.tag_faults.specs.Sources.{HasAstray, ReadsAstray}

module _ (pages : Pages) (frame : Frame) (table : Table) (links : CellLinks) (are : AreLinks pages frame links) where
  pub astray_all : (home : Home) → ((at : CellAt) × (link : CellLink) × HasLink links at link × ((home_of at ≡ home) × ReadsAstray pages frame table at)) ↔ HasAstray pages frame table home
  astray_all home = (
    λ (at, link, has, (same, (cell, stands, kind, stays, astray))). (
      at,
      same,
      record {
        cell = cell;
        is = record { place = (is_link pages frame links are at link has).place; stands = stands };
        kind = kind;
        stays = stays;
        of = astray.of;
        clone = astray.clone;
        source = astray.source;
        through = astray.through;
        wrong = astray.wrong;
      },
    ),
    λ (at, same, wrong).
        let stands = wrong.is.stands in
        let link : CellLink = record { kind = Primary; next = next_in stands.bytes } in (
          at,
          link,
          (are at link).1 (record { place = wrong.is.place; bytes = stands.bytes; there = stands.there; kind = stands.is.head.kind ∙ ap kind_number wrong.kind; next = refl }),
          (
            same,
            (
              wrong.cell,
              stands,
              wrong.kind,
              wrong.stays,
              record { of = wrong.of; clone = wrong.clone; source = wrong.source; through = wrong.through; wrong = wrong.wrong },
            ),
          ),
        ),
  )
