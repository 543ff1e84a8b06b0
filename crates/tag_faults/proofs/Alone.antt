-- First cells that are found to be named by no entry are those of the rules.
use Rattle.std.proofs.Common.{◌≡◌, ◌∙◌, ◌↔◌, Bool, true, false, not, IsTrue, List, Contains, refl, sym, subst}
use mathlib.Core.Bool.{false≢true}
use Rattle.cell_faults.specs.domain_base.declared.place.CellAt.{CellAt}
use Rattle.cell_faults.specs.domain_base.declared.place.Home.{Home}
use Rattle.cell_faults.specs.page_store.Pages.{Pages}
use Rattle.cell_faults.specs.metadata_cells.Cell.{Cell, kind_number}
use Rattle.cell_faults.specs.metadata_cells.Chain.{StandsAt}
use Rattle.cell_faults.specs.metadata_cells.declared.head.CellKind.TheVariants.{Primary}
use Rattle.cell_faults.proofs.OfMetadataCells.Unique.{one_stands}
use Rattle.cell_faults.specs.fileset_table.Table.{Table}
use Rattle.cell_faults.specs.domain_layout.CellRules.{next_in, say_removed}
use Rattle.cell_faults.specs.domain_layout.Reached.{Frame}
use Rattle.cell_faults.specs.domain_layout.TagRules.{HasEntry, IsFirstOf}
use Rattle.cell_faults.specs.cell_chains.Links.{HasLink}
use Rattle.cell_faults.specs.cell_chains.Members.{IsIn}
use Rattle.cell_faults.specs.cell_chains.declared.links.CellLink.{CellLink}
use Rattle.cell_faults.specs.cell_chains.declared.links.CellLinks.{CellLinks}
use Rattle.cell_faults.specs.cell_chains.declared.set.CellSet.{CellSet}
use Rattle.cell_faults.specs.Links.{AreLinks}
use Rattle.cell_faults.proofs.Walks.{is_link}
use Rattle.tag_faults.specs.Entries.{AreEntries, tag_of}
use Rattle.tag_faults.specs.Unnamed.{HasUnnamed, IsFirstAlone, IsNamed, LeadsToFirst, Stays}
use Rattle.tag_faults.specs.declared.named.NamedCell.{NamedCell}

-- whether the cell at a place stays
pub stays_by : (pages : Pages) (at : CellAt) (cell : Cell) (removed : Bool) → StandsAt pages at cell → removed ≡ say_removed cell.records → IsTrue (not removed) ↔ Stays pages at
stays_by pages at cell true stands says = ((λ yes. absurd (false≢true yes)), (λ stays. absurd (false≢true (sym (stays cell stands) ∙ sym says))))
stays_by pages at cell false stands says = ((λ yes other there. subst (λ (c : Cell). say_removed c.records ≡ false) (one_stands pages at cell other stands there) (sym says)), (λ stays. refl))

-- the cells of entries are those that entries name
pub named_all : (pages : Pages) (frame : Frame) (table : Table) (entries : List NamedCell) → AreEntries pages frame table entries → (at : CellAt)
    → ((one : NamedCell) × Contains entries one × LeadsToFirst pages frame at one) ↔ IsNamed pages frame table at
named_all pages frame table entries are at = (
  λ (one, among, (same, is)). (
    one.number,
    tag_of one,
    one.home,
    subst (λ a. HasEntry pages frame table one.number (tag_of one) a one.home) same ((are one).0 among),
    subst (IsFirstOf pages frame one.number (tag_of one)) same is,
  ),
  λ (number, tag, home, has, is).
      let one : NamedCell = record { number = number; slot = tag.slot; seq = tag.seq; vol = at.vol; cell = at.cell; page = at.page; home = home } in
      (one, (are one).1 has, (refl, is)),
)

module _ (pages : Pages) (frame : Frame) (table : Table) (links : CellLinks) (are : AreLinks pages frame links) (named : CellSet) (all_named : (at : CellAt) → IsIn named at ↔ IsNamed pages frame table at) where
  pub alone_all : (home : Home) → ((at : CellAt) × (link : CellLink) × HasLink links at link × IsFirstAlone pages named home at link) ↔ HasUnnamed pages frame table home
  alone_all home = (
    λ (at, link, has, (same, kind, alone, stays)).
        let there = is_link pages frame links are at link has in (
          at,
          same,
          record {
            place = there.place;
            bytes = there.bytes;
            there = there.there;
            kind = there.kind ∙ (λ i. kind_number (kind i));
            stays = λ cell used. stays cell used.stands;
            unnamed = λ number tag other is has_entry. alone ((all_named at).1 (number, tag, other, has_entry, is));
          },
        ),
    λ (at, same, wrong).
        let link : CellLink = record { kind = Primary; next = next_in wrong.bytes } in (
          at,
          link,
          (are at link).1 (record { place = wrong.place; bytes = wrong.bytes; there = wrong.there; kind = wrong.kind; next = refl }),
          (
            same,
            refl,
            (λ among. let (number, tag, other, has, is) = (all_named at).0 among in wrong.unnamed number tag other is has),
            (λ cell stands. wrong.stays cell (record { place = wrong.place; stands = stands })),
          ),
        ),
  )
