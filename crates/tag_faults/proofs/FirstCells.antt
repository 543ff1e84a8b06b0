-- First cells to which entries lead, by what was read of cells in use.
use Rattle.std.proofs.Common.{◌≡◌, ◌∙◌, ◌↔◌, Bool, IsTrue, List, ℕ, Some, Contains, refl, sym, ap, subst}
use Rattle.cell_faults.specs.domain_base.declared.place.CellAt.{CellAt}
use Rattle.cell_faults.specs.domain_base.declared.place.Home.{Home}
use Rattle.cell_faults.specs.page_store.Pages.{Pages}
use Rattle.cell_faults.specs.metadata_cells.Cell.{kind_number}
use Rattle.cell_faults.specs.metadata_cells.CellPage.{cell_at}
use Rattle.cell_faults.specs.metadata_cells.declared.head.CellKind.TheVariants.{Primary}
use Rattle.cell_faults.specs.fileset_table.Table.{Table}
use Rattle.cell_faults.specs.domain_layout.CellRules.{next_in}
use Rattle.cell_faults.specs.domain_layout.Reached.{Frame}
use Rattle.cell_faults.specs.domain_layout.TagRules.{HasEntry, IsFirstOf, IsWrongEntry}
use Rattle.cell_faults.specs.cell_chains.Links.{HasLink}
use Rattle.cell_faults.specs.cell_chains.declared.links.CellLink.{CellLink}
use Rattle.cell_faults.specs.cell_chains.declared.links.CellLinks.{CellLinks}
use Rattle.cell_faults.proofs.OfCellChains.Whole.{one_link}
use Rattle.cell_faults.specs.Links.{AreLinks}
use Rattle.cell_faults.proofs.Walks.{is_link}
use Rattle.tag_faults.specs.Entries.{AreEntries, LeadsToNoFirst, SaysEntry, address_of, tag_of}
use Rattle.tag_faults.specs.declared.named.NamedCell.{NamedCell}

module _ (pages : Pages) (frame : Frame) (links : CellLinks) (are : AreLinks pages frame links) (entry : NamedCell) (at : CellAt) (same : at ≡ address_of entry) where
  abbrev IsFirst : Type 0
  IsFirst = IsFirstOf pages frame entry.number (tag_of entry) (address_of entry)

  first_at : IsFirst → IsFirstOf pages frame entry.number (tag_of entry) at
  first_at is = subst (IsFirstOf pages frame entry.number (tag_of entry)) (sym same) is

  first_link : (is : IsFirstOf pages frame entry.number (tag_of entry) at) → HasLink links at (record { kind = Primary; next = next_in is.bytes })
  first_link is = (are at (record { kind = Primary; next = next_in is.bytes })).1 (record { place = is.place; bytes = is.bytes; there = is.there; kind = is.kind; next = refl })

  pub no_first : ((link : CellLink) → ¬ HasLink links at link) → ¬ IsFirst
  no_first none is = let there = first_at is in none (record { kind = Primary; next = next_in there.bytes }) (first_link there)

  pub other_first : (link : CellLink) → HasLink links at link → ¬ link.kind ≡ Primary → ¬ IsFirst
  other_first link has other is =
      let there = first_at is in
      other (ap (λ (l : CellLink). l.kind) (one_link links at at link (record { kind = Primary; next = next_in there.bytes }) has (first_link there)))

  pub first_says : (link : CellLink) → HasLink links at link → link.kind ≡ Primary → (says : Bool) → ((bytes : List ℕ) → cell_at pages at ≡ Some bytes → IsTrue says ↔ SaysEntry bytes entry) → IsTrue says ↔ IsFirst
  first_says link has kind says told =
      let there = is_link pages frame links are at link has in (
        λ yes. let said = (told there.bytes there.there).0 yes in
            subst (IsFirstOf pages frame entry.number (tag_of entry)) same (record {
              place = there.place;
              bytes = there.bytes;
              there = there.there;
              kind = there.kind ∙ ap kind_number kind;
              fileset = said.0;
              slot = said.1;
              seq = said.2;
            }),
        λ is. let first = first_at is in (told first.bytes first.there).1 (first.fileset, first.slot, first.seq),
      )

pub wrong_entries : (pages : Pages) (frame : Frame) (table : Table) (entries : List NamedCell) → AreEntries pages frame table entries → (home : Home)
    → ((one : NamedCell) × Contains entries one × LeadsToNoFirst pages frame home one) ↔ IsWrongEntry pages frame table home
wrong_entries pages frame table entries are home = (
  λ (one, among, (same, none)).
      record { number = one.number; tag = tag_of one; at = address_of one; has = subst (HasEntry pages frame table one.number (tag_of one) (address_of one)) same ((are one).0 among); wrong = none },
  λ wrong.
      let one : NamedCell = record { number = wrong.number; slot = wrong.tag.slot; seq = wrong.tag.seq; vol = wrong.at.vol; cell = wrong.at.cell; page = wrong.at.page; home = home } in
      (one, (are one).1 wrong.has, (refl, wrong.wrong)),
)
