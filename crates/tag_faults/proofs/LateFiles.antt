-- Entries that are found to lead to files with numbers of clones that were not made are those of the
-- rule.
use Rattle.std.proofs.Common.{◌↔◌, List, Contains}
use Rattle.cell_faults.specs.domain_base.declared.place.Home.{Home}
use Rattle.cell_faults.specs.page_store.Pages.{Pages}
use Rattle.cell_faults.specs.fileset_table.Table.{Table}
use Rattle.cell_faults.specs.domain_layout.Reached.{Frame}
use Rattle.tag_faults.specs.Entries.{AreEntries, address_of, tag_of}
use Rattle.tag_faults.specs.Late.{HasLate, LeadsToLate}
use Rattle.tag_faults.specs.declared.named.NamedCell.{NamedCell}

pub late_all : (pages : Pages) (frame : Frame) (table : Table) (entries : List NamedCell) → AreEntries pages frame table entries → (home : Home)
    → ((one : NamedCell) × Contains entries one × LeadsToLate pages frame table home one) ↔ HasLate pages frame table home
late_all pages frame table entries are home = (
  λ (one, among, (same, original, first, (cell, is, (value, there, late)))). (
    address_of one,
    same,
    record {
      number = one.number;
      tag = tag_of one;
      home = one.home;
      named = (are one).0 among;
      original = original;
      first = first;
      cell = cell;
      is = is;
      value = value;
      attributes = there;
      late = late;
    },
  ),
  λ (at, same, late).
      let one : NamedCell = record { number = late.number; slot = late.tag.slot; seq = late.tag.seq; vol = at.vol; cell = at.cell; page = at.page; home = late.home } in
      (one, (are one).1 late.named, (same, late.original, late.first, (late.cell, late.is, (late.value, late.attributes, late.late)))),
)
