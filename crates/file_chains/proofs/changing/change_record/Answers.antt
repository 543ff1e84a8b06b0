use Rattle.std.proofs.Common.{◌∙◌, ◌≤◌, IfSome, List, length, ap, subst, sym}
use Rattle.free_cells.specs.cell_records.declared.record.Record.{Record}
use Rattle.free_cells.specs.metadata_cells.declared.used.UsedCell.{UsedCell}
use Rattle.free_cells.specs.metadata_cells.Cell.{AreRecords, Cell, spellings}
use Rattle.free_cells.specs.metadata_cells.Chain.{StandsAt}
use Rattle.free_cells.proofs.OfMetadataCells.Unique.{one_stands}
use Rattle.file_chains.specs.Changes.{with_kind, with_record}
use Rattle.file_chains.proofs.Replaced.{records_replaced}
use Rattle.file_chains.proofs.changing.change_record.Goals as goal

pub write_cell-requires-clause-good : goal.write_cell-requires-clause-good
write_cell-requires-clause-good g c =
    let pages = g.M.MetaPages.pages c.args.pages.now in
    let stands : StandsAt pages c.args.at.now (record { head = c.in-Some.used.head; records = c.in-Some.used.records })
    = subst (λ o. IfSome o (λ (used : UsedCell). StandsAt pages c.args.at.now (record { head = used.head; records = used.records }))) c.in-Some.is c.in_ok-used.ensures.some in
    subst AreRecords (sym (c.in_ok-records.ensures ∙ ap (with_kind c.args.kind c.args.value.now) c.as_slice.ensures))
    (records_replaced c.args.kind c.args.value.now c.in-Some.used.records stands.is.well_formed c.requires.allowed c.requires.of_kind)

pub write_cell-requires-clause-fits : goal.write_cell-requires-clause-fits
write_cell-requires-clause-fits g c =
    let pages = g.M.MetaPages.pages c.args.pages.now in
    let stands : StandsAt pages c.args.at.now (record { head = c.in-Some.used.head; records = c.in-Some.used.records })
    = subst (λ o. IfSome o (λ (used : UsedCell). StandsAt pages c.args.at.now (record { head = used.head; records = used.records }))) c.in-Some.is c.in_ok-used.ensures.some in
    let same = one_stands pages c.args.at.now c.requires.room.cell (record { head = c.in-Some.used.head; records = c.in-Some.used.records }) c.requires.room.stands stands in
    subst (λ (rs : List Record). length (spellings rs) ≤ 272)
    (ap (λ (cell : Cell). with_kind c.args.kind c.args.value.now cell.records) same ∙ sym (c.in_ok-records.ensures ∙ ap (with_kind c.args.kind c.args.value.now) c.as_slice.ensures)) c.requires.room.fits

pub returns-clause-ok : goal.returns-clause-ok
returns-clause-ok g c = λ cell there.
    let pages = g.M.MetaPages.pages c.args.pages.now in
    let stands : StandsAt pages c.args.at.now (record { head = c.in-Some.used.head; records = c.in-Some.used.records })
    = subst (λ o. IfSome o (λ (used : UsedCell). StandsAt pages c.args.at.now (record { head = used.head; records = used.records }))) c.in-Some.is c.in_ok-used.ensures.some in
    let same = one_stands pages c.args.at.now (record { head = c.in-Some.used.head; records = c.in-Some.used.records }) cell stands there in
    let records = c.in_ok-records.ensures ∙ ap (with_kind c.args.kind c.args.value.now) c.as_slice.ensures in
    subst (λ (cell : Cell). StandsAt (g.M.MetaPages.pages c.write_cell.new.pages) c.args.at.now (with_record c.args.kind c.args.value.now cell)) same
    (subst (λ (rs : List Record). StandsAt (g.M.MetaPages.pages c.write_cell.new.pages) c.args.at.now (record { head = c.in-Some.used.head; records = rs })) records c.write_cell.ensures.stands)
