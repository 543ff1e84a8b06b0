use Rattle.std.proofs.Common.{◌∙◌, ◌≤◌, IfSome, List, None, Some, ap, length, subst, sym}
use Rattle.file_release.specs.cell_records.declared.record.Record.{Record}
use Rattle.file_release.specs.cell_records.Records.{kind_of}
use Rattle.file_release.specs.metadata_cells.declared.used.UsedCell.{UsedCell}
use Rattle.file_release.specs.metadata_cells.Cell.{AreRecords, Cell, spellings}
use Rattle.file_release.specs.metadata_cells.Chain.{StandsAt}
use Rattle.file_release.proofs.OfMetadataCells.Unique.{one_stands}
use Rattle.file_release.specs.file_chains.Changes.{with_kind}
use Rattle.release_list.specs.Steps.{kept_all, says_trimmed}
use Rattle.release_list.proofs.Records.{trim_said, trimmed_fits, trimmed_good}
use Rattle.release_list.proofs.ending.end_trim.Goals as goal

abbrev changed : Record → List Record → List Record
changed was rs = with_kind 6 None (with_kind (kind_of (kept_all was)) (Some (kept_all was)) rs)

pub write_cell-requires-clause-good : goal.write_cell-requires-clause-good
write_cell-requires-clause-good g c =
    let pages = g.M.MetaPages.pages c.args.pages.now in
    let cell : Cell = record { head = c.in-Some-2.used.head; records = c.in-Some-2.used.records } in
    let stands : StandsAt pages c.args.at.now cell
    = subst (λ o. IfSome o (λ (used : UsedCell). StandsAt pages c.args.at.now (record { head = used.head; records = used.records }))) c.in-Some-2.is c.in_ok-used.ensures.some in
    let has = sym (c.find_record.ensures cell stands) ∙ c.in-Some.is in
    subst AreRecords (sym (c.in_ok-records.ensures ∙ ap (changed c.in-Some.was) c.as_slice.ensures ∙ trim_said cell c.in-Some.was has))
    (trimmed_good pages c.args.at.now cell c.in-Some.was stands has)

pub write_cell-requires-clause-fits : goal.write_cell-requires-clause-fits
write_cell-requires-clause-fits g c =
    let pages = g.M.MetaPages.pages c.args.pages.now in
    let cell : Cell = record { head = c.in-Some-2.used.head; records = c.in-Some-2.used.records } in
    let stands : StandsAt pages c.args.at.now cell
    = subst (λ o. IfSome o (λ (used : UsedCell). StandsAt pages c.args.at.now (record { head = used.head; records = used.records }))) c.in-Some-2.is c.in_ok-used.ensures.some in
    let has = sym (c.find_record.ensures cell stands) ∙ c.in-Some.is in
    subst (λ (rs : List Record). length (spellings rs) ≤ 272) (sym (c.in_ok-records.ensures ∙ ap (changed c.in-Some.was) c.as_slice.ensures ∙ trim_said cell c.in-Some.was has))
    (trimmed_fits pages c.args.at.now cell c.in-Some.was stands has)

pub returns-clause-ok : goal.returns-clause-ok
returns-clause-ok g c = λ other there.
    let pages = g.M.MetaPages.pages c.args.pages.now in
    let new = g.M.MetaPages.pages c.write_cell.new.pages in
    let cell : Cell = record { head = c.in-Some-2.used.head; records = c.in-Some-2.used.records } in
    let stands : StandsAt pages c.args.at.now cell
    = subst (λ o. IfSome o (λ (used : UsedCell). StandsAt pages c.args.at.now (record { head = used.head; records = used.records }))) c.in-Some-2.is c.in_ok-used.ensures.some in
    let has = sym (c.find_record.ensures cell stands) ∙ c.in-Some.is in
    subst (λ (x : Cell). StandsAt new c.args.at.now (says_trimmed x)) (one_stands pages c.args.at.now cell other stands there)
    (subst (λ (rs : List Record). StandsAt new c.args.at.now (record { head = c.in-Some-2.used.head; records = rs })) (c.in_ok-records.ensures ∙ ap (changed c.in-Some.was) c.as_slice.ensures ∙ trim_said cell c.in-Some.was has) c.write_cell.ensures.stands)
