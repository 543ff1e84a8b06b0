use Rattle.std.proofs.Common.{◌∙◌, OnOk, Some, ap, subst, sym}
use Rattle.file_release.specs.cell_records.Records.{Allowed, kind_of}
use Rattle.file_release.specs.metadata_cells.Chain.{StandsAt}
use Rattle.file_release.specs.file_chains.Changes.{HasRoom, with_record}
use Rattle.release_list.proofs.Records.{source_said, sourceless_fine, sourceless_room}
use Rattle.release_list.proofs.ending.end_reading.Goals as goal

pub set_record-requires-clause-room : goal.set_record-requires-clause-room
set_record-requires-clause-room g c =
    let pages = g.M.MetaPages.pages c.args.pages.now in
    let h = c.requires in
    subst (λ r. HasRoom pages c.args.at.now (kind_of r) (Some r)) (sym c.without_source.ensures)
    (sourceless_room pages c.args.at.now h.cell c.in-Some.was h.stands (sym (c.find_record.ensures h.cell h.stands) ∙ c.in-Some.is))

pub set_record-requires-clause-allowed : goal.set_record-requires-clause-allowed
set_record-requires-clause-allowed g c =
    let h = c.requires in
    subst Allowed (sym c.without_source.ensures)
    (sourceless_fine (g.M.MetaPages.pages c.args.pages.now) c.args.at.now h.cell c.in-Some.was h.stands (sym (c.find_record.ensures h.cell h.stands) ∙ c.in-Some.is))

pub returns-in-Some-clause-ok : goal.returns-in-Some-clause-ok
returns-in-Some-clause-ok g c = λ cell there.
    subst (λ x. OnOk c.set_record.result (StandsAt (g.M.MetaPages.pages c.set_record.new.pages) c.args.at.now x))
    (ap (λ r. with_record (kind_of r) (Some r) cell) c.without_source.ensures ∙ source_said cell c.in-Some.was (sym (c.find_record.ensures cell there) ∙ c.in-Some.is))
    (c.set_record.ensures.ok cell there)
