use Rattle.std.proofs.Common.{◌∙◌, rules, sym, subst}
use Rattle.fileset_files.specs.Files.{IsLiveCell}
use Rattle.fileset_files.proofs.Room.{AreFit}
use Rattle.fileset_files.proofs.SetFirst.{allowed_now, changes_first, files_set, map_ok, no_cell, no_record, room_now, stands_first, the_first}
use Rattle.file_chains.specs.domain_base.declared.place.CellAt.{CellAt}
use Rattle.file_chains.specs.metadata_cells.Chain.{LeavesOthers, is_at}
use Rattle.fileset_files.specs.Changes.{says_attributes}
use Rattle.fileset_files.proofs.FirstTogether.{attributes_keep, runs_kept, together_first}
use Rattle.fileset_files.proofs.RemoveFile.{the_first as any_first}
use Rattle.fileset_files.proofs.bitfiles.Bitfiles.set_attributes.Goals as goal

pub returns-in_default-clause-ok : goal.returns-in_default-clause-ok
returns-in_default-clause-ok g c = λ chains are.
    let pages = g.M.MetaPages.pages c.args.pages.now in
    absurd (no_cell pages c.args.value.now c.args.tag chains (c.requires.live chains are) (subst (IsLiveCell pages (chains c.args.tag)) c.in_default.is (c.live_cell.ensures chains are)))

pub returns-in_default-first_record-clause-ok : goal.returns-in_default-first_record-clause-ok
returns-in_default-first_record-clause-ok g c = λ chains are.
    let pages = g.M.MetaPages.pages c.args.pages.now in
    absurd (no_record pages c.args.value.now c.args.tag chains c.in-Some.at (c.requires.live chains are) (subst (IsLiveCell pages (chains c.args.tag)) c.in-Some.is (c.live_cell.ensures chains are))
    (λ cells is_file. sym c.in_default-first_record.is ∙ c.first_record.ensures cells is_file))

pub set_record-requires-clause-room : goal.set_record-requires-clause-room
set_record-requires-clause-room g c =
    let pages = g.M.MetaPages.pages c.args.pages.now in
    let chains = c.requires.files.0 in
    let are = c.requires.files.1 in
    let can = c.requires.live chains are in
    let live = subst (IsLiveCell pages (chains c.args.tag)) c.in-Some.is (c.live_cell.ensures chains are) in
    let fit : AreFit c.args.value.now = record { uid = search rules; gid = search rules; size = search rules; named = can.named; most = can.most } in
    room_now pages c.args.value.now c.args.tag chains c.in-Some.at live c.in-Some-first_record.was c.with_attributes.result
    (λ cells is_file. sym c.in-Some-first_record.is ∙ c.first_record.ensures cells is_file) c.with_attributes.ensures fit

pub set_record-requires-clause-allowed : goal.set_record-requires-clause-allowed
set_record-requires-clause-allowed g c =
    let pages = g.M.MetaPages.pages c.args.pages.now in
    let chains = c.requires.files.0 in
    let are = c.requires.files.1 in
    let can = c.requires.live chains are in
    let live = subst (IsLiveCell pages (chains c.args.tag)) c.in-Some.is (c.live_cell.ensures chains are) in
    let fit : AreFit c.args.value.now = record { uid = search rules; gid = search rules; size = search rules; named = can.named; most = can.most } in
    allowed_now pages c.args.value.now c.args.tag chains c.in-Some.at live c.in-Some-first_record.was c.with_attributes.result
    (λ cells is_file. sym c.in-Some-first_record.is ∙ c.first_record.ensures cells is_file) c.with_attributes.ensures fit

pub returns-clause-ok : goal.returns-clause-ok
returns-clause-ok g c = λ chains are.
    let pages = g.M.MetaPages.pages c.args.pages.now in
    let live = subst (IsLiveCell pages (chains c.args.tag)) c.in-Some.is (c.live_cell.ensures chains are) in
    let of = the_first pages c.args.value.now c.args.tag chains c.in-Some.at live c.in-Some-first_record.was c.with_attributes.result
    (λ cells is_file. sym c.in-Some-first_record.is ∙ c.first_record.ensures cells is_file) c.with_attributes.ensures in
    let stands = stands_first pages c.args.value.now c.args.tag chains c.in-Some.at live c.in-Some-first_record.was c.with_attributes.result
    (λ cells is_file. sym c.in-Some-first_record.is ∙ c.first_record.ensures cells is_file) c.with_attributes.ensures in
    map_ok
    (λ now. files_set pages c.args.value.now c.args.tag chains c.in-Some.at live c.in-Some-first_record.was c.with_attributes.result
    (λ cells is_file. sym c.in-Some-first_record.is ∙ c.first_record.ensures cells is_file) c.with_attributes.ensures
    c.args.self.now.fileset c.args.self.now.tags (g.M.MetaPages.pages c.set_record.new.pages) are now c.set_record.ensures.others c.set_record.ensures.elsewhere)
    c.set_record.result (c.set_record.ensures.ok of.first.cell stands)

pub returns-clause-beside : goal.returns-clause-beside
returns-clause-beside g c = λ chains are.
    let pages = g.M.MetaPages.pages c.args.pages.now in
    let live = subst (IsLiveCell pages (chains c.args.tag)) c.in-Some.is (c.live_cell.ensures chains are) in
    changes_first pages c.args.value.now c.args.tag chains c.in-Some.at live c.in-Some-first_record.was c.with_attributes.result
    (λ cells is_file. sym c.in-Some-first_record.is ∙ c.first_record.ensures cells is_file) c.with_attributes.ensures
    (g.M.MetaPages.pages c.set_record.new.pages) c.set_record.ensures.others c.set_record.ensures.elsewhere

pub returns-in_default-clause-together : goal.returns-in_default-clause-together
returns-in_default-clause-together g c = λ space cells chains are.
    let pages = g.M.MetaPages.pages c.args.pages.now in
    absurd (no_cell pages c.args.value.now c.args.tag chains (c.requires.live chains are.files) (subst (IsLiveCell pages (chains c.args.tag)) c.in_default.is (c.live_cell.ensures chains are.files)))

pub returns-in_default-first_record-clause-together : goal.returns-in_default-first_record-clause-together
returns-in_default-first_record-clause-together g c = λ space cells chains are.
    let pages = g.M.MetaPages.pages c.args.pages.now in
    absurd (no_record pages c.args.value.now c.args.tag chains c.in-Some.at (c.requires.live chains are.files) (subst (IsLiveCell pages (chains c.args.tag)) c.in-Some.is (c.live_cell.ensures chains are.files))
    (λ cells is_file. sym c.in_default-first_record.is ∙ c.first_record.ensures cells is_file))

pub returns-clause-together : goal.returns-clause-together
returns-clause-together g c = λ space cells chains are.
    let pages = g.M.MetaPages.pages c.args.pages.now in
    let new = g.M.MetaPages.pages c.set_record.new.pages in
    let live = subst (IsLiveCell pages (chains c.args.tag)) c.in-Some.is (c.live_cell.ensures chains are.files) in
    let of = any_first pages c.args.self.now.fileset c.args.self.now.tags c.args.tag chains c.in-Some.at are.files live in
    map_ok
    (λ files. together_first pages new c.args.self.now.fileset c.args.self.now.tags c.args.tag chains space cells (says_attributes c.args.value.now) are files of.first of.rest of.is of.file.links.stands
    (subst (λ (a : CellAt). LeavesOthers (is_at a) pages new) (sym of.is_at) c.set_record.ensures.others) c.set_record.ensures.well_formed c.set_record.ensures.headers
    (runs_kept (says_attributes c.args.value.now) of.first of.rest (attributes_keep pages of.first of.rest of.file c.args.value.now)))
    c.set_record.result (returns-clause-ok g c chains are.files)
