use Rattle.std.proofs.Common.{◌≤◌, List, rules, subst, sym}
use Rattle.tag_dirs.specs.declared.dir.TagPlace.{TagPlace}
use Rattle.fileset_files.specs.Creation.{Creates, LeavesBeside, TakesNext}
use Rattle.fileset_files.proofs.Created.{apart_at, beside_created, creates, last_taken, others_created, prepared_taken, takes_next}
use Rattle.fileset_files.proofs.FirstRoom.{first_fits}
use Rattle.fileset_files.proofs.creating.create_as.Goals as goal

pub enter_file-requires-clause-directory : goal.enter_file-requires-clause-directory
enter_file-requires-clause-directory g c =
    let old = g.M.MetaPages.pages c.args.pages.now in
    let between = g.M.MetaPages.pages c.take_cell.new.pages in
    let at = c.in_ok-at.at in
    let low : 1 ≤ at.vol = search rules in
    let prepared = prepared_taken c.args.prefer at old between c.args.fileset c.args.tags.now c.requires.together.0 c.args.space.now c.take_cell.new.space c.args.cells.now c.take_cell.new.cells low c.requires.together.1 c.in_ok-at.ensures.ok c.in_ok-at.ensures.allocated c.in_ok-at.ensures.zeros c.args.tag.now c.requires.tag in
    prepared.together.files.directory

pub enter_file-requires-clause-tag : goal.enter_file-requires-clause-tag
enter_file-requires-clause-tag g c =
    let old = g.M.MetaPages.pages c.args.pages.now in
    let between = g.M.MetaPages.pages c.take_cell.new.pages in
    let at = c.in_ok-at.at in
    let low : 1 ≤ at.vol = search rules in
    let prepared = prepared_taken c.args.prefer at old between c.args.fileset c.args.tags.now c.requires.together.0 c.args.space.now c.take_cell.new.space c.args.cells.now c.take_cell.new.cells low c.requires.together.1 c.in_ok-at.ensures.ok c.in_ok-at.ensures.allocated c.in_ok-at.ensures.zeros c.args.tag.now c.requires.tag in
    prepared.can

pub enter_file-requires-clause-apart : goal.enter_file-requires-clause-apart
enter_file-requires-clause-apart g c =
    let old = g.M.MetaPages.pages c.args.pages.now in
    let between = g.M.MetaPages.pages c.take_cell.new.pages in
    let at = c.in_ok-at.at in
    let low : 1 ≤ at.vol = search rules in
    let prepared = prepared_taken c.args.prefer at old between c.args.fileset c.args.tags.now c.requires.together.0 c.args.space.now c.take_cell.new.space c.args.cells.now c.take_cell.new.cells low c.requires.together.1 c.in_ok-at.ensures.ok c.in_ok-at.ensures.allocated c.in_ok-at.ensures.zeros c.args.tag.now c.requires.tag in
    apart_at c.args.fileset c.args.tags.now c.args.tag.now at c.requires.together.0 c.take_cell.new.space c.args.cells.now c.take_cell.new.cells old between prepared

pub enter_file-requires-clause-fits : goal.enter_file-requires-clause-fits
enter_file-requires-clause-fits g c = first_fits c.in_ok-records.records c.in_ok-records.ensures.good c.in_ok-records.ensures.kinds

pub returns-clause-ok : goal.returns-clause-ok
returns-clause-ok g c = λ chains are.
    let old = g.M.MetaPages.pages c.args.pages.now in
    let between = g.M.MetaPages.pages c.take_cell.new.pages in
    let at = c.in_ok-at.at in
    let low : 1 ≤ at.vol = search rules in
    let prepared = prepared_taken c.args.prefer at old between c.args.fileset c.args.tags.now chains c.args.space.now c.take_cell.new.space c.args.cells.now c.take_cell.new.cells low are c.in_ok-at.ensures.ok c.in_ok-at.ensures.allocated c.in_ok-at.ensures.zeros c.args.tag.now c.requires.tag in
    subst (λ (places : List TagPlace). Creates c.args.fileset places c.args.tag.now c.args.version c.args.what.now chains c.take_cell.new.space c.args.cells.now c.take_cell.new.cells old (g.M.MetaPages.pages c.enter_file.new.pages)) (sym c.enter_file.ensures.same)
    (creates c.args.fileset c.args.tags.now c.args.tag.now at chains c.take_cell.new.space c.args.cells.now c.take_cell.new.cells old between prepared c.in_ok-records.records (g.M.MetaPages.pages c.enter_file.new.pages) c.enter_file.ensures.entered c.args.version c.args.what.now c.in_ok-records.ensures)

pub returns-clause-next : goal.returns-clause-next
returns-clause-next g c =
    let old = g.M.MetaPages.pages c.args.pages.now in
    let between = g.M.MetaPages.pages c.take_cell.new.pages in
    let at = c.in_ok-at.at in
    let low : 1 ≤ at.vol = search rules in
    let prepared = prepared_taken c.args.prefer at old between c.args.fileset c.args.tags.now c.requires.together.0 c.args.space.now c.take_cell.new.space c.args.cells.now c.take_cell.new.cells low c.requires.together.1 c.in_ok-at.ensures.ok c.in_ok-at.ensures.allocated c.in_ok-at.ensures.zeros c.args.tag.now c.requires.tag in
    let last = last_taken c.args.prefer at old between c.args.fileset c.args.tags.now c.requires.together.0 c.args.space.now c.take_cell.new.space c.args.cells.now c.take_cell.new.cells low c.requires.together.1 c.in_ok-at.ensures.ok c.in_ok-at.ensures.allocated c.in_ok-at.ensures.zeros in
    subst (λ (places : List TagPlace). TakesNext c.args.tag.now c.args.tags.now places old (g.M.MetaPages.pages c.enter_file.new.pages)) (sym c.enter_file.ensures.same)
    (takes_next c.args.fileset c.args.tags.now c.args.tag.now at c.requires.together.0 c.take_cell.new.space c.args.cells.now c.take_cell.new.cells old between prepared c.in_ok-records.records (g.M.MetaPages.pages c.enter_file.new.pages) c.enter_file.ensures.entered c.args.version c.args.what.now c.in_ok-records.ensures c.args.tags.now last)

pub returns-clause-others : goal.returns-clause-others
returns-clause-others g c =
    let old = g.M.MetaPages.pages c.args.pages.now in
    let between = g.M.MetaPages.pages c.take_cell.new.pages in
    let at = c.in_ok-at.at in
    let low : 1 ≤ at.vol = search rules in
    let prepared = prepared_taken c.args.prefer at old between c.args.fileset c.args.tags.now c.requires.together.0 c.args.space.now c.take_cell.new.space c.args.cells.now c.take_cell.new.cells low c.requires.together.1 c.in_ok-at.ensures.ok c.in_ok-at.ensures.allocated c.in_ok-at.ensures.zeros c.args.tag.now c.requires.tag in
    others_created c.args.fileset c.args.tags.now c.args.tag.now at c.requires.together.0 c.take_cell.new.space c.args.cells.now c.take_cell.new.cells old between prepared c.in_ok-records.records (g.M.MetaPages.pages c.enter_file.new.pages) c.enter_file.ensures.entered c.args.version c.args.what.now c.in_ok-records.ensures

pub returns-clause-elsewhere : goal.returns-clause-elsewhere
returns-clause-elsewhere g c =
    let old = g.M.MetaPages.pages c.args.pages.now in
    let between = g.M.MetaPages.pages c.take_cell.new.pages in
    let at = c.in_ok-at.at in
    let low : 1 ≤ at.vol = search rules in
    let prepared = prepared_taken c.args.prefer at old between c.args.fileset c.args.tags.now c.requires.together.0 c.args.space.now c.take_cell.new.space c.args.cells.now c.take_cell.new.cells low c.requires.together.1 c.in_ok-at.ensures.ok c.in_ok-at.ensures.allocated c.in_ok-at.ensures.zeros c.args.tag.now c.requires.tag in
    subst (λ (places : List TagPlace). LeavesBeside c.take_cell.new.cells places old (g.M.MetaPages.pages c.enter_file.new.pages)) (sym c.enter_file.ensures.same)
    (beside_created c.args.fileset c.args.tags.now c.args.tag.now at c.requires.together.0 c.take_cell.new.space c.args.cells.now c.take_cell.new.cells old between prepared c.in_ok-records.records (g.M.MetaPages.pages c.enter_file.new.pages) c.enter_file.ensures.entered c.args.version c.args.what.now c.in_ok-records.ensures)
