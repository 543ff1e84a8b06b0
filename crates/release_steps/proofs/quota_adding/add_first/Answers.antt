use Rattle.std.proofs.Common.{◌≤◌, List, rules, subst}
use Rattle.release_list.specs.cell_records.declared.record.Record.{Record}
use Rattle.release_list.specs.metadata_cells.declared.head.CellHead.{CellHead}
use Rattle.release_list.specs.metadata_cells.Chain.{StandsAt}
use Rattle.release_steps.specs.QuotaChain.{quota_head}
use Rattle.release_steps.proofs.AddedCell.{first_allocated, first_elsewhere, first_few, first_others, first_set}
use Rattle.release_steps.proofs.quota_adding.add_first.Goals as goal

pub returns-clause-ok : goal.returns-clause-ok
returns-clause-ok g c =
    let old = g.M.MetaPages.pages c.args.pages.now in
    let between = g.M.MetaPages.pages c.take_cell.new.pages in
    let at = c.in_ok-at.at in
    let low : 1 ≤ at.vol = search rules in
    let new = g.M.MetaPages.pages c.write_cell.new.pages in
    let there = subst (λ (h : CellHead). StandsAt new at (record { head = h; records = c.in_ok-records.records })) c.new_head.ensures c.write_cell.ensures.stands in
    let stands = subst (λ (rs : List Record). StandsAt new at (record { head = quota_head c.args.fileset; records = rs })) c.in_ok-records.ensures.value there in
    first_set c.args.prefer at c.args.space.now c.take_cell.new.space c.args.cells.now c.take_cell.new.cells old between low c.requires.allocated c.in_ok-at.ensures.ok c.in_ok-at.ensures.zeros c.args.fileset c.args.who c.args.limits c.requires.named new stands

pub returns-clause-others : goal.returns-clause-others
returns-clause-others g c =
    let old = g.M.MetaPages.pages c.args.pages.now in
    let between = g.M.MetaPages.pages c.take_cell.new.pages in
    let at = c.in_ok-at.at in
    let low : 1 ≤ at.vol = search rules in
    let new = g.M.MetaPages.pages c.write_cell.new.pages in
    let there = subst (λ (h : CellHead). StandsAt new at (record { head = h; records = c.in_ok-records.records })) c.new_head.ensures c.write_cell.ensures.stands in
    let stands = subst (λ (rs : List Record). StandsAt new at (record { head = quota_head c.args.fileset; records = rs })) c.in_ok-records.ensures.value there in
    first_others c.args.prefer at c.args.space.now c.take_cell.new.space c.args.cells.now c.take_cell.new.cells old between low c.requires.allocated c.in_ok-at.ensures.ok c.in_ok-at.ensures.zeros c.args.fileset c.args.who c.args.limits c.requires.named new stands
    c.write_cell.ensures.others

pub returns-clause-elsewhere : goal.returns-clause-elsewhere
returns-clause-elsewhere g c =
    let old = g.M.MetaPages.pages c.args.pages.now in
    let between = g.M.MetaPages.pages c.take_cell.new.pages in
    let at = c.in_ok-at.at in
    let low : 1 ≤ at.vol = search rules in
    let new = g.M.MetaPages.pages c.write_cell.new.pages in
    let there = subst (λ (h : CellHead). StandsAt new at (record { head = h; records = c.in_ok-records.records })) c.new_head.ensures c.write_cell.ensures.stands in
    let stands = subst (λ (rs : List Record). StandsAt new at (record { head = quota_head c.args.fileset; records = rs })) c.in_ok-records.ensures.value there in
    first_elsewhere c.args.prefer at c.args.space.now c.take_cell.new.space c.args.cells.now c.take_cell.new.cells old between low c.requires.allocated c.in_ok-at.ensures.ok c.in_ok-at.ensures.zeros c.args.fileset c.args.who c.args.limits c.requires.named new stands
    c.write_cell.ensures.elsewhere

pub returns-clause-few : goal.returns-clause-few
returns-clause-few g c =
    let old = g.M.MetaPages.pages c.args.pages.now in
    let between = g.M.MetaPages.pages c.take_cell.new.pages in
    let at = c.in_ok-at.at in
    let low : 1 ≤ at.vol = search rules in
    let new = g.M.MetaPages.pages c.write_cell.new.pages in
    let there = subst (λ (h : CellHead). StandsAt new at (record { head = h; records = c.in_ok-records.records })) c.new_head.ensures c.write_cell.ensures.stands in
    let stands = subst (λ (rs : List Record). StandsAt new at (record { head = quota_head c.args.fileset; records = rs })) c.in_ok-records.ensures.value there in
    first_few c.args.prefer at c.args.space.now c.take_cell.new.space c.args.cells.now c.take_cell.new.cells old between low c.requires.allocated c.in_ok-at.ensures.ok c.in_ok-at.ensures.zeros c.args.fileset c.args.who c.args.limits c.requires.named new stands
    c.write_cell.ensures.elsewhere

pub returns-clause-allocated : goal.returns-clause-allocated
returns-clause-allocated g c =
    let old = g.M.MetaPages.pages c.args.pages.now in
    let between = g.M.MetaPages.pages c.take_cell.new.pages in
    let at = c.in_ok-at.at in
    let low : 1 ≤ at.vol = search rules in
    let new = g.M.MetaPages.pages c.write_cell.new.pages in
    let there = subst (λ (h : CellHead). StandsAt new at (record { head = h; records = c.in_ok-records.records })) c.new_head.ensures c.write_cell.ensures.stands in
    let stands = subst (λ (rs : List Record). StandsAt new at (record { head = quota_head c.args.fileset; records = rs })) c.in_ok-records.ensures.value there in
    first_allocated c.args.prefer at c.args.space.now c.take_cell.new.space c.args.cells.now c.take_cell.new.cells old between low c.requires.allocated c.in_ok-at.ensures.ok c.in_ok-at.ensures.zeros c.args.fileset c.args.who c.args.limits c.requires.named new stands
    c.in_ok-at.ensures.allocated c.write_cell.ensures.well_formed c.write_cell.ensures.headers c.write_cell.ensures.others
