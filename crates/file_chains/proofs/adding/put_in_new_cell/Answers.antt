use Rattle.std.proofs.Common.{◌∙◌, ◌≤◌, IfNone, IfSome, List, refl, rules, subst}
use Rattle.free_cells.specs.cell_records.declared.record.Record.{Record}
use Rattle.free_cells.specs.metadata_cells.declared.head.CellKind.TheVariants.{Chain}
use Rattle.free_cells.specs.metadata_cells.declared.used.UsedCell.{UsedCell}
use Rattle.free_cells.specs.metadata_cells.Cell.{Cell}
use Rattle.free_cells.specs.metadata_cells.Chain.{StandsAt}
use Rattle.extent_records.specs.extent_maps.declared.run.PagePlace.TheVariants.{At}
use Rattle.file_chains.proofs.Added.{added, at_on, first_cell, not_zeros, off_table, other_stay, stands_taken, start_on, table_kept, taken_elsewhere}
use Rattle.file_chains.proofs.ChainChanges.{at_apart}
use Rattle.file_chains.proofs.FewPages.{linked_changes, none_changes}
use Rattle.file_chains.proofs.OnePage.{one_fits}
use Rattle.file_chains.proofs.Still.{allocated_linked}
use Rattle.file_chains.proofs.adding.put_in_new_cell.Goals as goal

pub returns-in_default-clause-ok : goal.returns-in_default-clause-ok
returns-in_default-clause-ok g c = λ chain is.
    let pages = g.M.MetaPages.pages c.args.pages.now in
    let first = first_cell pages c.args.start.now chain is in
    absurd ((subst (λ o. IfNone o ((cell : Cell) → ¬ StandsAt pages c.args.start.now cell)) c.in_default.is c.in_ok-first.ensures.none) first.0 first.1)

pub returns-in_default-clause-taken : goal.returns-in_default-clause-taken
returns-in_default-clause-taken g c =
    let pages = g.M.MetaPages.pages c.args.pages.now in
    let first = first_cell pages c.args.start.now c.requires.file.0 c.requires.file.1 in
    absurd ((subst (λ o. IfNone o ((cell : Cell) → ¬ StandsAt pages c.args.start.now cell)) c.in_default.is c.in_ok-first.ensures.none) first.0 first.1)

pub link_behind-requires-clause-in_use : goal.link_behind-requires-clause-in_use
link_behind-requires-clause-in_use g c =
    let old = g.M.MetaPages.pages c.args.pages.now in
    let between = g.M.MetaPages.pages c.take_cell.new.pages in
    let at = c.in_ok-at.at in
    let start = c.args.start.now in
    let low : 1 ≤ at.vol = search rules in
    let cell : Cell = record { head = c.in-Some.first.head; records = c.in-Some.first.records } in
    let stands : StandsAt old start cell
    = subst (λ o. IfSome o (λ (used : UsedCell). StandsAt old start (record { head = used.head; records = used.records }))) c.in-Some.is c.in_ok-first.ensures.some in
    (cell, stands_taken c.args.prefer at c.args.space.now c.take_cell.new.space c.args.cells.now c.take_cell.new.cells old between low c.requires.allocated c.in_ok-at.ensures.ok start cell (start_on old c.args.cells.now start c.requires.file.0 c.requires.file.1 (c.requires.tables c.requires.file.0 c.requires.file.1)) stands)

pub link_behind-requires-clause-apart : goal.link_behind-requires-clause-apart
link_behind-requires-clause-apart g c =
    let old = g.M.MetaPages.pages c.args.pages.now in
    let between = g.M.MetaPages.pages c.take_cell.new.pages in
    let at = c.in_ok-at.at in
    let start = c.args.start.now in
    let low : 1 ≤ at.vol = search rules in
    let cell : Cell = record { head = c.in-Some.first.head; records = c.in-Some.first.records } in
    let stands : StandsAt old start cell
    = subst (λ o. IfSome o (λ (used : UsedCell). StandsAt old start (record { head = used.head; records = used.records }))) c.in-Some.is c.in_ok-first.ensures.some in
    at_apart at start (not_zeros between at start cell c.in_ok-at.ensures.zeros (stands_taken c.args.prefer at c.args.space.now c.take_cell.new.space c.args.cells.now c.take_cell.new.cells old between low c.requires.allocated c.in_ok-at.ensures.ok start cell (start_on old c.args.cells.now start c.requires.file.0 c.requires.file.1 (c.requires.tables c.requires.file.0 c.requires.file.1)) stands))

pub link_behind-requires-clause-others_fit : goal.link_behind-requires-clause-others_fit
link_behind-requires-clause-others_fit g c =
    one_fits c.args.version c.in_ok-value.value c.in_ok-records.records c.in_ok-records.ensures c.in_ok-value.ensures.is_map.allowed c.in_ok-value.ensures.kind

pub returns-clause-ok : goal.returns-clause-ok
returns-clause-ok g c = λ chain is.
    let old = g.M.MetaPages.pages c.args.pages.now in
    let between = g.M.MetaPages.pages c.take_cell.new.pages in
    let at = c.in_ok-at.at in
    let start = c.args.start.now in
    let low : 1 ≤ at.vol = search rules in
    let cell : Cell = record { head = c.in-Some.first.head; records = c.in-Some.first.records } in
    let stands : StandsAt old start cell
    = subst (λ o. IfSome o (λ (used : UsedCell). StandsAt old start (record { head = used.head; records = used.records }))) c.in-Some.is c.in_ok-first.ensures.some in
    let new = g.M.MetaPages.pages c.link_behind.new.pages in
    let value = c.in_ok-value.value in
    let back = subst (λ (rs : List Record). StandsAt new at (record { head = record cell.head { kind = Chain }; records = rs })) c.in_ok-records.ensures c.link_behind.ensures.behind in
    added c.args.prefer at c.args.space.now c.take_cell.new.space c.args.cells.now c.take_cell.new.cells old between low c.requires.allocated c.in_ok-at.ensures.ok
    c.in_ok-at.ensures.zeros new start cell value c.args.page (At c.args.home.now) c.in_ok-value.ensures.is_map c.in_ok-value.ensures.places c.args.version c.in_ok-value.ensures.kind c.link_behind.ensures.first back c.link_behind.ensures.others
    chain is (c.requires.tables chain is) stands (c.requires.absent chain is)

pub returns-clause-others : goal.returns-clause-others
returns-clause-others g c = λ chain is.
    let old = g.M.MetaPages.pages c.args.pages.now in
    let between = g.M.MetaPages.pages c.take_cell.new.pages in
    let at = c.in_ok-at.at in
    let start = c.args.start.now in
    let low : 1 ≤ at.vol = search rules in
    let cell : Cell = record { head = c.in-Some.first.head; records = c.in-Some.first.records } in
    let stands : StandsAt old start cell
    = subst (λ o. IfSome o (λ (used : UsedCell). StandsAt old start (record { head = used.head; records = used.records }))) c.in-Some.is c.in_ok-first.ensures.some in
    let new = g.M.MetaPages.pages c.link_behind.new.pages in
    let value = c.in_ok-value.value in
    let back = subst (λ (rs : List Record). StandsAt new at (record { head = record cell.head { kind = Chain }; records = rs })) c.in_ok-records.ensures c.link_behind.ensures.behind in
    other_stay c.args.prefer at c.args.space.now c.take_cell.new.space c.args.cells.now c.take_cell.new.cells old between low c.requires.allocated c.in_ok-at.ensures.ok
    c.in_ok-at.ensures.zeros new start cell value c.args.page (At c.args.home.now) c.in_ok-value.ensures.is_map c.in_ok-value.ensures.places c.args.version c.in_ok-value.ensures.kind c.link_behind.ensures.first back c.link_behind.ensures.others
    chain is

pub returns-clause-allocated : goal.returns-clause-allocated
returns-clause-allocated g c =
    let old = g.M.MetaPages.pages c.args.pages.now in
    let between = g.M.MetaPages.pages c.take_cell.new.pages in
    let at = c.in_ok-at.at in
    let start = c.args.start.now in
    let low : 1 ≤ at.vol = search rules in
    let cell : Cell = record { head = c.in-Some.first.head; records = c.in-Some.first.records } in
    let stands : StandsAt old start cell
    = subst (λ o. IfSome o (λ (used : UsedCell). StandsAt old start (record { head = used.head; records = used.records }))) c.in-Some.is c.in_ok-first.ensures.some in
    allocated_linked c.take_cell.new.space c.take_cell.new.cells between (g.M.MetaPages.pages c.link_behind.new.pages) c.in_ok-at.ensures.allocated c.link_behind.ensures.well_formed c.link_behind.ensures.headers
    at start c.in_ok-at.ensures.ok.between cell c.in_ok-at.ensures.ok.taken (stands_taken c.args.prefer at c.args.space.now c.take_cell.new.space c.args.cells.now c.take_cell.new.cells old between low c.requires.allocated c.in_ok-at.ensures.ok start cell (start_on old c.args.cells.now start c.requires.file.0 c.requires.file.1 (c.requires.tables c.requires.file.0 c.requires.file.1)) stands) c.link_behind.ensures.others

pub returns-clause-elsewhere : goal.returns-clause-elsewhere
returns-clause-elsewhere g c = λ h out.
    let old = g.M.MetaPages.pages c.args.pages.now in
    let between = g.M.MetaPages.pages c.take_cell.new.pages in
    let at = c.in_ok-at.at in
    let start = c.args.start.now in
    let low : 1 ≤ at.vol = search rules in
    let cell : Cell = record { head = c.in-Some.first.head; records = c.in-Some.first.records } in
    let stands : StandsAt old start cell
    = subst (λ o. IfSome o (λ (used : UsedCell). StandsAt old start (record { head = used.head; records = used.records }))) c.in-Some.is c.in_ok-first.ensures.some in
    c.link_behind.ensures.elsewhere h
    (off_table c.take_cell.new.cells at h (at_on c.args.prefer at c.args.space.now c.take_cell.new.space c.args.cells.now c.take_cell.new.cells old between low c.requires.allocated c.in_ok-at.ensures.ok) out)
    (off_table c.take_cell.new.cells start h (table_kept c.args.prefer at c.args.space.now c.take_cell.new.space c.args.cells.now c.take_cell.new.cells old between low c.requires.allocated c.in_ok-at.ensures.ok start.vol start.page (start_on old c.args.cells.now start c.requires.file.0 c.requires.file.1 (c.requires.tables c.requires.file.0 c.requires.file.1))) out)
    ∙ taken_elsewhere c.args.prefer at c.args.space.now c.take_cell.new.space c.args.cells.now c.take_cell.new.cells old between low c.requires.allocated c.in_ok-at.ensures.ok h out

pub returns-in_default-clause-few : goal.returns-in_default-clause-few
returns-in_default-clause-few g c = none_changes 3 (g.M.MetaPages.pages c.args.pages.now) (g.M.MetaPages.pages c.args.pages.now) refl

pub returns-clause-few : goal.returns-clause-few
returns-clause-few g c =
    linked_changes c.args.prefer c.in_ok-at.at c.args.space.now c.take_cell.new.space c.args.cells.now c.take_cell.new.cells (g.M.MetaPages.pages c.args.pages.now) (g.M.MetaPages.pages c.take_cell.new.pages) (g.M.MetaPages.pages c.link_behind.new.pages)
    c.in_ok-at.ensures.ok c.args.start.now c.link_behind.ensures.elsewhere
