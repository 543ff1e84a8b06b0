use Rattle.std.proofs.Common.{◌∙◌, ◌≤◌, IfNone, IfSome, rules, subst}
use Rattle.free_cells.specs.metadata_cells.declared.used.UsedCell.{UsedCell}
use Rattle.free_cells.specs.metadata_cells.Cell.{Cell}
use Rattle.free_cells.specs.metadata_cells.Chain.{StandsAt}
use Rattle.extent_records.specs.extent_maps.declared.run.PagePlace.TheVariants.{At}
use Rattle.file_chains.proofs.Added.{at_on, not_zeros, off_table, stands_taken, table_kept, taken_elsewhere}
use Rattle.file_chains.proofs.ChainChanges.{at_apart}
use Rattle.file_chains.proofs.Halves.{front_fits, front_good, here, tail_fits, there}
use Rattle.file_chains.proofs.Still.{allocated_linked}
use Rattle.file_chains.proofs.moving.part_cell.Goals as goal

pub returns-in_default-clause-ok : goal.returns-in_default-clause-ok
returns-in_default-clause-ok g c =
    let pages = g.M.MetaPages.pages c.args.pages.now in
    absurd ((subst (λ o. IfNone o ((cell : Cell) → ¬ StandsAt pages c.args.at.now cell)) c.in_default.is c.in_ok-cell.ensures.none) c.requires.map.cell c.requires.map.stands)

pub link_behind-requires-clause-in_use : goal.link_behind-requires-clause-in_use
link_behind-requires-clause-in_use g c =
    let old = g.M.MetaPages.pages c.args.pages.now in
    let at = c.args.at.now in
    let cell : Cell = record { head = c.in-Some.cell.head; records = c.in-Some.cell.records } in
    let stands : StandsAt old at cell
    = subst (λ o. IfSome o (λ (used : UsedCell). StandsAt old at (record { head = used.head; records = used.records }))) c.in-Some.is c.in_ok-cell.ensures.some in
    let between = g.M.MetaPages.pages c.take_cell.new.pages in
    let behind = c.in_ok-behind.behind in
    let low : 1 ≤ behind.vol = search rules in
    (cell, stands_taken c.args.prefer behind c.args.space.now c.take_cell.new.space c.args.cells.now c.take_cell.new.cells old between low c.requires.allocated c.in_ok-behind.ensures.ok at cell c.requires.table stands)

pub link_behind-requires-clause-apart : goal.link_behind-requires-clause-apart
link_behind-requires-clause-apart g c =
    let old = g.M.MetaPages.pages c.args.pages.now in
    let at = c.args.at.now in
    let cell : Cell = record { head = c.in-Some.cell.head; records = c.in-Some.cell.records } in
    let stands : StandsAt old at cell
    = subst (λ o. IfSome o (λ (used : UsedCell). StandsAt old at (record { head = used.head; records = used.records }))) c.in-Some.is c.in_ok-cell.ensures.some in
    let between = g.M.MetaPages.pages c.take_cell.new.pages in
    let behind = c.in_ok-behind.behind in
    let low : 1 ≤ behind.vol = search rules in
    at_apart behind at (not_zeros between behind at cell c.in_ok-behind.ensures.zeros (stands_taken c.args.prefer behind c.args.space.now c.take_cell.new.space c.args.cells.now c.take_cell.new.cells old between low c.requires.allocated c.in_ok-behind.ensures.ok at cell c.requires.table stands))

pub link_behind-requires-clause-good : goal.link_behind-requires-clause-good
link_behind-requires-clause-good g c =
    let old = g.M.MetaPages.pages c.args.pages.now in
    let at = c.args.at.now in
    let cell : Cell = record { head = c.in-Some.cell.head; records = c.in-Some.cell.records } in
    let stands : StandsAt old at cell
    = subst (λ o. IfSome o (λ (used : UsedCell). StandsAt old at (record { head = used.head; records = used.records }))) c.in-Some.is c.in_ok-cell.ensures.some in
    front_good old at c.args.value.now c.args.page (At c.args.home.now) c.args.version cell c.as_slice.result.now c.in_ok-halves.halves.front c.in_ok-halves.halves.tail c.requires.map stands c.as_slice.ensures c.in_ok-halves.ensures

pub link_behind-requires-clause-fits : goal.link_behind-requires-clause-fits
link_behind-requires-clause-fits g c =
    let old = g.M.MetaPages.pages c.args.pages.now in
    let at = c.args.at.now in
    let cell : Cell = record { head = c.in-Some.cell.head; records = c.in-Some.cell.records } in
    let stands : StandsAt old at cell
    = subst (λ o. IfSome o (λ (used : UsedCell). StandsAt old at (record { head = used.head; records = used.records }))) c.in-Some.is c.in_ok-cell.ensures.some in
    front_fits old at c.args.value.now c.args.page (At c.args.home.now) c.args.version cell c.as_slice.result.now c.in_ok-halves.halves.front c.in_ok-halves.halves.tail c.requires.map stands c.as_slice.ensures c.in_ok-halves.ensures

pub link_behind-requires-clause-others_fit : goal.link_behind-requires-clause-others_fit
link_behind-requires-clause-others_fit g c =
    let old = g.M.MetaPages.pages c.args.pages.now in
    let at = c.args.at.now in
    let cell : Cell = record { head = c.in-Some.cell.head; records = c.in-Some.cell.records } in
    let stands : StandsAt old at cell
    = subst (λ o. IfSome o (λ (used : UsedCell). StandsAt old at (record { head = used.head; records = used.records }))) c.in-Some.is c.in_ok-cell.ensures.some in
    tail_fits old at c.args.value.now c.args.page (At c.args.home.now) c.args.version cell c.as_slice.result.now c.in_ok-halves.halves.front c.in_ok-halves.halves.tail c.requires.map stands c.as_slice.ensures c.in_ok-halves.ensures

pub returns-clause-ok : goal.returns-clause-ok
returns-clause-ok g c =
    let old = g.M.MetaPages.pages c.args.pages.now in
    let at = c.args.at.now in
    let cell : Cell = record { head = c.in-Some.cell.head; records = c.in-Some.cell.records } in
    let stands : StandsAt old at cell
    = subst (λ o. IfSome o (λ (used : UsedCell). StandsAt old at (record { head = used.head; records = used.records }))) c.in-Some.is c.in_ok-cell.ensures.some in
    let between = g.M.MetaPages.pages c.take_cell.new.pages in
    let behind = c.in_ok-behind.behind in
    let low : 1 ≤ behind.vol = search rules in
    let new = g.M.MetaPages.pages c.link_behind.new.pages in
    record {
      behind = behind;
      volume = low;
      between = between;
      takes = c.in_ok-behind.ensures.ok;
      zeros = c.in_ok-behind.ensures.zeros;
      front = c.in_ok-halves.ensures.front;
      tail = c.in_ok-halves.ensures.tail;
      parts = c.in_ok-halves.ensures.parts;
      here = here old at c.args.value.now c.args.page (At c.args.home.now) c.args.version cell c.as_slice.result.now c.in_ok-halves.halves.front c.in_ok-halves.halves.tail c.requires.map stands c.as_slice.ensures c.in_ok-halves.ensures new behind c.link_behind.ensures.first;
      there = there old at c.args.value.now c.args.page (At c.args.home.now) c.args.version cell c.as_slice.result.now c.in_ok-halves.halves.front c.in_ok-halves.halves.tail c.requires.map stands c.as_slice.ensures c.in_ok-halves.ensures new behind c.link_behind.ensures.behind;
      others = c.link_behind.ensures.others;
    }

pub returns-clause-allocated : goal.returns-clause-allocated
returns-clause-allocated g c =
    let old = g.M.MetaPages.pages c.args.pages.now in
    let at = c.args.at.now in
    let cell : Cell = record { head = c.in-Some.cell.head; records = c.in-Some.cell.records } in
    let stands : StandsAt old at cell
    = subst (λ o. IfSome o (λ (used : UsedCell). StandsAt old at (record { head = used.head; records = used.records }))) c.in-Some.is c.in_ok-cell.ensures.some in
    let between = g.M.MetaPages.pages c.take_cell.new.pages in
    let behind = c.in_ok-behind.behind in
    let low : 1 ≤ behind.vol = search rules in
    allocated_linked c.take_cell.new.space c.take_cell.new.cells between (g.M.MetaPages.pages c.link_behind.new.pages) c.in_ok-behind.ensures.allocated c.link_behind.ensures.well_formed c.link_behind.ensures.headers
    behind at c.in_ok-behind.ensures.ok.between cell c.in_ok-behind.ensures.ok.taken (stands_taken c.args.prefer behind c.args.space.now c.take_cell.new.space c.args.cells.now c.take_cell.new.cells old between low c.requires.allocated c.in_ok-behind.ensures.ok at cell c.requires.table stands) c.link_behind.ensures.others

pub returns-clause-elsewhere : goal.returns-clause-elsewhere
returns-clause-elsewhere g c = λ h out.
    let old = g.M.MetaPages.pages c.args.pages.now in
    let at = c.args.at.now in
    let between = g.M.MetaPages.pages c.take_cell.new.pages in
    let behind = c.in_ok-behind.behind in
    let low : 1 ≤ behind.vol = search rules in
    c.link_behind.ensures.elsewhere h
    (off_table c.take_cell.new.cells behind h (at_on c.args.prefer behind c.args.space.now c.take_cell.new.space c.args.cells.now c.take_cell.new.cells old between low c.requires.allocated c.in_ok-behind.ensures.ok) out)
    (off_table c.take_cell.new.cells at h (table_kept c.args.prefer behind c.args.space.now c.take_cell.new.space c.args.cells.now c.take_cell.new.cells old between low c.requires.allocated c.in_ok-behind.ensures.ok at.vol at.page c.requires.table) out)
    ∙ taken_elsewhere c.args.prefer behind c.args.space.now c.take_cell.new.space c.args.cells.now c.take_cell.new.cells old between low c.requires.allocated c.in_ok-behind.ensures.ok h out
