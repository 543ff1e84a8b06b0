use Rattle.std.proofs.Common.{◌≡◌, ◌∙◌, subst, sym}
use Rattle.file_release.specs.page_store.Pages.{Pages}
use Rattle.file_release.specs.declared.released.Released.TheVariants as released
use Rattle.release_list.specs.Cursors.{IsAhead}
use Rattle.release_list.specs.Steps.{list_after}
use Rattle.release_list.proofs.Onward.{on_part}
use Rattle.release_list.proofs.Stepping.{ending_now, lacks_room, left_as, part_went}
use Rattle.release_list.proofs.Well.{as_file, ready}
use Rattle.release_list.proofs.entries.release_file.Goals as goal

pub release_tail-requires-clause-sharing : goal.release_tail-requires-clause-sharing
release_tail-requires-clause-sharing g c =
    let pages = g.M.MetaPages.pages c.args.pages.now in
    let w = c.requires.well in
    let it = ready w.0 w.1 w.2 c.args.entry.now c.left_at-left.result c.stale_at-from.result c.reader_at-reader.result c.args.space.now c.args.cells.now pages w.3.has (as_file w.0 w.1 w.2 c.args.entry.now c.args.space.now c.args.cells.now pages w.3) c.left_at-left.ensures c.stale_at-from.ensures c.reader_at-reader.ensures.none c.reader_at-reader.ensures.some in
    (it.chain, it.own, it.shares)

pub end_entry-requires : goal.end_entry-requires
end_entry-requires g c =
    let pages = g.M.MetaPages.pages c.args.pages.now in
    let w = c.requires.well in
    let it = ready w.0 w.1 w.2 c.args.entry.now c.left_at-left.result c.stale_at-from.result c.reader_at-reader.result c.args.space.now c.args.cells.now pages w.3.has (as_file w.0 w.1 w.2 c.args.entry.now c.args.space.now c.args.cells.now pages w.3) c.left_at-left.ensures c.stale_at-from.ensures c.reader_at-reader.ensures.none c.reader_at-reader.ensures.some in
    let e = c.in-Ok-Nothing.ensures in
    let kept = e.kept c.in-Ok-Nothing.field-0-is in
    record {
      well = (
        w.0,
        w.1,
        w.2,
        c.args.space.now,
        ending_now w.0 w.1 w.2 c.args.entry.now c.left_at-left.result c.stale_at-from.result c.reader_at-reader.result c.args.space.now c.args.cells.now c.release_tail.new.cells pages (g.M.MetaPages.pages c.release_tail.new.pages) w.3.has it kept.1 kept.2
            ((e.nothing it.chain it.own it.shares).0 c.in-Ok-Nothing.field-0-is),
      );
    }

pub returns-in_ok-went-in-Ok-Nothing-clause-ok : goal.returns-in_ok-went-in-Ok-Nothing-clause-ok
returns-in_ok-went-in-Ok-Nothing-clause-ok g c = λ list front files has.
    let pages = g.M.MetaPages.pages c.args.pages.now in
    let it = ready list front files c.args.entry.now c.left_at-left.result c.stale_at-from.result c.reader_at-reader.result c.args.space.now c.args.cells.now pages has.has (as_file list front files c.args.entry.now c.args.space.now c.args.cells.now pages has) c.left_at-left.ensures c.stale_at-from.ensures c.reader_at-reader.ensures.none c.reader_at-reader.ensures.some in
    let e = c.in-Ok-Nothing.ensures in
    let kept = e.kept c.in-Ok-Nothing.field-0-is in
    left_as c.args.group c.args.version list files c.args.space.now c.release_tail.new.space c.args.cells.now c.release_tail.new.cells c.end_entry.new.cells pages (g.M.MetaPages.pages c.release_tail.new.pages) (g.M.MetaPages.pages c.end_entry.new.pages)
    (list_after c.in_ok-went-in-Ok-Nothing.went front c.args.entry.now list) kept.0 kept.1 kept.2
    (c.in_ok-went-in-Ok-Nothing.ensures.ok c.args.group c.args.version list front files c.args.space.now
    (ending_now list front files c.args.entry.now c.left_at-left.result c.stale_at-from.result c.reader_at-reader.result c.args.space.now c.args.cells.now c.release_tail.new.cells pages (g.M.MetaPages.pages c.release_tail.new.pages) has.has it kept.1 kept.2
    ((e.nothing it.chain it.own it.shares).0 c.in-Ok-Nothing.field-0-is)))

pages_not : released.Pages ≡ released.Nothing → ⊥
pages_not e = cc

cell_not : released.Cell ≡ released.Nothing → ⊥
cell_not e = cc

pub returns-in-Ok-Pages : goal.returns-in-Ok-Pages
returns-in-Ok-Pages g c = record {
  ok = λ list front files has.
      let pages = g.M.MetaPages.pages c.args.pages.now in
      let it = ready list front files c.args.entry.now c.left_at-left.result c.stale_at-from.result c.reader_at-reader.result c.args.space.now c.args.cells.now pages has.has (as_file list front files c.args.entry.now c.args.space.now c.args.cells.now pages has) c.left_at-left.ensures c.stale_at-from.ensures c.reader_at-reader.ensures.none c.reader_at-reader.ensures.some in
      let e = c.in-Ok-Pages.ensures in
      part_went c.args.group c.args.version list front files c.args.entry.now c.left_at-left.result c.stale_at-from.result c.reader_at-reader.result c.args.space.now c.release_tail.new.space c.args.cells.now c.release_tail.new.cells pages (g.M.MetaPages.pages c.release_tail.new.pages) c.in-Ok-Pages.field-0 has.has it
      (e.ok it.chain it.own it.shares (λ e. pages_not (sym c.in-Ok-Pages.field-0-is ∙ e))) (e.others it.chain it.own it.shares) e.elsewhere e.allocated;
  err = tt;
  full = λ list front files has. tt;
  cells = tt;
  pages = tt;
  ahead = c.cursor_at.ensures.within (g.M.MetaPages.pages c.release_tail.new.pages) c.in-Ok-Pages.ensures.within;
  known = c.in-Ok-Pages.ensures.known;
  on = on_part c.args.entry.now.at c.cursor_at.result c.cursor_at.ensures.file;
  place = tt;
  same = tt;
  room = c.in-Ok-Pages.ensures.room;
  before = c.in-Ok-Pages.ensures.before;
}

pub returns-in-Ok-Cell : goal.returns-in-Ok-Cell
returns-in-Ok-Cell g c = record {
  ok = λ list front files has.
      let pages = g.M.MetaPages.pages c.args.pages.now in
      let it = ready list front files c.args.entry.now c.left_at-left.result c.stale_at-from.result c.reader_at-reader.result c.args.space.now c.args.cells.now pages has.has (as_file list front files c.args.entry.now c.args.space.now c.args.cells.now pages has) c.left_at-left.ensures c.stale_at-from.ensures c.reader_at-reader.ensures.none c.reader_at-reader.ensures.some in
      let e = c.in-Ok-Cell.ensures in
      part_went c.args.group c.args.version list front files c.args.entry.now c.left_at-left.result c.stale_at-from.result c.reader_at-reader.result c.args.space.now c.release_tail.new.space c.args.cells.now c.release_tail.new.cells pages (g.M.MetaPages.pages c.release_tail.new.pages) c.in-Ok-Cell.field-0 has.has it
      (e.ok it.chain it.own it.shares (λ e. cell_not (sym c.in-Ok-Cell.field-0-is ∙ e))) (e.others it.chain it.own it.shares) e.elsewhere e.allocated;
  err = tt;
  full = λ list front files has. tt;
  cells = tt;
  pages = tt;
  ahead = c.cursor_at-in-Ok-Cell.ensures.within (g.M.MetaPages.pages c.release_tail.new.pages) c.in-Ok-Cell.ensures.within;
  known = c.in-Ok-Cell.ensures.known;
  on = on_part c.args.entry.now.at c.cursor_at-in-Ok-Cell.result c.cursor_at-in-Ok-Cell.ensures.file;
  place = tt;
  same = tt;
  room = c.in-Ok-Cell.ensures.room;
  before = c.in-Ok-Cell.ensures.before;
}

pub returns-in-Err-clause-full : goal.returns-in-Err-clause-full
returns-in-Err-clause-full g c = λ list front files has no_page.
    let pages = g.M.MetaPages.pages c.args.pages.now in
    let it = ready list front files c.args.entry.now c.left_at-left.result c.stale_at-from.result c.reader_at-reader.result c.args.space.now c.args.cells.now pages has.has (as_file list front files c.args.entry.now c.args.space.now c.args.cells.now pages has) c.left_at-left.ensures c.stale_at-from.ensures c.reader_at-reader.ensures.none c.reader_at-reader.ensures.some in
    lacks_room list front files c.args.entry.now c.left_at-left.result c.stale_at-from.result c.reader_at-reader.result c.args.space.now c.args.cells.now pages has.has it (c.in-Err.ensures.full it.chain it.own it.shares no_page)

pub returns-in_err-went-in-Ok-Nothing-clause-ahead : goal.returns-in_err-went-in-Ok-Nothing-clause-ahead
returns-in_err-went-in-Ok-Nothing-clause-ahead g c =
    let kept = c.in-Ok-Nothing.ensures.kept c.in-Ok-Nothing.field-0-is in
    subst (λ (pages : Pages). IsAhead pages c.args.cursor.now) (sym (c.in_err-went-in-Ok-Nothing.ensures.pages ∙ kept.2)) c.requires.ahead
