use Rattle.std.proofs.lemmas.Result.{on_ok_weaker}
use Rattle.directory_pages.specs.Index.{all_entries, index_pages}
use Rattle.directory_rows.specs.Directory.{row_pages}
use Rattle.directory_rows.proofs.Counted.{spare_there}
use Rattle.directory_rows.proofs.Indexed.{forgets, there_is}
use Rattle.directory_rows.proofs.index.forget_row.Goals as goal

pub remove_entry-requires-clause-index : goal.remove_entry-requires-clause-index
remove_entry-requires-clause-index g c =
    let old = g.S.BitfileSet.files c.args.set.now in
    (there_is (index_pages old c.args.dir) c.requires.index (c.has_index.ensures.some c.if-has_index.true)).good

pub remove_entry-requires-clause-there : goal.remove_entry-requires-clause-there
remove_entry-requires-clause-there g c =
    let old = g.S.BitfileSet.files c.args.set.now in
    let spares = there_is (index_pages old c.args.dir) c.requires.index (c.has_index.ensures.some c.if-has_index.true) in
    spare_there (row_pages old c.args.dir) c.args.entry (all_entries (index_pages old c.args.dir)) spares.exact

pub returns-then-has_index-clause-ok : goal.returns-then-has_index-clause-ok
returns-then-has_index-clause-ok g c =
    let old = g.S.BitfileSet.files c.args.set.now in
    let new = g.S.BitfileSet.files c.remove_entry.new.set in
    let spares = there_is (index_pages old c.args.dir) c.requires.index (c.has_index.ensures.some c.if-has_index.true) in
    on_ok_weaker c.remove_entry.result (forgets c.args.dir old new c.args.entry spares) c.remove_entry.ensures.ok
