use Rattle.std.proofs.lemmas.Result.{on_ok_weaker}
use Rattle.directory_pages.specs.Index.{index_pages}
use Rattle.directory_rows.proofs.Indexed.{indexes_added, there_is}
use Rattle.directory_rows.proofs.index.index_row.Goals as goal

pub add_entry-requires-clause-index : goal.add_entry-requires-clause-index
add_entry-requires-clause-index g c =
    let old = g.S.BitfileSet.files c.args.set.now in
    (there_is (index_pages old c.args.dir) c.requires.index (c.has_index.ensures.some c.if-has_index.true)).good

pub returns-then-has_index-clause-ok : goal.returns-then-has_index-clause-ok
returns-then-has_index-clause-ok g c =
    let old = g.S.BitfileSet.files c.args.set.now in
    let new = g.S.BitfileSet.files c.add_entry.new.set in
    let lacks = there_is (index_pages old c.args.dir) c.requires.index (c.has_index.ensures.some c.if-has_index.true) in
    on_ok_weaker c.add_entry.result (indexes_added c.args.dir old new c.args.entry lacks (c.has_index.ensures.some c.if-has_index.true)) c.add_entry.ensures.ok
