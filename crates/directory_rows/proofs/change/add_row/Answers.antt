use Rattle.std.proofs.lemmas.Result.{on_ok_weaker}
use Rattle.directory_pages.specs.declared.row.Row.{Row}
use Rattle.directory_rows.proofs.Changed.{adds_row, put_index}
use Rattle.directory_rows.proofs.change.add_row.Goals as goal

pub index_row-requires-clause-index : goal.index_row-requires-clause-index
index_row-requires-clause-index g c =
    let row : Row = record { tag = c.args.tag; kind = c.args.kind; name = c.args.name.now } in
    let old = g.S.BitfileSet.files c.args.set.now in
    let mid = g.S.BitfileSet.files c.put_row.new.set in
    put_index c.args.dir row c.in_ok-page.page old mid c.requires.good c.in_ok-page.ensures.ok c.name_hash-hash.result c.name_hash-hash.ensures

pub returns-clause-rest : goal.returns-clause-rest
returns-clause-rest g c = g.met.S.BitfileSet.rest_joins c.args.set.now c.put_row.new.set c.index_row.new.set c.in_ok-page.ensures.rest c.index_row.ensures.rest

pub returns-clause-ok : goal.returns-clause-ok
returns-clause-ok g c =
    let row : Row = record { tag = c.args.tag; kind = c.args.kind; name = c.args.name.now } in
    let old = g.S.BitfileSet.files c.args.set.now in
    let mid = g.S.BitfileSet.files c.put_row.new.set in
    let new = g.S.BitfileSet.files c.index_row.new.set in
    on_ok_weaker c.index_row.result (adds_row c.args.dir row c.in_ok-page.page old mid c.requires.good c.in_ok-page.ensures.ok new c.requires.fresh) c.index_row.ensures.ok
