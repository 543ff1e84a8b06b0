use Rattle.std.proofs.Common.{◌∙◌, ap}
use Rattle.std.specs.List.{count_by}
use Rattle.std.proofs.lemmas.List.{take_all}
use Rattle.page_faults.specs.directory_pages.Entries.{hash_of}
use Rattle.index_row_faults.specs.Keys.{has_key, keys_in}
use Rattle.index_row_faults.proofs.RowsKeyed.{row_keyed}
use Rattle.index_row_faults.proofs.rows.read_keys.Goals as goal

pub loop-row-preserved : goal.loop-row-preserved
loop-row-preserved c dir hash page =
    row_keyed dir hash page (keys_in c.loop-row.keys dir) (keys_in c.push_key.new.keys dir) c.args.rows.now c.loop-row.row-index c.row-item.result c.name_hash.result c.loop-row-test.true c.row-item.is
    (c.name_hash.ensures ∙ ap hash_of c.as_slice.ensures) (c.in_ok-push_key.ensures dir) (c.loop-row.invariant dir hash page)

pub returns : goal.returns
returns c dir hash page =
    c.loop-row.invariant dir hash page ∙ ap (count_by (has_key dir hash page)) (take_all c.loop-row.row-index c.args.rows.now c.loop-row-test.false)
