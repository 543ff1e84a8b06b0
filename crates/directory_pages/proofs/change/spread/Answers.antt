use Rattle.std.proofs.Common.{◌+◌, ◌<◌, length, subst, arith, length-take}
use Rattle.std.proofs.lemmas.List.{take_rest}
use Rattle.std.proofs.lemmas.Result.{on_ok_weaker}
use Rattle.directory_pages.specs.Index.{index_pages}
use Rattle.directory_pages.specs.Changes.{InsertsPage}
use Rattle.directory_pages.proofs.Added.{one_page, two_pages}
use Rattle.directory_pages.proofs.Removed.{count_is}
use Rattle.directory_pages.proofs.change.spread.Goals as goal

pub returns-then-list-le-ENTRIES-clause-ok : goal.returns-then-list-le-ENTRIES-clause-ok
returns-then-list-le-ENTRIES-clause-ok g c =
    let old = g.S.BitfileSet.files c.args.set.now in
    let new = g.S.BitfileSet.files c.put_part.new.set in
    on_ok_weaker c.put_part.result (one_page c.args.dir c.args.number old c.requires.directory c.args.list.now new) c.put_part.ensures.ok

pub slice_bounds-put_part-end : goal.slice_bounds-put_part-end
slice_bounds-put_part-end g c = omega (arith, length-take 511 c.args.list.now, c.if-list-le-ENTRIES.false)

pub put_part-requires-2-clause-few : goal.put_part-requires-2-clause-few
put_part-requires-2-clause-few g c = omega (arith, length-take 511 c.args.list.now)

pub returns-clause-ok : goal.returns-clause-ok
returns-clause-ok g c =
    let list = c.args.list.now in
    let old = g.S.BitfileSet.files c.args.set.now in
    let mid = g.S.BitfileSet.files c.insert_part.new.set in
    let new = g.S.BitfileSet.files c.put_part-2.new.set in
    let within : c.args.number < length (index_pages old c.args.dir) = omega (arith, c.requires.place, count_is old c.args.dir) in
    let inserts = subst (λ part. InsertsPage c.args.dir (c.args.number + 1) part old mid) (take_rest list 511) c.in_ok-insert_part.ensures.ok in
    on_ok_weaker c.put_part-2.result (λ puts. two_pages c.args.dir c.args.number old c.requires.directory list 511 mid new within inserts puts) c.put_part-2.ensures.ok
