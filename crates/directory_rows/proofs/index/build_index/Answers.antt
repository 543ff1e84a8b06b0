use Rattle.std.proofs.Common.{subst, OnOk, arith}
use Rattle.std.proofs.lemmas.Result.{on_ok_weaker}
use Rattle.directory_pages.specs.Changes.{SetsEntries}
use Rattle.directory_rows.proofs.Indexed.{indexes_made}
use Rattle.directory_rows.proofs.Parts.{count_is}
use Rattle.directory_rows.proofs.index.build_index.Goals as goal

pub returns-clause-ok : goal.returns-clause-ok
returns-clause-ok g c =
    let old = g.S.BitfileSet.files c.args.set.now in
    let new = g.S.BitfileSet.files c.build.new.set in
    let list = c.in_ok-entries.entries.items in
    on_ok_weaker c.build.result (indexes_made c.args.dir old new list c.requires.directory c.requires.none (omega (arith, c.in_ok-entries.ensures.few, count_is old c.args.dir)) c.requires.few c.requires.some c.in_ok-entries.ensures.exact)
    (subst (λ part. OnOk c.build.result (SetsEntries c.args.dir part old new)) c.as_slice.ensures.value c.build.ensures.ok)
