use Rattle.std.proofs.Common.{OnOk, subst}
use Rattle.std.proofs.lemmas.Result.{on_ok_weaker}
use Rattle.directory_pages.specs.Changes.{Adds, Spreads}
use Rattle.directory_pages.proofs.Added.{added}
use Rattle.directory_pages.proofs.Sets.{either_directory}
use Rattle.directory_pages.proofs.change.add_entry.Goals as goal

pub returns-clause-ok : goal.returns-clause-ok
returns-clause-ok g c =
    let old = g.S.BitfileSet.files c.args.set.now in
    let new = g.S.BitfileSet.files c.spread.new.set in
    let number = c.page_for-number.result in
    let list = c.in_ok-list.list.items in
    let has = c.in-Some.ensures in
    on_ok_weaker c.spread.result
    (λ spreads. added c.args.dir c.args.entry number list old new c.requires.directory c.requires.index has.part has.there c.page_for-number.ensures (subst (λ es. Adds c.args.entry es list) has.read c.in_ok-list.ensures.adds) spreads)
    (subst (λ part. OnOk c.spread.result (Spreads c.args.dir number part old new)) c.as_slice.ensures.value c.spread.ensures.ok)

pub returns-clause-directory : goal.returns-clause-directory
returns-clause-directory g c =
    either_directory c.args.dir (g.S.BitfileSet.files c.args.set.now) (g.S.BitfileSet.files c.spread.new.set) c.spread.result c.requires.directory (on_ok_weaker c.spread.result (λ adds. adds.others) (returns-clause-ok g c)) c.spread.ensures.err
