use Rattle.std.proofs.Common.{◌∙◌, OnOk, sym, ap, subst, arith}
use Rattle.std.proofs.lemmas.Result.{on_ok_weaker}
use Rattle.std.specs.Option.{is_some}
use Rattle.directory_pages.specs.Entries.{first_from}
use Rattle.directory_pages.specs.Index.{all_entries, index_pages}
use Rattle.directory_pages.specs.Changes.{Cuts, PutsPage}
use Rattle.directory_pages.proofs.Orders.{is_there}
use Rattle.directory_pages.proofs.IndexParts.{whole_index}
use Rattle.directory_pages.proofs.Removed.{below_length, count_is, first_there, removes}
use Rattle.directory_pages.proofs.Sets.{put_directory}
use Rattle.directory_pages.proofs.change.remove_entry.Goals as goal

pub returns-in_default-clause-ok : goal.returns-in_default-clause-ok
returns-in_default-clause-ok g c =
    let files = g.S.BitfileSet.files c.args.set.now in
    let whole = whole_index (index_pages files c.args.dir) c.index_pages-pages.result (c.index_pages-pages.ensures ∙ count_is files c.args.dir) in
    absurd (is_there c.args.entry (all_entries (index_pages files c.args.dir)) c.requires.there (ap (λ pages. first_from c.args.entry (all_entries pages)) (sym whole) ∙ c.in_default.ensures))

pub entries_without-requires-clause-there : goal.entries_without-requires-clause-there
entries_without-requires-clause-there g c =
    let has = c.in-Some-part_at.ensures in
    ap (λ es. is_some (first_from c.args.entry es)) has.read ∙ first_there (index_pages (g.S.BitfileSet.files c.args.set.now) c.args.dir) c.args.entry c.in-Some.number has.part has.there c.in-Some.ensures

pub put_part-requires-clause-place : goal.put_part-requires-clause-place
put_part-requires-clause-place g c =
    let files = g.S.BitfileSet.files c.args.set.now in
    let has = c.in-Some-part_at.ensures in
    omega (arith, below_length (index_pages files c.args.dir) c.in-Some.number has.part has.there, count_is files c.args.dir)

pub returns-clause-ok : goal.returns-clause-ok
returns-clause-ok g c =
    let old = g.S.BitfileSet.files c.args.set.now in
    let new = g.S.BitfileSet.files c.put_part.new.set in
    let list = c.in_ok-list.list.items in
    let has = c.in-Some-part_at.ensures in
    on_ok_weaker c.put_part.result
    (λ puts. removes c.args.dir c.args.entry c.in-Some.number list old new c.requires.directory c.requires.index has.part has.there c.in-Some.ensures c.requires.there (subst (λ es. Cuts c.args.entry es list) has.read c.in_ok-list.ensures.cut) puts)
    (subst (λ part. OnOk c.put_part.result (PutsPage c.args.dir c.in-Some.number part old new)) c.as_slice.ensures.value c.put_part.ensures.ok)

pub returns-clause-directory : goal.returns-clause-directory
returns-clause-directory g c =
    put_directory c.args.dir (g.S.BitfileSet.files c.args.set.now) (g.S.BitfileSet.files c.put_part.new.set) c.put_part.result c.requires.directory (on_ok_weaker c.put_part.result (λ removes. removes.others) (returns-clause-ok g c)) c.put_part.ensures.err
