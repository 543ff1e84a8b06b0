use Rattle.std.proofs.Common.{rules}
use Rattle.std.proofs.lemmas.List.Sorted.{answers_always}
use Rattle.directory_rows.specs.Directory.{row_pages}
use Rattle.directory_rows.proofs.Gathered.{entries_moved, key_of, rise_sorted}
use Rattle.directory_rows.proofs.index.sorted_entries.Goals as goal

pub returns-clause-exact : goal.returns-clause-exact
returns-clause-exact g c =
    let pages = row_pages (g.S.BitfileSet.files c.args.set.now) c.args.dir in
    entries_moved pages c.in_ok-entries.entries.items c.sort_by_key.new.self.items c.in_ok-entries.ensures.exact c.in_ok-sort_by_key.ensures.permutation

pub returns-clause-rise : goal.returns-clause-rise
returns-clause-rise g c =
    rise_sorted c.sort_by_key.new.self.items (c.in_ok-sort_by_key.ensures.sorted key_of (answers_always _ _ _ (λ f a r f' called. search rules)))
