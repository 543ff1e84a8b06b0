use Rattle.std.proofs.Common.{◌≡◌, ◌≤◌}
use Rattle.index_pages.proofs.Dropped.{AreLeft}
use Rattle.index_pages.proofs.change.drop_index.Given as goal

-- what is left of the index begins at the home, and the pages before that wait
abbrev pub invariant-loop : goal.invariant-loop
invariant-loop g l =
    let pages = g.M.MetaPages.pages in
    record {
      left : AreLeft l.fn.first l.fn.group l.initial.space l.space (pages l.initial.pages) (pages l.pages) l.counter l.home;
      room : g.M.MetaPages.room l.initial.pages ≤ g.M.MetaPages.room l.pages;
      before : g.M.MetaPages.before l.pages ≡ g.M.MetaPages.before l.initial.pages;
    }
