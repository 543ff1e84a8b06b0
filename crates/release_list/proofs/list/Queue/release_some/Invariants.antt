use Rattle.std.proofs.Common.{◌≡◌, ◌+◌, ◌*◌, ◌≤◌}
use Rattle.file_release.specs.file_chains.MapChanges.{ChangesAtMost}
use Rattle.file_release.specs.Sharing.{IsKnown}
use Rattle.release_list.specs.Cursors.{IsAhead, IsOfEntry}
use Rattle.release_list.specs.Listing.{IsEmpty}
use Rattle.release_list.specs.Standing.{Files}
use Rattle.release_list.specs.Steps.{IsWell, LeadsTo, now_of}
use Rattle.release_list.proofs.list.Queue.release_some.Given as goal

abbrev pub invariant-loop : goal.invariant-loop
invariant-loop g l =
    ((files : Files) → IsWell (now_of l.fn.self.list files l.fn.space l.fn.cells (g.M.MetaPages.pages l.fn.pages))
    → LeadsTo l.group l.version (now_of l.fn.self.list files l.fn.space l.fn.cells (g.M.MetaPages.pages l.fn.pages)) l.count l.self.list l.space l.cells (g.M.MetaPages.pages l.pages))
    × (l.count ≡ l.counter) × (l.count ≡ 0 → l.self ≡ l.fn.self) × (l.count ≡ 0 → (l.space ≡ l.fn.space) × (l.cells ≡ l.fn.cells) × (g.M.MetaPages.pages l.pages ≡ g.M.MetaPages.pages l.fn.pages)) × (1 ≤ l.count → IsEmpty l.fn.self.list → ⊥)
    × (g.M.MetaPages.room l.fn.pages ≤ g.M.MetaPages.room l.pages + l.counter)
    × (g.M.MetaPages.before l.pages ≡ g.M.MetaPages.before l.fn.pages)
    × ChangesAtMost l.changed (g.M.MetaPages.pages l.fn.pages) (g.M.MetaPages.pages l.pages)
    × (l.changed ≤ l.most) × (l.changed ≤ 5 * l.counter) × IsAhead (g.M.MetaPages.pages l.pages) l.cursor
    × IsKnown (g.M.MetaPages.pages l.pages) l.known × (l.count ≡ 0 → l.known ≡ l.fn.known)
    × (1 ≤ l.count → IsOfEntry l.self.list.entries l.cursor) × (l.count ≡ 0 → l.cursor ≡ l.fn.cursor) × (l.fn.self.room ≤ l.self.room)
