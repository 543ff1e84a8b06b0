use Rattle.std.proofs.Common.{◌≡◌, ◌<◌, ℕ, None}
use Rattle.domain_changes.specs.domain_base.declared.place.Tag.{Tag}
use Rattle.domain_changes.specs.tag_dirs.Directory.{IsOnPage, cell_of}
use Rattle.domain_changes.specs.staged_pages.Store.{pages_of}
use Rattle.release_changes.proofs.emptying.used_tag.Given as goal

-- no tag on a page before it leads to a cell
abbrev pub invariant-loop-page : goal.invariant-loop-page
invariant-loop-page l = (k : ℕ) → k < l.page → (tag : Tag) → IsOnPage l.slot.files.tags k tag → cell_of (pages_of l.memory.pages) l.slot.files.tags tag ≡ None
