use Rattle.std.proofs.Common.{◌≡◌, ◌∙◌, None, sym, ap}
use Rattle.page_cache.specs.Cache.{frames_of}
use Rattle.page_cache.specs.Entries.{frame_at}
use Rattle.page_cache.proofs.Changed.{changes_nothing, found}
use Rattle.page_cache.proofs.Entries.{none_is}
use Rattle.page_cache.proofs.cache.PageCache.touch.Goals as goal

pub returns-else-contains : goal.returns-else-contains
returns-else-contains c =
    let cache = c.args.self.now in
    let home = c.args.home.now in
    let width = c.home_number-number.ensures.width in
    let none : frames_of cache home ≡ None = found cache.frames.entries home width ∙ ap (frame_at cache.frames.entries) (sym c.home_number-number.ensures.value) ∙ none_is (frame_at cache.frames.entries c.home_number-number.result) (sym c.contains.ensures ∙ c.if-contains.false) in
    changes_nothing home cache width none
