-- What a cache is once the page that it showed is no longer looked at.
use Rattle.std.specs.Prelude.{⊤}
use Rattle.std.specs.Borrow.{Fml, MutBor, follows_so}
use mathlib.Core.Option.{none}
use Rattle.page_store.specs.domain_base.declared.place.Home.{Home}
use Rattle.page_cache.specs.declared.cache.PageCache.{PageCache}
use Rattle.page_cache.specs.contracts.cache.PageCache.{the_row}
use Rattle.page_cache.specs.Cache.{Changes, frames_of}

-- it ends with the frame of the home used, if one is kept, and all others as they were
abbrev pub EndsUsed : MutBor PageCache → Home → Fml
EndsUsed cache home = follows_so the_row the_row cache.ghost_name none (λ _ _. ⊤)
    (Changes home (frames_of cache.now home) cache.now)
