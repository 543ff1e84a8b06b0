use Rattle.std.proofs.Common.{◌∙◌, refl, sym}
use Rattle.page_cache.specs.Cache.{frames_of}
use Rattle.page_cache.specs.Frames.{groups}
use Rattle.page_cache.proofs.First.{if_some_is, no_number, none_waits, some_home, waits_first}
use Rattle.page_cache.proofs.cache.PageCache.frames_are_counted.Goals as goal

pub returns-clause-none : goal.returns-clause-none
returns-clause-none c none home =
    let cache = c.args.self.now in
    no_number (groups (frames_of cache) home) (none_waits cache.frames.entries cache.dirty.places.items cache.sound.queued (sym c.first.ensures.value ∙ c.first.ensures.none none) home)

pub returns-clause-some : goal.returns-clause-some
returns-clause-some c some =
    let cache = c.args.self.now in
    let home = some_home c.first.result (c.first.ensures.some some) in
    let width = if_some_is c.first.result home.0 home.1 c.first.ensures.width in
    let first = waits_first cache.frames.entries cache.dirty.places.items cache.sound.queued cache.dirty.rising home.0 width (sym c.first.ensures.value ∙ home.1) in
    (home.0, rw first.1.has refl)
