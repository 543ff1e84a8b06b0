use Rattle.std.proofs.Common.{refl, ◌∙◌, sym, arith}
use Rattle.page_cache.specs.Entries.{groups_in}
use Rattle.page_cache.proofs.Changed.{replaces, same_queue}
use Rattle.page_cache.proofs.cache.PageCache.add.Goals as goal

pub invariant_of-self : goal.invariant_of-self
invariant_of-self c =
    let cache = c.args.self.now in
    let new = c.add_frame.new.frames.entries in
    record {
      cap = c.add_frame.ensures.cap ∙ cache.cap;
      sound = record {
        queued = same_queue (groups_in cache.frames.entries) (groups_in new) _ (λ q. sym (c.add_frame.ensures.groups q)) cache.sound.queued;
        parts = omega (arith, c.add_frame.ensures.parts, cache.sound.parts);
        fit = cache.sound.fit;
      };
    }

pub returns-clause-replaces : goal.returns-clause-replaces
returns-clause-replaces c = replaces c.args.home.now c.home_number.ensures.width c.args.frame c.args.self.now _ refl _ c.home_number.ensures.value c.add_frame.result c.add_frame.ensures.displaces
