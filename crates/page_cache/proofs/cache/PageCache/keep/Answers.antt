use Rattle.std.proofs.Common.{◌∙◌, IsNone, sym, subst, arith}
use Rattle.page_cache.specs.Frames.{Frames}
use Rattle.page_cache.proofs.Changed.{after_same, replaces_after}
use Rattle.page_cache.proofs.cache.PageCache.keep.Goals as goal

pub add-requires-clause-new : goal.add-requires-clause-new
add-requires-clause-new c = subst (λ (f : Frames). IsNone (f c.args.home)) (sym c.make_room.ensures.keeps.frames) c.requires.new

pub add-requires-clause-last : goal.add-requires-clause-last
add-requires-clause-last c full = c.make_room.ensures.last (sym c.make_room.ensures.keeps.kept ∙ full)

pub returns-in-Ok-clause-adds : goal.returns-in-Ok-clause-adds
returns-in-Ok-clause-adds c free = after_same c.args.home _ c.args.self.now c.make_room.new.self c.add.new.self c.make_room.ensures.keeps (c.in-Ok.ensures.adds (omega (arith, c.make_room.ensures.keeps.kept, free)))

pub returns-in-Ok-clause-replaces : goal.returns-in-Ok-clause-replaces
returns-in-Ok-clause-replaces c full = replaces_after c.args.home _ c.args.self.now c.make_room.new.self c.add.new.self c.make_room.ensures.keeps (c.in-Ok.ensures.replaces (c.make_room.ensures.keeps.kept ∙ full))
