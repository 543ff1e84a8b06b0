use Rattle.std.proofs.Common.{◌∙◌, None, refl}
use Rattle.page_cache.proofs.Changed.{has_room, sound_after}
use Rattle.page_cache.proofs.cache.PageCache.drop_frame.Goals as goal

pub move_home-requires : goal.move_home-requires
move_home-requires c = record { room = has_room _ _ _ _ c.args.self.now.sound c.group_at-old.ensures.most }

pub invariant_of-self : goal.invariant_of-self
invariant_of-self c =
    record {
      cap = c.drop_frame.ensures.cap ∙ c.args.self.now.cap;
      sound = sound_after c.args.home c.group_at-old.ensures.width None _ _ _ _ _ _ _ _ _ _ _ c.home_number-number.ensures.value c.drop_frame.ensures.becomes c.group_at-old.ensures.value refl c.move_home.ensures.moves c.move_home.ensures.capacity c.args.self.now.sound;
    }
