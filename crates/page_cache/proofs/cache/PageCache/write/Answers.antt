use Rattle.std.proofs.Common.{◌∙◌, Some, refl}
use Rattle.page_cache.specs.declared.frame.Frame.{Frame}
use Rattle.page_cache.proofs.Changed.{has_room, sound_after}
use Rattle.page_cache.proofs.cache.PageCache.write.Goals as goal

pub move_home-requires : goal.move_home-requires
move_home-requires c = record { room = has_room _ _ _ _ c.args.self.now.sound c.group_at-old.ensures.most }

pub invariant_of-self : goal.invariant_of-self
invariant_of-self c =
    let frame : Frame = record { page = c.args.page; waits = Some c.later_of.result } in
    record {
      cap = c.set_frame.ensures.cap ∙ c.args.self.now.cap;
      sound = sound_after c.args.home c.group_at-old.ensures.width (Some frame) _ _ _ _ _ _ _ _ _ _ _ c.home_number-number.ensures.value c.set_frame.ensures.becomes c.group_at-old.ensures.value refl c.move_home.ensures.moves c.move_home.ensures.capacity c.args.self.now.sound;
    }
