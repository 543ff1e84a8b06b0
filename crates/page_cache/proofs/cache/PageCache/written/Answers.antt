use Rattle.std.proofs.Common.{◌∙◌, sym}
use Rattle.std.specs.Option.{option_map}
use Rattle.page_cache.specs.Entries.{frame_at}
use Rattle.page_cache.specs.Frames.{cleaned}
use Rattle.page_cache.proofs.Changed.{cleaned_waits_not, has_room, sound_after}
use Rattle.page_cache.proofs.cache.PageCache.written.Goals as goal

pub move_home-requires : goal.move_home-requires
move_home-requires c = record { room = has_room _ _ _ _ c.args.self.now.sound c.group_at-old.ensures.most }

pub invariant_of-self : goal.invariant_of-self
invariant_of-self c =
    let was = frame_at c.args.self.now.frames.entries c.home_number-number.result in
    record {
      cap = c.clean_frame.ensures.cap ∙ c.args.self.now.cap;
      sound = sound_after c.args.home c.group_at-old.ensures.width (option_map cleaned was) _ _ _ _ _ _ _ _ _ _ _ c.home_number-number.ensures.value c.clean_frame.ensures.becomes c.group_at-old.ensures.value (sym (cleaned_waits_not was)) c.move_home.ensures.moves c.move_home.ensures.capacity c.args.self.now.sound;
    }
