use Rattle.std.proofs.Common.{◌≡◌, true, List, ap, subst}
use Rattle.free_space.specs.declared.waiting.Waiting.{Waiting}
use Rattle.free_space.specs.VolumeSpace.{is_among, with_none_waiting}
use Rattle.free_space.proofs.Changing.{before_none}
use Rattle.free_space.proofs.Freeing.{sound_freed}
use Rattle.free_space.proofs.Keeping.{kept_now}
use Rattle.free_space.proofs.volume.Volume.free_waiting.Goals as goal

pub free_each-requires : goal.free_each-requires
free_each-requires c = λ p there. c.self.invariant.sound.within p (c.self.invariant.sound.held p (subst (λ (ws : List Waiting). is_among ws p ≡ true) c.deref.ensures.value there))

pub invariant_of-self : goal.invariant_of-self
invariant_of-self c =
    rw (c.clear.ensures.items, c.clear-2.ensures.items, c.clear-3.ensures.items, c.clear.ensures.capacity, c.clear-2.ensures.capacity, c.clear-3.ensures.capacity, c.free_each.ensures, c.deref.ensures.value)
    (kept_now (sound_freed c.self.invariant.sound) c.self.invariant.enough c.self.invariant.enough_taken c.self.invariant.enough_freed)

pub returns-clause-value : goal.returns-clause-value
returns-clause-value c =
    rw (c.clear.ensures.items, c.clear-2.ensures.items, c.clear-3.ensures.items, before_none c.free_each.new.map.used, c.free_each.ensures, c.deref.ensures.value)
    (ap with_none_waiting c.self.view_is)

pub returns-clause-sound : goal.returns-clause-sound
returns-clause-sound c = rw (c.clear.ensures.items, c.free_each.ensures, c.deref.ensures.value) (sound_freed c.self.invariant.sound)
