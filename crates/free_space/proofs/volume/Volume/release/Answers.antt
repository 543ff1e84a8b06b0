use Rattle.std.proofs.Common.{◌≡◌, ◌≤◌, length, ap, arith}
use Rattle.std.proofs.lemmas.List.{take_all}
use Rattle.free_space.specs.VolumeSpace.{with_released}
use Rattle.free_space.proofs.Changing.{before_none}
use Rattle.free_space.proofs.Keeping.{kept_now}
use Rattle.free_space.proofs.StaysSound.{sound_released}
use Rattle.free_space.proofs.volume.Volume.release.Goals as goal

pub release-requires : goal.release-requires
release-requires c = λ p there. c.self.invariant.sound.within p (c.self.invariant.sound.held p there)

pub invariant_of-self : goal.invariant_of-self
invariant_of-self c =
    let all : c.len-self-inside.result ≡ length c.release.new.waiting.items = omega (arith, c.len-self-inside.ensures) in
    rw (c.clear.ensures.items, c.clear-2.ensures.items, c.clear.ensures.capacity, c.clear-2.ensures.capacity, all, c.release.ensures.map, c.release.ensures.waiting, c.release.ensures.room)
    (kept_now (sound_released c.self.invariant.sound c.args.kind c.args.group) c.self.invariant.enough c.self.invariant.enough_taken c.self.invariant.enough_freed)

pub returns-clause-value : goal.returns-clause-value
returns-clause-value c =
    let all : length c.release.new.waiting.items ≤ c.len-self-inside.result = omega (arith, c.len-self-inside.ensures) in
    rw (
      c.clear.ensures.items,
      c.clear-2.ensures.items,
      before_none c.release.new.map.used,
      take_all c.len-self-inside.result c.release.new.waiting.items all,
      c.release.ensures.map,
      c.release.ensures.waiting,
    )
    (ap (with_released c.args.kind c.args.group) c.self.view_is)

pub returns-clause-sound : goal.returns-clause-sound
returns-clause-sound c = rw (c.release.ensures.map, c.release.ensures.waiting) (sound_released c.self.invariant.sound c.args.kind c.args.group)
