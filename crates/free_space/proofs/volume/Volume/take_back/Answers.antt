use Rattle.std.proofs.Common.{ap, arith}
use Rattle.std.proofs.lemmas.List.{take-take}
use Rattle.free_space.specs.Sound.{used_before}
use Rattle.free_space.specs.VolumeSpace.{as_kept}
use Rattle.free_space.proofs.Changing.{before_none}
use Rattle.free_space.proofs.Keeping.{kept_back}
use Rattle.free_space.proofs.volume.Volume.take_back.Goals as goal

pub clear_each-requires : goal.clear_each-requires
clear_each-requires c =
    rw (c.as_slice.ensures.value) (λ p one. c.self.invariant.sound.within p (c.self.invariant.changes.there p one))

pub set_each-requires : goal.set_each-requires
set_each-requires c =
    rw (c.as_slice-2.ensures.value, c.clear_each.ensures) c.self.invariant.changes.within

pub invariant_of-self : goal.invariant_of-self
invariant_of-self c =
    rw (
      c.set_each.ensures,
      c.clear_each.ensures,
      c.as_slice.ensures.value,
      c.as_slice-2.ensures.value,
      c.truncate.ensures.items,
      c.clear.ensures.items,
      c.clear-2.ensures.items,
      c.truncate.ensures.capacity,
      c.clear.ensures.capacity,
      c.clear-2.ensures.capacity,
    )
    (kept_back c.self.invariant)

pub returns-clause-value : goal.returns-clause-value
returns-clause-value c =
    rw (
      c.set_each.ensures,
      c.clear_each.ensures,
      c.as_slice.ensures.value,
      c.as_slice-2.ensures.value,
      c.truncate.ensures.items,
      c.clear.ensures.items,
      c.clear-2.ensures.items,
      before_none (used_before c.self.inside.map.used c.self.inside.taken.items c.self.inside.freed.items),
      take-take c.self.inside.kept_waiting c.self.inside.kept_waiting c.self.inside.waiting.items (omega arith),
    )
    (ap as_kept c.self.view_is)

pub returns-clause-sound : goal.returns-clause-sound
returns-clause-sound c =
    rw (c.set_each.ensures, c.clear_each.ensures, c.as_slice.ensures.value, c.as_slice-2.ensures.value, c.truncate.ensures.items) c.self.invariant.before
