use Rattle.std.proofs.Common.{◌≡◌, ◌≤◌, length, ap, arith}
use Rattle.std.proofs.lemmas.List.{take_all}
use Rattle.free_space.specs.VolumeSpace.{keeping}
use Rattle.free_space.proofs.Changing.{before_none}
use Rattle.free_space.proofs.Keeping.{kept_now}
use Rattle.free_space.proofs.volume.Volume.keep.Goals as goal

pub invariant_of-self : goal.invariant_of-self
invariant_of-self c =
    let all : c.len-self-inside.result ≡ length c.self.inside.waiting.items = omega (arith, c.len-self-inside.ensures) in
    rw (c.clear.ensures.items, c.clear-2.ensures.items, c.clear.ensures.capacity, c.clear-2.ensures.capacity, all)
    (kept_now c.self.invariant.sound c.self.invariant.enough c.self.invariant.enough_taken c.self.invariant.enough_freed)

pub returns-clause-value : goal.returns-clause-value
returns-clause-value c =
    let all : length c.self.inside.waiting.items ≤ c.len-self-inside.result = omega (arith, c.len-self-inside.ensures) in
    rw (c.clear.ensures.items, c.clear-2.ensures.items, before_none c.self.inside.map.used, take_all c.len-self-inside.result c.self.inside.waiting.items all)
    (ap keeping c.self.view_is)
