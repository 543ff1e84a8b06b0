use Rattle.std.proofs.Common.{List, Option, ap, ◌∙◌, sym, subst, arith}
use Rattle.std.proofs.lemmas.List.{with_items_is}
use Rattle.free_space.specs.VolumeSpace.{VolumeSpace, with_none_waiting}
use Rattle.free_space.specs.Spaces.{Spaces}
use Rattle.free_space.specs.Sound.{AreSoundVolumes}
use Rattle.free_space.proofs.Mapping.{changed_all}
use Rattle.free_space.proofs.spaces.FreeSpace.free_waiting.Goals as goal

pub invariant_of-self : goal.invariant_of-self
invariant_of-self c = (
  c.self.invariant.0,
  subst AreSoundVolumes (sym (with_items_is c.self.inside.volumes c.loop-slot.slot-items (c.loop-slot.invariant.part.len ∙ c.deref_mut-slot-items.ensures.len)))
      c.loop-slot.invariant.sound,
)

pub returns : goal.returns
returns c =
    let at : List (Option VolumeSpace) → Spaces = λ vs. record { volumes = vs; misses = c.self.inside.misses } in
    ap at (with_items_is c.self.inside.volumes c.loop-slot.slot-items (c.loop-slot.invariant.part.len ∙ c.deref_mut-slot-items.ensures.len))
    ∙ changed_all with_none_waiting c.self.inside.volumes.items c.deref_mut-slot-items.result.now c.loop-slot.slot-items c.self.inside.misses c.loop-slot.slot-index c.args.self.now
    c.self.view_is c.deref_mut-slot-items.ensures.value c.loop-slot.invariant.part (omega arith)
