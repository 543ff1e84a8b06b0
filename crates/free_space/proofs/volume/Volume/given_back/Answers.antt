use Rattle.std.proofs.Common.{◌≡◌, ◌-◌, ◌++◌, ◌∙◌, length, take, drop, sym, ap, subst}
use Rattle.std.proofs.lemmas.List.{take_rest}
use Rattle.free_space.specs.Sound.{WasSoundVolume}
use Rattle.free_space.specs.VolumeSpace.{VolumeSpace}
use Rattle.free_space.proofs.Keeping.{waits_behind}
use Rattle.free_space.proofs.volume.Volume.given_back.Goals as goal

pub returns-clause-since : goal.returns-clause-since
returns-clause-since c =
    let rest = take_rest c.deref.result.now c.self.inside.kept_waiting ∙ ap (drop c.self.inside.kept_waiting) c.deref.ensures.value in
    let new = take (length c.deref.result.now - c.self.inside.kept_waiting) (drop c.self.inside.kept_waiting c.deref.result.now) in
    subst (λ (v : VolumeSpace). v.waiting ≡ v.kept_waiting ++ new) c.self.view_is
    (waits_behind c.self.inside.kept_waiting c.self.inside.waiting.items ∙ ap (λ ws. take c.self.inside.kept_waiting c.self.inside.waiting.items ++ ws) (sym rest))

pub returns-clause-sound : goal.returns-clause-sound
returns-clause-sound c = subst WasSoundVolume c.self.view_is c.self.invariant.before
