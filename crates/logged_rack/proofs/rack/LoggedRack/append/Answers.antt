use Rattle.std.proofs.Common.{ap}
use Rattle.meta_log.specs.Log.{Log}
use Rattle.logged_rack.proofs.Sound.{sound_same}
use Rattle.logged_rack.proofs.rack.LoggedRack.append.Goals as goal

pub invariant_of-self : goal.invariant_of-self
invariant_of-self g c =
    record { sound = sound_same (g.R.Rack.disk c.args.self.now.rack) c.args.self.now.log _ _ (ap (λ (l : Log). l.anchor) c.append_from.ensures.appends) c.args.self.now.sound }
