use Rattle.logged_rack.proofs.Sound.{sound_settled}
use Rattle.logged_rack.proofs.rack.LoggedRack.new.Goals as goal

pub invariant_of-result : goal.invariant_of-result
invariant_of-result g c = record { sound = sound_settled (g.R.Rack.disk c.args.rack) c.args.log _ c.requires.ring c.requires.members c.requires.settled }
