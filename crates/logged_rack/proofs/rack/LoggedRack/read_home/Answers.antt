use Rattle.logged_rack.proofs.Sound.{sound_still}
use Rattle.logged_rack.proofs.rack.LoggedRack.read_home.Goals as goal

pub invariant_of-self : goal.invariant_of-self
invariant_of-self g c =
    record { sound = sound_still (g.R.Rack.disk c.args.self.now.rack) (g.R.Rack.disk c.read_page.new.rack) c.args.self.now.log _ c.read_page.ensures.reads.touches c.args.self.now.sound }
