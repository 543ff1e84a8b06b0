use Rattle.std.proofs.Common.{refl}
use Rattle.meta_log.specs.log_ring.Settling.{IsOnPage}
use Rattle.logged_rack.specs.Pending.{marks_of}
use Rattle.logged_rack.proofs.Places.{home_of_member}
use Rattle.logged_rack.proofs.Sound.{sound_written}
use Rattle.logged_rack.proofs.rack.LoggedRack.write_home.Goals as goal

pub write_page-requires : goal.write_page-requires
write_page-requires g c = home_of_member (g.R.Rack.disk c.args.self.now.rack).sizes c.args.self.now.log.anchor c.args.home c.args.self.now.sound.members c.requires.may.loggable

pub invariant_of-self : goal.invariant_of-self
invariant_of-self g c =
    record {
      sound =
          sound_written (marks_of c.args.self.now.marked) (marks_of c.set_mark.new.marked) c.args.home.vol (IsOnPage c.args.home) (λ v k at. at.0) (g.R.Rack.disk c.args.self.now.rack) (g.R.Rack.disk c.write_page.new.rack)
          c.write_page.ensures.writes.touches c.args.self.now.log c.args.self.now.log refl c.args.self.now.sound c.set_mark.ensures;
    }

pub invariant_of-self-in-Err : goal.invariant_of-self-in-Err
invariant_of-self-in-Err g c =
    record {
      sound =
          sound_written (marks_of c.args.self.now.marked) (marks_of c.set_mark.new.marked) c.args.home.vol (IsOnPage c.args.home) (λ v k at. at.0) (g.R.Rack.disk c.args.self.now.rack) (g.R.Rack.disk c.write_page.new.rack)
          c.write_page.ensures.writes.touches c.args.self.now.log c.args.self.now.log refl c.args.self.now.sound c.set_mark.ensures;
    }
