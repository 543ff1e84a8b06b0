use Rattle.file_pages.proofs.Brought.{brought}
use Rattle.file_pages.proofs.held.FilePages.read_in.Goals as goal

pub returns-in-Ok-read_home-clause-brought : goal.returns-in-Ok-read_home-clause-brought
returns-in-Ok-read_home-clause-brought g c =
    brought (g.R.Rack.disk c.args.rack.now.rack) c.args.home.now c.args.self.now.lent.items c.args.self.now.cache c.keep_read.new.self.cache c.read_home.new.page c.in-Ok-read_home.ensures.bytes c.keep_read.result
    c.keep_read.ensures.adds c.keep_read.ensures.displaces
