use Rattle.domain_making.proofs.NewCellsPage.{put_there}
use Rattle.domain_making.proofs.pages.put_free_page.Goals as goal

pub returns : goal.returns
returns g c = put_there (g.M.MetaPages.pages c.reserve.new.self) (g.M.MetaPages.pages c.put.new.self) c.args.home.now _ c.in_ok-empty_page.ensures c.put.ensures.value
