use Rattle.std.specs.Option.{option_copied}
use Rattle.directory_pages.proofs.Shown.{part_is}
use Rattle.directory_pages.proofs.search.part_at.Goals as goal

pub returns : goal.returns
returns g c = part_is (g.S.BitfileSet.files c.args.set.now) c.args.dir c.args.number c.requires.pages (option_copied c.index_page.result) c.index_page.ensures
