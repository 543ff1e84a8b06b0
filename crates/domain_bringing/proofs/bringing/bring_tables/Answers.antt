use Rattle.std.proofs.Common.{◌≡◌, List, subst}
use Rattle.domain_faults.specs.domain_base.declared.place.Home.{Home}
use Rattle.domain_faults.specs.log_ring.Images.{overlaid}
use Rattle.domain_faults.specs.log_ring.declared.image.PageImage.{PageImage}
use Rattle.domain_bringing.proofs.Laid.{brings_behind}
use Rattle.domain_bringing.proofs.bringing.bring_tables.Goals as goal

pub returns-clause-brings : goal.returns-clause-brings
returns-clause-brings g c =
    let disk = g.R.Rack.disk in
    let pages = g.M.MetaPages.pages in
    brings_behind (disk c.args.rack.now) (disk c.load.new.rack) c.args.redone.now.images (pages c.args.pages.now) (pages c.lay_images.new.pages) (pages c.load.new.pages) c.requires.none
    (subst (λ (images : List PageImage). (home : Home) → pages c.lay_images.new.pages home ≡ overlaid images (pages c.args.pages.now) home) c.as_slice.ensures c.in_ok-lay_images.ensures.laid)
    c.load.ensures.brings

pub returns-clause-looked : goal.returns-clause-looked
returns-clause-looked g c = c.in_ok-load.ensures.whole c.requires.good.inside
