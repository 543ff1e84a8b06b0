use Rattle.std.proofs.Common.{◌≤◌, rules, subst, sym}
use Rattle.release_steps.specs.page_store.Homes.{pages_of}
use Rattle.release_steps.specs.free_space.Spaces.{Spaces}
use Rattle.release_steps.specs.fileset_files.Together.{IsHeldApart}
use Rattle.release_steps.proofs.OfFilesetFiles.Grown.{apart_now}
use Rattle.file_world.proofs.Kept.{together}
use Rattle.release_tables.proofs.Wells.{page_well}
use Rattle.release_tables.proofs.going.listed_page.Goals as goal

pub returns : goal.returns
returns c =
    let world = c.args.world.now in
    let pages = pages_of world.pages.entries.items in
    let home = c.in-Some.home in
    let low : 1 ≤ home.vol = search rules in
    let taken = c.in-Some.ensures.taken in
    page_well _ world.cells pages home
    (together pages world.files.fileset world.files.tags c.requires.0 world.space world.cells home low c.requires.1 c.in-Some.ensures.some _ taken).allocated low
    (subst (λ (s : Spaces). IsHeldApart s world.cells home) (sym taken) (apart_now world.space world.cells pages home low c.requires.1.allocated c.in-Some.ensures.some))
    c.new-list.result.list c.add_tag_page.new.self.list c.new-list.ensures.entries c.new-list.ensures.tag_pages c.in_ok-add_tag_page.ensures.ok c.in_ok-add_tag_page.ensures.entries
