use Rattle.std.proofs.Common.{◌∙◌, ◌≤◌, IsSome, ap, rules, subst}
use Rattle.index_pages.specs.extent_maps.Runs.{home_at}
use Rattle.index_pages.specs.page_store.Homes.{pages_of}
use Rattle.index_pages.specs.domain_base.declared.version.Version.TheVariants.{Four}
use Rattle.file_world.proofs.Kept.{held, may_move, moved_or_kept, together}
use Rattle.file_world.proofs.calls.move_page.Goals as goal

pub switch_page-requires-clause-moves : goal.switch_page-requires-clause-moves
switch_page-requires-clause-moves c = λ now are.
    let world = c.args.world.now in
    let home = c.in-Some.home in
    let low : 1 ≤ home.vol = search rules in
    may_move (pages_of world.pages.entries.items) world.files.fileset world.files.tags c.requires.0 world.space world.cells home low c.requires.1 c.in-Some.ensures.some _ c.in-Some.ensures.taken c.args.tag c.args.page now are
    (subst (λ o. IsSome o) (c.attributes.ensures now are.files) c.if-is_none.ensures)
    (subst (λ o. IsSome o) (c.home.ensures ∙ ap home_at (c.page_home.ensures now are.files)) c.if-is_none-2.ensures)

pub switch_page-requires-clause-together : goal.switch_page-requires-clause-together
switch_page-requires-clause-together c =
    let world = c.args.world.now in
    let home = c.in-Some.home in
    let low : 1 ≤ home.vol = search rules in
    held (pages_of world.pages.entries.items) world.files.fileset world.files.tags c.requires.0 world.space world.cells home low c.requires.1 c.in-Some.ensures.some _ c.in-Some.ensures.taken

pub returns : goal.returns
returns c =
    let world = c.args.world.now in
    let home = c.in-Some.home in
    let low : 1 ≤ home.vol = search rules in
    let are = together (pages_of world.pages.entries.items) world.files.fileset world.files.tags c.requires.0 world.space world.cells home low c.requires.1 c.in-Some.ensures.some _ c.in-Some.ensures.taken in
    moved_or_kept world.files.fileset world.files.tags c.args.tag c.args.page home Four c.requires.0 c.switch_page.new.space world.cells c.switch_page.new.cells (pages_of world.pages.entries.items) (pages_of c.switch_page.new.pages.entries.items) c.switch_page.result
    (c.switch_page.ensures.ok c.requires.0 are) (c.switch_page.ensures.kept c.requires.0 are)
