use Rattle.std.proofs.Common.{◌∙◌, ◌≤◌, IsSome, ap, rules, subst}
use Rattle.index_pages.specs.extent_maps.Runs.{home_at}
use Rattle.index_pages.specs.extent_maps.declared.run.PagePlace.TheVariants.{At}
use Rattle.index_pages.specs.page_store.Homes.{pages_of}
use Rattle.index_pages.specs.domain_base.declared.version.Version.TheVariants.{Four}
use Rattle.file_world.proofs.Kept.{held, may_move, together}
use Rattle.file_world.proofs.states.move_one.Goals as goal

pub switch_page-requires-clause-moves : goal.switch_page-requires-clause-moves
switch_page-requires-clause-moves c = λ now are.
    let world = c.args.world.now in
    let home = c.in-Some.home in
    let low : 1 ≤ home.vol = search rules in
    may_move (pages_of world.pages.entries.items) world.files.fileset world.files.tags c.requires.0 world.space world.cells home low c.requires.1 c.in-Some.ensures.some _ c.in-Some.ensures.taken c.args.tag c.args.page now are
    (subst (λ o. IsSome o) (c.attributes.ensures now are.files) c.if-is_none.ensures)
    (subst (λ o. IsSome o) (c.home.ensures ∙ ap home_at (c.page_home.ensures now are.files)) c.if-is_none-2.ensures)

pub switch_page-requires-clause-together : goal.switch_page-requires-clause-together
switch_page-requires-clause-together c =
    let world = c.args.world.now in
    let home = c.in-Some.home in
    let low : 1 ≤ home.vol = search rules in
    held (pages_of world.pages.entries.items) world.files.fileset world.files.tags c.requires.0 world.space world.cells home low c.requires.1 c.in-Some.ensures.some _ c.in-Some.ensures.taken

pub returns : goal.returns
returns c = λ states was.
    let world = c.args.world.now in
    let home = c.in-Some.home in
    let low : 1 ≤ home.vol = search rules in
    let old = pages_of world.pages.entries.items in
    let space = c.allocate.new.self in
    c.one_page_is_placed.ensures world.files.fileset world.files.tags space c.switch_page.new.space world.cells c.switch_page.new.cells old (pages_of c.switch_page.new.pages.entries.items) c.args.tag c.args.page (At home) Four states
    (record {
      chains = was.chains;
      together = together old world.files.fileset world.files.tags was.chains world.space world.cells home low was.together c.in-Some.ensures.some _ c.in-Some.ensures.taken;
      are = was.are;
    })
    (λ chains are. c.in_ok-switch_page.ensures.ok chains are)
