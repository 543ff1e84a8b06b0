use Rattle.std.proofs.Common.{◌≤◌, rules, subst, sym}
use Rattle.file_chains.specs.free_space.Spaces.{IsHeld, Spaces}
use Rattle.file_chains.proofs.OfFreeSpace.Places.{free_can, held_taken}
use Rattle.fileset_files.specs.Together.{AreTogether, IsHeldApart}
use Rattle.fileset_files.proofs.Created.{nowhere_free, not_created, still_held, together_page}
use Rattle.fileset_files.proofs.Grown.{apart_now}
use Rattle.fileset_files.proofs.creating.create_on_new_page.Goals as goal

pub create_at-requires-clause-together : goal.create_at-requires-clause-together
create_at-requires-clause-together g c =
    let pages = g.M.MetaPages.pages c.args.pages.now in
    let home = c.in-Some-allocate.home in
    let chains0 = c.requires.together.0 in
    let are = c.requires.together.1 in
    let can = c.in-Some-allocate.ensures.some in
    let taken = c.in-Some-allocate.ensures.taken in
    (chains0, subst (λ (s : Spaces). AreTogether c.args.fileset c.args.tags.now s c.args.cells.now pages chains0) (sym taken) (together_page pages c.args.fileset c.args.tags.now chains0 c.args.space.now c.args.cells.now home are))

pub create_at-requires-clause-apart : goal.create_at-requires-clause-apart
create_at-requires-clause-apart g c =
    let pages = g.M.MetaPages.pages c.args.pages.now in
    let home = c.in-Some-allocate.home in
    let chains0 = c.requires.together.0 in
    let are = c.requires.together.1 in
    let can = c.in-Some-allocate.ensures.some in
    let taken = c.in-Some-allocate.ensures.taken in
    let low : 1 ≤ home.vol = search rules in
    subst (λ (s : Spaces). IsHeldApart s c.args.cells.now home) (sym taken) (apart_now c.args.space.now c.args.cells.now pages home low are.allocated can)

pub create_at-requires-clause-nowhere : goal.create_at-requires-clause-nowhere
create_at-requires-clause-nowhere g c = λ chains together.
    let pages = g.M.MetaPages.pages c.args.pages.now in
    let home = c.in-Some-allocate.home in
    let chains0 = c.requires.together.0 in
    let are = c.requires.together.1 in
    let can = c.in-Some-allocate.ensures.some in
    let taken = c.in-Some-allocate.ensures.taken in
    nowhere_free pages c.args.fileset c.args.tags.now chains0 chains c.args.space.now c.args.cells.now home are together.files can

pub unreserve-requires : goal.unreserve-requires
unreserve-requires g c =
    let pages = g.M.MetaPages.pages c.args.pages.now in
    let home = c.in-Some-allocate.home in
    let chains0 = c.requires.together.0 in
    let are = c.requires.together.1 in
    let can = c.in-Some-allocate.ensures.some in
    let taken = c.in-Some-allocate.ensures.taken in
    still_held c.in-Err.fault c.allocate.new.self c.create_at.new.space c.args.cells.now home.vol home.page c.in-Err.ensures.err
    (subst (λ (s : Spaces). IsHeld s home.vol home.page) (sym taken) (held_taken c.args.space.now home.vol home.page (free_can c.args.space.now home.vol home.page can)))

pub returns-in-Ok-clause-ok : goal.returns-in-Ok-clause-ok
returns-in-Ok-clause-ok g c = λ chains together.
    let pages = g.M.MetaPages.pages c.args.pages.now in
    let home = c.in-Some-allocate.home in
    let chains0 = c.requires.together.0 in
    let are = c.requires.together.1 in
    let can = c.in-Some-allocate.ensures.some in
    let taken = c.in-Some-allocate.ensures.taken in
    c.in-Ok.ensures.ok chains (subst (λ (s : Spaces). AreTogether c.args.fileset c.args.tags.now s c.args.cells.now pages chains) (sym taken) (together_page pages c.args.fileset c.args.tags.now chains c.args.space.now c.args.cells.now home together))

pub returns-in-Err-clause-err : goal.returns-in-Err-clause-err
returns-in-Err-clause-err g c =
    let pages = g.M.MetaPages.pages c.args.pages.now in
    let home = c.in-Some-allocate.home in
    let chains0 = c.requires.together.0 in
    let are = c.requires.together.1 in
    let can = c.in-Some-allocate.ensures.some in
    let taken = c.in-Some-allocate.ensures.taken in
    not_created c.in-Err.fault c.args.tags.now home c.args.space.now c.allocate.new.self c.create_at.new.space c.unreserve.new.self c.args.cells.now pages c.requires.none can taken c.in-Err.ensures.err c.unreserve.ensures
