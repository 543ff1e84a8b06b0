use Rattle.std.proofs.Common.{◌∙◌, ℕ, subst, sym}
use Rattle.release_steps.specs.page_store.Homes.{pages_of}
use Rattle.release_steps.specs.Calls.{StandsWell}
use Rattle.release_tables.specs.Called.{fileset_in}
use Rattle.release_tables.proofs.Besides.{made_both}
use Rattle.release_tables.proofs.beside.make_beside.Goals as goal

pub returns : goal.returns
returns c = λ list has.
    let world = c.args.two.now.world in
    let other = c.args.two.now.other in
    let now = c.create.new in
    let e = c.in_ok-create.ensures in
    let are = has.3 in
    let new = pages_of now.pages.entries.items in
    let it = made_both world.files.fileset c.args.version c.in_ok-create.field-0 world.files.tags now.self.tags list has.0 has.1 world.space now.space world.cells now.cells (pages_of world.pages.entries.items) new _ _
    (e.ok has.1 are.stands.together) e.taken e.others e.elsewhere are.stands other.fileset are.differ other.tags has.2 are.beside in (
      it.0,
      it.1,
      has.2,
      record {
        stands = subst (λ (f : ℕ). StandsWell f (fileset_in (record { places = now.self.tags; list = list; space = now.space; cells = now.cells; pages = new }) it.0 it.1)) (sym c.create.ensures.fileset) it.2;
        beside = it.3;
        differ = λ same. are.differ (same ∙ c.create.ensures.fileset);
      },
    )
