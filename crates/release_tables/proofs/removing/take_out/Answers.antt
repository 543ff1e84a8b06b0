use Rattle.std.proofs.Common.{subst, sym}
use Rattle.release_steps.specs.domain_base.declared.version.Version.TheVariants.{Four}
use Rattle.release_steps.specs.page_store.Homes.{pages_of}
use Rattle.release_steps.specs.fileset_files.declared.bitfiles.Bitfiles.{Bitfiles}
use Rattle.release_steps.specs.fileset_files.Changes.{without_chain}
use Rattle.release_steps.specs.fileset_files.Together.{AreTogether}
use Rattle.release_tables.specs.Stood.{IsStood}
use Rattle.release_tables.proofs.Stoods.{dropped_stood}
use Rattle.release_tables.proofs.removing.take_out.Goals as goal

pub returns : goal.returns
returns c =
    let r = c.requires in
    let world = c.args.world.now in
    let tag = c.in-Some.tag in
    let new = pages_of c.remove.new.pages.entries.items in
    let e = c.in_ok-at.ensures in
    let together = subst (λ (f : Bitfiles). AreTogether f.fileset f.tags world.space world.cells new (without_chain tag r.1)) e.same (e.together world.space world.cells r.1 r.3.together) in
    subst (λ (f : Bitfiles). IsStood f.fileset (record { places = f.tags; list = c.add.new.self.list; space = world.space; cells = world.cells; pages = new })) (sym e.same)
    (dropped_stood world.files.fileset Four tag world.files.tags c.args.list.now.list world.space world.cells (pages_of world.pages.entries.items) new r.0 r.1 r.2 r.3 c.in_ok-at.at (e.ok r.1 r.3.together.files) together (e.beside r.1 r.3.together.files)
    c.add.new.self.list c.in_ok-add.ensures.ok c.in_ok-add.ensures.tag_pages)
