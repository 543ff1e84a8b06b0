use Rattle.std.proofs.Common.{subst, sym}
use Rattle.index_pages.specs.page_store.Homes.{pages_of}
use Rattle.index_pages.specs.fileset_files.declared.bitfiles.Bitfiles.{Bitfiles}
use Rattle.index_pages.specs.fileset_files.Changes.{without_chain}
use Rattle.index_pages.specs.fileset_files.State.{without_state}
use Rattle.index_pages.specs.fileset_files.Together.{AreTogether}
use Rattle.index_pages.specs.fileset_files.States.{HaveStates}
use Rattle.file_world.proofs.states.take_out.Goals as goal

pub returns-clause-world : goal.returns-clause-world
returns-clause-world c = (_, c.in_ok-remove.ensures.together c.args.world.now.space c.args.world.now.cells c.requires.0 c.requires.1)

pub returns-clause-map : goal.returns-clause-map
returns-clause-map c = λ states was.
    let world = c.args.world.now in
    let old = pages_of world.pages.entries.items in
    let new = pages_of c.remove.new.pages.entries.items in
    let tag = c.args.tag in
    subst (λ (f : Bitfiles). HaveStates f.fileset f.tags world.space world.cells new (without_state tag states)) (sym c.remove.ensures.same)
    (c.one_file_is_removed.ensures.now world.files.fileset world.files.tags world.space world.cells old new tag states was
    (λ chains are. subst (λ (f : Bitfiles). AreTogether f.fileset f.tags world.space world.cells new (without_chain tag chains)) c.remove.ensures.same (c.in_ok-remove.ensures.together world.space world.cells chains are)))
