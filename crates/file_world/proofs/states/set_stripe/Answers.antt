use Rattle.index_pages.specs.page_store.Homes.{pages_of}
use Rattle.file_world.proofs.states.set_stripe.Goals as goal

pub returns-clause-world : goal.returns-clause-world
returns-clause-world c = (_, c.in_ok-set_stripe.ensures.together c.args.world.now.space c.args.world.now.cells c.requires.0 c.requires.1)

pub returns-clause-map : goal.returns-clause-map
returns-clause-map c = λ states was.
    let world = c.args.world.now in
    c.one_stripe_is_set.ensures world.files.fileset world.files.tags world.space world.cells (pages_of world.pages.entries.items) (pages_of c.set_stripe.new.pages.entries.items) c.args.tag c.args.stripe states was
    (λ chains are. c.in_ok-set_stripe.ensures.together world.space world.cells chains are)
