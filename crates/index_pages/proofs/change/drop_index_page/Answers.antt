use Rattle.std.proofs.Common.{subst, sym}
use Rattle.index_pages.specs.Changes.{DropsIndexPage}
use Rattle.index_pages.proofs.Changed.{drops}
use Rattle.index_pages.proofs.change.drop_index_page.Goals as goal

pub returns-clause-dropped : goal.returns-clause-dropped
returns-clause-dropped g c =
    let old = g.M.MetaPages.pages c.args.pages.now in
    let new = g.M.MetaPages.pages c.forget.new.self in
    λ homes are. subst (λ next. DropsIndexPage c.args.first next old new homes) (sym c.next_home-next.ensures) (drops old new c.args.first homes are c.forget.ensures.value)
