use Rattle.stored_set.proofs.Told.{index_told, kind_told, links_told, page_told}
use Rattle.stored_set.proofs.set_laws.set_is_told.Goals as goal

pub returns-clause-kind : goal.returns-clause-kind
returns-clause-kind c = λ fileset places space cells pages chains indexes files tag was.
    kind_told fileset places space cells pages chains indexes files was tag

pub returns-clause-links : goal.returns-clause-links
returns-clause-links c = λ fileset places space cells pages chains indexes files tag was.
    links_told fileset places space cells pages chains indexes files was tag

pub returns-clause-page : goal.returns-clause-page
returns-clause-page c = λ fileset places space cells pages chains indexes files tag number was directory.
    page_told fileset places space cells pages chains indexes files was tag directory number

pub returns-clause-index : goal.returns-clause-index
returns-clause-index c = λ fileset places space cells pages chains indexes files tag was directory.
    index_told fileset places space cells pages chains indexes files was tag directory
