use Rattle.stored_set.proofs.Written.{written}
use Rattle.stored_set.proofs.set_laws.page_is_written.Goals as goal

pub returns : goal.returns
returns c = λ fileset places space cells pages chains indexes files tag number home page was directory within there.
    written fileset places space cells pages chains indexes files was tag number home page there directory within
