use Rattle.stored_set.proofs.Bare.{bare_inserted, bare_linked, bare_made, bare_owned, bare_put, bare_taken, bare_written}
use Rattle.stored_set.proofs.whole.files_have_no_index.Goals as goal

pub returns-clause-made : goal.returns-clause-made
returns-clause-made c = λ files tag kind uid gid was. bare_made files was tag kind uid gid

pub returns-clause-taken_out : goal.returns-clause-taken_out
returns-clause-taken_out c = λ files tag was. bare_taken files was tag

pub returns-clause-described : goal.returns-clause-described
returns-clause-described c = λ files tag value was. bare_owned files was tag value

pub returns-clause-linked : goal.returns-clause-linked
returns-clause-linked c = λ files tag links was. bare_linked files was tag links

pub returns-clause-written : goal.returns-clause-written
returns-clause-written c = λ files tag number page was. bare_written files was tag number page

pub returns-clause-put : goal.returns-clause-put
returns-clause-put c = λ files tag number page was directory. bare_put files was tag directory number page

pub returns-clause-inserted : goal.returns-clause-inserted
returns-clause-inserted c = λ files tag number page was directory. bare_inserted files was tag directory number page
