use Rattle.stored_set.proofs.Wholeness.{whole_added, whole_described, whole_inserted, whole_made, whole_put, whole_removed, whole_written}
use Rattle.stored_set.proofs.whole.directories_stay_whole.Goals as goal

pub returns-clause-made : goal.returns-clause-made
returns-clause-made c = λ states files tag what was. whole_made states files was tag what

pub returns-clause-taken_out : goal.returns-clause-taken_out
returns-clause-taken_out c = λ states files tag was. whole_removed states files was tag

pub returns-clause-described : goal.returns-clause-described
returns-clause-described c = λ states files tag value was size. whole_described states files was tag value size

pub returns-clause-added : goal.returns-clause-added
returns-clause-added c = λ states files tag value number home page was last small size. whole_added states files was tag value number home page last small size

pub returns-clause-written : goal.returns-clause-written
returns-clause-written c = λ states files tag number page was within. whole_written states files was tag number page within

pub returns-clause-put : goal.returns-clause-put
returns-clause-put c = λ states files tag index number page was within total. whole_put states files was tag index number page within total

pub returns-clause-inserted : goal.returns-clause-inserted
returns-clause-inserted c = λ states files tag index number page was fits total. whole_inserted states files was tag index number page fits total
