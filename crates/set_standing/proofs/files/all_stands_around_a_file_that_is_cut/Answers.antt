use Rattle.set_standing.proofs.FileCalls.{cut_again, cut_listed_again}
use Rattle.set_standing.proofs.files.all_stands_around_a_file_that_is_cut.Goals as goal

pub returns-clause-none : goal.returns-clause-none
returns-clause-none c = cut_again

pub returns-clause-listed : goal.returns-clause-listed
returns-clause-listed c = λ number tag size lowered at d now listed around same bytes live changes stale together pending adds same_pages.
    cut_listed_again number tag size d now around same bytes live changes lowered at listed stale together pending adds same_pages
