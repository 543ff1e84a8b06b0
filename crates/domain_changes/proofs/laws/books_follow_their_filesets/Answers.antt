use Rattle.domain_memory.proofs.OfQuotaBook.Sums.{charged_book, has_enough, refunded_book}
use Rattle.domain_memory.specs.Staged.{staged_books}
use Rattle.domain_changes.proofs.BooksFollow.{books_follow, own_book}
use Rattle.domain_changes.proofs.laws.books_follow_their_filesets.Goals as goal

pub returns-clause-follows : goal.returns-clause-follows
returns-clause-follows c = λ number entry old now all fileset tree has there tables same others leads are.
    books_follow number entry old all fileset has there now tables tree same others leads are

pub returns-clause-charged : goal.returns-clause-charged
returns-clause-charged c = λ number entry old now all fileset tree node was is uid gid files blocks has there tables changes node_changes more are.
    books_follow number entry old all fileset has there now tables tree changes.table changes.others
    (λ its. charged_book fileset.tree tree node was is uid gid files blocks (staged_books old number) (staged_books now number) its node_changes more changes.book) are

pub returns-clause-refunded : goal.returns-clause-refunded
returns-clause-refunded c = λ number entry old now all fileset tree node was is uid gid files blocks has there tables changes node_changes less are.
    books_follow number entry old all fileset has there now tables tree changes.table changes.others
    (λ its. refunded_book fileset.tree tree node was is uid gid files blocks (staged_books old number) (staged_books now number) its node_changes less changes.book) are

pub returns-clause-enough : goal.returns-clause-enough
returns-clause-enough c = λ number entry old all fileset tree node was is uid gid files blocks has there node_changes less are.
    has_enough fileset.tree tree node was is uid gid files blocks (staged_books old number) (own_book number entry old all fileset has there are) node_changes less
