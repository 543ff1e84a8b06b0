-- Books of filesets once the book and the tree of one of them have changed.
use Rattle.std.proofs.Common.{◌≡◌, ◌∙◌, ℕ, Option, Some, IfSome, IsSomeAnd, slice_get, refl, sym, ap, subst}
use Rattle.std.specs.FinMap.{get, insert}
use Rattle.domain_memory.specs.fileset_model.Fileset.{Fileset}
use Rattle.domain_memory.specs.fileset_model.Filesets.{FilesetMap}
use Rattle.domain_memory.specs.fileset_model.declared.fileset.FilesetSlot.{FilesetSlot}
use Rattle.domain_memory.specs.fileset_table.Table.{Table, entry_of}
use Rattle.domain_memory.specs.fileset_table.declared.slot.FilesetEntry.{FilesetEntry}
use Rattle.domain_memory.specs.fileset_table.declared.slot.SlotItem.TheVariants as slot
use Rattle.domain_memory.specs.quota_book.Book.{Book}
use Rattle.domain_memory.specs.quota_book.Sums.{IsBookOf}
use Rattle.domain_memory.proofs.OfReleaseList.Spread.{some_same}
use Rattle.domain_memory.specs.domain_standing.Standing.{AreBooksOf}
use Rattle.domain_memory.specs.domain_standing.Tables.{StandTables}
use Rattle.domain_memory.specs.standing_laws.SlotsStay.{PutsFileset}
use Rattle.domain_memory.proofs.OfStandingLaws.BooksStay.{books_put}
use Rattle.domain_memory.specs.Staged.{staged_books, staged_in}
use Rattle.domain_memory.specs.declared.memory.DomainMemory.{DomainMemory}
use Rattle.domain_changes.specs.Charging.{ChangesOneBook}
use Rattle.domain_changes.specs.Table.{HasOriginal}

module _ (number : ℕ) (entry : FilesetEntry) (old : DomainMemory) (all : FilesetMap) (fileset : FilesetSlot) (has : HasOriginal old number entry) (there : get all entry.name ≡ Some fileset) where
  -- the book of the original
  pub own_book : AreBooksOf (staged_books old) (staged_in old) all → IsBookOf (staged_books old number) fileset.tree
  own_book are = subst (λ (o : Option FilesetSlot). IsSomeAnd o (λ f. IsBookOf (staged_books old number) f.tree)) there (are number entry has)

  module _ (now : DomainMemory) (tables : StandTables (staged_in now)) (tree : Fileset) (same : now.table ≡ old.table) (others : (n : ℕ) → ¬ n ≡ number → staged_books now n ≡ staged_books old n) where
    puts : PutsFileset number entry (staged_in old) (staged_in now)
    puts = record {
      has = ap (λ (t : Table). slice_get t.slots number) same ∙ has;
      had = λ its is. subst (λ i. IfSome (entry_of i) (λ (was : FilesetEntry). was.name ≡ entry.name)) (some_same (slot.Original entry) its (sym has ∙ is)) refl;
      others = λ other differ. ap (λ (t : Table). slice_get t.slots other) same;
    }

    pub books_follow : (IsBookOf (staged_books old number) fileset.tree → IsBookOf (staged_books now number) tree) → AreBooksOf (staged_books old) (staged_in old) all → AreBooksOf (staged_books now) (staged_in now) (insert all entry.name (record fileset { tree = tree }))
    books_follow leads are = books_put number entry (staged_in old) (staged_in now) tables puts (staged_books old) (staged_books now) others (record fileset { tree = tree }) (leads (own_book are)) all are

-- a change of one book is one over another change before it, or after it, that leaves the
-- table and all books
module _ (number : ℕ) (change : Book → Book → Type 0) (first between last : DomainMemory) where
  pub one_before : between.table ≡ first.table → staged_books between ≡ staged_books first → ChangesOneBook number change between last → ChangesOneBook number change first last
  one_before table books one = record {
    table = one.table ∙ table;
    book = subst (λ (of : ℕ → Book). change (of number) (staged_books last number)) books one.book;
    others = λ n differ. one.others n differ ∙ ap (λ (of : ℕ → Book). of n) books;
  }

  pub one_behind : ChangesOneBook number change first between → last.table ≡ between.table → staged_books last ≡ staged_books between → ChangesOneBook number change first last
  one_behind one table books = record {
    table = table ∙ one.table;
    book = subst (λ (of : ℕ → Book). change (staged_books first number) (of number)) (sym books) one.book;
    others = λ n differ. ap (λ (of : ℕ → Book). of n) books ∙ one.others n differ;
  }
