-- Books are those of filesets once names have changed, if no file has come or gone.
use Rattle.std.proofs.Common.{◌≡◌, ◌∙◌, ◌≤◌, ℕ, Bool, true, false, not, cond, [], Option, Some, None, IfSome, IsSomeAnd, length, slice_get, refl, sym, ap, subst, arith, true≢false}
use Rattle.std.specs.FinMap.{get}
use Rattle.std.specs.Option.{option_and_then}
use Rattle.fileset_lending.specs.declared.parts.CallSettings.{CallSettings}
use Rattle.fileset_lending.specs.fileset_model.Apply.{is_named_elsewhere, moved, renamed, without}
use Rattle.fileset_lending.specs.fileset_model.Fileset.{Fileset}
use Rattle.fileset_lending.specs.fileset_model.Filesets.{FilesetMap}
use Rattle.fileset_lending.specs.fileset_values.Orders.{Path}
use Rattle.fileset_lending.specs.fileset_model.Paths.{names_one}
use Rattle.fileset_lending.specs.fileset_model.declared.fileset.FilesetSlot.{FilesetSlot}
use Rattle.fileset_lending.proofs.OfFilesetModel.ChangeLemmas.{without-missing}
use Rattle.fileset_lending.specs.fileset_table.Table.{Table, entry_of}
use Rattle.fileset_lending.specs.fileset_table.declared.slot.FilesetEntry.{FilesetEntry}
use Rattle.fileset_lending.specs.fileset_table.declared.slot.SlotItem.TheVariants as slot
use Rattle.fileset_lending.specs.quota_book.Book.{Book}
use Rattle.fileset_lending.specs.quota_book.Sums.{IsBookOf}
use Rattle.fileset_lending.proofs.OfQuotaBook.Unchanged.{moved_same, unlinked_same}
use Rattle.fileset_lending.specs.name_space.Changes.{replaced_number}
use Rattle.fileset_lending.proofs.OfReleaseList.Spread.{none_not, some_same}
use Rattle.fileset_lending.specs.standing_laws.SlotsStay.{PutsFileset}
use Rattle.fileset_lending.proofs.OfStandingLaws.BooksStay.{books_put}
use Rattle.fileset_lending.specs.set_standing.Around.{GoesOnAround}
use Rattle.fileset_lending.specs.set_standing.Follow.{Said}
use Rattle.fileset_lending.specs.domain_memory.Slots.{book_in, slot_in}
use Rattle.fileset_lending.specs.domain_memory.Staged.{staged_books, staged_in}
use Rattle.fileset_lending.specs.domain_memory.declared.memory.DomainMemory.{DomainMemory}
use Rattle.fileset_lending.specs.Chosen.{AreSettingsOf, CallsChange, Lends}
use Rattle.fileset_lending.specs.declared.chosen.Chosen.{Chosen}
use Rattle.fileset_lending.proofs.Back.{go}
use Rattle.name_changes.specs.Stages.{HasFileset, KeepsBooks}

pub named_path : (path : Path) → 1 ≤ length path → ¬ path ≡ []
named_path path some none = let k : length path ≡ 0 = ap length none in omega (arith, some, k)

-- ---- trees

-- a path is gone of a file that has another
pub book_left : (path : Path) (number : ℕ) (gone : Bool) (tree : Fileset) → ¬ path ≡ [] → get tree.paths path ≡ Some number → gone ≡ not (is_named_elsewhere tree path number) → gone ≡ false → (book : Book) → IsBookOf book tree → IsBookOf book (without path tree)
book_left path number gone tree named leads last stays book =
    unlinked_same tree path number book named leads (not_false (is_named_elsewhere tree path number) (sym last ∙ stays))
  where
    not_false : (b : Bool) → not b ≡ false → b ≡ true
    not_false true is = refl
    not_false false is = absurd (true≢false is)

-- a path has moved, and nothing was replaced
pub book_moved : (from to : Path) (tree : Fileset) → ¬ from ≡ [] → ¬ to ≡ [] → replaced_number from to tree ≡ None → (book : Book) → IsBookOf book tree → IsBookOf book (renamed from to tree)
book_moved from to tree named named_to none book has = by_one (names_one tree from to) none
  where
    by_named : (number : ℕ) → get tree.paths to ≡ Some number → (b : Bool) → is_named_elsewhere tree to number ≡ b → cond b None (Some number) ≡ None → IsBookOf book (without to tree)
    by_named number leads true more is = unlinked_same tree to number book named_to leads more has
    by_named number leads false one is = absurd (none_not number (sym is))

    by_number : (o : Option ℕ) → get tree.paths to ≡ o → option_and_then (λ number. cond (is_named_elsewhere tree to number) None (Some number)) o ≡ None → IsBookOf book (without to tree)
    by_number None free is = subst (IsBookOf book) (sym (without-missing tree to free)) has
    by_number (Some number) leads is = by_named number leads (is_named_elsewhere tree to number) refl is

    by_one : (b : Bool) → cond b None (option_and_then (λ number. cond (is_named_elsewhere tree to number) None (Some number)) (get tree.paths to)) ≡ None → IsBookOf book (cond b tree (moved from to (without to tree)))
    by_one true is = has
    by_one false is = moved_same (without to tree) from to book named named_to (by_number (get tree.paths to) refl is)

-- ---- memory

module _ {said : Said} (memory : DomainMemory) (number : ℕ) (settings : CallSettings) (chosen : Chosen) (lends : Lends memory number settings chosen) (right : AreSettingsOf memory settings) (after : Chosen) (now : DomainMemory) (calls : CallsChange said chosen after)
    (lends_now : Lends now after.rest.number after.set.settings after) (same : after.rest.number ≡ chosen.rest.number) (all : FilesetMap) (entry : FilesetEntry) (fileset : FilesetSlot) (has : HasFileset memory number all entry fileset)
  where
    here : Lends now number after.set.settings after
    here = subst (λ (n : ℕ). Lends now n after.set.settings after) (same ∙ lends.same_number) lends_now

    around : GoesOnAround said number (staged_in memory) (staged_in now)
    around = go memory now number settings after.set.settings chosen after entry all has.staged has.may has.original right lends calls here

    puts : PutsFileset number entry (staged_in memory) (staged_in now)
    puts = record {
      has = ap (λ (t : Table). slice_get t.slots number) around.1.table ∙ has.original;
      had = λ its there. subst (λ i. IfSome (entry_of i) (λ (was : FilesetEntry). was.name ≡ entry.name)) (some_same (slot.Original entry) its (sym has.original ∙ there)) refl;
      others = λ other differ. ap (λ (t : Table). slice_get t.slots other) around.1.table;
    }

    its_book : staged_books memory number ≡ staged_books now number
    its_book = ap book_in lends.slot ∙ ap (λ r. r.book.book) (sym calls.rest) ∙ sym (ap book_in here.slot)

    other_book : (n : ℕ) → ¬ n ≡ number → staged_books now n ≡ staged_books memory n
    other_book n differ = ap book_in (sym (here.others n differ) ∙ ap (λ r. slot_in r.slots.items n) calls.rest ∙ lends.others n differ)

    pub books_kept : (tree : Fileset) → ((book : Book) → IsBookOf book fileset.tree → IsBookOf book tree) → KeepsBooks memory now all entry fileset tree
    books_kept tree keeps are =
        books_put number entry (staged_in memory) (staged_in now) around.0.below.tables puts (staged_books memory) (staged_books now) other_book (record fileset { tree = tree }) own all are
      where
        was : IsBookOf (staged_books memory number) fileset.tree
        was = subst (λ (o : Option FilesetSlot). IsSomeAnd o (λ f. IsBookOf (staged_books memory number) f.tree)) has.there (are number entry has.original)

        own : IsBookOf (staged_books now number) tree
        own = subst (λ (b : Book). IsBookOf b tree) its_book (keeps (staged_books memory number) was)
