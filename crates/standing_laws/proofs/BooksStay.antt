-- Books are those of their filesets still once one slot has another fileset, and its book with it.
use Rattle.std.proofs.Common.{◌≡◌, ◌∙◌, ◌⊎◌, ⊎_elim, inl, inr, ℕ, ◌==◌, Option, Some, IfSome, IsSomeAnd, refl, sym, ap, subst}
use Rattle.std.proofs.lemmas.Bool.{both_ways, cases_Bool, eq-eqb, eqb-true}
use Rattle.std.specs.FinMap.{get, insert}
use Rattle.domain_standing.proofs.OfFilesetValues.MapLemmas.{get-insert_other, get-insert_same}
use Rattle.domain_standing.specs.fileset_model.Filesets.{FilesetMap}
use Rattle.domain_standing.specs.fileset_values.Orders.{name_cmp-total, name_cmp-IsAntisymmetric}
use Rattle.domain_standing.specs.fileset_model.Usage.{with_limits}
use Rattle.domain_standing.specs.fileset_model.declared.fileset.FilesetSlot.{FilesetSlot}
use Rattle.domain_standing.specs.fileset_table.Table.{entry_of}
use Rattle.domain_standing.specs.fileset_table.declared.slot.FilesetEntry.{FilesetEntry}
use Rattle.domain_standing.specs.fileset_table.declared.slot.SlotItem.{SlotItem}
use Rattle.domain_standing.specs.fileset_table.declared.slot.SlotItem.TheVariants as slot
use Rattle.domain_standing.specs.name_space.Names.{number_of, root_tag}
use Rattle.domain_standing.specs.quota_book.Book.{Book, empty_book}
use Rattle.domain_standing.specs.quota_book.Sums.{IsBookOf}
use Rattle.domain_standing.proofs.OfQuotaBook.Sums.{empty_is}
use Rattle.domain_standing.proofs.OfQuotaBook.Unchanged.{limited_same}
use Rattle.domain_standing.specs.release_list.Standing.{Files}
use Rattle.domain_standing.proofs.OfReleaseList.Spread.{some_same}
use Rattle.domain_standing.specs.Chains.{IndexesAt}
use Rattle.domain_standing.specs.Domain.{DomainNow, item_in}
use Rattle.domain_standing.specs.Standing.{AreBooksOf}
use Rattle.domain_standing.specs.Tables.{StandTables}
use Rattle.standing_laws.specs.Leads.{StandsBelow}
use Rattle.standing_laws.specs.NewFileset.{empty_slot}
use Rattle.standing_laws.specs.SetsQuota.{SetsQuota, entry_limited, fileset_limited}
use Rattle.standing_laws.specs.SlotsStay.{PutsFileset}
use Rattle.standing_laws.proofs.FilesetPut.{one_name, other_name}
use Rattle.standing_laws.proofs.QuotaSlots.{item_mine, item_other}

number_or_not : (n number : ℕ) → (n ≡ number) ⊎ (¬ n ≡ number)
number_or_not n number = ⊎_elim
    (λ same. inl (eqb-true n number same))
    (λ apart. inr (λ same. both_ways (n == number) apart (eq-eqb n number same)))
    (cases_Bool (n == number))

module _ (number : ℕ) (entry : FilesetEntry) (d now : DomainNow) (tables : StandTables now) (puts : PutsFileset number entry d now) where
  pub books_put : (books books_now : ℕ → Book) → ((n : ℕ) → ¬ n ≡ number → books_now n ≡ books n) → (fileset : FilesetSlot) → IsBookOf (books_now number) fileset.tree → (all : FilesetMap) → AreBooksOf books d all → AreBooksOf books_now now (insert all entry.name fileset)
  books_put books books_now others fileset own all are n its at = ⊎_elim
      (λ same.
      let name : entry.name ≡ its.name = one_name entry its (some_same (slot.Original entry) (slot.Original its) (sym puts.has ∙ ap (item_in now) (sym same) ∙ at)) in
      let got : get (insert all entry.name fileset) its.name ≡ Some fileset = ap (get (insert all entry.name fileset)) (sym name) ∙ get-insert_same name_cmp-total name_cmp-IsAntisymmetric all entry.name fileset in
      subst (λ (o : Option FilesetSlot). IsSomeAnd o (λ f. IsBookOf (books_now n) f.tree)) (sym got) (subst (λ (k : ℕ). IsBookOf (books_now k) fileset.tree) (sym same) own))
      (λ differ.
      let got : get (insert all entry.name fileset) its.name ≡ get all its.name =
      get-insert_other name_cmp-total name_cmp-IsAntisymmetric all entry.name fileset its.name (λ same. other_name number entry d now tables puts n its differ at (sym same)) in
      subst (λ (o : Option FilesetSlot). IsSomeAnd o (λ f. IsBookOf (books_now n) f.tree)) (sym got)
      (subst (λ (b : Book). IsSomeAnd (get all its.name) (λ f. IsBookOf b f.tree)) (sym (others n differ)) (are n its (sym (puts.others n differ) ∙ at))))
      (number_or_not n number)

  pub books_begun : (books books_now : ℕ → Book) → ((n : ℕ) → ¬ n ≡ number → books_now n ≡ books n) → books_now number ≡ empty_book → (all : FilesetMap) → AreBooksOf books d all → AreBooksOf books_now now (insert all entry.name empty_slot)
  books_begun books books_now others empty all are = books_put books books_now others empty_slot (subst (λ (b : Book). IsBookOf b empty_slot.tree) (sym empty) (empty_is (number_of root_tag))) all are

module _ (number : ℕ) (d now : DomainNow) (files files_now : Files) (indexes : IndexesAt) (below : StandsBelow d files indexes) (after : StandTables now) (s : SetsQuota number d now files files_now) where
  abbrev entry_now : FilesetEntry
  entry_now = entry_limited s.sets.start s.entry

  puts_limited : PutsFileset number entry_now d now
  puts_limited = record {
    has = item_mine number d now files files_now indexes below s;
    had = λ item at. subst (λ (x : SlotItem). IfSome (entry_of x) (λ (was : FilesetEntry). was.name ≡ s.entry.name)) (some_same (slot.Original s.entry) item (sym s.original ∙ at)) refl;
    others = λ n differ. item_other number d now files files_now indexes below s n differ;
  }

  pub books_limited : (books books_now : ℕ → Book) → ((n : ℕ) → ¬ n ≡ number → books_now n ≡ books n) → books_now number ≡ record (books number) { limits = with_limits (books number).limits s.who s.limits } → (all : FilesetMap) (fileset : FilesetSlot) → get all s.entry.name ≡ Some fileset
      → AreBooksOf books d all → AreBooksOf books_now now (insert all s.entry.name (fileset_limited s.who s.limits fileset))
  books_limited books books_now others limited all fileset there are = books_put number entry_now d now after puts_limited books books_now others (fileset_limited s.who s.limits fileset) own all are
    where
      was : IsBookOf (books number) fileset.tree
      was = subst (λ (o : Option FilesetSlot). IsSomeAnd o (λ f. IsBookOf (books number) f.tree)) there (are number s.entry s.original)

      own : IsBookOf (books_now number) (fileset_limited s.who s.limits fileset).tree
      own = subst (λ (b : Book). IsBookOf b (fileset_limited s.who s.limits fileset).tree) (sym limited)
          (limited_same fileset.tree s.who s.limits (books number) was)
