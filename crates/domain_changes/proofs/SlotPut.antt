-- A slot of a domain's table that was set anew, and what it asks of the table.
use Rattle.std.proofs.Common.{◌≡◌, ◌∙◌, ℕ, zero, suc, Bool, false, cond, ◌||◌, List, [], ◌∷◌, Option, Some, None, IfSome, IsSome, IsSomeAnd, Result, Ok, Err, OnOk, OnErr, length, slice_get, refl, sym, ap, subst}
use Rattle.std.proofs.Math.Logic.{∥∥₁_map}
use Rattle.std.proofs.lemmas.Bool.{false_from_ne_true}
use Rattle.std.specs.List.{AllByRecursion, list_any}
use Rattle.domain_memory.specs.domain_base.declared.place.Home.{Home}
use Rattle.domain_memory.specs.page_store.Pages.{Pages, same_home, with_page}
use Rattle.domain_memory.proofs.OfMetadataCells.Changed.{homes_same, same_itself}
use Rattle.domain_memory.specs.fileset_table.Page.{IsTablePage}
use Rattle.domain_memory.specs.fileset_table.Table.{IsAllowed, IsTable, Table, is_clone_of, with_slot}
use Rattle.domain_memory.specs.fileset_table.declared.slot.FilesetEntry.{FilesetEntry}
use Rattle.domain_memory.specs.fileset_table.declared.slot.SlotItem.{SlotItem}
use Rattle.domain_memory.specs.fileset_table.declared.slot.SlotItem.TheVariants as slot
use Rattle.domain_memory.proofs.OfFilesetTable.Tried.{put_back}
use Rattle.domain_memory.specs.free_cells.Cells.{is_closed, kept_of}
use Rattle.domain_memory.specs.free_space.Spaces.{kept_spaces, volume_of}
use Rattle.domain_memory.proofs.OfStoredSet.Stable.{is_there, one_bool, some_and}
use Rattle.domain_memory.specs.staged_pages.Store.{before_of, pages_of}
use Rattle.domain_memory.specs.domain_layout.CellRules.{of_clone}
use Rattle.domain_memory.specs.domain_layout.Read.{contents_of}
use Rattle.domain_memory.specs.Slots.{CanGoBack, HasNumber, kept_book, kept_places, slot_in}
use Rattle.domain_memory.specs.Memory.{with_was}
use Rattle.domain_memory.specs.Staged.{IsStagedForSome, MayGoBack, staged_in}
use Rattle.domain_memory.specs.declared.memory.DomainMemory.{DomainMemory}
use Rattle.domain_memory.specs.declared.memory.ReplacedSlot.{ReplacedSlot}
use Rattle.domain_memory.specs.Kept.{KeepsKept}
use Rattle.domain_memory.proofs.KeptStands.{none_kept}
use Rattle.domain_changes.specs.Table.{HasTablePage, PutsSlot}

-- ---- the table

comes_back : (table : Table) (number : ℕ) (had item : SlotItem) → slice_get table.slots number ≡ Some had → with_slot number had (with_slot number item table) ≡ table
comes_back table number had item there = ap (λ (slots : List SlotItem). record table { slots = slots }) (put_back table.slots _ _ number item had refl there refl)

one_clone_of : (number : ℕ) (item : SlotItem) → of_clone (Some item) ≡ false → is_clone_of number item ≡ false
one_clone_of number slot.Free none = refl
one_clone_of number (slot.Original entry) none = refl
one_clone_of number (slot.Clone original n entry) none = absurd (cc)
one_clone_of number (slot.Removed first_tag quota) none = refl

-- if no slot has a clone, none has one of this slot's original
pub no_clone_of : (number : ℕ) (slots : List SlotItem) → ((n : ℕ) → of_clone (slice_get slots n) ≡ false) → list_any (is_clone_of number) slots ≡ false
no_clone_of number [] none = refl
no_clone_of number (item ∷ slots) none =
    ap (λ (b : Bool). b || list_any (is_clone_of number) slots) (one_clone_of number item (none 0)) ∙ no_clone_of number slots (λ n. none (suc n))

-- what is in a slot is allowed there
pub allowed_at : (slots : List SlotItem) (number : ℕ) (item : SlotItem) → AllByRecursion IsAllowed slots → slice_get slots number ≡ Some item → IsAllowed item
allowed_at [] number item all there = absurd (cc)
allowed_at (x ∷ slots) zero item all there = subst (λ o. IfSome o IsAllowed) there all.0
allowed_at (x ∷ slots) (suc number) item all there = allowed_at slots number item all.1 there

-- ---- what is asked of a domain's table, if it is known that it stands

module _ (memory : DomainMemory) (staged : ∥ IsStagedForSome memory ∥₁) where
  pub asks_page : HasTablePage memory
  asks_page = some_and (λ (home : Home). IsSome (pages_of memory.pages home)) (λ home. is_there (pages_of memory.pages home)) memory.frame.anchor.table
      (∥∥₁_map staged (λ s. has_page memory.frame.anchor.table s.1.stands.tables.laid.table))
    where
      its_page : (o : Option (List ℕ)) → IsSomeAnd o (λ page. IsTablePage page memory.table) → IsSome o
      its_page None is = absurd is
      its_page (Some page) is = refl

      has_page : (o : Option Home) → IsSomeAnd o (λ home. IsSomeAnd (pages_of memory.pages home) (λ page. IsTablePage page memory.table)) → IsSomeAnd o (λ home. IsSome (pages_of memory.pages home))
      has_page None is = absurd is
      has_page (Some home) is = its_page (pages_of memory.pages home) is

  pub asks_no_clone : (number : ℕ) → list_any (is_clone_of number) memory.table.slots ≡ false
  asks_no_clone number = one_bool _ _ (∥∥₁_map staged (λ s. no_clone_of number memory.table.slots s.1.stands.slots.no_clone))

-- ---- once it is set

module _ (number : ℕ) (item : SlotItem) (old new : DomainMemory) (fresh : old.was ≡ None) (puts : PutsSlot number item old new) where
  pub kept_put : KeepsKept old new
  kept_put = record {
    frame = ap (λ (m : DomainMemory). m.frame) puts.same;
    table = ap (λ (w : Option ReplacedSlot). with_was w new.table) puts.was ∙ ap (with_slot number puts.had) puts.table ∙ comes_back old.table number puts.had item puts.in_slot ∙ sym (ap (λ (w : Option ReplacedSlot). with_was w old.table) fresh);
    places = λ n. ap (λ (m : DomainMemory). kept_places (slot_in m.slots.items n)) puts.same;
    books = λ n its there. ap (λ (m : DomainMemory). kept_book (slot_in m.slots.items n)) puts.same;
    pages = puts.before;
    spaces = λ vol. ap (λ (m : DomainMemory). volume_of (kept_spaces m.space) vol) puts.same;
    cells = λ vol. ap (λ (m : DomainMemory). kept_of m.cells vol) puts.same;
    marks = λ vol. ap (λ (m : DomainMemory). is_closed m.cells vol) puts.same;
    list = ap (λ (m : DomainMemory). m.list.list) puts.same;
  }

  pub back_put : ∥ MayGoBack old ∥₁ → ∥ MayGoBack new ∥₁
  back_put may = ∥∥₁_map may (λ m. record {
    has = record {
      count = ap (λ (x : DomainMemory). length x.slots.items) puts.same ∙ m.has.count;
      numbered = λ n. subst (λ (x : DomainMemory). IfSome (slot_in x.slots.items n) (HasNumber n)) (sym puts.same) (m.has.numbered n);
    };
    table = subst IsTable (sym kept_put.table) m.table;
    slots = λ n. subst (λ (x : DomainMemory). IfSome (slot_in x.slots.items n) CanGoBack) (sym puts.same) (m.slots n);
  })

  pub staged_put : staged_in new ≡ record (staged_in old) { table = new.table; pages = pages_of new.pages; contents = contents_of (pages_of new.pages) }
  staged_put = ap staged_in puts.same

-- ---- a page that is put

module _ (pages new : Pages) (home : Home) (page : List ℕ) (is : new ≡ with_page home page pages) where
  pub put_there : new home ≡ Some page
  put_there = ap (λ (p : Pages). p home) is ∙ ap (λ (b : Bool). cond b (Some page) (pages home)) (same_itself home)

  pub put_elsewhere : (h : Home) → ¬ h ≡ home → new h ≡ pages h
  put_elsewhere h differ = ap (λ (p : Pages). p h) is ∙ ap (λ (b : Bool). cond b (Some page) (pages h)) (false_from_ne_true (same_home h home) (λ same. differ (homes_same h home same)))

some_same : {X : Type 0} (x y : X) → Some x ≡ Some y → x ≡ y
some_same x y e = cc

-- the slot is set if the table's page, which stands at a home, was written and put
pub puts_it : (number : ℕ) (item had : SlotItem) (old new : DomainMemory) (home : Home) (page : List ℕ) → old.frame.anchor.table ≡ Some home → slice_get old.table.slots number ≡ Some had → new.table ≡ with_slot number item old.table
    → new.was ≡ Some (record { number = number; item = had }) → IsTablePage page new.table → pages_of new.pages ≡ with_page home page (pages_of old.pages) → before_of new.pages ≡ before_of old.pages
    → new ≡ record old { pages = new.pages; table = new.table; was = new.was } → PutsSlot number item old new
puts_it number item had old new home page at in_slot table was says put before same = record {
  had = had;
  in_slot = in_slot;
  table = table;
  was = was;
  says = λ h is. subst (λ (x : Home). IsSomeAnd (pages_of new.pages x) (λ p. IsTablePage p new.table)) (some_same home h (sym at ∙ is))
      (subst (λ o. IsSomeAnd o (λ p. IsTablePage p new.table)) (sym (put_there (pages_of old.pages) (pages_of new.pages) home page put)) says);
  others = λ h off. put_elsewhere (pages_of old.pages) (pages_of new.pages) home page put h (λ same. off (at ∙ ap Some (sym same)));
  before = before;
  same = same;
}

-- ---- whichever end a call has that sets a slot or leaves all as it was

pub on_ok : {X E A B : Type 0} (r : Result X E) → (A → B) → OnOk r A → OnOk r B
on_ok (Ok x) f a = f a
on_ok (Err e) f a = tt

pub kept_end : {X E : Type 0} (number : ℕ) (item : SlotItem) (old new : DomainMemory) → old.was ≡ None → (r : Result X E) → OnOk r (PutsSlot number item old new) → OnErr r (new ≡ old) → KeepsKept old new
kept_end number item old new fresh (Ok x) puts same = kept_put number item old new fresh puts
kept_end number item old new fresh (Err e) puts same = subst (KeepsKept old) (sym same) (none_kept old)

pub back_end : {X E : Type 0} (number : ℕ) (item : SlotItem) (old new : DomainMemory) → old.was ≡ None → (r : Result X E) → OnOk r (PutsSlot number item old new) → OnErr r (new ≡ old) → ∥ MayGoBack old ∥₁ → ∥ MayGoBack new ∥₁
back_end number item old new fresh (Ok x) puts same may = back_put number item old new fresh puts may
back_end number item old new fresh (Err e) puts same may = subst (λ (m : DomainMemory). ∥ MayGoBack m ∥₁) (sym same) may

-- a slot has one original
pub one_entry : (a b : FilesetEntry) → Some (slot.Original a) ≡ Some (slot.Original b) → a ≡ b
one_entry a b e = cc
