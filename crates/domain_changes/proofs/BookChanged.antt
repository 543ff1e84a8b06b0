-- A domain is what it was if only the book of one fileset has changed in its memory.
use Rattle.std.proofs.Common.{◌≡◌, ◌∙◌, ◌<◌, ◌≤◌, ℕ, Option, Some, None, IfSome, IsSome, length, slice_get, take, sym, ap, subst, ⊎_elim, true≢false}
use Rattle.std.proofs.Math.Logic.{∥∥₁_map}
use Rattle.std.proofs.lemmas.Bool.{cases_eq}
use Rattle.domain_memory.specs.fileset_files.declared.bitfiles.Bitfiles.{Bitfiles}
use Rattle.domain_memory.specs.free_cells.Cells.{is_closed, kept_of}
use Rattle.domain_memory.specs.free_space.Spaces.{Spaces, kept_spaces, volume_of}
use Rattle.domain_memory.specs.fileset_model.Filesets.{FilesetMap}
use Rattle.domain_memory.specs.fileset_table.Table.{IsTable}
use Rattle.domain_memory.specs.quota_book.Book.{Book}
use Rattle.domain_memory.specs.staged_pages.Store.{before_of}
use Rattle.domain_memory.specs.domain_standing.Domain.{DomainNow}
use Rattle.domain_memory.specs.domain_standing.Sources.{StandAlone}
use Rattle.domain_memory.specs.domain_standing.Standing.{IsMarkedBut, StandsDomain}
use Rattle.domain_memory.specs.standing_laws.Sound.{IsSound}
use Rattle.domain_memory.specs.Listing.{HaveOnce}
use Rattle.domain_memory.specs.Slots.{CanGoBack, ChangesSlot, HasNumber, book_in, kept_book, kept_places, places_in, slot_in}
use Rattle.domain_memory.specs.declared.slots.SlotFiles.{SlotFiles}
use Rattle.domain_memory.specs.Kept.{KeepsKept}
use Rattle.domain_memory.specs.Memory.{with_was}
use Rattle.domain_memory.specs.Staged.{IsStaged, MayGoBack, staged_books, staged_in}
use Rattle.domain_memory.specs.declared.memory.DomainMemory.{DomainMemory}
use Rattle.domain_changes.specs.Charging.{ChangesBook, ChangesInBook, ChangesOneBook}
use Rattle.domain_changes.proofs.SlotsSet.{length_set, slot_other, slot_set}

-- what is told of a slot by its files and by what was kept is the same
module _ (change : Book → Book → Type 0) where
  abbrev Changes_it : SlotFiles → SlotFiles → Type 0
  Changes_it = ChangesBook change

  same_there : {X : Type 0} (what : Option SlotFiles → X) → ((a b : SlotFiles) → Changes_it a b → what (Some b) ≡ what (Some a)) → (old new : Option SlotFiles) → ChangesSlot Changes_it old new → what new ≡ what old
  same_there what same None new none = ap what none
  same_there what same (Some a) None is = absurd is
  same_there what same (Some a) (Some b) is = same a b is

  places_there : (a b : SlotFiles) → Changes_it a b → places_in (Some b) ≡ places_in (Some a)
  places_there a b is = ap (λ (f : Bitfiles). f.tags) is.files

  kept_places_there : (a b : SlotFiles) → Changes_it a b → kept_places (Some b) ≡ kept_places (Some a)
  kept_places_there a b is = λ i. take (is.tag_pages i) ((is.files i).tags)

  number_there : (n : ℕ) (old new : Option SlotFiles) → ChangesSlot Changes_it old new → IfSome old (HasNumber n) → IfSome new (HasNumber n)
  number_there n None new none has = subst (λ o. IfSome o (HasNumber n)) (sym none) tt
  number_there n (Some a) None is has = absurd is
  number_there n (Some a) (Some b) is has = ap (λ (f : Bitfiles). f.fileset) is.files ∙ has

  can_there : (old new : Option SlotFiles) → ChangesSlot Changes_it old new → IfSome old CanGoBack → IfSome new CanGoBack
  can_there None new none can = subst (λ o. IfSome o CanGoBack) (sym none) tt
  can_there (Some a) None is can = absurd is
  can_there (Some a) (Some b) is can = record {
    few = subst (λ (n : ℕ). n ≤ length b.files.tags) (sym is.tag_pages) (subst (λ (f : Bitfiles). a.tag_pages ≤ length f.tags) (sym is.files) can.few);
    once = λ j k p q at_j at_k same. can.once j k p q (ap (λ (f : Bitfiles). slice_get f.tags j) (sym is.files) ∙ at_j) (ap (λ (f : Bitfiles). slice_get f.tags k) (sym is.files) ∙ at_k) same;
  }

  book_there : (old new : Option SlotFiles) → ChangesSlot Changes_it old new → IsSome old → change (book_in old) (book_in new)
  book_there None new none some = absurd (true≢false (sym some))
  book_there (Some a) None is some = absurd is
  book_there (Some a) (Some b) is some = is.book

-- memory stands as it stood if the domain is what it was and only slots have changed
pub staged_still : (old new : DomainMemory) → staged_in new ≡ staged_in old → new ≡ record old { slots = new.slots } → (all : FilesetMap) → IsStaged old all → IsStaged new all
staged_still old new domain same all is = record {
  stands = subst (λ (d : DomainNow). StandsDomain d all) (sym domain) is.stands;
  alone = subst StandAlone (sym domain) is.alone;
  sound = subst IsSound (sym domain) is.sound;
  marked = subst (λ (d : DomainNow). IsMarkedBut (record d { space = kept_spaces new.space })) (sym domain)
      (subst (λ (s : Spaces). IsMarkedBut (record (staged_in old) { space = kept_spaces s })) (sym (ap (λ (m : DomainMemory). m.space) same)) is.marked);
  once = subst (λ (m : DomainMemory). HaveOnce m.list.list.entries) (sym same) is.once;
  room = subst (λ (m : DomainMemory). length m.listed.items ≤ m.list.room) (sym same) is.room;
}

module _ (number : ℕ) (change : Book → Book → Type 0) (new last : DomainMemory) (within : number < length new.slots.items) (b : ChangesInBook number change new last) where
  pub slot_is : slot_in last.slots.items number ≡ b.slot
  slot_is = ap (λ s. slot_in s number) b.slots ∙ slot_set new.slots.items number b.slot within

  slot_was : (n : ℕ) → ¬ n ≡ number → slot_in last.slots.items n ≡ slot_in new.slots.items n
  slot_was n differ = ap (λ s. slot_in s n) b.slots ∙ slot_other new.slots.items number n b.slot differ

  slot_same : {X : Type 0} (what : Option SlotFiles → X) → what b.slot ≡ what (slot_in new.slots.items number) → (n : ℕ) → what (slot_in last.slots.items n) ≡ what (slot_in new.slots.items n)
  slot_same what is n = ⊎_elim
      (λ same. ap (λ (k : ℕ). what (slot_in last.slots.items k)) same ∙ ap what slot_is ∙ is ∙ sym (ap (λ (k : ℕ). what (slot_in new.slots.items k)) same))
      (λ differ. ap what (slot_was n differ))
      (cases_eq n number)

  places_same : (n : ℕ) → places_in (slot_in last.slots.items n) ≡ places_in (slot_in new.slots.items n)
  places_same = slot_same places_in (same_there change places_in (places_there change) (slot_in new.slots.items number) b.slot b.changed)

  pub staged_same : staged_in last ≡ staged_in new
  staged_same = ap staged_in b.same ∙ (λ i. record (staged_in new) { tags = λ n. places_same n i })

  pub still_staged : (all : FilesetMap) → IsStaged new all → IsStaged last all
  still_staged = staged_still new last staged_same b.same

  pub book_kept : KeepsKept new last
  book_kept = record {
    frame = ap (λ (m : DomainMemory). m.frame) b.same;
    table = ap (λ (m : DomainMemory). with_was m.was m.table) b.same;
    places = slot_same kept_places (same_there change kept_places (kept_places_there change) (slot_in new.slots.items number) b.slot b.changed);
    books = λ n entry there. slot_same kept_book (same_there change kept_book (λ x y is. is.kept) (slot_in new.slots.items number) b.slot b.changed) n;
    pages = ap (λ (m : DomainMemory). before_of m.pages) b.same;
    spaces = λ vol. ap (λ (m : DomainMemory). volume_of (kept_spaces m.space) vol) b.same;
    cells = λ vol. ap (λ (m : DomainMemory). kept_of m.cells vol) b.same;
    marks = λ vol. ap (λ (m : DomainMemory). is_closed m.cells vol) b.same;
    list = ap (λ (m : DomainMemory). m.list.list) b.same;
  }

  pub book_back : ∥ MayGoBack new ∥₁ → ∥ MayGoBack last ∥₁
  book_back may = ∥∥₁_map may (λ m. record {
    has = record {
      count = ap length b.slots ∙ length_set new.slots.items number b.slot ∙ m.has.count;
      numbered = λ n. ⊎_elim
          (λ same. subst (λ (k : ℕ). IfSome (slot_in last.slots.items k) (HasNumber k)) (sym same)
          (subst (λ o. IfSome o (HasNumber number)) (sym slot_is) (number_there change number (slot_in new.slots.items number) b.slot b.changed (m.has.numbered number))))
          (λ differ. subst (λ o. IfSome o (HasNumber n)) (sym (slot_was n differ)) (m.has.numbered n))
          (cases_eq n number);
    };
    table = subst IsTable (sym book_kept.table) m.table;
    slots = λ n. ⊎_elim
        (λ same. subst (λ (k : ℕ). IfSome (slot_in last.slots.items k) CanGoBack) (sym same)
        (subst (λ o. IfSome o CanGoBack) (sym slot_is) (can_there change (slot_in new.slots.items number) b.slot b.changed (m.slots number))))
        (λ differ. subst (λ o. IfSome o CanGoBack) (sym (slot_was n differ)) (m.slots n))
        (cases_eq n number);
  })

  pub one_book : IsSome (slot_in new.slots.items number) → ChangesOneBook number change new last
  one_book some = record {
    table = ap (λ (m : DomainMemory). m.table) b.same;
    book = subst (λ (k : Book). change (staged_books new number) k) (sym (ap book_in slot_is)) (book_there change (slot_in new.slots.items number) b.slot b.changed some);
    others = λ n differ. ap book_in (slot_was n differ);
  }

-- slots that each have what they had
pub slots_kept : (old new : DomainMemory) → new.slots.items ≡ old.slots.items → new ≡ record old { slots = new.slots } → KeepsKept old new
slots_kept old new slots same = record {
  frame = ap (λ (m : DomainMemory). m.frame) same;
  table = ap (λ (m : DomainMemory). with_was m.was m.table) same;
  places = λ n. ap (λ s. kept_places (slot_in s n)) slots;
  books = λ n entry there. ap (λ s. kept_book (slot_in s n)) slots;
  pages = ap (λ (m : DomainMemory). before_of m.pages) same;
  spaces = λ vol. ap (λ (m : DomainMemory). volume_of (kept_spaces m.space) vol) same;
  cells = λ vol. ap (λ (m : DomainMemory). kept_of m.cells vol) same;
  marks = λ vol. ap (λ (m : DomainMemory). is_closed m.cells vol) same;
  list = ap (λ (m : DomainMemory). m.list.list) same;
}
