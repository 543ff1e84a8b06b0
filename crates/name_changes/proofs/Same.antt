-- Memory that is as it was.
use Rattle.std.proofs.Common.{◌≡◌, ◌∙◌, ◌≤◌, ℕ, None, IfSome, length, sym, ap, subst, ⊎_elim}
use Rattle.std.proofs.lemmas.Bool.{cases_eq}
use Rattle.std.proofs.lemmas.List.{ext_get_or}
use Rattle.fileset_lending.specs.declared.parts.CallSettings.{CallSettings}
use Rattle.fileset_lending.specs.free_cells.Cells.{is_closed, kept_of, taken_back}
use Rattle.fileset_lending.specs.free_space.Spaces.{kept_spaces, volume_of}
use Rattle.fileset_lending.specs.fileset_model.Filesets.{FilesetMap}
use Rattle.fileset_lending.specs.fileset_table.Table.{IsTable}
use Rattle.fileset_lending.specs.staged_pages.Store.{before_of, pages_of}
use Rattle.fileset_lending.specs.domain_standing.Domain.{DomainNow}
use Rattle.fileset_lending.specs.domain_standing.Sources.{StandAlone}
use Rattle.fileset_lending.specs.domain_standing.Standing.{AreBooksOf, HaveParents, IsMarkedBut, StandsDomain}
use Rattle.fileset_lending.specs.standing_laws.Sound.{IsSound}
use Rattle.fileset_lending.specs.domain_memory.Listing.{HaveOnce, list_with}
use Rattle.fileset_lending.specs.domain_memory.Slots.{CanGoBack, HasNumber, book_in, kept_book, kept_places, places_in, slot_in}
use Rattle.fileset_lending.proofs.OfDomainMemory.SlotsChanged.{slot_at}
use Rattle.fileset_lending.specs.domain_memory.Kept.{KeepsKept}
use Rattle.fileset_lending.specs.domain_memory.Memory.{with_was}
use Rattle.fileset_lending.specs.domain_memory.Staged.{IsSettled, IsStaged, MayBeKept, MayGoBack, staged_books, staged_in}
use Rattle.fileset_lending.specs.domain_memory.declared.memory.DomainMemory.{DomainMemory}
use Rattle.fileset_lending.specs.Chosen.{Lends}
use Rattle.fileset_lending.specs.declared.chosen.Chosen.{Chosen}
use Rattle.name_changes.specs.Looking.{IsSame}

-- files that are lent, and had back as they were
pub had_back : (memory now : DomainMemory) (number : ℕ) (settings : CallSettings) (chosen : Chosen) → Lends memory number settings chosen → Lends now chosen.rest.number chosen.set.settings chosen → IsSame memory now
had_back memory now number settings chosen lends back = record {
  same = λ i. record {
    frame = (sym back.frame ∙ lends.frame) i;
    pages = (sym back.pages ∙ lends.pages) i;
    space = (sym back.space ∙ lends.space) i;
    cells = (sym back.cells ∙ lends.cells) i;
    table = (sym back.table ∙ lends.table) i;
    list = (sym back.list ∙ lends.list) i;
    slots = now.slots;
    was = (sym back.was ∙ lends.was) i;
    listed = now.listed;
  };
  slots = ext_get_or None now.slots.items memory.slots.items (sym back.count ∙ lends.count) (λ k below. sym (slot_at now.slots.items k) ∙ at k ∙ slot_at memory.slots.items k);
  listed = sym back.listed ∙ lends.listed;
}
  where
    here : slot_in now.slots.items number ≡ slot_in memory.slots.items number
    here = ap (slot_in now.slots.items) (sym lends.same_number) ∙ back.slot ∙ sym lends.slot

    at : (k : ℕ) → slot_in now.slots.items k ≡ slot_in memory.slots.items k
    at k = ⊎_elim
        (λ is. subst (λ n. slot_in now.slots.items n ≡ slot_in memory.slots.items n) (sym is) here)
        (λ differ. sym (back.others k (λ is. differ (is ∙ lends.same_number))) ∙ lends.others k differ)
        (cases_eq k number)

module _ (memory now : DomainMemory) (is : IsSame memory now) where
  slots_are : (number : ℕ) → slot_in now.slots.items number ≡ slot_in memory.slots.items number
  slots_are number = ap (λ slots. slot_in slots number) is.slots

  pub staged_is : staged_in now ≡ staged_in memory
  staged_is = ap staged_in is.same ∙ (λ i. record (staged_in memory) {
    tags = λ number. places_in (slot_in (is.slots i) number);
    list = list_with (is.listed i) memory.list.list;
  })

  pub books_are : staged_books now ≡ staged_books memory
  books_are = ap (λ slots number. book_in (slot_in slots number)) is.slots

  list_is : now.list ≡ memory.list
  list_is = ap (λ (m : DomainMemory). m.list) is.same

  pub still_staged : (all : FilesetMap) → IsStaged memory all → IsStaged now all
  still_staged all s = record {
    stands = subst (λ (d : DomainNow). StandsDomain d all) (sym staged_is) s.stands;
    alone = subst StandAlone (sym staged_is) s.alone;
    sound = subst IsSound (sym staged_is) s.sound;
    marked = subst (λ (m : DomainMemory). IsMarkedBut (record (staged_in now) { space = kept_spaces m.space })) (sym is.same)
        (subst (λ (d : DomainNow). IsMarkedBut (record d { space = kept_spaces memory.space })) (sym staged_is) s.marked);
    once = subst (λ l. HaveOnce l.list.entries) (sym list_is) s.once;
    room = subst (λ l. length now.listed.items ≤ l.room) (sym list_is) (subst (λ items. length items ≤ memory.list.room) (sym is.listed) s.room);
  }

  pub still_kept : (all : FilesetMap) → MayBeKept memory all → MayBeKept now all
  still_kept all k = record {
    staged = still_staged all k.staged;
    parents = subst HaveParents (sym staged_is) k.parents;
    books = subst (λ books. AreBooksOf books (staged_in now) all) (sym books_are) (subst (λ (d : DomainNow). AreBooksOf (staged_books memory) d all) (sym staged_is) k.books);
  }

  pub still_back : MayGoBack memory → MayGoBack now
  still_back m = record {
    has = record {
      count = ap length is.slots ∙ m.has.count;
      numbered = λ number. subst (λ o. IfSome o (HasNumber number)) (sym (slots_are number)) (m.has.numbered number);
    };
    table = subst (λ (x : DomainMemory). IsTable (with_was x.was x.table)) (sym is.same) m.table;
    slots = λ number. subst (λ o. IfSome o CanGoBack) (sym (slots_are number)) (m.slots number);
  }

  pub still_keeps : KeepsKept memory now
  still_keeps = record {
    frame = ap (λ (m : DomainMemory). m.frame) is.same;
    table = ap (λ (m : DomainMemory). with_was m.was m.table) is.same;
    places = λ number. ap kept_places (slots_are number);
    books = λ number entry item. ap kept_book (slots_are number);
    pages = ap (λ (m : DomainMemory). before_of m.pages) is.same;
    spaces = λ vol. ap (λ (m : DomainMemory). volume_of (kept_spaces m.space) vol) is.same;
    cells = λ vol. ap (λ (m : DomainMemory). kept_of m.cells vol) is.same;
    marks = λ vol. ap (λ (m : DomainMemory). is_closed m.cells vol) is.same;
    list = ap (λ l. l.list) list_is;
  }

  pub still_settled : IsSettled memory → IsSettled now
  still_settled s = record {
    pages = subst (λ (m : DomainMemory). pages_of m.pages ≡ before_of m.pages) (sym is.same) s.pages;
    space = subst (λ (m : DomainMemory). kept_spaces m.space ≡ m.space) (sym is.same) s.space;
    cells = subst (λ (m : DomainMemory). taken_back m.cells ≡ m.cells) (sym is.same) s.cells;
    places = λ number. subst (λ o. places_in o ≡ kept_places o) (sym (slots_are number)) (s.places number);
    books = λ number. subst (λ o. book_in o ≡ kept_book o) (sym (slots_are number)) (s.books number);
    was = ap (λ (m : DomainMemory). m.was) is.same ∙ s.was;
    listed = is.listed ∙ s.listed;
  }
