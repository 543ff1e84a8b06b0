-- A domain with the change by which a tag is taken out of use of what is being removed from a slot.
use Rattle.std.proofs.Common.{◌≡◌, ◌∙◌, ◌++◌, ◌∷◌, ◌<◌, ◌≤◌, ℕ, zero, suc, List, [], Option, Some, None, IfSome, IsSomeAnd, get_or, length, slice_get, slice_set, refl, sym, ap, subst, arith}
use Rattle.std.specs.Option.{unwrap_or}
use Rattle.std.proofs.Math.Logic.{∥∥₁_map}
use Rattle.domain_changes.specs.domain_base.declared.place.CellAt.{CellAt}
use Rattle.domain_changes.specs.domain_base.declared.place.Tag.{Tag}
use Rattle.domain_changes.specs.page_store.Pages.{Pages}
use Rattle.domain_changes.specs.free_cells.Cells.{is_closed, kept_of}
use Rattle.domain_changes.specs.free_space.Spaces.{Spaces, kept_spaces, volume_of}
use Rattle.domain_changes.specs.release_list.Listing.{Listing}
use Rattle.domain_changes.specs.fileset_model.Filesets.{FilesetMap}
use Rattle.domain_changes.specs.fileset_table.Table.{IsTable}
use Rattle.domain_changes.specs.page_ways.Frame.{frame_in}
use Rattle.domain_changes.specs.quota_book.Book.{Book}
use Rattle.domain_changes.specs.staged_pages.Store.{pages_of}
use Rattle.domain_changes.specs.tag_dirs.declared.dir.TagPlace.{TagPlace}
use Rattle.domain_changes.specs.domain_layout.Read.{contents_of}
use Rattle.domain_changes.specs.domain_standing.Chains.{IsRemoved}
use Rattle.domain_changes.specs.domain_standing.Domain.{DomainNow}
use Rattle.domain_changes.specs.standing_laws.Sound.{IsSound}
use Rattle.domain_changes.specs.domain_standing.Sources.{StandAlone}
use Rattle.domain_changes.specs.domain_standing.Standing.{AreBooksOf, HaveParents, IsMarkedBut, StandsDomain}
use Rattle.set_standing.specs.Around.{GoesOnAtSlot, StandsAtSlot}
use Rattle.set_standing.proofs.SlotLeft.{alone_left, marked_left, parents_left, sound_left, stands_left}
use Rattle.domain_changes.specs.domain_memory.Listing.{HaveOnce, list_with, put_all_on, put_on}
use Rattle.domain_changes.proofs.OfDomainMemory.Listed.{once_all, put_adds, put_more}
use Rattle.domain_changes.specs.domain_memory.Slots.{CanGoBack, HasNumber, book_in, kept_book, kept_places, places_in, slot_in}
use Rattle.domain_changes.specs.domain_memory.declared.slots.SlotFiles.{SlotFiles}
use Rattle.domain_changes.specs.domain_memory.Kept.{KeepsKept}
use Rattle.domain_changes.specs.domain_memory.Memory.{with_was}
use Rattle.domain_changes.specs.domain_memory.Staged.{IsStaged, IsStagedForSome, MayBeKept, MayGoBack, staged_books, staged_in}
use Rattle.domain_changes.specs.domain_memory.declared.memory.DomainMemory.{DomainMemory}
use Rattle.domain_changes.specs.domain_memory.Going.{IsUsedIn}
use Rattle.release_changes.specs.Emptying.{TakesOfFiles, TakesOut, TakesTag}
use Rattle.release_changes.proofs.OutOfUse.{goes_out}
use Rattle.release_changes.proofs.TagAsks.{at_slot, has_by, its_number}

module _ (number : ℕ) (old new : DomainMemory) (takes : TakesTag old new) where
  same_slot : (n : ℕ) → slot_in new.slots.items n ≡ slot_in old.slots.items n
  same_slot n = ap (λ (l : List (Option SlotFiles)). slot_in l n) takes.slots

  -- ---- what was kept stays

  pub kept_taken : KeepsKept old new
  kept_taken = record {
    frame = ap (λ (m : DomainMemory). m.frame) takes.same;
    table = ap (λ (m : DomainMemory). with_was m.was m.table) takes.same;
    places = λ n. ap kept_places (same_slot n);
    books = λ n entry there. ap kept_book (same_slot n);
    pages = takes.before;
    spaces = λ vol. ap (λ (s : Spaces). volume_of s vol) takes.kept;
    cells = λ vol. ap (λ (m : DomainMemory). kept_of m.cells vol) takes.same;
    marks = λ vol. ap (λ (m : DomainMemory). is_closed m.cells vol) takes.same;
    list = takes.list;
  }

  pub back_taken : ∥ MayGoBack old ∥₁ → ∥ MayGoBack new ∥₁
  back_taken may = ∥∥₁_map may (λ m. record {
    has = record {
      count = ap (λ (l : List (Option SlotFiles)). length l) takes.slots ∙ m.has.count;
      numbered = λ n. subst (λ o. IfSome o (HasNumber n)) (sym (same_slot n)) (m.has.numbered n);
    };
    table = subst IsTable (sym kept_taken.table) m.table;
    slots = λ n. subst (λ o. IfSome o CanGoBack) (sym (same_slot n)) (m.slots n);
  })

  -- ---- it stands for the same filesets

  module _ (tag : Tag) (start : CellAt) (group : ℕ) (removed : IsRemoved (slice_get old.table.slots number)) (used : IsUsedIn old number tag)
      (out : TakesOut group number (places_in (slot_in old.slots.items number)) tag start old.space new.space (pages_of old.pages) (pages_of new.pages)) (listed : new.listed.items ≡ old.listed.items ++ start ∷ []) (room : length new.listed.items ≤ new.list.room) (all : FilesetMap) (may : MayBeKept old all)
    where
      abbrev d : DomainNow
      d = staged_in old

      abbrev is : IsStaged old all
      is = may.staged

      abbrev at : StandsAtSlot number d
      at = at_slot old number all is (has_by old number all is tag used)

      abbrev list : Listing
      list = record d.list { entries = put_on start d.list.entries }

      abbrev now : DomainNow
      now = record d { pages = pages_of new.pages; contents = contents_of (pages_of new.pages); space = new.space; list = list }

      list_is : list ≡ list_with new.listed.items new.list.list
      list_is = λ i. record (sym takes.list i) { entries = entries i }
        where
          entries : list.entries ≡ put_all_on new.listed.items new.list.list.entries
          entries = sym (put_more old.listed.items start old.list.list.entries) ∙ (λ i. put_all_on (sym listed i) (sym takes.list i).entries)

      is_now : now ≡ staged_in new
      is_now = λ i. record {
        frame = ap (λ (m : DomainMemory). frame_in m.frame) (sym takes.same) i;
        table = ap (λ (m : DomainMemory). m.table) (sym takes.same) i;
        tags = λ n. places_in (sym (same_slot n) i);
        pages = pages_of new.pages;
        contents = contents_of (pages_of new.pages);
        space = new.space;
        cells = ap (λ (m : DomainMemory). m.cells) (sym takes.same) i;
        list = list_is i;
      }

      go : GoesOnAtSlot None number d now at
      go = goes_out number tag group d at (pages_of new.pages) (contents_of (pages_of new.pages)) new.space start out
          (λ home same. ap (λ (o : Option (List ℕ)). unwrap_or o []) same) list (put_adds start d.list.entries (once_all old.listed.items old.list.list.entries is.once)) refl

      marked_now : IsMarkedBut (record now { space = kept_spaces new.space })
      marked_now = subst (λ (s : Spaces). IsMarkedBut (record now { space = s })) (sym takes.kept) (marked_left number d now at go (kept_spaces old.space) is.marked)

      books_same : staged_books new ≡ staged_books old
      books_same = λ i n. book_in (same_slot n i)

      pub kept_so : MayBeKept new all
      kept_so = record {
        staged = record {
          stands = subst (λ (x : DomainNow). StandsDomain x all) is_now (stands_left number d now at removed go all is.stands);
          alone = subst StandAlone is_now (alone_left number d now at go);
          sound = subst IsSound is_now (sound_left number d now at go is.sound.sound);
          marked = subst (λ (x : DomainNow). IsMarkedBut (record x { space = kept_spaces new.space })) is_now marked_now;
          once = subst (λ (l : Listing). HaveOnce l.entries) (sym takes.list) is.once;
          room = room;
        };
        parents = subst HaveParents is_now (parents_left number d now at removed go all is.stands may.parents);
        books = subst (λ (b : ℕ → Book). AreBooksOf b (staged_in new) all) (sym books_same)
            (λ n entry item. may.books n entry (ap (λ (m : DomainMemory). slice_get m.table.slots n) (sym takes.same) ∙ item));
      }

-- ---- what a call leaves

-- a slot that is put as it was
pub put_same : (slots : List (Option SlotFiles)) (i : ℕ) (x y d : Option SlotFiles) → y ≡ get_or slots i d → x ≡ y → slice_set slots i x ≡ slots
put_same [] i x y d was same = refl
put_same (s ∷ slots) zero x y d was same = ap (λ (z : Option SlotFiles). z ∷ slots) (same ∙ was)
put_same (s ∷ slots) (suc i) x y d was same = ap (λ (l : List (Option SlotFiles)). s ∷ l) (put_same slots i x y d was same)

pub got_slot : (slots : List (Option SlotFiles)) (i : ℕ) (d : Option SlotFiles) → i < length slots → get_or slots i d ≡ slot_in slots i
got_slot [] i d within = absurd (omega (arith, within))
got_slot (s ∷ slots) zero d within = refl
got_slot (s ∷ slots) (suc i) d within = got_slot slots i d (omega (arith, within))

-- what is said of the files in a slot is said of the slot
pub out_of : (memory : DomainMemory) (number : ℕ) (tag : Tag) → ∥ IsStagedForSome memory ∥₁ → ∥ MayGoBack memory ∥₁ → IsUsedIn memory number tag → (group : ℕ) (start : CellAt) (space_now : Spaces) (new : Pages) (o : Option SlotFiles) → o ≡ slot_in memory.slots.items number
    → IsSomeAnd o (TakesOfFiles group tag start memory.space space_now (pages_of memory.pages) new) → TakesOut group number (places_in (slot_in memory.slots.items number)) tag start memory.space space_now (pages_of memory.pages) new
out_of memory number tag staged may used group start space_now new None same takes = absurd takes
out_of memory number tag staged may used group start space_now new (Some slot) same takes =
    subst (λ (n : ℕ). TakesOut group n (places_in (slot_in memory.slots.items number)) tag start memory.space space_now (pages_of memory.pages) new) (its_number memory number tag staged may used slot (sym same))
    (subst (λ (ps : List TagPlace). TakesOut group slot.files.fileset ps tag start memory.space space_now (pages_of memory.pages) new) (ap places_in same) takes)
