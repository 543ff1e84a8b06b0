-- Pages that agree where the rules look: the same rules of indexes are broken.
use Rattle.std.proofs.Common.{◌≡◌, inl, inr, ℕ, List, [], ◌∷◌, Option, Some, None, IsSomeAnd, refl, ⊎_elim}
use Rattle.std.specs.Prelude.{slice_get}
use Rattle.std.specs.Option.{option_and_then}
use Rattle.file_release.specs.domain_base.declared.place.CellAt.{CellAt}
use Rattle.file_release.specs.domain_base.declared.place.Home.{Home}
use Rattle.file_release.specs.domain_base.declared.place.Tag.{Tag}
use Rattle.file_release.specs.page_store.Pages.{Pages}
use Rattle.file_release.specs.metadata_cells.Chain.{PlacedCell}
use Rattle.file_release.specs.fileset_files.Files.{first_record}
use Rattle.fileset_table.specs.Table.{entry_of as fileset_of}
use Rattle.fileset_table.specs.declared.slot.FilesetEntry.{FilesetEntry}
use Rattle.fileset_table.specs.declared.slot.SlotItem.{SlotItem}
use Rattle.fileset_table.specs.declared.slot.SlotItem.TheVariants as slots
use Rattle.domain_layout.specs.DirectoryRules.{AreAllPages, AreReadPages, CountsRows, HasIndex, HasIndexAt, IsInClone, IsInItem, IsIndexFault, IsThere, IsWrongIndex, IsWrongIndexEntry, IsWrongIndexOf, IsWrongIndexPage, IsWrongTotal}
use Rattle.domain_layout.specs.Layout.{Layout}
use Rattle.domain_layout.specs.Owners.{frame_of}
use Rattle.domain_layout.specs.Reached.{Frame, index_way}
use Rattle.domain_layout.specs.Seen.{SeenFile}
use Rattle.domain_layout.specs.TagRules.{HasTags}
use Rattle.domain_layout.specs.Alike.{AgreeOnWay}
use Rattle.domain_layout.proofs.CellsAlike.{read, turned, unread, used_alike}
use Rattle.domain_layout.proofs.ChainsAlike.{same_page}
use Rattle.domain_layout.proofs.Files.{FirstThere, first_used, has_alike, tags_of}
use Rattle.domain_layout.proofs.RowsRead.{page_alike}
use Rattle.domain_layout.proofs.Sides.{AreSides, flipped}

-- ---- pages of an index that are read

module _ (one other : Pages) (frame : Frame) (first : Home) (agree : AgreeOnWay one other frame (index_way first)) where
  pages_alike : (index : List (List ℕ)) → AreReadPages one frame first index → AreReadPages other frame first index
  pages_alike index are = record {
    each = λ place page. (
      (λ there.
          let r = (are.each place page).0 there in
          (r.0, read one other frame (index_way first) agree place r.0 page r.1)),
      (λ r. (are.each place page).1 (r.0, read other one frame (index_way first) (turned one other frame (index_way first) agree) place r.0 page r.1)),
    );
  }

  all_pages_alike : (index : List (List ℕ)) → AreAllPages one frame first index → AreAllPages other frame first index
  all_pages_alike index are = record {
    read = pages_alike index are.read;
    whole = λ home none. are.whole home (unread other one frame (index_way first) (turned one other frame (index_way first) agree) home none);
    good = are.good;
  }

module _ (one other : Pages) (layout : Layout) (s : AreSides one other layout) where
  back : AreSides other one layout
  back = flipped one other layout s

  index_at_alike : (at : CellAt) (first : Home) → HasIndexAt one (frame_of layout) at first → HasIndexAt other (frame_of layout) at first
  index_at_alike at first has = record {
    cell = has.cell;
    is = used_alike one other (frame_of layout) s.ahead.cells at has.cell has.is;
    value = has.value;
    there = has.there;
    begins = has.begins;
  }

  -- ---- every index

  wrong_page_alike : (home : Home) → IsWrongIndexPage one (frame_of layout) home → IsWrongIndexPage other (frame_of layout) home
  wrong_page_alike home w =
      let agree = s.indexes w.at w.first w.has in
      record {
        at = w.at;
        first = w.first;
        has = index_at_alike w.at w.first w.has;
        wrong =
            ⊎_elim (λ none. inl (unread one other (frame_of layout) (index_way w.first) agree home none))
            (λ page. inr (
              page.0,
              page.1,
              read one other (frame_of layout) (index_way w.first) agree page.0 home page.1 page.2,
              ⊎_elim (λ bad. inl bad)
                  (λ two. inr (
                    two.0,
                    two.1,
                    two.2,
                    two.3,
                    index_at_alike two.0 two.1 two.4,
                    read one other (frame_of layout) (index_way two.1) (s.indexes two.0 two.1 two.4) two.2 home page.1 two.5,
                  )) page.3,
            )) w.wrong;
      }

  -- ---- indexes of files

  -- a cell names the index
  record IsNamed (first : Home) : Type 0 where
    at : CellAt
    has : HasIndexAt one (frame_of layout) at first

  named : (number : ℕ) (tag : Tag) (seen : SeenFile) (first : Home) (total : ℕ) → HasIndex one layout.table number tag seen first total → ¬ ¬ IsNamed first
  named number tag seen first total has = by_item has.has.item has.has.there has.has.is
    where
      by_list : (n : ℕ) (entry : FilesetEntry) → HasTags layout.table n entry.first_tag → (cells : List PlacedCell) → IsThere one entry tag cells → first_record 9 cells ≡ Some has.value → ¬ ¬ IsNamed first
      by_list n entry tags [] there record_there = absurd (let e : None ≡ Some has.value = record_there in absurd (cc))
      by_list n entry tags (cell ∷ rest) there record_there = λ away.
          first_used one other layout s.ahead n entry tags tag cell rest there (λ (f : FirstThere one other layout s.ahead n entry tags tag cell).
          away (record { at = cell.at; has = record { cell = cell.cell; is = f.used; value = has.value; there = record_there; begins = has.begins } }))

      behind_tags : (of : ℕ) (item : SlotItem) (original : FilesetEntry) → slice_get layout.table.slots of ≡ Some item → fileset_of item ≡ Some original → HasTags layout.table of original.first_tag
      behind_tags of item original there is = record { item = item; there = there; has = tags_of item original is }

      by_clone : (of clone : ℕ) (entry : FilesetEntry) → HasTags layout.table number entry.first_tag → (o : Option SlotItem) → slice_get layout.table.slots of ≡ o → (e : Option FilesetEntry) → option_and_then fileset_of o ≡ e
          → IsSomeAnd e (λ original. IsInClone one entry original clone tag has.cells seen) → ¬ ¬ IsNamed first
      by_clone of clone entry tags o behind None none is = absurd is
      by_clone of clone entry tags None behind (Some original) some is = absurd (let e : None ≡ Some original = some in absurd (cc))
      by_clone of clone entry tags (Some item) behind (Some original) some is =
          ⊎_elim (λ own. by_list number entry tags has.cells own.0 has.there)
          (λ through. by_list of original (behind_tags of item original behind some) has.cells through.1 has.there) is.is

      by_item : (item : SlotItem) → slice_get layout.table.slots number ≡ Some item → IsInItem one layout.table item tag has.cells seen → ¬ ¬ IsNamed first
      by_item slots.Free slot is = absurd is
      by_item (slots.Removed first_tag quota) slot is = absurd is
      by_item (slots.Clone of clone entry) slot is =
          by_clone of clone entry (record { item = slots.Clone of clone entry; there = slot; has = refl }) (slice_get layout.table.slots of) refl (option_and_then fileset_of (slice_get layout.table.slots of)) refl is
      by_item (slots.Original entry) slot is = by_list number entry (record { item = slots.Original entry; there = slot; has = refl }) has.cells is.there has.there

  -- so its pages are the same
  index_agrees : (number : ℕ) (tag : Tag) (seen : SeenFile) (first : Home) (total : ℕ) → HasIndex one layout.table number tag seen first total → AgreeOnWay one other (frame_of layout) (index_way first)
  index_agrees number tag seen first total has passed home reached may =
      same_page (one home) (other home) (λ differ. named number tag seen first total has (λ (n : IsNamed first). differ (s.indexes n.at first n.has passed home reached may)))

  has_index_alike : (number : ℕ) (tag : Tag) (seen : SeenFile) (first : Home) (total : ℕ) → HasIndex one layout.table number tag seen first total → HasIndex other layout.table number tag seen first total
  has_index_alike number tag seen first total has = record {
    cells = has.cells;
    has = has_alike one other layout s.ahead number tag has.cells seen has.has;
    value = has.value;
    there = has.there;
    begins = has.begins;
    entries = has.entries;
  }

  counts_alike : (number : ℕ) (dir : Tag) (hash page count : ℕ) → CountsRows one (frame_of layout) layout.table number dir hash page count → CountsRows other (frame_of layout) layout.table number dir hash page count
  counts_alike number dir hash page count counts = record {
    is =
        ⊎_elim (λ some. inl (some.0, some.1, page_alike one other layout s number dir page some.0 some.1 some.2, some.3, some.4))
        (λ none. inr ((λ home bytes is. none.0 home bytes (page_alike other one layout back number dir page home bytes is)), none.1)) counts.is;
  }

  entry_alike : (number : ℕ) (dir : Tag) (index : List (List ℕ)) (place : ℕ) → IsWrongIndexEntry one (frame_of layout) layout.table number dir index place → IsWrongIndexEntry other (frame_of layout) layout.table number dir index place
  entry_alike number dir index place w = record {
    page = w.page;
    there = w.there;
    k = w.k;
    entry = w.entry;
    is = w.is;
    wrong =
        ⊎_elim (λ order. inl order)
        (λ many. inr (many.0, counts_alike number dir w.entry.hash w.entry.page many.0 many.1, many.2)) w.wrong;
  }

  total_alike : (number : ℕ) (dir : Tag) (seen : SeenFile) (first : Home) (total : ℕ) → HasIndex one layout.table number dir seen first total
      → IsWrongTotal one (frame_of layout) layout.table number dir first total → IsWrongTotal other (frame_of layout) layout.table number dir first total
  total_alike number dir seen first total has w = record {
    index = w.index;
    are = all_pages_alike one other (frame_of layout) first (index_agrees number dir seen first total has) w.index w.are;
    wrong =
        ⊎_elim (λ apart. inl apart)
        (λ lacks. inr (lacks.0, lacks.1, lacks.2, counts_alike number dir lacks.0 lacks.1 lacks.2 lacks.3, lacks.4)) w.wrong;
  }

  wrong_index_alike : (number : ℕ) (dir : Tag) (seen : SeenFile) (first : Home) (total : ℕ) (home : Home) → HasIndex one layout.table number dir seen first total
      → IsWrongIndex one (frame_of layout) layout.table number dir seen first total home → IsWrongIndex other (frame_of layout) layout.table number dir seen first total home
  wrong_index_alike number dir seen first total home has w =
      let agree = index_agrees number dir seen first total has in
      ⊎_elim (λ entry. inl (
        entry.0,
        entry.1,
        entry.2,
        read one other (frame_of layout) (index_way first) agree entry.0 home entry.1 entry.3,
        pages_alike one other (frame_of layout) first agree entry.2 entry.4,
        entry_alike number dir entry.2 entry.0 entry.5,
      ))
      (λ more. inr (
        more.0,
        ⊎_elim (λ kind. inl kind) (λ rest. inr (⊎_elim (λ short. inl short) (λ total_is. inr (total_alike number dir seen first total has total_is)) rest)) more.1,
      )) w

  wrong_index_of_alike : (home : Home) → IsWrongIndexOf one (frame_of layout) layout.table home → IsWrongIndexOf other (frame_of layout) layout.table home
  wrong_index_of_alike home w = record {
    number = w.number;
    dir = w.dir;
    seen = w.seen;
    first = w.first;
    total = w.total;
    has = has_index_alike w.number w.dir w.seen w.first w.total w.has;
    wrong = wrong_index_alike w.number w.dir w.seen w.first w.total home w.has w.wrong;
  }

  -- code 10
  pub index_fault_alike : (home : Home) → IsIndexFault one (frame_of layout) layout.table home → IsIndexFault other (frame_of layout) layout.table home
  index_fault_alike home fault = ⊎_elim (λ w. inl (wrong_page_alike home w)) (λ w. inr (wrong_index_of_alike home w)) fault
