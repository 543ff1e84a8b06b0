-- A domain stands on where the slot of an original says that it is being removed.
use Rattle.std.proofs.Common.{◌≡◌, ◌∙◌, ◌⊎◌, ⊎_elim, inl, inr, ℕ, ◌==◌, ◌||◌, ◌&&◌, Bool, true, false, not, Option, Some, None, IfSome, IsSome, IsSomeAnd, is_some, slice_get, refl, sym, ap, subst, arith}
use Rattle.std.proofs.lemmas.Bool.{and_from, and_parts, both_ways, cases_Bool, cases_lt, eq-eqb, eqb-true, false_from_ne_true, or_right, true≢false}
use Rattle.std.specs.FinMap.{get, remove}
use Rattle.std.specs.Option.{option_and_then, option_map_or}
use Rattle.domain_standing.specs.domain_base.declared.place.Home.{Home}
use Rattle.domain_standing.specs.metadata_cells.Cell.{Cell, record_of}
use Rattle.domain_standing.proofs.OfFilesetValues.MapLemmas.{get-remove_other, got-remove}
use Rattle.domain_standing.specs.fileset_model.Filesets.{FilesetMap}
use Rattle.domain_standing.specs.fileset_values.Orders.{Name, name_cmp-total, name_cmp-IsAntisymmetric}
use Rattle.domain_standing.specs.fileset_model.declared.fileset.FilesetSlot.{FilesetSlot}
use Rattle.domain_standing.specs.fileset_table.Page.{IsTablePage}
use Rattle.domain_standing.specs.fileset_table.Table.{Table, entry_of, with_slot}
use Rattle.domain_standing.specs.fileset_table.declared.slot.FilesetEntry.{FilesetEntry}
use Rattle.domain_standing.specs.fileset_table.declared.slot.SlotItem.{SlotItem}
use Rattle.domain_standing.specs.fileset_table.declared.slot.SlotItem.TheVariants as slot
use Rattle.domain_standing.proofs.OfFilesetTable.Leaving.{get_other}
use Rattle.domain_standing.specs.quota_book.Book.{Book}
use Rattle.domain_standing.specs.quota_book.Sums.{IsBookOf}
use Rattle.domain_standing.specs.stored_set.Sets.{StandsAsSet}
use Rattle.domain_standing.specs.release_list.Standing.{Files}
use Rattle.domain_standing.proofs.OfReleaseList.Spread.{some_same}
use Rattle.domain_standing.specs.domain_layout.CellRules.{has_first_records, has_its_kinds, has_kind, is_good_first, keeps_well, of_clone, of_original, say_removed}
use Rattle.domain_standing.specs.domain_layout.Filled.{FillsThere}
use Rattle.domain_standing.specs.domain_layout.Layout.{first_tag_of}
use Rattle.domain_standing.specs.domain_layout.Shape.{FilesetShape, HasFileset, IsOriginal, IsShapeOf, Shapes}
use Rattle.domain_standing.specs.domain_layout.TagRules.{quota_of}
use Rattle.domain_standing.specs.Chains.{IndexesAt, IsRemoved}
use Rattle.domain_standing.specs.Domain.{DomainNow, item_in}
use Rattle.domain_standing.specs.Holders.{Holder, Holds}
use Rattle.domain_standing.specs.Holders.Holder.{of_file, of_index, of_table, of_tags}
use Rattle.domain_standing.specs.Slots.{StandSlots}
use Rattle.domain_standing.specs.Standing.{AreBooksOf, StandsDomain}
use Rattle.standing_laws.specs.GoingFileset.{BeginsToGo}
use Rattle.standing_laws.specs.Leads.{StandsBelow}
use Rattle.standing_laws.specs.Slots.{StandsSlot}
use Rattle.standing_laws.specs.SlotsStay.{IsPageOfSlot, KeepsSlot, OthersStand}
use Rattle.standing_laws.proofs.FilesetBegins.{get_set}
use Rattle.standing_laws.proofs.FilesetPut.{StoodIn, name_decided, one_slot, own_names, stood_in}
use Rattle.standing_laws.proofs.OthersStand.{NamesTheSame, SaysWhere, below_on}
use Rattle.standing_laws.proofs.SlotStays.{slot_stays_so}

-- what is asked of a first cell, by what is in its slot
abbrev good_in : Cell → Option SlotItem → Bool
good_in cell item = has_first_records cell.records
    && (say_removed cell.records
    || ((not (of_original item) || (has_its_kinds false cell.records && option_map_or (λ r. keeps_well r (has_kind 6 cell.records)) (record_of 1 cell.records) false))
    && (not (of_clone item) || has_its_kinds true cell.records)))

module _ (number : ℕ) (entry : FilesetEntry) (d now : DomainNow) (files : Files) (indexes : IndexesAt) (below : StandsBelow d files indexes) (s : BeginsToGo number entry d now) where
  abbrev left : SlotItem
  left = slot.Removed (Some entry.first_tag) entry.quota

  abbrev table_now : Table
  table_now = with_slot number left d.table

  number_or_not : (n : ℕ) → (n ≡ number) ⊎ (¬ n ≡ number)
  number_or_not n = ⊎_elim
      (λ same. inl (eqb-true n number same))
      (λ apart. inr (λ same. both_ways (n == number) apart (eq-eqb n number same)))
      (cases_Bool (n == number))

  -- ---- slots

  item_here : slice_get table_now.slots number ≡ Some left
  item_here = get_set d.table.slots number left (slot.Original entry) s.was

  item_other : (n : ℕ) → ¬ n ≡ number → slice_get table_now.slots n ≡ slice_get d.table.slots n
  item_other n differ = get_other d.table.slots number n left (false_from_ne_true (n == number) (λ same. differ (eqb-true n number same)))

  same_named : {X : Type 0} (what : SlotItem → Option X) → what left ≡ what (slot.Original entry) → (n : ℕ) → option_and_then what (slice_get table_now.slots n) ≡ option_and_then what (slice_get d.table.slots n)
  same_named what alike n = ⊎_elim
      (λ same.
      ap (λ (k : ℕ). option_and_then what (slice_get table_now.slots k)) same ∙ ap (option_and_then what) item_here ∙ alike ∙ sym (ap (option_and_then what) s.was)
      ∙ sym (ap (λ (k : ℕ). option_and_then what (slice_get d.table.slots k)) same))
      (λ differ. ap (option_and_then what) (item_other n differ))
      (number_or_not n)

  removed_still : (n : ℕ) → IsRemoved (slice_get d.table.slots n) → IsRemoved (slice_get table_now.slots n)
  removed_still n is = ⊎_elim
      (λ same. absurd (subst IsRemoved (ap (slice_get d.table.slots) same ∙ s.was) is))
      (λ differ. subst IsRemoved (sym (item_other n differ)) is)
      (number_or_not n)

  original_was : (n : ℕ) → of_original (slice_get table_now.slots n) ≡ true → of_original (slice_get d.table.slots n) ≡ true
  original_was n is = ⊎_elim
      (λ same. absurd (true≢false (sym is ∙ ap of_original (ap (slice_get table_now.slots) same ∙ item_here))))
      (λ differ. ap of_original (sym (item_other n differ)) ∙ is)
      (number_or_not n)

  good_left : (cell : Cell) → good_in cell (Some (slot.Original entry)) ≡ true → good_in cell (Some left) ≡ true
  good_left cell good = and_from (has_first_records cell.records) (say_removed cell.records || true) (and_parts (has_first_records cell.records) _ good).0 (or_right (say_removed cell.records) true refl)

  good_still : (cell : Cell) → is_good_first d.table cell ≡ true → is_good_first table_now cell ≡ true
  good_still cell good = by_fileset cell.head.fileset good
    where
      by_fileset : (o : Option ℕ) → good_in cell (option_and_then (slice_get d.table.slots) o) ≡ true → good_in cell (option_and_then (slice_get table_now.slots) o) ≡ true
      by_fileset None good = good
      by_fileset (Some n) good = ⊎_elim
          (λ same.
          subst (λ (o : Option SlotItem). good_in cell o ≡ true) (sym (ap (slice_get table_now.slots) same ∙ item_here))
          (good_left cell (subst (λ (o : Option SlotItem). good_in cell o ≡ true) (ap (slice_get d.table.slots) same ∙ s.was) good)))
          (λ differ. subst (λ (o : Option SlotItem). good_in cell o ≡ true) (sym (item_other n differ)) good)
          (number_or_not n)

  names_the_same : NamesTheSame d.table table_now
  names_the_same = record {
    made = refl;
    firsts = same_named first_tag_of refl;
    quotas = same_named quota_of refl;
    removed = removed_still;
    original = original_was;
    good = good_still;
  }

  -- ---- pages

  page_same : (holder : Holder) (home : Home) → Holds d files indexes holder home → ¬ holder ≡ of_table → now.pages home ≡ d.pages home
  page_same holder home held other = s.others home (λ at. other (below.owned.once home holder of_table held at))

  abbrev keeps : (holder : Holder) (home : Home) → SaysWhere holder → Holds d files indexes holder home → now.pages home ≡ d.pages home
  keeps holder home says held = page_same holder home held (λ is. subst SaysWhere is says)

  says_now : IsSomeAnd d.frame.anchor.table (λ home. IsSomeAnd (now.pages home) (λ page. IsTablePage page table_now))
  says_now = by_home d.frame.anchor.table refl below.tables.laid.table
    where
      by_home : (o : Option Home) → d.frame.anchor.table ≡ o → IsSomeAnd o (λ home. IsSomeAnd (d.pages home) (λ page. IsTablePage page d.table)) → IsSomeAnd o (λ home. IsSomeAnd (now.pages home) (λ page. IsTablePage page table_now))
      by_home None at is = absurd is
      by_home (Some home) at is = subst (λ (t : Table). IsSomeAnd (now.pages home) (λ page. IsTablePage page t)) s.table (s.says home at)

  abbrev it : DomainNow
  it = record d { table = table_now; pages = now.pages; contents = now.contents }

  it_is : it ≡ now
  it_is = (λ i. record d { table = sym s.table i; pages = now.pages; contents = now.contents }) ∙ sym s.same

  it_stands : StandsBelow it files indexes
  it_stands = below_on d files indexes below now.pages now.contents keeps table_now names_the_same says_now

  pub went : StandsBelow now files indexes
  went = subst (λ (x : DomainNow). StandsBelow x files indexes) it_is it_stands

  -- ---- other slots

  slot_page : (n : ℕ) (home : Home) → IsPageOfSlot n d files indexes home → now.pages home ≡ d.pages home
  slot_page n home of = ⊎_elim
      (λ has. page_same (of_tags n) home has (λ e. cc))
      (λ rest. ⊎_elim (λ f. page_same (of_file f.0 f.1) home f.3 (λ e. cc)) (λ i. page_same (of_index i.0 i.1) home i.3 (λ e. cc)) rest)
      of

  pub others_went : OthersStand number d now
  others_went bytes n differ other shape fileset there stood =
      subst (λ (x : DomainNow). StandsSlot x n other shape fileset) it_is
      (slot_stays_so n d it files files indexes indexes below it_stands keeps_it other shape fileset there stood)
    where
      keeps_it : KeepsSlot n d it files files indexes indexes
      keeps_it = record {
        item = item_other n differ;
        tags = refl;
        chains = λ a of. refl;
        quotas = λ a quota. refl;
        homes = λ a of. refl;
        pages = λ home of. slot_page n home of;
        held = λ home of low is. is;
        bytes = λ home of. bytes home (slot_page n home (inr (inl of)));
      }

  -- ---- filesets

  here_now : item_in now number ≡ Some left
  here_now = ap (λ (t : Table). slice_get t.slots number) s.table ∙ item_here

  other_now : (n : ℕ) → ¬ n ≡ number → item_in now n ≡ item_in d n
  other_now n differ = ap (λ (t : Table). slice_get t.slots n) s.table ∙ item_other n differ

  -- another slot has another name
  other_name : (n : ℕ) (its : FilesetEntry) → ¬ n ≡ number → item_in d n ≡ Some (slot.Original its) → ¬ entry.name ≡ its.name
  other_name n its differ at same = ⊎_elim
      (λ less. one_slot d.table.slots (own_names d below.tables) n number its entry less at s.was (sym same))
      (λ more. ⊎_elim
      (λ less. one_slot d.table.slots (own_names d below.tables) number n entry its less s.was at same)
      (λ also. differ (omega (arith, more, also)))
      (cases_lt number n))
      (cases_lt n number)

  -- the books of the others are theirs still
  pub books_went : (books : ℕ → Book) (all : FilesetMap) → AreBooksOf books d all → AreBooksOf books now (remove all entry.name)
  books_went books all are n its at = ⊎_elim
      (λ same. absurd (true≢false (sym (ap of_original (sym here_now ∙ ap (item_in now) (sym same) ∙ at)))))
      (λ differ.
      let was : item_in d n ≡ Some (slot.Original its) = sym (other_now n differ) ∙ at in
      subst (λ (o : Option FilesetSlot). IsSomeAnd o (λ fileset. IsBookOf (books n) fileset.tree))
      (sym (get-remove_other name_cmp-total name_cmp-IsAntisymmetric all entry.name its.name (λ same. other_name n its differ was (sym same)))) (are n its was))
      (number_or_not n)

  module _ (bytes : (home : Home) → now.pages home ≡ d.pages home → now.contents home ≡ d.contents home) (all : FilesetMap) (slots : StandSlots d all) where
    abbrev shape_but : (name : Name) → Option FilesetShape → (entry.name ≡ name) ⊎ ¬ entry.name ≡ name → Option FilesetShape
    shape_but name was (inl same) = None
    shape_but name was (inr differ) = was

    abbrev shapes_now : Shapes
    shapes_now name = shape_but name (slots.shapes name) (name_decided entry.name name)

    gone_name : (name : Name) → entry.name ≡ name → shapes_now name ≡ None
    gone_name name same = by_name (name_decided entry.name name)
      where
        by_name : (e : (entry.name ≡ name) ⊎ ¬ entry.name ≡ name) → shape_but name (slots.shapes name) e ≡ None
        by_name (inl is) = refl
        by_name (inr differ) = absurd (differ same)

    still_name : (name : Name) → ¬ entry.name ≡ name → shapes_now name ≡ slots.shapes name
    still_name name differ = by_name (name_decided entry.name name)
      where
        by_name : (e : (entry.name ≡ name) ⊎ ¬ entry.name ≡ name) → shape_but name (slots.shapes name) e ≡ slots.shapes name
        by_name (inl is) = absurd (differ is)
        by_name (inr other) = refl

    -- ---- another slot

    module _ (n : ℕ) (its : FilesetEntry) (differ : ¬ n ≡ number) (at : item_in d n ≡ Some (slot.Original its)) where
      there : StoodIn d all slots n its
      there = stood_in d all slots n its at

      stays : StandsSlot now n its there.shape_was there.fileset_was
      stays = others_went bytes n differ its there.shape_was there.fileset_was at there.stood

      shaped_still : shapes_now its.name ≡ Some there.shape_was
      shaped_still = still_name its.name (other_name n its differ at) ∙ there.shaped

      shape_stays : IsSomeAnd (shapes_now its.name) (IsOriginal now.pages n its)
      shape_stays = subst (λ o. IsSomeAnd o (IsOriginal now.pages n its)) (sym shaped_still) stays.is

      filled_still : FillsThere now.contents (slots.shapes its.name) (get all its.name)
      filled_still = subst (λ o. FillsThere now.contents o (get all its.name)) (sym there.shaped) (subst (FillsThere now.contents (Some there.shape_was)) (sym there.filled) stays.filled)

      set_stays : (sh : FilesetShape) → shapes_now its.name ≡ Some sh → StandsAsSet n (now.tags n) now.space now.cells now.pages sh.shown
      set_stays sh is = subst (λ (x : FilesetShape). StandsAsSet n (now.tags n) now.space now.cells now.pages x.shown) (some_same there.shape_was sh (sym shaped_still ∙ is)) stays.set

    -- ---- all slots

    its_item : (n : ℕ) (item : SlotItem) → n ≡ number → item_in now n ≡ Some item → left ≡ item
    its_item n item same at = some_same left item (sym here_now ∙ ap (item_in now) (sym same) ∙ at)

    no_clone : (n of clone : ℕ) (its : FilesetEntry) → ¬ item_in d n ≡ Some (slot.Clone of clone its)
    no_clone n of clone its at = true≢false (sym (ap of_clone at) ∙ slots.no_clone n)

    each_other : (n : ℕ) (item : SlotItem) → ¬ n ≡ number → item_in d n ≡ Some item → IfSome (entry_of item) (λ its. IsShapeOf now.pages now.table n item (shapes_now its.name))
    each_other n slot.Free differ at = tt
    each_other n (slot.Removed first_tag quota) differ at = tt
    each_other n (slot.Clone of clone its) differ at = absurd (no_clone n of clone its at)
    each_other n (slot.Original its) differ at = shape_stays n its differ at

    each_now : (n : ℕ) (item : SlotItem) → item_in now n ≡ Some item → IfSome (entry_of item) (λ its. IsShapeOf now.pages now.table n item (shapes_now its.name))
    each_now n item at = ⊎_elim
        (λ same. subst (λ (x : SlotItem). IfSome (entry_of x) (λ its. IsShapeOf now.pages now.table n x (shapes_now its.name))) (its_item n item same at) tt)
        (λ differ. each_other n item differ (sym (other_now n differ) ∙ at))
        (number_or_not n)

    -- what stood in the slot has no other name
    had_not : (name : Name) → ¬ entry.name ≡ name → (item : SlotItem) → item_in d number ≡ Some item → ¬ IsSomeAnd (entry_of item) (λ its. its.name ≡ name)
    had_not name differ item at is_named = differ (subst (λ (x : SlotItem). IsSomeAnd (entry_of x) (λ its. its.name ≡ name)) (sym (some_same (slot.Original entry) item (sym s.was ∙ at))) is_named)

    only_now : (name : Name) → IsSome (shapes_now name) → HasFileset now.table name
    only_now name some = ⊎_elim
        (λ same. absurd (true≢false (sym some ∙ ap is_some (gone_name name same))))
        (λ differ. still name differ (slots.are.only name (ap is_some (sym (still_name name differ)) ∙ some)))
        (name_decided entry.name name)
      where
        still : (name : Name) → ¬ entry.name ≡ name → HasFileset d.table name → HasFileset now.table name
        still name differ h = ⊎_elim
            (λ same. absurd (had_not name differ h.item (ap (item_in d) (sym same) ∙ h.there) h.named))
            (λ apart. record { number = h.number; item = h.item; there = other_now h.number apart ∙ h.there; named = h.named })
            (number_or_not h.number)

    -- ---- their filesets

    named_still : (name : Name) → ¬ entry.name ≡ name → (n : ℕ) (item : SlotItem) → item_in d n ≡ Some item → IsSomeAnd (entry_of item) (λ its. its.name ≡ name) → FillsThere now.contents (slots.shapes name) (get all name)
    named_still name differ n slot.Free at is_named = absurd is_named
    named_still name differ n (slot.Removed first_tag quota) at is_named = absurd is_named
    named_still name differ n (slot.Clone of clone its) at is_named = absurd (no_clone n of clone its at)
    named_still name differ n (slot.Original its) at is_named =
        subst (λ (x : Name). FillsThere now.contents (slots.shapes x) (get all x)) is_named
        (filled_still n its (λ same. had_not name differ (slot.Original its) (ap (item_in d) (sym same) ∙ at) is_named) at)

    filled_other : (name : Name) → ¬ entry.name ≡ name → FillsThere now.contents (slots.shapes name) (get all name)
    filled_other name differ = by_shape (slots.shapes name) refl
      where
        by_shape : (o : Option FilesetShape) → slots.shapes name ≡ o → FillsThere now.contents (slots.shapes name) (get all name)
        by_shape None none = subst (λ o. FillsThere now.contents o (get all name)) (sym none) (subst (λ o. FillsThere d.contents o (get all name)) none (slots.filled name))
        by_shape (Some sh) some = let has = slots.are.only name (ap is_some some) in named_still name differ has.number has.item has.there has.named

    taken_out : get (remove all entry.name) entry.name ≡ None
    taken_out = by_fileset (get (remove all entry.name) entry.name) refl
      where
        by_fileset : (o : Option FilesetSlot) → get (remove all entry.name) entry.name ≡ o → get (remove all entry.name) entry.name ≡ None
        by_fileset None is = is
        by_fileset (Some fileset) is = absurd ((got-remove name_cmp-total name_cmp-IsAntisymmetric all entry.name entry.name fileset is).0 refl)

    filled_now : (name : Name) → FillsThere now.contents (shapes_now name) (get (remove all entry.name) name)
    filled_now name = ⊎_elim
        (λ same.
        subst (λ o. FillsThere now.contents o (get (remove all entry.name) name)) (sym (gone_name name same))
        (subst (λ (x : Name). get (remove all entry.name) x ≡ None) same taken_out))
        (λ differ.
        subst (λ o. FillsThere now.contents o (get (remove all entry.name) name)) (sym (still_name name differ))
        (subst (FillsThere now.contents (slots.shapes name)) (sym (get-remove_other name_cmp-total name_cmp-IsAntisymmetric all entry.name name (λ same. differ (sym same)))) (filled_other name differ)))
        (name_decided entry.name name)

    -- ---- their sets

    sets_now : (n : ℕ) (its : FilesetEntry) (sh : FilesetShape) → item_in now n ≡ Some (slot.Original its) → shapes_now its.name ≡ Some sh → StandsAsSet n (now.tags n) now.space now.cells now.pages sh.shown
    sets_now n its sh at is = ⊎_elim
        (λ same. absurd (true≢false (sym (ap (λ (x : SlotItem). is_some (entry_of x)) (its_item n (slot.Original its) same at)))))
        (λ differ. set_stays n its differ (sym (other_now n differ) ∙ at) sh is)
        (number_or_not n)

    pub slots_went : StandSlots now (remove all entry.name)
    slots_went = record {
      shapes = shapes_now;
      are = record { each = each_now; only = only_now };
      filled = filled_now;
      sets = sets_now;
      no_clone = λ n. ⊎_elim
          (λ same. ap (λ (k : ℕ). of_clone (item_in now k)) same ∙ ap of_clone here_now)
          (λ differ. ap of_clone (other_now n differ) ∙ slots.no_clone n)
          (number_or_not n);
    }

-- ---- the domain

module _ (number : ℕ) (entry : FilesetEntry) (d now : DomainNow) (s : BeginsToGo number entry d now) (bytes : (home : Home) → now.pages home ≡ d.pages home → now.contents home ≡ d.contents home) (all : FilesetMap) (stands : StandsDomain d all) where
  below_all : StandsBelow d stands.files stands.indexes
  below_all = record { tables = stands.tables; chains = stands.chains; owned = stands.owned; rest = stands.rest }

  after : StandsBelow now stands.files stands.indexes
  after = went number entry d now stands.files stands.indexes below_all s

  pub domain_went : StandsDomain now (remove all entry.name)
  domain_went = record {
    tables = after.tables;
    files = stands.files;
    indexes = stands.indexes;
    chains = after.chains;
    owned = after.owned;
    rest = after.rest;
    slots = slots_went number entry d now stands.files stands.indexes below_all s bytes all stands.slots;
  }
