-- Memory that has the files of a fileset back.
use Rattle.std.proofs.Common.{◌≡◌, ◌∙◌, ◌↔◌, ◌≤◌, ◌++◌, ℕ, zero, suc, true, List, [], ◌∷◌, Option, Some, None, IfSome, length, slice_get, take, refl, sym, ap, subst, arith, ⊎_elim}
use Rattle.std.proofs.lemmas.List.{length-append}
use Rattle.std.specs.FinMap.{insert}
use Rattle.std.specs.Option.{unwrap_or}
use Rattle.domain_memory.specs.domain_base.declared.place.CellAt.{CellAt}
use Rattle.domain_memory.specs.tag_dirs.declared.dir.TagPlace.{TagPlace}
use Rattle.domain_memory.specs.free_cells.Cells.{Cells, is_closed, kept_of}
use Rattle.domain_memory.specs.free_space.Spaces.{IsHeld, kept_spaces, volume_of}
use Rattle.domain_memory.specs.free_space.VolumeSpace.{VolumeSpace}
use Rattle.fileset_lending.specs.Rest.{kept_volumes}
use Rattle.fileset_lending.specs.declared.parts.CallSettings.{CallSettings}
use Rattle.domain_memory.specs.release_list.Listing.{Listing}
use Rattle.domain_memory.specs.fileset_model.Filesets.{FilesetMap}
use Rattle.domain_memory.specs.fileset_model.declared.fileset.FilesetSlot.{FilesetSlot}
use Rattle.domain_memory.specs.fileset_table.Table.{IsTable, Table, entry_of}
use Rattle.domain_memory.specs.fileset_table.declared.slot.FilesetEntry.{FilesetEntry}
use Rattle.domain_memory.specs.fileset_table.declared.slot.SlotItem.TheVariants as slot
use Rattle.domain_memory.specs.page_ways.Frame.{frame_in}
use Rattle.domain_memory.specs.staged_pages.Store.{before_of, pages_of}
use Rattle.domain_memory.specs.free_cells.Marks.{is_marked}
use Rattle.domain_memory.proofs.OfDomainLayout.Reached.{same_number}
use Rattle.domain_memory.proofs.OfReleaseList.Spread.{some_same}
use Rattle.domain_memory.specs.domain_layout.Read.{contents_of}
use Rattle.domain_memory.specs.domain_layout.Shape.{FilesetShape}
use Rattle.domain_memory.specs.domain_standing.Domain.{DomainNow, item_in}
use Rattle.domain_memory.specs.domain_standing.Standing.{IsMarkedBut, StandsDomain}
use Rattle.domain_memory.specs.standing_laws.Slots.{StandsSlot}
use Rattle.domain_memory.specs.standing_laws.SlotsStay.{PutsFileset}
use Rattle.domain_memory.proofs.OfStandingLaws.BitsStay.{bits_stay}
use Rattle.domain_memory.proofs.OfStandingLaws.FilesetPut.{fileset_put, stood_in}
use Rattle.domain_memory.proofs.OfStandingLaws.SourcesSaid.{alone_by_files, files_alone}
use Rattle.domain_memory.proofs.OfStandingLaws.SoundParted.{sound_but}
use Rattle.set_standing.specs.Around.{GoesOnAround, IsNamedIn, StandsAround, StaysAround}
use Rattle.set_standing.specs.Follow.{Said}
use Rattle.set_standing.specs.Parts.{AddsFiles, Surroundings, TagsOf, domain_of}
use Rattle.set_standing.proofs.Again.{around_of}
use Rattle.set_standing.proofs.OwnIndexes.{around_sound}
use Rattle.domain_memory.specs.Listing.{HaveOnce, list_with}
use Rattle.domain_memory.specs.Slots.{CanGoBack, HasNumber, kept_book, kept_places, places_in, slot_in}
use Rattle.domain_memory.specs.declared.slots.SlotFiles.{SlotFiles}
use Rattle.domain_memory.specs.Kept.{KeepsKept}
use Rattle.domain_memory.specs.Memory.{with_was}
use Rattle.domain_memory.specs.Staged.{IsStaged, MayGoBack, staged_in}
use Rattle.domain_memory.specs.declared.memory.DomainMemory.{DomainMemory}
use Rattle.fileset_lending.specs.Chosen.{AreSettingsOf, CallsChange, Lends, parts_in}
use Rattle.fileset_lending.specs.declared.chosen.Chosen.{Chosen}
use Rattle.fileset_lending.specs.declared.rest.MemoryRest.{MemoryRest}
use Rattle.fileset_lending.proofs.Listing.{behind_added}

-- what stands around an original of memory
pub stands_around : (memory : DomainMemory) (all : FilesetMap) → IsStaged memory all → (number : ℕ) (entry : FilesetEntry) → item_in (staged_in memory) number ≡ Some (slot.Original entry) → StandsAround number (staged_in memory)
stands_around memory all is number entry item =
    let d = staged_in memory in
    let sound = is.sound in
    let it = stood_in d all is.stands.slots number entry item in
    around_of number d entry item sound.files sound.indexes sound.below it.stood.set.chains it.stood.set.stands.together (files_alone d sound.files sound.indexes sound.below is.alone)
    (sound_but d sound.files sound.indexes (IsNamedIn it.stood.set.chains) sound.sound)

module _ {said : Said} (old now : DomainMemory) (number : ℕ) (settings settings_now : CallSettings) (chosen after : Chosen) (entry : FilesetEntry) (all : FilesetMap) (is : IsStaged old all) (may : MayGoBack old) (item : item_in (staged_in old) number ≡ Some (slot.Original entry))
    (right : AreSettingsOf old settings) (lends : Lends old number settings chosen) (calls : CallsChange said chosen after) (lends_now : Lends now number settings_now after) where
  abbrev d : DomainNow
  d = staged_in old

  -- ---- what no call changes

  rest_of : {X : Type 0} (what : MemoryRest → X) → what after.rest ≡ what chosen.rest
  rest_of what = ap what calls.rest

  same_frame : now.frame ≡ old.frame
  same_frame = sym lends_now.frame ∙ rest_of (λ r. r.frame) ∙ lends.frame

  same_table : now.table ≡ old.table
  same_table = sym lends_now.table ∙ rest_of (λ r. r.table) ∙ lends.table

  same_list : now.list ≡ old.list
  same_list = sym lends_now.list ∙ rest_of (λ r. r.list) ∙ lends.list

  same_was : now.was ≡ old.was
  same_was = sym lends_now.was ∙ rest_of (λ r. r.was) ∙ lends.was

  same_slot : (n : ℕ) → ¬ n ≡ number → slot_in now.slots.items n ≡ slot_in old.slots.items n
  same_slot n differ = sym (lends_now.others n differ) ∙ rest_of (λ r. slot_in r.slots.items n) ∙ lends.others n differ

  -- ---- the parts

  abbrev beside : Surroundings
  beside = record { frame = frame_in old.frame; table = old.table; reads = contents_of; alone = λ one other home same. ap (λ (o : Option (List ℕ)). unwrap_or o []) same }

  abbrev tags : ℕ → List TagPlace
  tags n = places_in (slot_in old.slots.items n)

  abbrev tags_now : ℕ → List TagPlace
  tags_now n = places_in (slot_in now.slots.items n)

  abbrev list : Listing
  list = list_with old.listed.items old.list.list

  abbrev list_now : Listing
  list_now = list_with now.listed.items now.list.list

  pub number_is : chosen.set.parts.files.fileset ≡ number
  number_is = subst (λ o. IfSome o (HasNumber number)) lends.slot (may.has.numbered number)

  was_there : domain_of beside tags (parts_in chosen) list ≡ d
  was_there = λ i. record {
    frame = frame_in old.frame;
    table = old.table;
    tags = tags;
    pages = pages_of (lends.pages i);
    contents = contents_of (pages_of (lends.pages i));
    space = lends.space i;
    cells = lends.cells i;
    list = list;
  }

  is_there : domain_of beside tags_now (parts_in after) list_now ≡ staged_in now
  is_there = λ i. record {
    frame = frame_in (sym same_frame i);
    table = sym same_table i;
    tags = tags_now;
    pages = pages_of (lends_now.pages i);
    contents = contents_of (pages_of (lends_now.pages i));
    space = lends_now.space i;
    cells = lends_now.cells i;
    list = list_now;
  }

  of_tags : TagsOf number (parts_in chosen) (parts_in after) tags tags_now
  of_tags = record {
    was = ap places_in lends.slot;
    is = ap places_in lends_now.slot;
    others = λ other differ. ap places_in (same_slot other differ);
  }

  adds : AddsFiles calls.set.lists.0 list list_now
  adds = subst (AddsFiles calls.set.lists.0 list) lists_are (behind_added old.listed.items calls.set.lists.0 old.list.list is.once)
    where
      listed_now : old.listed.items ++ calls.set.lists.0 ≡ now.listed.items
      listed_now = ap (λ (l : List CellAt). l ++ calls.set.lists.0) (sym lends.listed) ∙ calls.set.lists.1 ∙ lends_now.listed

      lists_are : list_with (old.listed.items ++ calls.set.lists.0) old.list.list ≡ list_now
      lists_are = λ i. list_with (listed_now i) (sym same_list i).list

  pub go : GoesOnAround said number d (staged_in now)
  go = subst (GoesOnAround said number d) is_there
      (subst (λ (x : DomainNow). GoesOnAround said number x (domain_of beside tags_now (parts_in after) list_now)) was_there
      (subst (λ (n : ℕ). GoesOnAround said n (domain_of beside tags (parts_in chosen) list) (domain_of beside tags_now (parts_in after) list_now)) number_is
      (calls.set.around beside tags tags_now list list_now (sym right.version ∙ sym (ap (λ (s : CallSettings). s.version) lends.same_settings))
      (subst (λ (s : CallSettings). s.born ≤ old.table.made) (sym lends.same_settings) right.born)
      (subst (λ (n : ℕ). TagsOf n (parts_in chosen) (parts_in after) tags tags_now) (sym number_is) of_tags) adds
      (subst (λ (n : ℕ). StandsAround n (domain_of beside tags (parts_in chosen) list)) (sym number_is) (subst (StandsAround number) (sym was_there) (stands_around old all is number entry item))))))

  pub stays : StaysAround said number d (staged_in now)
  stays = go.1

  -- ---- what was kept

  few : chosen.rest.tag_pages ≤ length chosen.set.parts.files.tags
  few = (subst (λ o. IfSome o CanGoBack) lends.slot (may.slots number)).few

  grows : after.set.parts.files.tags ≡ chosen.set.parts.files.tags ++ go.1.files.more
  grows = sym of_tags.is ∙ go.1.files.grows ∙ ap (λ (ps : List TagPlace). ps ++ go.1.files.more) of_tags.was

  take_front : (n : ℕ) (xs ys : List TagPlace) → n ≤ length xs → take n (xs ++ ys) ≡ take n xs
  take_front zero [] [] fits = refl
  take_front zero [] (y ∷ ys) fits = refl
  take_front zero (x ∷ xs) ys fits = refl
  take_front (suc n) [] ys fits = absurd (omega (arith, fits))
  take_front (suc n) (x ∷ xs) ys fits = ap (λ (l : List TagPlace). x ∷ l) (take_front n xs ys (omega (arith, fits)))

  same_places : (n : ℕ) → kept_places (slot_in now.slots.items n) ≡ kept_places (slot_in old.slots.items n)
  same_places n = ⊎_elim
      (λ same.
      ap (λ (k : ℕ). kept_places (slot_in now.slots.items k)) same ∙ ap kept_places lends_now.slot
      ∙ (λ i. take (rest_of (λ r. r.tag_pages) i) (grows i))
      ∙ take_front chosen.rest.tag_pages chosen.set.parts.files.tags go.1.files.more few
      ∙ sym (ap (λ (k : ℕ). kept_places (slot_in old.slots.items k)) same ∙ ap kept_places lends.slot))
      (λ differ. ap kept_places (same_slot n differ))
      (same_number n number)

  same_books : (n : ℕ) → kept_book (slot_in now.slots.items n) ≡ kept_book (slot_in old.slots.items n)
  same_books n = ⊎_elim
      (λ same.
      ap (λ (k : ℕ). kept_book (slot_in now.slots.items k)) same ∙ ap kept_book lends_now.slot ∙ rest_of (λ r. r.book.kept)
      ∙ sym (ap (λ (k : ℕ). kept_book (slot_in old.slots.items k)) same ∙ ap kept_book lends.slot))
      (λ differ. ap kept_book (same_slot n differ))
      (same_number n number)

  same_volumes : kept_volumes now.space ≡ kept_volumes old.space
  same_volumes = ap kept_volumes (sym lends_now.space) ∙ calls.set.kept.spaces ∙ ap kept_volumes lends.space

  pub kept_still : KeepsKept old now
  kept_still = record {
    frame = same_frame;
    table = λ i. with_was (same_was i) (same_table i);
    places = same_places;
    books = λ n its there. same_books n;
    pages = ap before_of (sym lends_now.pages) ∙ calls.set.same_before ∙ ap before_of lends.pages;
    spaces = λ vol. ap (λ (vs : List (Option VolumeSpace)). volume_of (record { volumes = vs; misses = 0 }) vol) same_volumes;
    cells = λ vol. ap (λ (c : Cells). kept_of c vol) (sym lends_now.cells) ∙ calls.set.kept.cells vol ∙ ap (λ (c : Cells). kept_of c vol) lends.cells;
    marks = λ vol. ap (λ (c : Cells). is_closed c vol) (sym lends_now.cells) ∙ calls.set.kept.marks vol ∙ ap (λ (c : Cells). is_closed c vol) lends.cells;
    list = ap (λ l. l.list) same_list;
  }

  -- ---- the change can be taken back

  apart_now : (j k : ℕ) (p q : TagPlace) → slice_get (tags_now number) j ≡ Some p → slice_get (tags_now number) k ≡ Some q → p.index ≡ q.index → j ≡ k
  apart_now = (go.0.below.tables.laid.tags number (slot.Original go.0.entry) go.0.original).directory.apart

  back_in : (n : ℕ) (o : Option SlotFiles) → slot_in now.slots.items n ≡ o → IfSome o CanGoBack
  back_in n None there = tt
  back_in n (Some slot) there = ⊎_elim
      (λ same.
      let mine : record { files = after.set.parts.files; book = after.rest.book; tag_pages = after.rest.tag_pages } ≡ slot =
      some_same _ slot (sym lends_now.slot ∙ ap (slot_in now.slots.items) (sym same) ∙ there)
      in
      subst CanGoBack mine (record {
        few = omega (arith, few, ap length grows, length-append chosen.set.parts.files.tags go.1.files.more, rest_of (λ r. r.tag_pages));
        once = subst (λ (ps : List TagPlace). (j k : ℕ) (p q : TagPlace) → slice_get ps j ≡ Some p → slice_get ps k ≡ Some q → p.index ≡ q.index → j ≡ k) of_tags.is apart_now;
      }))
      (λ differ. subst (λ o. IfSome o CanGoBack) (sym (same_slot n differ) ∙ there) (may.slots n))
      (same_number n number)

  number_in : (n : ℕ) (o : Option SlotFiles) → slot_in now.slots.items n ≡ o → IfSome o (HasNumber n)
  number_in n None there = tt
  number_in n (Some slot) there = ⊎_elim
      (λ same.
      let mine : record { files = after.set.parts.files; book = after.rest.book; tag_pages = after.rest.tag_pages } ≡ slot =
      some_same _ slot (sym lends_now.slot ∙ ap (slot_in now.slots.items) (sym same) ∙ there)
      in
      subst (HasNumber n) mine (calls.set.same_number ∙ number_is ∙ sym same))
      (λ differ. subst (λ o. IfSome o (HasNumber n)) (sym (same_slot n differ) ∙ there) (may.has.numbered n))
      (same_number n number)

  pub goes_back : MayGoBack now
  goes_back = record {
    has = record {
      count = sym lends_now.count ∙ rest_of (λ r. length r.slots.items) ∙ lends.count ∙ may.has.count;
      numbered = λ n. number_in n (slot_in now.slots.items n) refl;
    };
    table = subst IsTable (λ i. with_was (sym same_was i) (sym same_table i)) may.table;
    slots = λ n. back_in n (slot_in now.slots.items n) refl;
  }

  -- ---- it stands for the filesets

  module _ (room : length now.listed.items ≤ now.list.room) (shape : FilesetShape) (fileset : FilesetSlot) (own : StandsSlot (staged_in now) number entry shape fileset) where
    puts : PutsFileset number entry d (staged_in now)
    puts = record {
      has = ap (λ (t : Table). slice_get t.slots number) same_table ∙ item;
      had = λ its there. subst (λ i. IfSome (entry_of i) (λ (was : FilesetEntry). was.name ≡ entry.name)) (some_same (slot.Original entry) its (sym item ∙ there)) refl;
      others = λ other differ. ap (λ (t : Table). slice_get t.slots other) same_table;
    }

    domain_stands : StandsDomain (staged_in now) (insert all entry.name fileset)
    domain_stands = record {
      tables = go.0.below.tables;
      files = go.0.files;
      indexes = go.0.indexes;
      chains = go.0.below.chains;
      owned = go.0.below.owned;
      rest = go.0.below.rest;
      slots = fileset_put number entry d (staged_in now) go.0.files go.0.indexes all go.0.below puts is.stands.slots go.1.slots shape fileset own;
    }

    bits : IsMarkedBut (record (staged_in now) { space = kept_spaces now.space })
    bits =
        let was = bits_stay d (staged_in now) is.stands.tables (ap frame_in same_frame) (λ home member within. go.1.volumes home (member, within)) (kept_spaces old.space) is.marked in
        record {
          there = was.there;
          bits = λ vol page member within. subst (λ (vs : List (Option VolumeSpace)). (is_marked (pages_of now.pages) vol page ≡ true) ↔ IsHeld (record { volumes = vs; misses = 0 }) vol page) (sym same_volumes) (was.bits vol page member within);
          behind = was.behind;
        }

    pub now_staged : IsStaged now (insert all entry.name fileset)
    now_staged = record {
      stands = domain_stands;
      alone = alone_by_files (staged_in now) go.0.files go.0.indexes go.0.below go.0.alone;
      sound = around_sound number (staged_in now) go.0 entry shape fileset own;
      marked = bits;
      once = subst (λ (l : Listing). HaveOnce l.entries) (sym (ap (λ l. l.list) same_list)) is.once;
      room = room;
    }
