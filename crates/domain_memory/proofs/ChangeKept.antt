-- A domain stands once the change over its memory is kept.
use Rattle.std.proofs.Common.{◌≡◌, ◌∙◌, ◌↔◌, ℕ, ◌/◌, ◌<◌, ◌≤◌, ◌⊎◌, inl, inr, Bool, true, false, [], length, Option, Some, None, IsSome, IsSomeAnd, refl, sym, ap, subst, arith, ⊎_elim, true≢false}
use Rattle.std.proofs.Math.Logic.{∥∥₁_elim}
use Rattle.std.proofs.lemmas.Bool.{cases_eq, cases_lt}
use Rattle.std.specs.FinMap.{get}
use Rattle.std.specs.FinSet.{contains}
use Rattle.std.specs.Option.{is_some, option_map, unwrap_or}
use Rattle.standing_laws.specs.domain_base.Version.{bitmap_pages, most_pages}
use Rattle.standing_laws.specs.domain_base.declared.place.Home.{Home}
use Rattle.standing_laws.specs.domain_base.declared.version.Version.{Version}
use Rattle.standing_laws.specs.domain_base.declared.version.Version.TheVariants.{Three, Four}
use Rattle.standing_laws.specs.page_store.Pages.{Pages}
use Rattle.standing_laws.specs.log_ring.Homes.{IsMember, member_of}
use Rattle.standing_laws.proofs.OfMetadataCells.Changed.{homes_same}
use Rattle.standing_laws.specs.free_space.Spaces.{change_volumes, kept_spaces, volume_of}
use Rattle.standing_laws.specs.free_space.VolumeSpace.{VolumeSpace, as_kept, is_among, keeping}
use Rattle.standing_laws.specs.free_cells.Cells.{Holds as HoldsCells, is_closed, is_free, kept_of, table_of, taken_back}
use Rattle.standing_laws.specs.fileset_model.Filesets.{FilesetMap}
use Rattle.standing_laws.specs.quota_book.Sums.{IsBookOf}
use Rattle.standing_laws.specs.domain_layout.Filled.{Contents}
use Rattle.standing_laws.specs.domain_layout.Read.{contents_of}
use Rattle.standing_laws.specs.free_cells.Marks.{bitmap_home, is_marked}
use Rattle.standing_laws.specs.free_cells.Marking.{ChangeBits, IsHeldIn, IsOfBitmap, IsPageIn, SayHeld}
use Rattle.standing_laws.proofs.OfFreeCells.MarkVolumes.{volume_changed}
use Rattle.standing_laws.specs.domain_standing.Chains.{IndexesAt}
use Rattle.standing_laws.specs.domain_standing.Domain.{DomainNow, item_in}
use Rattle.standing_laws.specs.domain_standing.Holders.{AreHeldAt, Holder, Holds}
use Rattle.standing_laws.specs.domain_standing.Sources.{StandAlone}
use Rattle.standing_laws.specs.domain_standing.Standing.{HaveParents, IsMarkedBut, StandsDomain}
use Rattle.standing_laws.specs.release_list.Standing.{Files}
use Rattle.standing_laws.specs.page_ways.Frame.{frame_in}
use Rattle.standing_laws.specs.quota_book.Book.{Book}
use Rattle.staged_pages.specs.Store.{before_of, pages_of}
use Rattle.staged_pages.specs.declared.pages.StagedPages.{StagedPages}
use Rattle.domain_memory.specs.Listing.{HaveOnce, list_with}
use Rattle.domain_memory.specs.Slots.{ChangesSlots, IsKept, slot_in}
use Rattle.domain_memory.specs.Memory.{StandsFor, kept_in, with_was}
use Rattle.domain_memory.specs.Staged.{IsSettled, IsStaged, IsStagedForSome, MayBeKept, staged_in}
use Rattle.domain_memory.specs.declared.memory.DomainMemory.{DomainMemory}
use Rattle.domain_memory.proofs.KeptSpace.{kept_is}
use Rattle.domain_memory.proofs.SlotsKept.{book_kept, book_same, places_kept, places_same}
use Rattle.standing_laws.proofs.OfDomainStanding.SourcesStay.{sources_stay}
use Rattle.standing_laws.specs.Leads.{StandsBelow}
use Rattle.standing_laws.specs.OtherPages.{KeepsPages, KeepsWhere}
use Rattle.standing_laws.proofs.MemoryKept.{all_kept_stands, below_kept}
use Rattle.standing_laws.proofs.OthersStand.{others_stand}
use Rattle.standing_laws.proofs.ParentsKept.{parents_kept}
use Rattle.standing_laws.proofs.SlotsKept.{slots_kept}
use Rattle.standing_laws.specs.Sound.{IsSound, StandsSound}
use Rattle.standing_laws.proofs.SoundInPlace.{sound_elsewhere, sound_memory}

-- ---- pages of bitmaps

on_bitmap : (version : Version) (pages page : ℕ) → pages ≤ most_pages version → page < pages → page / 65536 < bitmap_pages version pages
on_bitmap Three pages page most within = omega (arith, most, within)
on_bitmap Four pages page most within = omega (arith, within)

module _ (d : DomainNow) (all : FilesetMap) (stands : StandsDomain d all) where
  abbrev files : Files
  files = stands.files

  abbrev indexes : IndexesAt
  indexes = stands.indexes

  below : StandsBelow d files indexes
  below = record { tables = stands.tables; chains = stands.chains; owned = stands.owned; rest = stands.rest }

  -- a volume that is there is a member, and has its pages
  pub member_there : (vol page : ℕ) → 1 ≤ vol → IsPageIn (volume_of d.space vol) page → IsMember d.frame.anchor vol × (page < (member_of d.frame.anchor vol).pages)
  member_there vol page first within = by_volume (volume_of d.space vol) (stands.owned.spaces vol first) within
    where
      by_volume : (o : Option VolumeSpace) → AreHeldAt d files indexes vol o → IsPageIn o page → IsMember d.frame.anchor vol × (page < (member_of d.frame.anchor vol).pages)
      by_volume None none within = absurd within
      by_volume (Some v) is within = (is.0, subst (λ n. page < n) is.1.count within)

  -- and a member is there, with its pages
  pub volume_there : (vol page : ℕ) → IsMember d.frame.anchor vol → page < (member_of d.frame.anchor vol).pages → IsPageIn (volume_of d.space vol) page
  volume_there vol page member within = by_volume (volume_of d.space vol) (stands.owned.spaces vol member.first)
    where
      by_volume : (o : Option VolumeSpace) → AreHeldAt d files indexes vol o → IsPageIn o page
      by_volume None none = absurd (none member)
      by_volume (Some v) is = subst (λ n. page < n) (sym is.1.count) within

  pub no_more : (vol page : ℕ) → IsMember d.frame.anchor vol → (member_of d.frame.anchor vol).pages ≤ page → IsPageIn (volume_of d.space vol) page → ⊥
  no_more vol page member far within = omega (arith, far, (member_there vol page member.first within).1)

  -- a page of a bitmap is held for its volume
  bitmap_held : (vol : ℕ) (home : Home) → 1 ≤ vol → IsOfBitmap vol (volume_of d.space vol) home → Holds d files indexes Holder.of_volume home
  bitmap_held vol home first is =
      let there = member_there vol is.page first is.within in
      let same : home ≡ bitmap_home vol is.page = homes_same home (bitmap_home vol is.page) is.at in
      subst (Holds d files indexes Holder.of_volume) (sym same)
      (there.0, omega (arith, on_bitmap d.frame.version (member_of d.frame.anchor vol).pages is.page (stands.tables.few vol there.0) there.1))

  -- ---- its bits

  module _ (pages : Pages) (change : ChangeBits d.space d.pages pages) where
    abbrev marked : DomainNow
    marked = record d { pages = pages; contents = contents_of pages }

    pub other_pages : (home : Home) (holder : Holder) → Holds d files indexes holder home → ¬ holder ≡ Holder.of_volume → pages home ≡ d.pages home
    other_pages home holder holds not_volume = change.elsewhere home (λ vol first is. not_volume (stands.owned.once home holder Holder.of_volume holds (bitmap_held vol home first is)))

    keeps : KeepsPages d marked files indexes
    keeps home holder holds not_volume not_log = other_pages home holder holds not_volume

    pub marked_stands : d.contents ≡ contents_of d.pages → StandsDomain marked all
    marked_stands same =
        let still = others_stand d marked files indexes below refl (λ home holder holds not_volume not_log not_file. other_pages home holder holds not_volume) in
        record {
          tables = still.tables;
          files = files;
          indexes = indexes;
          chains = still.chains;
          owned = still.owned;
          rest = still.rest;
          slots = slots_kept d marked files indexes all below refl keeps
              (λ home holder holds not_volume not_log. ap (λ o. unwrap_or o []) (other_pages home holder holds not_volume) ∙ sym (ap (λ (c : Contents). c home) same))
              stands.slots;
        }

    -- it is also as the rules of pages ask, if it was
    pub marked_sound : StandsSound d files indexes → IsSound marked
    marked_sound sound =
        let keeps_where : KeepsWhere d marked files indexes = λ home holder holds not_volume not_log not_file. other_pages home holder holds not_volume in
        record {
          files = files;
          indexes = indexes;
          below = others_stand d marked files indexes below refl keeps_where;
          sound = sound_elsewhere d marked files indexes sound refl keeps_where;
        }

    pub marked_parents : HaveParents d → HaveParents marked
    marked_parents = parents_kept d marked files indexes all below stands.slots refl keeps

    module _ (was : IsMarkedBut (record d { space = kept_spaces d.space })) (say : SayHeld pages d.space) where
      pub marked_bits : IsMarkedBut (record marked { space = change_volumes keeping d.space })
      marked_bits = record {
        there = λ vol page member within. change.there (bitmap_home vol page) ∙ was.there vol page member within;
        bits = λ vol page member within. held_kept vol page (say vol member.first member.last page (volume_there vol page member within));
        behind = λ vol page member far within. change.behind vol page (no_more vol page member far) ∙ was.behind vol page member far within;
      }
        where
          kept_in_volume : (o : Option VolumeSpace) (page : ℕ) → IsHeldIn o page ↔ IsHeldIn (option_map keeping o) page
          kept_in_volume None page = ((λ is. is), (λ is. is))
          kept_in_volume (Some v) page = ((λ is. is), (λ is. is))

          held_kept : (vol page : ℕ) → (is_marked pages vol page ≡ true) ↔ IsHeldIn (volume_of d.space vol) page → (is_marked pages vol page ≡ true) ↔ IsHeldIn (volume_of (change_volumes keeping d.space) vol) page
          held_kept vol page both = subst (λ o. (is_marked pages vol page ≡ true) ↔ IsHeldIn o page) (sym (volume_changed keeping d.space vol))
              ((λ marked. (kept_in_volume (volume_of d.space vol) page).0 (both.0 marked)), (λ held. both.1 ((kept_in_volume (volume_of d.space vol) page).1 held)))

  -- ---- what the marking of bits asks

  module _ (was : IsMarkedBut (record d { space = kept_spaces d.space })) where
    pub bitmaps_there : (vol page : ℕ) → 1 ≤ vol → IsPageIn (volume_of d.space vol) page → IsSome (d.pages (bitmap_home vol page))
    bitmaps_there vol page first within = let there = member_there vol page first within in was.there vol page there.0 there.1

    pub said_held : SayHeld d.pages (kept_spaces d.space)
    said_held vol first last page within =
        let there = member_there vol page first (was_page (volume_of d.space vol) (subst (λ o. IsPageIn o page) (volume_changed as_kept d.space vol) within)) in
        was.bits vol page there.0 there.1
      where
        was_page : (o : Option VolumeSpace) → IsPageIn (option_map as_kept o) page → IsPageIn o page
        was_page None within = absurd within
        was_page (Some v) within = within

-- ---- memory that was kept

module _ (old new : DomainMemory) (marks : StagedPages) (all : FilesetMap) (staged : IsStaged old all)
    (say : SayHeld (pages_of marks) old.space) (change : ChangeBits old.space (pages_of old.pages) (pages_of marks))
    (frame : new.frame ≡ old.frame) (table : new.table ≡ old.table) (pages : before_of new.pages ≡ pages_of marks) (space : new.space ≡ change_volumes keeping old.space)
    (same : HoldsCells (table_of old.cells) (is_closed old.cells) (is_free old.cells) (kept_of new.cells) new.cells) (settled : taken_back new.cells ≡ new.cells)
    (slots : ChangesSlots IsKept old.slots.items new.slots.items) (list : new.list.list ≡ list_with old.listed.items old.list.list) (was : new.was ≡ None) where
  abbrev target : DomainNow
  target = record (marked (staged_in old) all staged.stands (pages_of marks) change) { space = change_volumes keeping old.space; cells = new.cells }

  space_is : kept_spaces new.space ≡ change_volumes keeping old.space
  space_is = ap kept_spaces space ∙ kept_is old.space

  pub is_target : kept_in new ≡ target
  is_target = λ i. record {
    frame = frame_in (frame i);
    table = (ap (λ w. with_was w new.table) was ∙ table) i;
    tags = λ number. places_kept (slot_in old.slots.items number) (slot_in new.slots.items number) (slots.each number) i;
    pages = pages i;
    contents = contents_of (pages i);
    space = space_is i;
    cells = settled i;
    list = list i;
  }

  target_stands : StandsDomain target all
  target_stands =
      all_kept_stands (marked (staged_in old) all staged.stands (pages_of marks) change) (change_volumes keeping old.space) new.cells (volume_changed keeping old.space) same.tables same.marks same.cells all
      (marked_stands (staged_in old) all staged.stands (pages_of marks) change refl)

  target_alone : StandAlone target
  target_alone =
      sources_stay (staged_in old) target refl (λ vol member. same.tables vol)
      (λ home member table. other_pages (staged_in old) all staged.stands (pages_of marks) change home Holder.of_cells (member, table) (λ is. absurd (cc)))
      staged.alone

  target_marked : IsMarkedBut target
  target_marked =
      let bits = marked_bits (staged_in old) all staged.stands (pages_of marks) change staged.marked say in
      record { there = bits.there; bits = bits.bits; behind = bits.behind }

  -- the domain with the files and indexes with which it is as rules of pages ask
  abbrev its_stands : StandsDomain (staged_in old) all
  its_stands =
      let is = staged.sound in
      record staged.stands { files = is.files; indexes = is.indexes; tables = is.below.tables; chains = is.below.chains; owned = is.below.owned; rest = is.below.rest }

  target_sound : IsSound target
  target_sound =
      let it = marked (staged_in old) all staged.stands (pages_of marks) change in
      let is = marked_sound (staged_in old) all its_stands (pages_of marks) change staged.sound.sound in
      record {
        files = is.files;
        indexes = is.indexes;
        below = below_kept it (change_volumes keeping old.space) new.cells (volume_changed keeping old.space) same.tables same.marks same.cells is.files is.indexes is.below;
        sound = sound_memory it is.files is.indexes (change_volumes keeping old.space) new.cells is.sound same;
      }

  pub kept_stands : MayBeKept old all → StandsFor new all
  kept_stands may = record {
    stands = subst (λ (d : DomainNow). StandsDomain d all) (sym is_target) target_stands;
    alone = subst StandAlone (sym is_target) target_alone;
    sound = subst IsSound (sym is_target) target_sound;
    parents = subst HaveParents (sym is_target) (marked_parents (staged_in old) all staged.stands (pages_of marks) change may.parents);
    marked = subst IsMarkedBut (sym is_target) target_marked;
    books = λ number entry item. subst (λ (b : Book). IsSomeAnd (get all entry.name) (λ fileset. IsBookOf b fileset.tree)) (sym (book_kept (slot_in old.slots.items number) (slot_in new.slots.items number) (slots.each number)))
        (may.books number entry (ap (λ (d : DomainNow). item_in d number) (sym is_target) ∙ item));
  }

-- and no change is laid over it any more
pub kept_settled : (old new : DomainMemory) → before_of new.pages ≡ pages_of new.pages → new.space ≡ change_volumes keeping old.space → taken_back new.cells ≡ new.cells
    → ChangesSlots IsKept old.slots.items new.slots.items → new.was ≡ None → new.listed.items ≡ [] → IsSettled new
kept_settled old new pages space settled slots was listed = record {
  pages = sym pages;
  space = ap kept_spaces space ∙ kept_is old.space ∙ sym space;
  cells = settled;
  places = λ number. places_same (slot_in old.slots.items number) (slot_in new.slots.items number) (slots.each number);
  books = λ number. book_same (slot_in old.slots.items number) (slot_in new.slots.items number) (slots.each number);
  was = was;
  listed = listed;
}

-- ---- what keeping asks, if it is known that there are such filesets

nothing : {A : Type 0} → ∥ A ∥₁ → (A → ⊥) → ⊥
nothing t none = ∥∥₁_elim t (λ x y. absurd x) none

module _ (memory : DomainMemory) (staged : ∥ IsStagedForSome memory ∥₁) where
  pub asks_bitmaps : (vol page : ℕ) → 1 ≤ vol → IsPageIn (volume_of memory.space vol) page → IsSome (pages_of memory.pages (bitmap_home vol page))
  asks_bitmaps vol page first within = by_test (is_some (pages_of memory.pages (bitmap_home vol page))) refl
    where
      by_test : (b : Bool) → is_some (pages_of memory.pages (bitmap_home vol page)) ≡ b → b ≡ true
      by_test true is = refl
      by_test false is = absurd (nothing staged (λ s. true≢false (sym (bitmaps_there (staged_in memory) s.0 s.1.stands s.1.marked vol page first within) ∙ is)))

  held_or_not : (o : Option VolumeSpace) (page : ℕ) → IsHeldIn o page ⊎ (IsHeldIn o page → ⊥)
  held_or_not None page = inr (λ is. is)
  held_or_not (Some v) page = by_tests (contains v.used page) (is_among v.waiting page) refl refl
    where
      by_tests : (used waits : Bool) → contains v.used page ≡ used → is_among v.waiting page ≡ waits → IsHeldIn (Some v) page ⊎ (IsHeldIn (Some v) page → ⊥)
      by_tests true false used waits = inl (used, waits)
      by_tests true true used waits = inr (λ held. true≢false (sym waits ∙ held.1))
      by_tests false waits_too used waits = inr (λ held. true≢false (sym held.0 ∙ used))

  pub asks_bits : SayHeld (pages_of memory.pages) (kept_spaces memory.space)
  asks_bits vol first last page within = (
    (λ marked. ⊎_elim (λ held. held) (λ other. absurd (nothing staged (λ s. other ((said s).0 marked)))) (held_or_not (volume_of (kept_spaces memory.space) vol) page)),
    (λ held. by_mark (is_marked (pages_of memory.pages) vol page) refl held),
  )
    where
      said : IsStagedForSome memory → (is_marked (pages_of memory.pages) vol page ≡ true) ↔ IsHeldIn (volume_of (kept_spaces memory.space) vol) page
      said s = said_held (staged_in memory) s.0 s.1.stands s.1.marked vol first last page within

      by_mark : (b : Bool) → is_marked (pages_of memory.pages) vol page ≡ b → IsHeldIn (volume_of (kept_spaces memory.space) vol) page → b ≡ true
      by_mark true is held = refl
      by_mark false is held = absurd (nothing staged (λ s. true≢false (sym ((said s).1 held) ∙ is)))

  pub asks_once : HaveOnce memory.list.list.entries
  asks_once i j d low_i low_j same = ⊎_elim (λ is. is) (λ other. absurd (nothing staged (λ s. other (s.1.once i j d low_i low_j same)))) (cases_eq i j)

  pub asks_room : length memory.listed.items ≤ memory.list.room
  asks_room = ⊎_elim (λ more. absurd (nothing staged (λ s. omega (arith, more, s.1.room)))) (λ fits. fits) (cases_lt memory.list.room (length memory.listed.items))
