-- Where a domain stands, pages of tags are those of directories, and each entry of them leads to the first cell of its file.
use Rattle.std.proofs.Common.{◌≡◌, ◌∙◌, ℕ, zero, suc, ◌+◌, ◌/◌, ◌%◌, ◌≤◌, true, List, [], ◌∷◌, map, Option, Some, None, IfSome, IsSomeAnd, slice_get, refl, sym, ap, subst, arith}
use Rattle.std.proofs.lemmas.Bool.{eq-eqb, or_left, or_right}
use Rattle.std.specs.Option.{option_and_then, option_map}
use Rattle.domain_memory.specs.domain_base.declared.place.CellAt.{CellAt}
use Rattle.domain_memory.specs.domain_base.declared.place.Home.{Home}
use Rattle.domain_memory.specs.domain_base.declared.place.Tag.{Tag}
use Rattle.domain_memory.specs.page_store.Pages.{same_home}
use Rattle.domain_memory.specs.cell_records.Fields.{number_at}
use Rattle.domain_memory.proofs.OfMetadataCells.Changed.{same_itself}
use Rattle.domain_memory.specs.tag_dirs.Directory.{IsDirectoryAt, IsPageOf, cell_of, has_home, home_behind}
use Rattle.domain_memory.specs.tag_dirs.TagPage.{IsTagPage, next_of, slot_of}
use Rattle.domain_memory.specs.tag_dirs.declared.dir.TagPlace.{TagPlace}
use Rattle.domain_memory.proofs.OfTagDirs.Slots.{found}
use Rattle.domain_memory.specs.fileset_model.Filesets.{FilesetMap}
use Rattle.domain_memory.specs.fileset_table.declared.slot.SlotItem.{SlotItem}
use Rattle.domain_memory.proofs.OfFilesetShapes.Roots.{entry_leads}
use Rattle.domain_memory.specs.domain_layout.Layout.{AreTagPlaces, first_tag_of}
use Rattle.domain_memory.specs.domain_layout.Reached.{on_volume, tags_way}
use Rattle.domain_memory.specs.domain_layout.TagRules.{HasEntry, HasTags, IsTagsPage}
use Rattle.domain_memory.proofs.OfDomainLayout.Named.{entry_by, names_by}
use Rattle.domain_memory.proofs.OfDomainLayout.OnePage.{HasOne, one_of, some_same}
use Rattle.domain_memory.proofs.OfDomainLayout.OwnedOnce.{on_a_volume}
use Rattle.domain_memory.proofs.OfFilesetsReading.Ways.{get_map}
use Rattle.domain_memory.specs.domain_standing.Domain.{DomainNow, item_in, named_by}
use Rattle.domain_memory.specs.domain_standing.Holders.{Holder}
use Rattle.domain_memory.specs.domain_standing.Standing.{StandsDomain}
use Rattle.domain_memory.specs.standing_laws.Sound.{StandsSound}
use Rattle.no_faults.proofs.FaultOnTables.{may_be}
use Rattle.no_faults.proofs.Ways.{AreWay, IsOnWay, is_read, map_at, nothing, read_at}

abbrev pub homes_of : List TagPlace → List Home
homes_of places = map (λ (p : TagPlace). p.home) places

pub has_home_at : (places : List TagPlace) (k : ℕ) (p : TagPlace) → slice_get places k ≡ Some p → has_home places p.home ≡ true
has_home_at [] k p is = nothing p is
has_home_at (q ∷ qs) zero p is = or_left (same_home p.home q.home) (has_home qs p.home) (ap (λ (x : TagPlace). same_home p.home x.home) (some_same q p is) ∙ same_itself p.home)
has_home_at (q ∷ qs) (suc k) p is = or_right (same_home p.home q.home) (has_home qs p.home) (has_home_at qs k p is)

on_it : (page : List ℕ) → number_at 4 8 page ≤ 8 → (o : Option Home) → next_of page ≡ o → on_volume (next_of page) ≡ next_of page
on_it page small None none = ap on_volume none ∙ sym none
on_it page small (Some home) next = on_a_volume page home next small ∙ sym next

-- what a slot names, by its item
pub tags_of : (d : DomainNow) (number : ℕ) (begin : Home) → named_by first_tag_of d number ≡ Some begin → HasTags d.table number begin
tags_of d number begin has = by_item (item_in d number) refl has
  where
    by_item : (o : Option SlotItem) → item_in d number ≡ o → option_and_then first_tag_of o ≡ Some begin → HasTags d.table number begin
    by_item None there has = nothing begin has
    by_item (Some item) there has = record { item = item; there = there; has = has }

module _ (d : DomainNow) (all : FilesetMap) (stands : StandsDomain d all) (sound : StandsSound d stands.files stands.indexes) where
  module _ (number : ℕ) (begin : Home) (has : HasTags d.table number begin) where
    pub directory : IsDirectoryAt d.pages begin (d.tags number)
    directory = subst (λ o. AreTagPlaces d.pages o (d.tags number)) has.has (stands.tables.laid.tags number has.item has.there)

    pub page_of_tags : (k : ℕ) (p : TagPlace) → slice_get (d.tags number) k ≡ Some p → HasOne (d.pages p.home) (IsPageOf p (home_behind (d.tags number) k))
    page_of_tags k p at =
        one_of (d.pages p.home) (IsPageOf p (home_behind (d.tags number) k))
        (subst (λ o. IfSome o (λ place. IsSomeAnd (d.pages place.home) (IsPageOf place (home_behind (d.tags number) k)))) at (directory.directory.run k))

    on_way : (k : ℕ) (home : Home) → slice_get (homes_of (d.tags number)) k ≡ Some home → IsOnWay d.pages d.frame (tags_way begin) (homes_of (d.tags number)) k home
    on_way k home at =
        let p = map_at (λ (q : TagPlace). q.home) (d.tags number) k home at in
        let one = page_of_tags k p.0 p.1 in
        let e : k + 1 ≡ suc k = omega arith in
        subst (IsOnWay d.pages d.frame (tags_way begin) (homes_of (d.tags number)) k) p.2 (record {
          page = one.value;
          there = one.there;
          so = eq-eqb (number_at 4 0 one.value) 0x50474154 one.is.good.magic;
          next = on_it one.value one.is.good.next (next_of one.value) refl ∙ one.is.linked
              ∙ ap (λ n. option_map (λ (q : TagPlace). q.home) (slice_get (d.tags number) n)) e ∙ sym (get_map (λ (q : TagPlace). q.home) (d.tags number) (suc k));
          may = may_be d all stands sound (Holder.of_tags number) p.0.home (has_home_at (d.tags number) k p.0 p.1) (λ same. cc) (λ same. cc);
        })

    pub tags_are_way : AreWay d.pages d.frame (tags_way begin) (homes_of (d.tags number))
    tags_are_way = record {
      first =
          let one : HasOne (slice_get (d.tags number) 0) (λ (p : TagPlace). p.home ≡ begin) = one_of (slice_get (d.tags number) 0) (λ (p : TagPlace). p.home ≡ begin) directory.begins in
          get_map (λ (q : TagPlace). q.home) (d.tags number) 0 ∙ ap (option_map (λ (q : TagPlace). q.home)) one.there ∙ ap Some one.is;
      each = on_way;
      once = λ j k home one other.
          let p = map_at (λ (q : TagPlace). q.home) (d.tags number) j home one in
          let q = map_at (λ (q : TagPlace). q.home) (d.tags number) k home other in
          let x = page_of_tags j p.0 p.1 in
          let y = page_of_tags k q.0 q.1 in
          let same : x.value ≡ y.value = some_same x.value y.value (sym x.there ∙ ap d.pages (p.2 ∙ sym q.2) ∙ y.there) in
          directory.directory.apart j k p.0 q.0 p.1 q.1 (sym x.is.indexed ∙ ap (number_at 4 4) same ∙ y.is.indexed);
    }

  -- ---- pages that are read

  -- a page of tags that is read is that of its place
  pub record IsOfTags (number place : ℕ) (home : Home) (page : List ℕ) : Type 0 where
    pub p : TagPlace
    pub there : slice_get (d.tags number) place ≡ Some p
    pub at : p.home ≡ home
    pub is : IsPageOf p (home_behind (d.tags number) place) page

  pub of_tags : (number place : ℕ) (home : Home) (page : List ℕ) → IsTagsPage d.pages d.frame d.table number place home page → IsOfTags number place home page
  of_tags number place home page is =
      let at = read_at d.pages d.frame (tags_way is.first) (homes_of (d.tags number)) (tags_are_way number is.first is.has) place home page is.read in
      let p = map_at (λ (q : TagPlace). q.home) (d.tags number) place home at in
      let one = page_of_tags number is.first is.has place p.0 p.1 in
      record {
        p = p.0;
        there = p.1;
        at = p.2;
        is = subst (IsPageOf p.0 (home_behind (d.tags number) place)) (some_same one.value page (sym one.there ∙ ap d.pages p.2 ∙ is.read.there)) one.is;
      }

  -- ---- entries

  -- where an entry that is read leads, its tag leads
  pub entry_is : (number : ℕ) (tag : Tag) (at : CellAt) (home : Home) → HasEntry d.pages d.frame d.table number tag at home → cell_of d.pages (d.tags number) tag ≡ Some at
  entry_is number tag at home has =
      entry_leads d.pages d.frame has.is.first (d.tags number) (directory number has.is.first has.is.has) tag at home has.page has.is.read.passed has.is.read.reached has.is.read.there
      has.entry has.within has.slot has.used

  -- and where a tag leads, an entry that is read does
  pub record EntryThere (number : ℕ) (tag : Tag) (at : CellAt) : Type 0 where
    pub home : Home
    pub has : HasEntry d.pages d.frame d.table number tag at home

  pub entry_there : (number : ℕ) (begin : Home) → HasTags d.table number begin → (tag : Tag) (at : CellAt) → cell_of d.pages (d.tags number) tag ≡ Some at → EntryThere number tag at
  entry_there number begin has tag at leads =
      let entry = entry_by d.pages (d.tags number) tag at leads in
      let f = found (d.tags number) (tag.slot / 1022) entry.home entry.on in
      let one = page_of_tags number begin has f.k f.p f.there in
      let same : one.value ≡ entry.page = some_same one.value entry.page (sym one.there ∙ ap d.pages f.stands ∙ entry.there) in
      let home_at : slice_get (homes_of (d.tags number)) f.k ≡ Some entry.home =
      get_map (λ (q : TagPlace). q.home) (d.tags number) f.k ∙ ap (option_map (λ (q : TagPlace). q.home)) f.there ∙ ap Some f.stands in
      let index : number_at 4 4 entry.page ≡ tag.slot / 1022 = ap (number_at 4 4) (sym same) ∙ one.is.indexed ∙ f.indexed in
      let slot_is : slot_of entry.page (tag.slot % 1022) ≡ tag.slot = omega (arith, index) in
      record {
        home = entry.home;
        has = record {
          place = f.k;
          page = entry.page;
          is = record {
            first = begin;
            has = has;
            read = is_read d.pages d.frame (tags_way begin) (homes_of (d.tags number)) (tags_are_way number begin has) f.k entry.home entry.page home_at entry.there;
          };
          entry = tag.slot % 1022;
          within = omega arith;
          slot = slot_is;
          used = entry.used;
          names = names_by entry.page tag at (subst IsTagPage same one.is.good) slot_is entry.used;
        };
      }
