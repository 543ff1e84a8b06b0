-- A domain stands for the same filesets if a slot comes free of what was removed from it.
use Rattle.std.proofs.Common.{◌≡◌, ◌∙◌, ◌==◌, ⊎_elim, inl, inr, ◌⊎◌, ℕ, Bool, true, false, cond, List, [], Option, Some, None, IfSome, IsSome, IsSomeAnd, Contains, slice_get, refl, sym, ap, subst, true≢false}
use Rattle.std.proofs.lemmas.Bool.{both_ways, eq-eqb, eqb-true}
use Rattle.std.specs.Option.{option_and_then, option_map_or}
use Rattle.domain_changes.specs.domain_base.declared.place.Home.{Home}
use Rattle.domain_changes.specs.domain_base.declared.place.Tag.{Tag}
use Rattle.domain_changes.specs.metadata_cells.Chain.{PlacedCell}
use Rattle.domain_changes.specs.tag_dirs.Directory.{IsDirectoryAt, has_home}
use Rattle.domain_changes.specs.tag_dirs.declared.dir.TagPlace.{TagPlace}
use Rattle.domain_changes.specs.extent_maps.declared.run.PagePlace.TheVariants.{Absent, At}
use Rattle.domain_changes.specs.free_cells.Cells.{Cells, table_of}
use Rattle.domain_changes.specs.free_space.Spaces.{Spaces}
use Rattle.domain_changes.specs.file_chains.Files.{places_of}
use Rattle.domain_changes.specs.fileset_files.Files.{place_at}
use Rattle.domain_changes.specs.fileset_model.Filesets.{FilesetMap}
use Rattle.domain_changes.specs.fileset_values.Orders.{Name}
use Rattle.domain_changes.specs.fileset_model.declared.fileset.FilesetSlot.{FilesetSlot}
use Rattle.domain_changes.specs.fileset_table.Page.{IsTablePage}
use Rattle.domain_changes.specs.fileset_table.Table.{Table, entry_of, with_slot}
use Rattle.domain_changes.specs.fileset_table.declared.slot.FilesetEntry.{FilesetEntry}
use Rattle.domain_changes.specs.fileset_table.declared.slot.SlotItem.{SlotItem}
use Rattle.domain_changes.specs.fileset_table.declared.slot.SlotItem.TheVariants as slot
use Rattle.domain_changes.specs.release_list.Standing.{Files}
use Rattle.domain_changes.proofs.OfReleaseList.Spread.{some_same}
use Rattle.domain_changes.proofs.OfReleaseList.Standings.{place_by}
use Rattle.domain_changes.specs.release_steps.Links.{homes_of}
use Rattle.domain_changes.proofs.OfReleaseSteps.Tags.{named}
use Rattle.domain_changes.specs.domain_layout.CellRules.{of_clone}
use Rattle.domain_changes.specs.domain_layout.DirectoryRules.{IsInItem}
use Rattle.domain_changes.specs.domain_layout.Layout.{first_tag_of}
use Rattle.domain_changes.specs.domain_layout.Reached.{IsWithin}
use Rattle.domain_changes.specs.domain_layout.Seen.{SeenFile}
use Rattle.domain_changes.specs.domain_layout.Shape.{FilesetShape, HasFileset, IsShapeOf}
use Rattle.domain_changes.specs.domain_standing.Chains.{HasFilesAmong, IndexesAt, IsRemoved, StandsInSlot}
use Rattle.domain_changes.specs.domain_standing.Domain.{DomainNow, item_in}
use Rattle.domain_changes.specs.domain_standing.Holders.{Holder, Holds}
use Rattle.domain_changes.specs.domain_standing.Holders.Holder.{of_cells, of_file, of_index, of_table, of_tags, of_volume}
use Rattle.domain_changes.specs.standing_laws.Leads.{StandsBelow}
use Rattle.domain_changes.specs.standing_laws.SlotParents.{HaveParentsIn}
use Rattle.domain_changes.specs.domain_standing.Slots.{StandSlots}
use Rattle.domain_changes.specs.standing_laws.Slots.{StandsSlot}
use Rattle.domain_changes.specs.standing_laws.SlotsStay.{IsPageOfSlot, KeepsSlot}
use Rattle.domain_changes.specs.standing_laws.Sound.{StandsSound}
use Rattle.domain_changes.specs.domain_standing.Sources.{StandAlone}
use Rattle.domain_changes.specs.domain_standing.Standing.{HaveParents, IsMarkedBut, StandsDomain}
use Rattle.domain_changes.proofs.OfStandingLaws.AllStay.{all_stay}
use Rattle.domain_changes.proofs.OfStandingLaws.BitsStay.{bits_stay}
use Rattle.domain_changes.proofs.OfStandingLaws.IndexSpaces.{Among, NoHome, held_still}
use Rattle.domain_changes.proofs.OfStandingLaws.IndexWell.{listed_has}
use Rattle.domain_changes.proofs.OfStandingLaws.ParentsElsewhere.{FilesStay, slot_parents}
use Rattle.domain_changes.proofs.OfStandingLaws.SlotStays.{slot_stays_so}
use Rattle.domain_changes.proofs.OfStandingLaws.SoundKept.{sound_kept}
use Rattle.domain_changes.proofs.OfStandingLaws.SourcesSaid.{alone_by_files, files_alone}
use Rattle.release_changes.specs.Emptying.{FreesSlot}
use Rattle.release_changes.proofs.SlotFree.{are_on, below_freed, freed, item_here as item_freed, item_other as other_freed, moves, number_or_not, page_same, tags_other}

module _ (number group : ℕ) (d now : DomainNow) (files : Files) (indexes : IndexesAt) (below : StandsBelow d files indexes) (s : FreesSlot group number d now) where
  says_it : (home : Home) → d.frame.anchor.table ≡ Some home → IsSomeAnd (now.pages home) (λ page. IsTablePage page (with_slot number slot.Free d.table))
  says_it home at = subst (λ (t : Table). IsSomeAnd (now.pages home) (λ page. IsTablePage page t)) s.table (s.says home at)

  abbrev it : DomainNow
  it = freed d files indexes below number group s.left now.pages now.contents says_it s.others

  tags_is : it.tags ≡ now.tags
  tags_is = λ i n. by_number n (n == number) refl i
    where
      by_number : (n : ℕ) (b : Bool) → (n == number) ≡ b → it.tags n ≡ now.tags n
      by_number n true same = ap (λ (b : Bool). cond b [] (d.tags n)) same ∙ sym s.tags ∙ ap now.tags (sym (eqb-true n number same))
      by_number n false apart = ap (λ (b : Bool). cond b [] (d.tags n)) apart ∙ sym (s.other_tags n (λ same. both_ways (n == number) apart (eq-eqb n number same)))

  it_is : it ≡ now
  it_is = λ i. record now { frame = sym s.frame i; table = sym s.table i; tags = tags_is i; space = sym s.waits i; cells = sym s.cells i; list = sym s.list i }

  pub below_then : StandsBelow now files indexes
  below_then = subst (λ (x : DomainNow). StandsBelow x files indexes) it_is (below_freed d files indexes below number group s.left now.pages now.contents says_it s.others)

  page_then : (holder : Holder) (home : Home) → Holds d files indexes holder home → ¬ holder ≡ of_table → ¬ holder ≡ of_tags number → now.pages home ≡ d.pages home
  page_then = page_same d files indexes below number group s.left now.pages now.contents says_it s.others

  or_not : (n : ℕ) → (n ≡ number) ⊎ (¬ n ≡ number)
  or_not n = number_or_not d files indexes below number group s.left now.pages now.contents says_it s.others n

  item_here : item_in now number ≡ Some slot.Free
  item_here = ap (λ (t : Table). slice_get t.slots number) s.table ∙ item_freed d files indexes below number group s.left now.pages now.contents says_it s.others

  item_other : (n : ℕ) → ¬ n ≡ number → item_in now n ≡ item_in d n
  item_other n differ = ap (λ (t : Table). slice_get t.slots n) s.table ∙ other_freed d files indexes below number group s.left now.pages now.contents says_it s.others n differ

  -- ---- no file comes to be read through another, bits and what rules ask besides

  pub alone_then : StandAlone d → StandAlone now
  alone_then alone = alone_by_files now files indexes below_then (files_alone d files indexes below alone)

  pub bits_then : (space : Spaces) → IsMarkedBut (record d { space = space }) → IsMarkedBut (record now { space = space })
  bits_then = bits_stay d now below.tables s.frame (λ home member first. page_then of_volume home (member, first) (λ e. cc) (λ e. cc))

  pub sound_then : StandsSound d files indexes → StandsSound now files indexes
  sound_then sound = sound_kept d now files indexes sound s.frame (λ vol. ap (λ (c : Cells). table_of c vol) s.cells) tags_were
      (λ home held. page_then of_cells home held (λ e. cc) (λ e. cc)) (λ at k home held. page_then (of_index at k) home held (λ e. cc) (λ e. cc))
    where
      none_in : (home : Home) → has_home [] home ≡ true → ⊥
      none_in home has = true≢false (sym has)

      tags_were : (n : ℕ) (home : Home) → has_home (now.tags n) home ≡ true → (has_home (d.tags n) home ≡ true) ⊎ IsWithin d.frame home
      tags_were n home has = ⊎_elim
          (λ same. absurd (none_in home (subst (λ (ps : List TagPlace). has_home ps home ≡ true) (ap now.tags same ∙ s.tags) has)))
          (λ differ. inl (ap (λ (ps : List TagPlace). has_home ps home) (sym (s.other_tags n differ)) ∙ has))
          (or_not n)

  -- ---- what a page of another slot is held for

  record IsHeldFor (home : Home) : Type 0 where
    holder : Holder
    holds : Holds d files indexes holder home
    no_table : ¬ holder ≡ of_table
    no_tags : ¬ holder ≡ of_tags number

  tag_number : (a b : ℕ) → of_tags a ≡ of_tags b → a ≡ b
  tag_number a b e = cc

  held_for : (n : ℕ) → ¬ n ≡ number → (home : Home) → IsPageOfSlot n d files indexes home → IsHeldFor home
  held_for n differ home of = ⊎_elim
      (λ has. record { holder = of_tags n; holds = has; no_table = λ e. cc; no_tags = λ same. differ (tag_number n number same) })
      (λ rest. ⊎_elim
      (λ f. record { holder = of_file f.0 f.1; holds = f.3; no_table = λ e. cc; no_tags = λ e. cc })
      (λ i. record { holder = of_index i.0 i.1; holds = i.3; no_table = λ e. cc; no_tags = λ e. cc })
      rest)
      of

  slot_page : (n : ℕ) → ¬ n ≡ number → (home : Home) → IsPageOfSlot n d files indexes home → now.pages home ≡ d.pages home
  slot_page n differ home of = let h = held_for n differ home of in page_then h.holder home h.holds h.no_table h.no_tags

  not_gone : (n : ℕ) → ¬ n ≡ number → (home : Home) → IsPageOfSlot n d files indexes home → ¬ Contains (homes_of (d.tags number)) home
  not_gone n differ home of inside = let h = held_for n differ home of in h.no_tags (below.owned.once home h.holder (of_tags number) h.holds (listed_has (d.tags number) home inside))

  -- ---- the filesets

  module _ (bytes : (home : Home) → now.pages home ≡ d.pages home → now.contents home ≡ d.contents home) where
    keeps : (n : ℕ) → ¬ n ≡ number → KeepsSlot n d it files files indexes indexes
    keeps n differ = record {
      item = other_freed d files indexes below number group s.left now.pages now.contents says_it s.others n differ;
      tags = tags_other d files indexes below number group s.left now.pages now.contents says_it s.others n differ;
      chains = λ at of. refl;
      quotas = λ at quota. refl;
      homes = λ at of. refl;
      pages = λ home of. slot_page n differ home of;
      held = λ home of from is. held_still NoHome (Among (homes_of (d.tags number))) d.space it.space (moves d files indexes below number group s.left now.pages now.contents says_it s.others) home from (not_gone n differ home of) is;
      bytes = λ home of. bytes home (slot_page n differ home (inr (inl of)));
    }

    stays : (n : ℕ) → ¬ n ≡ number → (entry : FilesetEntry) (shape : FilesetShape) (fileset : FilesetSlot) → item_in d n ≡ Some (slot.Original entry) → StandsSlot d n entry shape fileset → StandsSlot now n entry shape fileset
    stays n differ entry shape fileset there stood =
        subst (λ (x : DomainNow). StandsSlot x n entry shape fileset) it_is
        (slot_stays_so n d it files files indexes indexes below (below_freed d files indexes below number group s.left now.pages now.contents says_it s.others) (keeps n differ) entry shape fileset there stood)

    -- an original is in another slot
    not_own : (n : ℕ) (entry : FilesetEntry) → item_in d n ≡ Some (slot.Original entry) → ¬ n ≡ number
    not_own n entry there same = other_item (some_same (slot.Original entry) (slot.Removed s.left.first_tag None) (sym there ∙ ap (item_in d) same ∙ s.left.was))
      where
        other_item : slot.Original entry ≡ slot.Removed s.left.first_tag None → ⊥
        other_item e = cc

    -- the domain but for the table, which has the slot still
    abbrev before : DomainNow
    before = record now { table = d.table }

    module _ (all : FilesetMap) (slots : StandSlots d all) where
      were : StandSlots before all
      were = all_stay d before all slots refl (λ n entry shape fileset there stood. let it_stands = stays n (not_own n entry there) entry shape fileset there stood in record { is = it_stands.is; filled = it_stands.filled; set = it_stands.set })

      each_other : (n : ℕ) (item : SlotItem) → item_in d n ≡ Some item → IfSome (entry_of item) (λ entry. IsShapeOf now.pages now.table n item (were.shapes entry.name))
      each_other n slot.Free there = tt
      each_other n (slot.Original entry) there = were.are.each n (slot.Original entry) there
      each_other n (slot.Clone of clone entry) there = absurd (true≢false (ap of_clone (sym there) ∙ slots.no_clone n))
      each_other n (slot.Removed first_tag quota) there = tt

      each_now : (n : ℕ) (item : SlotItem) → item_in now n ≡ Some item → IfSome (entry_of item) (λ entry. IsShapeOf now.pages now.table n item (were.shapes entry.name))
      each_now n item there = ⊎_elim
          (λ same. subst (λ (x : SlotItem). IfSome (entry_of x) (λ entry. IsShapeOf now.pages now.table n x (were.shapes entry.name))) (some_same slot.Free item (sym item_here ∙ ap (item_in now) (sym same) ∙ there)) tt)
          (λ differ. each_other n item (sym (item_other n differ) ∙ there))
          (or_not n)

      only_now : (name : Name) → IsSome (were.shapes name) → HasFileset now.table name
      only_now name some = by_number (were.are.only name some)
        where
          none_named : (item : SlotItem) → item_in d number ≡ Some item → IsSomeAnd (entry_of item) (λ entry. entry.name ≡ name) → ⊥
          none_named item there is_named =
              subst (λ (x : SlotItem). IsSomeAnd (entry_of x) (λ entry. entry.name ≡ name)) (some_same item (slot.Removed s.left.first_tag None) (sym there ∙ s.left.was)) is_named

          by_number : HasFileset d.table name → HasFileset now.table name
          by_number h = ⊎_elim
              (λ same. absurd (none_named h.item (ap (item_in d) (sym same) ∙ h.there) h.named))
              (λ differ. record { number = h.number; item = h.item; there = item_other h.number differ ∙ h.there; named = h.named })
              (or_not h.number)

      no_clone_now : (n : ℕ) → of_clone (item_in now n) ≡ false
      no_clone_now n = ⊎_elim
          (λ same. ap (λ (k : ℕ). of_clone (item_in now k)) same ∙ ap of_clone item_here)
          (λ differ. ap of_clone (item_other n differ) ∙ slots.no_clone n)
          (or_not n)

      -- an original in the table now was in it
      original_was : (n : ℕ) (entry : FilesetEntry) → item_in now n ≡ Some (slot.Original entry) → item_in d n ≡ Some (slot.Original entry)
      original_was n entry there = ⊎_elim
          (λ same. absurd (free_not (some_same slot.Free (slot.Original entry) (sym item_here ∙ ap (item_in now) (sym same) ∙ there))))
          (λ differ. sym (item_other n differ) ∙ there)
          (or_not n)
        where
          free_not : slot.Free ≡ slot.Original entry → ⊥
          free_not e = cc

      pub slots_then : StandSlots now all
      slots_then = record {
        shapes = were.shapes;
        are = record { each = each_now; only = only_now };
        filled = were.filled;
        sets = λ n entry shape there some. were.sets n entry shape (original_was n entry there) some;
        no_clone = no_clone_now;
      }

      -- ---- parents

      files_in : (n : ℕ) (entry : FilesetEntry) → item_in d n ≡ Some (slot.Original entry) → HasFilesAmong d files n
      files_in n entry there = ⊎_elim (λ has. has) (λ empty. absurd (subst IsRemoved there empty.removed)) (subst (λ o. StandsInSlot d files n (option_and_then first_tag_of o)) there (below.chains.slots n))

      page_of_file : (n : ℕ) (has : HasFilesAmong d files n) (tag : Tag) (page : ℕ) (home : Home) → place_at has.chains tag page ≡ At home → now.pages home ≡ d.pages home
      page_of_file n has tag page home at = by_chain (has.chains tag) refl at
        where
          absent_not : Absent ≡ At home → ⊥
          absent_not e = cc

          by_chain : (o : Option (List PlacedCell)) → has.chains tag ≡ o → option_map_or (λ cs. places_of cs page) o Absent ≡ At home → now.pages home ≡ d.pages home
          by_chain None there at = absurd (absent_not at)
          by_chain (Some cs) there at =
              let name = named files has.chains tag cs there (has.among.same tag) in
              page_then (of_file name.at page) home (place_by files name.at cs page name.is ∙ at) (λ e. cc) (λ e. cc)

      stay : (n : ℕ) → ¬ n ≡ number → (entry : FilesetEntry) → item_in now n ≡ Some (slot.Original entry) → FilesStay n d now entry
      stay n differ entry there =
          let was = original_was n entry there in
          let has = files_in n entry was in
          record {
            entry = entry;
            there = was;
            chains = has.chains;
            begins = below.tables.laid.tags n (slot.Original entry) was;
            begins_now = subst (IsDirectoryAt now.pages entry.first_tag) (s.other_tags n differ) (below_then.tables.laid.tags n (slot.Original entry) there);
            are = has.are;
            are_now = are_on d files indexes below number group s.left now.pages now.contents says_it s.others n differ has;
            same = page_of_file n has;
          }

      -- nothing is at a tag of what is free
      none_there : (item : SlotItem) (tag : Tag) (cells : List PlacedCell) (seen : SeenFile) → item_in now number ≡ Some item → IsInItem now.pages now.table item tag cells seen → ⊥
      none_there item tag cells seen there is = subst (λ (x : SlotItem). IsInItem now.pages now.table x tag cells seen) (some_same item slot.Free (sym there ∙ item_here)) is

      own_parents : HaveParentsIn number now
      own_parents tag cells seen has directory wrong = none_there has.item tag cells seen has.there has.is

      pub parents_then : HaveParents d → HaveParents now
      parents_then parents n = ⊎_elim
          (λ same. subst (λ (k : ℕ). HaveParentsIn k now) (sym same) own_parents)
          (λ differ. slot_parents d now n s.frame (no_clone_now n) (stay n differ) (parents n))
          (or_not n)

-- ---- the domain

module _ (number group : ℕ) (d now : DomainNow) (s : FreesSlot group number d now) (bytes : (home : Home) → now.pages home ≡ d.pages home → now.contents home ≡ d.contents home) (all : FilesetMap) (stands : StandsDomain d all) where
  below_all : StandsBelow d stands.files stands.indexes
  below_all = record { tables = stands.tables; chains = stands.chains; owned = stands.owned; rest = stands.rest }

  after : StandsBelow now stands.files stands.indexes
  after = below_then number group d now stands.files stands.indexes below_all s

  pub domain_then : StandsDomain now all
  domain_then = record {
    tables = after.tables;
    files = stands.files;
    indexes = stands.indexes;
    chains = after.chains;
    owned = after.owned;
    rest = after.rest;
    slots = slots_then number group d now stands.files stands.indexes below_all s bytes all stands.slots;
  }

  pub have_parents : HaveParents d → HaveParents now
  have_parents = parents_then number group d now stands.files stands.indexes below_all s bytes all stands.slots
