-- A domain stands for the same filesets where of quota cells of what is being removed one goes, and all else
-- of other slots stays as it was.
use Rattle.std.proofs.Common.{◌≡◌, ◌∙◌, ◌==◌, ◌∷◌, ◌⊎◌, inl, inr, ℕ, true, false, List, [], Option, Some, None, IfSome, IsSome, IsSomeAnd, refl, sym, ap, subst, arith, ⊎_elim}
use Rattle.std.proofs.lemmas.Bool.{both_ways, cases_Bool, eq-eqb, eqb-true, true≢false}
use Rattle.std.specs.Option.{option_and_then, option_map_or}
use Rattle.standing_laws.specs.domain_base.declared.place.CellAt.{CellAt}
use Rattle.standing_laws.specs.domain_base.declared.place.Home.{Home}
use Rattle.standing_laws.specs.domain_base.declared.place.Tag.{Tag}
use Rattle.standing_laws.specs.metadata_cells.Chain.{PlacedCell}
use Rattle.standing_laws.specs.tag_dirs.Directory.{IsDirectoryAt, cell_of, has_home}
use Rattle.standing_laws.specs.tag_dirs.declared.dir.TagPlace.{TagPlace}
use Rattle.standing_laws.specs.extent_maps.declared.run.PagePlace.TheVariants.{Absent, At}
use Rattle.standing_laws.specs.file_chains.Files.{IsFile, places_of}
use Rattle.standing_laws.specs.fileset_files.Files.{AreFiles, LeadsToFile, first_record, place_at}
use Rattle.standing_laws.specs.fileset_model.Filesets.{FilesetMap}
use Rattle.standing_laws.specs.fileset_values.Orders.{Name}
use Rattle.standing_laws.specs.fileset_model.declared.fileset.FilesetSlot.{FilesetSlot}
use Rattle.standing_laws.specs.fileset_table.Table.{entry_of}
use Rattle.standing_laws.specs.fileset_table.declared.slot.FilesetEntry.{FilesetEntry}
use Rattle.standing_laws.specs.fileset_table.declared.slot.SlotItem.{SlotItem}
use Rattle.standing_laws.specs.fileset_table.declared.slot.SlotItem.TheVariants as slot
use Rattle.standing_laws.specs.free_space.Spaces.{IsHeld, Spaces}
use Rattle.standing_laws.specs.release_list.Standing.{Files}
use Rattle.standing_laws.proofs.OfReleaseList.Spread.{none_not}
use Rattle.standing_laws.proofs.OfReleaseList.Standings.{is_file, place_by, quota_first, standing}
use Rattle.standing_laws.proofs.OfReleaseSteps.StillAmong.{file_of_tag}
use Rattle.standing_laws.proofs.OfReleaseSteps.Tags.{has_attributes, named}
use Rattle.standing_laws.specs.domain_layout.CellRules.{of_clone}
use Rattle.standing_laws.specs.domain_layout.DirectoryRules.{IsInItem}
use Rattle.standing_laws.specs.domain_layout.Layout.{first_tag_of}
use Rattle.standing_laws.specs.domain_layout.Seen.{SeenFile}
use Rattle.standing_laws.specs.domain_layout.Shape.{FilesetShape, HasFileset, IsShapeOf}
use Rattle.standing_laws.specs.domain_standing.Chains.{AreQuotasOf, HasFilesAmong, IndexesAt, IsQuotaOf, IsRemoved, StandsInSlot}
use Rattle.standing_laws.specs.domain_standing.Domain.{DomainNow, item_in, named_by}
use Rattle.standing_laws.specs.domain_standing.Holders.{Holder, Holds}
use Rattle.standing_laws.specs.domain_standing.Holders.Holder.{of_cells, of_file, of_index, of_table, of_tags, of_volume}
use Rattle.standing_laws.specs.domain_standing.Slots.{StandSlots}
use Rattle.standing_laws.specs.Slots.{StandsSlot}
use Rattle.standing_laws.specs.domain_standing.Standing.{HaveParents, IsMarkedBut}
use Rattle.standing_laws.specs.Leads.{StandsBelow}
use Rattle.standing_laws.specs.SlotParents.{HaveParentsIn}
use Rattle.standing_laws.specs.SlotsStay.{IsPageOfSlot, IsTaggedBy, KeepsSlot}
use Rattle.standing_laws.proofs.AllStay.{all_stay}
use Rattle.standing_laws.proofs.BitsStay.{bits_stay}
use Rattle.standing_laws.proofs.ParentsElsewhere.{FilesStay, slot_parents}
use Rattle.standing_laws.proofs.SlotStays.{slot_stays_so}
use Rattle.standing_laws.proofs.OfFilesetFiles.Tags.{cell_same, directory_same, pages_same}
use Rattle.release_laws.proofs.QuotasListed.{one_slot}

number_or_not : (n number : ℕ) → (n ≡ number) ⊎ (¬ n ≡ number)
number_or_not n number = ⊎_elim
    (λ same. inl (eqb-true n number same))
    (λ apart. inr (λ same. both_ways (n == number) apart (eq-eqb n number same)))
    (cases_Bool (n == number))

-- what is in a slot is being removed: no original, and no clone
removed_no_clone : (o : Option SlotItem) → IsRemoved o → of_clone o ≡ false
removed_no_clone None is = absurd is
removed_no_clone (Some slot.Free) is = absurd is
removed_no_clone (Some (slot.Original entry)) is = absurd is
removed_no_clone (Some (slot.Clone of clone entry)) is = absurd is
removed_no_clone (Some (slot.Removed first_tag quota)) is = refl

-- of a change in which quota cells of a slot go, all that other slots have is as it was
pub record LeavesSlots (number : ℕ) (at : CellAt) (d now : DomainNow) (files files_now : Files) (indexes : IndexesAt) : Type 0 where
  pub quota : IsQuotaOf d number at
  pub was : IsRemoved (item_in d number)
  pub is : IsRemoved (item_in now number)
  pub items : (n : ℕ) → ¬ n ≡ number → item_in now n ≡ item_in d n
  pub stays : (a : CellAt) → ¬ a ≡ at → files_now a ≡ files a
  pub frame : now.frame ≡ d.frame
  pub tags : now.tags ≡ d.tags
  pub space : now.space ≡ d.space
  pub pages : (holder : Holder) (home : Home) → Holds d files indexes holder home → ¬ holder ≡ of_table → ¬ holder ≡ of_cells → now.pages home ≡ d.pages home
  pub bytes : (holder : Holder) (home : Home) → Holds d files indexes holder home → ¬ holder ≡ of_table → ¬ holder ≡ of_cells → now.contents home ≡ d.contents home

module _ (number : ℕ) (at : CellAt) (d now : DomainNow) (files files_now : Files) (indexes : IndexesAt) (below : StandsBelow d files indexes) (after : StandsBelow now files_now indexes) (s : LeavesSlots number at d now files files_now indexes) where
  pub bits_left : (space : Spaces) → IsMarkedBut (record d { space = space }) → IsMarkedBut (record now { space = space })
  bits_left = bits_stay d now below.tables s.frame (λ home member first. s.pages of_volume home (member, first) (λ e. cc) (λ e. cc))

  bare : (cs : List PlacedCell) → files at ≡ Some cs → first_record 1 cs ≡ None
  bare cs is =
      let are = subst (λ o. IsSomeAnd o (AreQuotasOf d number at)) is (below.chains.quotas number at s.quota) in
      quota_first d.pages at cs are.quotas 1 (λ e. omega (arith, e)) (λ e. omega (arith, e))

  -- ---- what a slot has

  record IsHeldFor (home : Home) : Type 0 where
    holder : Holder
    holds : Holds d files indexes holder home
    no_table : ¬ holder ≡ of_table
    no_cells : ¬ holder ≡ of_cells

  held_for : (n : ℕ) (home : Home) → IsPageOfSlot n d files indexes home → IsHeldFor home
  held_for n home of = ⊎_elim
      (λ has. record { holder = of_tags n; holds = has; no_table = λ e. cc; no_cells = λ e. cc })
      (λ rest. ⊎_elim
      (λ f. record { holder = of_file f.0 f.1; holds = f.3; no_table = λ e. cc; no_cells = λ e. cc })
      (λ i. record { holder = of_index i.0 i.1; holds = i.3; no_table = λ e. cc; no_cells = λ e. cc })
      rest)
      of

  slot_page : (n : ℕ) (home : Home) → IsPageOfSlot n d files indexes home → now.pages home ≡ d.pages home
  slot_page n home of = let h = held_for n home of in s.pages h.holder home h.holds h.no_table h.no_cells

  slot_bytes : (n : ℕ) (home : Home) → IsPageOfSlot n d files indexes home → now.contents home ≡ d.contents home
  slot_bytes n home of = let h = held_for n home of in s.bytes h.holder home h.holds h.no_table h.no_cells

  -- no tag leads to the quota cells
  tag_elsewhere : (n : ℕ) (a : CellAt) → IsTaggedBy n d a → ¬ a ≡ at
  tag_elsewhere n a (tag, leads) same = by_slot (named_by first_tag_of d n) (below.chains.slots n)
    where
      in_files : HasFilesAmong d files n → ⊥
      in_files has = by_chain (has.chains tag) refl
        where
          by_list : (cs : List PlacedCell) → has.chains tag ≡ Some cs → IsFile d.pages a cs → ⊥
          by_list [] is file = file
          by_list (first ∷ rest) is file =
              let there = file_of_tag files has.chains tag (first ∷ rest) a (has.among.same tag) is (ap Some file.0) in
              has_attributes d.pages a (first ∷ rest) file (bare (first ∷ rest) (ap files (sym same) ∙ there))

          by_chain : (o : Option (List PlacedCell)) → has.chains tag ≡ o → ⊥
          by_chain None is = none_not a (sym (has.are.none tag is) ∙ leads)
          by_chain (Some cs) is = by_list cs is (subst (λ o. IsSomeAnd o (λ at. IsFile d.pages at cs)) leads (subst (λ o. IfSome o (LeadsToFile n (d.tags n) d.pages tag)) is (has.are.some tag)).leads)

      by_slot : (o : Option Home) → StandsInSlot d files n o → ⊥
      by_slot None empty = none_not a (sym (ap (λ (ps : List TagPlace). cell_of d.pages ps tag) empty) ∙ leads)
      by_slot (Some first) in_slot = ⊎_elim in_files (λ e. none_not a (sym (e.none tag) ∙ leads)) in_slot

  -- an original is in another slot
  not_own : (n : ℕ) (entry : FilesetEntry) → item_in d n ≡ Some (slot.Original entry) → ¬ n ≡ number
  not_own n entry there same = subst IsRemoved (ap (item_in d) (sym same) ∙ there) s.was

  keeps_slot : (n : ℕ) → ¬ n ≡ number → KeepsSlot n d now files files_now indexes indexes
  keeps_slot n differ = record {
    item = s.items n differ;
    tags = ap (λ (ts : ℕ → List TagPlace). ts n) s.tags;
    chains = λ a of. s.stays a (tag_elsewhere n a of);
    quotas = λ a is. s.stays a (λ same. differ (one_slot d files indexes below n number at (is ∙ ap Some same) s.quota));
    homes = λ a of. refl;
    pages = λ home of. slot_page n home of;
    held = λ home of low is. subst (λ (x : Spaces). IsHeld x home.vol home.page) (sym s.space) is;
    bytes = λ home of. slot_bytes n home (inr (inl of));
  }

  slot_stays : (n : ℕ) → ¬ n ≡ number → (entry : FilesetEntry) (shape : FilesetShape) (fileset : FilesetSlot) → item_in d n ≡ Some (slot.Original entry) → StandsSlot d n entry shape fileset → StandsSlot now n entry shape fileset
  slot_stays n differ = slot_stays_so n d now files files_now indexes indexes below after (keeps_slot n differ)

  -- the domain but for the table, in which the slot names its quota cells still
  abbrev unsaid : DomainNow
  unsaid = record now { table = d.table }

  module _ (all : FilesetMap) (slots : StandSlots d all) where
    were : StandSlots unsaid all
    were = all_stay d unsaid all slots refl (λ n entry shape fileset there stood. let stands = slot_stays n (not_own n entry there) entry shape fileset there stood in record { is = stands.is; filled = stands.filled; set = stands.set })

    each_other : (n : ℕ) (item : SlotItem) → item_in d n ≡ Some item → IfSome (entry_of item) (λ entry. IsShapeOf now.pages now.table n item (were.shapes entry.name))
    each_other n slot.Free there = tt
    each_other n (slot.Original entry) there = were.are.each n (slot.Original entry) there
    each_other n (slot.Clone of clone entry) there = absurd (true≢false (ap of_clone (sym there) ∙ slots.no_clone n))
    each_other n (slot.Removed first_tag its) there = tt

    -- what is being removed has no shape
    none_shown : (item : SlotItem) → item_in now number ≡ Some item → IfSome (entry_of item) (λ entry. IsShapeOf now.pages now.table number item (were.shapes entry.name))
    none_shown slot.Free there = tt
    none_shown (slot.Original entry) there = absurd (subst IsRemoved there s.is)
    none_shown (slot.Clone of clone entry) there = absurd (subst IsRemoved there s.is)
    none_shown (slot.Removed first_tag quota) there = tt

    each_now : (n : ℕ) (item : SlotItem) → item_in now n ≡ Some item → IfSome (entry_of item) (λ entry. IsShapeOf now.pages now.table n item (were.shapes entry.name))
    each_now n item there = ⊎_elim
        (λ same. subst (λ (k : ℕ). IfSome (entry_of item) (λ entry. IsShapeOf now.pages now.table k item (were.shapes entry.name))) (sym same) (none_shown item (ap (item_in now) (sym same) ∙ there)))
        (λ differ. each_other n item (sym (s.items n differ) ∙ there))
        (number_or_not n number)

    only_now : (name : Name) → IsSome (were.shapes name) → HasFileset now.table name
    only_now name some = by_number (were.are.only name some)
      where
        none_named : (item : SlotItem) → item_in d number ≡ Some item → IsSomeAnd (entry_of item) (λ entry. entry.name ≡ name) → ⊥
        none_named slot.Free there is_named = is_named
        none_named (slot.Original entry) there is_named = subst IsRemoved there s.was
        none_named (slot.Clone of clone entry) there is_named = subst IsRemoved there s.was
        none_named (slot.Removed first_tag quota) there is_named = is_named

        by_number : HasFileset d.table name → HasFileset now.table name
        by_number h = ⊎_elim
            (λ same. absurd (none_named h.item (ap (item_in d) (sym same) ∙ h.there) h.named))
            (λ differ. record { number = h.number; item = h.item; there = s.items h.number differ ∙ h.there; named = h.named })
            (number_or_not h.number number)

    no_clone_now : (n : ℕ) → of_clone (item_in now n) ≡ false
    no_clone_now n = ⊎_elim
        (λ same. ap (λ (k : ℕ). of_clone (item_in now k)) same ∙ removed_no_clone (item_in now number) s.is)
        (λ differ. ap of_clone (s.items n differ) ∙ slots.no_clone n)
        (number_or_not n number)

    -- an original in the table now was in it
    was_original : (n : ℕ) (entry : FilesetEntry) → item_in now n ≡ Some (slot.Original entry) → item_in d n ≡ Some (slot.Original entry)
    was_original n entry there = ⊎_elim
        (λ same. absurd (subst IsRemoved (ap (item_in now) (sym same) ∙ there) s.is))
        (λ differ. sym (s.items n differ) ∙ there)
        (number_or_not n number)

    pub slots_left : StandSlots now all
    slots_left = record {
      shapes = were.shapes;
      are = record { each = each_now; only = only_now };
      filled = were.filled;
      sets = λ n entry shape there some. were.sets n entry shape (was_original n entry there) some;
      no_clone = no_clone_now;
    }

    -- ---- parents

    files_in : (n : ℕ) (entry : FilesetEntry) → item_in d n ≡ Some (slot.Original entry) → HasFilesAmong d files n
    files_in n entry there = ⊎_elim (λ has. has) (λ empty. absurd (subst IsRemoved there empty.removed)) (subst (λ o. StandsInSlot d files n (option_and_then first_tag_of o)) there (below.chains.slots n))

    page_of_file : (n : ℕ) (has : HasFilesAmong d files n) (tag : Tag) (page : ℕ) (home : Home) → place_at has.chains tag page ≡ At home → now.pages home ≡ d.pages home
    page_of_file n has tag page home at = by_chain (has.chains tag) refl at
      where
        absent_not : Absent ≡ At home → ⊥
        absent_not e = cc

        by_chain : (o : Option (List PlacedCell)) → has.chains tag ≡ o → option_map_or (λ cs. places_of cs page) o Absent ≡ At home → now.pages home ≡ d.pages home
        by_chain None there at = absurd (absent_not at)
        by_chain (Some cs) there at =
            let name = named files has.chains tag cs there (has.among.same tag) in
            s.pages (of_file name.at page) home (place_by files name.at cs page name.is ∙ at) (λ e. cc) (λ e. cc)

    tag_page : (n : ℕ) (home : Home) → has_home (d.tags n) home ≡ true → now.pages home ≡ d.pages home
    tag_page n home has = s.pages (of_tags n) home has (λ e. cc) (λ e. cc)

    files_still : (n : ℕ) (has : HasFilesAmong d files n) → AreFiles n (d.tags n) now.pages has.chains
    files_still n has = record {
      directory = directory_same d.pages now.pages (d.tags n) has.are.directory (pages_same d.pages now.pages (d.tags n) (tag_page n));
      none = λ tag is. cells_lead tag ∙ has.are.none tag is;
      some = λ tag. by_chain tag (has.chains tag) refl (has.are.some tag);
      apart = has.are.apart;
    }
      where
        cells_lead : (tag : Tag) → cell_of now.pages (d.tags n) tag ≡ cell_of d.pages (d.tags n) tag
        cells_lead tag = cell_same d.pages now.pages (d.tags n) has.are.directory (pages_same d.pages now.pages (d.tags n) (tag_page n)) tag

        at_start : (tag : Tag) (a : CellAt) (cs : List PlacedCell) → has.chains tag ≡ Some cs → cell_of d.pages (d.tags n) tag ≡ Some a → IsFile d.pages a cs → IsFile now.pages a cs
        at_start tag a [] is leads file = absurd file
        at_start tag a (first ∷ rest) is leads file =
            let there = file_of_tag files has.chains tag (first ∷ rest) a (has.among.same tag) is (ap Some file.0) in
            let there_now : files_now a ≡ Some (first ∷ rest) = s.stays a (tag_elsewhere n a (tag, leads)) ∙ there in
            is_file now.pages a (first ∷ rest) (standing now.space now.cells now.pages files_now after.chains.well.together a (first ∷ rest) there_now).stands 1 (λ e. omega (arith, e)) (λ e. omega (arith, e)) (has_attributes d.pages a (first ∷ rest) file)

        by_cell : (tag : Tag) (cs : List PlacedCell) → has.chains tag ≡ Some cs → (o : Option CellAt) → cell_of d.pages (d.tags n) tag ≡ o → IsSomeAnd o (λ a. IsFile d.pages a cs) → IsSomeAnd o (λ a. IsFile now.pages a cs)
        by_cell tag cs is None leads file = file
        by_cell tag cs is (Some a) leads file = at_start tag a cs is leads file

        by_chain : (tag : Tag) (o : Option (List PlacedCell)) → has.chains tag ≡ o → IfSome o (LeadsToFile n (d.tags n) d.pages tag) → IfSome o (LeadsToFile n (d.tags n) now.pages tag)
        by_chain tag None is was = tt
        by_chain tag (Some cs) is was = record {
          leads = subst (λ o. IsSomeAnd o (λ a. IsFile now.pages a cs)) (sym (cells_lead tag)) (by_cell tag cs is (cell_of d.pages (d.tags n) tag) refl was.leads);
          is_of = was.is_of;
          kinds = was.kinds;
        }

    slot_same : (n : ℕ) → ¬ n ≡ number → (entry : FilesetEntry) → item_in now n ≡ Some (slot.Original entry) → FilesStay n d now entry
    slot_same n differ entry there =
        let was = was_original n entry there in
        let has = files_in n entry was in
        record {
          entry = entry;
          there = was;
          chains = has.chains;
          begins = below.tables.laid.tags n (slot.Original entry) was;
          begins_now = subst (IsDirectoryAt now.pages entry.first_tag) (ap (λ (ts : ℕ → List TagPlace). ts n) s.tags) (after.tables.laid.tags n (slot.Original entry) there);
          are = has.are;
          are_now = files_still n has;
          same = page_of_file n has;
        }

    -- nothing is at a tag of what is being removed
    none_there : (item : SlotItem) (tag : Tag) (cells : List PlacedCell) (seen : SeenFile) → item_in now number ≡ Some item → IsInItem now.pages now.table item tag cells seen → ⊥
    none_there slot.Free tag cells seen there is = is
    none_there (slot.Original entry) tag cells seen there is = subst IsRemoved there s.is
    none_there (slot.Clone of clone entry) tag cells seen there is = subst IsRemoved there s.is
    none_there (slot.Removed first_tag quota) tag cells seen there is = is

    own_parents : HaveParentsIn number now
    own_parents tag cells seen has directory wrong = none_there has.item tag cells seen has.there has.is

    pub parents_left : HaveParents d → HaveParents now
    parents_left parents n = ⊎_elim
        (λ same. subst (λ (k : ℕ). HaveParentsIn k now) (sym same) own_parents)
        (λ differ. slot_parents d now n s.frame (no_clone_now n) (slot_same n differ) (parents n))
        (number_or_not n number)
