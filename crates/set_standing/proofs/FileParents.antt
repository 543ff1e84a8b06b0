-- Directories of a slot say the ones in which they stand where one of its files changes.
use Rattle.std.proofs.Common.{◌≡◌, ◌∙◌, ℕ, Bool, true, false, List, Option, Some, IsSomeAnd, inl, inr, slice_get, refl, sym, ap, subst, ⊎_elim}
use Rattle.std.specs.Option.{option_map_or}
use Rattle.standing_laws.specs.domain_base.declared.place.Home.{Home}
use Rattle.standing_laws.specs.domain_base.declared.place.Kind.TheVariants.{Directory, File}
use Rattle.standing_laws.specs.domain_base.declared.place.Tag.{Tag}
use Rattle.standing_laws.specs.page_store.Bitfiles.{same_tag}
use Rattle.standing_laws.specs.metadata_cells.Chain.{PlacedCell}
use Rattle.standing_laws.specs.tag_dirs.Directory.{IsDirectoryAt}
use Rattle.standing_laws.specs.extent_maps.declared.run.PagePlace.TheVariants.{Absent, At}
use Rattle.standing_laws.specs.file_chains.Files.{places_of}
use Rattle.standing_laws.specs.fileset_files.declared.attributes.Attributes.{Attributes}
use Rattle.standing_laws.specs.fileset_files.Files.{AreFiles, Chains, attributes_of, of_live, place_at}
use Rattle.standing_laws.proofs.OfFilesetFiles.OneFile.{tags_same}
use Rattle.standing_laws.specs.fileset_table.Table.{Table}
use Rattle.standing_laws.specs.fileset_table.declared.slot.FilesetEntry.{FilesetEntry}
use Rattle.standing_laws.specs.fileset_table.declared.slot.SlotItem.{SlotItem}
use Rattle.standing_laws.specs.fileset_table.declared.slot.SlotItem.TheVariants as slot
use Rattle.standing_laws.proofs.OfReleaseList.Spread.{some_same}
use Rattle.standing_laws.proofs.OfDomainLayout.Reached.{same_number}
use Rattle.standing_laws.specs.domain_layout.DirectoryRules.{Has, IsInItem, IsInOriginal, IsRow, RowPlace}
use Rattle.standing_laws.specs.domain_layout.Seen.{SeenFile}
use Rattle.standing_laws.specs.domain_standing.Domain.{DomainNow, item_in}
use Rattle.standing_laws.specs.domain_standing.Standing.{HaveParents}
use Rattle.standing_laws.specs.Leads.{IsLiveOf}
use Rattle.standing_laws.specs.SlotParents.{HaveParentsIn, StandsForSome}
use Rattle.standing_laws.proofs.OtherSlots.{seen_place}
use Rattle.standing_laws.proofs.ParentsElsewhere.{chain_at, in_original}
use Rattle.set_standing.specs.Beside.{StaysBeside}
use Rattle.set_standing.proofs.FilesKept.{seen_says}

module _ (number : ℕ) (entry : FilesetEntry) (tag : Tag) (d now : DomainNow) (beside : StaysBeside number d now) (there : item_in d number ≡ Some (slot.Original entry)) (begins : IsDirectoryAt d.pages entry.first_tag (d.tags number)) (begins_now : IsDirectoryAt now.pages entry.first_tag (d.tags number))
    (chains chains_now : Chains) (are : AreFiles number (d.tags number) d.pages chains) (are_now : AreFiles number (d.tags number) now.pages chains_now) (others : (t : Tag) → same_tag t tag ≡ false → chains_now t ≡ chains t) (live : IsLiveOf File (chains_now tag))
    (pages : (t : Tag) (k : ℕ) (home : Home) → same_tag t tag ≡ false → place_at chains t k ≡ At home → now.pages home ≡ d.pages home)
  where
    -- a directory was there, with pages that are as they were
    record WasHere (at : Tag) (cells : List PlacedCell) (seen : SeenFile) : Type 0 where
      has : Has d.pages d.table number at cells seen
      same : (page : ℕ) (home : Home) → seen.homes page ≡ Some home → now.pages home ≡ d.pages home

    item_now : item_in now number ≡ Some (slot.Original entry)
    item_now = ap (λ (t : Table). slice_get t.slots number) beside.table ∙ there

    in_slot : (at : Tag) (cells : List PlacedCell) (seen : SeenFile) → IsInOriginal now.pages entry at cells seen → seen.is.kind ≡ Directory → WasHere at cells seen
    in_slot at cells seen is directory = by_tag (same_tag at tag) refl
      where
        chain : chains_now at ≡ Some cells
        chain = chain_at number entry now.pages (d.tags number) chains_now begins_now are_now at cells seen is

        not_file : (o : Option Attributes) → o ≡ Some seen.is → IsSomeAnd o (λ a. a.kind ≡ File) → ⊥
        not_file o said file =
            let k : seen.is.kind ≡ File = subst (λ o. IsSomeAnd o (λ (a : Attributes). a.kind ≡ File)) said file in
            let e : File ≡ Directory = sym k ∙ directory in cc

        by_tag : (b : Bool) → same_tag at tag ≡ b → WasHere at cells seen
        by_tag true same = absurd (not_file (of_live attributes_of cells) (seen_says cells seen is.is) (subst (IsLiveOf File) (ap chains_now (sym (tags_same at tag same)) ∙ chain) live))
        by_tag false differ =
            let was = sym (others at differ) ∙ chain in
            record {
              has = record {
                item = slot.Original entry;
                there = there;
                is = record { there = record { places = d.tags number; directory = begins; leads = in_original number entry d.pages (d.tags number) chains begins are at cells was }; is = is.is };
              };
              same = λ page home stands. pages at page home differ (ap (λ o. option_map_or (λ (cs : List PlacedCell). places_of cs page) o Absent) was ∙ seen_place cells seen page home stands is.is);
            }

    was_here : (at : Tag) (cells : List PlacedCell) (seen : SeenFile) → Has now.pages now.table number at cells seen → seen.is.kind ≡ Directory → WasHere at cells seen
    was_here at cells seen h directory =
        in_slot at cells seen (subst (λ (i : SlotItem). IsInItem now.pages now.table i at cells seen) (some_same h.item (slot.Original entry) (sym h.there ∙ item_now)) h.is) directory

    row_was : (at : RowPlace) (row : _) (home : Home) → IsRow now.pages d.frame now.table number at row home → IsRow d.pages d.frame d.table number at row home
    row_was at row home is =
        let page = is.is in
        let w = was_here at.dir page.cells page.seen page.has page.kind in
        record {
          bytes = is.bytes;
          is = record { cells = page.cells; seen = page.seen; has = w.has; kind = page.kind; at = page.at; within = page.within; there = sym (w.same at.page home page.at) ∙ page.there };
          good = is.good;
          there = is.there;
        }

    right_here : HaveParentsIn number d → HaveParentsIn number (record now { frame = d.frame })
    right_here parents at cells seen h directory wrong =
        parents at cells seen (was_here at cells seen h directory).has directory
        (record {
          parent = wrong.parent;
          is = ⊎_elim
              (λ root. inl root)
              (λ r. inr (r.0, r.1, r.2, row_was r.0 r.1 r.2 r.3, r.4, r.5, r.6, r.7))
              wrong.is;
          wrong = wrong.wrong;
        })

    pub own_parents : HaveParentsIn number d → HaveParentsIn number now
    own_parents parents = subst (HaveParentsIn number) (λ i. record now { frame = sym beside.frame i }) (right_here parents)

    -- and so do those of all slots
    pub file_parents : ((other : ℕ) → ¬ other ≡ number → StandsForSome other d) → HaveParents d → HaveParents now
    file_parents stand had n = ⊎_elim
        (λ same. subst (λ (k : ℕ). HaveParentsIn k now) (sym same) (own_parents (had number)))
        (λ differ. beside.parents n differ (stand n differ) (had n))
        (same_number n number)
