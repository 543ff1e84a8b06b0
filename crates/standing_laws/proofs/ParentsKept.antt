-- Each directory says the one in which its row stands, where no page of a fileset changes.
use Rattle.std.proofs.Common.{◌≡◌, ◌∙◌, ⊎_elim, inl, inr, ℕ, true, false, List, [], ◌∷◌, Option, Some, None, IfSome, IsSomeAnd, slice_get, refl, sym, ap, subst}
use Rattle.std.specs.Option.{option_and_then, option_map_or}
use Rattle.domain_standing.specs.domain_base.declared.place.CellAt.{CellAt}
use Rattle.domain_standing.specs.domain_base.declared.place.Home.{Home}
use Rattle.domain_standing.specs.domain_base.declared.place.Tag.{Tag}
use Rattle.domain_standing.specs.page_store.Pages.{Pages}
use Rattle.domain_standing.specs.metadata_cells.Chain.{LinksFrom, PlacedCell}
use Rattle.domain_standing.specs.directory_pages.declared.row.Row.{Row}
use Rattle.domain_standing.specs.tag_dirs.Directory.{IsDirectoryAt, cell_of}
use Rattle.domain_standing.specs.tag_dirs.declared.dir.TagPlace.{TagPlace}
use Rattle.domain_standing.proofs.OfTagDirs.Reading.{same_directory}
use Rattle.domain_standing.specs.extent_maps.declared.run.PagePlace.TheVariants.{Absent}
use Rattle.domain_standing.specs.file_chains.Files.{IsFile, places_of}
use Rattle.domain_standing.proofs.OfFileChains.ChainChanges.{stand_file}
use Rattle.domain_standing.specs.fileset_files.Files.{LeadsToFile}
use Rattle.domain_standing.proofs.OfFilesetFiles.OneChain.{file_by}
use Rattle.domain_standing.specs.fileset_model.Filesets.{FilesetMap}
use Rattle.domain_standing.specs.fileset_table.Table.{Table}
use Rattle.domain_standing.specs.fileset_table.declared.slot.FilesetEntry.{FilesetEntry}
use Rattle.domain_standing.specs.fileset_table.declared.slot.SlotItem.{SlotItem}
use Rattle.domain_standing.specs.fileset_table.declared.slot.SlotItem.TheVariants as slot
use Rattle.domain_standing.specs.release_list.Standing.{Files}
use Rattle.domain_standing.proofs.OfReleaseList.Spread.{none_not}
use Rattle.domain_standing.proofs.OfReleaseSteps.StillAmong.{file_of_tag}
use Rattle.domain_standing.proofs.OfDomainLayout.OneShape.{links_same}
use Rattle.domain_standing.specs.domain_layout.CellRules.{of_clone}
use Rattle.domain_standing.specs.domain_layout.DirectoryRules.{Has, IsInItem, IsInOriginal, IsRow, RowPlace}
use Rattle.domain_standing.specs.domain_layout.Filled.{Contents}
use Rattle.domain_standing.specs.domain_layout.Layout.{first_tag_of}
use Rattle.domain_standing.specs.domain_layout.Seen.{SeenFile}
use Rattle.domain_standing.specs.Chains.{HasFilesAmong, IndexesAt, IsRemoved, StandsInSlot}
use Rattle.domain_standing.specs.Domain.{DomainNow, item_in}
use Rattle.domain_standing.specs.Holders.{Holder, Holds}
use Rattle.domain_standing.specs.Holders.Holder.{of_file}
use Rattle.domain_standing.specs.Slots.{StandSlots}
use Rattle.domain_standing.specs.Standing.{HaveParents}
use Rattle.standing_laws.specs.Leads.{StandsBelow}
use Rattle.standing_laws.specs.OtherPages.{KeepsPages, KeepsPlaces}
use Rattle.standing_laws.proofs.OthersStand.{SaysWhere, cells_lead, of_filesets, says_more, stand_still, standing_was, tags_now}
use Rattle.standing_laws.proofs.OtherSlots.{seen_place}

module _ (d : DomainNow) (files : Files) (indexes : IndexesAt) (below : StandsBelow d files indexes) (pages : Pages) (contents : Contents)
    (keeps_where : (holder : Holder) (home : Home) → SaysWhere holder → Holds d files indexes holder home → pages home ≡ d.pages home) (keeps_files : (at : CellAt) (page : ℕ) (home : Home) → Holds d files indexes (of_file at page) home → pages home ≡ d.pages home)
    (table_now : Table) (item_was : (n : ℕ) (item : SlotItem) (tag : Tag) (cells : List PlacedCell) (seen : SeenFile) → slice_get table_now.slots n ≡ Some item → IsInItem pages table_now item tag cells seen → (was : SlotItem) × (item_in d n ≡ Some was) × IsInItem pages table_now was tag cells seen) (no_clone : (number : ℕ) → of_clone (item_in d number) ≡ false)
  where
    -- what is at a tag was there, with pages that are as they were
    pub record WasThere (number : ℕ) (tag : Tag) (cells : List PlacedCell) (seen : SeenFile) : Type 0 where
      pub has : Has d.pages d.table number tag cells seen
      pub same : (page : ℕ) (home : Home) → seen.homes page ≡ Some home → pages home ≡ d.pages home

    module _ (n : ℕ) (entry : FilesetEntry) (there : item_in d n ≡ Some (slot.Original entry)) (tag : Tag) (cells : List PlacedCell) (seen : SeenFile) (is : IsInOriginal pages entry tag cells seen) where
      begins : IsDirectoryAt d.pages entry.first_tag (d.tags n)
      begins = below.tables.laid.tags n (slot.Original entry) there

      begins_now : IsDirectoryAt pages entry.first_tag (d.tags n)
      begins_now = tags_now d files indexes below pages contents keeps_where n (Some entry.first_tag) begins

      has : HasFilesAmong d files n
      has = ⊎_elim
          (λ among. among)
          (λ empty. absurd (subst IsRemoved there empty.removed))
          (subst (λ o. StandsInSlot d files n (option_and_then first_tag_of o)) there (below.chains.slots n))

      leads : IsSomeAnd (cell_of pages (d.tags n) tag) (λ at. LinksFrom pages at cells)
      leads = subst (λ (ps : List TagPlace). IsSomeAnd (cell_of pages ps tag) (λ at. LinksFrom pages at cells))
          (same_directory pages entry.first_tag is.there.places (d.tags n) is.there.directory begins_now) is.there.leads

      in_place : (o : Option CellAt) → cell_of pages (d.tags n) tag ≡ o → IsSomeAnd o (λ at. LinksFrom pages at cells) → WasThere n tag cells seen
      in_place None at links = absurd links
      in_place (Some at) at_it links = by_chain (has.chains tag) refl
        where
          leads_was : cell_of d.pages (d.tags n) tag ≡ Some at
          leads_was = sym (cells_lead d files indexes below pages contents keeps_where n tag) ∙ at_it

          -- the file that the domain has there is that of these cells
          of_file_there : (first : PlacedCell) (rest : List PlacedCell) → has.chains tag ≡ Some (first ∷ rest) → IsFile d.pages at (first ∷ rest) → WasThere n tag cells seen
          of_file_there first rest some file =
              let in_domain = file_of_tag files has.chains tag (first ∷ rest) at (has.among.same tag) some (ap Some file.0) in
              let file_now = file_by d.pages pages at (first ∷ rest)
              (stand_still d files indexes below pages contents keeps_where (first ∷ rest) (standing_was d files indexes below pages contents keeps_where at (first ∷ rest) in_domain).on_tables (stand_file d.pages at (first ∷ rest) file))
              file in
              let one : cells ≡ first ∷ rest = links_same pages at cells (first ∷ rest) links (file_now.0, file_now.1.links) in
              record {
                has = record {
                  item = slot.Original entry;
                  there = there;
                  is = record {
                    there = record {
                      places = d.tags n;
                      directory = begins;
                      leads = subst (λ o. IsSomeAnd o (λ a. LinksFrom d.pages a cells)) (sym leads_was) (subst (LinksFrom d.pages at) (sym one) (file.0, file.1.links));
                    };
                    is = is.is;
                  };
                };
                same = λ page home stands.
                    keeps_files at page home
                    (ap (λ o. option_map_or (λ cs. places_of cs page) o Absent) in_domain ∙ ap (λ (cs : List PlacedCell). places_of cs page) (sym one) ∙ seen_place cells seen page home stands is.is);
              }

          by_list : (cs : List PlacedCell) → has.chains tag ≡ Some cs → IsFile d.pages at cs → WasThere n tag cells seen
          by_list [] some file = absurd file
          by_list (first ∷ rest) some file = of_file_there first rest some file

          by_chain : (o : Option (List PlacedCell)) → has.chains tag ≡ o → WasThere n tag cells seen
          by_chain None none = absurd (none_not at (sym (has.are.none tag none) ∙ leads_was))
          by_chain (Some cs) some = by_list cs some (subst (λ o. IsSomeAnd o (λ a. IsFile d.pages a cs)) leads_was (subst (λ o. IfSome o (LeadsToFile n (d.tags n) d.pages tag)) some (has.are.some tag)).leads)

      was_original : WasThere n tag cells seen
      was_original = in_place (cell_of pages (d.tags n) tag) refl leads

    was_there : (number : ℕ) (tag : Tag) (cells : List PlacedCell) (seen : SeenFile) → Has pages table_now number tag cells seen → WasThere number tag cells seen
    was_there number tag cells seen h = let w = item_was number h.item tag cells seen h.there h.is in by_item w.0 w.1 w.2
      where
        by_item : (item : SlotItem) → item_in d number ≡ Some item → IsInItem pages table_now item tag cells seen → WasThere number tag cells seen
        by_item slot.Free there is = absurd is
        by_item (slot.Original entry) there is = was_original number entry there tag cells seen is
        by_item (slot.Clone of clone entry) there is = absurd (true_not_false (sym (ap of_clone there) ∙ no_clone number))
          where
            true_not_false : true ≡ false → ⊥
            true_not_false e = cc
        by_item (slot.Removed first_tag quota) there is = absurd is

    -- and so was a row
    row_was : (number : ℕ) (at : RowPlace) (row : Row) (home : Home) → IsRow pages d.frame table_now number at row home → IsRow d.pages d.frame d.table number at row home
    row_was number at row home is =
        let page = is.is in
        let w = was_there number at.dir page.cells page.seen page.has in
        record {
          bytes = is.bytes;
          is = record { cells = page.cells; seen = page.seen; has = w.has; kind = page.kind; at = page.at; within = page.within; there = sym (w.same at.page home page.at) ∙ page.there };
          good = is.good;
          there = is.there;
        }

    pub parents_on_as : HaveParents d → HaveParents (record d { table = table_now; pages = pages; contents = contents })
    parents_on_as parents number tag cells seen h directory wrong =
        parents number tag cells seen (was_there number tag cells seen h).has directory
        (record {
          parent = wrong.parent;
          is = ⊎_elim
              (λ root. inl root)
              (λ r. inr (r.0, r.1, r.2, row_was number r.0 r.1 r.2 r.3, r.4, r.5, r.6, r.7))
              wrong.is;
          wrong = wrong.wrong;
        })

-- and so it is where what is in slots was there
pub parents_on : (d : DomainNow) (files : Files) (indexes : IndexesAt) → StandsBelow d files indexes → (pages : Pages) (contents : Contents) → ((holder : Holder) (home : Home) → SaysWhere holder → Holds d files indexes holder home → pages home ≡ d.pages home)
    → ((at : CellAt) (page : ℕ) (home : Home) → Holds d files indexes (of_file at page) home → pages home ≡ d.pages home) → (table_now : Table)
    → ((n : ℕ) (item : SlotItem) (tag : Tag) (cells : List PlacedCell) (seen : SeenFile) → slice_get table_now.slots n ≡ Some item → IsInItem pages table_now item tag cells seen → item_in d n ≡ Some item) → ((number : ℕ) → of_clone (item_in d number) ≡ false)
    → HaveParents d → HaveParents (record d { table = table_now; pages = pages; contents = contents })
parents_on d files indexes below pages contents keeps_where keeps_files table_now item_was no_clone =
    parents_on_as d files indexes below pages contents keeps_where keeps_files table_now (λ n item tag cells seen there is. (item, item_was n item tag cells seen there is, is)) no_clone

pub parents_kept : (d now : DomainNow) (files : Files) (indexes : IndexesAt) (all : FilesetMap) → StandsBelow d files indexes → StandSlots d all → KeepsPlaces d now → KeepsPages d now files indexes → HaveParents d → HaveParents now
parents_kept d now files indexes all below slots same keeps parents = subst HaveParents (sym same)
    (parents_on d files indexes below now.pages now.contents (λ holder home says held. let of = of_filesets holder (says_more holder says) in keeps home holder held of.0 of.1)
    (λ a page home held. keeps home (of_file a page) held (λ e. cc) (λ e. cc)) d.table (λ n item tag cells seen there is. there) slots.no_clone parents)
