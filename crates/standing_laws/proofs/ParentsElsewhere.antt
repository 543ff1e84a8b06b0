-- Directories of other slots say the ones in which they stand after a call on a tag.
use Rattle.std.proofs.Common.{◌≡◌, ◌∙◌, ⊎_elim, inl, inr, ℕ, true, false, List, [], ◌∷◌, Option, Some, None, IfSome, IsSomeAnd, slice_get, refl, sym, ap, subst}
use Rattle.std.proofs.lemmas.Bool.{true≢false}
use Rattle.std.specs.Option.{option_map_or}
use Rattle.domain_standing.specs.domain_base.declared.place.CellAt.{CellAt}
use Rattle.domain_standing.specs.domain_base.declared.place.Home.{Home}
use Rattle.domain_standing.specs.domain_base.declared.place.Tag.{Tag}
use Rattle.domain_standing.specs.page_store.Pages.{Pages}
use Rattle.domain_standing.specs.metadata_cells.Chain.{LinksFrom, PlacedCell}
use Rattle.domain_standing.specs.directory_pages.declared.row.Row.{Row}
use Rattle.domain_standing.specs.tag_dirs.Directory.{IsDirectoryAt, cell_of}
use Rattle.domain_standing.specs.tag_dirs.declared.dir.TagPlace.{TagPlace}
use Rattle.domain_standing.proofs.OfTagDirs.Reading.{same_directory}
use Rattle.domain_standing.specs.extent_maps.declared.run.PagePlace.TheVariants.{Absent, At}
use Rattle.domain_standing.specs.file_chains.Files.{IsFile, places_of}
use Rattle.domain_standing.specs.fileset_files.Files.{AreFiles, Chains, LeadsToFile, place_at}
use Rattle.domain_standing.specs.fileset_model.declared.fileset.FilesetSlot.{FilesetSlot}
use Rattle.domain_standing.specs.fileset_table.Table.{Table}
use Rattle.domain_standing.specs.fileset_table.declared.slot.FilesetEntry.{FilesetEntry}
use Rattle.domain_standing.specs.fileset_table.declared.slot.SlotItem.{SlotItem}
use Rattle.domain_standing.specs.fileset_table.declared.slot.SlotItem.TheVariants as slot
use Rattle.domain_standing.specs.release_list.Standing.{Files}
use Rattle.domain_standing.proofs.OfDomainLayout.OneShape.{links_same}
use Rattle.domain_standing.specs.domain_layout.CellRules.{of_clone}
use Rattle.domain_standing.specs.domain_layout.DirectoryRules.{Has, IsInItem, IsInOriginal, IsRow, RowPlace}
use Rattle.domain_standing.specs.domain_layout.Seen.{SeenFile}
use Rattle.domain_standing.specs.domain_layout.Shape.{FilesetShape}
use Rattle.domain_standing.specs.Chains.{IndexesAt}
use Rattle.domain_standing.specs.Domain.{DomainNow, item_in}
use Rattle.standing_laws.specs.Leads.{LeadsOn, StandsBelow}
use Rattle.standing_laws.specs.SlotParents.{HaveParentsIn, StandsForSome}
use Rattle.standing_laws.specs.Slots.{StandsSlot}
use Rattle.standing_laws.proofs.OtherSlots.{begins, beside_now, page_same, seen_place}

links_in : (pages : Pages) (at : CellAt) (cs : List PlacedCell) → IsFile pages at cs → LinksFrom pages at cs
links_in pages at [] file = absurd file
links_in pages at (first ∷ rest) file = (file.0, file.1.links)

-- what an original has at a tag is the chain of that tag
module _ (n : ℕ) (entry : FilesetEntry) (pages : Pages) (places : List TagPlace) (its : Chains) (at_first : IsDirectoryAt pages entry.first_tag places) (are : AreFiles n places pages its) where
  some_leads : (tag : Tag) (cs : List PlacedCell) → its tag ≡ Some cs → IsSomeAnd (cell_of pages places tag) (λ at. IsFile pages at cs)
  some_leads tag cs some = (subst (λ o. IfSome o (LeadsToFile n places pages tag)) some (are.some tag)).leads

  pub chain_at : (tag : Tag) (cells : List PlacedCell) (seen : SeenFile) → IsInOriginal pages entry tag cells seen → its tag ≡ Some cells
  chain_at tag cells seen is = by_chain (its tag) refl
    where
      leads : IsSomeAnd (cell_of pages places tag) (λ at. LinksFrom pages at cells)
      leads = subst (λ (ps : List TagPlace). IsSomeAnd (cell_of pages ps tag) (λ at. LinksFrom pages at cells))
          (same_directory pages entry.first_tag is.there.places places is.there.directory at_first) is.there.leads

      one_links : (cs : List PlacedCell) (o : Option CellAt) → IsSomeAnd o (λ at. LinksFrom pages at cells) → IsSomeAnd o (λ at. IsFile pages at cs) → cs ≡ cells
      one_links cs None links file = absurd links
      one_links cs (Some at) links file = links_same pages at cs cells (links_in pages at cs file) links

      by_chain : (o : Option (List PlacedCell)) → its tag ≡ o → its tag ≡ Some cells
      by_chain None none = absurd (subst (λ o. IsSomeAnd o (λ at. LinksFrom pages at cells)) (are.none tag none) leads)
      by_chain (Some cs) some = some ∙ ap Some (one_links cs (cell_of pages places tag) leads (some_leads tag cs some))

  -- and the other way round
  pub in_original : (tag : Tag) (cells : List PlacedCell) → its tag ≡ Some cells → IsSomeAnd (cell_of pages places tag) (λ at. LinksFrom pages at cells)
  in_original tag cells some = by_cell (cell_of pages places tag) (some_leads tag cells some)
    where
      by_cell : (o : Option CellAt) → IsSomeAnd o (λ at. IsFile pages at cells) → IsSomeAnd o (λ at. LinksFrom pages at cells)
      by_cell None file = absurd file
      by_cell (Some at) file = links_in pages at cells file

-- an original's files are where they were, and so are their pages
pub record FilesStay (n : ℕ) (d now : DomainNow) (entry_now : FilesetEntry) : Type 0 where
  pub entry : FilesetEntry
  pub there : item_in d n ≡ Some (slot.Original entry)
  pub chains : Chains
  pub begins : IsDirectoryAt d.pages entry.first_tag (d.tags n)
  pub begins_now : IsDirectoryAt now.pages entry_now.first_tag (d.tags n)
  pub are : AreFiles n (d.tags n) d.pages chains
  pub are_now : AreFiles n (d.tags n) now.pages chains
  pub same : (t : Tag) (page : ℕ) (home : Home) → place_at chains t page ≡ At home → now.pages home ≡ d.pages home

module _ (d now : DomainNow) (n : ℕ) (frame : now.frame ≡ d.frame) (no_clone : of_clone (item_in now n) ≡ false) (stays : (entry_now : FilesetEntry) → item_in now n ≡ Some (slot.Original entry_now) → FilesStay n d now entry_now) where
  -- what is at a tag was there, with pages that are as they were
  record WasHere (at : Tag) (cells : List PlacedCell) (seen : SeenFile) : Type 0 where
    has : Has d.pages d.table n at cells seen
    same : (page : ℕ) (home : Home) → seen.homes page ≡ Some home → now.pages home ≡ d.pages home

  in_slot : (entry_now : FilesetEntry) (at : Tag) (cells : List PlacedCell) (seen : SeenFile) → item_in now n ≡ Some (slot.Original entry_now) → IsInOriginal now.pages entry_now at cells seen → WasHere at cells seen
  in_slot entry_now at cells seen there is =
      let it = stays entry_now there in
      let chain = chain_at n entry_now now.pages (d.tags n) it.chains it.begins_now it.are_now at cells seen is in
      record {
        has = record {
          item = slot.Original it.entry;
          there = it.there;
          is = record { there = record { places = d.tags n; directory = it.begins; leads = in_original n it.entry d.pages (d.tags n) it.chains it.begins it.are at cells chain }; is = is.is };
        };
        same = λ page home stands. it.same at page home (ap (λ o. option_map_or (λ (cs : List PlacedCell). places_of cs page) o Absent) chain ∙ seen_place cells seen page home stands is.is);
      }

  was_here : (at : Tag) (cells : List PlacedCell) (seen : SeenFile) → Has now.pages now.table n at cells seen → WasHere at cells seen
  was_here at cells seen h = by_item h.item h.there h.is
    where
      by_item : (item : SlotItem) → item_in now n ≡ Some item → IsInItem now.pages now.table item at cells seen → WasHere at cells seen
      by_item slot.Free there is = absurd is
      by_item (slot.Original entry) there is = in_slot entry at cells seen there is
      by_item (slot.Clone of clone entry) there is = absurd (true≢false (sym (ap of_clone there) ∙ no_clone))
      by_item (slot.Removed first_tag quota) there is = absurd is

  row_was : (at : RowPlace) (row : Row) (home : Home) → IsRow now.pages d.frame now.table n at row home → IsRow d.pages d.frame d.table n at row home
  row_was at row home is =
      let page = is.is in
      let w = was_here at.dir page.cells page.seen page.has in
      record {
        bytes = is.bytes;
        is = record { cells = page.cells; seen = page.seen; has = w.has; kind = page.kind; at = page.at; within = page.within; there = sym (w.same at.page home page.at) ∙ page.there };
        good = is.good;
        there = is.there;
      }

  right_here : HaveParentsIn n d → HaveParentsIn n (record now { frame = d.frame })
  right_here parents at cells seen h directory wrong =
      parents at cells seen (was_here at cells seen h).has directory
      (record {
        parent = wrong.parent;
        is = ⊎_elim
            (λ root. inl root)
            (λ r. inr (r.0, r.1, r.2, row_was r.0 r.1 r.2 r.3, r.4, r.5, r.6, r.7))
            wrong.is;
        wrong = wrong.wrong;
      })

  pub slot_parents : HaveParentsIn n d → HaveParentsIn n now
  slot_parents parents = subst (HaveParentsIn n) (λ i. record now { frame = sym frame i }) (right_here parents)

module _ (number : ℕ) (tag : Tag) (d now : DomainNow) (chains chains_now : Chains) (files files_now : Files) (indexes : IndexesAt) (below : StandsBelow d files indexes) (s : LeadsOn number tag d now chains chains_now files files_now)
    (n : ℕ) (differ : ¬ n ≡ number) (stands : StandsForSome n d)
  where
    item_same : item_in now n ≡ item_in d n
    item_same = ap (λ (t : Table). slice_get t.slots n) s.table

    stay : (entry : FilesetEntry) → item_in now n ≡ Some (slot.Original entry) → FilesStay n d now entry
    stay entry at = record {
      entry = entry;
      there = there;
      chains = was.2.set.chains;
      begins = begins_was;
      begins_now = record { directory = files_here.directory; begins = begins_was.begins };
      are = was.2.set.stands.together.files;
      are_now = files_here;
      same = page_same number tag d now chains chains_now files files_now indexes below s n entry was.0 was.1 differ there was.2;
    }
      where
        there : item_in d n ≡ Some (slot.Original entry)
        there = sym item_same ∙ at

        was : (shape : FilesetShape) × (fileset : FilesetSlot) × StandsSlot d n entry shape fileset
        was = stands.each entry there

        begins_was : IsDirectoryAt d.pages entry.first_tag (d.tags n)
        begins_was = begins number tag d now chains chains_now files files_now indexes below s n entry was.0 was.1 differ there was.2

        files_here : AreFiles n (d.tags n) now.pages was.2.set.chains
        files_here = (beside_now number tag d now chains chains_now files files_now indexes below s n entry was.0 was.1 differ there was.2).together.files

    pub parents_elsewhere : HaveParentsIn n d → HaveParentsIn n now
    parents_elsewhere = slot_parents d now n s.frame (ap of_clone item_same ∙ stands.no_clone) stay
