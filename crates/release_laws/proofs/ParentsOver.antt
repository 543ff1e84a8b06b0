-- Directories say the ones in which they stand after steps.
use Rattle.std.proofs.Common.{◌≡◌, ◌∙◌, ⊎_elim, inl, inr, ℕ, List, Option, Some, None, slice_get, refl, sym, ap, subst, arith}
use Rattle.std.proofs.lemmas.Bool.{true≢false}
use Rattle.std.specs.Option.{option_and_then}
use Rattle.standing_laws.specs.domain_base.declared.place.Home.{Home}
use Rattle.standing_laws.specs.domain_base.declared.place.Tag.{Tag}
use Rattle.standing_laws.specs.metadata_cells.Chain.{PlacedCell}
use Rattle.standing_laws.specs.directory_pages.declared.row.Row.{Row}
use Rattle.standing_laws.specs.tag_dirs.Directory.{IsDirectoryAt}
use Rattle.standing_laws.specs.fileset_files.Files.{AreFiles, Chains}
use Rattle.standing_laws.specs.fileset_files.State.{parent_in, parent_of}
use Rattle.standing_laws.specs.fileset_model.Filesets.{FilesetMap}
use Rattle.standing_laws.specs.fileset_table.Table.{Table}
use Rattle.standing_laws.specs.fileset_table.declared.slot.FilesetEntry.{FilesetEntry}
use Rattle.standing_laws.specs.fileset_table.declared.slot.SlotItem.{SlotItem}
use Rattle.standing_laws.specs.fileset_table.declared.slot.SlotItem.TheVariants as slot
use Rattle.standing_laws.specs.release_list.Standing.{Files}
use Rattle.standing_laws.proofs.OfReleaseList.Spread.{none_not, some_same}
use Rattle.standing_laws.specs.domain_layout.CellRules.{of_clone}
use Rattle.standing_laws.specs.domain_layout.DirectoryRules.{Has, IsInItem, IsInOriginal, IsRow, RowPlace}
use Rattle.standing_laws.specs.domain_layout.Seen.{SeenFile, seen_in}
use Rattle.standing_laws.specs.domain_standing.Chains.{IndexesAt}
use Rattle.standing_laws.specs.domain_standing.Domain.{DomainNow, item_in}
use Rattle.standing_laws.specs.domain_standing.Slots.{StandSlots}
use Rattle.standing_laws.specs.domain_standing.Sources.{StandAlone}
use Rattle.standing_laws.specs.domain_standing.Standing.{HaveParents}
use Rattle.standing_laws.specs.Leads.{StandsBelow}
use Rattle.standing_laws.proofs.FilesetPut.{StoodIn, stood_in}
use Rattle.standing_laws.proofs.ParentsElsewhere.{chain_at, in_original}
use Rattle.release_laws.specs.Released.{Releases}
use Rattle.release_laws.specs.Trimmed.{TrimsFiles}
use Rattle.release_laws.proofs.SlotOver.{begins, files_over, its, its_now, nothing_over, over, seen_page_same, seen_same}

module _ (group count : ℕ) (d now : DomainNow) (files files_now : Files) (indexes : IndexesAt) (below : StandsBelow d files indexes) (after : StandsBelow now files_now indexes) (alone : StandAlone d) (r : Releases group count d now files files_now) (trims : TrimsFiles d files) (all : FilesetMap) (slots : StandSlots d all) where
  -- what is at a tag was there, says the same of the directory in which it stands, and has pages that
  -- are as they were
  record WasHere (n : ℕ) (at : Tag) (cells : List PlacedCell) (seen : SeenFile) : Type 0 where
    was : List PlacedCell
    has : Has d.pages d.table n at was seen
    parent : parent_of cells ≡ parent_of was
    same : (page : ℕ) (home : Home) → seen.homes page ≡ Some home → now.pages home ≡ d.pages home

  in_slot : (n : ℕ) (entry : FilesetEntry) (at : Tag) (cells : List PlacedCell) (seen : SeenFile) → item_in d n ≡ Some (slot.Original entry) → IsInOriginal now.pages entry at cells seen → WasHere n at cells seen
  in_slot n entry at cells seen there is = by_chain (old_chains at) refl
    where
      it : StoodIn d all slots n entry
      it = stood_in d all slots n entry there

      old_chains : Chains
      old_chains = its group count d now files files_now indexes below after alone r trims n entry it.shape_was it.fileset_was there it.stood

      new_chains : Chains
      new_chains = its_now group count d now files files_now indexes below after alone r trims n entry it.shape_was it.fileset_was there it.stood

      at_first : IsDirectoryAt d.pages entry.first_tag (d.tags n)
      at_first = begins group count d now files files_now indexes below after alone r trims n entry it.shape_was it.fileset_was there it.stood

      are_now : AreFiles n (d.tags n) now.pages new_chains
      are_now = files_over group count d now files files_now indexes below after alone r trims n entry it.shape_was it.fileset_was there it.stood

      chain : new_chains at ≡ Some cells
      chain = chain_at n entry now.pages (d.tags n) new_chains (record { directory = are_now.directory; begins = at_first.begins }) are_now at cells seen is

      by_chain : (o : Option (List PlacedCell)) → old_chains at ≡ o → WasHere n at cells seen
      by_chain None none = absurd (none_not cells (sym (nothing_over group count d now files files_now indexes below after alone r trims n entry it.shape_was it.fileset_was there it.stood at none) ∙ chain))
      by_chain (Some cs) some =
          let o = over group count d now files files_now indexes below after alone r trims n entry it.shape_was it.fileset_was there it.stood at cs some in
          let same_cells : o.chain ≡ cells = some_same o.chain cells (sym o.now_is ∙ chain) in
          let seen_was : seen_in cs ≡ Some seen = sym (seen_same group count d now files files_now indexes below after alone r trims n entry it.shape_was it.fileset_was there it.stood at cs some) ∙ ap seen_in same_cells ∙ is.is in
          record {
            was = cs;
            has = record {
              item = slot.Original entry;
              there = there;
              is = record {
                there = record { places = d.tags n; directory = at_first; leads = in_original n entry d.pages (d.tags n) old_chains at_first it.stood.set.stands.together.files at cs some };
                is = seen_was;
              };
            };
            parent = ap parent_of (sym same_cells) ∙ ap (option_and_then parent_in) (o.says.others 10 (λ e. omega (arith, e)) (λ e. omega (arith, e)) (λ e. omega (arith, e)) refl);
            same = λ page home stands. seen_page_same group count d now files files_now indexes below after alone r trims n entry it.shape_was it.fileset_was there it.stood at cs some seen seen_was page home stands;
          }

  was_here : (n : ℕ) (at : Tag) (cells : List PlacedCell) (seen : SeenFile) → Has now.pages now.table n at cells seen → WasHere n at cells seen
  was_here n at cells seen h = by_item h.item (ap (λ (t : Table). slice_get t.slots n) (sym r.table) ∙ h.there) h.is
    where
      by_item : (item : SlotItem) → item_in d n ≡ Some item → IsInItem now.pages now.table item at cells seen → WasHere n at cells seen
      by_item slot.Free there is = absurd is
      by_item (slot.Original entry) there is = in_slot n entry at cells seen there is
      by_item (slot.Clone of clone entry) there is = absurd (true≢false (sym (ap of_clone there) ∙ slots.no_clone n))
      by_item (slot.Removed first_tag quota) there is = absurd is

  row_was : (n : ℕ) (at : RowPlace) (row : Row) (home : Home) → IsRow now.pages d.frame now.table n at row home → IsRow d.pages d.frame d.table n at row home
  row_was n at row home is =
      let page = is.is in
      let w = was_here n at.dir page.cells page.seen page.has in
      record {
        bytes = is.bytes;
        is = record { cells = w.was; seen = page.seen; has = w.has; kind = page.kind; at = page.at; within = page.within; there = sym (w.same at.page home page.at) ∙ page.there };
        good = is.good;
        there = is.there;
      }

  pub parents_over : HaveParents d → HaveParents now
  parents_over parents = subst HaveParents (λ i. record now { frame = sym r.frame i }) here
    where
      here : HaveParents (record now { frame = d.frame })
      here n at cells seen h directory wrong =
          let w = was_here n at cells seen h in
          parents n at w.was seen w.has directory
          (record {
            parent = wrong.parent;
            is = ⊎_elim
                (λ root. inl root)
                (λ r. inr (r.0, r.1, r.2, row_was n r.0 r.1 r.2 r.3, r.4, r.5, r.6, r.7))
                wrong.is;
            wrong = λ same. wrong.wrong (w.parent ∙ same);
          })
