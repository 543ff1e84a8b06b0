-- The root of a fileset that begins says itself as the directory in which it stands, and all others
-- say theirs still.
use Rattle.std.proofs.Common.{◌≡◌, ◌∙◌, ◌⊎◌, ◌≤◌, ⊎_elim, ℕ, Bool, cond, List, [], ◌∷◌, Some, None, slice_get, refl, sym, ap, subst}
use Rattle.std.specs.Option.{option_and_then}
use Rattle.domain_standing.specs.domain_base.declared.place.Home.{Home}
use Rattle.domain_standing.specs.domain_base.declared.place.Kind.{Kind}
use Rattle.domain_standing.specs.domain_base.declared.place.Kind.TheVariants.{Directory}
use Rattle.domain_standing.specs.domain_base.declared.place.Tag.{Tag}
use Rattle.domain_standing.specs.metadata_cells.Chain.{PlacedCell}
use Rattle.domain_standing.specs.directory_pages.declared.row.Row.{Row}
use Rattle.domain_standing.specs.extent_maps.declared.run.PagePlace.TheVariants.{Absent, At}
use Rattle.domain_standing.specs.fileset_files.Creation.{new_parent, root_tag, with_new}
use Rattle.domain_standing.specs.file_chains.Files.{places_of}
use Rattle.domain_standing.specs.fileset_files.Files.{Chains}
use Rattle.domain_standing.specs.fileset_files.State.{parent_in, parent_of}
use Rattle.domain_standing.specs.fileset_model.Filesets.{FilesetMap}
use Rattle.domain_standing.specs.fileset_table.Table.{Table}
use Rattle.domain_standing.specs.fileset_table.declared.slot.FilesetEntry.{FilesetEntry}
use Rattle.domain_standing.specs.fileset_table.declared.slot.SlotItem.{SlotItem}
use Rattle.domain_standing.specs.fileset_table.declared.slot.SlotItem.TheVariants as slot
use Rattle.domain_standing.proofs.OfNameSpace.CreatedNames.{by_tag}
use Rattle.domain_standing.specs.release_list.Standing.{Files}
use Rattle.domain_standing.proofs.OfReleaseList.Spread.{none_not, some_same}
use Rattle.domain_standing.specs.release_steps.Calls.{Makes, StandsWell}
use Rattle.domain_standing.specs.domain_layout.CellRules.{of_clone}
use Rattle.domain_standing.specs.domain_layout.DirectoryRules.{Has, IsInItem, IsRow, RowPlace}
use Rattle.domain_standing.specs.domain_layout.Seen.{SeenFile}
use Rattle.domain_standing.specs.Chains.{IndexesAt}
use Rattle.domain_standing.specs.Domain.{DomainNow, item_in}
use Rattle.domain_standing.specs.Slots.{StandSlots}
use Rattle.domain_standing.specs.Standing.{HaveParents}
use Rattle.domain_standing.specs.Tables.{StandTables}
use Rattle.standing_laws.specs.Leads.{LeadsOn, StandsBelow, fileset_now}
use Rattle.standing_laws.specs.NewFileset.{JoinsEmpty, no_chains}
use Rattle.standing_laws.specs.SlotParents.{HasOnlyRoot, HaveParentsIn, StandsForSome}
use Rattle.standing_laws.proofs.FilesetBegins.{empty_begins, now_item, others_begun}
use Rattle.standing_laws.proofs.FilesetPut.{StoodIn, stood_in}
use Rattle.standing_laws.proofs.OtherSlots.{seen_place}
use Rattle.standing_laws.proofs.ParentsBegin.{number_or_not, other_slot, parents_begun}
use Rattle.standing_laws.proofs.ParentsElsewhere.{chain_at, parents_elsewhere}
use Rattle.standing_laws.proofs.RootMade.{root_leads, root_made}

absent_not : (home : Home) → ¬ Absent ≡ At home
absent_not home is = cc

-- ---- a root alone

module _ (number : ℕ) (d : DomainNow) (tables : StandTables d) (only : HasOnlyRoot number d) where
  -- what is at a tag is the root
  its_chain : (tag : Tag) (cells : List PlacedCell) (seen : SeenFile) → Has d.pages d.table number tag cells seen → only.chains tag ≡ Some cells
  its_chain tag cells seen h =
      chain_at number only.entry d.pages (d.tags number) only.chains (tables.laid.tags number (slot.Original only.entry) only.original) only.files tag cells seen
      (subst (λ (x : SlotItem). IsInItem d.pages d.table x tag cells seen) (some_same h.item (slot.Original only.entry) (sym h.there ∙ only.original)) h.is)

  its_tag : (tag : Tag) (cells : List PlacedCell) → only.chains tag ≡ Some cells → tag ≡ root_tag
  its_tag tag cells some = by_tag (tag ≡ root_tag) tag root_tag (λ same. same)
      (λ other. absurd (none_not cells (sym (only.others tag other) ∙ some)))

  its_root : (tag : Tag) (cells : List PlacedCell) → only.chains tag ≡ Some cells → only.root ≡ cells
  its_root tag cells some = some_same only.root cells (sym only.there ∙ ap only.chains (sym (its_tag tag cells some)) ∙ some)

  -- and it has no row
  no_row : (at : RowPlace) (row : Row) (home : Home) → IsRow d.pages d.frame d.table number at row home → ⊥
  no_row at row home is =
      let page = is.is in
      let chain = its_chain at.dir page.cells page.seen page.has in
      no_home page.cells page.seen chain page.has page.at
    where
      no_home : (cells : List PlacedCell) (seen : SeenFile) → only.chains at.dir ≡ Some cells → Has d.pages d.table number at.dir cells seen → seen.homes at.page ≡ Some home → ⊥
      no_home cells seen chain h stands = by_item h.item h.there h.is
        where
          by_item : (item : SlotItem) → item_in d number ≡ Some item → IsInItem d.pages d.table item at.dir cells seen → ⊥
          by_item item there is_in =
              let in_it = subst (λ (x : SlotItem). IsInItem d.pages d.table x at.dir cells seen) (some_same item (slot.Original only.entry) (sym there ∙ only.original)) is_in in
              absent_not home (sym (only.no_page at.page) ∙ subst (λ (cs : List PlacedCell). places_of cs at.page ≡ At home) (sym (its_root at.dir cells chain)) (seen_place cells seen at.page home stands in_it.is))

  pub root_parents : HaveParentsIn number d
  root_parents tag cells seen h directory wrong = ⊎_elim
      (λ root. wrong.wrong (subst (λ (cs : List PlacedCell). parent_of cs ≡ Some wrong.parent) (its_root tag cells (its_chain tag cells seen h)) (only.parent ∙ ap Some (sym root.1))))
      (λ r. no_row r.0 r.1 r.2 r.3)
      wrong.is

-- ---- the fileset that begins

module _ (number : ℕ) (entry : FilesetEntry) (d joined now : DomainNow) (chains_now : Chains) (files files_now : Files) (indexes : IndexesAt) (all : FilesetMap) (below : StandsBelow d files indexes) (slots : StandSlots d all) (joins : JoinsEmpty number entry d joined)
    (makes : Makes number joined.frame.version root_tag (fileset_now joined number no_chains files) (fileset_now now number chains_now files_now)) (early : makes.what.birth ≤ joined.table.made) (frame : now.frame ≡ joined.frame) (table : now.table ≡ joined.table)
    (tags : (other : ℕ) → ¬ other ≡ number → now.tags other ≡ joined.tags other) (is_directory : makes.what.kind ≡ Directory)
  where
    begins : StandsBelow joined files indexes × StandsWell number (fileset_now joined number no_chains files)
    begins = empty_begins number entry d joined files indexes below joins

    leads : LeadsOn number root_tag joined now no_chains chains_now files files_now
    leads = root_leads number entry d joined now chains_now files files_now indexes below joins makes early frame table tags

    after : StandsBelow now files_now indexes
    after = root_made number entry d joined now chains_now files files_now indexes below joins makes early frame table tags

    abbrev first : PlacedCell
    first = makes.creates.first

    only_root : HasOnlyRoot number now
    only_root = record {
      entry = entry;
      original = ap (λ (t : Table). slice_get t.slots number) table ∙ now_item number entry d joined files indexes below joins;
      chains = with_new root_tag (first ∷ []) no_chains;
      files = makes.creates.together.files;
      root = first ∷ [];
      there = refl;
      others = λ tag other. ap (λ (b : Bool). cond b (Some (first ∷ [])) None) other;
      no_page = makes.creates.no_page;
      parent = ap (option_and_then parent_in) (makes.creates.says.parent ∙ ap (λ (k : Kind). new_parent k root_tag) is_directory);
    }

    -- ---- the others

    item_same : (other : ℕ) → ¬ other ≡ number → item_in joined other ≡ item_in d other
    item_same other differ = ap (λ (t : Table). slice_get t.slots other) joins.table ∙ other_slot d.table number other (slot.Original entry) differ

    stand_joined : ((home : Home) → joined.pages home ≡ d.pages home → joined.contents home ≡ d.contents home) → (other : ℕ) → ¬ other ≡ number → StandsForSome other joined
    stand_joined bytes other differ = record {
      no_clone = ap of_clone (item_same other differ) ∙ slots.no_clone other;
      each = λ its at.
          let was_at : item_in d other ≡ Some (slot.Original its) = sym (item_same other differ) ∙ at in
          let was : StoodIn d all slots other its = stood_in d all slots other its was_at in
          (was.shape_was, was.fileset_was, others_begun number entry d joined files indexes below joins bytes other differ its was.shape_was was.fileset_was was_at was.stood);
    }

    pub parents_made : ((home : Home) → joined.pages home ≡ d.pages home → joined.contents home ≡ d.contents home) → HaveParents d → HaveParents now
    parents_made bytes parents n = ⊎_elim
        (λ same. subst (λ (k : ℕ). HaveParentsIn k now) (sym same) (root_parents number now after.tables only_root))
        (λ differ.
        parents_elsewhere number root_tag joined now no_chains chains_now files files_now indexes begins.0 leads n differ (stand_joined bytes n differ)
        (parents_begun number entry d joined files indexes all below slots joins parents n))
        (number_or_not n number)
