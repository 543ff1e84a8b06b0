-- Each directory says the one in which its row stands, where an original joins the table, or its
-- slot says that it is being removed.
use Rattle.std.proofs.Common.{◌≡◌, ◌∙◌, ◌⊎◌, ⊎_elim, inl, inr, ℕ, ◌==◌, List, Some, IsSomeAnd, slice_get, refl, sym, ap, subst}
use Rattle.std.proofs.lemmas.Bool.{both_ways, cases_Bool, eq-eqb, eqb-true, false_from_ne_true}
use Rattle.domain_standing.specs.domain_base.declared.place.CellAt.{CellAt}
use Rattle.domain_standing.specs.domain_base.declared.place.Home.{Home}
use Rattle.domain_standing.specs.domain_base.declared.place.Tag.{Tag}
use Rattle.domain_standing.specs.metadata_cells.Chain.{LinksFrom, PlacedCell}
use Rattle.domain_standing.specs.tag_dirs.Directory.{IsDirectoryAt, cell_of}
use Rattle.domain_standing.specs.tag_dirs.declared.dir.TagPlace.{TagPlace}
use Rattle.domain_standing.proofs.OfTagDirs.Reading.{same_directory}
use Rattle.domain_standing.specs.fileset_model.Filesets.{FilesetMap}
use Rattle.domain_standing.specs.fileset_table.Table.{Table, with_slot}
use Rattle.domain_standing.specs.fileset_table.declared.slot.FilesetEntry.{FilesetEntry}
use Rattle.domain_standing.specs.fileset_table.declared.slot.SlotItem.{SlotItem}
use Rattle.domain_standing.specs.fileset_table.declared.slot.SlotItem.TheVariants as slot
use Rattle.domain_standing.proofs.OfFilesetTable.Leaving.{get_other}
use Rattle.domain_standing.specs.release_list.Standing.{Files}
use Rattle.domain_standing.proofs.OfReleaseList.Spread.{some_same}
use Rattle.domain_standing.specs.release_steps.Calls.{StandsWell}
use Rattle.domain_standing.specs.domain_layout.DirectoryRules.{IsInItem, IsInOriginal}
use Rattle.domain_standing.specs.domain_layout.Seen.{SeenFile}
use Rattle.domain_standing.specs.Chains.{IndexesAt}
use Rattle.domain_standing.specs.Domain.{DomainNow, item_in}
use Rattle.domain_standing.specs.Holders.{Holder, Holds}
use Rattle.domain_standing.specs.Holders.Holder.{of_file, of_table}
use Rattle.domain_standing.specs.Slots.{StandSlots}
use Rattle.domain_standing.specs.Standing.{HaveParents}
use Rattle.standing_laws.specs.GoingFileset.{BeginsToGo}
use Rattle.standing_laws.specs.Leads.{StandsBelow, fileset_now}
use Rattle.standing_laws.specs.NewFileset.{JoinsEmpty, no_chains}
use Rattle.standing_laws.proofs.FilesetBegins.{empty_begins, get_set, now_item}
use Rattle.standing_laws.proofs.OthersStand.{SaysWhere}
use Rattle.standing_laws.proofs.ParentsKept.{parents_on}
use Rattle.standing_laws.proofs.TablesTaken.{unheld_taken}

pub number_or_not : (n number : ℕ) → (n ≡ number) ⊎ (¬ n ≡ number)
number_or_not n number = ⊎_elim
    (λ same. inl (eqb-true n number same))
    (λ apart. inr (λ same. both_ways (n == number) apart (eq-eqb n number same)))
    (cases_Bool (n == number))

pub other_slot : (table : Table) (number n : ℕ) (item : SlotItem) → ¬ n ≡ number → slice_get (with_slot number item table).slots n ≡ slice_get table.slots n
other_slot table number n item differ = get_other table.slots number n item (false_from_ne_true (n == number) (λ same. differ (eqb-true n number same)))

file_not_table : (at : CellAt) (page : ℕ) → of_file at page ≡ of_table → ⊥
file_not_table at page e = cc

module _ (number : ℕ) (entry : FilesetEntry) (d now : DomainNow) (files : Files) (indexes : IndexesAt) (all : FilesetMap) (below : StandsBelow d files indexes) (slots : StandSlots d all) (s : BeginsToGo number entry d now) where
  abbrev left : SlotItem
  left = slot.Removed (Some entry.first_tag) entry.quota

  abbrev table_left : Table
  table_left = with_slot number left d.table

  page_left : (holder : Holder) (home : Home) → Holds d files indexes holder home → ¬ holder ≡ of_table → now.pages home ≡ d.pages home
  page_left holder home held other = s.others home (λ at. other (below.owned.once home holder of_table held at))

  item_left : (n : ℕ) (item : SlotItem) (tag : Tag) (cells : List PlacedCell) (seen : SeenFile) → slice_get table_left.slots n ≡ Some item → IsInItem now.pages table_left item tag cells seen → item_in d n ≡ Some item
  item_left n item tag cells seen there is = ⊎_elim
      (λ same.
      let gone : left ≡ item = some_same left item (sym (get_set d.table.slots number left (slot.Original entry) s.was) ∙ ap (slice_get table_left.slots) (sym same) ∙ there) in
      absurd (subst (λ (x : SlotItem). IsInItem now.pages table_left x tag cells seen) (sym gone) is))
      (λ differ. sym (other_slot d.table number n left differ) ∙ there)
      (number_or_not n number)

  pub parents_went : HaveParents d → HaveParents now
  parents_went parents = subst HaveParents ((λ i. record d { table = sym s.table i; pages = now.pages; contents = now.contents }) ∙ sym s.same)
      (parents_on d files indexes below now.pages now.contents (λ holder home says held. page_left holder home held (λ is. subst SaysWhere is says))
      (λ a page home held. page_left (of_file a page) home held (file_not_table a page)) table_left item_left slots.no_clone parents)

module _ (number : ℕ) (entry : FilesetEntry) (d now : DomainNow) (files : Files) (indexes : IndexesAt) (all : FilesetMap) (below : StandsBelow d files indexes) (slots : StandSlots d all) (s : JoinsEmpty number entry d now) where
  abbrev table_now : Table
  table_now = with_slot number (slot.Original entry) d.table

  page_kept : (holder : Holder) (home : Home) → Holds d files indexes holder home → ¬ holder ≡ of_table → now.pages home ≡ d.pages home
  page_kept holder home held other = s.others home (λ at. other (below.owned.once home holder of_table held at))
      (λ e. unheld_taken d files indexes below.owned entry.first_tag s.low s.free holder (subst (Holds d files indexes holder) e held))

  begins : StandsBelow now files indexes × StandsWell number (fileset_now now number no_chains files)
  begins = empty_begins number entry d now files indexes below s

  own_places : IsDirectoryAt now.pages entry.first_tag (now.tags number)
  own_places = begins.0.tables.laid.tags number (slot.Original entry) (now_item number entry d now files indexes below s)

  -- nothing is at a tag of the new one
  none_there : (tag : Tag) (cells : List PlacedCell) (seen : SeenFile) → IsInOriginal now.pages entry tag cells seen → ⊥
  none_there tag cells seen is = subst (λ o. IsSomeAnd o (λ a. LinksFrom now.pages a cells)) (begins.1.together.files.none tag refl)
      (subst (λ (ps : List TagPlace). IsSomeAnd (cell_of now.pages ps tag) (λ a. LinksFrom now.pages a cells)) (same_directory now.pages entry.first_tag is.there.places (now.tags number) is.there.directory own_places) is.there.leads)

  item_was : (n : ℕ) (item : SlotItem) (tag : Tag) (cells : List PlacedCell) (seen : SeenFile) → slice_get table_now.slots n ≡ Some item → IsInItem now.pages table_now item tag cells seen → item_in d n ≡ Some item
  item_was n item tag cells seen there is = ⊎_elim
      (λ same.
      let new : slot.Original entry ≡ item = some_same (slot.Original entry) item (sym (get_set d.table.slots number (slot.Original entry) slot.Free s.free_slot) ∙ ap (slice_get table_now.slots) (sym same) ∙ there) in
      absurd (none_there tag cells seen (subst (λ (x : SlotItem). IsInItem now.pages table_now x tag cells seen) (sym new) is)))
      (λ differ. sym (other_slot d.table number n (slot.Original entry) differ) ∙ there)
      (number_or_not n number)

  abbrev it : DomainNow
  it = record d { table = table_now; pages = now.pages; contents = now.contents }

  parents_it : HaveParents d → HaveParents it
  parents_it = parents_on d files indexes below now.pages now.contents (λ holder home says held. page_kept holder home held (λ is. subst SaysWhere is says))
      (λ a page home held. page_kept (of_file a page) home held (file_not_table a page)) table_now item_was slots.no_clone

  pub parents_begun : HaveParents d → HaveParents now
  parents_begun parents = subst HaveParents (λ i. record now { frame = sym s.frame i; table = sym s.table i }) (parents_it parents)
