-- Where the rules read nothing of pages for which a domain is not attached, other pages that agree with them on tables have no cause.
use Rattle.std.proofs.Common.{◌≡◌, ◌∙◌, ℕ, true, false, List, Option, Some, None, slice_get, refl, sym, ap}
use mathlib.Core.Bool.{false≢true}
use Rattle.no_faults.specs.domain_base.declared.place.CellAt.{CellAt}
use Rattle.no_faults.specs.domain_base.declared.place.Home.{Home}
use Rattle.no_faults.specs.domain_base.declared.place.Tag.{Tag}
use Rattle.no_faults.specs.page_store.Pages.{Pages}
use Rattle.no_faults.specs.metadata_cells.Cell.{Cell}
use Rattle.no_faults.specs.metadata_cells.declared.head.CellKind.TheVariants.{Primary}
use Rattle.no_faults.specs.tag_dirs.Directory.{cell_of}
use Rattle.no_faults.specs.tag_dirs.declared.dir.TagPlace.{TagPlace}
use Rattle.no_faults.specs.fileset_table.Table.{Table}
use Rattle.no_faults.specs.fileset_table.declared.slot.FilesetEntry.{FilesetEntry}
use Rattle.no_faults.specs.fileset_table.declared.slot.SlotItem.{SlotItem}
use Rattle.no_faults.specs.fileset_table.declared.slot.SlotItem.TheVariants as slot
use Rattle.no_faults.specs.domain_layout.CellRules.{IsUsed, of_clone, say_removed}
use Rattle.no_faults.specs.domain_layout.Faults.{HasNoTablesFault}
use Rattle.no_faults.specs.domain_layout.Layout.{AreTagPlaces, IsLayout, Layout, first_tag_of}
use Rattle.no_faults.specs.domain_layout.Owners.{frame_of}
use Rattle.no_faults.specs.domain_layout.Reached.{Frame, tags_way}
use Rattle.no_faults.specs.domain_layout.TagRules.{HasEntry, HasTags}
use Rattle.no_faults.specs.domain_layout.Alike.{AgreeOnCells, AgreeOnTags}
use Rattle.no_faults.proofs.OfDomainLayout.CellsAlike.{bytes_alike, leads_alike, place_alike, read, turned_cells, used_alike}
use Rattle.no_faults.proofs.OfDomainLayout.Named.{EntryThere, entry_there, first_there}
use Rattle.no_faults.proofs.OfDomainLayout.OwnedOnce.{used_on}
use Rattle.no_faults.specs.Attached.{HaveQuotasToGo}
use Rattle.no_faults.specs.domain_standing.Sources.{HasSource, SaySource}
use Rattle.attached_domain.specs.Causes.{HasSign, IsCause}
use Rattle.attached_domain.specs.Signs.{asks, say, say_cut}
use Rattle.attached_domain.specs.declared.signs.Sign.{Sign}
use Rattle.attached_domain.specs.declared.signs.Sign.TheVariants.{Cut, Removed}
use Rattle.attached_domain.specs.declared.unfit.Unfit.{Unfit}
use Rattle.attached_domain.specs.declared.unfit.Unfit.TheVariants.{Cloned, CutDirectory, OutOfMemory, ReadThrough, RemovedFile, WrongQuotas}

none_some : {X : Type 0} (x : X) → None ≡ Some x → ⊥
none_some x is = let e : None ≡ Some x = is in absurd (cc)

-- no slot has a clone; no first cell in use says through which file another one is read; what is being removed names its own quota cells; no entry leads to a file that is to be removed, and none of an original to a directory that is to be cut
pub record ReadsFit (pages : Pages) (frame : Frame) (table : Table) : Type 0 where
  pub no_clone : (number : ℕ) → of_clone (slice_get table.slots number) ≡ false
  pub sources : (at : CellAt) (cell : Cell) → IsUsed pages frame at cell → cell.head.kind ≡ Primary → ¬ SaySource cell.records
  pub quotas : HaveQuotasToGo pages frame table
  pub stay : (number : ℕ) (tag : Tag) (at : CellAt) (home : Home) → HasEntry pages frame table number tag at home → (cell : Cell) → IsUsed pages frame at cell → say_removed cell.records ≡ false
  pub keep : (number : ℕ) (entry : FilesetEntry) → slice_get table.slots number ≡ Some (slot.Original entry) → (tag : Tag) (at : CellAt) (home : Home) → HasEntry pages frame table number tag at home
      → (cell : Cell) → IsUsed pages frame at cell → say_cut cell.records ≡ false

module _ (one other : Pages) (layout : Layout) (laid : IsLayout one layout) (none : HasNoTablesFault one (frame_of layout)) (cells : AgreeOnCells one other (frame_of layout)) (tags : AgreeOnTags one other (frame_of layout) layout.table)
    (fit : ReadsFit other (frame_of layout) layout.table) where
  no_source : (at : CellAt) → ¬ HasSource one layout at
  no_source at has = fit.sources at has.cell (used_alike one other (frame_of layout) cells at has.cell (used_on one layout laid none at has.cell has.on)) has.kind has.says

  quotas_too : HaveQuotasToGo one (frame_of layout) layout.table
  quotas_too number at removed named =
      let first = fit.quotas number at removed named in
      let back = turned_cells one other (frame_of layout) cells in
      record {
        is = record {
          place = place_alike other one (frame_of layout) back at first.is.place;
          bytes = first.is.bytes;
          there = sym (bytes_alike other one (frame_of layout) back at first.is.place) ∙ first.is.there;
          kind = first.is.kind;
          fileset = first.is.fileset;
        };
        first = λ from leads. first.first from (leads_alike one other (frame_of layout) cells from at leads);
      }

  entry_too : (number : ℕ) (tag : Tag) (at : CellAt) (home : Home) → HasEntry one (frame_of layout) layout.table number tag at home → HasEntry other (frame_of layout) layout.table number tag at home
  entry_too number tag at home has = record {
    place = has.place;
    page = has.page;
    is = record {
      first = has.is.first;
      has = has.is.has;
      read = read one other (frame_of layout) (tags_way has.is.first) (tags number has.is.first has.is.has) has.place home has.page has.is.read;
    };
    entry = has.entry;
    within = has.within;
    slot = has.slot;
    used = has.used;
    names = has.names;
  }

  says_not : (sign : Sign) (number : ℕ) (item : SlotItem) → slice_get layout.table.slots number ≡ Some item → asks sign item ≡ true → (tag : Tag) (at : CellAt) (home : Home)
      → HasEntry other (frame_of layout) layout.table number tag at home → (cell : Cell) → IsUsed other (frame_of layout) at cell → say sign cell.records ≡ false
  says_not Removed number item there asked tag at home has cell used = fit.stay number tag at home has cell used
  says_not Cut number slot.Free there asked tag at home has cell used = absurd (false≢true asked)
  says_not Cut number (slot.Original entry) there asked tag at home has cell used = fit.keep number entry there tag at home has cell used
  says_not Cut number (slot.Clone of clone entry) there asked tag at home has cell used = absurd (false≢true asked)
  says_not Cut number (slot.Removed first quota) there asked tag at home has cell used = absurd (false≢true asked)

  no_sign : (sign : Sign) → ¬ HasSign one sign layout
  no_sign sign has = by_first (first_tag_of has.item) refl (laid.tags has.number has.item has.there)
    where
      tag : Tag
      tag = has.says.1.0

      at : CellAt
      at = has.says.1.1.at

      leads : cell_of one (layout.tags has.number) tag ≡ Some at
      leads = has.says.1.1.leads

      by_first : (o : Option Home) → first_tag_of has.item ≡ o → AreTagPlaces one o (layout.tags has.number) → ⊥
      by_first None gone empty = none_some at (sym (ap (λ (places : List TagPlace). cell_of one places tag) empty) ∙ leads)
      by_first (Some first) begins directory =
          let begun : HasTags layout.table has.number first = record { item = has.item; there = has.there; has = begins } in
          let entry : EntryThere one layout laid none has.number tag at = entry_there one layout laid none has.number first begun (layout.tags has.number) directory tag at leads in
          first_there one layout laid none has.number first begun (layout.tags has.number) directory tag at leads
          (λ is.
          let says = has.says.1.1.says in
          let used = used_alike one other (frame_of layout) cells at says.cell (record { place = is.place; stands = says.stands }) in
          false≢true (sym (says_not sign has.number has.item has.there has.says.0 tag at entry.home (entry_too has.number tag at entry.home entry.has) says.cell used) ∙ says.says))

  pub no_cause : (why : Unfit) → ¬ IsCause one layout why
  no_cause Cloned has = false≢true (sym (fit.no_clone has.0) ∙ has.1)
  no_cause ReadThrough has = no_source has.0 has.1
  no_cause WrongQuotas wrong = wrong quotas_too
  no_cause RemovedFile has = no_sign Removed has
  no_cause CutDirectory has = no_sign Cut has
  no_cause OutOfMemory has = has
