-- Tags, and slots, that are looked at one after another.
use Rattle.std.proofs.Common.{◌≡◌, ◌∙◌, ◌↔◌, ℕ, ◌+◌, ◌<◌, Bool, true, false, IsTrue, List, [], length, Option, Some, None, IsSome, IsSomeAnd, slice_get, refl, sym, ap, subst, arith, ⊎_elim}
use Rattle.std.proofs.lemmas.Bool.{cases_lt}
use mathlib.Core.Bool.{false≢true}
use Rattle.std.proofs.lemmas.Option.{slice_get_cases}
use Rattle.no_faults.specs.domain_base.declared.place.Home.{Home}
use Rattle.no_faults.specs.domain_base.declared.place.Tag.{Tag}
use Rattle.no_faults.specs.page_store.Pages.{Pages}
use Rattle.no_faults.specs.tag_dirs.Directory.{IsDirectory}
use Rattle.no_faults.specs.tag_dirs.declared.dir.TagPlace.{TagPlace}
use Rattle.no_faults.specs.fileset_table.Page.{IsTablePage}
use Rattle.no_faults.specs.fileset_table.Table.{IsTable}
use Rattle.no_faults.specs.fileset_table.declared.slot.SlotItem.{SlotItem}
use Rattle.no_faults.specs.domain_layout.Layout.{AreTagPlaces, IsLayout, Layout, first_tag_of}
use Rattle.no_faults.specs.domain_layout.Reached.{Frame}
use Rattle.no_faults.proofs.OfDomainLayout.OnePage.{one_of, some_same}
use Rattle.no_faults.specs.filesets_reading.Tables.{AreTablesOf}
use Rattle.no_faults.specs.filesets_reading.declared.tables.DomainTables.{DomainTables}
use Rattle.no_faults.proofs.OfFilesetsReading.Ways.{within_of}
use Rattle.no_faults.specs.fileset_shapes.Tags.{IsUsed, ListsOnce}
use Rattle.no_faults.proofs.OfDirectoryRows.AllLed.{at_contains}
use Rattle.attached_domain.specs.Signs.{IsSaidIn, ItemSays, LeadsSo, SlotSays, TagSays, asks}
use Rattle.attached_domain.specs.declared.signs.Sign.{Sign}

-- what holds of the numbers below one, and of that one, holds of those below the next
pub one_more : (P : ℕ → Type 0) (count : ℕ) → ((k : ℕ) → k < count → P k) → P count → (k : ℕ) → k < count + 1 → P k
one_more P count before this k below =
    ⊎_elim (λ low. before k low) (λ high. let here : count ≡ k = omega (arith, below, high) in subst P here this) (cases_lt k count)

-- ---- the tags of a directory

-- the tag at a place of a list leads to no such cell
abbrev pub LeadsElse : Pages → Sign → List TagPlace → List Tag → ℕ → Type 0
LeadsElse pages sign places tags k = (tag : Tag) → slice_get tags k ≡ Some tag → ¬ LeadsSo pages sign places tag

-- so if none of the tags in use does, none of all tags does
pub none_leads : (pages : Pages) (sign : Sign) (places : List TagPlace) (tags : List Tag) → ListsOnce (IsUsed pages places) tags
    → ((k : ℕ) → k < length tags → LeadsElse pages sign places tags k) → ¬ TagSays pages sign places
none_leads pages sign places tags lists none found =
    let tag : Tag = found.0 in
    let used : IsUsed pages places tag = subst IsSome (sym found.1.leads) refl in
    let at = at_contains tags tag ((lists.each tag).1 used) in
    none at.0 (within_of tags at.0 tag at.1) tag at.1 found.1

-- ---- the slots

-- what is said of an item and of a directory is said in the slot in which they are
module _ (pages : Pages) (sign : Sign) (tables : DomainTables) (number : ℕ) (item : SlotItem) (places : List TagPlace) (is : slice_get tables.filesets.slots number ≡ Some item) (there : slice_get tables.tags.items number ≡ Some places) where
  said : ItemSays pages sign item places → IsSaidIn pages sign tables number
  said says = record { item = item; is = is; places = places; there = there; says = says }

  says_there : IsSaidIn pages sign tables number → ItemSays pages sign item places
  says_there s =
      subst (λ i. ItemSays pages sign i places) (some_same s.item item (sym s.is ∙ is)) (subst (ItemSays pages sign s.item) (some_same s.places places (sym s.there ∙ there)) s.says)

  pub said_of : asks sign item ≡ true → (says : Bool) → (IsTrue says ↔ TagSays pages sign places) → (IsTrue says ↔ IsSaidIn pages sign tables number)
  said_of asked says is_said = ((λ so. said (asked, is_said.0 so)), (λ s. is_said.1 (says_there s).1))

pub not_said : (pages : Pages) (sign : Sign) (tables : DomainTables) (number : ℕ) (item : SlotItem) → slice_get tables.filesets.slots number ≡ Some item → asks sign item ≡ false → ¬ IsSaidIn pages sign tables number
not_said pages sign tables number item is unasked s = false≢true (sym unasked ∙ ap (asks sign) (sym (some_same s.item item (sym s.is ∙ is))) ∙ s.says.0)

pub no_slot_says : (pages : Pages) (sign : Sign) (tables : DomainTables) → ((k : ℕ) → k < 32 → ¬ IsSaidIn pages sign tables k) → ¬ SlotSays pages sign tables
no_slot_says pages sign tables none (number, below, is) = none number below is

-- a list of no pages is a directory
pub no_pages : (pages : Pages) → IsDirectory pages []
no_pages pages = record {
  run = λ k. tt;
  apart = λ j k p q at. absurd (let e : None ≡ Some p = at in absurd (cc));
  first = tt;
}

module _ (pages : Pages) (layout : Layout) (laid : IsLayout pages layout) where
  -- the table of pages that are laid out is well formed
  pub good_table : IsTable layout.table
  good_table =
      let table = one_of layout.anchor.table (λ home. IsSomeAnd (pages home) (λ page. IsTablePage page layout.table)) laid.table in
      (one_of (pages table.value) (λ page. IsTablePage page layout.table) table.is).is.good

  -- so there is something in each of the 32 slots
  pub slot_below : (number : ℕ) → number < 32 → (item : SlotItem) × (slice_get layout.table.slots number ≡ Some item)
  slot_below number below =
      ⊎_elim (λ some. (some.0, some.2)) (λ none. absurd (let whole = good_table.whole in omega (arith, whole, none.0, below))) (slice_get_cases layout.table.slots number).1

  pub directory_by : (number : ℕ) (first : Option Home) → AreTagPlaces pages first (layout.tags number) → IsDirectory pages (layout.tags number)
  directory_by number None are = subst (IsDirectory pages) (sym are) (no_pages pages)
  directory_by number (Some first) are = are.directory

  pub directory_below : (number : ℕ) → number < 32 → IsDirectory pages (layout.tags number)
  directory_below number below =
      let item = slot_below number below in
      directory_by number (first_tag_of item.0) (laid.tags number item.0 item.1)

-- the tag directory of each slot was read as one
pub directory_read : (pages : Pages) (frame : Frame) (tables : DomainTables) → AreTablesOf pages frame tables → (number : ℕ) → number < 32
    → (places : List TagPlace) → slice_get tables.tags.items number ≡ Some places → IsDirectory pages places
directory_read pages frame tables are number below places there =
    subst (IsDirectory pages) (are.tags number places there) (directory_below pages are.layout are.laid number below)
