-- The fileset table, and its rules.
use Rattle.std.specs.Prelude.{◌≡◌, ◌^◌, ◌<◌, ◌≤◌, ◌==◌, ℕ, Bool, true, false, List, length, count_by, Option, Some, None, IfSome, slice_get, slice_set, refl}
use Rattle.std.specs.Coded.{Coded, code_by, coded×, coded_ℕ, coded_list}
use Rattle.std.specs.List.{AllByRecursion, IsDistinct, list_all}
use Rattle.std.specs.Option.{option_map_or}
use Rattle.metadata_cells.specs.domain_base.declared.place.CellAt.{CellAt}
use Rattle.fileset_model.specs.Paths.{same_name}
use Rattle.word_forms.specs.Forms.{is_fileset_name}
use Rattle.fileset_table.specs.declared.slot.FilesetEntry.{FilesetEntry}
use Rattle.fileset_table.specs.declared.slot.SlotItem.{SlotItem}
use Rattle.fileset_table.specs.declared.slot.SlotItem.TheVariants.{Free, Original, Clone, Removed}
use Rattle.fileset_table.specs.contracts.slot.SlotItem as item

-- the slots, by their numbers, and how many clones were made
pub record Table : Type 0 where
  pub slots : List SlotItem
  pub made : ℕ

abbrev pub table_code : Coded Table
table_code =
    code_by (List SlotItem × ℕ)
    (coded× (coded_list item.the_row.coded) coded_ℕ)
    (λ t. (t.slots, t.made))
    (λ p. record { slots = p.0; made = p.1 })
    (λ _. refl)

-- ** What a slot has

-- the fileset, if the slot has one that is not being removed
abbrev pub entry_of : SlotItem → Option FilesetEntry
entry_of Free = None
entry_of (Original entry) = Some entry
entry_of (Clone original number entry) = Some entry
entry_of (Removed first_tag quota) = None

-- the slot has nothing
abbrev pub is_free : SlotItem → Bool
is_free Free = true
is_free _ = false

-- the slot has an original
abbrev pub is_original : SlotItem → Bool
is_original (Original entry) = true
is_original _ = false

-- a fileset, original or clone, with this name
abbrev pub has_name : List ℕ → SlotItem → Bool
has_name name item =
    option_map_or (λ (e : FilesetEntry). same_name e.name name) (entry_of item) false

-- the slot has an original or a clone, and nothing that is being removed
abbrev pub is_fileset : SlotItem → Bool
is_fileset item = option_map_or (λ _. true) (entry_of item) false

-- a clone of the original in this slot
abbrev pub is_clone_of : ℕ → SlotItem → Bool
is_clone_of number (Clone original n entry) = original == number
is_clone_of number _ = false

-- ** The rules

-- a cell's number in its page
abbrev pub IsCellNumber : Option CellAt → Type 0
IsCellNumber quota = IfSome quota (λ at. at.cell < 28)

-- a name is of the form of fileset names, and a quota cell is one of its page's
abbrev pub IsAllowedEntry : FilesetEntry → Type 0
IsAllowedEntry entry = (is_fileset_name entry.name ≡ true) × IsCellNumber entry.quota

-- what is in a slot has a name of the form, unless it is being removed, and a cell that a page can have
abbrev pub IsAllowed : SlotItem → Type 0
IsAllowed Free = Unit {0}
IsAllowed (Original entry) = IsAllowedEntry entry
IsAllowed (Clone original number entry) = IsAllowedEntry entry
IsAllowed (Removed first_tag quota) = IsCellNumber quota

-- at most 16 slots have filesets that are not being removed
abbrev pub AreFew : List SlotItem → Type 0
AreFew slots = count_by is_fileset slots ≤ 16

-- two filesets of one name, and two clones of one original
abbrev pub share_name : SlotItem → SlotItem → Bool
share_name item other =
    option_map_or (λ (e : FilesetEntry). has_name e.name other) (entry_of item) false

abbrev pub share_original : SlotItem → SlotItem → Bool
share_original (Clone original number entry) other = is_clone_of original other
share_original _ other = false

-- no two slots have filesets of one name
abbrev pub HaveOwnNames : List SlotItem → Type 0
HaveOwnNames slots = IsDistinct share_name slots

-- no two slots have clones of one original
abbrev pub HaveOneClone : List SlotItem → Type 0
HaveOneClone slots = IsDistinct share_original slots

-- what a clone names is an original
abbrev pub leads_to_original : List SlotItem → SlotItem → Bool
leads_to_original slots (Clone original number entry) =
    option_map_or is_original (slice_get slots original) false
leads_to_original slots _ = true

-- each clone's original is in the slot that it names
abbrev pub LeadToOriginals : List SlotItem → Type 0
LeadToOriginals slots = list_all (leads_to_original slots) slots ≡ true

-- how many clones were made is below 2^63
abbrev pub IsCount : ℕ → Type 0
IsCount made = made < 2 ^ 63

-- the rules that no slot can keep by itself
pub record AreTogether (slots : List SlotItem) : Type 0 where
  pub few : AreFew slots
  pub names : HaveOwnNames slots
  pub originals : LeadToOriginals slots
  pub clones : HaveOneClone slots

-- a table: 32 slots that keep these rules
pub record IsTable (table : Table) : Type 0 where
  pub whole : length table.slots ≡ 32
  pub allowed : AllByRecursion IsAllowed table.slots
  pub together : AreTogether table.slots
  pub count : IsCount table.made

-- the table with this in a slot
abbrev pub with_slot : ℕ → SlotItem → Table → Table
with_slot number item table = record table { slots = slice_set table.slots number item }

-- the same fileset, whatever else the table has of it: an original or a clone of one original and
-- name, or one that is being removed
abbrev pub IsSameFileset : SlotItem → SlotItem → Type 0
IsSameFileset (Original e) (Original f) = e.name ≡ f.name
IsSameFileset (Clone o n e) (Clone p m f) = (o ≡ p) × (e.name ≡ f.name)
IsSameFileset (Removed t q) (Removed u r) = Unit {0}
IsSameFileset _ _ = ⊥

-- free slots alone, and no clone made
pub record IsNewTable (table : Table) : Type 0 where
  pub good : IsTable table
  pub free : AllByRecursion (λ item. item ≡ Free) table.slots
  pub none_made : table.made ≡ 0
