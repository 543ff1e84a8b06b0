-- The limits of owners in a chain of quota cells, and a change of one owner's.
use Rattle.std.specs.Prelude.{◌≡◌, ◌⊎◌, ℕ, List, [], ◌∷◌, ◌++◌, map, Option, Some, None, Contains}
use Rattle.std.specs.List.{filter_map}
use Rattle.std.specs.Option.{option_map_or}
use Rattle.release_list.specs.domain_base.declared.place.CellAt.{CellAt}
use Rattle.release_list.specs.page_store.Pages.{Pages}
use Rattle.release_list.specs.cell_records.declared.record.Record.{Record}
use Rattle.release_list.specs.cell_records.declared.record.Record.TheVariants.{UserQuota, GroupQuota}
use Rattle.release_list.specs.metadata_cells.declared.head.CellHead.{CellHead}
use Rattle.release_list.specs.metadata_cells.declared.head.CellKind.TheVariants.{Quota}
use Rattle.release_list.specs.metadata_cells.Cell.{Cell}
use Rattle.release_list.specs.metadata_cells.Chain.{PlacedCell, StandsAt, places, records_of}
use Rattle.quota_book.specs.fileset_values.declared.command.Owner.{Owner}
use Rattle.quota_book.specs.fileset_values.declared.command.Owner.TheVariants as owner
use Rattle.quota_book.specs.fileset_model.declared.fileset.Limits.{Limits}
use Rattle.quota_book.specs.QuotaCells.{AreOnce, Said, said_by, touched, with_quota}
use Rattle.release_list.specs.free_cells.Cells.{Cells, table_of}
use Rattle.release_list.specs.free_space.Spaces.{Spaces}
use Rattle.release_list.specs.file_chains.FileChanges.{AreOnTables}
use Rattle.release_list.specs.file_chains.MapChanges.{IsHandedOut, TakesOne}
use Rattle.release_list.specs.Standing.{IsQuotas}
use Rattle.release_steps.specs.declared.cell.QuotaCell.{QuotaCell}

-- the record that says an owner's limits; those of the fileset stand in none
abbrev pub record_for : Owner → Limits → Option Record
record_for (owner.User id) limits = Some (UserQuota id limits.files limits.blocks)
record_for (owner.Group id) limits = Some (GroupQuota id limits.files limits.blocks)
record_for owner.Fileset limits = None

-- the records of a cell that says these limits
abbrev pub records_for : Said → List Record
records_for said = filter_map (λ (e : Owner × Limits). record_for e.0 e.1) said

-- the head of a fileset's last quota cell
abbrev pub quota_head : ℕ → CellHead
quota_head fileset =
    record { next = None; slot = 0; seq = 0; fileset = Some fileset; kind = Quota }

-- what is read of a quota cell: where it stands, its head and what it says
pub record ReadCell : Type 0 where
  pub at : CellAt
  pub head : CellHead
  pub said : Said

-- what is read of a quota cell
abbrev pub read_of : PlacedCell → ReadCell
read_of c = record { at = c.at; head = c.cell.head; said = said_by c.cell.records }

-- what is read of a quota cell as it stands in memory
abbrev pub there_of : QuotaCell → ReadCell
there_of c = record { at = c.at; head = c.head; said = c.said.items }

-- what a quota cell in memory says
abbrev pub says_of : QuotaCell → Said
says_of c = c.said.items

-- the last of those that were read
abbrev pub IsLast : ReadCell → List ReadCell → Type 0
IsLast c [] = ⊥
IsLast c (x ∷ []) = x ≡ c
IsLast c (x ∷ y ∷ cs) = IsLast c (y ∷ cs)

-- what the cells of a chain say
abbrev pub said_in : List PlacedCell → List Said
said_in chain = map (λ (c : PlacedCell). said_by c.cell.records) chain

-- the chain of quota cells from there on; none if there is no first one
abbrev pub IsQuotaChain : Pages → Option CellAt → List PlacedCell → Type 0
IsQuotaChain pages None chain = chain ≡ []
IsQuotaChain pages (Some at) chain = IsQuotas pages at chain

-- what the cells say with an owner's limits in the one that these touch, or else in one more
abbrev pub with_limits : Owner → Limits → List Said → List Said
with_limits who limits cells =
    option_map_or (λ k. with_quota k who limits cells) (touched cells who)
    (cells ++ ((who, limits) ∷ []) ∷ [])

-- the fileset that each cell says; one more is of the fileset if none is touched
abbrev pub filesets_in : List PlacedCell → List (Option ℕ)
filesets_in chain = map (λ (c : PlacedCell). c.cell.head.fileset) chain

-- the fileset that each cell says, with that of one more if a cell was added
abbrev pub with_fileset : ℕ → Option ℕ → List (Option ℕ) → List (Option ℕ)
with_fileset fileset (Some k) filesets = filesets
with_fileset fileset None filesets = filesets ++ Some fileset ∷ []

-- the chain that begins there then says an owner's limits, and all else as it did, of nobody twice;
-- it keeps its cells, with their filesets, and has each that is handed out, which was none in use of
-- the tables
pub record SetsLimits (fileset : ℕ) (who : Owner) (limits : Limits) (start : CellAt)
    (chain : List PlacedCell) (cells cells_now : Cells) (old new : Pages) : Type 0 where
  pub after : List PlacedCell
  pub is : IsQuotas new start after
  pub said : said_in after ≡ with_limits who limits (said_in chain)
  pub once : AreOnce (said_by (records_of chain)) → AreOnce (said_by (records_of after))
  pub filesets : filesets_in after
      ≡ with_fileset fileset (touched (said_in chain) who) (filesets_in chain)
  pub on_tables : AreOnTables cells_now after
  pub kept : (at : CellAt) → Contains (places chain) at → Contains (places after) at
  pub joined : (at : CellAt) → Contains (places after) at → ¬ Contains (places chain) at
      → (cell : Cell) → StandsAt old at cell → ¬ Contains (table_of cells at.vol) at.page
  pub handed : (at : CellAt) → IsHandedOut cells_now at
      → IsHandedOut cells at ⊎ Contains (places after) at

-- no cell is handed out where a cell is touched, and else one is
abbrev pub TakesIfUntouched : Option ℕ → ℕ → Spaces → Spaces → Cells → Cells → Pages → Type 0
TakesIfUntouched (Some k) prefer space space_now cells cells_now old =
    (space_now ≡ space) × (cells_now ≡ cells)
TakesIfUntouched None prefer space space_now cells cells_now old =
    TakesOne prefer space space_now cells cells_now old
