-- Pages of indexes that are there.
use Rattle.slot_files.specs.domain_base.declared.place.CellAt.{CellAt}
use Rattle.slot_files.specs.domain_base.declared.place.Home.{Home}
use Rattle.slot_files.specs.page_store.Pages.{Pages}
use Rattle.slot_files.specs.domain_layout.DirectoryRules.{HasIndexAt}
use Rattle.slot_files.specs.domain_layout.Reached.{Frame, index_way}
use Rattle.image_loading.specs.Loading.{HasWay}

-- the pages of each index that a cell in use names
abbrev pub HasIndexes : Pages → Frame → Type 0
HasIndexes pages frame = (at : CellAt) (first : Home) → HasIndexAt pages frame at first
    → HasWay pages frame (index_way first)
