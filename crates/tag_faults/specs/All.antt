-- All rules of tags, of what they name, and of slots, by what finds them.
use Rattle.std.specs.Prelude.{◌≡◌, ◌⊎◌, Some}
use Rattle.cell_faults.specs.domain_base.declared.place.Home.{Home}
use Rattle.cell_faults.specs.page_store.Pages.{Pages}
use Rattle.cell_faults.specs.fileset_table.Table.{Table}
use Rattle.cell_faults.specs.domain_layout.Reached.{Frame}
use Rattle.cell_faults.specs.domain_layout.TagRules.{HasNoRoot, IsWrongEntry, IsWrongSlot}
use Rattle.tag_faults.specs.Directories.{IsDirectoryFault}
use Rattle.tag_faults.specs.Late.{HasLate}
use Rattle.tag_faults.specs.Quotas.{HasUnnamedQuota}
use Rattle.tag_faults.specs.Sources.{HasAstray}
use Rattle.tag_faults.specs.Unnamed.{HasUnnamed}

-- a rule of pages of tag directories, or of their entries, is broken at a home
abbrev pub IsPagesFault : Pages → Frame → Table → Home → Type 0
IsPagesFault pages frame table home = IsDirectoryFault pages frame table home
    ⊎ IsWrongEntry pages frame table home ⊎ HasNoRoot pages frame table home

-- a rule of cells that are named, or that should be
abbrev pub IsNamedFault : Pages → Frame → Table → Home → Type 0
IsNamedFault pages frame table home = HasUnnamed pages frame table home
    ⊎ HasAstray pages frame table home ⊎ HasLate pages frame table home
    ⊎ HasUnnamedQuota pages frame table home

-- a rule of slots
abbrev pub IsSlotFault : Pages → Frame → Table → Home → Type 0
IsSlotFault pages frame table home =
    (frame.anchor.table ≡ Some home) × IsWrongSlot pages frame table
