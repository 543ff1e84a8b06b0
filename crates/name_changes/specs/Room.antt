-- Lent files that memory has back with room on its list.
use Rattle.std.specs.Prelude.{◌≡◌, ◌≤◌}
use Rattle.fileset_lending.specs.Chosen.{Lends}
use Rattle.fileset_lending.specs.declared.chosen.Chosen.{Chosen}
use Rattle.fileset_lending.specs.domain_memory.declared.memory.DomainMemory.{DomainMemory}

-- lent files beside which memory has this list
abbrev pub with_list_of : DomainMemory → Chosen → Chosen
with_list_of memory chosen = record chosen { rest = record chosen.rest { list = memory.list } }

-- memory has them back, and its list no less room than it had
pub record HandsBack (chosen : Chosen) (memory : DomainMemory) : Type 0 where
  pub lends : Lends memory chosen.rest.number chosen.set.settings (with_list_of memory chosen)
  pub list : memory.list.list ≡ chosen.rest.list.list
  pub room : chosen.rest.list.room ≤ memory.list.room
