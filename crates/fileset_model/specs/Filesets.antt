-- All filesets of a domain.
use Rattle.std.specs.FinMap as map
use Rattle.fileset_values.specs.Orders.{name_cmp}
use Rattle.fileset_model.specs.declared.fileset.FilesetSlot.{FilesetSlot}

-- all filesets by their names
abbrev pub FilesetMap : Type 0
FilesetMap = map.FinMap name_cmp FilesetSlot
