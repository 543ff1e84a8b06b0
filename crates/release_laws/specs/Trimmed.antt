-- What of the things on a domain's list is a directory.
use Rattle.std.specs.Prelude.{◌≡◌, List, Some, Contains, IsSomeAnd}
use Rattle.standing_laws.specs.domain_base.declared.place.Kind.TheVariants.{File}
use Rattle.standing_laws.specs.cell_records.declared.record.Leftover.TheVariants.{Trim}
use Rattle.standing_laws.specs.metadata_cells.Chain.{PlacedCell}
use Rattle.standing_laws.specs.fileset_files.Files.{attributes_of}
use Rattle.standing_laws.specs.release_list.declared.list.Entry.{Entry}
use Rattle.standing_laws.specs.release_list.Listed.{left_of}
use Rattle.standing_laws.specs.release_list.Standing.{Files}
use Rattle.standing_laws.specs.domain_standing.Domain.{DomainNow}

-- what is on the list to be trimmed is a file each, and no directory
abbrev pub TrimsFiles : DomainNow → Files → Type 0
TrimsFiles d files = (entry : Entry) (chain : List PlacedCell) → Contains d.list.entries entry
    → files entry.at ≡ Some chain → left_of chain ≡ Some Trim
    → IsSomeAnd (attributes_of chain) (λ is. is.kind ≡ File)
