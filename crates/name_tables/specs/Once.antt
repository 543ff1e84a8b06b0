-- Directories in which no name stands twice.
use Rattle.std.specs.Prelude.{List}
use Rattle.std.specs.List.{AllByRecursion}
use Rattle.fileset_lending.specs.directory_rows.Directory.{NamesOnce}
use Rattle.fileset_lending.specs.directory_rows.declared.led.DirectoryRows.{DirectoryRows}

abbrev pub AreOnce : List DirectoryRows → Type 0
AreOnce directories = AllByRecursion (λ (one : DirectoryRows). NamesOnce one.rows) directories
