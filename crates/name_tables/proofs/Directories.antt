-- Directories in which no name stands twice.
use Rattle.std.proofs.Common.{◌≡◌, Bool, true, false, cond, List, [], ◌∷◌, ◌++◌}
use Rattle.std.specs.List.{AllByRecursion}
use Rattle.fileset_lending.specs.domain_base.declared.place.Tag.{Tag}
use Rattle.fileset_lending.specs.page_store.Bitfiles.{same_tag}
use Rattle.fileset_lending.specs.directory_rows.Directory.{NamesOnce}
use Rattle.fileset_lending.specs.directory_rows.Ways.{HaveNamesOnce, rows_by}
use Rattle.fileset_lending.specs.directory_rows.declared.led.DirectoryRows.{DirectoryRows}
use Rattle.name_tables.specs.Once.{AreOnce}

pub put_once : (all : List DirectoryRows) (one : DirectoryRows) → AreOnce all → NamesOnce one.rows → AreOnce (all ++ one ∷ [])
put_once [] one are is = (is, tt)
put_once (first ∷ all) one are is = (are.0, put_once all one are.1 is)

pub once_by : (all : List DirectoryRows) → AreOnce all → HaveNamesOnce (rows_by all)
once_by [] are tag = tt
once_by (one ∷ all) are tag = by_test (same_tag one.dir tag) (once_by all are.1 tag)
  where
    by_test : (b : Bool) → NamesOnce (rows_by all tag) → NamesOnce (cond b one.rows (rows_by all tag))
    by_test true rest = are.0
    by_test false rest = rest
