-- A directory with an index.
use Rattle.directory_rows.specs.domain_base.declared.place.Tag.{Tag}
use Rattle.directory_rows.specs.page_store.Bitfiles.{Bitfiles, IsDirectory}
use Rattle.directory_rows.specs.directory_pages.Index.{IsIndex, index_pages}

-- the tag names a directory with an index
pub record HasIndex (dir : Tag) (files : Bitfiles) : Type 0 where
  pub directory : IsDirectory files dir
  pub index : IsIndex (index_pages files dir)
