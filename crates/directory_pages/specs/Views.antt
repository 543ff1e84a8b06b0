-- Rows where they stand on a page.
use Rattle.directory_pages.specs.declared.row.Row.{Row}
use Rattle.directory_pages.specs.declared.rows.RowView.{RowView}

-- the row that is seen
abbrev pub row_seen : RowView → Row
row_seen view = record { tag = view.tag; kind = view.kind; name = view.name.now }
