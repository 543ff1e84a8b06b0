use Rattle.directory_pages.proofs.PageParts.{rows_are_once}
use Rattle.directory_pages.proofs.laws.rows_stand_once.Goals as goal

pub returns : goal.returns
returns c = rows_are_once
