use Rattle.fileset_table.proofs.Unique.{table_unique}
use Rattle.fileset_table.proofs.laws.a_page_is_one_table.Goals as goal

pub returns : goal.returns
returns c = table_unique
