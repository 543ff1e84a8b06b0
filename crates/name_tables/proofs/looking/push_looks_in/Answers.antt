use Rattle.fileset_lending.specs.page_store.Tags.{files_of}
use Rattle.fileset_lending.proofs.OfNameSpace.Spots.{has_names}
use Rattle.name_tables.proofs.looking.push_looks_in.Goals as goal

pub looks_along-requires-clause-names : goal.looks_along-requires-clause-names
looks_along-requires-clause-names c = has_names (files_of c.said_all.new.set.files.items) c.in_ok-said_all.ensures
