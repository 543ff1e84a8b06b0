use Rattle.set_standing.proofs.MovedStood.{renamed_stand}
use Rattle.set_standing.proofs.Stood.{left_stand, link_stands, new_stands_in}
use Rattle.set_standing.proofs.directories.names_keep_directories.Goals as goal

pub returns-clause-made : goal.returns-clause-made
returns-clause-made c = new_stands_in

pub returns-clause-linked : goal.returns-clause-linked
returns-clause-linked c = link_stands

pub returns-clause-without : goal.returns-clause-without
returns-clause-without c = left_stand

pub returns-clause-renamed : goal.returns-clause-renamed
returns-clause-renamed c = renamed_stand
