use Rattle.set_standing.proofs.Nodes.{node_made, path_left, path_linked, path_moved, same_nodes}
use Rattle.set_standing.proofs.laws.names_keep_files.Goals as goal

pub returns-clause-made : goal.returns-clause-made
returns-clause-made c = node_made

pub returns-clause-linked : goal.returns-clause-linked
returns-clause-linked c = path_linked

pub returns-clause-without : goal.returns-clause-without
returns-clause-without c = path_left

pub returns-clause-renamed : goal.returns-clause-renamed
returns-clause-renamed c = path_moved

pub returns-clause-same : goal.returns-clause-same
returns-clause-same c = same_nodes
