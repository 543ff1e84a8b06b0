use Rattle.directory_faults.proofs.OfTree.{read_by_tags}
use Rattle.directory_faults.proofs.tree.read_tree.Goals as goal

pub returns : goal.returns
returns c = record {
  children = c.in_ok-children.ensures;
  reached = c.in_ok-reached.ensures.below;
  read = read_by_tags c.args.files.now c.in_ok-there.there c.in_ok-reached.reached.seen c.args.is_clone c.are_all_read-is_whole.result c.in_ok-there.ensures c.are_all_read-is_whole.ensures;
}
