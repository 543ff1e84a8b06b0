use Rattle.std.proofs.lemmas.Result.{on_ok_weaker}
use Rattle.directory_faults.proofs.ChildrenRead.{row_put}
use Rattle.directory_faults.proofs.children.push_row.Goals as goal

pub returns-in-Directory : goal.returns-in-Directory
returns-in-Directory c =
    on_ok_weaker c.push_child.result (λ put. row_put c.args.children.now c.push_child.new.children c.args.row.now c.in-Directory.is put) c.push_child.ensures
