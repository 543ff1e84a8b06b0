use Rattle.std.proofs.Common.{IsSomeAnd, subst}
use Rattle.domain_memory.proofs.OfExtentMaps.EditLemmas.{on_ok}
use Rattle.domain_memory.specs.fileset_model.Apply.{flagged_node}
use Rattle.set_standing.specs.Nodes.{with_size}
use Rattle.file_changes.specs.Reading.{IsDescribed}
use Rattle.file_changes.proofs.Laid.{flagged_end}
use Rattle.file_changes.proofs.Twice.{has_node, stands_as}
use Rattle.file_changes.proofs.cutting.flag_file.Goals as goal

pub returns-clause-ok : goal.returns-clause-ok
returns-clause-ok c = λ path all entry fileset has.
    let memory = c.args.memory.now in
    let what = c.describe-what.result in
    let n = has_node memory c.args.number c.args.tag path all entry fileset has in
    let described = subst (λ o. IsSomeAnd o (IsDescribed what)) n.there (c.describe-what.ensures.is path all entry fileset has).node in
    on_ok c.set_size.result (λ s. stands_as memory memory c.args.number c.args.tag path all entry fileset has n.node n.there c.set_size.new.memory (with_size what.size c.args.is_logged) (flagged_node c.args.is_logged) (flagged_end c.args.is_logged n.node what described) s)
    (c.set_size.ensures.ok path all entry fileset has)
