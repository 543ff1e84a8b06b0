use Rattle.std.proofs.Common.{[]}
use Rattle.std.proofs.Math.Logic.{∥∥₁_map}
use Rattle.domain_memory.proofs.OfExtentMaps.EditLemmas.{on_ok}
use Rattle.domain_memory.specs.fileset_model.Apply.{truncated_node}
use Rattle.set_standing.specs.Nodes.{cut_to}
use Rattle.file_changes.specs.Writing.{cleared_behind}
use Rattle.file_changes.proofs.Known.{file_known, some_file}
use Rattle.file_changes.proofs.Laid.{cleared_end}
use Rattle.file_changes.proofs.Steps.{stands_now}
use Rattle.file_changes.proofs.Twice.{has_between, has_node, stands_twice}
use Rattle.file_changes.proofs.cutting.cut_file.Goals as goal

pub clear_rest-requires-clause-stands : goal.clear_rest-requires-clause-stands
clear_rest-requires-clause-stands c =
    stands_now c.args.memory.now c.args.number c.args.tag 0 [] c.requires.stands c.requires.back c.requires.original c.requires.file (cut_to c.args.size) c.truncate.new.memory c.in_ok-truncate.ensures.ok

pub clear_rest-requires-clause-file : goal.clear_rest-requires-clause-file
clear_rest-requires-clause-file c =
    file_known c.truncate.new.memory c.args.number c.args.tag
    (∥∥₁_map (some_file c.args.memory.now c.args.number c.args.tag c.requires.stands c.requires.original c.requires.file) (λ s. c.in_ok-truncate.ensures.file s.path s.all s.entry s.fileset s.has))

pub returns-clause-ok : goal.returns-clause-ok
returns-clause-ok c = λ path all entry fileset has.
    let memory = c.args.memory.now in
    let mid = c.truncate.new.memory in
    let n = has_node memory c.args.number c.args.tag path all entry fileset has in
    let stood = c.in_ok-truncate.ensures.ok path all entry fileset has in
    on_ok c.clear_rest.result (λ s. stands_twice memory mid c.args.number c.args.tag path all entry fileset has n.node n.there (cut_to c.args.size) stood c.truncate.ensures.table c.clear_rest.new.memory (cleared_behind c.args.size) (truncated_node c.args.size) (cleared_end c.args.size n.node) s)
    (c.clear_rest.ensures.ok path _ entry _ (has_between memory mid c.args.number c.args.tag path all entry fileset has n.node n.there (cut_to c.args.size) stood c.truncate.ensures.table))

pub returns-clause-parents : goal.returns-clause-parents
returns-clause-parents c = λ path all entry fileset has had.
    let memory = c.args.memory.now in
    let mid = c.truncate.new.memory in
    let n = has_node memory c.args.number c.args.tag path all entry fileset has in
    let stood = c.in_ok-truncate.ensures.ok path all entry fileset has in
    c.clear_rest.ensures.parents path _ entry _ (has_between memory mid c.args.number c.args.tag path all entry fileset has n.node n.there (cut_to c.args.size) stood c.truncate.ensures.table)
    (c.in_ok-truncate.ensures.parents path all entry fileset has had)

pub returns-clause-file : goal.returns-clause-file
returns-clause-file c = λ path all entry fileset has.
    let memory = c.args.memory.now in
    let mid = c.truncate.new.memory in
    let n = has_node memory c.args.number c.args.tag path all entry fileset has in
    let stood = c.in_ok-truncate.ensures.ok path all entry fileset has in
    c.clear_rest.ensures.file path _ entry _ (has_between memory mid c.args.number c.args.tag path all entry fileset has n.node n.there (cut_to c.args.size) stood c.truncate.ensures.table)
