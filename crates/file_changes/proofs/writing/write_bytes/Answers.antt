use Rattle.std.proofs.Common.{◌∙◌, IsSomeAnd, length, ap, subst}
use Rattle.domain_memory.specs.fileset_model.Apply.{written_node}
use Rattle.domain_memory.specs.fileset_model.Pages.{pages_of}
use Rattle.domain_memory.specs.fileset_model.declared.node.Node.{Node}
use Rattle.set_standing.specs.Nodes.{with_size}
use Rattle.file_changes.specs.Reading.{IsDescribed}
use Rattle.file_changes.specs.Writing.{with_written}
use Rattle.file_changes.proofs.Laid.{written_end}
use Rattle.file_changes.proofs.Steps.{stands_now}
use Rattle.file_changes.proofs.Twice.{has_between, has_node, node_between, stands_twice}
use Rattle.file_changes.proofs.writing.write_bytes.Goals as goal

pub describe-what-requires-clause-stands : goal.describe-what-requires-clause-stands
describe-what-requires-clause-stands c =
    let offset = c.args.offset in
    let bytes = c.args.bytes.now in
    stands_now c.args.memory.now c.args.number c.args.tag offset bytes c.requires.stands c.requires.back c.requires.original c.requires.file (with_written (pages_of offset (length bytes)) offset bytes) c.write_pages.new.memory c.in_ok-write_pages.ensures.ok

pub set_size-requires-clause-stands : goal.set_size-requires-clause-stands
set_size-requires-clause-stands c =
    let offset = c.args.offset in
    let bytes = c.args.bytes.now in
    stands_now c.args.memory.now c.args.number c.args.tag offset bytes c.requires.stands c.requires.back c.requires.original c.requires.file (with_written (pages_of offset (length bytes)) offset bytes) c.write_pages.new.memory c.in_ok-write_pages.ensures.ok

pub returns-clause-ok : goal.returns-clause-ok
returns-clause-ok c = λ path all entry fileset has.
    let memory = c.args.memory.now in
    let mid = c.write_pages.new.memory in
    let offset = c.args.offset in
    let bytes = c.args.bytes.now in
    let what = c.describe-what.result in
    let part : Node → Node = with_written (pages_of offset (length bytes)) offset bytes in
    let table = c.write_pages.ensures.rest.table in
    let n = has_node memory c.args.number c.args.tag path all entry fileset has in
    let stood = c.in_ok-write_pages.ensures.ok path all entry fileset has in
    let between = has_between memory mid c.args.number c.args.tag path all entry fileset has n.node n.there part stood table in
    let described = subst (λ o. IsSomeAnd o (IsDescribed what)) (node_between memory mid c.args.number c.args.tag path all entry fileset has n.node n.there part stood table) (c.describe-what.ensures.is path _ entry _ between).node in
    stands_twice memory mid c.args.number c.args.tag path all entry fileset has n.node n.there part stood table c.set_size.new.memory (with_size c.max-size.result what.is_logged) (written_node offset bytes)
    (ap (λ s. with_size s what.is_logged (part n.node)) c.max-size.ensures ∙ written_end offset bytes n.node what described)
    (c.in_ok-set_size.ensures.ok path _ entry _ between)

pub returns-clause-parents : goal.returns-clause-parents
returns-clause-parents c = λ path all entry fileset has had.
    let memory = c.args.memory.now in
    let mid = c.write_pages.new.memory in
    let offset = c.args.offset in
    let bytes = c.args.bytes.now in
    let part : Node → Node = with_written (pages_of offset (length bytes)) offset bytes in
    let n = has_node memory c.args.number c.args.tag path all entry fileset has in
    let stood = c.in_ok-write_pages.ensures.ok path all entry fileset has in
    c.in_ok-set_size.ensures.parents path _ entry _ (has_between memory mid c.args.number c.args.tag path all entry fileset has n.node n.there part stood c.write_pages.ensures.rest.table) (c.in_ok-write_pages.ensures.parents path all entry fileset has had)
