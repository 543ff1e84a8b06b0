use Rattle.std.proofs.Common.{◌≡◌, ◌*◌, ◌-◌, ◌+◌, [], Option, IsSomeAnd, true, ap, slice_get, subst, sym, ◌∙◌}
use Rattle.std.proofs.Math.Logic.{∥∥₁_map}
use Rattle.std.specs.FinMap.{empty, len}
use Rattle.std.specs.Option.{option_map_or}
use Rattle.name_commands.specs.fileset_model.Apply.{truncated_node}
use Rattle.name_commands.specs.fileset_model.Usage.{blocks_of}
use Rattle.name_commands.specs.fileset_model.declared.node.Node.{Node}
use Rattle.name_commands.specs.fileset_table.Table.{Table}
use Rattle.name_commands.specs.domain_layout.CellRules.{of_original}
use Rattle.name_commands.proofs.OfFileChanges.HowMany.{blocks_gone}
use Rattle.name_commands.proofs.OfFileChanges.Known.{file_known, some_file}
use Rattle.name_commands.proofs.OfFileChanges.Steps.{stands_now}
use Rattle.name_commands.proofs.OfFileChanges.Twice.{has_between, has_node, node_between, whole_node}
use Rattle.name_commands.specs.file_changes.Reading.{pages_in}
use Rattle.file_commands.proofs.filing.cut_counted.Goals as goal

pub count_pages-requires-2-clause-stands : goal.count_pages-requires-2-clause-stands
count_pages-requires-2-clause-stands c =
    stands_now c.args.memory.now c.args.number c.args.tag 0 [] c.requires.stands c.requires.back c.requires.original c.requires.file (truncated_node c.args.size) c.cut_file.new.memory c.in_ok-cut_file.ensures.ok

pub count_pages-requires-2-clause-original : goal.count_pages-requires-2-clause-original
count_pages-requires-2-clause-original c = subst (λ (t : Table). of_original (slice_get t.slots c.args.number) ≡ true) (sym c.cut_file.ensures.table) c.requires.original

pub count_pages-requires-2-clause-file : goal.count_pages-requires-2-clause-file
count_pages-requires-2-clause-file c =
    file_known c.cut_file.new.memory c.args.number c.args.tag
    (∥∥₁_map (some_file c.args.memory.now c.args.number c.args.tag c.requires.stands c.requires.original c.requires.file) (λ s. c.in_ok-cut_file.ensures.file s.path s.all s.entry s.fileset s.has))

pub returns-clause-gone : goal.returns-clause-gone
returns-clause-gone c = λ path all entry fileset has.
    let memory = c.args.memory.now in
    let mid = c.cut_file.new.memory in
    let number = c.args.number in
    let tag = c.args.tag in
    let size = c.args.size in
    let n = has_node memory number tag path all entry fileset has in
    let stood = c.in_ok-cut_file.ensures.ok path all entry fileset has in
    let table = c.cut_file.ensures.table in
    let before = c.in_ok-before.ensures path all entry fileset has ∙ ap (λ (o : Option Node). len (option_map_or pages_in o empty)) n.there in
    let after = c.in_ok-after.ensures path _ entry _ (has_between memory mid number tag path all entry fileset has n.node n.there (truncated_node size) stood table)
    ∙ ap (λ (o : Option Node). len (option_map_or pages_in o empty)) (node_between memory mid number tag path all entry fileset has n.node n.there (truncated_node size) stood table) in
    subst (λ (o : Option Node). IsSomeAnd o (λ node. blocks_of node ≡ blocks_of (truncated_node size node) + c.from.result * c.from-2.result)) (sym n.there)
    (blocks_gone size n.node (whole_node memory number tag path all entry fileset has n.node n.there) c.in_ok-before.before c.in_ok-after.after (c.from.result * c.from-2.result) before after
    (λ i. c.from.ensures i * (c.from-2.ensures ∙ c.saturating_sub.ensures) i))
