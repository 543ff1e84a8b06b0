use Rattle.std.proofs.Common.{◌≡◌, [], true, slice_get, subst, sym}
use Rattle.name_commands.specs.fileset_model.Apply.{written_node}
use Rattle.name_commands.specs.fileset_table.Table.{Table}
use Rattle.name_commands.specs.quota_book.Book.{Charges}
use Rattle.name_commands.specs.domain_layout.CellRules.{of_original}
use Rattle.name_commands.specs.domain_standing.Standing.{HaveParents}
use Rattle.name_commands.proofs.OfDomainChanges.BooksFollow.{one_before}
use Rattle.name_commands.proofs.OfFileChanges.Steps.{stands_now}
use Rattle.file_commands.proofs.writing.write_charged.Goals as goal

pub charge-requires-clause-stands : goal.charge-requires-clause-stands
charge-requires-clause-stands c =
    stands_now c.args.memory.now c.args.number c.args.tag 0 [] c.requires.stands c.requires.back c.requires.original c.requires.file (written_node c.args.offset c.args.bytes.now) c.write_bytes.new.memory c.in_ok-write_bytes.ensures.ok

pub charge-requires-clause-original : goal.charge-requires-clause-original
charge-requires-clause-original c = subst (λ (t : Table). of_original (slice_get t.slots c.args.number) ≡ true) (sym c.write_bytes.ensures.table) c.requires.original

pub returns-clause-ok : goal.returns-clause-ok
returns-clause-ok c = λ path all entry fileset has. c.charge.ensures.staged _ (c.in_ok-write_bytes.ensures.ok path all entry fileset has)

pub returns-clause-charged : goal.returns-clause-charged
returns-clause-charged c =
    one_before c.args.number (Charges c.args.share.uid c.args.share.gid 0 c.args.share.blocks) c.args.memory.now c.write_bytes.new.memory c.charge.new.memory c.write_bytes.ensures.table c.write_bytes.ensures.counted c.in_ok-charge.ensures.ok

pub returns-clause-parents : goal.returns-clause-parents
returns-clause-parents c = λ path all entry fileset has had. subst HaveParents (sym c.charge.ensures.domain) (c.in_ok-write_bytes.ensures.parents path all entry fileset has had)
