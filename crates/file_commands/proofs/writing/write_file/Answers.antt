use Rattle.std.proofs.Common.{◌∙◌, ◌+◌, ◌*◌, length, ap, subst}
use Rattle.name_commands.specs.domain_base.declared.place.Kind.TheVariants as kind
use Rattle.name_commands.specs.fileset_model.Paths.{node_at}
use Rattle.name_commands.specs.fileset_values.declared.command.Command.TheVariants.{Write}
use Rattle.name_commands.specs.legal_histories.Step.{TakesSpace}
use Rattle.name_commands.proofs.OfDomainMemory.SettledKept.{settled_kept}
use Rattle.name_commands.specs.name_changes.Looking.{IsLiveIn}
use Rattle.file_commands.proofs.FileAnswers.{as_kind, ids_there, is_there_file, staged_placed}
use Rattle.file_commands.proofs.Filed.{its}
use Rattle.name_commands.proofs.PlacedThere.{file_of}
use Rattle.file_commands.proofs.Stops.{ends_wanting}
use Rattle.file_commands.proofs.Written.{answers_written, asked_there, is_set, not_far, not_set, refuses_far, takes_absent, takes_wanted, wants_from}
use Rattle.file_commands.proofs.writing.write_file.Goals as goal

pub returns-then-is_too_far-clause-ends : goal.returns-then-is_too_far-clause-ends
returns-then-is_too_far-clause-ends c = λ all place stands p.
    let at = c.args.at in
    refuses_far c.args.memory.now all place at.number at.tag (as_kind c.args.memory.now all place at.number at.tag at.kind kind.File c.requires.file p) c.args.offset c.args.bytes.now
    (c.is_too_far.ensures.0 c.if-is_too_far.true)

pub describe-what-requires-clause-stands : goal.describe-what-requires-clause-stands
describe-what-requires-clause-stands c = staged_placed c.args.memory.now c.args.at.number c.args.at.tag c.args.at.kind c.requires.settled c.requires.placed

pub describe-what-requires-clause-there : goal.describe-what-requires-clause-there
describe-what-requires-clause-there c = is_there_file c.args.memory.now c.args.at.number c.args.at.tag c.args.at.kind c.requires.live

pub absent_pages-wanted-requires-clause-stands : goal.absent_pages-wanted-requires-clause-stands
absent_pages-wanted-requires-clause-stands c = staged_placed c.args.memory.now c.args.at.number c.args.at.tag c.args.at.kind c.requires.settled c.requires.placed

pub absent_pages-wanted-requires-clause-file : goal.absent_pages-wanted-requires-clause-file
absent_pages-wanted-requires-clause-file c = subst (IsLiveIn c.args.memory.now c.args.at.number c.args.at.tag) c.requires.file c.requires.live

pub absent_pages-wanted-requires-clause-fits : goal.absent_pages-wanted-requires-clause-fits
absent_pages-wanted-requires-clause-fits c = not_far c.is_too_far.result (c.args.offset + length c.args.bytes.now) c.is_too_far.ensures c.if-is_too_far.false

pub ask_quota-requires-clause-stands : goal.ask_quota-requires-clause-stands
ask_quota-requires-clause-stands c = staged_placed c.args.memory.now c.args.at.number c.args.at.tag c.args.at.kind c.requires.settled c.requires.placed

pub write_charged-requires-clause-stands : goal.write_charged-requires-clause-stands
write_charged-requires-clause-stands c = staged_placed c.args.memory.now c.args.at.number c.args.at.tag c.args.at.kind c.requires.settled c.requires.placed

pub write_charged-requires-clause-file : goal.write_charged-requires-clause-file
write_charged-requires-clause-file c = subst (IsLiveIn c.args.memory.now c.args.at.number c.args.at.tag) c.requires.file c.requires.live

pub returns-in-Some-clause-ends : goal.returns-in-Some-clause-ends
returns-in-Some-clause-ends c = λ all place stands p.
    let memory = c.args.memory.now in
    let at = c.args.at in
    let offset = c.args.offset in
    let bytes = c.args.bytes.now in
    let is = as_kind memory all place at.number at.tag at.kind kind.File c.requires.file p in
    let has = file_of memory all place at.number at.tag kind.File is in
    let was = settled_kept memory all c.requires.settled stands in
    let absent = c.absent_pages-wanted.result.absent in
    asked_there memory all place at.number at.tag is offset bytes
    (not_far c.is_too_far.result (offset + length bytes) c.is_too_far.ensures c.if-is_too_far.false)
    c.describe-what.result (c.describe-what.ensures.is place.path all is.entry is.fileset has) absent (c.from.result * absent)
    (c.absent_pages-wanted.ensures.count place.path all is.entry is.fileset has)
    (ap (λ n. n * absent) c.from.ensures) c.ask_quota.result (c.ask_quota.ensures.asked all is.entry is.fileset is.has.original is.has.there was.books)
    ∙ c.in-Some.is

pub returns-then-not-wanted-clause-ends : goal.returns-then-not-wanted-clause-ends
returns-then-not-wanted-clause-ends c = λ all place stands p.
    let memory = c.args.memory.now in
    let at = c.args.at in
    let offset = c.args.offset in
    let bytes = c.args.bytes.now in
    let is = as_kind memory all place at.number at.tag at.kind kind.File c.requires.file p in
    let has = file_of memory all place at.number at.tag kind.File is in
    let was = settled_kept memory all c.requires.settled stands in
    let absent = c.absent_pages-wanted.result.absent in
    asked_there memory all place at.number at.tag is offset bytes
    (not_far c.is_too_far.result (offset + length bytes) c.is_too_far.ensures c.if-is_too_far.false)
    c.describe-what.result (c.describe-what.ensures.is place.path all is.entry is.fileset has) absent (c.from.result * absent)
    (c.absent_pages-wanted.ensures.count place.path all is.entry is.fileset has)
    (ap (λ n. n * absent) c.from.ensures) c.ask_quota.result (c.ask_quota.ensures.asked all is.entry is.fileset is.has.original is.has.there was.books)
    ∙ c.in_default.is

pub returns-then-not-wanted-clause-wants : goal.returns-then-not-wanted-clause-wants
returns-then-not-wanted-clause-wants c = λ all place stands p _.
    let memory = c.args.memory.now in
    let at = c.args.at in
    let offset = c.args.offset in
    let bytes = c.args.bytes.now in
    let is = as_kind memory all place at.number at.tag at.kind kind.File c.requires.file p in
    let has = file_of memory all place at.number at.tag kind.File is in
    let was = settled_kept memory all c.requires.settled stands in
    let absent = c.absent_pages-wanted.result.absent in
    takes_absent memory all place at.number at.tag is offset bytes absent
    (c.absent_pages-wanted.ensures.count place.path all is.entry is.fileset has)
    (c.absent_pages-wanted.ensures.closed (not_set c.absent_pages-wanted.result.are_open c.if-not-wanted.true))

pub returns-in_err-write_charged-clause-ends : goal.returns-in_err-write_charged-clause-ends
returns-in_err-write_charged-clause-ends c = λ all place stands p.
    let memory = c.args.memory.now in
    let at = c.args.at in
    let offset = c.args.offset in
    let bytes = c.args.bytes.now in
    let is = as_kind memory all place at.number at.tag at.kind kind.File c.requires.file p in
    let has = file_of memory all place at.number at.tag kind.File is in
    let was = settled_kept memory all c.requires.settled stands in
    let absent = c.absent_pages-wanted.result.absent in
    ends_wanting c.write_charged.new.memory all (Write place offset bytes) c.from_residual.result c.in_err-write_charged.field-0.0 c.from_residual.ensures.1
    (asked_there memory all place at.number at.tag is offset bytes
    (not_far c.is_too_far.result (offset + length bytes) c.is_too_far.ensures c.if-is_too_far.false)
    c.describe-what.result (c.describe-what.ensures.is place.path all is.entry is.fileset has) absent (c.from.result * absent)
    (c.absent_pages-wanted.ensures.count place.path all is.entry is.fileset has)
    (ap (λ n. n * absent) c.from.ensures) c.ask_quota.result (c.ask_quota.ensures.asked all is.entry is.fileset is.has.original is.has.there was.books)
    ∙ c.in_default.is)

pub returns-in_err-write_charged-clause-wants : goal.returns-in_err-write_charged-clause-wants
returns-in_err-write_charged-clause-wants c = λ all place stands p.
    let memory = c.args.memory.now in
    let at = c.args.at in
    let offset = c.args.offset in
    let bytes = c.args.bytes.now in
    let is = as_kind memory all place at.number at.tag at.kind kind.File c.requires.file p in
    let has = file_of memory all place at.number at.tag kind.File is in
    let was = settled_kept memory all c.requires.settled stands in
    let absent = c.absent_pages-wanted.result.absent in
    wants_from (TakesSpace all (Write place offset bytes)) c.from_residual.result c.in_err-write_charged.field-0.0 c.from_residual.ensures.1
    (λ wanted. takes_wanted memory all place at.number at.tag is offset bytes (c.in_err-write_charged.ensures.cause wanted))

pub returns-clause-ends : goal.returns-clause-ends
returns-clause-ends c = λ all place stands p.
    let memory = c.args.memory.now in
    let at = c.args.at in
    let offset = c.args.offset in
    let bytes = c.args.bytes.now in
    let is = as_kind memory all place at.number at.tag at.kind kind.File c.requires.file p in
    let has = file_of memory all place at.number at.tag kind.File is in
    let was = settled_kept memory all c.requires.settled stands in
    let absent = c.absent_pages-wanted.result.absent in
    let node = its memory all place at.number at.tag is in
    let ids = ids_there (node_at is.fileset.tree place.path) node.node node.there c.describe-what.result (c.describe-what.ensures.is place.path all is.entry is.fileset has).node in
    (answers_written memory all place at.number at.tag is offset bytes
    (not_far c.is_too_far.result (offset + length bytes) c.is_too_far.ensures c.if-is_too_far.false)
    c.describe-what.result.uid c.describe-what.result.gid (c.from.result * absent) ids absent
    (c.absent_pages-wanted.ensures.count place.path all is.entry is.fileset has)
    (ap (λ n. n * absent) c.from.ensures) c.write_charged.new.memory was (c.in_ok-write_charged.ensures.ok place.path all is.entry is.fileset has)
    (c.in_ok-write_charged.ensures.parents place.path all is.entry is.fileset has was.parents) c.in_ok-write_charged.ensures.charged
    (asked_there memory all place at.number at.tag is offset bytes
    (not_far c.is_too_far.result (offset + length bytes) c.is_too_far.ensures c.if-is_too_far.false)
    c.describe-what.result (c.describe-what.ensures.is place.path all is.entry is.fileset has) absent (c.from.result * absent)
    (c.absent_pages-wanted.ensures.count place.path all is.entry is.fileset has)
    (ap (λ n. n * absent) c.from.ensures) c.ask_quota.result (c.ask_quota.ensures.asked all is.entry is.fileset is.has.original is.has.there was.books)
    ∙ c.in_default.is))

pub write_charged-requires-clause-writable : goal.write_charged-requires-clause-writable
write_charged-requires-clause-writable c = c.absent_pages-wanted.ensures.opened.0 (is_set c.absent_pages-wanted.result.are_open c.if-not-wanted.false)
