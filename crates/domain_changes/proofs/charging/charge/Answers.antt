use Rattle.std.proofs.Common.{◌<◌, length, rules}
use Rattle.domain_memory.specs.quota_book.Book.{Charges}
use Rattle.domain_changes.proofs.ChargeAsks.{slot_known}
use Rattle.domain_changes.proofs.Charged.{ends_back, ends_books, ends_domain, ends_kept, ends_one, ends_staged}
use Rattle.domain_changes.proofs.KeptParts.{asks_slot}
use Rattle.domain_changes.proofs.charging.charge.Goals as goal

pub charge_book-requires : goal.charge_book-requires
charge_book-requires c =
    let low : c.args.number < 32 = search rules in
    record { within = asks_slot c.args.memory.now c.args.number c.requires.back low }

pub returns-clause-ok : goal.returns-clause-ok
returns-clause-ok c =
    let low : c.args.number < 32 = search rules in
    let within : c.args.number < length c.args.memory.now.slots.items = asks_slot c.args.memory.now c.args.number c.requires.back low in
    ends_one c.charge_book.result c.args.number (Charges c.args.uid c.args.gid c.args.files c.args.blocks) c.args.memory.now c.charge_book.new.memory within c.charge_book.ensures.ok c.charge_book.ensures.err c.charge_book.ensures.same
    (slot_known c.args.memory.now c.args.number c.requires.stands c.requires.original)

pub returns-clause-err : goal.returns-clause-err
returns-clause-err c =
    let low : c.args.number < 32 = search rules in
    let within : c.args.number < length c.args.memory.now.slots.items = asks_slot c.args.memory.now c.args.number c.requires.back low in
    ends_books c.charge_book.result c.args.number (Charges c.args.uid c.args.gid c.args.files c.args.blocks) c.args.memory.now c.charge_book.new.memory within c.charge_book.ensures.ok c.charge_book.ensures.err c.charge_book.ensures.same

pub returns-clause-domain : goal.returns-clause-domain
returns-clause-domain c =
    let low : c.args.number < 32 = search rules in
    let within : c.args.number < length c.args.memory.now.slots.items = asks_slot c.args.memory.now c.args.number c.requires.back low in
    ends_domain c.charge_book.result c.args.number (Charges c.args.uid c.args.gid c.args.files c.args.blocks) c.args.memory.now c.charge_book.new.memory within c.charge_book.ensures.ok c.charge_book.ensures.err c.charge_book.ensures.same

pub returns-clause-staged : goal.returns-clause-staged
returns-clause-staged c =
    let low : c.args.number < 32 = search rules in
    let within : c.args.number < length c.args.memory.now.slots.items = asks_slot c.args.memory.now c.args.number c.requires.back low in
    ends_staged c.charge_book.result c.args.number (Charges c.args.uid c.args.gid c.args.files c.args.blocks) c.args.memory.now c.charge_book.new.memory within c.charge_book.ensures.ok c.charge_book.ensures.err c.charge_book.ensures.same

pub returns-clause-kept : goal.returns-clause-kept
returns-clause-kept c =
    let low : c.args.number < 32 = search rules in
    let within : c.args.number < length c.args.memory.now.slots.items = asks_slot c.args.memory.now c.args.number c.requires.back low in
    ends_kept c.charge_book.result c.args.number (Charges c.args.uid c.args.gid c.args.files c.args.blocks) c.args.memory.now c.charge_book.new.memory within c.charge_book.ensures.ok c.charge_book.ensures.err c.charge_book.ensures.same

pub returns-clause-back : goal.returns-clause-back
returns-clause-back c =
    let low : c.args.number < 32 = search rules in
    let within : c.args.number < length c.args.memory.now.slots.items = asks_slot c.args.memory.now c.args.number c.requires.back low in
    ends_back c.charge_book.result c.args.number (Charges c.args.uid c.args.gid c.args.files c.args.blocks) c.args.memory.now c.charge_book.new.memory within c.charge_book.ensures.ok c.charge_book.ensures.err c.charge_book.ensures.same c.requires.back
