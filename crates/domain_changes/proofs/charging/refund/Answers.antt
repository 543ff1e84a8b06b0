use Rattle.std.proofs.Common.{◌<◌, length, rules}
use Rattle.domain_memory.specs.quota_book.Book.{Refunds, used}
use Rattle.domain_memory.specs.Staged.{staged_books}
use Rattle.domain_changes.proofs.BookChanged.{book_back, book_kept, one_book, staged_same, still_staged}
use Rattle.domain_changes.proofs.ChargeAsks.{all_known, slot_known}
use Rattle.domain_changes.proofs.KeptParts.{asks_slot}
use Rattle.domain_changes.proofs.charging.refund.Goals as goal

pub refund_book-requires-clause-within : goal.refund_book-requires-clause-within
refund_book-requires-clause-within c =
    let low : c.args.number < 32 = search rules in
    asks_slot c.args.memory.now c.args.number c.requires.back low

pub refund_book-requires-clause-enough : goal.refund_book-requires-clause-enough
refund_book-requires-clause-enough c = all_known c.args.uid c.args.gid c.args.files c.args.blocks (used (staged_books c.args.memory.now c.args.number)) c.requires.enough

pub returns-clause-refunds : goal.returns-clause-refunds
returns-clause-refunds c =
    let low : c.args.number < 32 = search rules in
    let within : c.args.number < length c.args.memory.now.slots.items = asks_slot c.args.memory.now c.args.number c.requires.back low in
    one_book c.args.number (Refunds c.args.uid c.args.gid c.args.files c.args.blocks) c.args.memory.now c.refund_book.new.memory within c.refund_book.ensures (slot_known c.args.memory.now c.args.number c.requires.stands c.requires.original)

pub returns-clause-domain : goal.returns-clause-domain
returns-clause-domain c =
    let low : c.args.number < 32 = search rules in
    let within : c.args.number < length c.args.memory.now.slots.items = asks_slot c.args.memory.now c.args.number c.requires.back low in
    staged_same c.args.number (Refunds c.args.uid c.args.gid c.args.files c.args.blocks) c.args.memory.now c.refund_book.new.memory within c.refund_book.ensures

pub returns-clause-staged : goal.returns-clause-staged
returns-clause-staged c =
    let low : c.args.number < 32 = search rules in
    let within : c.args.number < length c.args.memory.now.slots.items = asks_slot c.args.memory.now c.args.number c.requires.back low in
    still_staged c.args.number (Refunds c.args.uid c.args.gid c.args.files c.args.blocks) c.args.memory.now c.refund_book.new.memory within c.refund_book.ensures

pub returns-clause-kept : goal.returns-clause-kept
returns-clause-kept c =
    let low : c.args.number < 32 = search rules in
    let within : c.args.number < length c.args.memory.now.slots.items = asks_slot c.args.memory.now c.args.number c.requires.back low in
    book_kept c.args.number (Refunds c.args.uid c.args.gid c.args.files c.args.blocks) c.args.memory.now c.refund_book.new.memory within c.refund_book.ensures

pub returns-clause-back : goal.returns-clause-back
returns-clause-back c =
    let low : c.args.number < 32 = search rules in
    let within : c.args.number < length c.args.memory.now.slots.items = asks_slot c.args.memory.now c.args.number c.requires.back low in
    book_back c.args.number (Refunds c.args.uid c.args.gid c.args.files c.args.blocks) c.args.memory.now c.refund_book.new.memory within c.refund_book.ensures c.requires.back

pub returns-clause-same : goal.returns-clause-same
returns-clause-same c = c.refund_book.ensures.same
