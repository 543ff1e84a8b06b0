use Rattle.std.proofs.Common.{◌<◌, IsSome, slice_get, sym, ap, subst, rules}
use Rattle.domain_memory.proofs.OfStandingLaws.FilesetPut.{stood_in}
use Rattle.domain_memory.proofs.KeptStands.{kept_joined}
use Rattle.domain_memory.specs.Staged.{staged_in}
use Rattle.domain_memory.specs.Slots.{slot_in}
use Rattle.domain_changes.proofs.KeptParts.{asks_slot, back_kept}
use Rattle.domain_changes.proofs.LimitsAsks.{its_original, pages_limited, slot_there}
use Rattle.domain_changes.specs.Limits.{SetsLimitsIn}
use Rattle.domain_changes.proofs.BookChanged.{book_back, book_kept, slots_kept}
use Rattle.domain_changes.proofs.LimitsInBook.{last_books_so, last_limited, last_parents_so}
use Rattle.domain_changes.proofs.limits.set_limits.Goals as goal

pub returns-in_err-set_in_pages-clause-back : goal.returns-in_err-set_in_pages-clause-back
returns-in_err-set_in_pages-clause-back c = back_kept c.args.memory.now c.set_in_pages.new.memory (ap (λ s. s.items) c.set_in_pages.ensures.slots) c.set_in_pages.ensures.kept c.requires.back

pub set_in_book-requires : goal.set_in_book-requires
set_in_book-requires c =
    let low : c.args.number < 32 = search rules in
    record { within = asks_slot c.set_in_pages.new.memory c.args.number (back_kept c.args.memory.now c.set_in_pages.new.memory (ap (λ s. s.items) c.set_in_pages.ensures.slots) c.set_in_pages.ensures.kept c.requires.back) low }

pub returns-in_err-set_in_book-clause-kept : goal.returns-in_err-set_in_book-clause-kept
returns-in_err-set_in_book-clause-kept c = kept_joined c.args.memory.now c.set_in_pages.new.memory c.set_in_book.new.memory c.set_in_pages.ensures.kept (slots_kept c.set_in_pages.new.memory c.set_in_book.new.memory c.in_err-set_in_book.ensures.err c.set_in_book.ensures.same)

pub returns-in_err-set_in_book-clause-back : goal.returns-in_err-set_in_book-clause-back
returns-in_err-set_in_book-clause-back c = back_kept c.set_in_pages.new.memory c.set_in_book.new.memory c.in_err-set_in_book.ensures.err (slots_kept c.set_in_pages.new.memory c.set_in_book.new.memory c.in_err-set_in_book.ensures.err c.set_in_book.ensures.same) (back_kept c.args.memory.now c.set_in_pages.new.memory (ap (λ s. s.items) c.set_in_pages.ensures.slots) c.set_in_pages.ensures.kept c.requires.back)

pub returns-clause-kept : goal.returns-clause-kept
returns-clause-kept c =
    let low : c.args.number < 32 = search rules in
    let within = asks_slot c.set_in_pages.new.memory c.args.number (back_kept c.args.memory.now c.set_in_pages.new.memory (ap (λ s. s.items) c.set_in_pages.ensures.slots) c.set_in_pages.ensures.kept c.requires.back) low in
    kept_joined c.args.memory.now c.set_in_pages.new.memory c.set_in_book.new.memory c.set_in_pages.ensures.kept (book_kept c.args.number (SetsLimitsIn c.args.who c.args.limits) c.set_in_pages.new.memory c.set_in_book.new.memory within c.in_ok-set_in_book.ensures.ok)

pub returns-clause-back : goal.returns-clause-back
returns-clause-back c =
    let low : c.args.number < 32 = search rules in
    let within = asks_slot c.set_in_pages.new.memory c.args.number (back_kept c.args.memory.now c.set_in_pages.new.memory (ap (λ s. s.items) c.set_in_pages.ensures.slots) c.set_in_pages.ensures.kept c.requires.back) low in
    book_back c.args.number (SetsLimitsIn c.args.who c.args.limits) c.set_in_pages.new.memory c.set_in_book.new.memory within c.in_ok-set_in_book.ensures.ok (back_kept c.args.memory.now c.set_in_pages.new.memory (ap (λ s. s.items) c.set_in_pages.ensures.slots) c.set_in_pages.ensures.kept c.requires.back)

pub returns-clause-staged : goal.returns-clause-staged
returns-clause-staged c = λ entry has all is fileset there.
    let low : c.args.number < 32 = search rules in
    let within = asks_slot c.set_in_pages.new.memory c.args.number (back_kept c.args.memory.now c.set_in_pages.new.memory (ap (λ s. s.items) c.set_in_pages.ensures.slots) c.set_in_pages.ensures.kept c.requires.back) low in
    let some = subst (λ s. IsSome (slot_in s c.args.number)) (sym (ap (λ s. s.items) c.set_in_pages.ensures.slots)) (slot_there c.args.memory.now c.args.number entry has all is) in
    let limited = pages_limited c.args.number c.args.prefer c.args.who c.args.limits c.args.memory.now c.set_in_pages.new.memory c.requires.fresh c.in_ok-set_in_pages.ensures.ok entry has all is fileset there in
    last_limited c.args.number c.args.who c.args.limits c.set_in_pages.new.memory c.set_in_book.new.memory within c.in_ok-set_in_book.ensures.ok c.args.memory.now c.set_in_pages.ensures.slots entry all fileset some limited

pub returns-clause-books : goal.returns-clause-books
returns-clause-books c = λ entry has all is fileset there are.
    let low : c.args.number < 32 = search rules in
    let within = asks_slot c.set_in_pages.new.memory c.args.number (back_kept c.args.memory.now c.set_in_pages.new.memory (ap (λ s. s.items) c.set_in_pages.ensures.slots) c.set_in_pages.ensures.kept c.requires.back) low in
    let some = subst (λ s. IsSome (slot_in s c.args.number)) (sym (ap (λ s. s.items) c.set_in_pages.ensures.slots)) (slot_there c.args.memory.now c.args.number entry has all is) in
    let limited = pages_limited c.args.number c.args.prefer c.args.who c.args.limits c.args.memory.now c.set_in_pages.new.memory c.requires.fresh c.in_ok-set_in_pages.ensures.ok entry has all is fileset there in
    last_books_so c.args.number c.args.who c.args.limits c.set_in_pages.new.memory c.set_in_book.new.memory within c.in_ok-set_in_book.ensures.ok c.args.memory.now c.set_in_pages.ensures.slots entry all fileset some limited are

pub returns-clause-parents : goal.returns-clause-parents
returns-clause-parents c = λ all is parents.
    let low : c.args.number < 32 = search rules in
    let within = asks_slot c.set_in_pages.new.memory c.args.number (back_kept c.args.memory.now c.set_in_pages.new.memory (ap (λ s. s.items) c.set_in_pages.ensures.slots) c.set_in_pages.ensures.kept c.requires.back) low in
    let its = its_original (slice_get c.args.memory.now.table.slots c.args.number) c.requires.original in
    let stood = stood_in (staged_in c.args.memory.now) all is.stands.slots c.args.number its.0 its.1 in
    let some = subst (λ s. IsSome (slot_in s c.args.number)) (sym (ap (λ s. s.items) c.set_in_pages.ensures.slots)) (slot_there c.args.memory.now c.args.number its.0 its.1 all is) in
    let limited = pages_limited c.args.number c.args.prefer c.args.who c.args.limits c.args.memory.now c.set_in_pages.new.memory c.requires.fresh c.in_ok-set_in_pages.ensures.ok its.0 its.1 all is stood.fileset_was stood.filled in
    last_parents_so c.args.number c.args.who c.args.limits c.set_in_pages.new.memory c.set_in_book.new.memory within c.in_ok-set_in_book.ensures.ok c.args.memory.now c.set_in_pages.ensures.slots its.0 all stood.fileset_was some limited parents
