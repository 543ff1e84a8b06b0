use Rattle.std.proofs.Common.{◌≡◌, ◌∙◌, ◌∷◌, [], IsSome, List, Option, ap, subst, sym}
use Rattle.domain_memory.specs.fileset_model.Paths.{first_refusal}
use Rattle.domain_memory.specs.fileset_values.declared.command.Owner.TheVariants as owner
use Rattle.domain_memory.specs.quota_book.Book.{Book, refusal_in}
use Rattle.domain_memory.specs.Slots.{book_in, slot_in}
use Rattle.domain_memory.specs.declared.slots.SlotFiles.{SlotFiles}
use Rattle.domain_memory.specs.Staged.{staged_books}
use Rattle.domain_changes.proofs.ChargeAsks.{asked_so, slot_known}
use Rattle.domain_changes.proofs.charging.ask_quota.Goals as goal

pub book_of-book-requires : goal.book_of-book-requires
book_of-book-requires c =
    subst (λ (slots : List (Option SlotFiles)). IsSome (slot_in slots c.args.number)) (sym c.deref.ensures.value) (slot_known c.args.memory.now c.args.number c.requires.stands c.requires.original)

pub returns-clause-refused : goal.returns-clause-refused
returns-clause-refused c =
    let its : c.book_of-book.result.now.book ≡ staged_books c.args.memory.now c.args.number =
    sym c.book_of-book.ensures ∙ ap (λ (slots : List (Option SlotFiles)). book_in (slot_in slots c.args.number)) c.deref.ensures.value in
    c.refused_by.ensures
    ∙ ap (λ (book : Book). first_refusal (refusal_in book (owner.User c.args.uid) c.args.files c.args.blocks ∷ refusal_in book (owner.Group c.args.gid) c.args.files c.args.blocks ∷ refusal_in book owner.Fileset c.args.files c.args.blocks ∷ [])) its

pub returns-clause-asked : goal.returns-clause-asked
returns-clause-asked c =
    let its : c.book_of-book.result.now.book ≡ staged_books c.args.memory.now c.args.number =
    sym c.book_of-book.ensures ∙ ap (λ (slots : List (Option SlotFiles)). book_in (slot_in slots c.args.number)) c.deref.ensures.value in
    asked_so c.args.memory.now c.args.number c.args.uid c.args.gid c.args.files c.args.blocks c.refused_by.result (c.refused_by.ensures
    ∙ ap (λ (book : Book). first_refusal (refusal_in book (owner.User c.args.uid) c.args.files c.args.blocks ∷ refusal_in book (owner.Group c.args.gid) c.args.files c.args.blocks ∷ refusal_in book owner.Fileset c.args.files c.args.blocks ∷ [])) its)
