use Rattle.std.proofs.Common.{IsSome, List, Option, subst, sym}
use Rattle.domain_memory.specs.Slots.{slot_in}
use Rattle.domain_memory.specs.declared.slots.SlotFiles.{SlotFiles}
use Rattle.domain_changes.proofs.ChargeAsks.{slot_known}
use Rattle.domain_changes.proofs.charging.used_by.Goals as goal

pub book_of-book-requires : goal.book_of-book-requires
book_of-book-requires c =
    subst (λ (slots : List (Option SlotFiles)). IsSome (slot_in slots c.args.number)) (sym c.deref.ensures.value) (slot_known c.args.memory.now c.args.number c.requires.stands c.requires.original)
