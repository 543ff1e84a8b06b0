use Rattle.std.proofs.Common.{◌≡◌, ◌∙◌, IsSome, IsSomeAnd, List, Option, Some, None, ap, refl, subst, sym}
use Rattle.std.specs.Option.{option_and_then}
use Rattle.domain_memory.specs.domain_base.declared.place.Kind.TheVariants.{File}
use Rattle.domain_memory.specs.fileset_files.declared.attributes.Attributes.{Attributes}
use Rattle.domain_memory.specs.fileset_files.Changes.{CanSay}
use Rattle.domain_memory.specs.fileset_files.Files.{attributes_of, of_live}
use Rattle.domain_memory.specs.staged_pages.Store.{pages_of}
use Rattle.domain_memory.proofs.OfStoredSet.Lengthened.{can_say}
use Rattle.domain_memory.specs.Slots.{slot_in}
use Rattle.domain_memory.specs.declared.slots.SlotFiles.{SlotFiles}
use Rattle.file_changes.proofs.Asks.{files_in, has_files, its_number, there}
use Rattle.file_changes.proofs.Kept.{back_kept}
use Rattle.file_changes.proofs.Sized.{parents_end, size_end}
use Rattle.file_changes.proofs.sizing.set_size.Goals as goal

pub files_in-slot-requires : goal.files_in-slot-requires
files_in-slot-requires c =
    subst (λ (slots : List (Option SlotFiles)). IsSome (slot_in slots c.args.number)) (sym c.deref.ensures.value) (there c.args.memory.now c.args.number c.requires.stands c.requires.back c.requires.original)

pub attributes-requires : goal.attributes-requires
attributes-requires c =
    has_files c.args.memory.now c.args.number c.requires.stands c.requires.back c.requires.original c.files_in-slot.result.now
    (ap (λ (slots : List (Option SlotFiles)). slot_in slots c.args.number) (sym c.deref.ensures.value) ∙ c.files_in-slot.ensures)

not_live : (o : Option Attributes) → o ≡ None → IsSomeAnd o (λ a. a.kind ≡ File) → ⊥
not_live None none live = live
not_live (Some a) none live = cc

pub unreachable-requires : goal.unreachable-requires
unreachable-requires c =
    let memory = c.args.memory.now in
    let is = ap (λ (slots : List (Option SlotFiles)). slot_in slots c.args.number) (sym c.deref.ensures.value) ∙ c.files_in-slot.ensures in
    let f = has_files memory c.args.number c.requires.stands c.requires.back c.requires.original c.files_in-slot.result.now is in
    not_live (option_and_then (of_live attributes_of) (f.0 c.args.tag)) (sym (c.attributes.ensures f.0 f.1) ∙ c.in_default.is)
    (c.requires.file f.0 (files_in memory c.args.number c.requires.stands c.requires.back c.requires.original c.files_in-slot.result.now is f.0 f.1))

pub set_attributes-requires-clause-files : goal.set_attributes-requires-clause-files
set_attributes-requires-clause-files c =
    has_files c.args.memory.now c.args.number c.requires.stands c.requires.back c.requires.original c.files_in-slot.result.now
    (ap (λ (slots : List (Option SlotFiles)). slot_in slots c.args.number) (sym c.deref.ensures.value) ∙ c.files_in-slot.ensures)

pub set_attributes-requires-clause-live : goal.set_attributes-requires-clause-live
set_attributes-requires-clause-live c = λ chains are.
    let slot = c.files_in-slot.result.now in
    let was = c.in-Some.was in
    let told : option_and_then (of_live attributes_of) (chains c.args.tag) ≡ Some was = sym (c.attributes.ensures chains are) ∙ c.in-Some.is in
    let fit = can_say slot.files.fileset slot.files.tags (pages_of c.args.memory.now.pages) chains are c.args.tag was told 0 in
    subst (λ (v : Attributes). CanSay v c.args.tag chains) (sym c.with_length-value.ensures)
    (record { kind = subst (λ o. IsSomeAnd o (λ (w : Attributes). w.kind ≡ was.kind)) (sym told) refl; named = fit.named; most = fit.most })

pub returns-clause-ok : goal.returns-clause-ok
returns-clause-ok c = λ path all entry fileset has.
    let memory = c.args.memory.now in
    let slot = c.files_in-slot.result.now in
    let is = ap (λ (slots : List (Option SlotFiles)). slot_in slots c.args.number) (sym c.deref.ensures.value) ∙ c.files_in-slot.ensures in
    size_end memory _ refl c.args.number c.args.tag c.args.size c.args.is_logged slot is (its_number memory c.args.number c.requires.stands c.requires.back c.requires.original slot is) c.requires.file c.in-Some.was c.with_length-value.result
    (λ chains are. sym (c.attributes.ensures chains are) ∙ c.in-Some.is) c.with_length-value.ensures c.set_attributes.ensures.beside c.set_attributes.result (λ chains are. c.set_attributes.ensures.together memory.space memory.cells chains are)
    path all entry fileset has

pub returns-clause-parents : goal.returns-clause-parents
returns-clause-parents c = λ path all entry fileset has had.
    let memory = c.args.memory.now in
    let slot = c.files_in-slot.result.now in
    let is = ap (λ (slots : List (Option SlotFiles)). slot_in slots c.args.number) (sym c.deref.ensures.value) ∙ c.files_in-slot.ensures in
    parents_end memory (record memory { pages = c.set_attributes.new.pages }) refl c.args.number c.args.tag c.args.size c.args.is_logged slot is (its_number memory c.args.number c.requires.stands c.requires.back c.requires.original slot is) c.requires.file c.in-Some.was c.with_length-value.result
    (λ chains are. sym (c.attributes.ensures chains are) ∙ c.in-Some.is) c.with_length-value.ensures c.set_attributes.ensures.beside c.set_attributes.result (λ chains are. c.set_attributes.ensures.together memory.space memory.cells chains are)
    path all entry fileset has had

pub returns-clause-back : goal.returns-clause-back
returns-clause-back c = back_kept c.args.memory.now _ refl c.requires.back
