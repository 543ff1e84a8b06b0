use Rattle.std.proofs.Common.{◌≡◌, ◌∙◌, IsSome, List, Option, Some, None, ap, subst, sym, true≢false}
use Rattle.std.specs.Option.{option_and_then}
use Rattle.domain_memory.specs.fileset_files.declared.attributes.Attributes.{Attributes}
use Rattle.domain_memory.specs.fileset_files.Files.{attributes_of, of_live}
use Rattle.domain_memory.specs.Slots.{slot_in}
use Rattle.domain_memory.specs.declared.slots.SlotFiles.{SlotFiles}
use Rattle.file_changes.proofs.Asks.{files_by, files_in, has_files, there}
use Rattle.file_changes.proofs.Node.{what_is}
use Rattle.file_changes.proofs.describing.describe.Goals as goal

pub files_in-slot-requires : goal.files_in-slot-requires
files_in-slot-requires c =
    subst (λ (slots : List (Option SlotFiles)). IsSome (slot_in slots c.args.number)) (sym c.deref.ensures.value) (there c.args.memory.now c.args.number c.requires.stands c.requires.back c.requires.original)

pub attributes-requires : goal.attributes-requires
attributes-requires c =
    has_files c.args.memory.now c.args.number c.requires.stands c.requires.back c.requires.original c.files_in-slot.result.now
    (ap (λ (slots : List (Option SlotFiles)). slot_in slots c.args.number) (sym c.deref.ensures.value) ∙ c.files_in-slot.ensures)

none_there : (o : Option Attributes) → o ≡ None → IsSome o → ⊥
none_there None none there = true≢false (sym there)
none_there (Some a) none there = cc

pub unreachable-requires : goal.unreachable-requires
unreachable-requires c =
    let memory = c.args.memory.now in
    let is = ap (λ (slots : List (Option SlotFiles)). slot_in slots c.args.number) (sym c.deref.ensures.value) ∙ c.files_in-slot.ensures in
    let f = has_files memory c.args.number c.requires.stands c.requires.back c.requires.original c.files_in-slot.result.now is in
    none_there (option_and_then (of_live attributes_of) (f.0 c.args.tag)) (sym (c.attributes.ensures f.0 f.1) ∙ c.in_default.is)
    (c.requires.there f.0 (files_in memory c.args.number c.requires.stands c.requires.back c.requires.original c.files_in-slot.result.now is f.0 f.1))

pub returns-clause-is : goal.returns-clause-is
returns-clause-is c = λ path all entry fileset has.
    let memory = c.args.memory.now in
    let is = ap (λ (slots : List (Option SlotFiles)). slot_in slots c.args.number) (sym c.deref.ensures.value) ∙ c.files_in-slot.ensures in
    let f = has_files memory c.args.number c.requires.stands c.requires.back c.requires.original c.files_in-slot.result.now is in
    what_is memory c.args.number c.args.tag path all entry fileset has f.0 (files_in memory c.args.number c.requires.stands c.requires.back c.requires.original c.files_in-slot.result.now is f.0 f.1) c.in-Some.what (sym (c.attributes.ensures f.0 f.1) ∙ c.in-Some.is)

pub returns-clause-said : goal.returns-clause-said
returns-clause-said c = λ chains are.
    let memory = c.args.memory.now in
    let is = ap (λ (slots : List (Option SlotFiles)). slot_in slots c.args.number) (sym c.deref.ensures.value) ∙ c.files_in-slot.ensures in
    sym (c.attributes.ensures chains (files_by memory c.args.number c.requires.stands c.requires.back c.requires.original c.files_in-slot.result.now is chains are)) ∙ c.in-Some.is
