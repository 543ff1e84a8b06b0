use Rattle.std.proofs.Common.{◌≡◌, ◌∙◌, ◌≤◌, ℕ, IsSome, IsSomeAnd, List, OnOk, Option, Some, None, length, rules, vec_len, ap, refl, subst, sym}
use Rattle.std.specs.Option.{option_and_then}
use Rattle.domain_memory.specs.domain_base.declared.place.Kind.TheVariants.{File}
use Rattle.domain_memory.specs.fileset_files.declared.attributes.Attributes.{Attributes}
use Rattle.domain_memory.specs.fileset_files.Files.{attributes_of, of_live}
use Rattle.domain_memory.specs.Slots.{slot_in}
use Rattle.domain_memory.specs.declared.slots.SlotFiles.{SlotFiles}
use Rattle.file_changes.proofs.Asks.{files_in, has_files, its_number, there}
use Rattle.file_changes.proofs.Cut.{cut_end, file_end, parents_end}
use Rattle.file_changes.proofs.Kept.{back_kept}
use Rattle.file_changes.proofs.truncating.truncate.Goals as goal

pub files_in-slot-requires : goal.files_in-slot-requires
files_in-slot-requires c =
    subst (λ (slots : List (Option SlotFiles)). IsSome (slot_in slots c.args.number)) (sym c.deref.ensures.value) (there c.args.memory.now c.args.number c.requires.stands c.requires.back c.requires.original)

pub truncate-requires-clause-files : goal.truncate-requires-clause-files
truncate-requires-clause-files c =
    has_files c.args.memory.now c.args.number c.requires.stands c.requires.back c.requires.original c.files_in-slot.result.now
    (ap (λ (slots : List (Option SlotFiles)). slot_in slots c.args.number) (sym c.deref.ensures.value) ∙ c.files_in-slot.ensures)

is_there : (o : Option Attributes) → IsSomeAnd o (λ a. a.kind ≡ File) → IsSome o
is_there None live = absurd live
is_there (Some a) live = refl

pub truncate-requires-clause-live : goal.truncate-requires-clause-live
truncate-requires-clause-live c = λ chains are.
    let is = ap (λ (slots : List (Option SlotFiles)). slot_in slots c.args.number) (sym c.deref.ensures.value) ∙ c.files_in-slot.ensures in
    is_there (option_and_then (of_live attributes_of) (chains c.args.tag))
    (c.requires.file chains (files_in c.args.memory.now c.args.number c.requires.stands c.requires.back c.requires.original c.files_in-slot.result.now is chains are))

pub returns-in_err-left-clause-back : goal.returns-in_err-left-clause-back
returns-in_err-left-clause-back c = back_kept c.args.memory.now _ refl c.requires.back

pub returns-in_err-list_left-clause-back : goal.returns-in_err-list_left-clause-back
returns-in_err-list_left-clause-back c = back_kept c.args.memory.now _ refl c.requires.back

pub returns-clause-ok : goal.returns-clause-ok
returns-clause-ok c = λ path all entry fileset has.
    let memory = c.args.memory.now in
    let slot = c.files_in-slot.result.now in
    let is = ap (λ (slots : List (Option SlotFiles)). slot_in slots c.args.number) (sym c.deref.ensures.value) ∙ c.files_in-slot.ensures in
    let whole : vec_len c.list_left.new.listed ≡ length c.list_left.new.listed.items = search rules in
    cut_end memory (record memory { pages = c.truncate.new.pages; list = c.reserve.new.self; listed = c.list_left.new.listed }) refl c.reserve.ensures.list c.reserve.ensures.room c.args.number c.args.tag c.args.size slot is (its_number memory c.args.number c.requires.stands c.requires.back c.requires.original slot is) c.requires.file
    c.in_ok-left.left c.in_ok-list_left.ensures.ok c.in_ok-left.ensures.ok (λ chains are. c.in_ok-left.ensures.together memory.space memory.cells chains are) c.truncate.ensures.beside c.reserve.result (subst (λ (n : ℕ). OnOk c.reserve.result (n ≤ c.reserve.new.self.room)) (c.len.ensures ∙ whole) c.reserve.ensures.ok) path all entry fileset has

pub returns-clause-parents : goal.returns-clause-parents
returns-clause-parents c = λ path all entry fileset has had.
    let memory = c.args.memory.now in
    let slot = c.files_in-slot.result.now in
    let is = ap (λ (slots : List (Option SlotFiles)). slot_in slots c.args.number) (sym c.deref.ensures.value) ∙ c.files_in-slot.ensures in
    parents_end memory (record memory { pages = c.truncate.new.pages; list = c.reserve.new.self; listed = c.list_left.new.listed }) refl c.reserve.ensures.list c.reserve.ensures.room c.args.number c.args.tag c.args.size slot is (its_number memory c.args.number c.requires.stands c.requires.back c.requires.original slot is) c.requires.file
    c.in_ok-left.left c.in_ok-list_left.ensures.ok c.in_ok-left.ensures.ok (λ chains are. c.in_ok-left.ensures.together memory.space memory.cells chains are) c.truncate.ensures.beside c.reserve.result path all entry fileset has had

pub returns-clause-file : goal.returns-clause-file
returns-clause-file c = λ path all entry fileset has.
    let memory = c.args.memory.now in
    let slot = c.files_in-slot.result.now in
    let is = ap (λ (slots : List (Option SlotFiles)). slot_in slots c.args.number) (sym c.deref.ensures.value) ∙ c.files_in-slot.ensures in
    file_end memory (record memory { pages = c.truncate.new.pages; list = c.reserve.new.self; listed = c.list_left.new.listed }) refl c.reserve.ensures.list c.reserve.ensures.room c.args.number c.args.tag c.args.size slot is (its_number memory c.args.number c.requires.stands c.requires.back c.requires.original slot is) c.requires.file
    c.in_ok-left.left c.in_ok-list_left.ensures.ok c.in_ok-left.ensures.ok (λ chains are. c.in_ok-left.ensures.together memory.space memory.cells chains are) c.truncate.ensures.beside c.reserve.result path all entry fileset has

pub returns-clause-back : goal.returns-clause-back
returns-clause-back c = back_kept c.args.memory.now _ refl c.requires.back
