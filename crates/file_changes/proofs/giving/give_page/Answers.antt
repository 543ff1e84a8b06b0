use Rattle.std.proofs.Common.{◌∙◌, IsSome, List, Option, ap, refl, subst, sym}
use Rattle.domain_memory.specs.staged_pages.Store.{pages_of}
use Rattle.domain_memory.specs.Slots.{slot_in}
use Rattle.domain_memory.specs.declared.slots.SlotFiles.{SlotFiles}
use Rattle.file_changes.proofs.Asks.{files_in, has_together, its_number, there}
use Rattle.file_changes.proofs.Calls.{give_none}
use Rattle.file_changes.proofs.Given.{given_end, open_end, parents_end}
use Rattle.file_changes.proofs.Kept.{back_kept, give_kept, parts_kept}
use Rattle.file_changes.proofs.giving.give_page.Goals as goal

pub files_in-slot-requires : goal.files_in-slot-requires
files_in-slot-requires c =
    subst (λ (slots : List (Option SlotFiles)). IsSome (slot_in slots c.args.number)) (sym c.deref.ensures.value) (there c.args.memory.now c.args.number c.requires.stands c.requires.back c.requires.original)

pub give_in-requires-clause-together : goal.give_in-requires-clause-together
give_in-requires-clause-together c =
    has_together c.args.memory.now c.args.number c.requires.stands c.requires.back c.requires.original c.files_in-slot.result.now
    (ap (λ (slots : List (Option SlotFiles)). slot_in slots c.args.number) (sym c.deref.ensures.value) ∙ c.files_in-slot.ensures)

pub give_in-requires-clause-grows : goal.give_in-requires-clause-grows
give_in-requires-clause-grows c = λ chains together.
    c.requires.lacks chains
    (files_in c.args.memory.now c.args.number c.requires.stands c.requires.back c.requires.original c.files_in-slot.result.now
    (ap (λ (slots : List (Option SlotFiles)). slot_in slots c.args.number) (sym c.deref.ensures.value) ∙ c.files_in-slot.ensures) chains together.files)

pub returns-clause-ok : goal.returns-clause-ok
returns-clause-ok c = λ path all entry fileset has.
    let memory = c.args.memory.now in
    let slot = c.files_in-slot.result.now in
    let is = ap (λ (slots : List (Option SlotFiles)). slot_in slots c.args.number) (sym c.deref.ensures.value) ∙ c.files_in-slot.ensures in
    let t = has_together memory c.args.number c.requires.stands c.requires.back c.requires.original slot is in
    let k = give_kept slot.files.fileset slot.files.tags c.args.tag c.args.page c.args.bytes c.args.prefer memory.frame.version t.0 memory.space c.give_in.new.space memory.cells c.give_in.new.cells (pages_of memory.pages) (pages_of c.give_in.new.pages) c.give_in.result
    (c.give_in.ensures.ok t.0 t.1) (c.give_in.ensures.none t.0 t.1) c.give_in.ensures.cells in
    given_end memory _ refl k.spaces c.args.number c.args.tag c.args.page c.args.bytes c.args.prefer slot is (its_number memory c.args.number c.requires.stands c.requires.back c.requires.original slot is) c.requires.file c.requires.lacks c.requires.small c.give_in.result c.give_in.ensures.ok
    path all entry fileset has

pub returns-clause-parents : goal.returns-clause-parents
returns-clause-parents c = λ path all entry fileset has had.
    let memory = c.args.memory.now in
    let slot = c.files_in-slot.result.now in
    let is = ap (λ (slots : List (Option SlotFiles)). slot_in slots c.args.number) (sym c.deref.ensures.value) ∙ c.files_in-slot.ensures in
    let t = has_together memory c.args.number c.requires.stands c.requires.back c.requires.original slot is in
    let k = give_kept slot.files.fileset slot.files.tags c.args.tag c.args.page c.args.bytes c.args.prefer memory.frame.version t.0 memory.space c.give_in.new.space memory.cells c.give_in.new.cells (pages_of memory.pages) (pages_of c.give_in.new.pages) c.give_in.result
    (c.give_in.ensures.ok t.0 t.1) (c.give_in.ensures.none t.0 t.1) c.give_in.ensures.cells in
    parents_end memory (record memory { pages = c.give_in.new.pages; space = c.give_in.new.space; cells = c.give_in.new.cells }) refl k.spaces c.args.number c.args.tag c.args.page c.args.bytes c.args.prefer slot is (its_number memory c.args.number c.requires.stands c.requires.back c.requires.original slot is) c.requires.file c.requires.lacks c.requires.small c.give_in.result c.give_in.ensures.ok
    path all entry fileset has had

pub returns-clause-open_still : goal.returns-clause-open_still
returns-clause-open_still c = λ path all entry fileset has.
    let memory = c.args.memory.now in
    let slot = c.files_in-slot.result.now in
    let is = ap (λ (slots : List (Option SlotFiles)). slot_in slots c.args.number) (sym c.deref.ensures.value) ∙ c.files_in-slot.ensures in
    let t = has_together memory c.args.number c.requires.stands c.requires.back c.requires.original slot is in
    let k = give_kept slot.files.fileset slot.files.tags c.args.tag c.args.page c.args.bytes c.args.prefer memory.frame.version t.0 memory.space c.give_in.new.space memory.cells c.give_in.new.cells (pages_of memory.pages) (pages_of c.give_in.new.pages) c.give_in.result
    (c.give_in.ensures.ok t.0 t.1) (c.give_in.ensures.none t.0 t.1) c.give_in.ensures.cells in
    open_end memory (record memory { pages = c.give_in.new.pages; space = c.give_in.new.space; cells = c.give_in.new.cells }) refl k.spaces c.args.number c.args.tag c.args.page c.args.bytes c.args.prefer slot is (its_number memory c.args.number c.requires.stands c.requires.back c.requires.original slot is) c.requires.file c.requires.lacks c.requires.small c.give_in.result c.give_in.ensures.ok
    path all entry fileset has

pub returns-clause-kept : goal.returns-clause-kept
returns-clause-kept c =
    let memory = c.args.memory.now in
    let slot = c.files_in-slot.result.now in
    let is = ap (λ (slots : List (Option SlotFiles)). slot_in slots c.args.number) (sym c.deref.ensures.value) ∙ c.files_in-slot.ensures in
    let t = has_together memory c.args.number c.requires.stands c.requires.back c.requires.original slot is in
    let k = give_kept slot.files.fileset slot.files.tags c.args.tag c.args.page c.args.bytes c.args.prefer memory.frame.version t.0 memory.space c.give_in.new.space memory.cells c.give_in.new.cells (pages_of memory.pages) (pages_of c.give_in.new.pages) c.give_in.result
    (c.give_in.ensures.ok t.0 t.1) (c.give_in.ensures.none t.0 t.1) c.give_in.ensures.cells in
    parts_kept memory _ refl c.give_in.ensures.before k

pub returns-clause-back : goal.returns-clause-back
returns-clause-back c = back_kept c.args.memory.now _ refl c.requires.back

pub returns-clause-cause : goal.returns-clause-cause
returns-clause-cause c =
    let memory = c.args.memory.now in
    let slot = c.files_in-slot.result.now in
    let is = ap (λ (slots : List (Option SlotFiles)). slot_in slots c.args.number) (sym c.deref.ensures.value) ∙ c.files_in-slot.ensures in
    let t = has_together memory c.args.number c.requires.stands c.requires.back c.requires.original slot is in
    give_none memory c.args.number c.args.tag c.args.page t.0 (files_in memory c.args.number c.requires.stands c.requires.back c.requires.original slot is t.0 t.1.files) c.give_in.new.space c.give_in.result (c.give_in.ensures.none t.0 t.1)
