use Rattle.std.proofs.Common.{◌∙◌, IsSome, List, Option, ap, arith, subst, sym}
use Rattle.domain_memory.specs.Slots.{slot_in}
use Rattle.domain_memory.specs.declared.slots.SlotFiles.{SlotFiles}
use Rattle.file_changes.proofs.Asks.{files_by, has_files, there as slot_there}
use Rattle.file_changes.proofs.Looked.{closed, far, lacking, there}
use Rattle.file_changes.proofs.looking.look_at_page.Goals as goal

pub files_in-slot-requires : goal.files_in-slot-requires
files_in-slot-requires c =
    subst (λ (slots : List (Option SlotFiles)). IsSome (slot_in slots c.args.number)) (sym c.deref.ensures.value) (slot_there c.args.memory.now c.args.number c.requires.stands c.requires.back c.requires.original)

pub kept_of-requires : goal.kept_of-requires
kept_of-requires c =
    has_files c.args.memory.now c.args.number c.requires.stands c.requires.back c.requires.original c.files_in-slot.result.now
    (ap (λ (slots : List (Option SlotFiles)). slot_in slots c.args.number) (sym c.deref.ensures.value) ∙ c.files_in-slot.ensures)

pub page_home-requires : goal.page_home-requires
page_home-requires c =
    has_files c.args.memory.now c.args.number c.requires.stands c.requires.back c.requires.original c.files_in-slot.result.now
    (ap (λ (slots : List (Option SlotFiles)). slot_in slots c.args.number) (sym c.deref.ensures.value) ∙ c.files_in-slot.ensures)

pub returns-in_default : goal.returns-in_default
returns-in_default c = λ chains are.
    let is = ap (λ (slots : List (Option SlotFiles)). slot_in slots c.args.number) (sym c.deref.ensures.value) ∙ c.files_in-slot.ensures in
    c.in_default.ensures.none chains (files_by c.args.memory.now c.args.number c.requires.stands c.requires.back c.requires.original c.files_in-slot.result.now is chains are)

pub returns-then-page-keep : goal.returns-then-page-keep
returns-then-page-keep c =
    let is = ap (λ (slots : List (Option SlotFiles)). slot_in slots c.args.number) (sym c.deref.ensures.value) ∙ c.files_in-slot.ensures in
    let by = files_by c.args.memory.now c.args.number c.requires.stands c.requires.back c.requires.original c.files_in-slot.result.now is in (
      (λ chains are. c.in-Some.ensures.file chains (by chains are)),
      (λ chains are. far chains c.args.tag c.args.page c.in-Some.keep (c.in-Some.ensures.keep chains (by chains are)) (omega (arith, c.if-page-keep.true))),
    )

pub returns-in-At : goal.returns-in-At
returns-in-At c =
    let is = ap (λ (slots : List (Option SlotFiles)). slot_in slots c.args.number) (sym c.deref.ensures.value) ∙ c.files_in-slot.ensures in
    let by = files_by c.args.memory.now c.args.number c.requires.stands c.requires.back c.requires.original c.files_in-slot.result.now is in (
      (λ chains are. c.in-Some.ensures.file chains (by chains are)),
      (λ chains are. there chains c.args.tag c.args.page c.in-Some.keep (c.in-Some.ensures.keep chains (by chains are)) (omega (arith, c.if-page-keep.false)) c.in-At.field-0 (sym (c.page_home.ensures chains (by chains are)) ∙ c.in-At.is)),
    )

pub returns-in-Hole : goal.returns-in-Hole
returns-in-Hole c =
    let is = ap (λ (slots : List (Option SlotFiles)). slot_in slots c.args.number) (sym c.deref.ensures.value) ∙ c.files_in-slot.ensures in
    let by = files_by c.args.memory.now c.args.number c.requires.stands c.requires.back c.requires.original c.files_in-slot.result.now is in (
      (λ chains are. c.in-Some.ensures.file chains (by chains are)),
      (λ chains are. closed chains c.args.tag c.args.page (sym (c.page_home.ensures chains (by chains are)) ∙ c.in-Hole.is)),
    )

pub returns-in-Absent : goal.returns-in-Absent
returns-in-Absent c =
    let is = ap (λ (slots : List (Option SlotFiles)). slot_in slots c.args.number) (sym c.deref.ensures.value) ∙ c.files_in-slot.ensures in
    let by = files_by c.args.memory.now c.args.number c.requires.stands c.requires.back c.requires.original c.files_in-slot.result.now is in (
      (λ chains are. c.in-Some.ensures.file chains (by chains are)),
      (λ chains are. lacking chains c.args.tag c.args.page c.in-Some.keep (c.in-Some.ensures.keep chains (by chains are)) (omega (arith, c.if-page-keep.false)) (sym (c.page_home.ensures chains (by chains are)) ∙ c.in-Absent.is)),
    )
