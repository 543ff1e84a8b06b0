use Rattle.std.proofs.Common.{◌∙◌, IsSome, IfSome, List, Option, Some, None, ap, arith, subst, sym}
use Rattle.std.specs.Option.{option_copied, option_map}
use Rattle.domain_memory.specs.Staged.{staged_in}
use Rattle.domain_memory.specs.extent_maps.Runs.{home_at}
use Rattle.domain_memory.specs.Slots.{slot_in}
use Rattle.domain_memory.specs.declared.slots.SlotFiles.{SlotFiles}
use Rattle.domain_memory.proofs.OfStoredSet.Live.{home_is}
use Rattle.file_changes.proofs.Asks.{files_by, files_in, has_files, there}
use Rattle.file_changes.proofs.Looked.{there as page_there}
use Rattle.file_changes.proofs.Paged.{far_page, near_page, page_is}
use Rattle.file_changes.proofs.reading.page_of.Goals as goal

pub files_in-slot-requires : goal.files_in-slot-requires
files_in-slot-requires c =
    subst (λ (slots : List (Option SlotFiles)). IsSome (slot_in slots c.args.number)) (sym c.deref.ensures.value) (there c.args.memory.now c.args.number c.requires.stands c.requires.back c.requires.original)

pub kept_of-requires : goal.kept_of-requires
kept_of-requires c =
    has_files c.args.memory.now c.args.number c.requires.stands c.requires.back c.requires.original c.files_in-slot.result.now
    (ap (λ (slots : List (Option SlotFiles)). slot_in slots c.args.number) (sym c.deref.ensures.value) ∙ c.files_in-slot.ensures)

pub page_home-requires : goal.page_home-requires
page_home-requires c =
    has_files c.args.memory.now c.args.number c.requires.stands c.requires.back c.requires.original c.files_in-slot.result.now
    (ap (λ (slots : List (Option SlotFiles)). slot_in slots c.args.number) (sym c.deref.ensures.value) ∙ c.files_in-slot.ensures)

pub returns-in_err-keep-clause-is : goal.returns-in_err-keep-clause-is
returns-in_err-keep-clause-is c = λ path all entry fileset has.
    let memory = c.args.memory.now in
    let is = ap (λ (slots : List (Option SlotFiles)). slot_in slots c.args.number) (sym c.deref.ensures.value) ∙ c.files_in-slot.ensures in
    let f = has_files memory c.args.number c.requires.stands c.requires.back c.requires.original c.files_in-slot.result.now is in
    absurd (c.in_err-keep.ensures.none f.0 f.1 (c.requires.file f.0 (files_in memory c.args.number c.requires.stands c.requires.back c.requires.original c.files_in-slot.result.now is f.0 f.1)))

pub returns-then-page-from-clause-is : goal.returns-then-page-from-clause-is
returns-then-page-from-clause-is c = λ path all entry fileset has.
    let memory = c.args.memory.now in
    let is = ap (λ (slots : List (Option SlotFiles)). slot_in slots c.args.number) (sym c.deref.ensures.value) ∙ c.files_in-slot.ensures in
    let f = has_files memory c.args.number c.requires.stands c.requires.back c.requires.original c.files_in-slot.result.now is in
    sym (far_page memory c.args.number c.args.tag path all entry fileset has c.requires.file f.0 (files_in memory c.args.number c.requires.stands c.requires.back c.requires.original c.files_in-slot.result.now is f.0 f.1) c.in_ok-keep.keep c.args.page
    (c.in_ok-keep.ensures.keep f.0 f.1) (omega (arith, c.if-page-from.true, c.from.ensures)))

pub returns-in_err-home-clause-is : goal.returns-in_err-home-clause-is
returns-in_err-home-clause-is c = λ path all entry fileset has.
    let memory = c.args.memory.now in
    let is = ap (λ (slots : List (Option SlotFiles)). slot_in slots c.args.number) (sym c.deref.ensures.value) ∙ c.files_in-slot.ensures in
    let f = has_files memory c.args.number c.requires.stands c.requires.back c.requires.original c.files_in-slot.result.now is in
    ap option_copied c.from_residual-in_err-home.ensures
    ∙ sym (near_page memory c.args.number c.args.tag path all entry fileset has c.requires.file f.0 (files_in memory c.args.number c.requires.stands c.requires.back c.requires.original c.files_in-slot.result.now is f.0 f.1) c.in_ok-keep.keep c.args.page
    (c.in_ok-keep.ensures.keep f.0 f.1) (omega (arith, c.if-page-from.false, c.from.ensures))
    ∙ ap (option_map (staged_in memory).contents) (ap home_at (sym (c.page_home.ensures f.0 f.1)) ∙ sym c.home.ensures ∙ c.in_err-home.was))

pub returns-clause-kept : goal.returns-clause-kept
returns-clause-kept c =
    by_get c.get.result (λ chains are.
    let memory = c.args.memory.now in
    let is = ap (λ (slots : List (Option SlotFiles)). slot_in slots c.args.number) (sym c.deref.ensures.value) ∙ c.files_in-slot.ensures in
    let mine = files_by memory c.args.number c.requires.stands c.requires.back c.requires.original c.files_in-slot.result.now is chains are in
    page_there chains c.args.tag c.args.page c.in_ok-keep.keep (c.in_ok-keep.ensures.keep chains mine) (omega (arith, c.if-page-from.false, c.from.ensures)) c.in_ok-home.home
    (sym (c.page_home.ensures chains mine) ∙ home_is c.page_home.result c.in_ok-home.home (sym c.home.ensures ∙ c.in_ok-home.was)))
  where
    by_get : {X : Type 0} {P : Type 0} (o : Option X) → P → IfSome o (λ x. P)
    by_get None is = tt
    by_get (Some x) is = is

pub returns-clause-is : goal.returns-clause-is
returns-clause-is c = λ path all entry fileset has.
    let memory = c.args.memory.now in
    let is = ap (λ (slots : List (Option SlotFiles)). slot_in slots c.args.number) (sym c.deref.ensures.value) ∙ c.files_in-slot.ensures in
    let f = has_files memory c.args.number c.requires.stands c.requires.back c.requires.original c.files_in-slot.result.now is in
    c.get.ensures
    ∙ page_is memory c.args.number c.args.tag path all entry fileset has c.requires.file f.0 (files_in memory c.args.number c.requires.stands c.requires.back c.requires.original c.files_in-slot.result.now is f.0 f.1) c.requires.stands c.requires.original
    c.in_ok-keep.keep c.args.page (c.in_ok-keep.ensures.keep f.0 f.1) (omega (arith, c.if-page-from.false, c.from.ensures)) c.in_ok-home.home
    (sym (c.page_home.ensures f.0 f.1) ∙ home_is c.page_home.result c.in_ok-home.home (sym c.home.ensures ∙ c.in_ok-home.was))
