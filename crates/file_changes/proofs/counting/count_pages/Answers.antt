use Rattle.std.proofs.Common.{◌∙◌, IsSome, List, Option, ap, is_some, subst, sum_by, sym}
use Rattle.domain_memory.specs.Slots.{slot_in}
use Rattle.domain_memory.specs.declared.slots.SlotFiles.{SlotFiles}
use Rattle.domain_memory.specs.Staged.{staged_in}
use Rattle.domain_memory.specs.extent_maps.Runs.{home_at}
use Rattle.file_changes.specs.Counting.{count_in}
use Rattle.file_changes.specs.Reading.{pages_at}
use Rattle.file_changes.proofs.Asks.{files_in, has_files, there}
use Rattle.file_changes.proofs.Counted.{len_counted, some_mapped}
use Rattle.file_changes.proofs.Paged.{far_page, near_page}
use Rattle.file_changes.proofs.counting.count_pages.Goals as goal

pub files_in-slot-requires : goal.files_in-slot-requires
files_in-slot-requires c =
    subst (λ (slots : List (Option SlotFiles)). IsSome (slot_in slots c.args.number)) (sym c.deref.ensures.value) (there c.args.memory.now c.args.number c.requires.stands c.requires.back c.requires.original)

pub kept_of-requires : goal.kept_of-requires
kept_of-requires c =
    has_files c.args.memory.now c.args.number c.requires.stands c.requires.back c.requires.original c.files_in-slot.result.now
    (ap (λ (slots : List (Option SlotFiles)). slot_in slots c.args.number) (sym c.deref.ensures.value) ∙ c.files_in-slot.ensures)

pub runs-requires : goal.runs-requires
runs-requires c =
    has_files c.args.memory.now c.args.number c.requires.stands c.requires.back c.requires.original c.files_in-slot.result.now
    (ap (λ (slots : List (Option SlotFiles)). slot_in slots c.args.number) (sym c.deref.ensures.value) ∙ c.files_in-slot.ensures)

pub unreachable-requires : goal.unreachable-requires
unreachable-requires c =
    let memory = c.args.memory.now in
    let is = ap (λ (slots : List (Option SlotFiles)). slot_in slots c.args.number) (sym c.deref.ensures.value) ∙ c.files_in-slot.ensures in
    let f = has_files memory c.args.number c.requires.stands c.requires.back c.requires.original c.files_in-slot.result.now is in
    c.in_default.ensures.none f.0 f.1 (c.requires.file f.0 (files_in memory c.args.number c.requires.stands c.requires.back c.requires.original c.files_in-slot.result.now is f.0 f.1))

pub returns : goal.returns
returns c = λ path all entry fileset has.
    let memory = c.args.memory.now in
    let is = ap (λ (slots : List (Option SlotFiles)). slot_in slots c.args.number) (sym c.deref.ensures.value) ∙ c.files_in-slot.ensures in
    let f = has_files memory c.args.number c.requires.stands c.requires.back c.requires.original c.files_in-slot.result.now is in
    let mine = files_in memory c.args.number c.requires.stands c.requires.back c.requires.original c.files_in-slot.result.now is f.0 f.1 in
    let kept = c.in-Some.ensures.keep f.0 f.1 in
    let runs = c.in_ok-runs.runs.items in
    c.count_runs.ensures ∙ ap (λ rs. sum_by (count_in c.in-Some.keep) rs) c.as_slice.ensures.value
    ∙ sym (len_counted (pages_at fileset.tree path) runs c.in-Some.keep c.in_ok-runs.ensures.longest
    (λ q below. ap is_some (near_page memory c.args.number c.args.tag path all entry fileset has c.requires.file f.0 mine c.in-Some.keep q kept below) ∙ some_mapped (staged_in memory).contents _ ∙ ap (λ p. is_some (home_at p)) (sym (c.in_ok-runs.ensures.places f.0 f.1 q)))
    (λ q far. ap is_some (far_page memory c.args.number c.args.tag path all entry fileset has c.requires.file f.0 mine c.in-Some.keep q kept far)))
