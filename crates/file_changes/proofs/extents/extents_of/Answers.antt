use Rattle.std.proofs.Common.{◌∙◌, ◌+◌, All, IsSome, List, Option, ap, is_some, subst, sym}
use Rattle.std.proofs.lemmas.List.Elements.{All-weaker}
use Rattle.std.specs.List.{filter_map}
use Rattle.domain_memory.specs.extent_maps.Runs.{home_at, place_of}
use Rattle.domain_memory.specs.fileset_files.Files.{place_at}
use Rattle.domain_memory.specs.fileset_values.declared.reply.ExtentItem.{ExtentItem}
use Rattle.domain_memory.specs.legal_histories.Volumes.{ShowsExtents}
use Rattle.domain_memory.specs.Slots.{slot_in}
use Rattle.domain_memory.specs.declared.slots.SlotFiles.{SlotFiles}
use Rattle.domain_memory.specs.Staged.{staged_in}
use Rattle.file_changes.specs.Extents.{StandsThere, extent_of}
use Rattle.file_changes.specs.Reading.{pages_at}
use Rattle.file_changes.proofs.Asks.{files_by, files_in, has_files, there}
use Rattle.file_changes.proofs.Counted.{some_mapped}
use Rattle.file_changes.proofs.HomesApart.{home_once, home_within}
use Rattle.file_changes.proofs.Paged.{far_page, near_page}
use Rattle.file_changes.proofs.RunsShown.{if_ok, shows, standing}
use Rattle.file_changes.proofs.extents.extents_of.Goals as goal

pub files_in-slot-requires : goal.files_in-slot-requires
files_in-slot-requires c =
    subst (λ (slots : List (Option SlotFiles)). IsSome (slot_in slots c.args.number)) (sym c.deref.ensures.value) (there c.args.memory.now c.args.number c.requires.stands c.requires.back c.requires.original)

pub kept_of-requires : goal.kept_of-requires
kept_of-requires c =
    has_files c.args.memory.now c.args.number c.requires.stands c.requires.back c.requires.original c.files_in-slot.result.now
    (ap (λ (slots : List (Option SlotFiles)). slot_in slots c.args.number) (sym c.deref.ensures.value) ∙ c.files_in-slot.ensures)

pub runs-requires : goal.runs-requires
runs-requires c =
    has_files c.args.memory.now c.args.number c.requires.stands c.requires.back c.requires.original c.files_in-slot.result.now
    (ap (λ (slots : List (Option SlotFiles)). slot_in slots c.args.number) (sym c.deref.ensures.value) ∙ c.files_in-slot.ensures)

pub unreachable-requires : goal.unreachable-requires
unreachable-requires c =
    let memory = c.args.memory.now in
    let is = ap (λ (slots : List (Option SlotFiles)). slot_in slots c.args.number) (sym c.deref.ensures.value) ∙ c.files_in-slot.ensures in
    let f = has_files memory c.args.number c.requires.stands c.requires.back c.requires.original c.files_in-slot.result.now is in
    c.in_default.ensures.none f.0 f.1 (c.requires.file f.0 (files_in memory c.args.number c.requires.stands c.requires.back c.requires.original c.files_in-slot.result.now is f.0 f.1))

pub returns-clause-shown : goal.returns-clause-shown
returns-clause-shown c = λ path all entry fileset members has within.
    let memory = c.args.memory.now in
    let is = ap (λ (slots : List (Option SlotFiles)). slot_in slots c.args.number) (sym c.deref.ensures.value) ∙ c.files_in-slot.ensures in
    let f = has_files memory c.args.number c.requires.stands c.requires.back c.requires.original c.files_in-slot.result.now is in
    let mine = files_in memory c.args.number c.requires.stands c.requires.back c.requires.original c.files_in-slot.result.now is f.0 f.1 in
    let keep = c.in-Some.keep in
    let kept = c.in-Some.ensures.keep f.0 f.1 in
    let runs = c.in_ok-runs.runs.items in
    let places = c.in_ok-runs.ensures.places f.0 f.1 in
    let pages = pages_at fileset.tree path in
    if_ok c.extents_in.result
    (λ extents same. subst (λ (es : List ExtentItem). ShowsExtents members pages es) (sym (same ∙ ap (filter_map (extent_of keep)) c.as_slice.ensures.value))
    (shows keep runs c.in_ok-runs.ensures.longest pages members
    (λ q below. ap is_some (near_page memory c.args.number c.args.tag path all entry fileset has c.requires.file f.0 mine keep q kept below) ∙ some_mapped (staged_in memory).contents _ ∙ ap (λ p. is_some (home_at p)) (sym (places q)))
    (λ q far. ap is_some (far_page memory c.args.number c.args.tag path all entry fileset has c.requires.file f.0 mine keep q kept far))
    (λ q home at. home_within memory c.args.number c.args.tag path all entry fileset has f.0 mine members within q home (sym (places q) ∙ at))
    (λ p q home one other. home_once memory c.args.number c.args.tag path all entry fileset has f.0 mine p q home (sym (places p) ∙ one) (sym (places q) ∙ other))))
    c.extents_in.ensures

pub returns-clause-there : goal.returns-clause-there
returns-clause-there c = λ chains are.
    let memory = c.args.memory.now in
    let is = ap (λ (slots : List (Option SlotFiles)). slot_in slots c.args.number) (sym c.deref.ensures.value) ∙ c.files_in-slot.ensures in
    let by = files_by memory c.args.number c.requires.stands c.requires.back c.requires.original c.files_in-slot.result.now is chains are in
    let keep = c.in-Some.keep in
    let runs = c.in_ok-runs.runs.items in
    let places = c.in_ok-runs.ensures.places chains by in
    if_ok c.extents_in.result
    (λ extents same. subst (λ (es : List ExtentItem). All (StandsThere (place_at chains c.args.tag)) es) (sym (same ∙ ap (filter_map (extent_of keep)) c.as_slice.ensures.value))
    (All-weaker (StandsThere (place_of runs)) (StandsThere (place_at chains c.args.tag)) (λ e stands k within. sym (places (e.page + k)) ∙ stands k within) (filter_map (extent_of keep) runs) (standing keep runs c.in_ok-runs.ensures.longest)))
    c.extents_in.ensures
