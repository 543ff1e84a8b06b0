use Rattle.std.proofs.Common.{◌≡◌, ◌∙◌, IsSome, List, Option, Some, None, ap, inr, refl, subst, sym}
use Rattle.domain_memory.specs.extent_maps.declared.run.PagePlace.{PagePlace}
use Rattle.domain_memory.specs.extent_maps.declared.run.PagePlace.TheVariants.{At}
use Rattle.domain_memory.specs.domain_base.declared.place.Home.{Home}
use Rattle.domain_memory.specs.extent_maps.Runs.{home_at}
use Rattle.domain_memory.proofs.OfStoredSet.Live.{home_is}
use Rattle.domain_memory.specs.Slots.{slot_in}
use Rattle.domain_memory.specs.declared.slots.SlotFiles.{SlotFiles}
use Rattle.file_changes.proofs.Asks.{files_by, files_in, has_files, there}
use Rattle.file_changes.proofs.Kept.{back_kept}
use Rattle.file_changes.proofs.Put.{page_put_there, put_open, put_parents}
use Rattle.file_changes.proofs.Stood.{stands_at}
use Rattle.file_changes.proofs.putting.put_page.Goals as goal

pub files_in-slot-requires : goal.files_in-slot-requires
files_in-slot-requires c =
    subst (λ (slots : List (Option SlotFiles)). IsSome (slot_in slots c.args.number)) (sym c.deref.ensures.value) (there c.args.memory.now c.args.number c.requires.stands c.requires.back c.requires.original)

pub page_home-requires : goal.page_home-requires
page_home-requires c =
    has_files c.args.memory.now c.args.number c.requires.stands c.requires.back c.requires.original c.files_in-slot.result.now
    (ap (λ (slots : List (Option SlotFiles)). slot_in slots c.args.number) (sym c.deref.ensures.value) ∙ c.files_in-slot.ensures)

none_there : (place : PagePlace) (home : Home) → home_at place ≡ None → place ≡ At home → ⊥
none_there place home none at = wrong home (sym none ∙ ap home_at at)
  where
    wrong : (home : Home) → None ≡ Some home → ⊥
    wrong home e = cc

pub unreachable-requires : goal.unreachable-requires
unreachable-requires c =
    let memory = c.args.memory.now in
    let is = ap (λ (slots : List (Option SlotFiles)). slot_in slots c.args.number) (sym c.deref.ensures.value) ∙ c.files_in-slot.ensures in
    let f = has_files memory c.args.number c.requires.stands c.requires.back c.requires.original c.files_in-slot.result.now is in
    let p = c.requires.has f.0 (files_in memory c.args.number c.requires.stands c.requires.back c.requires.original c.files_in-slot.result.now is f.0 f.1) in
    none_there c.page_home.result p.home (sym c.home.ensures ∙ c.in_default.is) (c.page_home.ensures f.0 f.1 ∙ p.there)

pub put-requires : goal.put-requires
put-requires c =
    let memory = c.args.memory.now in
    let is = ap (λ (slots : List (Option SlotFiles)). slot_in slots c.args.number) (sym c.deref.ensures.value) ∙ c.files_in-slot.ensures in
    let f = has_files memory c.args.number c.requires.stands c.requires.back c.requires.original c.files_in-slot.result.now is in
    inr (stands_at memory c.args.number c.requires.original c.args.tag c.requires.file c.requires.stands f.0 (files_in memory c.args.number c.requires.stands c.requires.back c.requires.original c.files_in-slot.result.now is f.0 f.1) c.args.page
    (c.requires.has f.0 (files_in memory c.args.number c.requires.stands c.requires.back c.requires.original c.files_in-slot.result.now is f.0 f.1)) c.in-Some.home
    (sym (c.page_home.ensures f.0 f.1) ∙ home_is c.page_home.result c.in-Some.home (sym c.home.ensures ∙ c.in-Some.is)))

pub returns-clause-stands : goal.returns-clause-stands
returns-clause-stands c = λ path all entry fileset has.
    let memory = c.args.memory.now in
    let is = ap (λ (slots : List (Option SlotFiles)). slot_in slots c.args.number) (sym c.deref.ensures.value) ∙ c.files_in-slot.ensures in
    page_put_there memory _ refl c.args.number c.args.tag c.args.page c.args.bytes c.requires.file c.requires.has c.requires.small c.in-Some.home
    (λ chains are. sym (c.page_home.ensures chains (files_by memory c.args.number c.requires.stands c.requires.back c.requires.original c.files_in-slot.result.now is chains are)) ∙ home_is c.page_home.result c.in-Some.home (sym c.home.ensures ∙ c.in-Some.is))
    c.put.ensures.value path all entry fileset has

pub returns-clause-parents : goal.returns-clause-parents
returns-clause-parents c = λ path all entry fileset has had.
    let memory = c.args.memory.now in
    let is = ap (λ (slots : List (Option SlotFiles)). slot_in slots c.args.number) (sym c.deref.ensures.value) ∙ c.files_in-slot.ensures in
    put_parents memory (record memory { pages = c.put.new.self }) refl c.args.number c.args.tag c.args.page c.args.bytes c.requires.file c.requires.has c.requires.small c.in-Some.home
    (λ chains are. sym (c.page_home.ensures chains (files_by memory c.args.number c.requires.stands c.requires.back c.requires.original c.files_in-slot.result.now is chains are)) ∙ home_is c.page_home.result c.in-Some.home (sym c.home.ensures ∙ c.in-Some.is))
    c.put.ensures.value path all entry fileset has had

pub returns-clause-open_still : goal.returns-clause-open_still
returns-clause-open_still c = λ path all entry fileset has.
    let memory = c.args.memory.now in
    let is = ap (λ (slots : List (Option SlotFiles)). slot_in slots c.args.number) (sym c.deref.ensures.value) ∙ c.files_in-slot.ensures in
    put_open memory (record memory { pages = c.put.new.self }) refl c.args.number c.args.tag c.args.page c.args.bytes c.requires.file c.requires.has c.requires.small c.in-Some.home
    (λ chains are. sym (c.page_home.ensures chains (files_by memory c.args.number c.requires.stands c.requires.back c.requires.original c.files_in-slot.result.now is chains are)) ∙ home_is c.page_home.result c.in-Some.home (sym c.home.ensures ∙ c.in-Some.is))
    c.put.ensures.value path all entry fileset has

pub returns-clause-back : goal.returns-clause-back
returns-clause-back c = back_kept c.args.memory.now _ refl c.requires.back
