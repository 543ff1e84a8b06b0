use Rattle.std.proofs.Common.{◌<◌, ◌≤◌, arith, length, rules, None, List, Contains, refl, ap, subst, sym}
use Rattle.domain_changes.specs.domain_base.declared.place.Home.{Home}
use Rattle.domain_changes.specs.file_release.Releases.{AreAllOnce}
use Rattle.domain_changes.specs.free_space.Spaces.{Spaces}
use Rattle.domain_changes.specs.index_pages.Changes.{AreHeld}
use Rattle.domain_changes.proofs.OfFilesetTable.Leaving.{leaves}
use Rattle.domain_changes.specs.fileset_table.declared.slot.SlotItem.TheVariants as slot
use Rattle.domain_changes.specs.release_steps.Links.{homes_of}
use Rattle.domain_changes.specs.domain_standing.Chains.{IsRemoved}
use Rattle.domain_changes.specs.staged_pages.Store.{pages_of}
use Rattle.domain_changes.specs.domain_memory.Slots.{places_in, slot_in}
use Rattle.domain_changes.specs.domain_memory.Held.{held_open}
use Rattle.domain_changes.proofs.OfDomainMemory.SettledKept.{settled_kept}
use Rattle.domain_changes.specs.domain_memory.declared.memory.DomainMemory.{DomainMemory}
use Rattle.release_changes.proofs.Emptied.{free_there}
use Rattle.release_changes.proofs.FreedMemory.{back_freed, drops_its, drops_none, freed_so, its_places}
use Rattle.release_changes.proofs.HeldOver.{waiting_less}
use Rattle.release_changes.proofs.LeftOver.{asks_held, asks_low, asks_once, left_over, must_be, slot_within}
use Rattle.release_changes.proofs.LetGoEnds.{stands_staged}
use Rattle.domain_changes.proofs.SlotPut.{asks_no_clone, asks_page}
use Rattle.release_changes.proofs.emptying.free_slot.Goals as goal

pub unreachable-requires : goal.unreachable-requires
unreachable-requires c = must_be c.slot.result.now (subst IsRemoved c.slot.ensures.value c.requires.removed) c.in_default.not-Removed

pub put_in_table-requires-clause-table : goal.put_in_table-requires-clause-table
put_in_table-requires-clause-table c =
    let memory = c.args.memory.now in
    leaves memory.table c.args.number slot.Free c.slot.ensures.good (asks_no_clone memory (stands_staged memory c.requires.settled c.requires.stands) c.args.number) refl tt

pub put_in_table-requires-clause-there : goal.put_in_table-requires-clause-there
put_in_table-requires-clause-there c = let memory = c.args.memory.now in asks_page memory (stands_staged memory c.requires.settled c.requires.stands)

pub give_tags_back-requires-clause-held : goal.give_tags_back-requires-clause-held
give_tags_back-requires-clause-held c =
    let memory = c.args.memory.now in
    let mid = c.put_in_table.new.memory in
    let puts = c.in_ok-put_in_table.ensures.ok in
    subst (AreHeld mid.space) (sym (its_places c.args.number c.args.group memory mid puts c.take_slot.result c.take_slot.ensures.was c.in-Some.slot c.in-Some.is c.tag_places-places.result.now c.tag_places-places.ensures))
    (subst (λ (s : Spaces). AreHeld s (homes_of (places_in (slot_in memory.slots.items c.args.number)))) (sym (ap (λ (m : DomainMemory). m.space) puts.same)) (asks_held memory c.args.number c.requires.removed c.requires.unused c.requires.quota (stands_staged memory c.requires.settled c.requires.stands)))

pub give_tags_back-requires-clause-low : goal.give_tags_back-requires-clause-low
give_tags_back-requires-clause-low c =
    let memory = c.args.memory.now in
    let mid = c.put_in_table.new.memory in
    let puts = c.in_ok-put_in_table.ensures.ok in
    subst (λ (hs : List Home). (home : Home) → Contains hs home → 1 ≤ home.vol) (sym (its_places c.args.number c.args.group memory mid puts c.take_slot.result c.take_slot.ensures.was c.in-Some.slot c.in-Some.is c.tag_places-places.result.now c.tag_places-places.ensures))
    (asks_low memory c.args.number c.requires.removed c.requires.unused c.requires.quota (stands_staged memory c.requires.settled c.requires.stands))

pub give_tags_back-requires-clause-once : goal.give_tags_back-requires-clause-once
give_tags_back-requires-clause-once c =
    let memory = c.args.memory.now in
    let mid = c.put_in_table.new.memory in
    let puts = c.in_ok-put_in_table.ensures.ok in
    subst AreAllOnce (sym (its_places c.args.number c.args.group memory mid puts c.take_slot.result c.take_slot.ensures.was c.in-Some.slot c.in-Some.is c.tag_places-places.result.now c.tag_places-places.ensures))
    (asks_once memory c.args.number c.requires.removed c.requires.unused c.requires.quota (stands_staged memory c.requires.settled c.requires.stands))

pub returns-in-Some-clause-ok : goal.returns-in-Some-clause-ok
returns-in-Some-clause-ok c = λ all stood.
    let memory = c.args.memory.now in
    let mid = c.put_in_table.new.memory in
    let puts = c.in_ok-put_in_table.ensures.ok in
    let now : DomainMemory = record mid { pages = c.give_tags_back.new.pages; space = c.give_tags_back.new.space; slots = c.take_slot.new.slots; was = None } in
    let ready = settled_kept memory all c.requires.settled stood in
    freed_so c.args.number c.args.group memory mid now puts c.take_slot.ensures.slots refl
    (drops_its c.args.number c.args.group memory mid puts c.take_slot.result c.take_slot.ensures.was c.in-Some.slot c.in-Some.is c.tag_places-places.result.now c.tag_places-places.ensures c.give_tags_back.new.space (pages_of c.give_tags_back.new.pages) c.give_tags_back.ensures.drops)
    c.requires.settled (left_over memory c.args.number c.requires.removed c.requires.unused c.requires.quota all ready.staged) all ready

pub returns-in-Some-clause-back : goal.returns-in-Some-clause-back
returns-in-Some-clause-back c =
    let memory = c.args.memory.now in
    let mid = c.put_in_table.new.memory in
    let now : DomainMemory = record mid { pages = c.give_tags_back.new.pages; space = c.give_tags_back.new.space; slots = c.take_slot.new.slots; was = None } in
    back_freed c.args.number c.args.group memory mid now c.in_ok-put_in_table.ensures.ok c.take_slot.ensures.slots refl
    (leaves memory.table c.args.number slot.Free c.slot.ensures.good (asks_no_clone memory (stands_staged memory c.requires.settled c.requires.stands) c.args.number) refl tt) c.requires.back

pub returns-in_default-take_slot-clause-ok : goal.returns-in_default-take_slot-clause-ok
returns-in_default-take_slot-clause-ok c = λ all stood.
    let memory = c.args.memory.now in
    let mid = c.put_in_table.new.memory in
    let puts = c.in_ok-put_in_table.ensures.ok in
    let now : DomainMemory = record mid { slots = c.take_slot.new.slots; was = None } in
    let ready = settled_kept memory all c.requires.settled stood in
    freed_so c.args.number c.args.group memory mid now puts c.take_slot.ensures.slots refl (drops_none c.args.number c.args.group memory mid puts c.take_slot.result c.take_slot.ensures.was c.in_default-take_slot.is)
    c.requires.settled (left_over memory c.args.number c.requires.removed c.requires.unused c.requires.quota all ready.staged) all ready

pub returns-in_default-take_slot-clause-back : goal.returns-in_default-take_slot-clause-back
returns-in_default-take_slot-clause-back c =
    let memory = c.args.memory.now in
    let mid = c.put_in_table.new.memory in
    let now : DomainMemory = record mid { slots = c.take_slot.new.slots; was = None } in
    back_freed c.args.number c.args.group memory mid now c.in_ok-put_in_table.ensures.ok c.take_slot.ensures.slots refl
    (leaves memory.table c.args.number slot.Free c.slot.ensures.good (asks_no_clone memory (stands_staged memory c.requires.settled c.requires.stands) c.args.number) refl tt) c.requires.back

pub take_slot-requires : goal.take_slot-requires
take_slot-requires c =
    let memory = c.args.memory.now in
    let low : c.args.number < 32 = search rules in
    subst (λ (m : DomainMemory). c.args.number < length m.slots.items) (sym c.in_ok-put_in_table.ensures.ok.same) (slot_within memory c.args.number low c.requires.back)

pub returns-in-Some-clause-held : goal.returns-in-Some-clause-held
returns-in-Some-clause-held c =
    let mid = c.put_in_table.new.memory in
    let less = waiting_less (homes_of c.tag_places-places.result.now) c.args.group mid.space in
    let is = ap held_open c.give_tags_back.ensures.drops.waits in
    let same = ap (λ (m : DomainMemory). held_open m.space) c.in_ok-put_in_table.ensures.ok.same in
    omega (arith, less, is, same)

pub returns-in_default-take_slot-clause-held : goal.returns-in_default-take_slot-clause-held
returns-in_default-take_slot-clause-held c =
    let same = ap (λ (m : DomainMemory). held_open m.space) c.in_ok-put_in_table.ensures.ok.same in
    omega (arith, same)

pub returns-in-Some-clause-free : goal.returns-in-Some-clause-free
returns-in-Some-clause-free c = free_there c.args.number c.args.memory.now c.put_in_table.new.memory c.in_ok-put_in_table.ensures.ok

pub returns-in_default-take_slot-clause-free : goal.returns-in_default-take_slot-clause-free
returns-in_default-take_slot-clause-free c = free_there c.args.number c.args.memory.now c.put_in_table.new.memory c.in_ok-put_in_table.ensures.ok
