use Rattle.std.proofs.Common.{◌≡◌, ◌∙◌, List, Some, length, slice_get, refl, subst, ap}
use Rattle.std.proofs.lemmas.Option.{slice_get_read}
use Rattle.std.specs.Prelude.{Contains, map}
use Rattle.attached_domain.specs.domain_base.declared.place.Home.{Home}
use Rattle.attached_domain.specs.domain_standing.Domain.{layout_of}
use Rattle.attached_domain.specs.domain_layout.Layout.{Layout}
use Rattle.attached_domain.specs.domain_memory.Staged.{staged_in}
use Rattle.domain_attaching.specs.Tables.{Marks}
use Rattle.domain_attaching.proofs.Marked.{contains_nothing, marks_none, marks_place, marks_places}
use Rattle.domain_attaching.proofs.tables.mark_slot.Goals as goal

pub loop-place-init : goal.loop-place-init
loop-place-init c = marks_none _ c.args.marks.now (λ k. contains_nothing {X = Home} (record { vol = c.args.vol; page = k }))

pub loop-place-preserved : goal.loop-place-preserved
loop-place-preserved c =
    marks_place c.tag_places-place-items.result.now (λ place. place.home) c.args.vol c.loop-place.place-index c.place-item.result c.args.marks.now c.loop-place.marks c.mark_home.new.marks c.loop-place-test.true c.place-item.is c.loop-place.invariant c.mark_home.ensures

pub returns : goal.returns
returns c =
    let layout : Layout = layout_of (staged_in c.args.memory.now) in
    let places = c.tag_places-place-items.result.now in
    let at : slice_get c.args.memory.now.slots.items c.args.number ≡ Some (Some c.in-Some.slot) = slice_get_read c.args.memory.now.slots.items (length c.args.memory.now.slots.items) c.args.number c.index.result.now refl c.requires c.index.ensures ∙ ap (λ o. Some o) c.in-Some.is in
    let tags : places ≡ layout.tags c.args.number = rw at c.tag_places-place-items.ensures in
    let homes : map (λ place. place.home) places ≡ map (λ place. place.home) (layout.tags c.args.number) = ap (map (λ place. place.home)) tags in
    subst (λ (l : List Home). Marks (λ k. Contains l (record { vol = c.args.vol; page = k })) c.args.marks.now c.loop-place.marks) homes
    (marks_places places (λ place. place.home) c.args.vol c.loop-place.place-index c.args.marks.now c.loop-place.marks c.loop-place-test.false c.loop-place.invariant)
