use Rattle.std.proofs.Common.{◌≡◌, ◌-◌, ◌<◌, ◌∷◌, [], ◌++◌, length, set, take, drop, sym, ◌∙◌, ap, arith}
use Rattle.std.proofs.lemmas.List.{length-drop, length-take-le}
use Rattle.log_ring.specs.declared.image.PageImage.{PageImage}
use Rattle.log_ring.proofs.Places.{with_image-new, with_image-place}
use Rattle.meta_log.proofs.SlotLists.{set_behind, set_within}
use Rattle.meta_log.proofs.slots.put.Goals as goal

pub returns-in-Some-clause-put : goal.returns-in-Some-clause-put
returns-in-Some-clause-put c =
    let slots = c.args.slots.now in
    let first = c.args.first in
    let end = c.args.end in
    let at = c.in-Some.at in
    let home = c.args.home.now in
    let page = c.args.page.now in
    let those = drop first (take end slots) in
    let there = c.in-Some.ensures.place in
    let within = there.1.within in
    let size : length those ≡ end - first = omega (arith, length-drop first (take end slots), length-take-le end slots (omega arith)) in
    let lt : at < end = omega arith in
    set_within slots first at end c.fill.new.slot there.0 lt
    ∙ ap (λ (x : PageImage). set those (at - first) x) c.fill.ensures
    ∙ sym (with_image-place home page those (at - first) c.requires.distinct there.1)

pub returns-in-None-clause-put : goal.returns-in-None-clause-put
returns-in-None-clause-put c =
    let slots = c.args.slots.now in
    let first = c.args.first in
    let end = c.args.end in
    let home = c.args.home.now in
    let page = c.args.page.now in
    let those = drop first (take end slots) in
    set_behind slots first end c.fill-in-None.new.slot c.requires.order c.requires.room
    ∙ ap (λ (x : PageImage). those ++ x ∷ []) c.fill-in-None.ensures
    ∙ sym (with_image-new home page those c.in-None.ensures.none)
