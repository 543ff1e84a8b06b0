use Rattle.std.proofs.Common.{◌∙◌, ◌<◌, arith, ap, length, rules, subst, sym}
use Rattle.std.proofs.Math.Logic.{∥∥₁_map}
use Rattle.domain_changes.specs.domain_memory.Slots.{slot_in}
use Rattle.release_changes.proofs.LeftOver.{slot_within}
use Rattle.release_changes.proofs.TagTaken.{got_slot}
use Rattle.release_changes.proofs.UsedTag.{found_used, has_files, next_page, none_in, none_on}
use Rattle.release_changes.proofs.emptying.used_tag.Goals as goal

pub index-requires : goal.index-requires
index-requires c =
    let memory = c.args.memory.now in
    let low : c.args.number < 32 = search rules in
    let within = slot_within memory c.args.number low c.requires.back in
    omega (arith, within, c.number.ensures.value, memory.slots.ok)

pub tag_on-found-requires : goal.tag_on-found-requires
tag_on-found-requires c =
    let memory = c.args.memory.now in
    let low : c.args.number < 32 = search rules in
    let within = slot_within memory c.args.number low c.requires.back in
    let here = sym (c.index.ensures ∙ got_slot memory.slots.items c.number.result _ (subst (λ n. n < length memory.slots.items) (sym c.number.ensures.value) within) ∙ ap (slot_in memory.slots.items) c.number.ensures.value) ∙ c.in-Some.is in
    let has = has_files memory c.args.number (∥∥₁_map c.requires.ready (λ r. (r.0, r.1.staged))) c.requires.back c.requires.removed c.in-Some.slot here in
    has

pub returns-then-is_some-clause-some : goal.returns-then-is_some-clause-some
returns-then-is_some-clause-some c =
    let memory = c.args.memory.now in
    let low : c.args.number < 32 = search rules in
    let within = slot_within memory c.args.number low c.requires.back in
    let here = sym (c.index.ensures ∙ got_slot memory.slots.items c.number.result _ (subst (λ n. n < length memory.slots.items) (sym c.number.ensures.value) within) ∙ ap (slot_in memory.slots.items) c.number.ensures.value) ∙ c.in-Some.is in
    let has = has_files memory c.args.number (∥∥₁_map c.requires.ready (λ r. (r.0, r.1.staged))) c.requires.back c.requires.removed c.in-Some.slot here in
    found_used memory c.args.number c.in-Some.slot here has c.tag_on-found.result c.tag_on-found.ensures.there

pub loop-page-preserved : goal.loop-page-preserved
loop-page-preserved c =
    let memory = c.args.memory.now in
    let low : c.args.number < 32 = search rules in
    let within = slot_within memory c.args.number low c.requires.back in
    let here = sym (c.index.ensures ∙ got_slot memory.slots.items c.number.result _ (subst (λ n. n < length memory.slots.items) (sym c.number.ensures.value) within) ∙ ap (slot_in memory.slots.items) c.number.ensures.value) ∙ c.in-Some.is in
    let has = has_files memory c.args.number (∥∥₁_map c.requires.ready (λ r. (r.0, r.1.staged))) c.requires.back c.requires.removed c.in-Some.slot here in
    next_page memory c.args.number c.in-Some.slot here c.loop-page.page c.loop-page.invariant
    (none_on memory c.args.number c.in-Some.slot here has c.loop-page.page c.tag_on-found.result (sym c.is_some.ensures ∙ c.if-is_some.false) c.tag_on-found.ensures.none)

pub returns-clause-none : goal.returns-clause-none
returns-clause-none c =
    let memory = c.args.memory.now in
    let low : c.args.number < 32 = search rules in
    let within = slot_within memory c.args.number low c.requires.back in
    let here = sym (c.index.ensures ∙ got_slot memory.slots.items c.number.result _ (subst (λ n. n < length memory.slots.items) (sym c.number.ensures.value) within) ∙ ap (slot_in memory.slots.items) c.number.ensures.value) ∙ c.in-Some.is in
    none_in memory c.args.number c.in-Some.slot here c.loop-page.page (omega (arith, c.loop-page-test.false, ap length c.tag_places-page-end.ensures)) c.loop-page.invariant
