use Rattle.std.proofs.Common.{◌∙◌, ◌<◌, ◌≤◌, IsSomeAnd, arith, ap, length, refl, rules, subst, sym}
use Rattle.std.proofs.Math.Logic.{∥∥₁_map}
use Rattle.std.specs.Vec.{with_item}
use Rattle.domain_changes.specs.staged_pages.Store.{pages_of}
use Rattle.domain_changes.specs.domain_memory.Slots.{slot_in}
use Rattle.domain_changes.specs.domain_memory.Staged.{IsStagedForSome}
use Rattle.domain_changes.specs.domain_memory.declared.memory.DomainMemory.{DomainMemory}
use Rattle.release_changes.specs.Emptying.{MayTakeOut, TakesTag}
use Rattle.release_changes.proofs.Emptied.{any_ok}
use Rattle.release_changes.proofs.LeftOver.{slot_within}
use Rattle.domain_changes.proofs.SlotPut.{on_ok}
use Rattle.release_changes.proofs.TagAsks.{asks}
use Rattle.release_changes.proofs.TagGone.{uses_fewer}
use Rattle.release_changes.proofs.TagTaken.{back_taken, got_slot, kept_so, out_of, put_same}
use Rattle.release_changes.proofs.emptying.take_tag_out.Goals as goal

pub take_of_slot-requires : goal.take_of_slot-requires
take_of_slot-requires c =
    let memory = c.args.memory.now in
    let low : c.args.number < 32 = search rules in
    let within = slot_within memory c.args.number low c.requires.back in
    let here = c.index_mut.ensures.value ∙ got_slot memory.slots.items c.number.result _ (subst (λ n. n < length memory.slots.items) (sym c.number.ensures.value) within) ∙ ap (slot_in memory.slots.items) c.number.ensures.value in
    subst (λ o. IsSomeAnd o (MayTakeOut c.args.tag memory.space (pages_of memory.pages))) (sym here)
    (asks memory c.args.number c.args.tag (∥∥₁_map c.requires.ready (λ r. (r.0, r.1.staged))) c.requires.back c.requires.used)

pub returns-in_err-at-clause-back : goal.returns-in_err-at-clause-back
returns-in_err-at-clause-back c =
    let memory = c.args.memory.now in
    back_taken c.args.number memory _ (record {
      slots = put_same memory.slots.items c.number.result c.take_of_slot.new.slot c.index_mut.result.now _ c.index_mut.ensures.value c.take_of_slot.ensures.same;
      before = c.take_of_slot.ensures.before;
      kept = c.take_of_slot.ensures.kept;
      list = refl;
      same = refl;
    }) c.requires.back

pub returns-in_err-push-clause-back : goal.returns-in_err-push-clause-back
returns-in_err-push-clause-back c =
    let memory = c.args.memory.now in
    back_taken c.args.number memory _ (record {
      slots = put_same memory.slots.items c.number.result c.take_of_slot.new.slot c.index_mut.result.now _ c.index_mut.ensures.value c.take_of_slot.ensures.same;
      before = c.take_of_slot.ensures.before;
      kept = c.take_of_slot.ensures.kept;
      list = refl;
      same = refl;
    }) c.requires.back

pub returns-clause-back : goal.returns-clause-back
returns-clause-back c =
    let memory = c.args.memory.now in
    back_taken c.args.number memory _ (record {
      slots = put_same memory.slots.items c.number.result c.take_of_slot.new.slot c.index_mut.result.now _ c.index_mut.ensures.value c.take_of_slot.ensures.same;
      before = c.take_of_slot.ensures.before;
      kept = c.take_of_slot.ensures.kept;
      list = c.reserve.ensures.list;
      same = refl;
    }) c.requires.back

pub returns-clause-ok : goal.returns-clause-ok
returns-clause-ok c = λ all may.
    let memory = c.args.memory.now in
    let low : c.args.number < 32 = search rules in
    let within = slot_within memory c.args.number low c.requires.back in
    let here = c.index_mut.ensures.value ∙ got_slot memory.slots.items c.number.result _ (subst (λ n. n < length memory.slots.items) (sym c.number.ensures.value) within) ∙ ap (slot_in memory.slots.items) c.number.ensures.value in
    let out = out_of memory c.args.number c.args.tag (∥∥₁_map c.requires.ready (λ r. (r.0, r.1.staged))) c.requires.back c.requires.used c.args.group c.in_ok-at.at c.take_of_slot.new.space (pages_of c.take_of_slot.new.pages) c.index_mut.result.now here c.in_ok-at.ensures.takes in
    let now : DomainMemory = record memory { pages = c.take_of_slot.new.pages; space = c.take_of_slot.new.space; slots = with_item memory.slots c.number.result c.take_of_slot.new.slot; list = c.reserve.new.self; listed = c.push.new.self } in
    let takes : TakesTag memory now = record {
      slots = put_same memory.slots.items c.number.result c.take_of_slot.new.slot c.index_mut.result.now _ c.index_mut.ensures.value c.take_of_slot.ensures.same;
      before = c.take_of_slot.ensures.before;
      kept = c.take_of_slot.ensures.kept;
      list = c.reserve.ensures.list;
      same = refl;
    } in
    on_ok c.reserve.result (λ (room : c.len.result ≤ c.reserve.new.self.room).
    let few : length now.listed.items ≤ now.list.room = omega (arith, room, c.len.ensures, now.listed.ok) in
    kept_so c.args.number memory now takes c.args.tag c.in_ok-at.at c.args.group c.requires.removed c.requires.used out c.in_ok-push.ensures.items few all may) c.reserve.ensures.ok

pub returns-clause-fewer : goal.returns-clause-fewer
returns-clause-fewer c =
    let memory = c.args.memory.now in
    let low : c.args.number < 32 = search rules in
    let within = slot_within memory c.args.number low c.requires.back in
    let here = c.index_mut.ensures.value ∙ got_slot memory.slots.items c.number.result _ (subst (λ n. n < length memory.slots.items) (sym c.number.ensures.value) within) ∙ ap (slot_in memory.slots.items) c.number.ensures.value in
    let staged : ∥ IsStagedForSome memory ∥₁ = ∥∥₁_map c.requires.ready (λ r. (r.0, r.1.staged)) in
    let out = out_of memory c.args.number c.args.tag staged c.requires.back c.requires.used c.args.group c.in_ok-at.at c.take_of_slot.new.space (pages_of c.take_of_slot.new.pages) c.index_mut.result.now here c.in_ok-at.ensures.takes in
    let now : DomainMemory = record memory { pages = c.take_of_slot.new.pages; space = c.take_of_slot.new.space; slots = with_item memory.slots c.number.result c.take_of_slot.new.slot; list = c.reserve.new.self; listed = c.push.new.self } in
    any_ok c.reserve.result (uses_fewer memory now c.args.number c.args.tag c.requires.used c.args.group c.in_ok-at.at out (put_same memory.slots.items c.number.result c.take_of_slot.new.slot c.index_mut.result.now _ c.index_mut.ensures.value c.take_of_slot.ensures.same) staged)
