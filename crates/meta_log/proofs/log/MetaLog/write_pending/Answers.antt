use Rattle.std.proofs.Common.{◌≡◌, ◌+◌, ◌-◌, ◌<◌, List, take, drop, length, vec_len, sym, ◌∙◌, ap, subst, arith}
use Rattle.log_ring.specs.declared.image.PageImage.{PageImage}
use Rattle.meta_log.specs.Force.{IsSyncedOn, forced}
use Rattle.meta_log.specs.Inside.{log_of}
use Rattle.meta_log.specs.Log.{IsLog, Log}
use Rattle.meta_log.proofs.Pending.{forced_images, forced_is, forces_images, images_between, sayable_images, view_forced}
use Rattle.meta_log.proofs.log.MetaLog.write_pending.Goals as goal

pub write_group-requires-clause-sayable : goal.write_group-requires-clause-sayable
write_group-requires-clause-sayable g c =
    let log : Log = c.args.self.now in
    let is : IsLog log = subst IsLog c.self.view_is c.self.invariant.is in
    let slots : List PageImage = c.deref.result.now in
    let images = take (c.self.inside.end - c.self.inside.logged) (drop c.self.inside.logged slots) in
    let images_are : images ≡ log.pending = images_between c.self.inside.slots.items slots c.self.inside.logged c.self.inside.end c.deref.ensures.value ∙ (λ i. (c.self.view_is i).pending) in
    sayable_images log is c.requires.some c.self.inside.anchor (c.self.inside.anchor.start + c.used.result) c.next_number-number.result images (λ i. (c.self.view_is i).anchor) (λ i. (c.self.view_is i).anchor.start + c.used.ensures.value i) c.next_number-number.ensures.value images_are

pub returns-in_err-write_group-clause-forces : goal.returns-in_err-write_group-clause-forces
returns-in_err-write_group-clause-forces g c =
    let log : Log = c.args.self.now in
    let is : IsLog log = subst IsLog c.self.view_is c.self.invariant.is in
    let slots : List PageImage = c.deref.result.now in
    let images = take (c.self.inside.end - c.self.inside.logged) (drop c.self.inside.logged slots) in
    let images_are : images ≡ log.pending = images_between c.self.inside.slots.items slots c.self.inside.logged c.self.inside.end c.deref.ensures.value ∙ (λ i. (c.self.view_is i).pending) in
    forces_images log is c.requires.some c.self.inside.anchor (c.self.inside.anchor.start + c.used.result) c.next_number-number.result images (λ i. (c.self.view_is i).anchor) (λ i. (c.self.view_is i).anchor.start + c.used.ensures.value i) c.next_number-number.ensures.value images_are
    (g.R.Rack.disk c.args.rack.now) (g.R.Rack.disk c.write_group.new.rack) c.write_group.ensures.writes

pub returns-clause-forces : goal.returns-clause-forces
returns-clause-forces g c =
    let log : Log = c.args.self.now in
    let is : IsLog log = subst IsLog c.self.view_is c.self.invariant.is in
    let slots : List PageImage = c.deref.result.now in
    let images = take (c.self.inside.end - c.self.inside.logged) (drop c.self.inside.logged slots) in
    let images_are : images ≡ log.pending = images_between c.self.inside.slots.items slots c.self.inside.logged c.self.inside.end c.deref.ensures.value ∙ (λ i. (c.self.view_is i).pending) in
    forces_images log is c.requires.some c.self.inside.anchor (c.self.inside.anchor.start + c.used.result) c.next_number-number.result images (λ i. (c.self.view_is i).anchor) (λ i. (c.self.view_is i).anchor.start + c.used.ensures.value i) c.next_number-number.ensures.value images_are
    (g.R.Rack.disk c.args.rack.now) (g.R.Rack.disk c.write_group.new.rack) c.write_group.ensures.writes

pub returns-clause-done : goal.returns-clause-done
returns-clause-done g c =
    let log : Log = c.args.self.now in
    let is : IsLog log = subst IsLog c.self.view_is c.self.invariant.is in
    let slots : List PageImage = c.deref.result.now in
    let images = take (c.self.inside.end - c.self.inside.logged) (drop c.self.inside.logged slots) in
    let images_are : images ≡ log.pending = images_between c.self.inside.slots.items slots c.self.inside.logged c.self.inside.end c.deref.ensures.value ∙ (λ i. (c.self.view_is i).pending) in
    forced_images log is c.requires.some c.self.inside.anchor (c.self.inside.anchor.start + c.used.result) c.next_number-number.result images (λ i. (c.self.view_is i).anchor) (λ i. (c.self.view_is i).anchor.start + c.used.ensures.value i) c.next_number-number.ensures.value images_are
    (g.R.Rack.disk c.args.rack.now) (g.R.Rack.disk c.write_group.new.rack) c.in_ok-write_group.ensures.done

pub returns-clause-synced : goal.returns-clause-synced
returns-clause-synced g c = λ told. subst (λ (log : Log). IsSyncedOn log.anchor.log_vol (g.R.Rack.disk c.write_group.new.rack).now) c.self.view_is (c.in_ok-write_group.ensures.synced told)

pub returns-clause-ok : goal.returns-clause-ok
returns-clause-ok g c =
    let inside = c.self.inside in
    let slots : List PageImage = inside.slots.items in
    let size : length slots ≡ vec_len inside.slots = ap (λ (l : List PageImage). length l) (sym c.deref.ensures.value) ∙ c.deref.ensures.len in
    let some = subst (λ (l : Log). 0 < length l.pending) (sym c.self.view_is) c.requires.some in
    view_forced inside.anchor inside.groups slots inside.logged inside.end c.self.invariant.order (omega (arith, c.self.invariant.within, size)) some ∙ ap forced c.self.view_is

pub invariant_of-self-2 : goal.invariant_of-self-2
invariant_of-self-2 g c =
    let inside = c.self.inside in
    let slots : List PageImage = inside.slots.items in
    let size : length slots ≡ vec_len inside.slots = ap (λ (l : List PageImage). length l) (sym c.deref.ensures.value) ∙ c.deref.ensures.len in
    let some = subst (λ (l : Log). 0 < length l.pending) (sym c.self.view_is) c.requires.some in
    record {
      is =
          subst IsLog (sym (view_forced inside.anchor inside.groups slots inside.logged inside.end c.self.invariant.order (omega (arith, c.self.invariant.within, size)) some))
          (forced_is (log_of inside) c.self.invariant.is);
      order = omega arith;
      within = c.self.invariant.within;
      slots = c.self.invariant.slots;
    }
