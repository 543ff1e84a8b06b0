use Rattle.std.proofs.Common.{◌≡◌, true, false, ap, sym, subst, arith, ◌∷◌, []}
use Rattle.std.proofs.lemmas.List.{take-append-le}
use Rattle.std.specs.FinSet.{contains}
use Rattle.free_space.specs.VolumeSpace.{VolumeSpace, is_waiting, with_waiting}
use Rattle.free_space.proofs.Keeping.{kept_waiting}
use Rattle.free_space.proofs.StaysSound.{room_left}
use Rattle.free_space.proofs.volume.Volume.give_back.Goals as goal

pub push_reserved-requires : goal.push_reserved-requires
push_reserved-requires c =
    let held = subst (λ (v : VolumeSpace). contains v.used c.args.page ≡ true) (sym c.self.view_is) c.requires.used in
    let settled = subst (λ (v : VolumeSpace). is_waiting v c.args.page ≡ false) (sym c.self.view_is) c.requires.settled in
    omega (arith, room_left c.self.invariant.sound c.args.page held settled, c.self.invariant.enough)

pub invariant_of-self : goal.invariant_of-self
invariant_of-self c =
    let held = subst (λ (v : VolumeSpace). contains v.used c.args.page ≡ true) (sym c.self.view_is) c.requires.used in
    let settled = subst (λ (v : VolumeSpace). is_waiting v c.args.page ≡ false) (sym c.self.view_is) c.requires.settled in
    rw (c.push_reserved.ensures.items, c.push_reserved.ensures.capacity)
    (kept_waiting c.self.invariant (record { page = c.args.page; kind = c.args.kind; group = c.args.group }) held settled)

pub returns-clause-value : goal.returns-clause-value
returns-clause-value c =
    rw (
      c.push_reserved.ensures.items,
      take-append-le c.self.inside.kept_waiting c.self.inside.waiting.items (record { page = c.args.page; kind = c.args.kind; group = c.args.group } ∷ []) c.self.invariant.longer,
    )
    (ap (with_waiting (record { page = c.args.page; kind = c.args.kind; group = c.args.group })) c.self.view_is)

pub returns-clause-sound : goal.returns-clause-sound
returns-clause-sound c =
    let held = subst (λ (v : VolumeSpace). contains v.used c.args.page ≡ true) (sym c.self.view_is) c.requires.used in
    let settled = subst (λ (v : VolumeSpace). is_waiting v c.args.page ≡ false) (sym c.self.view_is) c.requires.settled in
    rw (c.push_reserved.ensures.items)
    (kept_waiting c.self.invariant (record { page = c.args.page; kind = c.args.kind; group = c.args.group }) held settled).sound
