use Rattle.std.proofs.Common.{◌≡◌, true, false, ap, sym, subst}
use Rattle.std.specs.FinSet.{contains}
use Rattle.free_space.specs.VolumeSpace.{VolumeSpace, is_waiting, without_page}
use Rattle.free_space.proofs.Changing.{before_freed}
use Rattle.free_space.proofs.Keeping.{freed_room_left, kept_freed}
use Rattle.free_space.proofs.StaysSound.{sound_remove}
use Rattle.free_space.proofs.volume.Volume.unreserve.Goals as goal

pub note-requires-clause-room : goal.note-requires-clause-room
note-requires-clause-room c =
    let held = subst (λ (v : VolumeSpace). contains v.used c.args.page ≡ true) (sym c.self.view_is) c.requires.used in
    freed_room_left c.self.invariant c.args.page held

pub invariant_of-self : goal.invariant_of-self
invariant_of-self c =
    let held = subst (λ (v : VolumeSpace). contains v.used c.args.page ≡ true) (sym c.self.view_is) c.requires.used in
    let settled = subst (λ (v : VolumeSpace). is_waiting v c.args.page ≡ false) (sym c.self.view_is) c.requires.settled in
    rw (c.clear.ensures, c.note.ensures.struck, c.note.ensures.listed, c.note.ensures.rooms.0, c.note.ensures.rooms.1)
    (kept_freed c.self.invariant c.args.page held settled)

pub returns-clause-value : goal.returns-clause-value
returns-clause-value c =
    let held = subst (λ (v : VolumeSpace). contains v.used c.args.page ≡ true) (sym c.self.view_is) c.requires.used in
    rw (c.clear.ensures, c.note.ensures.struck, c.note.ensures.listed, before_freed c.self.invariant.changes c.args.page (c.self.invariant.sound.within c.args.page held) held)
    (ap (without_page c.args.page) c.self.view_is)

pub returns-clause-sound : goal.returns-clause-sound
returns-clause-sound c =
    let held = subst (λ (v : VolumeSpace). contains v.used c.args.page ≡ true) (sym c.self.view_is) c.requires.used in
    let settled = subst (λ (v : VolumeSpace). is_waiting v c.args.page ≡ false) (sym c.self.view_is) c.requires.settled in
    rw (c.clear.ensures) (sound_remove c.self.invariant.sound c.args.page held settled)
