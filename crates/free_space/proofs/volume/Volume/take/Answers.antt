use Rattle.std.proofs.Common.{ap, sym, subst}
use Rattle.free_space.specs.VolumeSpace.{VolumeSpace, IsFreePage, with_page}
use Rattle.free_space.proofs.Changing.{before_taken}
use Rattle.free_space.proofs.Keeping.{taken_room_left, kept_taken}
use Rattle.free_space.proofs.StaysSound.{sound_insert}
use Rattle.free_space.proofs.volume.Volume.take.Goals as goal

pub note-requires-clause-room : goal.note-requires-clause-room
note-requires-clause-room c =
    let free = subst (λ (v : VolumeSpace). IsFreePage v c.args.page) (sym c.self.view_is) c.requires in
    taken_room_left c.self.invariant c.args.page free.within free.unused

pub invariant_of-self : goal.invariant_of-self
invariant_of-self c =
    let free = subst (λ (v : VolumeSpace). IsFreePage v c.args.page) (sym c.self.view_is) c.requires in
    rw (c.set.ensures, c.note.ensures.struck, c.note.ensures.listed, c.note.ensures.rooms.0, c.note.ensures.rooms.1)
    (kept_taken c.self.invariant c.args.page free.within free.unused)

pub returns-clause-value : goal.returns-clause-value
returns-clause-value c =
    let free = subst (λ (v : VolumeSpace). IsFreePage v c.args.page) (sym c.self.view_is) c.requires in
    rw (c.set.ensures, c.note.ensures.struck, c.note.ensures.listed, before_taken c.self.invariant.changes c.args.page free.within free.unused)
    (ap (with_page c.args.page) c.self.view_is)

pub returns-clause-sound : goal.returns-clause-sound
returns-clause-sound c =
    let free = subst (λ (v : VolumeSpace). IsFreePage v c.args.page) (sym c.self.view_is) c.requires in
    rw (c.set.ensures) (sound_insert c.self.invariant.sound c.args.page free.within)
