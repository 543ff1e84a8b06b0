use Rattle.std.proofs.Common.{◌≡◌, ℕ, ◌<◌, true, refl, arith}
use Rattle.std.specs.FinSet.{contains}
use Rattle.free_space.proofs.Changing.{before_none}
use Rattle.free_space.proofs.Keeping.{kept_now}
use Rattle.free_space.proofs.StaysSound.{sound_new}
use Rattle.free_space.proofs.volume.Volume.new.Goals as goal

pub invariant_of-result : goal.invariant_of-result
invariant_of-result c =
    let within : (p : ℕ) → contains c.args.map.used p ≡ true → p < c.args.map.pages = λ p there. omega (arith, c.pages-pages.ensures.within p there) in
    rw (c.in-Ok.ensures.empty.0, c.in-Ok.ensures.empty.1, c.in-Ok.ensures.empty.2)
    (kept_now (sound_new c.args.map.pages c.args.map.used c.requires within) (omega (arith, c.in-Ok.ensures.room.0)) (omega (arith, c.in-Ok.ensures.room.1))
    (omega (arith, c.in-Ok.ensures.room.2)))

pub returns-clause-ok : goal.returns-clause-ok
returns-clause-ok c = rw (c.in-Ok.ensures.empty.0, c.in-Ok.ensures.empty.1, c.in-Ok.ensures.empty.2, before_none c.args.map.used) refl

pub returns-clause-sound : goal.returns-clause-sound
returns-clause-sound c =
    let within : (p : ℕ) → contains c.args.map.used p ≡ true → p < c.args.map.pages = λ p there. omega (arith, c.pages-pages.ensures.within p there) in
    rw (c.in-Ok.ensures.empty.0) (sound_new c.args.map.pages c.args.map.used c.requires within)
