use Rattle.std.proofs.Common.{◌≡◌, ℕ, true, IfNone, IfSome, subst}
use Rattle.free_space.specs.VolumeSpace.{VolumeSpace, AreFreePages}
use Rattle.free_space.proofs.StaysSound.{found_free, none_answered, run_answered, too_few}
use Rattle.free_space.specs.contracts.volume.Volume.{the_view}
use Rattle.free_space.proofs.volume.Volume.find.Goals as goal

pub returns-then-count_free-count-clause-none : goal.returns-then-count_free-count-clause-none
returns-then-count_free-count-clause-none c = λ p _ are.
    too_few (the_view c.self.inside) c.self.invariant.sound c.count_free.result c.args.count c.count_free.ensures c.if-count_free-count.true p
    (rw c.self.view_is are)

pub returns-in-None-clause-none : goal.returns-in-None-clause-none
returns-in-None-clause-none c =
    subst (λ (v : VolumeSpace). IfNone c.first_run.result ((p : ℕ) → v.is_open ≡ true → ¬ AreFreePages v p c.args.count)) c.self.view_is
    (none_answered (the_view c.self.inside) c.self.invariant.sound c.args.count c.first_run.result c.first_run.ensures)

pub returns-in-None-clause-some : goal.returns-in-None-clause-some
returns-in-None-clause-some c =
    subst (λ (v : VolumeSpace). IfSome c.first_run.result (λ p. (v.is_open ≡ true) × AreFreePages v p c.args.count)) c.self.view_is
    (run_answered (the_view c.self.inside) c.self.invariant.sound c.args.count c.first_run.result (c.if-not-self.false) c.first_run.ensures)

pub returns-in-Some-clause-some : goal.returns-in-Some-clause-some
returns-in-Some-clause-some c =
    subst (λ (v : VolumeSpace). (v.is_open ≡ true) × AreFreePages v c.in-Some.page c.args.count) c.self.view_is
    (c.if-not-self.false, found_free (the_view c.self.inside) c.self.invariant.sound c.self.inside.next c.args.count c.in-Some.page c.in-Some.ensures)
