use Rattle.std.proofs.Common.{◌≡◌, ℕ, ◌+◌, true, IfNone, sym, subst}
use Rattle.free_space.specs.VolumeSpace.{VolumeSpace, IsFreePage, AreFreePages}
use Rattle.free_space.proofs.StaysSound.{next_of_run}
use Rattle.free_space.proofs.volume.Volume.allocate_run.Goals as goal

pub returns-in_err-first-clause-none : goal.returns-in_err-first-clause-none
returns-in_err-first-clause-none c =
    subst (λ r. IfNone r ((p : ℕ) → c.args.self.now.is_open ≡ true → ¬ AreFreePages c.args.self.now p c.args.count)) (sym c.from_residual.ensures)
    (c.in_err-first.ensures.none)

pub take-requires : goal.take-requires
take-requires c =
    subst (λ (v : VolumeSpace). IsFreePage v (c.in_ok-first.first + c.loop-offset.offset)) (sym c.loop-offset.invariant.is)
    (next_of_run c.args.self.now c.in_ok-first.first c.args.count c.loop-offset.offset c.in_ok-first.ensures.some.1 c.loop-offset-test.true)
