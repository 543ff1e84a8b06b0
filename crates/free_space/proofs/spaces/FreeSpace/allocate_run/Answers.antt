use Rattle.std.proofs.Common.{◌≡◌, ℕ, true, Option, None, IfNone, IsSomeAnd, sym, ap, ◌∙◌, subst, arith}
use Rattle.free_space.specs.VolumeSpace.{VolumeSpace, AreFreePages}
use Rattle.free_space.specs.Spaces.{Spaces, CanTakeRun, volume_of}
use Rattle.free_space.proofs.Mapping.{volume_read}
use Rattle.free_space.proofs.spaces.FreeSpace.allocate_run.Goals as goal
use Rattle.free_space.proofs.spaces.FreeSpace.allocate_run.Goals.{in-Some, in-None}

-- no run of the volume that was looked at is free, if the look gave None
no_run : (v : VolumeSpace) (count : ℕ) (r : Option ℕ) → r ≡ None → IfNone r ((p : ℕ) → v.is_open ≡ true → ¬ AreFreePages v p count) →
    (p : ℕ) → v.is_open ≡ true → ¬ AreFreePages v p count
no_run v count r none is = subst (λ o. IfNone o ((p : ℕ) → v.is_open ≡ true → ¬ AreFreePages v p count)) none is

pub returns-in_err-page-clause-none : goal.returns-in_err-page-clause-none
returns-in_err-page-clause-none c =
    let read : c.index_mut.result.now ≡ volume_of c.args.self.now c.args.vol =
    volume_read c.self.inside.volumes.items c.index.result c.args.vol c.index_mut.result.now (omega (arith, c.self.invariant.0)) c.index.ensures.value c.index_mut.ensures.value
    ∙ ap (λ (s : Spaces). volume_of s c.args.vol) c.self.view_is in
    subst (λ r. IfNone r ((p : ℕ) → ¬ CanTakeRun c.args.self.now c.args.vol p c.args.count)) (sym c.from_residual.ensures)
    (elim c.match-index_mut.branch [
      | in-Some w ↦
          λ p can.
          let taken = subst (λ o. IsSomeAnd o (λ v. (v.is_open ≡ true) × AreFreePages v p c.args.count)) (sym read ∙ w.in-Some.is) can in
          no_run w.in-Some.volume c.args.count w.allocate_run.result (sym w.branch'-is ∙ c.in_err-page.was) w.allocate_run.ensures.none p taken.0 taken.1
      | in-None w ↦
          λ p can. subst (λ o. IsSomeAnd o (λ v. (v.is_open ≡ true) × AreFreePages v p c.args.count)) (sym read ∙ w.in-None.is) can
    ])
