use Rattle.std.proofs.Common.{◌≡◌, ℕ, true, IfNone, sym, subst}
use Rattle.free_space.specs.VolumeSpace.{IsFreePage}
use Rattle.free_space.proofs.StaysSound.{one_page}
use Rattle.free_space.proofs.volume.Volume.allocate.Goals as goal

pub returns-in_err-page-clause-none : goal.returns-in_err-page-clause-none
returns-in_err-page-clause-none c =
    subst (λ r. IfNone r ((p : ℕ) → c.args.self.now.is_open ≡ true → ¬ IsFreePage c.args.self.now p)) (sym c.from_residual.ensures)
    (λ p is_open free. c.in_err-page.ensures.none p is_open (one_page free))
