use Rattle.std.proofs.Common.{◌≡◌, Some, None, sym, ap, ◌∙◌, subst, arith}
use Rattle.free_space.specs.VolumePages.{VolumePages, IsFirstRun}
use Rattle.free_space.specs.Bits.{IsKept}
use Rattle.free_space.proofs.Used.{viewed_map}
use Rattle.free_space.proofs.FirstRuns.{first_found, none_found}
use Rattle.free_space.proofs.bitmap.Bitmap.first_run_from.Goals as goal

pub returns-in_err-start : goal.returns-in_err-start
returns-in_err-start c =
    let kept : IsKept c.as_slice.result.now c.self.inside.pages c.self.inside.free =
    subst (λ bytes. IsKept bytes c.self.inside.pages c.self.inside.free) (sym c.as_slice.ensures.value) c.self.invariant in
    let is : viewed_map c.as_slice.result.now c.self.inside.pages ≡ c.args.self.now =
    ap (λ bytes. viewed_map bytes c.self.inside.pages) c.as_slice.ensures.value ∙ c.self.view_is in
    subst (λ r. IsFirstRun c.args.self.now c.args.from c.args.count r) (sym c.from_residual.ensures)
    (subst (λ (m : VolumePages). IsFirstRun m c.args.from c.args.count None) is
    (none_found kept c.args.from c.args.count (omega arith) c.div_ceil-words.result (omega arith) c.in_err-start.ensures.none))

pub returns : goal.returns
returns c =
    let kept : IsKept c.as_slice.result.now c.self.inside.pages c.self.inside.free =
    subst (λ bytes. IsKept bytes c.self.inside.pages c.self.inside.free) (sym c.as_slice.ensures.value) c.self.invariant in
    let is : viewed_map c.as_slice.result.now c.self.inside.pages ≡ c.args.self.now =
    ap (λ bytes. viewed_map bytes c.self.inside.pages) c.as_slice.ensures.value ∙ c.self.view_is in
    subst (λ (m : VolumePages). IsFirstRun m c.args.from c.args.count (Some c.in_ok-start.start)) is
    (first_found kept c.args.from c.args.count (omega arith) c.in_ok-start.start (omega (arith, c.in_ok-start.ensures.found.1, kept.size)) c.in_ok-start.ensures.found.0)
