use Rattle.std.proofs.Common.{◌≡◌, ◌<◌, false, MatchBool, sym, ◌∙◌, subst, arith}
use Rattle.std.proofs.lemmas.Bool.{ltb-true, not-true}
use Rattle.std.specs.FinSet.{contains}
use Rattle.free_space.specs.VolumeSpace.{VolumeSpace, IsFreePage}
use Rattle.free_space.specs.contracts.volume.Volume.{the_view}
use Rattle.free_space.proofs.StaysSound.{free_page}
use Rattle.free_space.proofs.volume.Volume.reserve.Goals.{then-page-pages, else-page-pages}
use Rattle.free_space.proofs.volume.Volume.reserve.Goals as goal

pub take-requires : goal.take-requires
take-requires c =
    let within : c.args.page < c.self.inside.map.pages = elim c.if-page-pages.branch [
      | then-page-pages w ↦ omega arith
      | else-page-pages w ↦ omega (arith, ltb-true c.args.page c.pages.result (sym w.free-is ∙ c.if-free.true))
    ] in
    let unused : contains c.self.inside.map.used c.args.page ≡ false = elim c.if-page-pages.branch [
      | then-page-pages w ↦ sym w.is_used.ensures ∙ not-true w.is_used.result (sym w.free-is ∙ c.if-free.true)
      | else-page-pages w ↦ absurd (omega (arith, w.if-page-pages.false, ltb-true c.args.page c.pages.result (sym w.free-is ∙ c.if-free.true)))
    ] in
    subst (λ (v : VolumeSpace). IsFreePage v c.args.page) c.self.view_is (free_page (the_view c.self.inside) c.self.invariant.sound c.args.page within unused)

pub returns-then-free-clause-answer : goal.returns-then-free-clause-answer
returns-then-free-clause-answer c =
    let within : c.args.page < c.self.inside.map.pages = elim c.if-page-pages.branch [
      | then-page-pages w ↦ omega arith
      | else-page-pages w ↦ omega (arith, ltb-true c.args.page c.pages.result (sym w.free-is ∙ c.if-free.true))
    ] in
    let unused : contains c.self.inside.map.used c.args.page ≡ false = elim c.if-page-pages.branch [
      | then-page-pages w ↦ sym w.is_used.ensures ∙ not-true w.is_used.result (sym w.free-is ∙ c.if-free.true)
      | else-page-pages w ↦ absurd (omega (arith, w.if-page-pages.false, ltb-true c.args.page c.pages.result (sym w.free-is ∙ c.if-free.true)))
    ] in
    subst (λ b. MatchBool b (IsFreePage c.args.self.now c.args.page) (¬ IsFreePage c.args.self.now c.args.page)) (sym c.if-free.true)
    (subst (λ (v : VolumeSpace). IsFreePage v c.args.page) c.self.view_is (free_page (the_view c.self.inside) c.self.invariant.sound c.args.page within unused))
