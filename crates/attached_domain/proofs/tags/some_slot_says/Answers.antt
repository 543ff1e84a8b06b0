use Rattle.std.proofs.Common.{◌≡◌, ◌∙◌, ◌<◌, ℕ, IsSome, refl, sym, subst, arith}
use Rattle.std.proofs.lemmas.Bool.{true≢false}
use mathlib.Core.Bool.{false≢true}
use Rattle.attached_domain.specs.Signs.{IsSaidIn}
use Rattle.attached_domain.proofs.Looked.{no_slot_says, one_more}
use Rattle.attached_domain.proofs.tags.some_slot_says.Goals as goal
use Rattle.attached_domain.proofs.tags.some_slot_says.Goals.{in-Some+in_ok-slot_says+else-branch, in_default}

pub returns-then-branch : goal.returns-then-branch
returns-then-branch g c =
    let at : c.in-Some.number ≡ c.loop-number.number = c.in-Some.ensures.value in
    let below : c.in-Some.number < 32 = omega (arith, at, c.loop-number-test.true) in
    ((λ _. (c.in-Some.number, below, c.in_ok-slot_says.ensures.0 c.if-branch.true)), (λ _. refl))

pub loop-number-preserved : goal.loop-number-preserved
loop-number-preserved g c =
    let pages = g.M.MetaPages.pages c.args.pages.now in
    let this : ¬ IsSaidIn pages c.args.sign c.args.tables.now c.loop-number.number =
    elim c.match-new.branch [
      | in-Some+in_ok-slot_says+else-branch w ↦
          subst (λ (n : ℕ). ¬ IsSaidIn pages c.args.sign c.args.tables.now n) w.in-Some.ensures.value (λ said. false≢true (sym w.if-branch.false ∙ w.in_ok-slot_says.ensures.1 said))
      | in_default w ↦ absurd (true≢false (sym (subst IsSome w.in_default.is (c.new.ensures.range.1 c.loop-number-test.true))))
    ] in
    one_more (λ (n : ℕ). ¬ IsSaidIn pages c.args.sign c.args.tables.now n) c.loop-number.number c.loop-number.invariant this

pub returns : goal.returns
returns g c = (
  (λ is. absurd (false≢true is)),
  (λ found. absurd (no_slot_says (g.M.MetaPages.pages c.args.pages.now) c.args.sign c.args.tables.now (λ k below. c.loop-number.invariant k (omega (arith, below, c.loop-number-test.false))) found)),
)
