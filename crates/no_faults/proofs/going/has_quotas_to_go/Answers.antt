use Rattle.std.proofs.Common.{◌≡◌, IsSome, refl, sym, subst, arith, ⊎_elim}
use Rattle.std.proofs.lemmas.Bool.{cases_lt, true≢false}
use mathlib.Core.Bool.{false≢true}
use Rattle.no_faults.specs.Going.{NamesFirst}
use Rattle.no_faults.proofs.FirstQuotas.{all_do, one_does_not}
use Rattle.no_faults.proofs.going.has_quotas_to_go.Goals as goal
use Rattle.no_faults.proofs.going.has_quotas_to_go.Goals.{in-Some+else-not-names_first, in_default}

pub returns-then-not-names_first : goal.returns-then-not-names_first
returns-then-not-names_first g c layout laid same none are =
    one_does_not (g.M.MetaPages.pages c.args.pages.now) layout laid none c.args.links.now are c.args.table.now same c.in-Some.number (λ names. false≢true (c.if-not-names_first.ensures.1 names))

pub loop-number-preserved : goal.loop-number-preserved
loop-number-preserved g c = λ k below.
    let pages = g.M.MetaPages.pages c.args.pages.now in
    let this : NamesFirst pages c.args.links.now c.args.table.now c.loop-number.number =
    elim c.match-new.branch [
      | in-Some+else-not-names_first w ↦ subst (NamesFirst pages c.args.links.now c.args.table.now) w.in-Some.ensures.value (w.if-not-names_first.ensures.0 refl)
      | in_default w ↦ absurd (true≢false (sym (subst IsSome w.in_default.is (c.new.ensures.range.1 c.loop-number-test.true))))
    ] in
    ⊎_elim (λ low. c.loop-number.invariant k low)
    (λ high. let here : c.loop-number.number ≡ k = omega (arith, below, high) in subst (NamesFirst pages c.args.links.now c.args.table.now) here this)
    (cases_lt k c.loop-number.number)

pub returns : goal.returns
returns g c layout laid same none are =
    all_do (g.M.MetaPages.pages c.args.pages.now) layout laid none c.args.links.now are c.args.table.now same
    (λ n below. c.loop-number.invariant n (omega (arith, below, c.loop-number-test.false)))
