use Rattle.std.proofs.Common.{◌≡◌, ◌<◌, ◌≤◌, suc, drop, take, get_or, length, subst, sym, arith}
use Rattle.extent_maps.specs.Runs.{IsRun, BeginBehind, BeginUpTo, end_of}
use Rattle.extent_maps.proofs.RunLemmas.{absent_before, absent_between, has_at, is_run_at}
use Rattle.extent_maps.proofs.map.find.Goals as goal

pub returns-in_err-before-clause-none : goal.returns-in_err-before-clause-none
returns-in_err-before-clause-none c =
    let none : c.count_up_to.result ≡ 0 = omega (arith, c.in_err-before.ensures) in
    let back : BeginBehind c.args.page c.args.runs.now = subst (λ n. BeginBehind c.args.page (drop n c.args.runs.now)) none c.count_up_to.ensures.back in
    rw c.from_residual.ensures (absent_before c.args.runs.now c.args.page back)

pub end-requires : goal.end-requires
end-requires c =
    let before = c.in_ok-before.ensures in
    let within : c.in_ok-before.before < length c.args.runs.now = omega (arith, before.0, before.1, c.count_up_to.ensures.within) in
    subst IsRun (sym c.index-runs-before.is) (is_run_at c.args.runs.now c.in_ok-before.before c.index-runs-before.result c.requires within)

pub returns-else-page-end-clause-none : goal.returns-else-page-end-clause-none
returns-else-page-end-clause-none c =
    let runs = c.args.runs.now in
    let n = c.in_ok-before.before in
    let before = c.in_ok-before.ensures in
    let within : n < length runs = omega (arith, before.0, before.1, c.count_up_to.ensures.within) in
    let count : c.count_up_to.result ≡ suc n = omega (arith, before.0, before.1) in
    let front : BeginUpTo c.args.page (take (suc n) runs) = subst (λ m. BeginUpTo c.args.page (take m runs)) count c.count_up_to.ensures.front in
    let back : BeginBehind c.args.page (drop (suc n) runs) = subst (λ m. BeginBehind c.args.page (drop m runs)) count c.count_up_to.ensures.back in
    let ends : end_of (get_or runs n c.index-runs-before.result) ≤ c.args.page = subst (λ r. end_of r ≤ c.args.page) c.index-runs-before.is (omega (arith, c.end.ensures, c.if-page-end.false)) in
    absent_between runs n c.index-runs-before.result c.args.page c.requires within front back ends

pub returns-then-page-end-clause-some : goal.returns-then-page-end-clause-some
returns-then-page-end-clause-some c =
    let runs = c.args.runs.now in
    let n = c.in_ok-before.before in
    let before = c.in_ok-before.ensures in
    let within : n < length runs = omega (arith, before.0, before.1, c.count_up_to.ensures.within) in
    let count : c.count_up_to.result ≡ suc n = omega (arith, before.0, before.1) in
    let front : BeginUpTo c.args.page (take (suc n) runs) = subst (λ m. BeginUpTo c.args.page (take m runs)) count c.count_up_to.ensures.front in
    let ends : c.args.page < end_of (get_or runs n c.index-runs-before.result) = subst (λ r. c.args.page < end_of r) c.index-runs-before.is (omega (arith, c.end.ensures, c.if-page-end.true)) in
    (within, has_at runs n c.index-runs-before.result c.args.page c.requires within front ends)
