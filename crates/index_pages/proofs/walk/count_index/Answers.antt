use Rattle.std.proofs.Common.{◌≡◌, ◌+◌, arith, subst, sym}
use Rattle.index_pages.proofs.Walked.{HasPassed, IsCome, come_next, counted, good_here, long, stopped}
use Rattle.index_pages.proofs.walk.count_index.Goals as goal

pub loop-count-init : goal.loop-count-init
loop-count-init g c = (λ homes are. are, λ homes are. omega arith)

pub returns-in_default : goal.returns-in_default
returns-in_default g c =
    let pages = g.M.MetaPages.pages c.args.pages.now in
    let come = subst (IsCome pages c.args.first c.loop-count.count) c.in_default.is c.loop-count.invariant.0 in
    counted pages c.args.first c.loop-count.count come c.loop-count.invariant.1 4294967295 c.loop-count.auto.count-end

pub next_home-home-requires : goal.next_home-home-requires
next_home-home-requires g c =
    let pages = g.M.MetaPages.pages c.args.pages.now in
    good_here pages c.args.first c.loop-count.count c.in-Some.here (subst (IsCome pages c.args.first c.loop-count.count) c.in-Some.is c.loop-count.invariant.0) c.requires

pub loop-count-preserved : goal.loop-count-preserved
loop-count-preserved g c =
    let pages = g.M.MetaPages.pages c.args.pages.now in
    let come = subst (IsCome pages c.args.first c.loop-count.count) c.in-Some.is c.loop-count.invariant.0 in (
      subst (IsCome pages c.args.first (c.loop-count.count + 1)) (sym c.next_home-home.ensures) (come_next pages c.args.first c.loop-count.count c.in-Some.here come),
      long pages c.args.first c.loop-count.count c.in-Some.here come,
    )

pub returns : goal.returns
returns g c =
    let pages = g.M.MetaPages.pages c.args.pages.now in
    let there : c.loop-count.count ≡ 4294967295 = omega (arith, c.loop-count.auto.count-end, c.loop-count-test.false) in
    stopped pages c.args.first 4294967295 (subst (HasPassed pages c.args.first) there c.loop-count.invariant.1)
