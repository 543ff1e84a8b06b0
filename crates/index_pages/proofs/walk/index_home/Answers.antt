use Rattle.std.proofs.Common.{◌≡◌, ◌+◌, arith, subst, sym}
use Rattle.index_pages.proofs.Walked.{IsCome, come_next, good_here, is_home, none_at}
use Rattle.index_pages.proofs.walk.index_home.Goals as goal

pub loop-init : goal.loop-init
loop-init g c = λ homes are. are

pub returns-in_default : goal.returns-in_default
returns-in_default g c =
    let pages = g.M.MetaPages.pages c.args.pages.now in
    let come = subst (IsCome pages c.args.first c.loop.counter) c.in_default.is c.loop.invariant in
    λ homes are. none_at pages c.args.first c.loop.counter come homes are c.args.number (omega (arith, c.loop.auto.counter-end))

pub next_home-home-requires : goal.next_home-home-requires
next_home-home-requires g c =
    let pages = g.M.MetaPages.pages c.args.pages.now in
    good_here pages c.args.first c.loop.counter c.in-Some.here (subst (IsCome pages c.args.first c.loop.counter) c.in-Some.is c.loop.invariant) c.requires

pub loop-preserved : goal.loop-preserved
loop-preserved g c =
    let pages = g.M.MetaPages.pages c.args.pages.now in
    let come = subst (IsCome pages c.args.first c.loop.counter) c.in-Some.is c.loop.invariant in
    subst (IsCome pages c.args.first (c.loop.counter + 1)) (sym c.next_home-home.ensures) (come_next pages c.args.first c.loop.counter c.in-Some.here come)

pub returns : goal.returns
returns g c =
    let pages = g.M.MetaPages.pages c.args.pages.now in
    let there : c.loop.counter ≡ c.args.number = omega (arith, c.loop.auto.counter-end, c.loop-test.false) in
    is_home pages c.args.first c.args.number c.loop.home (subst (λ n. IsCome pages c.args.first n c.loop.home) there c.loop.invariant)
