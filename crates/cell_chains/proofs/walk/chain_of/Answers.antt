use Rattle.std.proofs.Common.{List, sym, subst}
use Rattle.metadata_cells.specs.domain_base.declared.place.CellAt.{CellAt}
use Rattle.cell_chains.specs.Chains.{IsOnWay, ListsChain, begins, goes_on}
use Rattle.cell_chains.proofs.Walked.{none_in, seen_more}
use Rattle.cell_chains.proofs.Whole.{lists_chain, no_chain}
use Rattle.cell_chains.proofs.walk.chain_of.Goals as goal

pub returns-in_default : goal.returns-in_default
returns-in_default c =
    subst (ListsChain c.args.links.now c.args.start.now) (sym c.new-cells.ensures.items) (no_chain c.args.links.now c.args.start.now c.in_default.ensures.none)

pub loop-init : goal.loop-init
loop-init c =
    subst (λ (l : List CellAt). IsOnWay c.args.links.now c.args.start.now l c.new-seen.result c.args.start.now c.in-Some.link) (sym c.new-cells.ensures.items)
    (record {
      follows = begins c.in-Some.link c.in-Some.ensures.some;
      same = λ one. ((λ found. absurd (c.new-seen.ensures one found)), (λ there. absurd (none_in one there)));
    })

pub returns-in-None : goal.returns-in-None
returns-in-None c =
    let at = c.loop.come.at in
    let link = c.loop.come.link in
    let passed = c.loop.cells.items in
    let seen = seen_more c.loop.seen c.insert.new.self passed at c.loop.invariant.same c.in_ok-insert.ensures.ok in
    lists_chain c.args.links.now c.args.start.now c.push.new.self.items passed at link c.in_ok-push.ensures.items c.loop.invariant.follows
    (λ onto next leads fresh there may. c.in-None.ensures.none onto next leads (λ found. fresh ((seen onto).0 found)) there may)

pub loop-preserved : goal.loop-preserved
loop-preserved c =
    let at = c.loop.come.at in
    let link = c.loop.come.link in
    let passed = c.loop.cells.items in
    let next = c.in-Some-next_of.next in
    let told = c.in-Some-next_of.ensures.some in
    let seen = seen_more c.loop.seen c.insert.new.self passed at c.loop.invariant.same c.in_ok-insert.ensures.ok in
    subst (λ (l : List CellAt). IsOnWay c.args.links.now c.args.start.now l c.insert.new.self next.at next.link) (sym c.in_ok-push.ensures.items)
    (record {
      follows = goes_on passed at next.at link next.link c.loop.invariant.follows told.0 (λ among. told.1 ((seen next.at).1 among)) told.2 told.3;
      same = seen;
    })
