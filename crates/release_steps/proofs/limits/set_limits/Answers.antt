use Rattle.std.proofs.Common.{◌≡◌, [], List, Option, sym, subst}
use Rattle.release_list.specs.domain_base.declared.place.CellAt.{CellAt}
use Rattle.release_list.specs.metadata_cells.Chain.{PlacedCell}
use Rattle.release_list.specs.file_chains.FileChanges.{LeavesOtherCells}
use Rattle.release_steps.specs.QuotaChain.{IsQuotaChain}
use Rattle.release_steps.proofs.limits.set_limits.Goals as goal

pub set_in_chain-requires-clause-chain : goal.set_in_chain-requires-clause-chain
set_in_chain-requires-clause-chain g c =
    let r = c.requires.chain in
    (r.0, subst (λ (o : Option CellAt). IsQuotaChain (g.M.MetaPages.pages c.args.pages.now) o r.0) c.in-Some.is r.1, r.2)

pub returns-in_ok-set_in_chain-in-Some-clause-others : goal.returns-in_ok-set_in_chain-in-Some-clause-others
returns-in_ok-set_in_chain-in-Some-clause-others g c = λ chain is.
    c.set_in_chain.ensures.others chain (subst (λ (o : Option CellAt). IsQuotaChain (g.M.MetaPages.pages c.args.pages.now) o chain) c.in-Some.is is)

pub returns-in-None-clause-others : goal.returns-in-None-clause-others
returns-in-None-clause-others g c = λ chain is.
    let none : chain ≡ [] = subst (λ (o : Option CellAt). IsQuotaChain (g.M.MetaPages.pages c.args.pages.now) o chain) c.in-None.is is in
    subst (λ (cs : List PlacedCell). LeavesOtherCells c.args.cells.now cs (g.M.MetaPages.pages c.args.pages.now) (g.M.MetaPages.pages c.add_first.new.pages)) (sym none) c.add_first.ensures.others
