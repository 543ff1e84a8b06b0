use Rattle.std.proofs.Common.{sym, subst}
use Rattle.release_steps.specs.page_store.Pages.{Pages}
use Rattle.release_steps.specs.file_chains.FileChanges.{AreOnTables}
use Rattle.release_steps.specs.free_cells.Cells.{Cells}
use Rattle.release_steps.specs.QuotaChain.{IsQuotaChain}
use Rattle.file_tables.proofs.Answered.{if_ok, on_err}
use Rattle.file_tables.proofs.chain.set.Goals as goal

pub set_limits-requires-clause-chain : goal.set_limits-requires-clause-chain
set_limits-requires-clause-chain c = (c.requires.chain.chain, c.requires.chain.is, c.requires.chain.on_tables)

pub returns-clause-ok : goal.returns-clause-ok
returns-clause-ok c =
    let was = c.requires.chain in
    if_ok c.set_limits.result
    (λ start sets. record { allocated = c.set_limits.ensures.allocated; chain = sets.after; is = sets.is; on_tables = sets.on_tables })
    (c.set_limits.ensures.ok was.chain was.is)

pub returns-clause-err : goal.returns-clause-err
returns-clause-err c =
    let was = c.requires.chain in
    on_err c.set_limits.result
    (λ same cells. record {
      allocated = c.set_limits.ensures.allocated;
      chain = was.chain;
      is = subst (λ (p : Pages). IsQuotaChain p c.args.first was.chain) (sym same) was.is;
      on_tables = subst (λ (n : Cells). AreOnTables n was.chain) (sym cells) was.on_tables;
    }) c.set_limits.ensures.pages c.set_limits.ensures.cells
