use Rattle.release_tables.proofs.making.give_pages.Goals as goal

pub returns-clause-calls : goal.returns-clause-calls
returns-clause-calls c = c.loop-page.invariant.2
