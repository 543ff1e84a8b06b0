use Rattle.std.proofs.Common.{◌≡◌, ◌∙◌, subst, arith, ⊎_elim}
use Rattle.std.proofs.lemmas.Bool.{cases_lt}
use Rattle.filesets_reading.specs.Domain.{HasFilesOf}
use Rattle.filesets_reading.specs.Good.{frame_at}
use Rattle.filesets_reading.proofs.Domains.{few_of}
use Rattle.filesets_reading.proofs.domain.read_domain.Goals as goal

pub loop-n-preserved : goal.loop-n-preserved
loop-n-preserved g c = λ k below.
    ⊎_elim (λ less. c.loop-n.invariant k less)
    (λ high.
    let last : c.in-Some.number ≡ k = c.in-Some.ensures.value ∙ omega (arith, below, high) in
    subst (HasFilesOf (g.M.MetaPages.pages c.args.pages.now) c.in_ok-tables.tables) last c.in_ok-look_at_slot.ensures)
    (cases_lt k c.loop-n.n)

pub returns-clause-files : goal.returns-clause-files
returns-clause-files g c = λ number item first places there has at.
    c.loop-n.invariant number (omega (arith, c.loop-n-test.false, few_of (g.M.MetaPages.pages c.args.pages.now) (frame_at c.args.anchor.now c.args.version) c.in_ok-tables.tables c.in_ok-tables.ensures number item there)) item first places there has at

pub read_tables-requires-clause-no_fault : goal.read_tables-requires-clause-no_fault
read_tables-requires-clause-no_fault g c = c.requires.no_fault.tables
