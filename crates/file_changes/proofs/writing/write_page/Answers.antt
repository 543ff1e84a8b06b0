use Rattle.std.proofs.Common.{ℕ, List, subst}
use Rattle.domain_memory.proofs.OfExtentMaps.EditLemmas.{on_ok}
use Rattle.set_standing.specs.Nodes.{with_page}
use Rattle.file_changes.specs.Stages.{StandsChanged}
use Rattle.file_changes.proofs.writing.write_page.Goals as goal

pub returns-clause-ok : goal.returns-clause-ok
returns-clause-ok c = λ path all entry fileset has.
    on_ok c.place_page.result (subst (λ (b : List ℕ). StandsChanged path (with_page c.args.page b) all entry fileset c.place_page.new.memory) (c.in_ok-after.ensures path all entry fileset has))
    (c.place_page.ensures.ok path all entry fileset has)
