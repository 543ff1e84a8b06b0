use Rattle.std.proofs.Common.{◌∙◌, ap, sym, subst}
use Rattle.std.proofs.Math.Logic.{∥∥₁_map}
use Rattle.file_commands.specs.page_ways.Frame.{frame_in}
use Rattle.file_commands.specs.domain_memory.Memory.{StandsFor}
use Rattle.file_commands.specs.domain_memory.Staged.{IsSettled}
use Rattle.file_commands.proofs.OfDomainState.StaysWithin.{within_settled}
use Rattle.file_commands.specs.domain_memory.declared.memory.DomainMemory.{DomainMemory}
use Rattle.client_commands.proofs.releasing.drain.Goals as goal

pub drain-drained-requires-clause-stands : goal.drain-drained-requires-clause-stands
drain-drained-requires-clause-stands g c = ∥∥₁_map c.apart-memory.ensures.stands (λ goes. (goes.all, goes.stands))

pub together-requires-clause-stands : goal.together-requires-clause-stands
together-requires-clause-stands g c =
    let o = g.O.Opening in
    ∥∥₁_map c.apart-memory.ensures.stands (λ goes. record {
      same = ap frame_in c.drain-drained.ensures.frame ∙ goes.same;
      all = goes.all;
      stands = c.drain-drained.ensures.stands goes.all goes.stands;
      leads = goes.leads;
      within = within_settled o.pages o.frame o.sizes c.apart-memory.result.0 c.drain-drained.new.memory c.apart-memory.result.1.entries.items (subst IsSettled (sym c.apart-memory.ensures.memory) c.requires.settled) c.drain-drained.ensures.settled c.drain-drained.ensures.held goes.within;
    })

pub returns-clause-stands : goal.returns-clause-stands
returns-clause-stands g c = λ all stood.
    subst (λ (m : DomainMemory). StandsFor m all) (sym c.together.ensures.memory)
    (c.drain-drained.ensures.stands all (subst (λ (m : DomainMemory). StandsFor m all) (sym c.apart-memory.ensures.memory) stood))
