use Rattle.std.proofs.Common.{◌≡◌, ◌∙◌, ◌↔◌, IfOk, ap, sym, subst}
use Rattle.std.proofs.Math.Logic.{∥∥₁_map}
use Rattle.file_commands.specs.page_ways.Frame.{frame_in}
use Rattle.file_commands.specs.domain_memory.Memory.{StandsFor}
use Rattle.file_commands.specs.domain_memory.Staged.{IsSettled}
use Rattle.file_commands.specs.domain_memory.Going.{NothingGoes}
use Rattle.file_commands.proofs.OfDomainState.StaysWithin.{within_settled}
use Rattle.file_commands.specs.domain_memory.declared.memory.DomainMemory.{DomainMemory}
use Rattle.client_commands.proofs.releasing.release.Goals as goal

pub release-released-requires-clause-stands : goal.release-released-requires-clause-stands
release-released-requires-clause-stands g c = ∥∥₁_map c.apart-memory.ensures.stands (λ goes. (goes.all, goes.stands))

pub together-requires-clause-stands : goal.together-requires-clause-stands
together-requires-clause-stands g c =
    let o = g.O.Opening in
    ∥∥₁_map c.apart-memory.ensures.stands (λ goes. record {
      same = ap frame_in c.release-released.ensures.frame ∙ goes.same;
      all = goes.all;
      stands = c.release-released.ensures.stands goes.all goes.stands;
      leads = goes.leads;
      within = within_settled o.pages o.frame o.sizes c.apart-memory.result.0 c.release-released.new.memory c.apart-memory.result.1.entries.items (subst IsSettled (sym c.apart-memory.ensures.memory) c.requires.settled) c.release-released.ensures.settled c.release-released.ensures.held goes.within;
    })

pub returns-clause-stands : goal.returns-clause-stands
returns-clause-stands g c = λ all stood.
    subst (λ (m : DomainMemory). StandsFor m all) (sym c.together.ensures.memory)
    (c.release-released.ensures.stands all (subst (λ (m : DomainMemory). StandsFor m all) (sym c.apart-memory.ensures.memory) stood))

pub returns-clause-some : goal.returns-clause-some
returns-clause-some g c = subst (λ (m : DomainMemory). IfOk c.release-released.result (λ count. (count ≡ 0) ↔ NothingGoes m)) c.apart-memory.ensures.memory c.release-released.ensures.some
