use Rattle.std.proofs.Common.{◌≡◌, ◌∙◌, IfErr, ap, subst}
use Rattle.std.proofs.Math.Logic.{∥∥₁_map}
use Rattle.file_commands.proofs.OfDomainMemory.KeptStands.{stands_so}
use Rattle.file_commands.specs.domain_memory.Memory.{StandsFor}
use Rattle.file_commands.specs.domain_memory.declared.memory.DomainMemory.{DomainMemory}
use Rattle.file_commands.proofs.OfDomainState.Resting.{rests_kept}
use Rattle.file_commands.proofs.OfDomainState.StaysWithin.{within_kept}
use Rattle.file_commands.specs.page_ways.Frame.{frame_in}
use Rattle.file_commands.specs.name_commands.Ending.{LacksPage}
use Rattle.file_commands.specs.name_commands.declared.stop.Stop.TheVariants.{NoPage}
use Rattle.client_commands.proofs.KeptAtHand.{kept_at_hand}
use Rattle.client_commands.proofs.Laid.{ends_laid, laid_stands, was_stands}
use Rattle.client_commands.proofs.wanting.lay.Goals as goal

pub stage-memory-requires-clause-stands : goal.stage-memory-requires-clause-stands
stage-memory-requires-clause-stands g c = ∥∥₁_map c.apart-memory.ensures.stands (λ goes. (goes.all, goes.stands))

pub together-requires-clause-rest : goal.together-requires-clause-rest
together-requires-clause-rest g c =
    rests_kept (g.R.Rack.disk c.apart-memory.result.1.rack) c.apart-memory.result.0 c.stage-memory.result.0 (kept_at_hand c.apart-memory.result.0 c.stage-memory.result.0 c.stage-memory.ensures.kept) c.apart-memory.ensures.rest

pub together-requires-clause-stands : goal.together-requires-clause-stands
together-requires-clause-stands g c =
    let o = g.O.Opening in
    let kept = kept_at_hand c.apart-memory.result.0 c.stage-memory.result.0 c.stage-memory.ensures.kept in
    ∥∥₁_map c.apart-memory.ensures.stands (λ goes. record {
      same = ap frame_in kept.frame ∙ goes.same;
      all = goes.all;
      stands = stands_so c.apart-memory.result.0 c.stage-memory.result.0 kept goes.all goes.stands;
      leads = goes.leads;
      within = within_kept o.pages o.frame o.sizes c.apart-memory.result.0 c.stage-memory.result.0 c.apart-memory.result.1.entries.items kept goes.within;
    })

pub returns-clause-ends : goal.returns-clause-ends
returns-clause-ends g c =
    ends_laid c.args.domain.memory c.apart-memory.result.0 c.stage-memory.result.0 c.together.result.memory c.apart-memory.ensures.memory (kept_at_hand c.apart-memory.result.0 c.stage-memory.result.0 c.stage-memory.ensures.kept) c.together.ensures.memory
    c.args.command.now c.stage-memory.result.1 c.stage-memory.ensures.ends

pub returns-clause-stands : goal.returns-clause-stands
returns-clause-stands g c =
    laid_stands c.args.domain.memory c.apart-memory.result.0 c.stage-memory.result.0 c.together.result.memory c.apart-memory.ensures.memory (kept_at_hand c.apart-memory.result.0 c.stage-memory.result.0 c.stage-memory.ensures.kept) c.together.ensures.memory

pub returns-clause-stood : goal.returns-clause-stood
returns-clause-stood g c = λ all stands.
    subst (λ (m : DomainMemory). StandsFor m all) c.apart-memory.ensures.memory
    (was_stands c.args.domain.memory c.apart-memory.result.0 c.stage-memory.result.0 c.together.result.memory c.apart-memory.ensures.memory (kept_at_hand c.apart-memory.result.0 c.stage-memory.result.0 c.stage-memory.ensures.kept) c.together.ensures.memory all stands)

pub returns-clause-cause : goal.returns-clause-cause
returns-clause-cause g c = subst (λ (m : DomainMemory). IfErr c.stage-memory.result.1 (λ stop. stop ≡ NoPage → LacksPage c.args.command.now m)) c.apart-memory.ensures.memory c.stage-memory.ensures.cause
