use Rattle.std.proofs.Common.{◌∙◌, ap, subst, sym}
use Rattle.std.proofs.Math.Logic.{∥∥₁_map}
use Rattle.file_commands.specs.domain_memory.Memory.{StandsFor}
use Rattle.file_commands.specs.domain_memory.Staged.{IsSettled}
use Rattle.file_commands.specs.domain_memory.declared.memory.DomainMemory.{DomainMemory}
use Rattle.file_commands.proofs.OfDomainMemory.KeptStands.{stands_so}
use Rattle.file_commands.proofs.OfDomainState.Resting.{rests_kept}
use Rattle.file_commands.proofs.OfDomainState.StaysWithin.{within_kept}
use Rattle.file_commands.specs.page_ways.Frame.{frame_in}
use Rattle.file_commands.proofs.OfNameChanges.Same.{still_back, still_keeps, still_settled}
use Rattle.client_commands.specs.Shown.{ShowsAs}
use Rattle.client_commands.proofs.FileShown.{shows_still}
use Rattle.client_commands.proofs.Laid.{laid_stands, was_stands}
use Rattle.client_commands.proofs.telling_volumes.look.Goals as goal

pub show_volumes-memory-requires-clause-stands : goal.show_volumes-memory-requires-clause-stands
show_volumes-memory-requires-clause-stands g c = ∥∥₁_map c.apart-memory.ensures.stands (λ goes. (goes.all, goes.stands))

pub together-requires-clause-back : goal.together-requires-clause-back
together-requires-clause-back g c = ∥∥₁_map c.apart-memory.ensures.back (still_back c.apart-memory.result.0 c.show_volumes-memory.result.0 c.show_volumes-memory.ensures.same)

pub together-requires-clause-rest : goal.together-requires-clause-rest
together-requires-clause-rest g c =
    rests_kept (g.R.Rack.disk c.apart-memory.result.1.rack) c.apart-memory.result.0 c.show_volumes-memory.result.0 (still_keeps c.apart-memory.result.0 c.show_volumes-memory.result.0 c.show_volumes-memory.ensures.same) c.apart-memory.ensures.rest

pub together-requires-clause-stands : goal.together-requires-clause-stands
together-requires-clause-stands g c =
    let o = g.O.Opening in
    let kept = still_keeps c.apart-memory.result.0 c.show_volumes-memory.result.0 c.show_volumes-memory.ensures.same in
    ∥∥₁_map c.apart-memory.ensures.stands (λ goes. record {
      same = ap frame_in kept.frame ∙ goes.same;
      all = goes.all;
      stands = stands_so c.apart-memory.result.0 c.show_volumes-memory.result.0 kept goes.all goes.stands;
      leads = goes.leads;
      within = within_kept o.pages o.frame o.sizes c.apart-memory.result.0 c.show_volumes-memory.result.0 c.apart-memory.result.1.entries.items kept goes.within;
    })

pub returns-clause-stands : goal.returns-clause-stands
returns-clause-stands g c =
    laid_stands c.args.domain.memory c.apart-memory.result.0 c.show_volumes-memory.result.0 c.together.result.memory c.apart-memory.ensures.memory
    (still_keeps c.apart-memory.result.0 c.show_volumes-memory.result.0 c.show_volumes-memory.ensures.same) c.together.ensures.memory

pub returns-clause-settled : goal.returns-clause-settled
returns-clause-settled g c =
    subst IsSettled (sym c.together.ensures.memory)
    (still_settled c.apart-memory.result.0 c.show_volumes-memory.result.0 c.show_volumes-memory.ensures.same (subst IsSettled (sym c.apart-memory.ensures.memory) c.requires.settled))

pub returns-clause-shown : goal.returns-clause-shown
returns-clause-shown g c = λ all stands.
    let same = c.show_volumes-memory.ensures.same in
    let kept = still_keeps c.apart-memory.result.0 c.show_volumes-memory.result.0 same in
    subst (λ (m : DomainMemory). ShowsAs m all c.args.command.now c.show_volumes-memory.result.1) (sym c.together.ensures.memory)
    (shows_still c.apart-memory.result.0 c.show_volumes-memory.result.0 same all c.args.command.now c.show_volumes-memory.result.1 c.requires.showing
    (c.show_volumes-memory.ensures.shown all (was_stands c.args.domain.memory c.apart-memory.result.0 c.show_volumes-memory.result.0 c.together.result.memory c.apart-memory.ensures.memory kept c.together.ensures.memory all stands)))

pub returns-clause-was : goal.returns-clause-was
returns-clause-was g c = λ all stands.
    subst (λ (m : DomainMemory). ShowsAs m all c.args.command.now c.show_volumes-memory.result.1) c.apart-memory.ensures.memory
    (c.show_volumes-memory.ensures.shown all (subst (λ (m : DomainMemory). StandsFor m all) (sym c.apart-memory.ensures.memory) stands))
