use Rattle.std.proofs.Common.{◌≡◌, ℕ}
use Rattle.std.proofs.Math.Logic.{∥∥₁_map}
use Rattle.domain_attaching.proofs.OfLogRecovery.Settled.{anywhere}
use Rattle.run_parts.specs.declared.status.Status.TheVariants as status
use Rattle.advfs_run.proofs.DomainRunning.{failed_closing, fault_not_ok, leads_kept, room_still}
use Rattle.advfs_run.proofs.runs.end_run.Goals as goal

pub close-requires-clause-room : goal.close-requires-clause-room
close-requires-clause-room g c =
    let o = g.O.Opening in
    let domain = c.args.domain in
    room_still o.pages o.frame o.sizes domain.memory domain.history.entries.items domain.history.job c.args.room domain.stands c.requires.room

pub returns-in-Ok-clause-legal : goal.returns-in-Ok-clause-legal
returns-in-Ok-clause-legal g c =
    let o = g.O.Opening in
    let domain = c.args.domain in
    leads_kept o.pages o.frame o.sizes domain.memory domain.history.entries.items domain.history.job (g.R.Rack.disk domain.history.rack) _ (status.Ok ≡ status.Ok) domain.stands c.requires.begun
    (λ is told. c.in-Ok.ensures.means told) (λ is told. ∥∥₁_map (c.in-Ok.ensures.closed told) (λ now. now.none))

pub returns-in-Ok-clause-touches : goal.returns-in-Ok-clause-touches
returns-in-Ok-clause-touches g c = anywhere (g.R.Rack.disk c.args.domain.history.rack) _ _ c.in-Ok.ensures.touches

pub returns-in-Err-clause-legal : goal.returns-in-Err-clause-legal
returns-in-Err-clause-legal g c =
    let o = g.O.Opening in
    let domain = c.args.domain in
    leads_kept o.pages o.frame o.sizes domain.memory domain.history.entries.items domain.history.job (g.R.Rack.disk domain.history.rack) _ (status.VolumeFault c.number.result ≡ status.Ok) domain.stands c.requires.begun
    (λ is told. absurd (fault_not_ok c.number.result is)) (λ is told. absurd (fault_not_ok c.number.result is))

pub returns-in-Err-clause-touches : goal.returns-in-Err-clause-touches
returns-in-Err-clause-touches g c = anywhere (g.R.Rack.disk c.args.domain.history.rack) _ _ c.in-Err.ensures.touches_at_fault

pub returns-in-Err-clause-ends : goal.returns-in-Err-clause-ends
returns-in-Err-clause-ends g c =
    let before : ℕ → ℕ = (g.R.Rack.disk c.args.domain.history.rack).write_faults in
    failed_closing before _ _ c.number.result c.number.ensures.value c.in-Err.ensures.cause
