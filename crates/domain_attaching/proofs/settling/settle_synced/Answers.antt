use Rattle.std.proofs.Common.{sym, subst}
use Rattle.attached_domain.specs.volume_disk.Disk.{Disk}
use Rattle.attached_domain.specs.volume_disk.Image.{NoPlace}
use Rattle.attached_domain.specs.volume_disk.Run.{Touches}
use Rattle.attached_domain.specs.disk_label.Fault.{HasPassed}
use Rattle.attached_domain.specs.log_recovery.Settling.{Anywhere, StandsAtHome}
use Rattle.attached_domain.proofs.OfLogRecovery.Settled.{anywhere, anywhere_then}
use Rattle.domain_attaching.specs.Settling.{HasSettleCause}
use Rattle.domain_attaching.proofs.HomeKept.{passed_then}
use Rattle.domain_attaching.proofs.Mapped.{err_too, ok_too}
use Rattle.domain_attaching.proofs.Rested.{home_since, read_since, recovered_synced, rests_if, settle_cause_since, sound_synced, still_since, told_synced}
use Rattle.domain_attaching.proofs.settling.settle_synced.Goals as goal

pub settle_groups-requires-clause-pending : goal.settle_groups-requires-clause-pending
settle_groups-requires-clause-pending g c = λ told. c.in-Ok.ensures.settled (told_synced (g.R.Rack.disk c.args.rack.now) (g.R.Rack.disk c.sync_volumes.new.rack) c.sync_volumes.ensures.writes.touches told)

pub settle_groups-requires-clause-sound : goal.settle_groups-requires-clause-sound
settle_groups-requires-clause-sound g c = sound_synced (g.R.Rack.disk c.args.rack.now) (g.R.Rack.disk c.sync_volumes.new.rack) c.sync_volumes.ensures.writes.touches c.args.redone.now c.requires.sound

pub settle_groups-requires-clause-recovered : goal.settle_groups-requires-clause-recovered
settle_groups-requires-clause-recovered g c = recovered_synced (g.R.Rack.disk c.args.rack.now) (g.R.Rack.disk c.sync_volumes.new.rack) c.sync_volumes.ensures.writes.touches c.args.redone.now c.requires.recovered

pub returns-in-Ok-clause-rest : goal.returns-in-Ok-clause-rest
returns-in-Ok-clause-rest g c =
    rests_if (g.R.Rack.disk c.args.rack.now) (g.R.Rack.disk c.sync_volumes.new.rack) c.sync_volumes.ensures.writes.touches (g.R.Rack.disk c.settle_groups.new.rack) c.args.redone.now c.settle_groups.result c.requires.sound c.settle_groups.ensures.touches c.requires.recovered
    (g.met.R.Rack.holds_bytes c.settle_groups.new.rack) c.settle_groups.ensures.anchor c.settle_groups.ensures.behind c.settle_groups.ensures.home

pub returns-in-Ok-clause-home : goal.returns-in-Ok-clause-home
returns-in-Ok-clause-home g c =
    let old = g.R.Rack.disk c.args.rack.now in
    let mid = g.R.Rack.disk c.sync_volumes.new.rack in
    let new = g.R.Rack.disk c.settle_groups.new.rack in
    ok_too c.settle_groups.result (λ _. StandsAtHome mid new) (λ _. StandsAtHome old new) (λ _ home. home_since old mid c.sync_volumes.ensures.writes.touches new home) c.settle_groups.ensures.home

pub returns-in-Ok-clause-any_moment : goal.returns-in-Ok-clause-any_moment
returns-in-Ok-clause-any_moment g c = read_since (g.R.Rack.disk c.args.rack.now) (g.R.Rack.disk c.sync_volumes.new.rack) c.sync_volumes.ensures.writes.touches (g.R.Rack.disk c.settle_groups.new.rack) c.settle_groups.ensures.any_moment

pub returns-in-Ok-clause-cause : goal.returns-in-Ok-clause-cause
returns-in-Ok-clause-cause g c =
    let old = g.R.Rack.disk c.args.rack.now in
    let mid = g.R.Rack.disk c.sync_volumes.new.rack in
    let new = g.R.Rack.disk c.settle_groups.new.rack in
    err_too c.settle_groups.result (HasSettleCause mid new) (HasSettleCause old new) (λ why is. settle_cause_since old mid new why c.sync_volumes.ensures.writes.touches c.sync_volumes.ensures.writes.read_faults c.in-Ok.ensures.fault is) c.settle_groups.ensures.cause

pub returns-in-Err-clause-any_moment : goal.returns-in-Err-clause-any_moment
returns-in-Err-clause-any_moment g c = still_since (g.R.Rack.disk c.args.rack.now) (g.R.Rack.disk c.sync_volumes.new.rack) c.sync_volumes.ensures.writes.touches

pub returns-in-Ok-clause-none : goal.returns-in-Ok-clause-none
returns-in-Ok-clause-none g c = λ none. subst (λ (d : Disk). Touches (g.R.Rack.disk c.args.rack.now) d NoPlace) (sym (c.settle_groups.ensures.none none)) c.sync_volumes.ensures.writes.touches

pub returns-in-Ok-clause-touches : goal.returns-in-Ok-clause-touches
returns-in-Ok-clause-touches g c =
    anywhere_then (g.R.Rack.disk c.args.rack.now) (g.R.Rack.disk c.sync_volumes.new.rack) (g.R.Rack.disk c.settle_groups.new.rack) NoPlace Anywhere c.sync_volumes.ensures.writes.touches c.settle_groups.ensures.touches

pub returns-in-Err-clause-touches : goal.returns-in-Err-clause-touches
returns-in-Err-clause-touches g c = anywhere (g.R.Rack.disk c.args.rack.now) (g.R.Rack.disk c.sync_volumes.new.rack) NoPlace c.sync_volumes.ensures.writes.touches

pub returns-in-Ok-clause-passed : goal.returns-in-Ok-clause-passed
returns-in-Ok-clause-passed g c =
    let old = g.R.Rack.disk c.args.rack.now in
    let mid = g.R.Rack.disk c.sync_volumes.new.rack in
    let new = g.R.Rack.disk c.settle_groups.new.rack in
    ok_too c.settle_groups.result (λ _. HasPassed mid new) (λ _. HasPassed old new) (λ _ passed. passed_then old mid new (c.sync_volumes.ensures.writes.read_faults, c.in-Ok.ensures.fault) passed) c.settle_groups.ensures.passed
