use Rattle.std.proofs.Common.{◌∙◌, sym, ap, subst}
use Rattle.attached_domain.specs.volume_disk.Disk.{Disk}
use Rattle.attached_domain.specs.volume_disk.Image.{NoPlace}
use Rattle.attached_domain.specs.volume_disk.Run.{Touches}
use Rattle.attached_domain.specs.disk_label.Fault.{HasPassed}
use Rattle.attached_domain.specs.log_recovery.Settling.{Anywhere, StandsAtHome}
use Rattle.attached_domain.specs.disk_label.declared.anchor.Anchor.{Anchor}
use Rattle.domain_attaching.specs.Settling.{HasNoGroups, StaysReadSince, with_anchor}
use Rattle.domain_attaching.proofs.Anew.{back_new, settled_new, stands_new}
use Rattle.domain_attaching.proofs.settling.attach_brought.Goals as goal

pub of_memory-requires-clause-stands : goal.of_memory-requires-clause-stands
of_memory-requires-clause-stands g c =
    let is = c.requires.memory in
    ∣ (is.all, stands_new c.args.found.memory c.args.found.redone c.in-Ok.anchor c.in-Ok.ensures.anchor is.anchor is.all is.stands) ∣₁

pub of_memory-requires-clause-settled : goal.of_memory-requires-clause-settled
of_memory-requires-clause-settled g c = ∣ settled_new c.args.found.memory c.in-Ok.anchor c.requires.memory.settled ∣₁

pub of_memory-requires-clause-back : goal.of_memory-requires-clause-back
of_memory-requires-clause-back g c = ∣ back_new c.args.found.memory c.in-Ok.anchor c.requires.memory.back ∣₁

pub of_memory-requires-clause-rest : goal.of_memory-requires-clause-rest
of_memory-requires-clause-rest g c = ∣ c.in-Ok.ensures.rest ∣₁

pub returns-in-Ok-clause-memory : goal.returns-in-Ok-clause-memory
returns-in-Ok-clause-memory g c = c.of_memory.ensures.memory ∙ ap (λ (a : Anchor). with_anchor a c.args.found.memory) c.in-Ok.ensures.anchor

pub returns-in-Ok-clause-home : goal.returns-in-Ok-clause-home
returns-in-Ok-clause-home g c = subst (λ (d : Disk). StandsAtHome (g.R.Rack.disk c.args.rack) d) (sym (ap g.R.Rack.disk c.of_memory.ensures.rack)) c.in-Ok.ensures.home

pub returns-in-Ok-clause-any_moment : goal.returns-in-Ok-clause-any_moment
returns-in-Ok-clause-any_moment g c = subst (λ (d : Disk). StaysReadSince (g.R.Rack.disk c.args.rack) d) (sym (ap g.R.Rack.disk c.of_memory.ensures.rack)) c.settle_synced.ensures.any_moment

pub returns-in-Ok-clause-none : goal.returns-in-Ok-clause-none
returns-in-Ok-clause-none g c = subst (λ (d : Disk). HasNoGroups c.args.found.redone → Touches (g.R.Rack.disk c.args.rack) d NoPlace) (sym (ap g.R.Rack.disk c.of_memory.ensures.rack)) c.settle_synced.ensures.none

pub returns-in-Ok-clause-touches : goal.returns-in-Ok-clause-touches
returns-in-Ok-clause-touches g c = subst (λ (d : Disk). Touches (g.R.Rack.disk c.args.rack) d Anywhere) (sym (ap g.R.Rack.disk c.of_memory.ensures.rack)) c.settle_synced.ensures.touches

pub returns-in-Ok-clause-passed : goal.returns-in-Ok-clause-passed
returns-in-Ok-clause-passed g c = subst (λ (d : Disk). HasPassed (g.R.Rack.disk c.args.rack) d) (sym (ap g.R.Rack.disk c.of_memory.ensures.rack)) c.in-Ok.ensures.passed
