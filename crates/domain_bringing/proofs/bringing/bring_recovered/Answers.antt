use Rattle.std.proofs.Common.{subst, sym}
use Rattle.domain_faults.specs.log_ring.Homes.{HasMembers}
use Rattle.domain_faults.specs.disk_label.declared.anchor.Anchor.{Anchor}
use Rattle.domain_bringing.proofs.bringing.bring_recovered.Goals as goal

pub bring_all-requires-clause-members : goal.bring_all-requires-clause-members
bring_all-requires-clause-members g c = subst (λ (a : Anchor). HasMembers (g.R.Rack.disk c.args.rack.now).sizes a) (sym c.in-Ok.ensures.anchor) c.requires.usable.members

pub returns-in-Err-clause-cause : goal.returns-in-Err-clause-cause
returns-in-Err-clause-cause g c = c.in-Err.ensures.cause (g.R.Rack.disk c.args.rack.now)
