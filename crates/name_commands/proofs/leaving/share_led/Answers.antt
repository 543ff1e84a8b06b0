use Rattle.std.proofs.Common.{IfOk, subst}
use Rattle.name_changes.specs.Looking.{LeadsTo}
use Rattle.name_commands.proofs.leaving.share_led.Goals as goal

pub returns-in-Ok : goal.returns-in-Ok
returns-in-Ok c = λ path all entry fileset has leads refuses free.
    let led : LeadsTo path fileset c.in-Ok.there.0 c.in-Ok.there.1 = subst (λ r. IfOk r (λ there. LeadsTo path fileset there.0 there.1)) c.in-Ok.is leads in
    c.share_of.ensures path all entry fileset (record { staged = has.staged; original = has.original; there = has.there; at = led.at }) led
