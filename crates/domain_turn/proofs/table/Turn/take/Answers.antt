use Rattle.std.proofs.Common.{◌∙◌, ap, arith, is_some}
use Rattle.domain_turn.specs.Plays.{carried_by}
use Rattle.domain_turn.specs.Telling.{telling}
use Rattle.domain_turn.proofs.Seats.{none_of}
use Rattle.domain_turn.proofs.Steps.{drawing}
use Rattle.domain_turn.proofs.table.Turn.take.Goals as goal

pub fetch_add-ticket-requires : goal.fetch_add-ticket-requires
fetch_add-ticket-requires g c =
    let told = telling g.T.Told.history g.T.Told.lasting g.T.Told.rests g.T.Told.room g.T.Told.begun in
    let pass = c.args.pass.now in (
      c.requires.here,
      (let five = c.args.self.now.sized.0 in omega (arith, five)),
      drawing told c.args.self.now.table.shared.key _ pass.seat.id pass.seat.me pass.one
          (none_of pass.seat.me.0.ticket (pass.queued ∙ ap is_some c.requires.free))
          c.requires.free
          (pass.carried ∙ ap carried_by c.requires.free),
    )
