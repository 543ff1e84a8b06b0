use Rattle.std.proofs.Common.{◌∙◌, ap, arith}
use Rattle.domain_turn.specs.Kept.{resting}
use Rattle.domain_turn.proofs.Seats.{first_there}
use Rattle.domain_turn.proofs.Steps.{splitting}
use Rattle.domain_turn.proofs.ends.first_pass.Goals as goal

pub split_seat-requires : goal.split_seat-requires
split_seat-requires g c =
    let seat = c.args.seat.now in
    let first = first_there seat.me.0.shares c.requires.some in (
      c.requires.here.0,
      (let five = c.requires.here.1 in omega (arith, five)),
      splitting _ _ seat.id seat.me.0 first.0 first.1 (ap (λ m. m.0) c.requires.seat ∙ ap resting first.2),
    )
