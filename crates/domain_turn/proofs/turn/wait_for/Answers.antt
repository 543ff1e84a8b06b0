use Rattle.std.proofs.Common.{◌≡◌, ◌∙◌, sym, ap, subst, arith, [], ◌∷◌, Some, eq-eqb}
use Rattle.atomic_table.specs.Table.{rest}
use Rattle.domain_turn.specs.Plays.{share_in}
use Rattle.domain_turn.specs.Telling.{telling}
use Rattle.domain_turn.proofs.Seats.{match_true, some_and}
use Rattle.domain_turn.proofs.Steps.{looking}
use Rattle.domain_turn.proofs.turn.wait_for.Goals as goal

pub load-served-requires : goal.load-served-requires
load-served-requires g c =
    let told = telling g.T.Told.history g.T.Told.lasting g.T.Told.rests g.T.Told.room g.T.Told.begun in
    let seat = c.args.seat.now in
    let mine = some_and _ seat.me.0.ticket c.requires.queued in
    let same = c.loop.invariant in (
      same.0 ∙ c.requires.here.0,
      (let five = c.requires.here.1 in omega (arith, five)),
      looking told c.args.queue.now.key _ c.loop.seat.id c.loop.seat.me mine.0
          (subst (λ m. m.0.shares ≡ share_in m.0 ∷ []) (sym same.2) c.requires.free.1)
          (ap (λ m. m.0.ticket) same.2 ∙ mine.1)
          (ap (λ m. m.0.holds) same.2 ∙ c.requires.free.0)
          (ap (λ m. m.1) same.2 ∙ c.requires.free.2),
    )

pub exchange-requires : goal.exchange-requires
exchange-requires g c =
    let seat = c.args.seat.now in
    let mine = some_and _ seat.me.0.ticket c.requires.queued in
    let same = c.loop.invariant in
    let took = match_true _ _ _ (eq-eqb _ _ (c.if-served-ticket.true ∙ mine.2)) (c.load-served.ensures.2 mine.0 (ap (λ m. m.0.ticket) same.2 ∙ mine.1)) in
    let carried = ap (λ m. m.1) took.2 in
    (c.load-served.ensures.0 ∙ same.0 ∙ c.requires.here.0, (Some took.0, carried ∙ ap (λ slots. (0, Some took.0) ∷ rest slots) (sym carried)))
