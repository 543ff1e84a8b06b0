use Rattle.std.proofs.Common.{List, length, ap, sym, subst, arith}
use Rattle.member_moves.specs.declared.page_move.Move.{Move}
use Rattle.member_moves.specs.Moves.{AreApart, IsInNone}
use Rattle.member_moves.proofs.StayApart.{apart_started}
use Rattle.member_moves.proofs.in_flight.Moves.start.Goals as goal

pub invariant_of-self : goal.invariant_of-self
invariant_of-self c =
    let items = c.self.inside.moves.items in
    let none_from = subst (λ (moves : List Move). IsInNone moves c.args.from) (sym c.self.view_is) c.requires.from in
    let none_to = subst (λ (moves : List Move). IsInNone moves c.args.to) (sym c.self.view_is) c.requires.to in (
      omega (arith, c.push_reserved.ensures.len, c.self.invariant.0, c.requires.room, ap length c.self.view_is),
      omega (arith, c.push_reserved.ensures.capacity, c.self.invariant.1),
      subst AreApart (sym c.push_reserved.ensures.items) (apart_started items c.args.from c.args.to c.self.invariant.2 none_from none_to c.requires.other),
    )
