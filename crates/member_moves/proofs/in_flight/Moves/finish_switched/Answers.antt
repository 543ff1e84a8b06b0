use Rattle.std.proofs.Common.{◌≡◌, rules, arith, sym, subst, ◌∙◌, ap}
use Rattle.std.proofs.lemmas.Fn.{filter_same}
use Rattle.member_moves.specs.Moves.{AreApart, is_unswitched, unswitched}
use Rattle.member_moves.proofs.StayApart.{apart_left}
use Rattle.member_moves.proofs.in_flight.Moves.finish_switched.Goals as goal

pub invariant_of-self : goal.invariant_of-self
invariant_of-self c =
    let kept : c.retain.new.self.items ≡ unswitched c.self.inside.moves.items = filter_same _ _ _ (λ x b f k. search rules) _ _ c.retain.ensures.filtered in (
      omega (arith, c.retain.ensures.bound, c.self.invariant.0),
      omega (arith, c.retain.ensures.capacity, c.self.invariant.1),
      subst AreApart (sym kept) (apart_left is_unswitched c.self.inside.moves.items c.self.invariant.2),
    )

pub returns : goal.returns
returns c =
    let kept : c.retain.new.self.items ≡ unswitched c.self.inside.moves.items = filter_same _ _ _ (λ x b f k. search rules) _ _ c.retain.ensures.filtered in
    kept ∙ ap unswitched c.self.view_is
