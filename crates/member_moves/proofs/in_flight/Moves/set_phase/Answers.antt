use Rattle.std.proofs.Common.{ap, ◌∙◌, sym, subst, arith, ◌≡◌}
use Rattle.std.proofs.lemmas.List.{with_items_is}
use Rattle.member_moves.specs.Moves.{AreApart, rephased, with_phase}
use Rattle.member_moves.proofs.PartChanged.{all_changed}
use Rattle.member_moves.proofs.StayApart.{apart_rephased}
use Rattle.member_moves.proofs.in_flight.Moves.set_phase.Goals as goal

pub invariant_of-self : goal.invariant_of-self
invariant_of-self c =
    let new = c.loop-page_move.page_move-items in
    let back = with_items_is c.self.inside.moves new (c.loop-page_move.invariant.len ∙ c.deref_mut-page_move-items.ensures.len) in
    let all : new ≡ with_phase c.args.phase c.args.from.now c.self.inside.moves.items =
    all_changed (rephased c.args.phase c.args.from.now) c.deref_mut-page_move-items.result.now new c.loop-page_move.page_move-index c.loop-page_move.invariant (omega arith)
    ∙ ap (with_phase c.args.phase c.args.from.now) c.deref_mut-page_move-items.ensures.value in (
      c.self.invariant.0,
      c.self.invariant.1,
      subst AreApart (sym (back ∙ all)) (apart_rephased c.self.inside.moves.items c.args.phase c.args.from.now c.self.invariant.2),
    )

pub returns : goal.returns
returns c =
    let new = c.loop-page_move.page_move-items in
    with_items_is c.self.inside.moves new (c.loop-page_move.invariant.len ∙ c.deref_mut-page_move-items.ensures.len)
    ∙ all_changed (rephased c.args.phase c.args.from.now) c.deref_mut-page_move-items.result.now new c.loop-page_move.page_move-index c.loop-page_move.invariant (omega arith)
    ∙ ap (with_phase c.args.phase c.args.from.now) (c.deref_mut-page_move-items.ensures.value ∙ c.self.view_is)
