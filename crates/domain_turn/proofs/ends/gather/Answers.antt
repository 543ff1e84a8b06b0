use Rattle.std.proofs.Common.{◌≡◌, ◌∷◌, ◌++◌, ◌∙◌, [], ap, sym, subst, refl, arith, map, Contains, List, append_assoc, None}
use Rattle.domain_turn.specs.declared.pass.Pass.{Pass as PassOf}
use Rattle.domain_turn.specs.Kept.{resting}
use Rattle.domain_turn.specs.Passes.{in_hand, known}
use Rattle.domain_turn.proofs.Seats.{idle}
use Rattle.domain_turn.proofs.Steps.{in_first, in_rest, joining}
use Rattle.domain_turn.proofs.ends.gather.Goals as goal

pub loop-seat-init : goal.loop-seat-init
loop-seat-init g c =
    let first = c.in-Some.field-0 in
    let all = sym c.into_iter-passes.ensures.rest ∙ c.in-Some.ensures.items in
    let left = ap (λ it. it.rest.items) c.into_iter-seat-iterator.ensures.into_iter_gives in
    let each : (pass : PassOf g.row.T.Denot) → Contains (first ∷ c.next.new.self.rest.items) pass → (pass.seat.table_id ≡ c.args.queue.now.table_id) × (in_hand pass ≡ None)
    = λ pass there. c.requires.here pass (subst (λ (items : List (PassOf g.row.T.Denot)). Contains items pass) (sym all) there) in
    let mine = each first (in_first first c.next.new.self.rest.items) in
    let is = idle first mine.1 in
    record {
      here = mine.0;
      me = subst (λ m. m ≡ (resting m.0.shares, [])) (sym is) refl;
      gathered = ap (λ m. m.0.shares ++ map known c.into_iter-seat-iterator.result.rest.items) is
          ∙ ap (λ items. known first ∷ map known items) left ∙ ap (map known) (sym all);
      each = λ pass there. each pass (in_rest first c.next.new.self.rest.items pass (subst (λ (items : List (PassOf g.row.T.Denot)). Contains items pass) left there));
    }

pub join_seat-requires : goal.join_seat-requires
join_seat-requires g c =
    let now = c.loop-seat.invariant in
    let pass = c.in-Some-2.field-0 in
    let its = now.each pass (subst (λ (items : List (PassOf g.row.T.Denot)). Contains items pass) (sym c.in-Some-2.ensures.steps.0) (in_first pass c.next-in-loop-seat.new.self.rest.items)) in
    let is = idle pass its.1 in (
      now.here,
      its.0,
      ap (λ m. m.1) is,
      (let five = c.requires.sized in omega (arith, five)),
      joining _ _ c.loop-seat.all.id pass.seat.id c.loop-seat.all.me.0 pass.seat.me.0 (ap (λ m. m.0) now.me) (subst (λ m. m.0 ≡ resting m.0.shares) (sym is) refl),
    )

pub loop-seat-preserved : goal.loop-seat-preserved
loop-seat-preserved g c =
    let now = c.loop-seat.invariant in
    let pass = c.in-Some-2.field-0 in
    let left = c.in-Some-2.ensures.steps.0 in
    let its = now.each pass (subst (λ (items : List (PassOf g.row.T.Denot)). Contains items pass) (sym left) (in_first pass c.next-in-loop-seat.new.self.rest.items)) in
    let is = idle pass its.1 in
    let joined = c.join_seat.ensures.2 in
    let shares = ap (λ m. m.0.shares) joined ∙ ap (λ m. c.loop-seat.all.me.0.shares ++ m.0.shares) is in
    let behind = map known c.next-in-loop-seat.new.self.rest.items in
    record {
      here = c.join_seat.ensures.0 ∙ now.here;
      me = subst (λ m. m ≡ (resting m.0.shares, [])) (sym (joined ∙ ap (λ slots. (resting (c.loop-seat.all.me.0.shares ++ pass.seat.me.0.shares), slots)) (ap (λ m. m.1) now.me))) refl;
      gathered = ap (λ front. front ++ behind) shares ∙ append_assoc c.loop-seat.all.me.0.shares (known pass ∷ []) behind
          ∙ ap (λ items. c.loop-seat.all.me.0.shares ++ map known items) (sym left) ∙ now.gathered;
      each = λ other there. now.each other (subst (λ (items : List (PassOf g.row.T.Denot)). Contains items other) (sym left) (in_rest pass c.next-in-loop-seat.new.self.rest.items other there));
    }
