use Rattle.std.proofs.Common.{rules, ◌≡◌, ◌⊎◌, ◌+◌, ◌≤◌, ◌<◌, ◌-◌, ◌∷◌, ◌++◌, ◌∙◌, [], ap, sym, subst, refl, inl, inr, ⊎_elim, arith, drop, get_or, length, map, Contains, None, List, ℕ, vec_capacity, vec_len, if◌then◌else◌, Bool, append_assoc, append-nil}
use mathlib.Core.Bool.{false≢true}
use mathlib.Core.List.{map-append}
use Rattle.std.proofs.lemmas.List.Elements.{Contains-append_cases}
use Rattle.domain_turn.specs.declared.pass.Pass.{Pass as PassOf}
use Rattle.domain_turn.specs.declared.view.Share.{Share}
use Rattle.domain_turn.specs.Kept.{resting, shares_from}
use Rattle.domain_turn.specs.Passes.{in_hand, known}
use Rattle.domain_turn.specs.Plays.{first_of, rest_of}
use Rattle.domain_turn.specs.Telling.{telling}
use Rattle.domain_turn.proofs.Seats.{from_there, moved_over, past_all}
use Rattle.domain_turn.proofs.Totals.{only_one}
use Rattle.domain_turn.proofs.ends.deal.Goals as goal

pub loop-number-init : goal.loop-number-init
loop-number-init g c = record {
  here = c.requires.here.0;
  me = c.requires.seat;
  left = c.requires.all;
  room = c.requires.room;
  dealt = refl;
  each = λ pass there. inl there;
}

pub first_pass-pass-requires-clause-some : goal.first_pass-pass-requires-clause-some
first_pass-pass-requires-clause-some g c =
    let now = c.loop-number.invariant in
    let lefts = c.args.lefts.now in
    let k : ℕ = c.loop-number.number in
    let next = from_there lefts k c.loop-number-test.true in
    let told = telling g.T.Told.history g.T.Told.lasting g.T.Told.rests g.T.Told.room g.T.Told.begun in
    let shares = now.left ∙ ap (shares_from told c.args.value.now.value k) next in
    let size = ap length shares in
    omega (arith, size)

pub first_pass-pass-requires-clause-number : goal.first_pass-pass-requires-clause-number
first_pass-pass-requires-clause-number g c =
    let now = c.loop-number.invariant in
    let lefts = c.args.lefts.now in
    let k : ℕ = c.loop-number.number in
    let next = from_there lefts k c.loop-number-test.true in
    let told = telling g.T.Told.history g.T.Told.lasting g.T.Told.rests g.T.Told.room g.T.Told.begun in
    let shares = now.left ∙ ap (shares_from told c.args.value.now.value k) next in
    sym (ap (λ (them : List Share). (first_of them).number) shares)

pub first_pass-pass-requires-clause-left : goal.first_pass-pass-requires-clause-left
first_pass-pass-requires-clause-left g c =
    let now = c.loop-number.invariant in
    let lefts = c.args.lefts.now in
    let k : ℕ = c.loop-number.number in
    let next = from_there lefts k c.loop-number-test.true in
    let told = telling g.T.Told.history g.T.Told.lasting g.T.Told.rests g.T.Told.room g.T.Told.begun in
    let shares = now.left ∙ ap (shares_from told c.args.value.now.value k) next in
    sym (ap (λ (them : List Share). (first_of them).left) shares)

pub unreachable-requires : goal.unreachable-requires
unreachable-requires g c =
    let now = c.loop-number.invariant in
    let lefts = c.args.lefts.now in
    let k : ℕ = c.loop-number.number in
    let next = from_there lefts k c.loop-number-test.true in
    let told = telling g.T.Told.history g.T.Told.lasting g.T.Told.rests g.T.Told.room g.T.Told.begun in
    let shares = now.left ∙ ap (shares_from told c.args.value.now.value k) next in
    let room = now.room in
    let size = ap length next in
    let ok = c.push.ensures.succeeds (omega (arith, room, size)) in
    false≢true (sym c.if-is_err.ensures.negation ∙ ok)

pub loop-number-preserved : goal.loop-number-preserved
loop-number-preserved g c =
    let now = c.loop-number.invariant in
    let lefts = c.args.lefts.now in
    let k : ℕ = c.loop-number.number in
    let next = from_there lefts k c.loop-number-test.true in
    let told = telling g.T.Told.history g.T.Told.lasting g.T.Told.rests g.T.Told.room g.T.Told.begun in
    let shares = now.left ∙ ap (shares_from told c.args.value.now.value k) next in
    let room = now.room in
    let size = ap length next in
    let rest_is = ap (λ m. m.0.shares) c.first_pass-pass.ensures.others ∙ ap rest_of shares in
    let ok = c.push.ensures.succeeds (omega (arith, room, size)) in
    let pass = c.first_pass-pass.result in
    let pushed = c.push.ensures.items ∙ ap (λ (b : Bool). if b then c.loop-number.passes.items ++ pass ∷ [] else c.loop-number.passes.items) ok in
    let longer = c.push.ensures.len ∙ ap (λ (b : Bool). if b then vec_len c.loop-number.passes + 1 else vec_len c.loop-number.passes) ok in
    let wide = c.push.ensures.capacity in
    record {
      here = c.first_pass-pass.ensures.same ∙ now.here;
      me = subst (λ m. m ≡ (resting m.0.shares, [])) (sym c.first_pass-pass.ensures.others) refl;
      left = rest_is;
      room = omega (arith, room, size, longer, wide);
      dealt = moved_over (map known c.loop-number.passes.items) (map known c.push.new.self.items) (first_of c.loop-number.seat.me.0.shares) c.loop-number.seat.me.0.shares
          c.first_pass-pass.new.seat.me.0.shares (rest_of c.loop-number.seat.me.0.shares) _
          (subst (λ (them : List Share). them ≡ first_of them ∷ rest_of them) (sym shares) refl) (ap (λ m. m.0.shares) c.first_pass-pass.ensures.others)
          (ap (map known) pushed ∙ map-append known c.loop-number.passes.items (pass ∷ []) ∙ ap (λ x. map known c.loop-number.passes.items ++ x ∷ []) c.first_pass-pass.ensures.known)
          now.dealt;
      each = λ other there. ⊎_elim (now.each other)
          (λ last. inr (subst (λ (p : PassOf g.row.T.Denot). (p.seat.table_id ≡ c.args.queue.now.table_id) × (in_hand p ≡ None)) (sym (only_one pass other last)) c.first_pass-pass.ensures.pass))
          (Contains-append_cases c.loop-number.passes.items (pass ∷ []) other (subst (λ (items : List (PassOf g.row.T.Denot)). Contains items other) pushed there));
    }

pub returns-clause-dealt : goal.returns-clause-dealt
returns-clause-dealt g c =
    let now = c.loop-number.invariant in
    let told = telling g.T.Told.history g.T.Told.lasting g.T.Told.rests g.T.Told.room g.T.Told.begun in
    let over = c.loop-number-test.false in
    let none : c.loop-number.seat.me.0.shares ≡ [] = now.left ∙ ap (shares_from told c.args.value.now.value c.loop-number.number) (past_all c.args.lefts.now c.loop-number.number (omega (arith, over))) in
    sym (append-nil (map known c.loop-number.passes.items)) ∙ ap (λ shares. map known c.loop-number.passes.items ++ shares) (sym none) ∙ now.dealt

pub returns-clause-here : goal.returns-clause-here
returns-clause-here g c = c.loop-number.invariant.each
