use Rattle.std.proofs.Common.{◌≡◌, ◌⊎◌, ◌+◌, ◌≤◌, ◌++◌, [], drop, length, map, Contains, None, vec_capacity, vec_len}
use Rattle.domain_turn.specs.declared.pass.Pass.{Pass as PassOf}
use Rattle.domain_turn.specs.Kept.{resting, shares_from}
use Rattle.domain_turn.specs.Passes.{in_hand, known}
use Rattle.domain_turn.specs.Telling.{telling}
use Rattle.domain_turn.proofs.ends.deal.Given as goal

abbrev pub invariant-loop-number : goal.invariant-loop-number
invariant-loop-number g l = record {
  here : l.seat.table_id ≡ l.queue.table_id;
  me : l.seat.me ≡ (resting l.seat.me.0.shares, []);
  left : l.seat.me.0.shares ≡ shares_from (telling g.T.Told.history g.T.Told.lasting g.T.Told.rests g.T.Told.room g.T.Told.begun) l.value.value l.number (drop l.number l.lefts);
  room : vec_len l.passes + length (drop l.number l.lefts) ≤ vec_capacity l.passes;
  dealt : map known l.passes.items ++ l.seat.me.0.shares ≡ map known l.initial.passes.items ++ l.initial.seat.me.0.shares;
  each : (pass : PassOf g.row.T.Denot) → Contains l.passes.items pass
      → Contains l.initial.passes.items pass ⊎ ((pass.seat.table_id ≡ l.queue.table_id) × (in_hand pass ≡ None));
}
