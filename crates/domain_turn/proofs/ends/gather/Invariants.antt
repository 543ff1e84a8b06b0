use Rattle.std.proofs.Common.{◌≡◌, ◌++◌, [], map, Contains, None}
use Rattle.domain_turn.specs.declared.pass.Pass.{Pass as PassOf}
use Rattle.domain_turn.specs.Kept.{resting}
use Rattle.domain_turn.specs.Passes.{in_hand, known}
use Rattle.domain_turn.proofs.ends.gather.Given as goal

abbrev pub invariant-loop-seat : goal.invariant-loop-seat
invariant-loop-seat g l = record {
  here : l.all.table_id ≡ l.queue.table_id;
  me : l.all.me ≡ (resting l.all.me.0.shares, []);
  gathered : l.all.me.0.shares ++ map known l.seat-iterator.rest.items ≡ map known l.fn.passes.items;
  each : (pass : PassOf g.row.T.Denot) → Contains l.seat-iterator.rest.items pass → (pass.seat.table_id ≡ l.queue.table_id) × (in_hand pass ≡ None);
}
