use Rattle.std.proofs.Common.{map, take}
use Rattle.std.specs.Prelude.{Contains}
use Rattle.domain_attaching.specs.Tables.{Marks}
use Rattle.domain_attaching.proofs.tables.mark_slot.Given as goal

abbrev pub invariant-loop-place : goal.invariant-loop-place
invariant-loop-place l = Marks (λ k. Contains (take l.place-index (map (λ place. place.home) l.place-items)) (record { vol = l.fn.vol; page = k })) l.fn.marks l.marks
