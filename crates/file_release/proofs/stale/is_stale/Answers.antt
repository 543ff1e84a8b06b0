use Rattle.std.proofs.lemmas.Bool.{both_ways, eqb-true, lt-ltb}
use Rattle.file_release.proofs.Found.{not_stale, stale_empty, stale_from, stale_is_empty}
use Rattle.file_release.proofs.stale.is_stale.Goals as goal
use Rattle.fileset_files.specs.extent_records.Writing.{places_in}

pub returns-then-from-end : goal.returns-then-from-end
returns-then-from-end g c = λ cell value stands has. (
  (λ _. stale_from c.args.from c.end_of_map-end.result c.args.is_behind c.in_ok-cell_map.field-0 (places_in value) (c.in_ok-cell_map.ensures cell value stands has) c.if-from-end.true c.end_of_map-end.ensures.last),
  (λ _. lt-ltb c.args.from c.end_of_map-end.result c.if-from-end.true),
)

pub returns-then-is_behind : goal.returns-then-is_behind
returns-then-is_behind g c = λ cell value stands has.
    let same = c.in_ok-cell_map.ensures cell value stands has in
    let end = c.end_of_map-end.result in (
      (λ is. stale_empty c.args.from end c.args.is_behind c.in_ok-cell_map.field-0 (places_in value) same c.if-is_behind.true (eqb-true end 0 is) c.end_of_map-end.ensures.behind),
      (λ stale. stale_is_empty c.args.from end c.args.is_behind c.in_ok-cell_map.field-0 (places_in value) same c.if-from-end.false c.end_of_map-end.ensures.last c.end_of_map-end.ensures.behind stale),
    )

pub returns-else-is_behind : goal.returns-else-is_behind
returns-else-is_behind g c = λ cell value stands has.
    let same = c.in_ok-cell_map.ensures cell value stands has in
    let end = c.end_of_map-end.result in (
      (λ is. absurd (both_ways c.args.is_behind c.if-is_behind.false is)),
      (λ stale. absurd (not_stale c.args.from end c.args.is_behind c.in_ok-cell_map.field-0 (places_in value) same c.if-from-end.false (λ is _. both_ways c.args.is_behind c.if-is_behind.false is) c.end_of_map-end.ensures.last c.end_of_map-end.ensures.behind stale)),
    )
