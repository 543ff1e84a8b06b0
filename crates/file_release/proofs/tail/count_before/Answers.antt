use Rattle.std.proofs.Common.{◌<◌, ◌≤◌, ltb, ltb-true, ltb-false, arith, rules}
use Rattle.std.proofs.lemmas.List.Sorted.{IsPartitionPoint-from_clause, IsPartitionedBy-ltb}
use Rattle.fileset_files.specs.extent_maps.declared.run.Run.{Run}
use Rattle.fileset_files.proofs.OfExtentMaps.RunLemmas.{all_drop, all_take, rising}
use Rattle.file_release.proofs.tail.count_before.Goals as goal

pub returns-clause-front : goal.returns-clause-front
returns-clause-front c =
    let parted = IsPartitionedBy-ltb (λ (r : Run). r.page) c.args.runs.now c.args.page (λ i j d le lt. rising c.args.runs.now i j d c.requires le lt) in
    let point = IsPartitionPoint-from_clause (λ (r : Run). ltb r.page c.args.page) _ _ c.partition_point.ensures.partitioned parted (λ a r q k. search rules) in
    all_take (λ (r : Run). r.page < c.args.page) c.args.runs.now c.partition_point.result (λ k d lt. ltb-true _ _ (point.0 k d (omega arith) lt)) c.partition_point.ensures.bound

pub returns-clause-back : goal.returns-clause-back
returns-clause-back c =
    let parted = IsPartitionedBy-ltb (λ (r : Run). r.page) c.args.runs.now c.args.page (λ i j d le lt. rising c.args.runs.now i j d c.requires le lt) in
    let point = IsPartitionPoint-from_clause (λ (r : Run). ltb r.page c.args.page) _ _ c.partition_point.ensures.partitioned parted (λ a r q k. search rules) in
    all_drop (λ (r : Run). c.args.page ≤ r.page) c.args.runs.now c.partition_point.result (λ k d le lt. ltb-false _ _ (point.1 k d le lt)) c.partition_point.ensures.bound
