use Rattle.std.proofs.Common.{◌≡◌, take}
use Rattle.std.specs.List.{AllByRecursion}
use Rattle.release_list.specs.cell_records.Records.{Allowed}
use Rattle.release_steps.specs.QuotaChain.{records_for}
use Rattle.release_steps.proofs.records.write_said.Given as goal

abbrev pub invariant-loop-who : goal.invariant-loop-who
invariant-loop-who l = record {
  value : l.records.items ≡ records_for (take l.who-index l.said);
  allowed : AllByRecursion Allowed l.records.items;
}
