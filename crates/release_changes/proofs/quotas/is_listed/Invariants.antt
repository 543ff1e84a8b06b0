use Rattle.std.proofs.Common.{◌≡◌, ◌<◌, ℕ, get_or}
use Rattle.domain_changes.specs.release_list.declared.list.Entry.{Entry}
use Rattle.release_changes.proofs.quotas.is_listed.Given as goal

-- no entry before it begins there
abbrev pub invariant-loop-entry : goal.invariant-loop-entry
invariant-loop-entry l = (k : ℕ) (d : Entry) → k < l.entry-index → ¬ (get_or l.entries k d).at ≡ l.at
