use Rattle.std.proofs.Common.{ℕ, ◌<◌, ◌≤◌}
use Rattle.log_tables.specs.Calls.{HasMember}
use Rattle.log_tables.proofs.logs.has_members.Given as goal

abbrev pub invariant-loop-number : goal.invariant-loop-number
invariant-loop-number g l = (vol : ℕ) → 1 ≤ vol → vol < l.number → HasMember (g.R.Rack.disk l.rack).sizes l.anchor vol
