use Rattle.std.proofs.Common.{◌<◌, ◌≤◌, ℕ}
use Rattle.attached_domain.specs.domain_standing.Domain.{layout_of}
use Rattle.attached_domain.specs.domain_memory.Staged.{staged_in}
use Rattle.domain_attaching.specs.Tables.{HasMarksFor, HasTablesOn}
use Rattle.domain_attaching.proofs.tables.TablePages.mark.Given as goal

abbrev pub invariant-loop-number : goal.invariant-loop-number
invariant-loop-number l = record {
  low : 1 ≤ l.number;
  all : HasMarksFor l.memory.frame.anchor l.self;
  marked : (vol : ℕ) → 1 ≤ vol → vol < l.number → HasTablesOn (layout_of (staged_in l.memory)) l.self vol;
}
