use Rattle.std.proofs.Common.{◌≡◌, ◌==◌, drop}
use Rattle.std.specs.List.{find}
use Rattle.script_text.specs.History.{refusal_number}
use Rattle.history_reading.specs.Reading.{refusal_at}
use Rattle.history_reading.proofs.refusals.refusal_at.Given as goal

-- none of the ones so far has the number
abbrev pub invariant-loop-refusal : goal.invariant-loop-refusal
invariant-loop-refusal l = find (λ r. refusal_number r == l.number) (drop l.refusal-index l.refusal-items) ≡ refusal_at l.number
