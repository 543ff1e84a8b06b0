use Rattle.std.proofs.Common.{◌≡◌, ◌+◌, not, map, drop}
use Rattle.std.specs.List.{prefix_len}
use Rattle.history_reading.specs.Reading.{is_arrow}
use Rattle.history_reading.proofs.lines.arrow_at.Given as goal

-- no word so far is `->`
abbrev pub invariant-loop-i : goal.invariant-loop-i
invariant-loop-i l =
    prefix_len (λ word. not (is_arrow word)) (map (λ word. word.now) l.words)
    ≡ l.i + prefix_len (λ word. not (is_arrow word)) (map (λ word. word.now) (drop l.i l.words))
