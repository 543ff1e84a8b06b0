use Rattle.std.proofs.Common.{◌≡◌, ◌++◌, ◌<◌, false, length, map, slice_index}
use Rattle.script_text.specs.Words.{is_blank, words_of}
use Rattle.script_text.proofs.words.words.Given as goal

abbrev pub invariant-loop-rest : goal.invariant-loop-rest
invariant-loop-rest l =
    (map (λ word. word.now) l.words.items ++ words_of l.rest ≡ words_of l.line)
    × (0 < length l.rest → is_blank (slice_index l.rest 0) ≡ false)

abbrev pub decreases-loop-rest : goal.decreases-loop-rest
decreases-loop-rest l = length l.rest
