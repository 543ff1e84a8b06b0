use Rattle.std.proofs.Common.{◌≡◌, ◌≤◌, map, drop, vec_len}
use Rattle.word_forms.specs.Forms.{each, limited, run_of, runs_of_word}
use Rattle.word_forms.proofs.BytesLemmas.{with_runs}
use Rattle.word_forms.proofs.byte_words.runs.Given as goal

-- the bytes so far, and those of the other runs
abbrev pub invariant-loop-word : goal.invariant-loop-word
invariant-loop-word l = record {
  rest : limited (runs_of_word l.fn.word) ≡ limited (with_runs l.bytes.items (each run_of (map (λ word. word.now) (drop l.word-index l.word-items))));
  within : vec_len l.bytes ≤ 8_192;
}
