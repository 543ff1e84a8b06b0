use Rattle.std.proofs.Common.{arith}
use Rattle.word_forms.proofs.BytesLemmas.{runs-start}
use Rattle.word_forms.proofs.byte_words.runs.Goals as goal

pub loop-word-init : goal.loop-word-init
loop-word-init c = record {
  rest = rw (c.new-bytes.ensures.items, c.as_slice-word-items.ensures.value, c.in_ok-words.ensures) (runs-start c.args.word.now);
  within = omega (arith, c.new-bytes.ensures.len);
}
