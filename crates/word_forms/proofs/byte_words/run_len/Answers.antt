use Rattle.word_forms.proofs.RunLemmas.{runs_of-first}
use Rattle.word_forms.proofs.byte_words.run_len.Goals as goal

pub returns-clause-run : goal.returns-clause-run
returns-clause-run c = rw c.front_len.ensures.value (runs_of-first c.args.bytes.now c.requires)
