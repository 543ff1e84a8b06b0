use Rattle.script_text.proofs.WordLemmas.{words_of-blanks, no_blank}
use Rattle.script_text.proofs.words.skip_blanks.Goals as goal

pub returns-clause-same : goal.returns-clause-same
returns-clause-same c = rw (c.split_at.ensures.back, c.blanks_len.ensures.value) (words_of-blanks c.args.text.now)

pub returns-clause-no_blank : goal.returns-clause-no_blank
returns-clause-no_blank c = rw (c.split_at.ensures.back, c.blanks_len.ensures.value) (no_blank c.args.text.now)
