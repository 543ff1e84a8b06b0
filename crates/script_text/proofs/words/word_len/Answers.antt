use Rattle.script_text.proofs.WordLemmas.{words_of-first}
use Rattle.script_text.proofs.words.word_len.Goals as goal

pub returns-clause-first : goal.returns-clause-first
returns-clause-first c =
    rw (c.blank_at.ensures.value, c.split_at.ensures.back)
    (words_of-first c.args.text.now c.begun_len-begun.result c.requires.some c.requires.no_blank c.begun_len-begun.ensures.value)
