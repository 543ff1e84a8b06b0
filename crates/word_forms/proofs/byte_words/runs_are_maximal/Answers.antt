use Rattle.word_forms.proofs.RunLemmas.{runs_of_is_form, runs_of_is_only}
use Rattle.word_forms.proofs.byte_words.runs_are_maximal.Goals as goal

pub returns-clause-form : goal.returns-clause-form
returns-clause-form c = runs_of_is_form

pub returns-clause-only : goal.returns-clause-only
returns-clause-only c = runs_of_is_only
