use Rattle.legal_histories.proofs.ShownLemmas.{same_refusal, same_answer}
use Rattle.legal_histories.proofs.legal.filesets_that_look_alike_answer_alike.Goals as goal

pub returns-clause-refusals : goal.returns-clause-refusals
returns-clause-refusals c = λ all other command alike. same_refusal all other alike command

pub returns-clause-answers : goal.returns-clause-answers
returns-clause-answers c = λ all other command alike. same_answer all other alike command
