use Rattle.fileset_lending.proofs.Named.{lent_names, new_names_staged}
use Rattle.fileset_lending.proofs.laws.a_lent_set_of_new_names_is_staged.Goals as goal

pub returns-clause-names : goal.returns-clause-names
returns-clause-names c = lent_names

pub returns-clause-staged : goal.returns-clause-staged
returns-clause-staged c = λ said. new_names_staged {said = said}
