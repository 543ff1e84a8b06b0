use Rattle.fileset_lending.proofs.Back.{goes_back, kept_still, now_staged, stays}
use Rattle.fileset_lending.proofs.laws.a_lent_set_is_staged.Goals as goal

pub returns-clause-around : goal.returns-clause-around
returns-clause-around c = λ said. stays {said = said}

pub returns-clause-kept : goal.returns-clause-kept
returns-clause-kept c = λ said. kept_still {said = said}

pub returns-clause-back : goal.returns-clause-back
returns-clause-back c = λ said. goes_back {said = said}

pub returns-clause-staged : goal.returns-clause-staged
returns-clause-staged c = λ said. now_staged {said = said}
