use Rattle.std.proofs.Common.{sym}
use Rattle.std.proofs.lemmas.Bool.{true≢false}
use Rattle.release_list.proofs.list.Queue.add.Goals as goal

pub returns-in_err-place-clause-there : goal.returns-in_err-place-clause-there
returns-in_err-place-clause-there c = λ entry inside is. absurd (true≢false (sym (c.in_err-place.ensures.there entry inside is)))
