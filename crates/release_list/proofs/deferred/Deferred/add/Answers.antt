use Rattle.std.proofs.Common.{Contains, subst, sym}
use Rattle.release_list.specs.Cursors.{Deferral}
use Rattle.release_list.proofs.deferred.Deferred.add.Goals as goal

pub returns-clause-there : goal.returns-clause-there
returns-clause-there c = λ entry inside at. c.add.ensures.there entry (subst (λ (d : Deferral). Contains d.list.entries entry) (sym c.self.view_is) inside) at
