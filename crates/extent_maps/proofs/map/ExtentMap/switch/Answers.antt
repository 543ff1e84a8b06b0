use Rattle.std.proofs.Common.{sym, subst}
use Rattle.std.specs.Option.{IsSome}
use Rattle.extent_maps.specs.Runs.{home_at, place_of}
use Rattle.extent_maps.proofs.RunLemmas.{small_if_there}
use Rattle.extent_maps.proofs.map.ExtentMap.switch.Goals as goal

pub put_page-requires-clause-small : goal.put_page-requires-clause-small
put_page-requires-clause-small c =
    let there : IsSome (home_at (place_of c.self.inside.runs.items c.args.page)) = subst (λ l. IsSome (home_at (place_of l c.args.page))) (sym c.self.view_is) c.requires.there in
    small_if_there c.self.inside.runs.items c.args.page c.self.invariant there
