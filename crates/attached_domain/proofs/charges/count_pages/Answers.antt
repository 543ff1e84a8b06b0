use Rattle.std.proofs.Common.{arith}
use Rattle.attached_domain.proofs.Charged.{few_there}
use Rattle.attached_domain.proofs.charges.count_pages.Goals as goal

pub overflow_add-count : goal.overflow_add-count
overflow_add-count c =
    let few = few_there c.args.homes.now c.loop-home.home-index in
    let is = c.loop-home.invariant in
    let most = c.requires in
    omega (arith, few, is, most)

pub returns-clause-few : goal.returns-clause-few
returns-clause-few c =
    let few = few_there c.args.homes.now c.loop-home.home-index in
    let is = c.loop-home.invariant in
    let most = c.requires in
    omega (arith, few, is, most)
