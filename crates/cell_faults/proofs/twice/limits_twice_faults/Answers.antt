use Rattle.cell_faults.proofs.WrongTwice.{limits_all}
use Rattle.cell_faults.proofs.twice.limits_twice_faults.Goals as goal

pub returns : goal.returns
returns g c frame are home =
    let pages = g.M.MetaPages.pages c.args.pages.now in
    let all = limits_all pages frame c.args.links.now are c.in_ok-led.led c.in_ok-led.ensures home in
    let found = c.in_ok-found.ensures home in
    ((λ is. all.0 (found.0 is)), (λ fault. found.1 (all.1 fault)))
