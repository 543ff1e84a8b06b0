use Rattle.std.proofs.Common.{inl, inr, ⊎_elim}
use Rattle.cell_faults.proofs.WrongLeads.{leads_all}
use Rattle.cell_faults.proofs.leads.leads_faults.Goals as goal

pub returns : goal.returns
returns c pages frame are home =
    let all = leads_all pages frame c.args.links.now are c.in_ok-led.led c.in_ok-led.ensures home in
    let put = c.in_ok-insert_set.ensures home in
    let ends = c.in_ok-found.ensures home in
    let late = c.in_ok-late.ensures home in (
      λ is. all.0 (⊎_elim (λ end. inl (ends.0 end)) (λ there. inr (late.0 there)) (put.0 is)),
      λ fault. put.1 (⊎_elim (λ end. inl (ends.1 end)) (λ there. inr (late.1 there)) (all.1 fault)),
    )
