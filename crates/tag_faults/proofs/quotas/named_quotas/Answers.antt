use Rattle.std.proofs.Common.{◌⊎◌, ◌↔◌, inl, inr, subst, arith, ⊎_elim}
use Rattle.cell_faults.specs.cell_chains.Members.{IsIn}
use Rattle.tag_faults.specs.Quotas.{NamesQuota}
use Rattle.tag_faults.proofs.Counted.{number_more, within_of}
use Rattle.tag_faults.proofs.quotas.named_quotas.Goals as goal

pub loop-number-preserved : goal.loop-number-preserved
loop-number-preserved c at =
    let number = c.loop-number.number in
    let table = c.args.table.now in
    let put = subst (λ n. (IsIn c.insert_named.new.named at) ↔ (IsIn c.loop-number.named at ⊎ NamesQuota table n at)) c.slot_number.ensures (c.in_ok-insert_named.ensures at) in
    let more = number_more (λ n. NamesQuota table n at) number in
    let before = c.loop-number.invariant at in (
      λ is. more.0 (⊎_elim (λ was. inl (before.0 was)) (λ names. inr names) (put.0 is)),
      λ below. put.1 (⊎_elim (λ low. inl (before.1 low)) (λ names. inr names) (more.1 below)),
    )

pub returns : goal.returns
returns c at =
    let are = c.loop-number.invariant at in (
      λ is. let (number, below, names) = are.0 is in (number, names),
      λ (number, (item, there, names)).
          are.1 (number, omega (arith, within_of c.args.table.now.slots number item there, c.count_slots-number-end.ensures.whole, c.count_slots-number-end.ensures.value, c.loop-number-test.false), (item, there, names)),
    )
