use Rattle.std.proofs.Common.{inl, inr, arith, ⊎_elim}
use Rattle.tag_faults.specs.Entries.{IsEntryAt}
use Rattle.tag_faults.proofs.Counted.{number_more}
use Rattle.tag_faults.proofs.named.push_entries.Goals as goal

pub loop-entry-preserved : goal.loop-entry-preserved
loop-entry-preserved c one =
    let more = number_more (IsEntryAt c.args.page.now c.args.number c.args.home.now one) c.loop-entry.entry in
    let put = c.in_ok-push_entry.ensures one in
    let before = c.loop-entry.invariant one in (
      λ is. ⊎_elim (λ was. ⊎_elim (λ first. inl first) (λ low. inr (more.0 (inl low))) (before.0 was)) (λ here. inr (more.0 (inr here))) (put.0 is),
      λ which. put.1 (⊎_elim (λ first. inl (before.1 (inl first))) (λ below. ⊎_elim (λ low. inl (before.1 (inr low))) (λ here. inr here) (more.1 below)) which),
    )

pub returns : goal.returns
returns c one =
    let are = c.loop-entry.invariant one in (
      λ is. ⊎_elim (λ first. inl first) (λ (entry, below, is_at). inr (entry, omega (arith, below, c.loop-entry.auto.entry-end), is_at)) (are.0 is),
      λ which. are.1 (⊎_elim (λ first. inl first) (λ (entry, within, is_at). inr (entry, omega (arith, within, c.loop-entry-test.false), is_at)) which),
    )
