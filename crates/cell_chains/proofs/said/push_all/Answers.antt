use Rattle.std.proofs.Common.{inl, inr, get_or, ⊎_elim}
use Rattle.std.proofs.lemmas.List.{get_or_default}
use Rattle.metadata_cells.specs.cell_records.declared.record.Record.{Record}
use Rattle.metadata_cells.specs.cell_records.declared.record.Record.TheVariants.{Attributes}
use Rattle.metadata_cells.proofs.OfSortedSets.Below.{below_all, below_more, none_below}
use Rattle.cell_chains.specs.Says.{Says}
use Rattle.cell_chains.proofs.said.push_all.Goals as goal

pub loop-one-init : goal.loop-one-init
loop-one-init c n = ((λ has. inl has), (λ which. ⊎_elim (λ has. has) (λ below. absurd (none_below c.args.records.now (λ (r : Record). Says c.args.what r n) below)) which))

pub loop-one-preserved : goal.loop-one-preserved
loop-one-preserved c n =
    let records = c.args.records.now in
    let number = c.loop-one.one-index in
    let item : Record = get_or records number (Attributes 0 0 0 0 0 0 0 0 0) in
    let more = below_more records (λ (r : Record). Says c.args.what r n) number item (λ d. get_or_default records number d (Attributes 0 0 0 0 0 0 0 0 0) c.loop-one-test.true) in
    let put = c.in_ok-push_said.ensures n in
    let before = c.loop-one.invariant n in (
      λ has. ⊎_elim (λ was. ⊎_elim (λ first. inl first) (λ below. inr (more.0 (inl below))) (before.0 was)) (λ says. inr (more.0 (inr says))) (put.0 has),
      λ which. put.1 (⊎_elim (λ first. inl (before.1 (inl first))) (λ below. ⊎_elim (λ low. inl (before.1 (inr low))) (λ says. inr says) (more.1 below)) which),
    )

pub returns : goal.returns
returns c n =
    let all = below_all c.args.records.now (λ (r : Record). Says c.args.what r n) c.loop-one.one-index c.loop-one-test.false c.loop-one.auto.one-index-end in
    let are = c.loop-one.invariant n in (
      λ has. ⊎_elim (λ first. inl first) (λ below. inr (all.0 below)) (are.0 has),
      λ which. are.1 (⊎_elim (λ first. inl first) (λ any. inr (all.1 any)) which),
    )
