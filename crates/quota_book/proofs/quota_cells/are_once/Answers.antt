use Rattle.std.proofs.Common.{[], IsTrue, refl, subst, sym}
use Rattle.std.specs.FinMap.Entries.{is_sorted}
use Rattle.fileset_model.specs.fileset_values.Orders.{owner_cmp}
use Rattle.quota_book.specs.QuotaCells.{Seen}
use Rattle.quota_book.proofs.Once.{NotedSo, comes_twice, noted_all, noted_more, noted_none}
use Rattle.quota_book.proofs.quota_cells.are_once.Goals as goal

pub loop-said-init : goal.loop-said-init
loop-said-init c = record {
  so = subst (λ (seen : Seen). NotedSo [] seen) (sym c.new-seen.ensures.items) noted_none;
  sorted = subst (λ (seen : Seen). IsTrue (is_sorted owner_cmp seen)) (sym c.new-seen.ensures.items) refl;
}

pub loop-said-preserved : goal.loop-said-preserved
loop-said-preserved c = record {
  so = noted_more c.args.records.now c.loop-said.said-index _ c.loop-said-test.true c.loop-said.seen.items c.note_record.new.seen.items c.in_ok-note_record.field-0 c.if-not-branch.false c.loop-said.invariant.so
      c.in_ok-note_record.ensures.noted;
  sorted = c.note_record.ensures.sorted;
}

pub returns-then-not-branch : goal.returns-then-not-branch
returns-then-not-branch c =
    let twice = comes_twice c.args.records.now c.loop-said.said-index _ c.loop-said-test.true c.loop-said.seen.items c.note_record.new.seen.items c.in_ok-note_record.field-0 c.if-not-branch.true c.loop-said.invariant.so
    c.in_ok-note_record.ensures.noted in
    (λ yes. absurd (cc), λ once. absurd (twice once))

pub returns : goal.returns
returns c = (λ yes. noted_all c.args.records.now c.loop-said.said-index c.loop-said.seen.items c.loop-said-test.false c.loop-said.invariant.so, λ once. refl)
