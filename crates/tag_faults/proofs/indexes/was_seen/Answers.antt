use Rattle.std.proofs.Common.{◌≡◌, subst, arith}
use Rattle.cell_faults.specs.sorted_sets.SpanMembers.{HasNumber}
use Rattle.tag_faults.proofs.indexes.was_seen.Goals as goal

pub returns : goal.returns
returns c = (
  λ yes. let (n, of, has) = c.has_one.ensures.0 yes in
      let same : n ≡ c.args.index = omega (arith, of.0, of.1, c.span_of.ensures.from, c.span_of.ensures.to) in subst (HasNumber c.args.seen.now) same has,
  λ has. c.has_one.ensures.1 (c.args.index, (omega (arith, c.span_of.ensures.from), omega (arith, c.span_of.ensures.to)), has),
)
