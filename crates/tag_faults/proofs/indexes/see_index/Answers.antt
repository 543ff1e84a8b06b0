use Rattle.std.proofs.Common.{inl, inr, arith, ⊎_elim}
use Rattle.tag_faults.proofs.indexes.see_index.Goals as goal

pub returns : goal.returns
returns c n =
    let put = c.in_ok-insert.ensures n in (
      λ has. ⊎_elim (λ was. inl was) (λ of. inr (omega (arith, of.0, of.1, c.span_of.ensures.from, c.span_of.ensures.to, c.index_of.ensures))) (put.0 has),
      λ which. put.1 (⊎_elim (λ was. inl was)
          (λ same. inr (omega (arith, same, c.span_of.ensures.from, c.index_of.ensures), omega (arith, same, c.span_of.ensures.to, c.index_of.ensures))) which),
    )
