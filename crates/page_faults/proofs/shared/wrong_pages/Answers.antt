use Rattle.std.proofs.Common.{◌≡◌, ◌∙◌, ◌↔◌, inl, inr, Some, length, slice_get, refl, sym, subst, arith, ⊎_elim}
use Rattle.std.proofs.lemmas.Option.{slice_get_read}
use Rattle.tag_faults.specs.domain_base.declared.place.Home.{Home}
use Rattle.tag_faults.specs.page_ways.Frame.{frame_in}
use Rattle.tag_faults.specs.sorted_sets.Members.{IsIn}
use Rattle.tag_faults.proofs.Counted.{IsBelow, number_more}
use Rattle.page_faults.specs.Shared.{HasPage, IsFaultBehind}
use Rattle.page_faults.specs.declared.indexes.IndexAt.{IndexAt}
use Rattle.page_faults.proofs.PagesShared.{HasPageAt, IsFaultAt, from_rule, same_behind, to_rule}
use Rattle.page_faults.proofs.shared.wrong_pages.Goals as goal

some_same : {X : Type 0} (a b : X) → Some a ≡ Some b → a ≡ b
some_same a b e = cc

pub loop-index-init : goal.loop-index-init
loop-index-init g c = record {
  earlier = λ home. ((λ is. absurd (c.new-earlier.ensures home is)), (λ (k, below, others). absurd (omega (arith, below))));
  found = λ home. ((λ is. absurd (c.new-found.ensures home is)), (λ (k, below, others). absurd (omega (arith, below))));
}

pub loop-index-preserved : goal.loop-index-preserved
loop-index-preserved g c =
    let pages = g.M.MetaPages.pages c.args.pages.now in
    let frame = frame_in c.args.frame.now in
    let indexes = c.args.indexes.now in
    let number = c.loop-index.index-index in
    let item = c.index-item.result in
    let at : slice_get indexes number ≡ Some item = slice_get_read indexes (length indexes) number item refl c.loop-index-test.true c.index-item.is in
    record {
      earlier = λ home.
          let put = c.in_ok-look_at.ensures.earlier home in
          let more = number_more (HasPageAt pages frame indexes home) number in
          let before = c.loop-index.invariant.earlier home in (
            λ is. more.0 (⊎_elim (λ was. inl (before.0 was)) (λ has. inr (item, at, has)) (put.0 is)),
            λ below. put.1 (⊎_elim (λ low. inl (before.1 low)) (λ (index, is_at, has). inr (subst (HasPage pages frame home) (some_same index item (sym is_at ∙ at)) has)) (more.1 below)),
          );
      found = λ home.
          let put = c.in_ok-look_at.ensures.found home in
          let more = number_more (IsFaultAt pages frame indexes home) number in
          let before = c.loop-index.invariant.found home in
          let early = c.loop-index.invariant.earlier home in
          let Low = λ (h : Home). IsBelow (HasPageAt pages frame indexes h) number in (
            λ is. more.0 (⊎_elim (λ was. inl (before.0 was)) (λ fault. inr (item, at, same_behind pages frame indexes home item (IsIn c.loop-index.earlier) Low early.0 fault)) (put.0 is)),
            λ below. put.1 (⊎_elim (λ low. inl (before.1 low))
                (λ (index, is_at, fault). inr (same_behind pages frame indexes home item Low (IsIn c.loop-index.earlier) early.1 (subst (IsFaultBehind pages frame Low home) (some_same index item (sym is_at ∙ at)) fault))) (more.1 below)),
          );
    }

pub returns : goal.returns
returns g c are home =
    let pages = g.M.MetaPages.pages c.args.pages.now in
    let frame = frame_in c.args.frame.now in
    let indexes = c.args.indexes.now in
    let number = c.loop-index.index-index in
    let found = c.loop-index.invariant.found home in (
      λ is. to_rule pages frame indexes home are number (found.0 is),
      λ fault. found.1 (from_rule pages frame indexes home are number c.loop-index-test.false fault),
    )
