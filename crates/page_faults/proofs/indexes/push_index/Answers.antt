use Rattle.std.proofs.Common.{◌≡◌, ◌∙◌, inl, inr, None, Some, refl, sym}
use Rattle.tag_faults.specs.page_ways.Frame.{frame_in}
use Rattle.page_faults.proofs.indexes.push_index.Goals as goal

none_some : {X : Type 0} (x : X) → None ≡ Some x → ⊥
none_some x e = cc

pub returns-in_default : goal.returns-in_default
returns-in_default g c =
    let named = c.in_ok-first.ensures (frame_in c.args.frame.now) c.requires in
    inr ((λ first has. none_some first (sym c.in_default.is ∙ (named first).1 has)), refl)

pub returns : goal.returns
returns g c =
    let named = c.in_ok-first.ensures (frame_in c.args.frame.now) c.requires in
    inl (c.in-Some.first, (named c.in-Some.first).0 c.in-Some.is, c.in_ok-push.ensures.items)
