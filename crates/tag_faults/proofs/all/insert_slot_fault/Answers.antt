use Rattle.std.proofs.Common.{◌∙◌, inl, inr, sym, ⊎_elim}
use mathlib.Core.Bool.{false≢true}
use Rattle.cell_faults.specs.page_ways.Frame.{frame_in}
use Rattle.tag_faults.proofs.all.insert_slot_fault.Goals as goal

pub returns-then-not-wrong : goal.returns-then-not-wrong
returns-then-not-wrong g c home =
    let wrong = c.in_ok-wrong.ensures (frame_in c.args.frame.now) c.requires in
    ((λ is. inl is), (λ which. ⊎_elim (λ is. is) (λ fault. absurd (false≢true (sym c.if-not-wrong.true ∙ wrong.1 fault.1))) which))

pub returns : goal.returns
returns g c home =
    let wrong = c.in_ok-wrong.ensures (frame_in c.args.frame.now) c.requires in
    let put = c.in_ok-insert_one.ensures home in (
      λ is. ⊎_elim (λ was. inl was) (λ there. inr (there, wrong.0 c.if-not-wrong.false)) (put.0 is),
      λ which. put.1 (⊎_elim (λ was. inl was) (λ fault. inr fault.0) which),
    )
