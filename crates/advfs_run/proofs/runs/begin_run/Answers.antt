use Rattle.std.proofs.Common.{◌≡◌, ◌∙◌, ap, subst, sym}
use Rattle.domain_attaching.specs.disk_label.declared.anchor.Anchor.{Anchor}
use Rattle.domain_attaching.specs.Closing.{HasRoomFor}
use Rattle.advfs_run.proofs.runs.begin_run.Goals as goal

pub returns-in-Ok-reserve_history-clause-closing : goal.returns-in-Ok-reserve_history-clause-closing
returns-in-Ok-reserve_history-clause-closing g c =
    let frame = g.O.Opening.frame in
    let anchor : c.memory.result.now.frame.anchor ≡ frame.anchor =
    ap (λ m. m.frame.anchor) c.memory.ensures.memory ∙ ap (λ f. f.anchor) c.discard.ensures.frame ∙ ap (λ m. m.frame.anchor) c.begin-domain.ensures.memory ∙ sym (ap (λ f. f.anchor) c.requires.frame) in
    subst (λ (a : Anchor). HasRoomFor a c.in-Ok.closing) anchor c.in-Ok.ensures
