use Rattle.std.proofs.Common.{◌≡◌, ◌∙◌, ◌+◌, ℕ, sym, ap, subst, arith, true≢false}
use Rattle.file_commands.specs.free_space.Spaces.{held_pages, volume_of}
use Rattle.file_commands.specs.log_ring.Homes.{IsMember}
use Rattle.client_commands.proofs.MemberLines.{AreLines, lines_show, none_more, one_more}
use Rattle.client_commands.proofs.showing_volumes.lines_of.Goals as goal
use Rattle.client_commands.proofs.showing_volumes.lines_of.Goals.{then-is_member+in_ok-push, else-is_member}

pub loop-n-preserved : goal.loop-n-preserved
loop-n-preserved c =
    let memory = c.args.memory.now in
    let n = c.loop-n.n in
    let so_far = c.loop-n.invariant in
    let vol : c.in-Some.vol ≡ n + 1 = c.in-Some.ensures.value in
    elim c.if-is_member.branch [
      | then-is_member+in_ok-push w ↦
          let line = w.line_of.ensures in
          subst (λ v. AreLines memory (n + 1) v.items) (sym w.lines-is)
          (subst (AreLines memory (n + 1)) (sym w.in_ok-push.ensures.items)
          (one_more memory n c.loop-n.lines.items so_far w.line_of.result (line.vol ∙ vol) (subst (IsMember memory.frame.anchor) vol (c.is_member.ensures.0 w.if-is_member.true))
          (record { shown = line.shown; held = line.held ∙ ap (λ (m : ℕ). held_pages (volume_of memory.space m)) (sym line.vol) })))
      | else-is_member w ↦
          subst (λ v. AreLines memory (n + 1) v.items) (sym w.lines-is)
          (none_more memory n c.loop-n.lines.items so_far (λ there. true≢false (sym (c.is_member.ensures.1 (subst (IsMember memory.frame.anchor) (sym vol) there)) ∙ w.if-is_member.false)))
    ]

pub returns-clause-shown : goal.returns-clause-shown
returns-clause-shown c =
    let end : c.loop-n.n ≡ 8 = omega (arith, c.loop-n-test.false, c.loop-n.auto.n-end) in
    lines_show c.args.memory.now c.loop-n.lines.items (subst (λ (n : ℕ). AreLines c.args.memory.now n c.loop-n.lines.items) end c.loop-n.invariant)
