use Rattle.std.proofs.Common.{◌≡◌, ◌∙◌, ◌+◌, ◌-◌, ◌≤◌, ◌++◌, cond, nat_lt, take, drop, slice_index, ap, arith}
use Rattle.directory_pages.proofs.Written.{closed_now, moved, moved_byte, moved_long, next_byte, nothing_moved}
use Rattle.directory_pages.proofs.gap.close_gap.Goals as goal

pub loop-at-init : goal.loop-at-init
loop-at-init c = nothing_moved c.args.page.now (moved c.args.gap c.args.len c.args.end c.args.page.now) c.args.gap

pub loop-at-preserved : goal.loop-at-preserved
loop-at-preserved c =
    let old = c.args.page.now in
    let at = c.loop-at.at in
    let all = moved c.args.gap c.args.len c.args.end old in
    let begun : c.args.gap ≤ at = omega arith in
    let long = moved_long c.args.gap c.args.len c.args.end old c.requires.gap c.requires.within c.requires.whole in
    let byte = moved_byte c.args.gap c.args.len c.args.end at old c.loop-at.page c.requires.gap c.requires.within c.requires.whole begun c.loop-at-test.true c.loop-at.invariant in
    c.move_byte.ensures ∙ next_byte old c.loop-at.page all c.args.gap at (cond (nat_lt (at + c.args.len) c.args.end) (slice_index c.loop-at.page (at + c.args.len)) 0) begun
    (omega (arith, c.requires.whole, c.requires.within, c.loop-at-test.true)) (omega (arith, long, c.loop-at-test.true)) c.loop-at.invariant byte

pub returns : goal.returns
returns c =
    let last : c.loop-at.at ≡ c.args.end = omega arith in
    c.loop-at.invariant ∙ ap (λ n. take c.args.gap c.args.page.now ++ take (n - c.args.gap) (moved c.args.gap c.args.len c.args.end c.args.page.now) ++ drop n c.args.page.now) last
    ∙ closed_now c.args.gap c.args.len c.args.end c.args.page.now c.requires.gap c.requires.within c.requires.whole
