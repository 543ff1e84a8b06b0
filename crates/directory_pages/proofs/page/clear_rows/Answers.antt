use Rattle.std.proofs.Common.{◌≡◌, ◌∙◌, length, sym, ap, arith}
use Rattle.directory_pages.proofs.Written.{cleared, zeros_all, zeros_more, zeros_none}
use Rattle.directory_pages.proofs.page.clear_rows.Goals as goal

pub loop-at-init : goal.loop-at-init
loop-at-init c = zeros_none c.args.page.now

pub loop-at-preserved : goal.loop-at-preserved
loop-at-preserved c = c.set.ensures.value ∙ zeros_more c.args.page.now c.loop-at.page c.loop-at.at c.loop-at.invariant

pub returns : goal.returns
returns c =
    let old = c.args.page.now in
    let whole : length old ≡ 8192 = sym (ap length c.bytes-end.ensures.value) ∙ c.bytes-end.ensures.len in
    let ends : 8192 ≡ c.loop-at.at = omega (arith, c.bytes-end.ensures.len) in
    cleared old c.loop-at.page c.put_header.new.page (zeros_all old c.loop-at.page c.loop-at.at 8192 ends whole c.loop-at.invariant) c.put_header.ensures.value c.put_header.ensures.len
