use Rattle.std.proofs.Common.{◌≡◌, ◌+◌, ℕ, length, sym, subst, arith}
use Rattle.attached_domain.specs.log_ring.Homes.{member_of}
use Rattle.domain_attaching.proofs.Marked.{AreEach, each_push}
use Rattle.domain_attaching.proofs.TablesMarked.{HasCount, counted_marks}
use Rattle.domain_attaching.proofs.tables.TablePages.room.Goals as goal

pub loop-number-preserved : goal.loop-number-preserved
loop-number-preserved c =
    let anchor = c.args.frame.now.anchor in
    let so_far = c.loop-number.volumes.items in
    let marks = c.in_ok-room_on.field-0 in
    let count = c.loop-number.invariant.count in
    let number = c.in-Some.ensures.value in
    let at : c.in-Some.vol ≡ length so_far + 1 = omega (arith, number, count) in
    let is : HasCount anchor (length so_far) marks = subst (λ (v : ℕ). length marks.items ≡ (member_of anchor v).pages) at c.in_ok-room_on.ensures in
    record {
      count = let len = c.in_ok-push.ensures.len in omega (arith, count, len);
      each = subst (AreEach (HasCount anchor)) (sym c.in_ok-push.ensures.items) (each_push (HasCount anchor) so_far marks c.loop-number.invariant.each is);
    }

pub returns : goal.returns
returns c =
    let count = c.loop-number.invariant.count in
    let past = c.loop-number-test.false in
    counted_marks c.args.frame.now.anchor (record { volumes = c.loop-number.volumes }) c.loop-number.invariant.each (omega (arith, count, past))
