use Rattle.std.proofs.Common.{◌≡◌, ◌+◌, ◌-◌, ◌*◌, ◌^◌, ◌<◌, ◌≤◌, ℕ, true, Option, Some, None, is_some, if◌then◌else◌, length, arith}
use mathlib.Core.Bool.{false≢true}
use Rattle.domain_layout.specs.domain_base.declared.place.Home.{Home}
use Rattle.page_ways.proofs.Numbers.{count_below}
use Rattle.page_ways.proofs.walk.PageWalk.step.Goals as goal

smaller : (old new : ℕ) (was next : Option Home) → new ≤ 9 * 2 ^ 32 → old + (if is_some next then 1 else 0) ≤ new → is_some was ≡ true
    → 2 * (9 * 2 ^ 32 - new) + (if is_some next then 1 else 0) < 2 * (9 * 2 ^ 32 - old) + (if is_some was then 1 else 0)
smaller old new None next below more some = absurd (false≢true some)
smaller old new (Some h) None below more some = omega (arith, below, more)
smaller old new (Some h) (Some n) below more some = omega (arith, below, more)

pub returns-in_ok-next-clause-less : goal.returns-in_ok-next-clause-less
returns-in_ok-next-clause-less g c = λ some.
    let new = c.read_next.new.passed in
    smaller (length c.args.self.now.passed.homes.items) (length new.homes.items) c.args.self.now.next c.in_ok-next.next
    (count_below new.homes.items new.numbers.items c.in_ok-next.ensures.numbers) c.in_ok-next.ensures.more some
