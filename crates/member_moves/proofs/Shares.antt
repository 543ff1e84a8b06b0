-- Used shares are in an order.
use Rattle.std.proofs.Common.{ℕ, ◌*◌, ◌≤◌, arith}
use Rattle.std.proofs.lemmas.Nat.{mul-le}
use Rattle.std.proofs.Math.Nat.{le_of_mul-le-mul_left}
use Rattle.member_moves.specs.Balance.{HasShareUpTo, Precedes}
use Rattle.member_moves.specs.declared.balance.End.{End}
use Rattle.member_moves.specs.declared.balance.End.TheVariants.{Fullest, Emptiest}
use Rattle.member_moves.specs.declared.counts.VolCount.{VolCount}

-- a / p up to b / q, and b / q up to c / r: a / p up to c / r
pub quotient_trans : (a p b q c r : ℕ) → 1 ≤ q → a * q ≤ b * p → b * r ≤ c * q → a * r ≤ c * p
quotient_trans a p b q c r one first second =
    let left : (a * q) * r ≤ (b * p) * r = mul-le (a * q) r (b * p) r first (omega arith) in
    let right : (b * r) * p ≤ (c * q) * p = mul-le (b * r) p (c * q) p second (omega arith) in
    le_of_mul-le-mul_left {m = a * r} {n = c * p} {k = q} (omega arith) one

pub share_trans : (a b c : VolCount) → 1 ≤ b.pages → HasShareUpTo a b → HasShareUpTo b c
    → HasShareUpTo a c
share_trans a b c one first second =
    quotient_trans a.used a.pages b.used b.pages c.used c.pages one first second

pub precedes_trans : (end : End) (a b c : VolCount) → 1 ≤ a.pages → 1 ≤ b.pages → 1 ≤ c.pages
    → Precedes end a b → Precedes end b c → Precedes end a c
precedes_trans Fullest a b c pa pb pc first second =
    let share : HasShareUpTo c a = share_trans c b a pb second.0 first.0 in (
      share,
      λ same.
          let ab : a.vol ≤ b.vol = first.1 (share_trans a c b pc same second.0) in
          let bc : b.vol ≤ c.vol = second.1 (share_trans b a c pa first.0 same) in
          omega arith,
    )
precedes_trans Emptiest a b c pa pb pc first second =
    let share : HasShareUpTo a c = share_trans a b c pb first.0 second.0 in (
      share,
      λ same.
          let ab : a.vol ≤ b.vol = first.1 (share_trans b c a pc second.0 same) in
          let bc : b.vol ≤ c.vol = second.1 (share_trans c a b pa same first.0) in
          omega arith,
    )

pub precedes_itself : (end : End) (a : VolCount) → Precedes end a a
precedes_itself Fullest a = (omega arith, λ _. omega arith)
precedes_itself Emptiest a = (omega arith, λ _. omega arith)
