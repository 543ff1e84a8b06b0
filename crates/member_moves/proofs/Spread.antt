-- How far apart the used shares of two open volumes are.
use Rattle.std.proofs.Common.{◌≡◌, ◌⊎◌, inl, inr, ℕ, ◌+◌, ◌-◌, ◌*◌, ◌<◌, ◌≤◌, List, arith, ap}
use Rattle.std.proofs.lemmas.Nat.{mul-le}
use Rattle.std.proofs.lemmas.Bool.{cases_lt}
use Rattle.std.proofs.Math.Nat.{le_of_mul-le-mul_left}
use Rattle.member_moves.specs.Balance.{AreCounts, AreEven, IsEmptiest, IsFullest, IsLevel, IsOpenOf}
use Rattle.member_moves.specs.declared.balance.End.TheVariants.{Fullest, Emptiest}
use Rattle.member_moves.proofs.Exists.{one_at_end}
use Rattle.member_moves.proofs.Found.{size_of}
use Rattle.member_moves.specs.MoverMoves.{ExceedsByOneOver, HaveOpenPages}
use Rattle.member_moves.specs.declared.counts.VolCount.{VolCount}

-- a multiple of a difference is bounded where the multiples are
mul-sub-le : (k p q r : ℕ) → k * p ≤ k * q + r → k * (p - q) ≤ r
mul-sub-le k p q r h = by (cases_lt q p)
  where
    by : (q < p) ⊎ (p ≤ q) → k * (p - q) ≤ r
    by (inl less) =
        let whole : k * p ≡ k * (q + (p - q)) = ap (λ (n : ℕ). k * n) (omega arith) in
        omega (arith, h, whole)
    by (inr more) =
        let none : p - q ≡ 0 = omega arith in
        rw none (omega arith)

-- shares a / p and b / q between the shares e / n and f / m, which are level
pub level_spread : (a p b q f m e n : ℕ) → a * m ≤ f * p → e * q ≤ b * n
    → 2 * (f * n - e * m) ≤ n + m → 2 * m * n * (a * q - b * p) ≤ (n + m) * (p * q)
level_spread a p b q f m e n below above level =
    let high : (a * m) * (2 * n * q) ≤ (f * p) * (2 * n * q) =
    mul-le (a * m) (2 * n * q) (f * p) (2 * n * q) below (omega arith) in
    let low : (e * q) * (2 * m * p) ≤ (b * n) * (2 * m * p) =
    mul-le (e * q) (2 * m * p) (b * n) (2 * m * p) above (omega arith) in
    let apart : 2 * (f * n) ≤ 2 * (e * m) + (n + m) = omega arith in
    let between : (2 * (f * n)) * (p * q) ≤ (2 * (e * m) + (n + m)) * (p * q) =
    mul-le (2 * (f * n)) (p * q) (2 * (e * m) + (n + m)) (p * q) apart (omega arith) in
    mul-sub-le (2 * m * n) (a * q) (b * p) ((n + m) * (p * q)) (omega (arith, high, low, between))

pub open_spread : (counts : List VolCount) (f e a b : VolCount) → IsFullest counts f
    → IsEmptiest counts e → IsLevel f e → IsOpenOf counts a → IsOpenOf counts b
    → 2 * f.pages * e.pages * (a.used * b.pages - b.used * a.pages)
    ≤ (e.pages + f.pages) * (a.pages * b.pages)
open_spread counts f e a b full empty level open_a open_b =
    level_spread a.used a.pages b.used b.pages f.used f.pages e.used e.pages
    (full.greatest a open_a) (empty.least b open_b) level

-- one over the least number of pages is no less than half the sum of one over m and over n
least_spread : (least m n x product : ℕ) → 1 ≤ m → 1 ≤ n → least ≤ m → least ≤ n
    → 2 * m * n * x ≤ (n + m) * product → least * x ≤ product
least_spread least m n x product from_m from_n to_m to_n spread =
    let by_n : least * n ≤ m * n = mul-le least n m n to_m (omega arith) in
    let by_m : least * m ≤ n * m = mul-le least m n m to_n (omega arith) in
    let times : least * (2 * m * n * x) ≤ least * ((n + m) * product) =
    mul-le least (2 * m * n * x) least ((n + m) * product) (omega arith) spread in
    let whole : (least * n + least * m) * product ≤ (m * n + n * m) * product =
    mul-le (least * n + least * m) product (m * n + n * m) product (omega arith) (omega arith) in
    let positive : 1 * 1 ≤ m * n = mul-le 1 1 m n from_m from_n in
    le_of_mul-le-mul_left {m = least * x} {n = product} {k = 2 * m * n}
    (omega (arith, times, whole)) (omega (arith, positive))

pub even_spread : (counts : List VolCount) (least : ℕ) (a b : VolCount) → AreCounts counts
    → AreEven counts → HaveOpenPages counts least → IsOpenOf counts a → IsOpenOf counts b
    → ExceedsByOneOver least a b
even_spread counts least a b sound even pages open_a open_b =
    let full = one_at_end Fullest counts a sound open_a in
    let empty = one_at_end Emptiest counts a sound open_a in
    let f = full.0 in
    let e = empty.0 in
    least_spread least f.pages e.pages (a.used * b.pages - b.used * a.pages) (a.pages * b.pages)
    (size_of counts f sound full.1.open_volume) (size_of counts e sound empty.1.open_volume)
    (pages f full.1.open_volume) (pages e empty.1.open_volume)
    (open_spread counts f e a b full.1 empty.1 (even f e full.1 empty.1) open_a open_b)
