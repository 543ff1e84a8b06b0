-- Where a move of one page brings used shares nearer.
use Rattle.std.proofs.Common.{◌≡◌, ◌↔◌, ℕ, zero, suc, ◌+◌, ◌-◌, ◌*◌, ◌≤◌, arith}
use Rattle.member_moves.specs.Balance.{HasShareUpTo, IsLevel}
use Rattle.member_moves.specs.MoverMoves.{gap}
use Rattle.member_moves.specs.declared.counts.VolCount.{VolCount}

-- of u pages used of m, and w of n
nearer_by : (u m w n : ℕ) → w * m ≤ u * n
    → (2 * (u * n - w * m) ≤ n + m
    ↔ ((u * n - w * m) + (w * m - u * n)
    ≤ ((u - 1) * n - (w + 1) * m) + ((w + 1) * m - (u - 1) * n)))
nearer_by zero m w n below = (λ _. omega (arith, below), λ _. omega (arith, below))
nearer_by (suc u) m w zero below = (λ _. omega (arith, below), λ _. omega (arith, below))
nearer_by (suc u) m w (suc n) below =
    let before : suc u - 1 ≡ u = omega arith in
    rw before (λ level. omega (arith, below, level), λ near. omega (arith, below, near))

pub level_nearer : (f e : VolCount) → HasShareUpTo e f
    → (IsLevel f e
    ↔ (gap f e ≤ gap (record f { used = f.used - 1 }) (record e { used = e.used + 1 })))
level_nearer f e below = nearer_by f.used f.pages e.used e.pages below
