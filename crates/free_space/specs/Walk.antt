-- A walk over pages from the first on, which looks for a run of free ones.
use Rattle.std.specs.Prelude.{◌≡◌, ℕ, ◌+◌, ◌<◌, ◌≤◌, Bool, false, ◌||◌, nat_lt, List}
use Rattle.free_space.specs.Bits.{is_set}

-- whether a run that begins at `from` or later may not hold page p
unfoldable pub is_taken : List ℕ → ℕ → ℕ → Bool
is_taken bytes from p = nat_lt p from || is_set bytes p

-- no page from p up to q is taken
abbrev pub NoneTaken : (ℕ → Bool) → ℕ → ℕ → Type 0
NoneTaken taken p q = (x : ℕ) → p ≤ x → x < q → taken x ≡ false

-- no run of that many pages begins before `start`
abbrev pub NoRunBefore : (ℕ → Bool) → ℕ → ℕ → Type 0
NoRunBefore taken count start = (p : ℕ) → p < start → ¬ NoneTaken taken p (p + count)

-- the walk has come to page `at`, and the pages from `start` up to it are the run that it has now
pub record IsWalked (taken : ℕ → Bool) (count start at : ℕ) : Type 0 where
  pub order : start ≤ at
  pub free : NoneTaken taken start at
  pub none : NoRunBefore taken count start

-- the first run of that many pages begins at `start`
pub record IsFound (taken : ℕ → Bool) (count start : ℕ) : Type 0 where
  pub free : NoneTaken taken start (start + count)
  pub none : NoRunBefore taken count start
