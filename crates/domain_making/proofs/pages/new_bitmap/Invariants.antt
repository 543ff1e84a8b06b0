use Rattle.std.proofs.Common.{◌≡◌, ℕ, nat_lt}
use Rattle.std.specs.FinSet.{contains}
use Rattle.domain_making.proofs.pages.new_bitmap.Given as goal

abbrev pub invariant-loop-page : goal.invariant-loop-page
invariant-loop-page l = record {
  count : l.bitmap.pages ≡ l.pages;
  used : (p : ℕ) → contains l.bitmap.used p ≡ nat_lt p l.page;
}
