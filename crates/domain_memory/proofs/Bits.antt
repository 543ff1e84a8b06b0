-- Used pages, one more at a time.
use Rattle.std.proofs.Common.{◌≡◌, ◌∙◌, ◌||◌, ℕ, ◌+◌, true, false, refl, sym, ap, subst, arith, ⊎_elim}
use Rattle.std.proofs.lemmas.Bool.{cases_lt, eq-eqb, ne_eqb}
use Rattle.std.specs.FinSet.{FinSet, contains, insert}
use Rattle.std.specs.Ordering.{nat_cmp}
use Rattle.standing_laws.specs.page_store.Pages.{Pages}
use Rattle.standing_laws.specs.free_space.VolumePages.{VolumePages}
use Rattle.standing_laws.proofs.OfFreeSpace.Used.{contains-inserted}
use Rattle.standing_laws.specs.free_cells.Marks.{is_marked}
use Rattle.domain_memory.specs.Maps.{IsReadTo}

-- a page that is taken is used, and no other than it is anew
used_here : (used : FinSet nat_cmp) (n : ℕ) → contains (insert used n) n ≡ true
used_here used n = contains-inserted used n n ∙ ap (λ b. b || contains used n) (eq-eqb n n refl)

used_other : (used : FinSet nat_cmp) (n p : ℕ) → ¬ p ≡ n → contains (insert used n) p ≡ contains used p
used_other used n p other = contains-inserted used n p ∙ ap (λ b. b || contains used p) (ne_eqb p n other)

-- one page more
module _ (pages : Pages) (vol count n : ℕ) (old new : VolumePages) (read : IsReadTo pages vol count n old) where
  pub read_on : new.pages ≡ old.pages → contains new.used n ≡ is_marked pages vol n → ((p : ℕ) → ¬ p ≡ n → contains new.used p ≡ contains old.used p) → IsReadTo pages vol count (n + 1) new
  read_on same here others = record {
    size = same ∙ read.size;
    used = λ p below.
        ⊎_elim (λ less. others p (λ is. omega (arith, is, less)) ∙ read.used p less)
        (λ high. let is : p ≡ n = omega (arith, below, high) in subst (λ q. contains new.used q ≡ is_marked pages vol q) (sym is) here)
        (cases_lt p n);
    later = λ p past. others p (λ is. omega (arith, is, past)) ∙ read.later p (omega (arith, past));
  }

  pub read_set : new ≡ record { pages = old.pages; used = insert old.used n } → is_marked pages vol n ≡ true → IsReadTo pages vol count (n + 1) new
  read_set is marked = read_on (ap (λ (m : VolumePages). m.pages) is)
      (ap (λ (m : VolumePages). contains m.used n) is ∙ used_here old.used n ∙ sym marked)
      (λ p other. ap (λ (m : VolumePages). contains m.used p) is ∙ used_other old.used n p other)

  pub read_clear : new ≡ old → is_marked pages vol n ≡ false → IsReadTo pages vol count (n + 1) new
  read_clear is clear = read_on (ap (λ (m : VolumePages). m.pages) is)
      (ap (λ (m : VolumePages). contains m.used n) is ∙ read.later n (omega arith) ∙ sym clear)
      (λ p other. ap (λ (m : VolumePages). contains m.used p) is)
