-- The pages below n whose bit is 1, as a set.
use Rattle.std.proofs.Common.{◌≡◌, ℕ, zero, suc, ◌+◌, ◌-◌, ◌*◌, ◌/◌, ◌%◌, ◌^◌, ◌<◌, ◌≤◌, Bool, true, false, cond, not, ◌&&◌, ◌||◌, List, length, get_or, set, refl, sym, ◌∙◌, ap, subst, arith, ⊎_elim, nat_eq, nat_lt, bit_or, bit_and}
use Rattle.std.proofs.lemmas.Bool.{cases_eq, ltb-true, and_parts, and_right, both_ways, lt-ltb, le-ltb, eq-eqb, ne_eqb}
use Rattle.std.proofs.lemmas.Bool.Decides.{nat_tests}
use Rattle.std.proofs.lemmas.List.{get_or_read, length-set, get_or-set_same, get_or-set_other}
use Rattle.std.proofs.lemmas.Nat.Bits.{bit_at_set_same, bit_at_set_other, bit_at_clear_same, bit_at_clear_other}
use Rattle.std.specs.Int.{bit_at, w8}
use Rattle.std.specs.Ordering.{nat_cmp}
use Rattle.std.specs.Cmp.{nat_cmp_total, unsigned_tied}
use Rattle.std.specs.FinSet.{FinSet, insert, remove, contains, len, contains-empty, contains-insert, contains-remove, len-empty, len-insert, len-remove, empty_of_len, same_set, nat_cmp-IsAntisymmetric}
use Rattle.free_space.specs.VolumePages.{VolumePages}
use Rattle.free_space.specs.Bits.{is_set, used_below, IsKept}

pub contains-inserted : (s : FinSet nat_cmp) (k q : ℕ) → contains (insert s k) q ≡ (nat_eq q k || contains s q)
contains-inserted s k q = contains-insert nat_cmp_total s k q ∙ ap (λ b. b || contains s q) (unsigned_tied q k)

pub contains-removed : (s : FinSet nat_cmp) (k q : ℕ) → contains (remove s k) q ≡ (not (nat_eq q k) && contains s q)
contains-removed s k q = contains-remove nat_cmp_total s k q ∙ ap (λ b. not b && contains s q) (unsigned_tied q k)

pub same_pages : (s t : FinSet nat_cmp) → ((q : ℕ) → contains s q ≡ contains t q) → s ≡ t
same_pages s t alike = same_set nat_cmp_total nat_cmp-IsAntisymmetric s t alike

-- the tests that say whether q is below n + 1, at n and elsewhere
below_next_same : (n : ℕ) → nat_lt n (suc n) ≡ true
below_next_same n = lt-ltb n (suc n) (omega arith)

below_next_other : (n q : ℕ) → (q ≡ n → ⊥) → nat_lt q (suc n) ≡ nat_lt q n
below_next_other n q other = grind (arith, nat_tests)

step_used : (bytes : List ℕ) (n q : ℕ) (s : FinSet nat_cmp) → contains s q ≡ (nat_lt q n && is_set bytes q) →
    (b : Bool) → is_set bytes n ≡ b → contains (cond b (insert s n) s) q ≡ (nat_lt q (suc n) && is_set bytes q)
step_used bytes n q s before true at =
    contains-inserted s n q
    ∙ ⊎_elim (λ same. subst (λ x. (nat_eq x n || contains s x) ≡ (nat_lt x (suc n) && is_set bytes x)) (sym same)
    (ap (λ b. b || contains s n) (eq-eqb n n refl) ∙ sym ((λ i. below_next_same n i && at i))))
    (λ other. ap (λ b. b || contains s q) (ne_eqb q n other) ∙ before ∙ ap (λ b. b && is_set bytes q) (sym (below_next_other n q other))) (cases_eq q n)
step_used bytes n q s before false at =
    before
    ∙ ⊎_elim (λ same. subst (λ x. (nat_lt x n && is_set bytes x) ≡ (nat_lt x (suc n) && is_set bytes x)) (sym same)
    (and_right (nat_lt n n) (is_set bytes n) at ∙ sym ((λ i. below_next_same n i && at i))))
    (λ other. ap (λ b. b && is_set bytes q) (sym (below_next_other n q other))) (cases_eq q n)

pub contains-used_below : (bytes : List ℕ) (n q : ℕ) → contains (used_below bytes n) q ≡ (nat_lt q n && is_set bytes q)
unfolding used_below
contains-used_below bytes zero q = contains-empty nat_cmp q ∙ ap (λ b. b && is_set bytes q) (sym (le-ltb q 0 (omega arith)))
contains-used_below bytes (suc n) q = step_used bytes n q (used_below bytes n) (contains-used_below bytes n q) (is_set bytes n) refl

cond_le : (b : Bool) (m n k : ℕ) → k ≡ cond b m (m + 1) → m ≤ n → k ≤ suc n
cond_le true m n k e below = omega arith
cond_le false m n k e below = omega arith

step_len : (n : ℕ) (s : FinSet nat_cmp) (b : Bool) → len s ≤ n → len (cond b (insert s n) s) ≤ suc n
step_len n s true below = let e = len-insert nat_cmp_total s n in cond_le (contains s n) (len s) n _ e below
step_len n s false below = omega arith

pub len-used_below : (bytes : List ℕ) (n : ℕ) → len (used_below bytes n) ≤ n
unfolding used_below
len-used_below bytes zero = omega (arith, len-empty nat_cmp)
len-used_below bytes (suc n) = step_len n (used_below bytes n) (is_set bytes n) (len-used_below bytes n)

pub place_within : (bytes : List ℕ) (pages free p : ℕ) → IsKept bytes pages free → p < pages → p / 8 < length bytes
place_within bytes pages free p kept within = omega (arith, kept.size)

pub bit_within : (bytes : List ℕ) (pages free p : ℕ) → IsKept bytes pages free → p < pages → p < 8 * length bytes
bit_within bytes pages free p kept within = omega (arith, kept.size)

-- a page of the volume is used if and only if its bit is 1
pub contains-used : (bytes : List ℕ) (pages p : ℕ) → p < pages → contains (used_below bytes pages) p ≡ is_set bytes p
contains-used bytes pages p within = contains-used_below bytes pages p ∙ ap (λ b. b && is_set bytes p) (lt-ltb p pages within)

-- a write to a bitmap's bytes that leaves each bit but page p's
pub record Writes (bytes after : List ℕ) (p : ℕ) (b : Bool) : Type 0 where
  pub len : length after ≡ length bytes
  pub same : is_set after p ≡ b
  pub others : (q : ℕ) → (q ≡ p → ⊥) → is_set after q ≡ is_set bytes q

other_place : (bytes : List ℕ) (p q v : ℕ) → (q / 8 ≡ p / 8 → ⊥) → is_set (set bytes (p / 8) v) q ≡ is_set bytes q
unfolding is_set
other_place bytes p q v apart = ap (λ n. nat_eq (bit_at n (q % 8)) 1) (get_or-set_other bytes (p / 8) (q / 8) v 0 apart)

same_place : (bytes : List ℕ) (p q v : ℕ) → p / 8 < length bytes → q / 8 ≡ p / 8 → is_set (set bytes (p / 8) v) q ≡ nat_eq (bit_at v (q % 8)) 1
unfolding is_set
same_place bytes p q v within place =
    ap (λ n. nat_eq (bit_at (get_or (set bytes (p / 8) v) n 0) (q % 8)) 1) place
    ∙ ap (λ n. nat_eq (bit_at n (q % 8)) 1) (get_or-set_same bytes (p / 8) v 0 within)

read_at : (bytes : List ℕ) (p q : ℕ) → q / 8 ≡ p / 8 → nat_eq (bit_at (get_or bytes (p / 8) 0) (q % 8)) 1 ≡ is_set bytes q
unfolding is_set
read_at bytes p q place = ap (λ n. nat_eq (bit_at (get_or bytes n 0) (q % 8)) 1) (sym place)

pub writes : (bytes : List ℕ) (p v : ℕ) (b : Bool) → p / 8 < length bytes → nat_eq (bit_at v (p % 8)) 1 ≡ b →
    ((i : ℕ) → i < 8 → (i ≡ p % 8 → ⊥) → bit_at v i ≡ bit_at (get_or bytes (p / 8) 0) i) → Writes bytes (set bytes (p / 8) v) p b
writes bytes p v b within here others = record {
  len = length-set bytes (p / 8) v;
  same = same_place bytes p p v within refl ∙ here;
  others = λ q apart. ⊎_elim
      (λ place. same_place bytes p q v within place ∙ ap (λ n. nat_eq n 1) (others (q % 8) (omega arith) (λ e. apart (omega arith))) ∙ read_at bytes p q place)
      (λ elsewhere. other_place bytes p q v elsewhere) (cases_eq (q / 8) (p / 8));
}

cond_false : (b : Bool) (m n : ℕ) → b ≡ false → cond b m n ≡ n
cond_false b m n is = ap (λ t. cond t m n) is

cond_true : (b : Bool) (m n : ℕ) → b ≡ true → cond b m n ≡ m
cond_true b m n is = ap (λ t. cond t m n) is

pub some_used : (s : FinSet nat_cmp) (p : ℕ) → contains s p ≡ true → 1 ≤ len s
some_used s p used = ⊎_elim
    (λ none. absurd (both_ways (contains s p) (ap (λ t. contains t p) (empty_of_len s none) ∙ contains-empty nat_cmp p) used))
    (λ some. omega arith) (cases_eq (len s) 0)

pub free_below : (bytes : List ℕ) (pages free p : ℕ) → IsKept bytes pages free → contains (used_below bytes pages) p ≡ true → free + 1 ≤ pages
free_below bytes pages free p kept used = omega (arith, some_used (used_below bytes pages) p used, kept.count)

module _ {bytes after : List ℕ} {pages free p : ℕ} (kept : IsKept bytes pages free) (within : p < pages) where
  other_used : {b : Bool} → Writes bytes after p b → (q : ℕ) → (q ≡ p → ⊥) → contains (used_below after pages) q ≡ contains (used_below bytes pages) q
  other_used w q apart =
      contains-used_below after pages q ∙ ap (λ b. nat_lt q pages && b) (w.others q apart) ∙ sym (contains-used_below bytes pages q)

  pub used-set : Writes bytes after p true → used_below after pages ≡ insert (used_below bytes pages) p
  used-set w = same_pages _ _ (λ q. ⊎_elim
      (λ here. subst (λ x. contains (used_below after pages) x ≡ contains (insert (used_below bytes pages) p) x) (sym here)
      (contains-used after pages p within ∙ w.same ∙ sym (contains-inserted _ p p ∙ ap (λ b. b || contains (used_below bytes pages) p) (eq-eqb p p refl))))
      (λ apart. other_used w q apart ∙ sym (contains-inserted _ p q ∙ ap (λ b. b || contains (used_below bytes pages) q) (ne_eqb q p apart)))
      (cases_eq q p))

  pub used-clear : Writes bytes after p false → used_below after pages ≡ remove (used_below bytes pages) p
  used-clear w = same_pages _ _ (λ q. ⊎_elim
      (λ here. subst (λ x. contains (used_below after pages) x ≡ contains (remove (used_below bytes pages) p) x) (sym here)
      (contains-used after pages p within ∙ w.same ∙ sym (contains-removed _ p p ∙ ap (λ b. not b && contains (used_below bytes pages) p) (eq-eqb p p refl))))
      (λ apart. other_used w q apart ∙ sym (contains-removed _ p q ∙ ap (λ b. not b && contains (used_below bytes pages) q) (ne_eqb q p apart)))
      (cases_eq q p))

  past_after : {b : Bool} → Writes bytes after p b → (q : ℕ) → pages ≤ q → q < 8 * length after → is_set after q ≡ true
  past_after w q past inside = w.others q (λ e. absurd (omega arith)) ∙ kept.past q past (subst (λ n. q < 8 * n) w.len inside)

  len-set : Writes bytes after p true → contains (used_below bytes pages) p ≡ false → len (used_below after pages) ≡ len (used_below bytes pages) + 1
  len-set w unused = ap len (used-set w) ∙ len-insert nat_cmp_total _ p ∙ cond_false _ _ _ unused

  pub free_some : Writes bytes after p true → contains (used_below bytes pages) p ≡ false → 1 ≤ free
  free_some w unused = omega (arith, len-set w unused, len-used_below after pages, kept.count)

  pub kept-set : Writes bytes after p true → contains (used_below bytes pages) p ≡ false → IsKept after pages (free - 1)
  kept-set w unused = record {
    size = w.len ∙ kept.size;
    past = past_after w;
    count = omega (arith, len-set w unused, free_some w unused, kept.count);
  }

  len-clear : Writes bytes after p false → contains (used_below bytes pages) p ≡ true → len (used_below after pages) ≡ len (used_below bytes pages) - 1
  len-clear w used = ap len (used-clear w) ∙ len-remove nat_cmp_total _ p ∙ cond_true _ _ _ used

  pub kept-clear : Writes bytes after p false → contains (used_below bytes pages) p ≡ true → IsKept after pages (free + 1)
  kept-clear w used = record {
    size = w.len ∙ kept.size;
    past = past_after w;
    count = omega (arith, len-clear w used, some_used (used_below bytes pages) p used, kept.count);
  }

-- the write that sets page p's bit, and the one that clears it
pub sets : (bytes : List ℕ) (p byte : ℕ) → p / 8 < length bytes → byte ≡ get_or bytes (p / 8) 0 →
    Writes bytes (set bytes (p / 8) (bit_or byte (1 * 2 ^ (p % 8) % 256))) p true
sets bytes p byte within read =
    writes bytes p (bit_or byte (1 * 2 ^ (p % 8) % 256)) true within (ap (λ b. nat_eq b 1) (bit_at_set_same w8 byte (p % 8) (omega arith)))
    (λ i low apart. bit_at_set_other w8 byte (p % 8) (omega arith) i apart ∙ ap (λ b. bit_at b i) read)

pub clears : (bytes : List ℕ) (p byte : ℕ) → p / 8 < length bytes → byte ≡ get_or bytes (p / 8) 0 →
    Writes bytes (set bytes (p / 8) (bit_and byte (255 - 1 * 2 ^ (p % 8) % 256))) p false
clears bytes p byte within read =
    writes bytes p (bit_and byte (255 - 1 * 2 ^ (p % 8) % 256)) false within (ap (λ b. nat_eq b 1) (bit_at_clear_same w8 byte (p % 8) (omega arith)))
    (λ i low apart. bit_at_clear_other w8 byte (p % 8) (omega arith) i low apart ∙ ap (λ b. bit_at b i) read)

-- what is used already, or free already, stays so
pub insert_used : (s : FinSet nat_cmp) (p : ℕ) → contains s p ≡ true → insert s p ≡ s
insert_used s p used = same_pages (insert s p) s (λ q. contains-inserted s p q ∙ ⊎_elim
    (λ here. subst (λ x. (nat_eq x p || contains s x) ≡ contains s x) (sym here) (ap (λ b. b || contains s p) (eq-eqb p p refl) ∙ sym used))
    (λ apart. ap (λ b. b || contains s q) (ne_eqb q p apart)) (cases_eq q p))

pub remove_free : (s : FinSet nat_cmp) (p : ℕ) → contains s p ≡ false → remove s p ≡ s
remove_free s p unused = same_pages (remove s p) s (λ q. contains-removed s p q ∙ ⊎_elim
    (λ here. subst (λ x. (not (nat_eq x p) && contains s x) ≡ contains s x) (sym here) (ap (λ b. not b && contains s p) (eq-eqb p p refl) ∙ sym unused))
    (λ apart. ap (λ b. not b && contains s q) (ne_eqb q p apart)) (cases_eq q p))

-- the same of a whole map
abbrev pub with_used : VolumePages → FinSet nat_cmp → VolumePages
with_used m s = record { pages = m.pages; used = s }

pub viewed : (pages : ℕ) (used after : FinSet nat_cmp) (m : VolumePages) (change : FinSet nat_cmp → FinSet nat_cmp) →
    record { pages = pages; used = used } ≡ m → after ≡ change used → record { pages = pages; used = after } ≡ with_used m (change m.used)
viewed pages used after m change is changed =
    let at : FinSet nat_cmp → VolumePages = λ s. record { pages = pages; used = s } in
    ap at changed ∙ ap (λ (n : VolumePages). with_used n (change n.used)) is

pub unchanged : (m : VolumePages) (s : FinSet nat_cmp) → s ≡ m.used → m ≡ with_used m s
unchanged m s is = sym (ap (λ t. with_used m t) is)

abbrev pub viewed_map : List ℕ → ℕ → VolumePages
viewed_map bytes pages = record { pages = pages; used = used_below bytes pages }

-- a call that sets the bit of a free page, and one that clears the bit of a used one
module _ (bytes : List ℕ) (pages free p byte : ℕ) (m : VolumePages) (kept : IsKept bytes pages free) (is : viewed_map bytes pages ≡ m) (inside : p < m.pages)
    (read : byte ≡ get_or bytes (p / 8) byte) where
  in_map : p < pages
  in_map = subst (λ (n : VolumePages). p < n.pages) (sym is) inside

  read_there : byte ≡ get_or bytes (p / 8) 0
  read_there = get_or_read bytes (p / 8) byte (place_within bytes pages free p kept in_map) read 0

  was : (b : Bool) → contains m.used p ≡ b → contains (used_below bytes pages) p ≡ b
  was b e = ap (λ (n : VolumePages). contains n.used p) is ∙ e

  set_write : Writes bytes (set bytes (p / 8) (bit_or byte (1 * 2 ^ (p % 8) % 256))) p true
  set_write = sets bytes p byte (place_within bytes pages free p kept in_map) read_there

  clear_write : Writes bytes (set bytes (p / 8) (bit_and byte (255 - 1 * 2 ^ (p % 8) % 256))) p false
  clear_write = clears bytes p byte (place_within bytes pages free p kept in_map) read_there

  pub set_some : contains m.used p ≡ false → 1 ≤ free
  set_some unused = free_some kept in_map set_write (was false unused)

  pub set_kept : contains m.used p ≡ false → IsKept (set bytes (p / 8) (bit_or byte (1 * 2 ^ (p % 8) % 256))) pages (free - 1)
  set_kept unused = kept-set kept in_map set_write (was false unused)

  pub set_viewed : viewed_map (set bytes (p / 8) (bit_or byte (1 * 2 ^ (p % 8) % 256))) pages ≡ with_used m (insert m.used p)
  set_viewed = viewed pages (used_below bytes pages) _ m (λ s. insert s p) is (used-set kept in_map set_write)

  pub clear_fits : contains m.used p ≡ true → free + 1 ≤ pages
  clear_fits used = free_below bytes pages free p kept (was true used)

  pub clear_kept : contains m.used p ≡ true → IsKept (set bytes (p / 8) (bit_and byte (255 - 1 * 2 ^ (p % 8) % 256))) pages (free + 1)
  clear_kept used = kept-clear kept in_map clear_write (was true used)

  pub clear_viewed : viewed_map (set bytes (p / 8) (bit_and byte (255 - 1 * 2 ^ (p % 8) % 256))) pages ≡ with_used m (remove m.used p)
  clear_viewed = viewed pages (used_below bytes pages) _ m (λ s. remove s p) is (used-clear kept in_map clear_write)

-- used pages are the volume's
pub used_within : (bytes : List ℕ) (pages p : ℕ) → contains (used_below bytes pages) p ≡ true → p < pages
used_within bytes pages p used = ltb-true p pages (and_parts (nat_lt p pages) (is_set bytes p) (sym (contains-used_below bytes pages p) ∙ used)).0
