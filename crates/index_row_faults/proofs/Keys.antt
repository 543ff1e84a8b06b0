-- Hashes with pages in their order.
use Rattle.std.proofs.Common.{◌≡◌, ◌∙◌, ◌↔◌, ◌+◌, ℕ, Bool, true, false, cond, Option, Some, refl, sym, ap, subst, arith}
use Rattle.std.specs.Prelude.{unwrap_or, ◌==◌, ◌&&◌}
use Rattle.std.specs.BTreeMap.{BTreeMap, get, is_at}
use Rattle.std.specs.Cmp.{Equal-is, nat_cmp_is}
use Rattle.std.specs.Ordering.{nat_cmp, ordering_then}
use Rattle.std.specs.declared.cmp.Ordering.TheVariants.{Equal}
use Rattle.std.proofs.lemmas.Bool.{and_from, and_parts, both_ways, eq-eqb, eqb-true}
use Rattle.std.proofs.lemmas.Map.Lookups.{exact_unsigned}
use Rattle.directory_faults.proofs.Noted.{then_equal}
use Rattle.index_row_faults.specs.Counts.{count_in, is_key, key_order}

key_at : (key q : ℕ × ℕ) → is_at (key_order key) q ≡ true → (key.0 ≡ q.0) × (key.1 ≡ q.1)
key_at key q is =
    let both = then_equal (nat_cmp key.0 q.0) (nat_cmp key.1 q.1) ((Equal-is (key_order key q)).0 is) in
    (exact_unsigned key.0 q.0 both.0, exact_unsigned key.1 q.1 both.1)

at_key : (key q : ℕ × ℕ) → (key.0 ≡ q.0) × (key.1 ≡ q.1) → is_at (key_order key) q ≡ true
at_key key q (same, also) = (Equal-is (key_order key q)).1
    (subst (λ o. ordering_then o (nat_cmp key.1 q.1) ≡ Equal) (nat_cmp_is key.0 q.0 Equal same) (sym (nat_cmp_is key.1 q.1 Equal also)))

pub tests_same : (key : ℕ × ℕ) (hash page : ℕ) → is_at (key_order key) (hash, page) ≡ is_key hash page key
tests_same key hash page = by_test (is_at (key_order key) (hash, page)) (is_key hash page key) refl refl
  where
    by_test : (a b : Bool) → is_at (key_order key) (hash, page) ≡ a → is_key hash page key ≡ b → a ≡ b
    by_test true true one other = refl
    by_test false false one other = refl
    by_test true false one other =
        let same = key_at key (hash, page) one in
        absurd (both_ways (is_key hash page key) other (and_from (key.0 == hash) (key.1 == page) (eq-eqb key.0 hash same.0) (eq-eqb key.1 page same.1)))
    by_test false true one other =
        let parts = and_parts (key.0 == hash) (key.1 == page) other in
        absurd (both_ways (is_at (key_order key) (hash, page)) one (at_key key (hash, page) (eqb-true key.0 hash parts.0, eqb-true key.1 page parts.1)))

-- a key with one more is counted, and all others are as before
pub one_more : (old new : BTreeMap (ℕ × ℕ) ℕ) (key : ℕ × ℕ) (count : ℕ) → count ≡ count_in old key.0 key.1
    → ((q : ℕ × ℕ) → get key_order new q ≡ cond (is_at (key_order key) q) (Some (count + 1)) (get key_order old q))
    → (hash page : ℕ) → count_in new hash page ≡ count_in old hash page + cond (is_key hash page key) 1 0
one_more old new key count was updates hash page =
    subst (λ (b : Bool). count_in new hash page ≡ count_in old hash page + cond b 1 0) (tests_same key hash page) (by_test (is_at (key_order key) (hash, page)) refl (updates (hash, page)))
  where
    by_test : (b : Bool) → is_at (key_order key) (hash, page) ≡ b → get key_order new (hash, page) ≡ cond b (Some (count + 1)) (get key_order old (hash, page))
        → count_in new hash page ≡ count_in old hash page + cond b 1 0
    by_test true right put =
        let same = key_at key (hash, page) right in
        let counted : count_in new hash page ≡ count + 1 = ap (λ (o : Option ℕ). unwrap_or o 0) put in
        let before : count ≡ count_in old hash page = was ∙ (λ i. count_in old (same.0 i) (same.1 i)) in
        omega (arith, counted, before)
    by_test false wrong put =
        let counted : count_in new hash page ≡ count_in old hash page = ap (λ (o : Option ℕ). unwrap_or o 0) put in
        omega (arith, counted)
