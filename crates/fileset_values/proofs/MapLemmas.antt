-- What a finite map has at a key after one entry was put in or taken out, if only equal keys tie.
use Rattle.std.proofs.Common.{◌≡◌, ◌≢◌, ◌⊎◌, true, false, cond, Option, Some, None, refl, sym, ap, ◌∙◌, inl, inr}
use Rattle.std.specs.declared.cmp.Ordering.{Ordering}
use Rattle.std.specs.declared.cmp.Ordering.TheVariants.{Less, Equal, Greater}
use Rattle.std.specs.Ordering.{eq_by_cmp, is_eq}
use Rattle.std.specs.Cmp.{IsTotalOrder, tied_itself}
use Rattle.std.specs.FinMap.{FinMap, IsAntisymmetric, get, insert, remove, get-insert, get-remove}

equal : (r : Ordering) → is_eq r ≡ true → r ≡ Equal
equal Less h = absurd (cc)
equal Equal h = refl
equal Greater h = absurd (cc)

same_key : {K : Type 0} {R : K → K → Ordering} → IsAntisymmetric R → (q k : K) → eq_by_cmp R q k ≡ true → q ≡ k
same_key {R = R} a q k h = a q k (equal (R q k) h)

module _ {K X : Type 0} {R : K → K → Ordering} (o : IsTotalOrder R) (a : IsAntisymmetric R) where
  -- at another key all is as it was, and at the key there is the value
  pub got-insert : (m : FinMap R X) (k : K) (v : X) (q : K) (found : Option X) → get (insert m k v) q ≡ found → ((q ≡ k) × (found ≡ Some v)) ⊎ ((q ≢ k) × (get m q ≡ found))
  got-insert m k v q found h =
      elim (eq_by_cmp R q k) as (λ b. eq_by_cmp R q k ≡ b → cond b (Some v) (get m q) ≡ found → ((q ≡ k) × (found ≡ Some v)) ⊎ ((q ≢ k) × (get m q ≡ found))) [
        | true ↦ λ t is. inl (same_key a q k t, sym is)
        | false ↦ λ t is. inr ((λ e. let tied : eq_by_cmp R q k ≡ true = ap (eq_by_cmp R q) (sym e) ∙ ap is_eq (tied_itself o q) in absurd (cc), is))
      ] refl (sym (get-insert o m k v q) ∙ h)

  pub get-insert_same : (m : FinMap R X) (k : K) (v : X) → get (insert m k v) k ≡ Some v
  get-insert_same m k v = get-insert o m k v k ∙ ap (λ r. cond (is_eq r) (Some v) (get m k)) (tied_itself o k)

  pub get-insert_other : (m : FinMap R X) (k : K) (v : X) (q : K) → q ≢ k → get (insert m k v) q ≡ get m q
  get-insert_other m k v q differ =
      elim (got-insert m k v q _ refl) as (λ _. get (insert m k v) q ≡ get m q) [
        | inl same ↦ absurd (differ same.0)
        | inr other ↦ sym other.1
      ]

  pub got-remove : (m : FinMap R X) (k q : K) (v : X) → get (remove m k) q ≡ Some v → (q ≢ k) × (get m q ≡ Some v)
  got-remove m k q v h =
      elim (eq_by_cmp R q k) as (λ b. eq_by_cmp R q k ≡ b → cond b None (get m q) ≡ Some v → (q ≢ k) × (get m q ≡ Some v)) [
        | true ↦ λ t is. absurd (cc)
        | false ↦ λ t is. ((λ e. let tied : eq_by_cmp R q k ≡ true = ap (eq_by_cmp R q) (sym e) ∙ ap is_eq (tied_itself o q) in absurd (cc)), is)
      ] refl (sym (get-remove o m k q) ∙ h)

  pub get-remove_other : (m : FinMap R X) (k q : K) → q ≢ k → get (remove m k) q ≡ get m q
  get-remove_other m k q differ =
      get-remove o m k q
      ∙ elim (eq_by_cmp R q k) as (λ b. eq_by_cmp R q k ≡ b → cond b None (get m q) ≡ get m q) [
        | true ↦ λ t. absurd (differ (same_key a q k t))
        | false ↦ λ t. refl
      ] refl
