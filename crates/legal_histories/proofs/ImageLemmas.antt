-- Finite maps that give alike at the keys that pass a test have the same images of these entries.
use Rattle.std.proofs.Common.{◌≡◌, Bool, true, false, cond, ◌&&◌, List, [], ◌∷◌, map as map_each, Some, None, refl, sym, ap, subst, ◌∙◌, T}
use Rattle.std.specs.declared.cmp.Ordering.{Ordering}
use Rattle.std.specs.Option.{option_map}
use Rattle.std.specs.Ordering.{eq_by_cmp, is_lt}
use Rattle.std.specs.Cmp.{IsTotalOrder}
use Rattle.std.specs.FinMap as map
use Rattle.std.specs.FinMap.Entries.{below_all, find, find-where_key, is_sorted, is_sorted-where_key, same_entries, where_key}

module _ {K X Z : Type 0} (R : K → K → Ordering) (f : X → Z) where
  abbrev pub images : List (K × X) → List (K × Z)
  images es = map_each (λ e. (e.0, f e.1)) es

  below_images : (x : K) (es : List (K × X)) → below_all R x (images es) ≡ below_all R x es
  below_images x [] = refl
  below_images x (e ∷ es) = ap (λ b. is_lt (R x e.0) && b) (below_images x es)

  sorted_images : (es : List (K × X)) → is_sorted R (images es) ≡ is_sorted R es
  sorted_images [] = refl
  sorted_images (e ∷ es) = λ i. below_images e.0 es i && sorted_images es i

  find-images : (q : K) (es : List (K × X)) → find R q (images es) ≡ option_map f (find R q es)
  find-images q [] = refl
  find-images q (e ∷ es) = elim (eq_by_cmp R q e.0) as (λ b. cond b (Some (f e.1)) (find R q (images es)) ≡ option_map f (cond b (Some e.1) (find R q es))) [
    | true ↦ refl
    | false ↦ find-images q es
  ]

  -- the image at a key of the entries that pass a test
  image_at : IsTotalOrder R → map.IsAntisymmetric R → (p : K → Bool) (m : map.FinMap R X) (q : K)
      → find R q (images (where_key R p (map.entries m))) ≡ cond (p q) (option_map f (map.get m q)) None
  image_at o a p m q =
      find-images q (where_key R p (map.entries m))
      ∙ ap (option_map f) (find-where_key R p q (λ x tied. ap p (sym (a q x tied))) (map.entries m))
      ∙ elim (p q) as (λ b. option_map f (cond b (find R q (map.entries m)) None) ≡ cond b (option_map f (map.get m q)) None) [
        | true ↦ ap (option_map f) (sym (map.get-entries m q))
        | false ↦ refl
      ]

  image_sorted : (p : K → Bool) (m : map.FinMap R X) → T (is_sorted R (images (where_key R p (map.entries m))))
  image_sorted p m = subst T (sym (sorted_images (where_key R p (map.entries m)))) (is_sorted-where_key R p (map.entries m) (map.entries_sorted m))

module _ {K X Y Z : Type 0} (R : K → K → Ordering) (o : IsTotalOrder R) (a : map.IsAntisymmetric R) (f : X → Z) (g : Y → Z) where
  pub same_images : (p : K → Bool) (m : map.FinMap R X) (n : map.FinMap R Y)
      → ((q : K) → p q ≡ true → option_map f (map.get m q) ≡ option_map g (map.get n q))
      → images R f (where_key R p (map.entries m)) ≡ images R g (where_key R p (map.entries n))
  same_images p m n alike =
      same_entries R o a _ _ (image_sorted R f p m) (image_sorted R g p n)
      (λ q. image_at R f o a p m q ∙ at q (p q) refl ∙ sym (image_at R g o a p n q))
    where
      at : (q : K) (b : Bool) → p q ≡ b → cond (p q) (option_map f (map.get m q)) None ≡ cond (p q) (option_map g (map.get n q)) None
      at q true is = ap (λ b. cond b (option_map f (map.get m q)) None) is ∙ alike q is ∙ sym (ap (λ b. cond b (option_map g (map.get n q)) None) is)
      at q false is = ap (λ b. cond b (option_map f (map.get m q)) None) is ∙ sym (ap (λ b. cond b (option_map g (map.get n q)) None) is)

-- all entries pass a test that all keys pass
pub where_all : {K X : Type 0} (R : K → K → Ordering) (es : List (K × X)) → where_key R (λ _. true) es ≡ es
where_all R [] = refl
where_all R (e ∷ es) = ap (λ rest. e ∷ rest) (where_all R es)
