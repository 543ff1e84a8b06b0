-- The paths of a fileset in which all that begins with one path begins with another now.
use Rattle.std.proofs.Common.{◌≡◌, ◌≢◌, ◌⊎◌, ◌∙◌, ℕ, ◌≤◌, true, false, cond, List, [], ◌∷◌, ◌++◌, map as map_each, drop, length, append_assoc, IsTrue, Some, None, inl, inr, refl, sym, ap, arith, true≢false}
use Rattle.std.proofs.lemmas.List.{append_cancel_left, drop_at}
use Rattle.std.specs.declared.cmp.Ordering.{Ordering}
use Rattle.std.specs.Ordering.{eq_by_cmp, is_eq}
use Rattle.std.specs.Cmp.{Equal-is, IsTotalOrder, second_so, tied_itself}
use Rattle.std.specs.FinMap as map
use Rattle.std.specs.FinMap.Entries.{find, is_sorted}
use Rattle.plain_program.specs.fileset_model.Apply.{moved_path}
use Rattle.plain_program.specs.fileset_values.Orders.{Name, Path, path_cmp, path_cmp-total, path_cmp-IsAntisymmetric}
use Rattle.plain_program.specs.fileset_model.Paths.{begins_with}
use Rattle.plain_program.proofs.OfFilesetModel.MoveLemmas.{sorted_entries}
use Rattle.plain_program.proofs.OfLegalHistories.ValidCountLemmas.{count_of, count-rekeyed, found_first, found_later}
use Rattle.plain_program.proofs.OfLegalHistories.ValidMoveLemmas.{begins, begins_of, moved_cases}
use Rattle.plain_program.proofs.OfLegalHistories.ValidTreeLemmas.{some≢none}

-- ---- entries under other keys

module _ {K X : Type 0} {R : K → K → Ordering} (o : IsTotalOrder R) (a : map.IsAntisymmetric R) where
  abbrev rekeyed : (K → K) → List (K × X) → List (K × X)
  rekeyed h es = map_each (λ e. (h e.0, e.1)) es

  -- what is found is what one key had that alone comes to be the one looked for
  find-rekeyed : (h : K → K) (es : List (K × X)) (q p : K) → IsTrue (is_sorted R es) → ((k : K) (v : X) → find R k es ≡ Some v → (h k ≡ q → k ≡ p) × (k ≡ p → h k ≡ q))
      → find R q (rekeyed h es) ≡ find R p es
  find-rekeyed h [] q p sorted alone = refl
  find-rekeyed h (e ∷ es) q p sorted alone =
      let rest = find-rekeyed h es q p (second_so _ _ sorted) (λ k v at. alone k v (found_later o a e es k v sorted at)) in
      let here = alone e.0 e.1 (found_first o a e es) in
      elim (eq_by_cmp R p e.0) as (λ b. eq_by_cmp R p e.0 ≡ b → find R q (rekeyed h (e ∷ es)) ≡ cond b (Some e.1) (find R p es)) [
        | true ↦ λ t.
            let at : h e.0 ≡ q = here.1 (sym (a p e.0 ((Equal-is (R p e.0)).0 t))) in
            ap (λ r. cond (is_eq r) (Some e.1) (find R q (rekeyed h es))) (ap (R q) at ∙ tied_itself o q)
        | false ↦ λ t.
            elim (eq_by_cmp R q (h e.0)) as (λ b. eq_by_cmp R q (h e.0) ≡ b → cond b (Some e.1) (find R q (rekeyed h es)) ≡ find R p es) [
              | true ↦ λ same.
                  let key : e.0 ≡ p = here.0 (sym (a q (h e.0) ((Equal-is (R q (h e.0))).0 same))) in
                  absurd (true≢false (sym (ap (λ k. eq_by_cmp R p k) key ∙ ap is_eq (tied_itself o p)) ∙ t))
              | false ↦ λ other. rest
            ] refl
      ] refl

  find-rekeyed_none : (h : K → K) (es : List (K × X)) (q : K) → IsTrue (is_sorted R es) → ((k : K) (v : X) → find R k es ≡ Some v → h k ≢ q) → find R q (rekeyed h es) ≡ None
  find-rekeyed_none h [] q sorted never = refl
  find-rekeyed_none h (e ∷ es) q sorted never =
      let rest = find-rekeyed_none h es q (second_so _ _ sorted) (λ k v at. never k v (found_later o a e es k v sorted at)) in
      elim (eq_by_cmp R q (h e.0)) as (λ b. eq_by_cmp R q (h e.0) ≡ b → cond b (Some e.1) (find R q (rekeyed h es)) ≡ None) [
        | true ↦ λ same. absurd (never e.0 e.1 (found_first o a e es) (sym (a q (h e.0) ((Equal-is (R q (h e.0))).0 same))))
        | false ↦ λ other. rest
      ] refl

-- ---- two fronts of one path

cons_heads : {x y : Name} {xs ys : Path} → x ∷ xs ≡ y ∷ ys → x ≡ y
cons_heads {x = x} e = ap first e
  where
    first : Path → Name
    first [] = x
    first (name ∷ rest) = name

pub fronts : (p q x y : Path) → p ++ x ≡ q ++ y → ((z : Path) × (p ≡ q ++ z)) ⊎ ((z : Path) × (q ≡ p ++ z))
fronts [] q x y e = inr (q, refl)
fronts (n ∷ p) [] x y e = inl (n ∷ p, refl)
fronts (n ∷ p) (m ∷ q) x y e =
    let same : n ≡ m = cons_heads e in
    elim (fronts p q x y (ap (drop 1) e)) as (λ _. ((z : Path) × (n ∷ p ≡ m ∷ (q ++ z))) ⊎ ((z : Path) × (m ∷ q ≡ n ∷ (p ++ z)))) [
      | inl longer ↦ inl (longer.0, λ i. same i ∷ longer.1 i)
      | inr longer ↦ inr (longer.0, λ i. sym same i ∷ longer.1 i)
    ]

-- ---- the moved paths

abbrev pub moved_paths : map.FinMap path_cmp ℕ → Path → Path → map.FinMap path_cmp ℕ
moved_paths m from to = map.from_entries (map_each (λ e. (moved_path from to e.0, e.1)) (map.entries m))

pub moved_below : (from to rest : Path) → moved_path from to (from ++ rest) ≡ to ++ rest
moved_below from to rest =
    ap (λ b. cond b (to ++ drop (length from) (from ++ rest)) (from ++ rest)) (begins_of (from ++ rest) from rest refl)
    ∙ ap (λ r. to ++ r) (drop_at from rest (length from) refl)

pub moved_beside : (from to q : Path) → begins_with q from ≡ false → moved_path from to q ≡ q
moved_beside from to q other = ap (λ b. cond b (to ++ drop (length from) q) q) other

module _ (m : map.FinMap path_cmp ℕ) (from to : Path) (apart : begins_with to from ≡ false) (free : (rest : Path) → map.get m (to ++ rest) ≡ None) where
  taken : (k : Path) (v : ℕ) (rest : Path) → find path_cmp k (map.entries m) ≡ Some v → k ≢ to ++ rest
  taken k v rest at is = some≢none v (sym at ∙ sym (map.get-entries m k) ∙ ap (map.get m) is ∙ free rest)

  got : (q : Path) → map.get (moved_paths m from to) q ≡ find path_cmp q (map_each (λ (e : Path × ℕ). (moved_path from to e.0, e.1)) (map.entries m))
  got q = map.get-from_entries path_cmp-total (map_each (λ (e : Path × ℕ). (moved_path from to e.0, e.1)) (map.entries m)) q

  pub moved_to : (rest : Path) → map.get (moved_paths m from to) (to ++ rest) ≡ map.get m (from ++ rest)
  moved_to rest =
      got (to ++ rest)
      ∙ find-rekeyed path_cmp-total path_cmp-IsAntisymmetric (moved_path from to) (map.entries m) (to ++ rest) (from ++ rest) (sorted_entries m) (λ k v at. (
        λ is. elim (moved_cases from to k) as (λ _. k ≡ from ++ rest) [
          | inl below ↦ below.1 ∙ ap (λ r. from ++ r) (append_cancel_left to below.0 rest (sym below.2 ∙ is))
          | inr beside ↦ absurd (taken k v rest at (sym beside.1 ∙ is))
        ],
        λ is. ap (moved_path from to) is ∙ moved_below from to rest,
      ))
      ∙ sym (map.get-entries m (from ++ rest))

  pub moved_other : (q : Path) → begins_with q from ≡ false → begins_with q to ≡ false → map.get (moved_paths m from to) q ≡ map.get m q
  moved_other q no_from no_to =
      got q
      ∙ find-rekeyed path_cmp-total path_cmp-IsAntisymmetric (moved_path from to) (map.entries m) q q (sorted_entries m) (λ k v at. (
        λ is. elim (moved_cases from to k) as (λ _. k ≡ q) [
          | inl below ↦ absurd (true≢false (sym (begins_of q to below.0 (sym is ∙ below.2)) ∙ no_to))
          | inr beside ↦ sym beside.1 ∙ is
        ],
        λ is. ap (moved_path from to) is ∙ moved_beside from to q no_from,
      ))
      ∙ sym (map.get-entries m q)

  pub moved_from : (rest : Path) → map.get (moved_paths m from to) (from ++ rest) ≡ None
  moved_from rest =
      got (from ++ rest)
      ∙ find-rekeyed_none path_cmp-total path_cmp-IsAntisymmetric (moved_path from to) (map.entries m) (from ++ rest) (sorted_entries m) (λ k v at is. elim (moved_cases from to k) as (λ _. ⊥) [
        | inl below ↦ elim (fronts from to rest below.0 (sym is ∙ below.2)) as (λ _. ⊥) [
          | inl longer ↦ taken k v (longer.0 ++ below.0) at (below.1 ∙ ap (λ p. p ++ below.0) longer.1 ∙ append_assoc to longer.0 below.0)
          | inr longer ↦ true≢false (sym (begins_of to from longer.0 longer.1) ∙ apart)
        ]
        | inr beside ↦ true≢false (sym (begins_of k from rest (sym beside.1 ∙ is)) ∙ beside.0)
      ])

-- a move back is none, so that as many paths lead to a number
module _ (m : map.FinMap path_cmp ℕ) (from to : Path) (number : ℕ) (there : map.get m from ≡ Some number) (apart : begins_with to from ≡ false) (free : (rest : Path) → map.get m (to ++ rest) ≡ None) where
  abbrev away : map.FinMap path_cmp ℕ
  away = moved_paths m from to

  pub from_apart : begins_with from to ≡ false
  from_apart = elim (begins_with from to) as (λ b. begins_with from to ≡ b → b ≡ false) [
    | true ↦ λ is. absurd (some≢none number (sym there ∙ ap (map.get m) (begins from to is) ∙ free (drop (length to) from)))
    | false ↦ λ is. refl
  ] refl

  back : (q : Path) → map.get (moved_paths away to from) q ≡ map.get m q
  back q = elim (begins_with q from) as (λ b. begins_with q from ≡ b → map.get (moved_paths away to from) q ≡ map.get m q) [
    | true ↦ λ is.
        let rest = drop (length from) q in
        let e : q ≡ from ++ rest = begins q from is in
        ap (map.get (moved_paths away to from)) e ∙ moved_to away to from from_apart (moved_from m from to apart free) rest ∙ moved_to m from to apart free rest ∙ sym (ap (map.get m) e)
    | false ↦ λ no_from. elim (begins_with q to) as (λ b. begins_with q to ≡ b → map.get (moved_paths away to from) q ≡ map.get m q) [
      | true ↦ λ is.
          let rest = drop (length to) q in
          let e : q ≡ to ++ rest = begins q to is in
          ap (map.get (moved_paths away to from)) e ∙ moved_from away to from from_apart (moved_from m from to apart free) rest ∙ sym (ap (map.get m) e ∙ free rest)
      | false ↦ λ no_to. moved_other away to from from_apart (moved_from m from to apart free) q no_to no_from ∙ moved_other m from to apart free q no_from no_to
    ] refl
  ] refl

  pub moved_counts : (k : ℕ) → count_of k (map.entries (moved_paths m from to)) ≡ count_of k (map.entries m)
  moved_counts k =
      let fewer = count-rekeyed k (moved_path from to) (map.entries m) in
      let again : count_of k (map.entries (moved_paths away to from)) ≤ count_of k (map.entries away) = count-rekeyed k (moved_path to from) (map.entries away) in
      let same : moved_paths away to from ≡ m = map.same_map path_cmp-total path_cmp-IsAntisymmetric (moved_paths away to from) m back in
      let is : count_of k (map.entries (moved_paths away to from)) ≡ count_of k (map.entries m) = ap (λ (n : map.FinMap path_cmp ℕ). count_of k (map.entries n)) same in
      omega (arith, fewer, again, is)
