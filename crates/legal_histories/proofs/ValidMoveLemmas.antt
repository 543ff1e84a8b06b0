-- What is so of each fileset stays so where a path and all below it move to a free one.
use Rattle.std.proofs.Common.{◌≡◌, ◌≢◌, ◌⊎◌, ℕ, true, false, cond, is_some, List, [], ◌∷◌, ◌++◌, map as map_each, drop, length, IsTrue, Option, Some, None, refl, sym, ap, ◌∙◌, inl, inr, true≢false, append_assoc, append-nil, arith}
use Rattle.std.proofs.lemmas.List.{append_cancel_left, drop_at}
use Rattle.std.proofs.lemmas.Slice.Eq.{starts_is}
use Rattle.std.specs.declared.cmp.Ordering.{Ordering}
use Rattle.std.specs.Ordering.{eq_by_cmp, is_eq}
use Rattle.std.specs.Cmp.{Equal-is, IsTotalOrder, second_so, tied_itself}
use Rattle.std.specs.Cmp.Lexicographic.{bytes_decides}
use Rattle.std.specs.FinMap as map
use Rattle.std.specs.FinMap.Entries.{find, is_sorted}
use Rattle.fileset_model.specs.fileset_values.Orders.{Name, Path, path_cmp-total, path_cmp-IsAntisymmetric}
use Rattle.fileset_model.specs.Fileset.{Fileset}
use Rattle.fileset_model.specs.Paths.{begins_with}
use Rattle.legal_histories.specs.Valid.{IsDirectoryAt, IsValidFileset}
use Rattle.fileset_model.specs.Apply.{moved, moved_path}
use Rattle.fileset_model.proofs.MoveLemmas.{sorted_entries}
use Rattle.legal_histories.proofs.ValidCountLemmas.{count-rekeyed, found_first, found_later}
use Rattle.legal_histories.proofs.ValidLemmas.{some_inj}
use Rattle.legal_histories.proofs.ValidTreeLemmas.{at_directory, directory_of, no_child, some_of, some≢none}

-- ---- the entries of a map with other keys

module _ {K X : Type 0} {R : K → K → Ordering} (o : IsTotalOrder R) (a : map.IsAntisymmetric R) where
  abbrev rekeyed : (K → K) → List (K × X) → List (K × X)
  rekeyed h es = map_each (λ e. (h e.0, e.1)) es

  came_from : (h : K → K) (es : List (K × X)) (q : K) (v : X) → IsTrue (is_sorted R es) → find R q (rekeyed h es) ≡ Some v → (p : K) × (h p ≡ q) × (find R p es ≡ Some v)
  came_from h [] q v sorted found = absurd (some≢none v (sym found))
  came_from h (e ∷ es) q v sorted found =
      elim (eq_by_cmp R q (h e.0)) as (λ b. eq_by_cmp R q (h e.0) ≡ b → cond b (Some e.1) (find R q (rekeyed h es)) ≡ Some v → (p : K) × (h p ≡ q) × (find R p (e ∷ es) ≡ Some v)) [
        | true ↦ λ t is. (e.0, sym (a q (h e.0) ((Equal-is (R q (h e.0))).0 t)), found_first o a e es ∙ is)
        | false ↦ λ t is. let rest = came_from h es q v (second_so _ _ sorted) is in (rest.0, rest.1, found_later o a e es rest.0 v sorted rest.2)
      ] refl found

  went_to : (h : K → K) (es : List (K × X)) (p : K) (v : X) → IsTrue (is_sorted R es) → ((q : K) (w : X) → find R q es ≡ Some w → h q ≡ h p → q ≡ p)
      → find R p es ≡ Some v → find R (h p) (rekeyed h es) ≡ Some v
  went_to h [] p v sorted one found = absurd (some≢none v (sym found))
  went_to h (e ∷ es) p v sorted one found =
      elim (eq_by_cmp R p e.0) as (λ b. eq_by_cmp R p e.0 ≡ b → cond b (Some e.1) (find R p es) ≡ Some v → find R (h p) (rekeyed h (e ∷ es)) ≡ Some v) [
        | true ↦ λ t is. ap (λ k. find R (h k) (rekeyed h (e ∷ es))) (a p e.0 ((Equal-is (R p e.0)).0 t)) ∙ ap (λ r. cond (is_eq r) (Some e.1) (find R (h e.0) (rekeyed h es))) (tied_itself o (h e.0)) ∙ is
        | false ↦ λ t is.
            let rest = went_to h es p v (second_so _ _ sorted) (λ q w at same. one q w (found_later o a e es q w sorted at) same) is in
            elim (eq_by_cmp R (h p) (h e.0)) as (λ b. eq_by_cmp R (h p) (h e.0) ≡ b → cond b (Some e.1) (find R (h p) (rekeyed h es)) ≡ Some v) [
              | true ↦ λ same.
                  let key : e.0 ≡ p = one e.0 e.1 (found_first o a e es) (sym (a (h p) (h e.0) ((Equal-is (R (h p) (h e.0))).0 same))) in
                  absurd (true≢false (sym (ap (λ k. eq_by_cmp R p k) key ∙ ap is_eq (tied_itself o p)) ∙ t))
              | false ↦ λ same. rest
            ] refl
      ] refl found

-- ---- paths by their fronts

pub begins : (path front : Path) → begins_with path front ≡ true → path ≡ front ++ drop (length front) path
begins path front h = (starts_is bytes_decides path front (begins_with path front) refl).0 h

pub begins_of : (path front rest : Path) → path ≡ front ++ rest → begins_with path front ≡ true
begins_of path front rest e = (starts_is bytes_decides path front (begins_with path front) refl).1 rest e

-- a longer path begins with what a front of it begins with
longer : (front path : Path) (name : Name) → begins_with (path ++ name ∷ []) front ≡ false → begins_with path front ≡ false
longer front path name other =
    elim (begins_with path front) as (λ b. begins_with path front ≡ b → b ≡ false) [
      | true ↦ λ h. absurd (true≢false (sym (begins_of (path ++ name ∷ []) front (drop (length front) path ++ name ∷ [])
          (ap (λ p. p ++ name ∷ []) (begins path front h) ∙ append_assoc front (drop (length front) path) (name ∷ []))) ∙ other))
      | false ↦ λ h. refl
    ] refl

-- a list is empty, or one element more than another
last_split : {A : Type 0} (xs : List A) → (xs ≡ []) ⊎ ((front : List A) × (last : A) × (xs ≡ front ++ last ∷ []))
last_split [] = inl refl
last_split (x ∷ xs) = elim (last_split xs) as (λ _. (x ∷ xs ≡ []) ⊎ ((front : _) × (last : _) × (x ∷ xs ≡ front ++ last ∷ []))) [
  | inl e ↦ inr ([], x, ap (λ l. x ∷ l) e)
  | inr more ↦ inr (x ∷ more.0, more.1, ap (λ l. x ∷ l) more.2)
]

same_front : (p q : Path) (m n : Name) → p ++ m ∷ [] ≡ q ++ n ∷ [] → p ≡ q
same_front [] [] m n e = refl
same_front [] (y ∷ q) m n e = absurd (no_child q n (ap (drop 1) (sym e)))
same_front (x ∷ p) [] m n e = absurd (no_child p m (ap (drop 1) e))
same_front (x ∷ p) (y ∷ q) m n e =
    let heads : Some x ≡ Some y = ap first e in
    let tails : p ≡ q = same_front p q m n (ap (drop 1) e) in
    λ i. some_inj heads i ∷ tails i
  where
    first : Path → Option Name
    first [] = None
    first (name ∷ rest) = Some name

empty_front : (p q : Path) → [] ≡ p ++ q → p ≡ []
empty_front [] q e = refl
empty_front (x ∷ p) q e = absurd (cc)

-- ---- the move

pub moved_cases : (from to path : Path) → ((rest : Path) × (path ≡ from ++ rest) × (moved_path from to path ≡ to ++ rest)) ⊎ ((begins_with path from ≡ false) × (moved_path from to path ≡ path))
moved_cases from to path =
    elim (begins_with path from) as (λ b. begins_with path from ≡ b
    → ((rest : Path) × (path ≡ from ++ rest) × (cond b (to ++ drop (length from) path) path ≡ to ++ rest)) ⊎ ((b ≡ false) × (cond b (to ++ drop (length from) path) path ≡ path))) [
      | true ↦ λ h. inl (drop (length from) path, begins path from h, refl)
      | false ↦ λ h. inr (refl, refl)
    ] refl

module _ (tree : Fileset) (from to : Path) (v : IsValidFileset tree) (no_root : from ≢ []) (apart : begins_with to from ≡ false)
    (free : (rest : Path) → map.get tree.paths (to ++ rest) ≡ None) (way : (front : Path) (name : Name) → front ++ name ∷ [] ≡ to → IsDirectoryAt tree front) where
  abbrev after : Fileset
  after = moved from to tree

  one_moved : (p q : Path) (k n : ℕ) → map.get tree.paths p ≡ Some k → map.get tree.paths q ≡ Some n → moved_path from to p ≡ moved_path from to q → p ≡ q
  one_moved p q k n at_p at_q same =
      elim (moved_cases from to p) as (λ _. p ≡ q) [
        | inl a ↦ elim (moved_cases from to q) as (λ _. p ≡ q) [
          | inl b ↦ a.1 ∙ ap (λ rest. from ++ rest) (append_cancel_left to a.0 b.0 (sym a.2 ∙ same ∙ b.2)) ∙ sym b.1
          | inr b ↦ absurd (some≢none n (sym at_q ∙ ap (map.get tree.paths) (sym b.1 ∙ sym same ∙ a.2) ∙ free a.0))
        ]
        | inr a ↦ elim (moved_cases from to q) as (λ _. p ≡ q) [
          | inl b ↦ absurd (some≢none k (sym at_p ∙ ap (map.get tree.paths) (sym a.1 ∙ same ∙ b.2) ∙ free b.0))
          | inr b ↦ sym a.1 ∙ same ∙ b.1
        ]
      ]

  came : (q : Path) (k : ℕ) → map.get after.paths q ≡ Some k → (p : Path) × (moved_path from to p ≡ q) × (map.get tree.paths p ≡ Some k)
  came q k at_q =
      let es = map.entries tree.paths in
      let old = came_from path_cmp-total path_cmp-IsAntisymmetric (moved_path from to) es q k (sorted_entries tree.paths)
      (sym (map.get-from_entries path_cmp-total (map_each (λ (e : Path × ℕ). (moved_path from to e.0, e.1)) es) q) ∙ at_q) in
      (old.0, old.1, map.get-entries tree.paths old.0 ∙ old.2)

  pub went : (p : Path) (k : ℕ) → map.get tree.paths p ≡ Some k → map.get after.paths (moved_path from to p) ≡ Some k
  went p k at_p =
      let es = map.entries tree.paths in
      map.get-from_entries path_cmp-total (map_each (λ (e : Path × ℕ). (moved_path from to e.0, e.1)) es) (moved_path from to p)
      ∙ went_to path_cmp-total path_cmp-IsAntisymmetric (moved_path from to) es p k (sorted_entries tree.paths)
      (λ q n at_q same. one_moved q p n k (map.get-entries tree.paths q ∙ at_q) at_p same) (sym (map.get-entries tree.paths p) ∙ at_p)

  directory_went : (p q : Path) → moved_path from to p ≡ q → IsDirectoryAt tree p → IsDirectoryAt after q
  directory_went p q here h =
      let d = directory_of tree p h in
      at_directory after q (record { number = d.number; node = d.node; leads = ap (map.get after.paths) (sym here) ∙ went p d.number d.leads; is = d.is; directory = d.directory })

  -- what does not begin with `from` is a directory as before
  directory_kept : (q : Path) → begins_with q from ≡ false → IsDirectoryAt tree q → IsDirectoryAt after q
  directory_kept q other h = directory_went q q (ap (λ b. cond b (to ++ drop (length from) q) q) other) h

  -- the directory above what was moved
  above : (q rest : Path) (name : Name) (k : ℕ) → to ++ rest ≡ q ++ name ∷ [] → map.get tree.paths (from ++ rest) ≡ Some k → IsDirectoryAt after q
  above q rest name k e at =
      elim (last_split rest) as (λ _. IsDirectoryAt after q) [
        | inl none ↦
            let top : q ++ name ∷ [] ≡ to = sym e ∙ ap (λ r. to ++ r) none ∙ append-nil to in
            directory_kept q (longer from q name (ap (λ p. begins_with p from) top ∙ apart)) (way q name top)
        | inr more ↦
            let front = more.0 in
            let back : q ≡ to ++ front = same_front q (to ++ front) name more.1 (sym e ∙ ap (λ r. to ++ r) more.2 ∙ sym (append_assoc to front (more.1 ∷ []))) in
            let there = ap (map.get tree.paths) (append_assoc from front (more.1 ∷ []) ∙ ap (λ r. from ++ r) (sym more.2)) ∙ at in
            let here : moved_path from to (from ++ front) ≡ q =
            ap (λ b. cond b (to ++ drop (length from) (from ++ front)) (from ++ front)) (begins_of (from ++ front) from front refl)
            ∙ ap (λ r. to ++ r) (drop_at from front (length from) refl) ∙ sym back in
            directory_went (from ++ front) q here (v.parents (from ++ front) more.1 (ap is_some there))
      ]

  pub moved-valid : IsValidFileset after
  moved-valid = record {
    root = elim (moved_cases from to []) as (λ _. IsDirectoryAt after []) [
      | inl below ↦ absurd (no_root (empty_front from below.0 below.1))
      | inr other ↦ directory_went [] [] other.1 v.root
    ];
    parents = λ q name there.
        let found = some_of _ there in
        let old = came (q ++ name ∷ []) found.0 found.1 in
        elim (moved_cases from to old.0) as (λ _. IsDirectoryAt after q) [
          | inl below ↦ above q below.0 name found.0 (sym below.2 ∙ old.1) (ap (map.get tree.paths) (sym below.1) ∙ old.2)
          | inr other ↦
              let same : old.0 ≡ q ++ name ∷ [] = sym other.1 ∙ old.1 in
              directory_kept q (longer from q name (ap (λ p. begins_with p from) (sym same) ∙ other.0)) (v.parents q name (ap is_some (ap (map.get tree.paths) (sym same) ∙ old.2)))
        ];
    one_path = λ p q k dir at_p at_q.
        let old_p = came p k at_p in
        let old_q = came q k at_q in
        let d = directory_of after p dir in
        let was : IsDirectoryAt tree old_p.0 =
        at_directory tree old_p.0 (record { number = d.number; node = d.node; leads = old_p.2 ∙ sym at_p ∙ d.leads; is = d.is; directory = d.directory }) in
        sym old_p.1 ∙ ap (moved_path from to) (v.one_path old_p.0 old_q.0 k was old_p.2 old_q.2) ∙ old_q.1;
    few_paths = λ k. let fewer = count-rekeyed k (moved_path from to) (map.entries tree.paths) in omega (arith, fewer, v.few_paths k);
    led_to = λ q k at_q. let old = came q k at_q in v.led_to old.0 k old.2;
    named = λ k n is. let old = v.named k n is in (moved_path from to old.0, went old.0 k old.1);
    whole = v.whole;
    limited = v.limited;
  }
