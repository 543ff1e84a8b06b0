-- Directories stand where they stood once a path has moved, but for the one that moved.
use Rattle.std.proofs.Common.{◌≡◌, ◌∙◌, ◌≢◌, ◌⊎◌, ◌+◌, ◌-◌, ◌≤◌, ◌||◌, ◌==◌, inl, inr, ℕ, Bool, true, false, cond, is_some, [], ◌∷◌, ◌++◌, append_assoc, append-nil, drop, length, length-append, take, Option, Some, None, IsSomeAnd, refl, sym, ap, subst, ⊎_elim, arith, eqb-true, true≢false}
use Rattle.std.proofs.lemmas.Bool.{cases_Bool}
use Rattle.std.specs.Cmp.{Equal-is}
use Rattle.std.specs.Cmp.Lexicographic.{lists_ties, texts_ties}
use Rattle.std.specs.FinMap as map
use Rattle.std.specs.FinMap.{get}
use Rattle.std.specs.Option.{option_and_then, option_map, option_map_or}
use Rattle.standing_laws.specs.domain_base.declared.place.Kind.{Kind}
use Rattle.standing_laws.specs.domain_base.declared.place.Kind.TheVariants as kind
use Rattle.standing_laws.proofs.OfFilesetValues.MapLemmas.{get-remove_other}
use Rattle.standing_laws.specs.fileset_model.Apply.{is_clone, is_named_elsewhere, move_checks, moved, rename_checks, renamed, replace_checks, without}
use Rattle.standing_laws.specs.fileset_model.Fileset.{Fileset}
use Rattle.standing_laws.specs.fileset_values.Orders.{Name, Path, name_cmp, path_cmp, path_cmp-total, path_cmp-IsAntisymmetric}
use Rattle.standing_laws.specs.fileset_model.Paths.{begins_with, directory_here, file_here, first_refusal, is_directory, names_one, node_at, refuse_if, same_path, target_refusal, walk_refusal}
use Rattle.standing_laws.specs.fileset_model.declared.fileset.FilesetSlot.{FilesetSlot}
use Rattle.standing_laws.specs.fileset_model.declared.node.Node.{Node}
use Rattle.standing_laws.specs.fileset_values.declared.reply.Refusal.{Refusal}
use Rattle.standing_laws.specs.fileset_values.declared.reply.Refusal.TheVariants.{IntoItself, ReadOnly}
use Rattle.standing_laws.specs.legal_histories.Valid.{IsValidFileset}
use Rattle.standing_laws.proofs.OfLegalHistories.ValidCheckLemmas.{IsLeaf, leaf_empty, leaf_file}
use Rattle.standing_laws.proofs.OfLegalHistories.ValidLemmas.{passed, passed_test, some_inj}
use Rattle.standing_laws.proofs.OfLegalHistories.ValidMoveLemmas.{begins, begins_of}
use Rattle.standing_laws.proofs.OfLegalHistories.ValidTreeLemmas.{directory_of, nothing_below, without-absent, without-valid}
use Rattle.standing_laws.specs.fileset_model.Apply.{not_empty}
use Rattle.standing_laws.specs.name_space.Names.{is_directory_kind}
use Rattle.standing_laws.proofs.OfNameSpace.MovedPaths.{moved_from, moved_other, moved_to}
use Rattle.standing_laws.proofs.OfReleaseList.Spread.{none_not}
use Rattle.standing_laws.proofs.OfDomainLayout.Reached.{same_number}
use Rattle.set_standing.specs.Directories.{DirectoriesFollow, IsDirectoryOf, IsOfNone, StandsIn, said_of}
use Rattle.set_standing.proofs.Stood.{its_front, node_was, path_was, said_other}

-- ---- what the checks tell

-- what stands at the second path can be taken away, or nothing does
its_leaf : (slot : FilesetSlot) (from to : Path) → IsValidFileset slot.tree → cond (is_some (get slot.tree.paths to)) (first_refusal (replace_checks from to slot)) None ≡ None → IsLeaf slot.tree to
its_leaf slot from to valid checks = by_number (get slot.tree.paths to) refl checks
  where
    by_kind : (b : Bool) → first_refusal (cond b (file_here slot to ∷ not_empty slot to ∷ []) (directory_here slot to ∷ [])) ≡ None → IsLeaf slot.tree to
    by_kind true passes = leaf_empty slot to (passed (not_empty slot to) [] (passed (file_here slot to) (not_empty slot to ∷ []) passes).1).0
    by_kind false passes = leaf_file slot to valid (passed (directory_here slot to) [] passes).0

    by_number : (o : Option ℕ) → get slot.tree.paths to ≡ o → cond (is_some o) (first_refusal (replace_checks from to slot)) None ≡ None → IsLeaf slot.tree to
    by_number None none passes = record {
      no_root = λ e. let root = directory_of slot.tree [] valid.root in none_not root.number (sym none ∙ ap (get slot.tree.paths) e ∙ root.leads);
      alone = λ name. nothing_below slot.tree to (name ∷ []) valid none;
    }
    by_number (Some number) there passes = by_kind (option_map_or is_directory (node_at slot.tree from) false) passes

pub record MayMove (slot : FilesetSlot) (from to : Path) : Type 0 where
  pub no_root : ¬ to ≡ []
  pub apart : begins_with to from ≡ false
  pub free : (rest : Path) → get (without to slot.tree).paths (to ++ rest) ≡ None

may_move : (slot : FilesetSlot) (from to : Path) → IsValidFileset slot.tree → first_refusal (move_checks from to slot) ≡ None → MayMove slot from to
may_move slot from to valid checks =
    let second : Option Refusal = cond (is_some (get slot.tree.paths to)) (first_refusal (replace_checks from to slot)) None in
    let both = passed (refuse_if (begins_with to from) IntoItself) (second ∷ []) checks in
    let leaf = its_leaf slot from to valid (passed second [] both.1).0 in
    record {
      no_root = leaf.no_root;
      apart = passed_test (begins_with to from) IntoItself both.0;
      free = λ rest. nothing_below (without to slot.tree) to rest (without-valid slot.tree to valid leaf.no_root leaf.alone) (without-absent slot.tree to);
    }

-- ---- paths

-- a path is empty, or has a last name
parted : (path : Path) → (path ≡ []) ⊎ ((front : Path) × (last : Name) × (path ≡ front ++ last ∷ []))
parted [] = inl refl
parted (name ∷ path) = ⊎_elim
    (λ none. inr ([], name, ap (λ (p : Path). name ∷ p) none))
    (λ more. inr (name ∷ more.0, more.1, ap (λ (p : Path). name ∷ p) more.2))
    (parted path)

no_name : (path : Path) (name : Name) → ¬ path ++ name ∷ [] ≡ []
no_name path name e = let n : length path + 1 ≡ 0 = sym (length-append path (name ∷ [])) ∙ ap length e in omega (arith, n)

abbrev head_or : Name → Path → Name
head_or other [] = other
head_or other (name ∷ path) = name

ends_same : (p q : Path) (m n : Name) → p ++ m ∷ [] ≡ q ++ n ∷ [] → p ≡ q
ends_same [] [] m n e = refl
ends_same [] (y ∷ q) m n e = absurd (no_name q n (sym (ap (drop 1) e)))
ends_same (x ∷ p) [] m n e = absurd (no_name p m (ap (drop 1) e))
ends_same (x ∷ p) (y ∷ q) m n e = λ i. head_or x (e i) ∷ ends_same p q m n (ap (drop 1) e) i

-- what begins with a front does so with a name more
goes_on : (path front : Path) (name : Name) → begins_with path front ≡ true → begins_with (path ++ name ∷ []) front ≡ true
goes_on path front name is =
    begins_of (path ++ name ∷ []) front (drop (length front) path ++ name ∷ [])
    (ap (λ (p : Path). p ++ name ∷ []) (begins path front is) ∙ append_assoc front (drop (length front) path) (name ∷ []))

not_front : (path front : Path) (name : Name) → begins_with (path ++ name ∷ []) front ≡ false → begins_with path front ≡ false
not_front path front name none = ⊎_elim
    (λ is. absurd (true≢false (sym (goes_on path front name is) ∙ none)))
    (λ other. other)
    (cases_Bool (begins_with path front))

-- ---- the move

module _ (slot : FilesetSlot) (from to : Path) (valid : IsValidFileset slot.tree) (number : ℕ) (leads : get slot.tree.paths from ≡ Some number) (dir : ℕ) (into : get slot.tree.paths (take (length to - 1) to) ≡ Some dir)
    (said : Option (ℕ × ℕ)) (told : IsDirectoryOf slot.tree number → said ≡ Some (number, dir)) (others : (n : ℕ) → ¬ n ≡ number → IsOfNone said n)
  where
    abbrev tree : Fileset
    tree = slot.tree

    abbrev left : Fileset
    left = without to tree

    abbrev now : Fileset
    now = moved from to left

    abbrev Follows : ℕ → ℕ → Type 0
    Follows n d = (said ≡ Some (n, d)) ⊎ (StandsIn tree n d × IsOfNone said n)

    -- one that stands elsewhere is another one
    is_other : (n : ℕ) (path : Path) → IsDirectoryOf tree n → get tree.paths path ≡ Some n → ¬ path ≡ from → ¬ n ≡ number
    is_other n path directory at differ same = differ (valid.one_path path from n (subst (λ o. IsSomeAnd (option_and_then (get tree.nodes) o) (λ node. is_directory node ≡ true)) (sym at) directory) at (leads ∙ ap Some (sym same)))

    -- ---- where both paths lead to one, nothing moves

    same_each : get tree.paths to ≡ Some number → (n d : ℕ) → StandsIn tree n d → IsDirectoryOf tree n → Follows n d
    same_each at_to n d s directory = ⊎_elim
        (λ same.
        let one : s.path ++ s.name ∷ [] ≡ to = valid.one_path (s.path ++ s.name ∷ []) to n (subst (λ o. IsSomeAnd (option_and_then (get tree.nodes) o) (λ node. is_directory node ≡ true)) (sym s.inner) directory) s.inner (at_to ∙ ap Some (sym same)) in
        let front : take (length to - 1) to ≡ s.path = ap (λ (p : Path). take (length p - 1) p) (sym one) ∙ its_front s.path s.name in
        let d_is : dir ≡ d = some_inj (sym into ∙ ap (get tree.paths) front ∙ s.outer) in
        inl (told (subst (IsDirectoryOf tree) same directory) ∙ (λ i. Some (sym same i, d_is i))))
        (λ differ. inr (s, others n differ))
        (same_number n number)

    root_other : ¬ [] ≡ from → (n : ℕ) → get tree.paths [] ≡ Some n → IsOfNone said n
    root_other differ n there =
        let d = directory_of tree [] valid.root in
        let same : d.number ≡ n = some_inj (sym d.leads ∙ there) in
        let node : get tree.nodes n ≡ Some d.node = ap (get tree.nodes) (sym same) ∙ d.is in
        others n (is_other n [] (subst (λ o. IsSomeAnd o (λ node. is_directory node ≡ true)) (sym node) d.directory) there differ)

    pub same_stands : get tree.paths to ≡ Some number → ¬ to ≡ [] → DirectoriesFollow said tree tree
    same_stands at_to named = record {
      each = same_each at_to;
      root = λ n there. root_other (λ root. named (sym (valid.one_path [] to number valid.root (ap (get tree.paths) root ∙ leads) at_to))) n there;
    }

    -- ---- the move itself

    module _ (may : MayMove slot from to) where
      was_directory : (n : ℕ) → IsDirectoryOf now n → IsDirectoryOf tree n
      was_directory n directory = by_node (get left.nodes n) refl directory
        where
          by_node : (o : Option Node) → get left.nodes n ≡ o → IsSomeAnd o (λ node. is_directory node ≡ true) → IsDirectoryOf tree n
          by_node None none is = absurd is
          by_node (Some node) there is = subst (λ o. IsSomeAnd o (λ node. is_directory node ≡ true)) (sym (node_was to tree n node there)) is

      -- below what moved
      below : (n d : ℕ) (rest : Path) (name : Name) → IsDirectoryOf tree n → get now.paths (to ++ rest) ≡ Some d → get now.paths (to ++ (rest ++ name ∷ [])) ≡ Some n → Follows n d
      below n d rest name directory outer inner =
          let at : get tree.paths (from ++ (rest ++ name ∷ [])) ≡ Some n = path_was to tree (from ++ (rest ++ name ∷ [])) n (sym (moved_to left.paths from to may.apart may.free (rest ++ name ∷ [])) ∙ inner) in
          let above : get tree.paths (from ++ rest) ≡ Some d = path_was to tree (from ++ rest) d (sym (moved_to left.paths from to may.apart may.free rest) ∙ outer) in
          inr (
            record { path = from ++ rest; name = name; outer = above; inner = ap (get tree.paths) (append_assoc from rest (name ∷ [])) ∙ at },
            others n (is_other n (from ++ (rest ++ name ∷ [])) directory at (longer rest name)),
          )
        where
          longer : (rest : Path) (name : Name) → ¬ from ++ (rest ++ name ∷ []) ≡ from
          longer rest name e =
              let k : length from + (length rest + 1) ≡ length from = ap (λ (j : ℕ). length from + j) (sym (length-append rest (name ∷ []))) ∙ sym (length-append from (rest ++ name ∷ [])) ∙ ap length e in
              omega (arith, k)

      -- what moved itself
      itself : (n d : ℕ) (path : Path) (name : Name) → IsDirectoryOf tree n → path ++ name ∷ [] ≡ to → get now.paths path ≡ Some d → get now.paths (path ++ name ∷ []) ≡ Some n → Follows n d
      itself n d path name directory same outer inner =
          let at : get tree.paths from ≡ Some n = path_was to tree from n (ap (get left.paths) (sym (append-nil from)) ∙ sym (moved_to left.paths from to may.apart may.free []) ∙ ap (get now.paths) (append-nil to ∙ sym same) ∙ inner) in
          let n_is : n ≡ number = some_inj (sym at ∙ leads) in
          let off_from : begins_with path from ≡ false = not_front path from name (ap (λ (p : Path). begins_with p from) same ∙ may.apart) in
          let above : get tree.paths path ≡ Some d = path_was to tree path d (sym (moved_other left.paths from to may.apart may.free path off_from off_to) ∙ outer) in
          let front : take (length to - 1) to ≡ path = ap (λ (p : Path). take (length p - 1) p) (sym same) ∙ its_front path name in
          let d_is : dir ≡ d = some_inj (sym into ∙ ap (get tree.paths) front ∙ above) in
          inl (told (subst (IsDirectoryOf tree) n_is directory) ∙ (λ i. Some (sym n_is i, d_is i)))
        where
          off_to : begins_with path to ≡ false
          off_to = ⊎_elim
              (λ is.
              let e = begins path to is in
              let k : length path ≡ length to + length (drop (length to) path) = ap length e ∙ length-append to (drop (length to) path) in
              let j : length path + 1 ≡ length to = sym (length-append path (name ∷ [])) ∙ ap length same in
              absurd (omega (arith, k, j)))
              (λ other. other)
              (cases_Bool (begins_with path to))

      -- and what stands elsewhere
      beside : (n d : ℕ) (path : Path) (name : Name) → IsDirectoryOf tree n → begins_with (path ++ name ∷ []) to ≡ false → get now.paths path ≡ Some d → get now.paths (path ++ name ∷ []) ≡ Some n → Follows n d
      beside n d path name directory off_to outer inner = ⊎_elim
          (λ is.
          let gone = moved_from left.paths from to may.apart may.free (drop (length from) (path ++ name ∷ [])) in
          absurd (none_not n (sym gone ∙ ap (get now.paths) (sym (begins (path ++ name ∷ []) from is)) ∙ inner)))
          (λ off_from.
          let at : get tree.paths (path ++ name ∷ []) ≡ Some n = path_was to tree (path ++ name ∷ []) n (sym (moved_other left.paths from to may.apart may.free (path ++ name ∷ []) off_from off_to) ∙ inner) in
          let above : get tree.paths path ≡ Some d = path_was to tree path d (sym (moved_other left.paths from to may.apart may.free path (not_front path from name off_from) (not_front path to name off_to)) ∙ outer) in
          inr (
            record { path = path; name = name; outer = above; inner = at },
            others n (is_other n (path ++ name ∷ []) directory at (λ same. true≢false (sym (begins_of (path ++ name ∷ []) from [] (same ∙ sym (append-nil from))) ∙ off_from))),
          ))
          (cases_Bool (begins_with (path ++ name ∷ []) from))

      each : (n d : ℕ) → StandsIn now n d → IsDirectoryOf now n → Follows n d
      each n d s directory = ⊎_elim
          (λ is. at_to (drop (length to) (s.path ++ s.name ∷ [])) (begins (s.path ++ s.name ∷ []) to is))
          (λ off. beside n d s.path s.name was off s.outer s.inner)
          (cases_Bool (begins_with (s.path ++ s.name ∷ []) to))
        where
          was : IsDirectoryOf tree n
          was = was_directory n directory

          at_to : (rest : Path) → s.path ++ s.name ∷ [] ≡ to ++ rest → Follows n d
          at_to rest e = ⊎_elim
              (λ none. itself n d s.path s.name was (e ∙ ap (λ (r : Path). to ++ r) none ∙ append-nil to) s.outer s.inner)
              (λ more.
              let front : s.path ≡ to ++ more.0 = ends_same s.path (to ++ more.0) s.name more.1 (e ∙ ap (λ (r : Path). to ++ r) more.2 ∙ sym (append_assoc to more.0 (more.1 ∷ []))) in
              below n d more.0 more.1 was (ap (get now.paths) (sym front) ∙ s.outer) (ap (get now.paths) (ap (λ (r : Path). to ++ r) (sym more.2) ∙ sym e) ∙ s.inner))
              (parted rest)

      pub moved_stands : DirectoriesFollow said tree now
      moved_stands = record { each = each; root = λ n there. root_other off_from n (path_was to tree [] n (sym (moved_other left.paths from to may.apart may.free [] (begins_none from off_from) (begins_none to off_to)) ∙ there)) }
        where
          begins_none : (front : Path) → ¬ [] ≡ front → begins_with [] front ≡ false
          begins_none [] differ = absurd (differ refl)
          begins_none (name ∷ front) differ = refl

          off_to : ¬ [] ≡ to
          off_to same = may.no_root (sym same)

          off_from : ¬ [] ≡ from
          off_from same = true≢false (sym (begins_of to from to (ap (λ (p : Path). p ++ to) same)) ∙ may.apart)

-- ---- by the checks of a rename

either : (b other : Bool) → (b || other) ≡ true → (b ≡ true) ⊎ (other ≡ true)
either true other is = inl refl
either false other is = inr is

paths_same : (p q : Path) → same_path p q ≡ true → p ≡ q
paths_same p q same = path_cmp-IsAntisymmetric p q ((Equal-is (path_cmp p q)).0 (sym (lists_ties name_cmp texts_ties p q) ∙ same))

-- where both paths lead to one number, the second does to the first's
leads_too : (tree : Fileset) (from to : Path) (number : ℕ) → get tree.paths from ≡ Some number → names_one tree from to ≡ true → get tree.paths to ≡ Some number
leads_too tree from to number leads one = ⊎_elim
    (λ same. ap (get tree.paths) (sym (paths_same from to same)) ∙ leads)
    (λ also. by_other (get tree.paths to) refl (subst (λ o. option_map_or (λ (k : ℕ). option_map_or (λ n. n == k) (get tree.paths to) false) o false ≡ true) leads also))
    (either (same_path from to) (option_map_or (λ (k : ℕ). option_map_or (λ n. n == k) (get tree.paths to) false) (get tree.paths from) false) one)
  where
    by_other : (o : Option ℕ) → get tree.paths to ≡ o → option_map_or (λ n. n == number) o false ≡ true → get tree.paths to ≡ Some number
    by_other None there is = absurd (true≢false (sym is))
    by_other (Some n) there is = there ∙ ap Some (eqb-true n number is)

-- what is said of a directory by the kind of what moved
moved_said : (slot : FilesetSlot) (from : Path) (number dir : ℕ) (of : Kind) → get slot.tree.paths from ≡ Some number → option_map is_directory (node_at slot.tree from) ≡ Some (is_directory_kind of) → IsDirectoryOf slot.tree number → said_of of number dir ≡ Some (number, dir)
moved_said slot from number dir kind.Directory leads is directory = refl
moved_said slot from number dir kind.File leads is directory = by_node (get slot.tree.nodes number) (sym (ap (λ o. option_map is_directory (option_and_then (get slot.tree.nodes) o)) leads) ∙ is) directory
  where
    by_node : (o : Option Node) → option_map is_directory o ≡ Some false → IsSomeAnd o (λ node. is_directory node ≡ true) → said_of kind.File number dir ≡ Some (number, dir)
    by_node None none is = absurd is
    by_node (Some node) file is = absurd (true≢false (sym is ∙ some_inj file))

-- the last of the checks
its_checks : (from to : Path) (slot : FilesetSlot) → first_refusal (rename_checks from to slot) ≡ None → first_refusal (cond (names_one slot.tree from to) None (first_refusal (move_checks from to slot)) ∷ []) ≡ None
its_checks from to slot checks =
    let last = cond (names_one slot.tree from to) None (first_refusal (move_checks from to slot)) in
    (passed (walk_refusal slot to) (last ∷ []) (passed (target_refusal slot from) (walk_refusal slot to ∷ last ∷ []) (passed (refuse_if (is_clone slot.role) ReadOnly) (target_refusal slot from ∷ walk_refusal slot to ∷ last ∷ []) checks).1).1).1

pub renamed_stand : (from to : Path) (slot : FilesetSlot) (of : Kind) (number dir : ℕ) → IsValidFileset slot.tree → first_refusal (rename_checks from to slot) ≡ None → 1 ≤ length to → get slot.tree.paths from ≡ Some number
    → option_map is_directory (node_at slot.tree from) ≡ Some (is_directory_kind of) → get slot.tree.paths (take (length to - 1) to) ≡ Some dir → DirectoriesFollow (said_of of number dir) slot.tree (renamed from to slot.tree)
renamed_stand from to slot of number dir valid checks some leads is into = by_one (names_one slot.tree from to) refl (its_checks from to slot checks)
  where
    moves : Option Refusal
    moves = first_refusal (move_checks from to slot)

    by_one : (b : Bool) → names_one slot.tree from to ≡ b → first_refusal (cond b None moves ∷ []) ≡ None → DirectoriesFollow (said_of of number dir) slot.tree (cond b slot.tree (moved from to (without to slot.tree)))
    by_one true one passes = same_stands slot from to valid number leads dir into (said_of of number dir) (moved_said slot from number dir of leads is) (said_other of number dir) (leads_too slot.tree from to number leads one) (λ none. let k : length to ≡ 0 = ap length none in omega (arith, some, k))
    by_one false two passes =
        moved_stands slot from to valid number leads dir into (said_of of number dir) (moved_said slot from number dir of leads is) (said_other of number dir) (may_move slot from to valid (passed moves [] passes).0)

-- what has moved is at the second path
pub renamed_leads : (from to : Path) (slot : FilesetSlot) (number : ℕ) → IsValidFileset slot.tree → first_refusal (rename_checks from to slot) ≡ None → get slot.tree.paths from ≡ Some number → get (renamed from to slot.tree).paths to ≡ Some number
renamed_leads from to slot number valid checks leads = by_one (names_one slot.tree from to) refl (its_checks from to slot checks)
  where
    left_from : ¬ from ≡ to → (o : Option ℕ) → get (option_map_or (λ n. record slot.tree {
      paths = map.remove slot.tree.paths to;
      nodes = cond (is_named_elsewhere slot.tree to n) slot.tree.nodes (map.remove slot.tree.nodes n);
    }) o slot.tree).paths from ≡ Some number
    left_from differ None = leads
    left_from differ (Some n) = get-remove_other path_cmp-total path_cmp-IsAntisymmetric slot.tree.paths to from differ ∙ leads

    by_one : (b : Bool) → names_one slot.tree from to ≡ b → first_refusal (cond b None (first_refusal (move_checks from to slot)) ∷ []) ≡ None → get (cond b slot.tree (moved from to (without to slot.tree))).paths to ≡ Some number
    by_one true one passes = leads_too slot.tree from to number leads one
    by_one false two passes =
        let may = may_move slot from to valid (passed (first_refusal (move_checks from to slot)) [] passes).0 in
        ap (get (moved from to (without to slot.tree)).paths) (sym (append-nil to)) ∙ moved_to (without to slot.tree).paths from to may.apart may.free [] ∙ ap (get (without to slot.tree).paths) (append-nil from)
        ∙ left_from (λ same. true≢false (sym (begins_of to from [] (sym same ∙ sym (append-nil from))) ∙ may.apart)) (get slot.tree.paths to)
