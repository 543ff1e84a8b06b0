-- Directories stand where they stood, or where it is said, once names have changed.
use Rattle.std.proofs.Common.{◌≡◌, ◌∙◌, ◌≢◌, ◌⊎◌, ◌+◌, ◌-◌, inl, inr, ℕ, Bool, true, false, cond, is_some, [], ◌∷◌, ◌++◌, length, length-append, take, Option, Some, None, IsSomeAnd, refl, sym, ap, subst, ⊎_elim, arith, true≢false}
use Rattle.std.proofs.Math.Seq.{take-append_seam}
use Rattle.std.specs.Cmp.{nat_cmp_total}
use Rattle.std.specs.FinMap as map
use Rattle.std.specs.FinMap.{get}
use Rattle.std.specs.Option.{option_map_or}
use Rattle.standing_laws.specs.domain_base.declared.place.Kind.{Kind}
use Rattle.standing_laws.specs.domain_base.declared.place.Kind.TheVariants as kind
use Rattle.standing_laws.specs.fileset_model.Apply.{is_named_elsewhere, linked, with_node, without}
use Rattle.standing_laws.specs.fileset_model.Fileset.{Fileset}
use Rattle.standing_laws.specs.fileset_values.Orders.{Name, Path, path_cmp-total, path_cmp-IsAntisymmetric}
use Rattle.standing_laws.specs.fileset_model.Paths.{is_directory}
use Rattle.standing_laws.specs.fileset_model.declared.node.Node.{Node}
use Rattle.standing_laws.proofs.OfFilesetValues.MapLemmas.{got-insert, got-remove, get-insert_same}
use Rattle.standing_laws.specs.legal_histories.Valid.{IsValidFileset}
use Rattle.standing_laws.proofs.OfLegalHistories.ValidLemmas.{some_inj}
use Rattle.standing_laws.proofs.OfLegalHistories.ValidTreeLemmas.{directory_of}
use Rattle.standing_laws.specs.name_space.Changes.{new_node}
use Rattle.standing_laws.proofs.OfReleaseList.Spread.{none_not}
use Rattle.set_standing.specs.Directories.{DirectoriesFollow, IsDirectoryOf, IsOfNone, StandsIn, said_of}

-- ---- paths

pub longer_path : (path : Path) (name : Name) → ¬ path ++ name ∷ [] ≡ path
longer_path path name e = let n : length path + 1 ≡ length path = sym (length-append path (name ∷ [])) ∙ ap length e in omega (arith, n)

-- the front of a path that has a last name
pub its_front : (path : Path) (name : Name) → take (length (path ++ name ∷ []) - 1) (path ++ name ∷ []) ≡ path
its_front path name =
    let n : length (path ++ name ∷ []) - 1 ≡ length path = omega (arith, length-append path (name ∷ [])) in
    ap (λ (k : ℕ). take k (path ++ name ∷ [])) n ∙ take-append_seam path (name ∷ [])

-- ---- what stays

abbrev nothing : Option (ℕ × ℕ)
nothing = None

of_none : (number : ℕ) → IsOfNone None number
of_none number other says = none_not (number, other) says

pub same_stand : (tree : Fileset) → DirectoriesFollow None tree tree
same_stand tree = record { each = λ number dir stands directory. inr (stands, of_none number); root = λ number there. of_none number }

-- a path of fewer stood there
fewer_paths : (tree now : Fileset) → ((path : Path) (number : ℕ) → get now.paths path ≡ Some number → get tree.paths path ≡ Some number) → (number dir : ℕ) → StandsIn now number dir → StandsIn tree number dir
fewer_paths tree now was number dir s = record { path = s.path; name = s.name; outer = was s.path dir s.outer; inner = was (s.path ++ s.name ∷ []) number s.inner }

pub path_was : (path : Path) (tree : Fileset) (other : Path) (number : ℕ) → get (without path tree).paths other ≡ Some number → get tree.paths other ≡ Some number
path_was path tree other number = by_number (get tree.paths path)
  where
    by_number : (o : Option ℕ) → get (option_map_or (λ n. record tree {
      paths = map.remove tree.paths path;
      nodes = cond (is_named_elsewhere tree path n) tree.nodes (map.remove tree.nodes n);
    }) o tree).paths other ≡ Some number → get tree.paths other ≡ Some number
    by_number None there = there
    by_number (Some n) there = (got-remove path_cmp-total path_cmp-IsAntisymmetric tree.paths path other number there).1

pub node_was : (path : Path) (tree : Fileset) (number : ℕ) (node : Node) → get (without path tree).nodes number ≡ Some node → get tree.nodes number ≡ Some node
node_was path tree number node = by_number (get tree.paths path)
  where
    by_named : (n : ℕ) (b : Bool) → get (cond b tree.nodes (map.remove tree.nodes n)) number ≡ Some node → get tree.nodes number ≡ Some node
    by_named n true there = there
    by_named n false there = (got-remove nat_cmp_total map.nat_cmp-IsAntisymmetric tree.nodes n number node there).1

    by_number : (o : Option ℕ) → get (option_map_or (λ n. record tree {
      paths = map.remove tree.paths path;
      nodes = cond (is_named_elsewhere tree path n) tree.nodes (map.remove tree.nodes n);
    }) o tree).nodes number ≡ Some node → get tree.nodes number ≡ Some node
    by_number None there = there
    by_number (Some n) there = by_named n (is_named_elsewhere tree path n) there

pub left_stand : (path : Path) (tree : Fileset) → DirectoriesFollow None tree (without path tree)
left_stand path tree = record { each = λ number dir stands directory. inr (fewer_paths tree (without path tree) (path_was path tree) number dir stands, of_none number); root = λ number there. of_none number }

-- ---- what is at a path

-- nothing stands below a path at which nothing does
below_free : (tree : Fileset) → IsValidFileset tree → (path : Path) → get tree.paths path ≡ None → (name : Name) (number : ℕ) → ¬ get tree.paths (path ++ name ∷ []) ≡ Some number
below_free tree valid path free name number there =
    let d = directory_of tree path (valid.parents path name (ap is_some there)) in
    none_not d.number (sym free ∙ d.leads)

-- ---- a path more

module _ (path to : Path) (number : ℕ) (tree : Fileset) (valid : IsValidFileset tree) (leads : get tree.paths path ≡ Some number) (file : ¬ IsDirectoryOf tree number) (free : get tree.paths to ≡ None) where
  abbrev with_link : Fileset
  with_link = record tree { paths = map.insert tree.paths to number }

  link_each : (n dir : ℕ) → StandsIn with_link n dir → IsDirectoryOf with_link n → (nothing ≡ Some (n, dir)) ⊎ (StandsIn tree n dir × IsOfNone None n)
  link_each n dir s directory = ⊎_elim at_new at_old (got-insert path_cmp-total path_cmp-IsAntisymmetric tree.paths to number (s.path ++ s.name ∷ []) (Some n) s.inner)
    where
      at_new : (s.path ++ s.name ∷ [] ≡ to) × (Some n ≡ Some number) → (nothing ≡ Some (n, dir)) ⊎ (StandsIn tree n dir × IsOfNone None n)
      at_new same = absurd (file (subst (IsDirectoryOf tree) (some_inj same.1) directory))

      at_old : (s.path ++ s.name ∷ [] ≢ to) × (get tree.paths (s.path ++ s.name ∷ []) ≡ Some n) → (nothing ≡ Some (n, dir)) ⊎ (StandsIn tree n dir × IsOfNone None n)
      at_old was = ⊎_elim
          (λ here. absurd (below_free tree valid to free s.name n (ap (λ (p : Path). get tree.paths (p ++ s.name ∷ [])) (sym here.0) ∙ was.1)))
          (λ there. inr (record { path = s.path; name = s.name; outer = there.1; inner = was.1 }, of_none n))
          (got-insert path_cmp-total path_cmp-IsAntisymmetric tree.paths to number s.path (Some dir) s.outer)

  pub link_stands : DirectoriesFollow None tree (linked path to tree)
  link_stands = subst (λ (o : Option ℕ). DirectoriesFollow None tree (option_map_or (λ n. record tree { paths = map.insert tree.paths to n }) o tree)) (sym leads) (record { each = link_each; root = λ n there. of_none n })

-- ---- one is made

module _ (path : Path) (number : ℕ) (node : Node) (tree : Fileset) (valid : IsValidFileset tree) (free : get tree.paths path ≡ None) (new : get tree.nodes number ≡ None) (dir : ℕ) (into : get tree.paths (take (length path - 1) path) ≡ Some dir)
    (said : Option (ℕ × ℕ)) (told : is_directory node ≡ true → said ≡ Some (number, dir)) (others : (n : ℕ) → ¬ n ≡ number → IsOfNone said n)
  where
    abbrev made : Fileset
    made = with_node path number node tree

    its_node : get made.nodes number ≡ Some node
    its_node = get-insert_same nat_cmp_total map.nat_cmp-IsAntisymmetric tree.nodes number node

    not_new : (p : Path) (n : ℕ) → get tree.paths p ≡ Some n → ¬ n ≡ number
    not_new p n there same = true≢false (sym (valid.led_to p n there) ∙ ap (λ (k : ℕ). is_some (get tree.nodes k)) same ∙ ap is_some new)

    each : (n d : ℕ) → StandsIn made n d → IsDirectoryOf made n → (said ≡ Some (n, d)) ⊎ (StandsIn tree n d × IsOfNone said n)
    each n d s directory = ⊎_elim at_new at_old (got-insert path_cmp-total path_cmp-IsAntisymmetric tree.paths path number (s.path ++ s.name ∷ []) (Some n) s.inner)
      where
        at_new : (s.path ++ s.name ∷ [] ≡ path) × (Some n ≡ Some number) → (said ≡ Some (n, d)) ⊎ (StandsIn tree n d × IsOfNone said n)
        at_new same = ⊎_elim
            (λ here. absurd (longer_path s.path s.name (same.0 ∙ sym here.0)))
            (λ there.
            let its : n ≡ number = some_inj same.1 in
            let front : take (length path - 1) path ≡ s.path = ap (λ (p : Path). take (length p - 1) p) (sym same.0) ∙ its_front s.path s.name in
            let dir_is : dir ≡ d = some_inj (sym into ∙ ap (get tree.paths) front ∙ there.1) in
            let is : is_directory node ≡ true = subst (λ o. IsSomeAnd o (λ node. is_directory node ≡ true)) (ap (get made.nodes) its ∙ its_node) directory in
            inl (told is ∙ (λ i. Some (sym its i, dir_is i))))
            (got-insert path_cmp-total path_cmp-IsAntisymmetric tree.paths path number s.path (Some d) s.outer)

        at_old : (s.path ++ s.name ∷ [] ≢ path) × (get tree.paths (s.path ++ s.name ∷ []) ≡ Some n) → (said ≡ Some (n, d)) ⊎ (StandsIn tree n d × IsOfNone said n)
        at_old was = ⊎_elim
            (λ here. absurd (below_free tree valid path free s.name n (ap (λ (p : Path). get tree.paths (p ++ s.name ∷ [])) (sym here.0) ∙ was.1)))
            (λ there. inr (record { path = s.path; name = s.name; outer = there.1; inner = was.1 }, others n (not_new (s.path ++ s.name ∷ []) n was.1)))
            (got-insert path_cmp-total path_cmp-IsAntisymmetric tree.paths path number s.path (Some d) s.outer)

    pub made_stands : DirectoriesFollow said tree made
    made_stands = record {
      each = each;
      root = λ n there. ⊎_elim
          (λ here. let d = directory_of tree [] valid.root in absurd (none_not d.number (sym free ∙ ap (get tree.paths) (sym here.0) ∙ d.leads)))
          (λ was. others n (not_new [] n was.1))
          (got-insert path_cmp-total path_cmp-IsAntisymmetric tree.paths path number [] (Some n) there);
    }

-- ---- what is said of one by its kind

pub said_other : (of : Kind) (number dir n : ℕ) → ¬ n ≡ number → IsOfNone (said_of of number dir) n
said_other kind.File number dir n differ other says = none_not (n, other) says
said_other kind.Directory number dir n differ other says = differ (sym (ap (λ (s : ℕ × ℕ). s.0) (some_inj says)))

node_said : (of : Kind) (uid gid number dir : ℕ) → is_directory (new_node of uid gid) ≡ true → said_of of number dir ≡ Some (number, dir)
node_said kind.File uid gid number dir is = absurd (true≢false (sym is))
node_said kind.Directory uid gid number dir is = refl

pub new_stands_in : (path : Path) (of : Kind) (uid gid number dir : ℕ) (tree : Fileset) → IsValidFileset tree → get tree.paths path ≡ None → get tree.nodes number ≡ None → get tree.paths (take (length path - 1) path) ≡ Some dir
    → DirectoriesFollow (said_of of number dir) tree (with_node path number (new_node of uid gid) tree)
new_stands_in path of uid gid number dir tree valid free new into =
    made_stands path number (new_node of uid gid) tree valid free new dir into (said_of of number dir) (node_said of uid gid number dir) (said_other of number dir)
