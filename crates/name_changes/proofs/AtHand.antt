-- A fileset that rows make is at hand if it is known that there is one.
use Rattle.std.proofs.Common.{◌≡◌, ◌∙◌, ◌⊎◌, ℕ, nat_eq, Bool, true, false, cond, List, [], ◌∷◌, Option, Some, None, IsSomeAnd, IsTrue, inl, inr, refl, sym, ap, subst, ⊎_elim}
use Rattle.std.proofs.Math.Logic.{∥∥₁_map}
use Rattle.std.proofs.lemmas.Bool.{eq-eqb, eqb-true}
use Rattle.std.specs.Cmp.{nat_cmp_total}
use Rattle.std.specs.Coded.{Coded-set, coded×, coded_ℕ, coded_list, coded_option}
use Rattle.std.specs.FinMap as map
use Rattle.std.specs.FinMap.Entries.{find}
use Rattle.std.specs.Option.{option_map, option_map_or}
use Rattle.std.specs.Ordering.{eq_by_cmp, is_eq}
use Rattle.std.specs.declared.cmp.Ordering.{Ordering}
use Rattle.std.specs.declared.cmp.Ordering.TheVariants.{Equal, Greater, Less}
use Rattle.fileset_lending.specs.domain_base.declared.place.Kind.{Kind}
use Rattle.fileset_lending.specs.domain_base.declared.place.Kind.TheVariants as kind
use Rattle.fileset_lending.specs.domain_base.declared.place.Tag.{Tag}
use Rattle.fileset_lending.specs.page_store.Bitfiles.{Bitfile, Bitfiles}
use Rattle.fileset_lending.specs.fileset_model.Fileset.{Fileset, fileset_code, limits_code}
use Rattle.fileset_lending.specs.fileset_values.Orders.{Path, path_cmp, path_cmp-IsAntisymmetric, path_cmp-total}
use Rattle.fileset_lending.specs.fileset_model.Paths.{is_directory, node_at}
use Rattle.fileset_lending.specs.fileset_model.contracts.node.Node as node
use Rattle.fileset_lending.specs.fileset_model.declared.fileset.FilesetSlot.{FilesetSlot}
use Rattle.fileset_lending.specs.fileset_model.declared.fileset.Role.{Role}
use Rattle.fileset_lending.specs.fileset_model.declared.fileset.Role.TheVariants.{Original}
use Rattle.fileset_lending.specs.fileset_model.declared.node.Node.{Node}
use Rattle.fileset_lending.specs.fileset_model.declared.node.Node.TheVariants.{Directory, File}
use Rattle.fileset_lending.specs.legal_histories.Valid.{HasWholePages, IsDirectoryAt, IsValidFileset}
use Rattle.fileset_lending.proofs.OfLegalHistories.ValidLemmas.{from_some_and}
use Rattle.fileset_lending.specs.name_space.Changes.{HasOriginal, IsOriginal}
use Rattle.fileset_lending.specs.name_space.Names.{IsNodeOf, IsShownAs, Names, is_directory_kind, led_to, number_of}
use Rattle.fileset_lending.proofs.OfNameSpace.Originals.{is_in, one_tag, path_at}
use Rattle.fileset_lending.proofs.OfStoredSet.Stable.{IsStable, both, determined, equal, is_there, kind_code, less, nothing, one_bool, one_number, second_of, some_and, tag_code, three}
use Rattle.name_changes.proofs.Bare.{IsBare, bare, bare_node, bare_original, is_bare}
use Rattle.name_changes.proofs.WellFormed.{well_formed}

-- ---- a path of a number

tied : (r : Ordering) → is_eq r ≡ true → r ≡ Equal
tied Less is = absurd cc
tied Equal is = refl
tied Greater is = absurd cc

module _ (paths : map.FinMap path_cmp ℕ) (n : ℕ) where
  abbrev Leads : Path → Type 0
  Leads path = map.get paths path ≡ Some n

  -- one of these keys leads to it
  Among : List (Path × ℕ) → Type 0
  Among [] = ⊥
  Among (e ∷ es) = Leads e.0 ⊎ Among es

  leads_or_not : (path : Path) → Leads path ⊎ (Leads path → ⊥)
  leads_or_not path = by_number (map.get paths path)
    where
      by_equal : (m : ℕ) (b : Bool) → nat_eq m n ≡ b → (Some m ≡ Some n) ⊎ (Some m ≡ Some n → ⊥)
      by_equal m true is = inl (ap Some (eqb-true m n is))
      by_equal m false is = inr (λ same. other (ap (λ o. option_map_or (λ k. k) o 0) same))
        where
          other : m ≡ n → ⊥
          other same = let e : false ≡ true = sym is ∙ eq-eqb m n same in absurd cc

      by_number : (o : Option ℕ) → (o ≡ Some n) ⊎ (o ≡ Some n → ⊥)
      by_number None = inr (λ same. absurd cc)
      by_number (Some m) = by_equal m (nat_eq m n) refl

  among : (es : List (Path × ℕ)) → IsStable (Among es)
  unfolding Among
  among [] t = nothing t
  among (e ∷ es) t = ⊎_elim (λ leads. inl leads) (λ not. second_of not (among es) t) (leads_or_not e.0)

  path_in : (es : List (Path × ℕ)) → Among es → (path : Path) × Leads path
  unfolding Among
  path_in [] is = absurd is
  path_in (e ∷ es) is = ⊎_elim (λ leads. (e.0, leads)) (λ later. path_in es later) is

  in_entries : (path : Path) → Leads path → (es : List (Path × ℕ)) → find path_cmp path es ≡ Some n → Among es
  unfolding Among
  in_entries path leads [] is = absurd cc
  in_entries path leads (e ∷ es) is = by_key (eq_by_cmp path_cmp path e.0) refl is (λ later. in_entries path leads es later)
    where
      by_key : (b : Bool) → eq_by_cmp path_cmp path e.0 ≡ b → cond b (Some e.1) (find path_cmp path es) ≡ Some n → (find path_cmp path es ≡ Some n → Among es) → Leads e.0 ⊎ Among es
      by_key true same is later = inl (subst Leads (path_cmp-IsAntisymmetric path e.0 (tied (path_cmp path e.0) same)) leads)
      by_key false other is later = inr (later is)

  pub some_path : IsStable ((path : Path) × Leads path)
  some_path t = path_in (map.entries paths) (among (map.entries paths) (∥∥₁_map t (λ p. in_entries p.0 p.1 (map.entries paths) (sym (map.get-entries paths p.0) ∙ p.1))))

-- ---- an original

node_is : (file : Bitfile) (n : Node) → IsStable (IsNodeOf file n)
node_is file (File uid gid size logged pages) = three (equal kind_code _ _) (one_number _ _) (one_number _ _)
node_is file (Directory uid gid) = three (equal kind_code _ _) (one_number _ _) (one_number _ _)

directory_at : (tree : Fileset) (path : Path) → IsStable (IsDirectoryAt tree path)
directory_at tree path = some_and (λ n. IsTrue (is_directory n)) (λ n. one_bool _ _) (node_at tree path)

module _ (files : Bitfiles) (slot : FilesetSlot) (role : slot.role ≡ Original) where
  shown_as : (tag : Tag) (of : Kind) → IsStable (IsShownAs files slot tag of)
  shown_as tag of t = record {
    kind = some_and (λ n. is_directory n ≡ is_directory_kind of) (λ n. one_bool _ _) (map.get slot.tree.nodes (number_of tag)) (∥∥₁_map t (λ x. x.kind));
    out = one_bool _ _ (∥∥₁_map t (λ x. x.out));
    node = λ file is. three (equal kind_code _ _) (some_and (IsNodeOf file) (node_is file) (map.get slot.tree.nodes (number_of tag))) (one_number _ _) (∥∥₁_map t (λ x. x.node file is));
  }

  names_but : ∥ Names files slot ∥₁ → ((tag : Tag) (file : Bitfile) → files tag ≡ Some file → (path : Path) × (led_to files path ≡ Some (tag, file.kind))) → Names files slot
  names_but t live = record {
    paths = λ path at. equal (coded_option coded_ℕ) _ _ (∥∥₁_map t (λ x. x.paths path at));
    shown = λ path tag of at led. shown_as tag of (∥∥₁_map t (λ x. x.shown path tag of at led));
    directories = λ dir is. well_formed files dir (∥∥₁_map t (λ x. x.directories dir is));
    live = λ _ tag file is. live tag file is;
    seq = λ tag file is. less _ _ (∥∥₁_map t (λ x. x.seq tag file is));
  }

  -- the path that leads to a tag's number is the tag's
  leads_there : Names files slot → (tag : Tag) (file : Bitfile) → files tag ≡ Some file → (path : Path) → map.get slot.tree.paths path ≡ Some (number_of tag) → led_to files path ≡ Some (tag, file.kind)
  leads_there names tag file is path at = by_led (led_to files path) refl (sym (path_at files slot names role path) ∙ at)
    where
      by_led : (o : Option (Tag × Kind)) → led_to files path ≡ o → option_map (λ (led : Tag × Kind). number_of led.0) o ≡ Some (number_of tag) → o ≡ Some (tag, file.kind)
      by_led None led same = absurd cc
      by_led (Some other) led same =
          let had = is_in files slot names role path other.0 other.1 led in
          let one : other.0 ≡ tag = one_tag other.0 tag (names.seq other.0 had.file had.there) (names.seq tag file is) (ap (λ o. option_map_or (λ k. k) o 0) same) in
          let same_file : Some had.file ≡ Some file = sym had.there ∙ ap files one ∙ is in
          let kind : other.1 ≡ file.kind = sym had.kind ∙ ap (λ (o : Option Bitfile). option_map_or (λ (f : Bitfile). f.kind) o file.kind) same_file in
          λ i. Some (one i, kind i)

  live_path : ∥ Names files slot ∥₁ → (tag : Tag) (file : Bitfile) → files tag ≡ Some file → (path : Path) × (led_to files path ≡ Some (tag, file.kind))
  live_path t tag file is =
      let found = some_path slot.tree.paths (number_of tag) (∥∥₁_map t (λ x. let l = x.live role tag file is in (l.0, path_at files slot x role l.0 ∙ ap (option_map (λ (led : Tag × Kind). number_of led.0)) l.1))) in
      (found.0, equal (coded_option (coded× tag_code kind_code)) _ _ (∥∥₁_map t (λ x. leads_there x tag file is found.0 found.1)))

pub whole : (n : Node) → IsStable (HasWholePages n)
whole (File uid gid size logged pages) t = λ q page is. both (less _ _) (one_number _ _) (∥∥₁_map t (λ x. x q page is))
whole (Directory uid gid) t = tt

valid : (tree : Fileset) → IsStable (IsValidFileset tree)
valid tree t = record {
  root = directory_at tree [] (∥∥₁_map t (λ v. v.root));
  parents = λ path name is. directory_at tree path (∥∥₁_map t (λ v. v.parents path name is));
  one_path = λ p q number at one other. equal (coded_list (coded_list coded_ℕ)) _ _ (∥∥₁_map t (λ v. v.one_path p q number at one other));
  few_paths = λ number. less _ _ (∥∥₁_map t (λ v. v.few_paths number));
  led_to = λ path number is. is_there (map.get tree.nodes number) (∥∥₁_map t (λ v. v.led_to path number is));
  named = λ number n is. some_path tree.paths number (∥∥₁_map t (λ v. v.named number n is));
  whole = λ number n is. whole n (∥∥₁_map t (λ v. v.whole number n is));
  limited = λ who limits is. one_bool _ _ (∥∥₁_map t (λ v. v.limited who limits is));
}

abbrev slot_of : Fileset → FilesetSlot
slot_of tree = record { tree = tree; role = Original }

original : (files : Bitfiles) (tree : Fileset) → IsStable (IsOriginal files (slot_of tree))
original files tree t =
    let names = ∥∥₁_map t (λ (x : IsOriginal files (slot_of tree)). x.names) in
    record {
      names = names_but files (slot_of tree) refl names (live_path files (slot_of tree) refl names);
      role = refl;
      valid = valid tree (∥∥₁_map t (λ (x : IsOriginal files (slot_of tree)). x.valid));
    }

bare_too : (tree : Fileset) → IsStable (IsBare tree)
bare_too tree t = record {
  nodes = λ number n is. equal node.the_row.coded n (bare_node n) (∥∥₁_map t (λ b. b.nodes number n is));
  limits = equal limits_code _ _ (∥∥₁_map t (λ b. b.limits));
}

-- ---- there is one without bytes

one_node : (file : Bitfile) (x y : Node) → IsNodeOf file x → IsNodeOf file y → x ≡ bare_node x → y ≡ bare_node y → x ≡ y
one_node file (File uid gid size logged pages) (File uid' gid' size' logged' pages') a b bare_x bare_y =
    bare_x ∙ (λ i. File ((sym a.1 ∙ b.1) i) ((sym a.2 ∙ b.2) i) 0 false map.empty) ∙ sym bare_y
one_node file (Directory uid gid) (Directory uid' gid') a b bare_x bare_y = λ i. Directory ((sym a.1 ∙ b.1) i) ((sym a.2 ∙ b.2) i)
one_node file (File uid gid size logged pages) (Directory uid' gid') a b bare_x bare_y = let e : kind.File ≡ kind.Directory = sym a.0 ∙ b.0 in absurd cc
one_node file (Directory uid gid) (File uid' gid' size' logged' pages') a b bare_x bare_y = let e : kind.Directory ≡ kind.File = sym a.0 ∙ b.0 in absurd cc

module _ (files : Bitfiles) where
  abbrev IsOne : Fileset → Type 0
  IsOne tree = IsOriginal files (slot_of tree) × IsBare tree

  there : (a b : Fileset) → IsOne a → IsOne b → (n : ℕ) (x : Node) → map.get a.nodes n ≡ Some x → map.get b.nodes n ≡ Some x
  there a b is_a is_b n x at = by_led (led_to files named.0) refl (sym (path_at files (slot_of a) is_a.0.names refl named.0) ∙ named.1)
    where
      named : (path : Path) × (map.get a.paths path ≡ Some n)
      named = is_a.0.valid.named n x at

      by_led : (o : Option (Tag × Kind)) → led_to files named.0 ≡ o → option_map (λ (led : Tag × Kind). number_of led.0) o ≡ Some n → map.get b.nodes n ≡ Some x
      by_led None led same = absurd cc
      by_led (Some led) at_led same =
          let number : number_of led.0 ≡ n = ap (λ o. option_map_or (λ k. k) o 0) same in
          let in_a = is_in files (slot_of a) is_a.0.names refl named.0 led.0 led.1 at_led in
          let in_b = is_in files (slot_of b) is_b.0.names refl named.0 led.0 led.1 at_led in
          let file : in_b.file ≡ in_a.file = ap (λ (o : Option Bitfile). option_map_or (λ (f : Bitfile). f) o in_a.file) (sym in_b.there ∙ in_a.there) in
          let of_a : IsNodeOf in_a.file x = subst (λ o. IsSomeAnd o (IsNodeOf in_a.file)) (ap (map.get a.nodes) number ∙ at) in_a.node in
          let found = from_some_and (IsNodeOf in_b.file) (map.get b.nodes (number_of led.0)) in_b.node in
          let at_b : map.get b.nodes n ≡ Some found.0 = ap (map.get b.nodes) (sym number) ∙ found.1 in
          at_b ∙ ap (λ (y : Node). Some y) (sym (one_node in_a.file x found.0 of_a (subst (λ (f : Bitfile). IsNodeOf f found.0) file found.2) (is_a.1.nodes n x at) (is_b.1.nodes n found.0 at_b)))

  same_node : (a b : Fileset) → IsOne a → IsOne b → (n : ℕ) → map.get a.nodes n ≡ map.get b.nodes n
  same_node a b is_a is_b n = by_nodes (map.get a.nodes n) (map.get b.nodes n) refl refl
    where
      by_nodes : (o p : Option Node) → map.get a.nodes n ≡ o → map.get b.nodes n ≡ p → o ≡ p
      by_nodes None None at_a at_b = refl
      by_nodes (Some x) p at_a at_b = sym (there a b is_a is_b n x at_a) ∙ at_b
      by_nodes None (Some y) at_a at_b = sym at_a ∙ there b a is_b is_a n y at_b

  one_tree : (a b : Fileset) → IsOne a → IsOne b → a ≡ b
  one_tree a b is_a is_b = λ i. record { paths = paths i; nodes = nodes i; limits = (is_a.1.limits ∙ sym is_b.1.limits) i }
    where
      paths : a.paths ≡ b.paths
      paths = map.same_map path_cmp-total path_cmp-IsAntisymmetric a.paths b.paths (λ p. path_at files (slot_of a) is_a.0.names refl p ∙ sym (path_at files (slot_of b) is_b.0.names refl p))

      nodes : a.nodes ≡ b.nodes
      nodes = map.same_map nat_cmp_total map.nat_cmp-IsAntisymmetric a.nodes b.nodes (same_node a b is_a is_b)

  pub at_hand : IsStable (HasOriginal files)
  at_hand t =
      let found : (tree : Fileset) × IsOne tree = determined IsOne (λ a b. Coded-set fileset_code a b) one_tree (λ tree. both (original files tree) (bare_too tree))
      (∥∥₁_map t (λ x. (bare x.0.tree, (subst (λ (r : Role). IsOriginal files (record { tree = bare x.0.tree; role = r })) x.1.role (bare_original files x.0 x.1), is_bare x.0.tree))))
      in
      (slot_of found.0, found.1.0)
