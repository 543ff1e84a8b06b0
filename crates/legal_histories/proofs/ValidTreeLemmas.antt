-- What is so of each fileset stays so under a change of its tree.
use Rattle.std.proofs.Common.{◌≡◌, ◌≢◌, ◌⊎◌, ℕ, ◌<◌, ◌≤◌, ◌==◌, count_by, Bool, true, false, cond, if◌then◌else◌, is_some, [], ◌∷◌, ◌++◌, IsTrue, IsSome, IsSomeAnd, Option, Some, None, refl, sym, ap, subst, ◌∙◌, inl, inr, true≢false, append_assoc, append-nil, arith}
use Rattle.std.proofs.lemmas.Option.{none-some}
use Rattle.std.specs.Option.{option_map_or, option_and_then}
use Rattle.std.specs.Ordering.{eq_by_cmp, is_eq}
use Rattle.std.specs.declared.cmp.Ordering.{Ordering}
use Rattle.std.specs.Cmp.{Equal-is, IsTotalOrder, nat_cmp_total, tied_itself}
use Rattle.std.specs.FinMap as map
use Rattle.fileset_model.specs.fileset_values.Orders.{Name, Path, owner_cmp, owner_cmp-total, path_cmp, path_cmp-total, path_cmp-IsAntisymmetric}
use Rattle.fileset_model.specs.Fileset.{Fileset}
use Rattle.fileset_model.specs.domain_base.Limits.{max_links}
use Rattle.fileset_model.specs.Paths.{is_directory, node_at, paths_to}
use Rattle.legal_histories.specs.Valid.{HasWholePages, IsDirectoryAt, IsValidFileset}
use Rattle.fileset_model.specs.Usage.{is_unlimited, with_limits}
use Rattle.fileset_model.specs.Apply.{empty_fileset, is_named_elsewhere, linked, with_change, with_node, without}
use Rattle.fileset_model.specs.fileset_values.declared.command.Owner.{Owner}
use Rattle.fileset_model.specs.declared.fileset.Limits.{Limits}
use Rattle.fileset_model.specs.declared.node.Node.{Node}
use Rattle.fileset_model.specs.declared.node.Node.TheVariants.{Directory}
use Rattle.fileset_model.proofs.OfFilesetValues.MapLemmas.{got-insert, got-remove, get-insert_same, get-insert_other, get-remove_other}
use Rattle.fileset_model.proofs.OwnerLemmas.{owner_cmp-IsAntisymmetric}
use Rattle.fileset_model.proofs.ChangeLemmas.{left_without}
use Rattle.legal_histories.proofs.ValidLemmas.{some_inj}
use Rattle.legal_histories.proofs.ValidCountLemmas.{another_path, count-insert, count-remove, named_by, no_paths, one_more_path}

-- two paths are the same or not
path_differs : (p q : Path) → (p ≡ q) ⊎ (p ≢ q)
path_differs p q = elim (eq_by_cmp path_cmp p q) as (λ b. eq_by_cmp path_cmp p q ≡ b → (p ≡ q) ⊎ (p ≢ q)) [
  | true ↦ λ t. inl (path_cmp-IsAntisymmetric p q ((Equal-is (path_cmp p q)).0 t))
  | false ↦ λ t. inr (λ e. true≢false (sym (ap (eq_by_cmp path_cmp p) (sym e) ∙ ap is_eq (tied_itself path_cmp-total p)) ∙ t))
] refl

-- ---- a directory at a path, with its number

pub record DirectoryOf (tree : Fileset) (path : Path) : Type 0 where
  pub number : ℕ
  pub node : Node
  pub leads : map.get tree.paths path ≡ Some number
  pub is : map.get tree.nodes number ≡ Some node
  pub directory : IsTrue (is_directory node)

pub directory_of : (tree : Fileset) (path : Path) → IsDirectoryAt tree path → DirectoryOf tree path
directory_of tree path h =
    elim (map.get tree.paths path) as (λ o. map.get tree.paths path ≡ o → IsSomeAnd (option_and_then (map.get tree.nodes) o) (λ node. IsTrue (is_directory node)) → DirectoryOf tree path) [
      | None ↦ λ leads there. absurd there
      | Some number ↦ λ leads there.
          elim (map.get tree.nodes number) as (λ o. map.get tree.nodes number ≡ o → IsSomeAnd o (λ node. IsTrue (is_directory node)) → DirectoryOf tree path) [
            | None ↦ λ is directory. absurd directory
            | Some node ↦ λ is directory. record { number = number; node = node; leads = leads; is = is; directory = directory }
          ] refl there
    ] refl h

pub at_directory : (tree : Fileset) (path : Path) → DirectoryOf tree path → IsDirectoryAt tree path
at_directory tree path d =
    let at : node_at tree path ≡ Some d.node = ap (option_and_then (map.get tree.nodes)) d.leads ∙ d.is in
    subst (λ o. IsSomeAnd o (λ node. IsTrue (is_directory node))) (sym at) d.directory

pub some≢none : {X : Type 0} (x : X) → Some x ≢ None
some≢none x e = none-some x (sym e)

-- what has a value at one key and none at another has other keys there
apart : {K X : Type 0} {R : K → K → Ordering} (m : map.FinMap R X) (p q : K) (x : X) → map.get m p ≡ Some x → map.get m q ≡ None → p ≢ q
apart m p q x is none e = some≢none x (sym is ∙ ap (map.get m) e ∙ none)

-- ---- a new file or directory, below a directory that is there

module _ (tree : Fileset) (path : Path) (number : ℕ) (node : Node) (v : IsValidFileset tree) (new_path : map.get tree.paths path ≡ None) (new_number : map.get tree.nodes number ≡ None) where
  leads_on : (q : Path) (k : ℕ) → map.get tree.paths q ≡ Some k → map.get (map.insert tree.paths path number) q ≡ Some k
  leads_on q k is = get-insert_other path_cmp-total path_cmp-IsAntisymmetric tree.paths path number q (apart tree.paths q path k is new_path) ∙ is

  is_on : (k : ℕ) (n : Node) → map.get tree.nodes k ≡ Some n → map.get (map.insert tree.nodes number node) k ≡ Some n
  is_on k n is = get-insert_other nat_cmp_total map.nat_cmp-IsAntisymmetric tree.nodes number node k (apart tree.nodes k number n is new_number) ∙ is

  directory_on : (q : Path) → IsDirectoryAt tree q → IsDirectoryAt (with_node path number node tree) q
  directory_on q h =
      let d = directory_of tree q h in
      at_directory (with_node path number node tree) q (record { number = d.number; node = d.node; leads = leads_on q d.number d.leads; is = is_on d.number d.node d.is; directory = d.directory })

  -- no path led to the new number
  unled : (q : Path) → map.get tree.paths q ≢ Some number
  unled q is = true≢false (sym (v.led_to q number is) ∙ ap is_some new_number)

  -- a directory of the new tree was one, but for the new path
  directory_off : (q : Path) → q ≢ path → IsDirectoryAt (with_node path number node tree) q → IsDirectoryAt tree q
  directory_off q other h =
      let d = directory_of (with_node path number node tree) q h in
      let leads : map.get tree.paths q ≡ Some d.number = sym (get-insert_other path_cmp-total path_cmp-IsAntisymmetric tree.paths path number q other) ∙ d.leads in
      elim (got-insert nat_cmp_total map.nat_cmp-IsAntisymmetric tree.nodes number node d.number _ d.is) as (λ _. IsDirectoryAt tree q) [
        | inl here ↦ absurd (unled q (leads ∙ ap Some here.0))
        | inr there ↦ at_directory tree q (record { number = d.number; node = d.node; leads = leads; is = there.1; directory = d.directory })
      ]

  pub with_node-valid : HasWholePages node → ((front : Path) (name : Name) → front ++ name ∷ [] ≡ path → IsDirectoryAt tree front) → IsValidFileset (with_node path number node tree)
  with_node-valid pages way =
      let o = path_cmp-total in
      let a = path_cmp-IsAntisymmetric in
      record {
        root = directory_on [] v.root;
        parents = λ q name there. elim (got-insert o a tree.paths path number (q ++ name ∷ []) _ refl) as (λ _. IsDirectoryAt (with_node path number node tree) q) [
          | inl here ↦ directory_on q (way q name here.0)
          | inr other ↦ directory_on q (v.parents q name (ap is_some other.1 ∙ there))
        ];
        one_path = λ p q k dir at_p at_q. elim (got-insert o a tree.paths path number p _ at_p) as (λ _. p ≡ q) [
          | inl here ↦ elim (got-insert o a tree.paths path number q _ at_q) as (λ _. p ≡ q) [
            | inl also ↦ here.0 ∙ sym also.0
            | inr other ↦ absurd (unled q (other.1 ∙ here.1))
          ]
          | inr there ↦ elim (got-insert o a tree.paths path number q _ at_q) as (λ _. p ≡ q) [
            | inl here ↦ absurd (unled p (there.1 ∙ here.1))
            | inr other ↦ v.one_path p q k (directory_off p there.0 dir) there.1 other.1
          ]
        ];
        few_paths = λ k. one_more_path tree.paths path number k (v.few_paths k) (no_paths tree.paths number unled);
        led_to = λ q k at_q. elim (got-insert o a tree.paths path number q _ at_q) as (λ _. IsSome (map.get (map.insert tree.nodes number node) k)) [
          | inl here ↦ ap is_some (ap (map.get (map.insert tree.nodes number node)) (some_inj here.1) ∙ get-insert_same nat_cmp_total map.nat_cmp-IsAntisymmetric tree.nodes number node)
          | inr other ↦ let found = v.led_to q k other.1 in
              elim (map.get tree.nodes k) as (λ n. map.get tree.nodes k ≡ n → IsSome n → IsSome (map.get (map.insert tree.nodes number node) k)) [
                | None ↦ λ is none. absurd (true≢false (sym none))
                | Some n ↦ λ is some. ap is_some (is_on k n is)
              ] refl found
        ];
        named = λ k n is. elim (got-insert nat_cmp_total map.nat_cmp-IsAntisymmetric tree.nodes number node k _ is) as (λ _. (q : Path) × (map.get (map.insert tree.paths path number) q ≡ Some k)) [
          | inl here ↦ (path, get-insert_same o a tree.paths path number ∙ ap Some (sym here.0))
          | inr other ↦ let was = v.named k n other.1 in (was.0, leads_on was.0 k was.1)
        ];
        whole = λ k n is. elim (got-insert nat_cmp_total map.nat_cmp-IsAntisymmetric tree.nodes number node k _ is) as (λ _. HasWholePages n) [
          | inl here ↦ subst HasWholePages (sym (some_inj here.1)) pages
          | inr other ↦ v.whole k n other.1
        ];
        limited = v.limited;
      }

-- ---- another file or directory in the place of one of its kind

module _ (tree : Fileset) (number : ℕ) (node changed : Node) (v : IsValidFileset tree) (is : map.get tree.nodes number ≡ Some node) (kind : is_directory changed ≡ is_directory node) (pages : HasWholePages changed) where
  directory_stays : (q : Path) → IsDirectoryAt tree q → IsDirectoryAt (record tree { nodes = map.insert tree.nodes number changed }) q
  directory_stays q h =
      let d = directory_of tree q h in
      let new : Fileset = record tree { nodes = map.insert tree.nodes number changed } in
      elim (got-insert nat_cmp_total map.nat_cmp-IsAntisymmetric tree.nodes number changed d.number _ refl) as (λ _. IsDirectoryAt new q) [
        | inl here ↦ at_directory new q (record {
          number = d.number;
          node = changed;
          leads = d.leads;
          is = here.1;
          directory = kind ∙ ap is_directory (some_inj (sym is ∙ ap (map.get tree.nodes) (sym here.0) ∙ d.is)) ∙ d.directory;
        })
        | inr other ↦ at_directory new q (record { number = d.number; node = d.node; leads = d.leads; is = sym other.1 ∙ d.is; directory = d.directory })
      ]

  directory_was : (q : Path) → IsDirectoryAt (record tree { nodes = map.insert tree.nodes number changed }) q → IsDirectoryAt tree q
  directory_was q h =
      let d = directory_of (record tree { nodes = map.insert tree.nodes number changed }) q h in
      elim (got-insert nat_cmp_total map.nat_cmp-IsAntisymmetric tree.nodes number changed d.number _ d.is) as (λ _. IsDirectoryAt tree q) [
        | inl here ↦ at_directory tree q (record {
          number = number;
          node = node;
          leads = d.leads ∙ ap Some here.0;
          is = is;
          directory = sym kind ∙ ap is_directory (sym (some_inj here.1)) ∙ d.directory;
        })
        | inr other ↦ at_directory tree q (record { number = d.number; node = d.node; leads = d.leads; is = other.1; directory = d.directory })
      ]

  changed-valid : IsValidFileset (record tree { nodes = map.insert tree.nodes number changed })
  changed-valid = record {
    root = directory_stays [] v.root;
    parents = λ q name there. directory_stays q (v.parents q name there);
    one_path = λ p q k dir. v.one_path p q k (directory_was p dir);
    few_paths = v.few_paths;
    led_to = λ q k leads. elim (got-insert nat_cmp_total map.nat_cmp-IsAntisymmetric tree.nodes number changed k _ refl) as (λ _. IsSome (map.get (map.insert tree.nodes number changed) k)) [
      | inl here ↦ ap is_some here.1
      | inr other ↦ ap is_some (sym other.1) ∙ v.led_to q k leads
    ];
    named = λ k n at. elim (got-insert nat_cmp_total map.nat_cmp-IsAntisymmetric tree.nodes number changed k _ at) as (λ _. (q : Path) × (map.get tree.paths q ≡ Some k)) [
      | inl here ↦ v.named k node (ap (map.get tree.nodes) here.0 ∙ is)
      | inr other ↦ v.named k n other.1
    ];
    whole = λ k n at. elim (got-insert nat_cmp_total map.nat_cmp-IsAntisymmetric tree.nodes number changed k _ at) as (λ _. HasWholePages n) [
      | inl here ↦ subst HasWholePages (sym (some_inj here.1)) pages
      | inr other ↦ v.whole k n other.1
    ];
    limited = v.limited;
  }

pub with_change-valid : (tree : Fileset) (path : Path) (change : Node → Node) → IsValidFileset tree → ((node : Node) → is_directory (change node) ≡ is_directory node)
    → ((node : Node) → HasWholePages node → HasWholePages (change node)) → IsValidFileset (with_change path change tree)
with_change-valid tree path change v kind pages =
    elim (map.get tree.paths path) as (λ found. IsValidFileset
    (option_map_or (λ number. option_map_or (λ node. record tree { nodes = map.insert tree.nodes number (change node) }) (map.get tree.nodes number) tree) found tree)) [
      | None ↦ v
      | Some number ↦ elim (map.get tree.nodes number) as (λ found. map.get tree.nodes number ≡ found → IsValidFileset
          (option_map_or (λ node. record tree { nodes = map.insert tree.nodes number (change node) }) found tree)) [
            | None ↦ λ is. v
            | Some node ↦ λ is. changed-valid tree number node (change node) v is (kind node) (pages node (v.whole number node is))
          ] refl
    ]

-- ---- without a path that is not the root and has none below it

pub some_of : {X : Type 0} (o : Option X) → IsSome o → (x : X) × (o ≡ Some x)
some_of None h = absurd (true≢false (sym h))
some_of (Some x) h = (x, refl)

module _ (tree : Fileset) (path : Path) (number : ℕ) (v : IsValidFileset tree) (leads : map.get tree.paths path ≡ Some number) (stays : Bool) (is : is_named_elsewhere tree path number ≡ stays) where
  abbrev left : Fileset
  left = left_without tree path number stays

  -- what another path leads to is left
  node_left : (q : Path) (k : ℕ) → map.get tree.paths q ≡ Some k → q ≢ path → map.get left.nodes k ≡ map.get tree.nodes k
  node_left q k at_q apart =
      elim stays as (λ b. is_named_elsewhere tree path number ≡ b → map.get (if b then tree.nodes else map.remove tree.nodes number) k ≡ map.get tree.nodes k) [
        | true ↦ λ named. refl
        | false ↦ λ none. get-remove_other nat_cmp_total map.nat_cmp-IsAntisymmetric tree.nodes number k
            (λ same. true≢false (sym (another_path tree path number q (at_q ∙ ap Some same) apart) ∙ none))
      ] is

  -- what is left was there, and another path leads to it
  was_node : (k : ℕ) (n : Node) → map.get left.nodes k ≡ Some n → (map.get tree.nodes k ≡ Some n) × ((q : Path) × (q ≢ path) × (map.get tree.paths q ≡ Some k))
  was_node k n at_k =
      elim stays as (λ b. is_named_elsewhere tree path number ≡ b → map.get (if b then tree.nodes else map.remove tree.nodes number) k ≡ Some n
      → (map.get tree.nodes k ≡ Some n) × ((q : Path) × (q ≢ path) × (map.get tree.paths q ≡ Some k))) [
        | true ↦ λ named there.
            let at = v.named k n there in
            let other = named_by tree path number named in (
              there,
              elim (path_differs at.0 path) as (λ _. (q : Path) × (q ≢ path) × (map.get tree.paths q ≡ Some k)) [
                | inl same ↦ (other.0, other.1, other.2 ∙ ap Some (some_inj (sym leads ∙ ap (map.get tree.paths) (sym same) ∙ at.1)))
                | inr apart ↦ (at.0, apart, at.1)
              ],
            )
        | false ↦ λ none there.
            let before = got-remove nat_cmp_total map.nat_cmp-IsAntisymmetric tree.nodes number k n there in
            let at = v.named k n before.1 in
            (before.1, (at.0, λ e. before.0 (some_inj (sym at.1 ∙ ap (map.get tree.paths) e ∙ leads)), at.1))
      ] is at_k

  directory_left : (q : Path) → q ≢ path → IsDirectoryAt tree q → IsDirectoryAt left q
  directory_left q apart h =
      let d = directory_of tree q h in
      at_directory left q (record {
        number = d.number;
        node = d.node;
        leads = get-remove_other path_cmp-total path_cmp-IsAntisymmetric tree.paths path q apart ∙ d.leads;
        is = node_left q d.number d.leads apart ∙ d.is;
        directory = d.directory;
      })

  was : (q : Path) (k : ℕ) → map.get left.paths q ≡ Some k → (q ≢ path) × (map.get tree.paths q ≡ Some k)
  was q k at_q = got-remove path_cmp-total path_cmp-IsAntisymmetric tree.paths path q k at_q

  directory_before : (q : Path) → IsDirectoryAt left q → IsDirectoryAt tree q
  directory_before q h =
      let d = directory_of left q h in
      at_directory tree q (record { number = d.number; node = d.node; leads = (was q d.number d.leads).1; is = (was_node d.number d.node d.is).0; directory = d.directory })

  left-valid : path ≢ [] → ((name : Name) → map.get tree.paths (path ++ name ∷ []) ≡ None) → IsValidFileset left
  left-valid no_root alone = record {
    root = directory_left [] (λ e. no_root (sym e)) v.root;
    parents = λ q name there.
        let found = some_of _ there in
        let before = (was (q ++ name ∷ []) found.0 found.1).1 in
        directory_left q (λ e. some≢none found.0 (sym before ∙ ap (λ p. map.get tree.paths (p ++ name ∷ [])) e ∙ alone name)) (v.parents q name (ap is_some before));
    one_path = λ p q k dir at_p at_q. v.one_path p q k (directory_before p dir) (was p k at_p).1 (was q k at_q).1;
    few_paths = λ k. count-remove tree.paths path k max_links (v.few_paths k);
    led_to = λ q k at_q. let before = was q k at_q in ap is_some (node_left q k before.1 before.0) ∙ v.led_to q k before.1;
    named = λ k n at_k.
        let other = (was_node k n at_k).1 in
        (other.0, get-remove_other path_cmp-total path_cmp-IsAntisymmetric tree.paths path other.0 other.1 ∙ other.2);
    whole = λ k n at_k. v.whole k n (was_node k n at_k).0;
    limited = v.limited;
  }

pub without-valid : (tree : Fileset) (path : Path) → IsValidFileset tree → path ≢ [] → ((name : Name) → map.get tree.paths (path ++ name ∷ []) ≡ None) → IsValidFileset (without path tree)
without-valid tree path v no_root alone =
    elim (map.get tree.paths path) as (λ found. map.get tree.paths path ≡ found → IsValidFileset
    (option_map_or (λ number. left_without tree path number (is_named_elsewhere tree path number)) found tree)) [
      | None ↦ λ is. v
      | Some number ↦ λ is. left-valid tree path number v is (is_named_elsewhere tree path number) refl no_root alone
    ] refl

pub without-absent : (tree : Fileset) (path : Path) → map.get (without path tree).paths path ≡ None
without-absent tree path =
    elim (map.get tree.paths path) as (λ found. map.get tree.paths path ≡ found → map.get
    (option_map_or (λ number. left_without tree path number (is_named_elsewhere tree path number)) found tree).paths path ≡ None) [
      | None ↦ λ is. is
      | Some number ↦ λ is. map.get-remove path_cmp-total tree.paths path path ∙ ap (λ r. cond (is_eq r) None (map.get tree.paths path)) (tied_itself path_cmp-total path)
    ] refl

pub without-directory : (tree : Fileset) (path q : Path) → IsValidFileset tree → q ≢ path → IsDirectoryAt tree q → IsDirectoryAt (without path tree) q
without-directory tree path q v apart h =
    elim (map.get tree.paths path) as (λ found. map.get tree.paths path ≡ found → IsDirectoryAt
    (option_map_or (λ number. left_without tree path number (is_named_elsewhere tree path number)) found tree) q) [
      | None ↦ λ is. h
      | Some number ↦ λ is. directory_left tree path number v is (is_named_elsewhere tree path number) refl q apart h
    ] refl

-- ---- one more path of a file

module _ (tree : Fileset) (to : Path) (number : ℕ) (node : Node) (v : IsValidFileset tree) (free : map.get tree.paths to ≡ None) (is : map.get tree.nodes number ≡ Some node)
    (file : is_directory node ≡ false) (few : paths_to tree number < max_links) (way : (front : Path) (name : Name) → front ++ name ∷ [] ≡ to → IsDirectoryAt tree front) where
  abbrev with_link : Fileset
  with_link = record tree { paths = map.insert tree.paths to number }

  still : (q : Path) (k : ℕ) → map.get tree.paths q ≡ Some k → map.get with_link.paths q ≡ Some k
  still q k at_q = get-insert_other path_cmp-total path_cmp-IsAntisymmetric tree.paths to number q (apart tree.paths q to k at_q free) ∙ at_q

  still_directory : (q : Path) → IsDirectoryAt tree q → IsDirectoryAt with_link q
  still_directory q h =
      let d = directory_of tree q h in
      at_directory with_link q (record { number = d.number; node = d.node; leads = still q d.number d.leads; is = d.is; directory = d.directory })

  -- no directory has the file's number
  no_directory : (q : Path) (k : ℕ) → IsDirectoryAt with_link q → map.get with_link.paths q ≡ Some k → k ≢ number
  no_directory q k h at_q same =
      let d = directory_of with_link q h in
      let here : d.number ≡ number = some_inj (sym d.leads ∙ at_q) ∙ same in
      true≢false (sym d.directory ∙ ap is_directory (some_inj (sym d.is ∙ ap (map.get tree.nodes) here ∙ is)) ∙ file)

  with_link-valid : IsValidFileset with_link
  with_link-valid =
      let o = path_cmp-total in
      let a = path_cmp-IsAntisymmetric in
      record {
        root = still_directory [] v.root;
        parents = λ q name there. elim (got-insert o a tree.paths to number (q ++ name ∷ []) _ refl) as (λ _. IsDirectoryAt with_link q) [
          | inl here ↦ still_directory q (way q name here.0)
          | inr other ↦ still_directory q (v.parents q name (ap is_some other.1 ∙ there))
        ];
        one_path = λ p q k dir at_p at_q. elim (got-insert o a tree.paths to number p _ at_p) as (λ _. p ≡ q) [
          | inl here ↦ absurd (no_directory p k dir at_p (some_inj here.1))
          | inr there ↦ elim (got-insert o a tree.paths to number q _ at_q) as (λ _. p ≡ q) [
            | inl here ↦ absurd (no_directory p k dir at_p (some_inj here.1))
            | inr other ↦
                let d = directory_of with_link p dir in
                let leads : map.get tree.paths p ≡ Some d.number = there.1 ∙ sym at_p ∙ d.leads in
                v.one_path p q k (at_directory tree p (record { number = d.number; node = d.node; leads = leads; is = d.is; directory = d.directory })) there.1 other.1
          ]
        ];
        few_paths = λ k. count-insert tree.paths to number k max_links (v.few_paths k) few;
        led_to = λ q k at_q. elim (got-insert o a tree.paths to number q _ at_q) as (λ _. IsSome (map.get tree.nodes k)) [
          | inl here ↦ ap is_some (ap (map.get tree.nodes) (some_inj here.1) ∙ is)
          | inr other ↦ v.led_to q k other.1
        ];
        named = λ k n at_k. let was = v.named k n at_k in (was.0, still was.0 k was.1);
        whole = v.whole;
        limited = v.limited;
      }

pub linked-valid : (tree : Fileset) (path to : Path) → IsValidFileset tree → option_map_or is_directory (node_at tree path) false ≡ false → map.get tree.paths to ≡ None
    → ((number : ℕ) → map.get tree.paths path ≡ Some number → paths_to tree number < max_links)
    → ((front : Path) (name : Name) → front ++ name ∷ [] ≡ to → IsDirectoryAt tree front) → IsValidFileset (linked path to tree)
linked-valid tree path to v file free few way =
    elim (map.get tree.paths path) as (λ found. map.get tree.paths path ≡ found → option_map_or is_directory (option_and_then (map.get tree.nodes) found) false ≡ false
    → IsValidFileset (option_map_or (λ number. record tree { paths = map.insert tree.paths to number }) found tree)) [
      | None ↦ λ leads none. v
      | Some number ↦ λ leads kind.
          let there = some_of (map.get tree.nodes number) (v.led_to path number leads) in
          with_link-valid tree to number there.0 v free there.1 (sym (ap (λ o. option_map_or is_directory o false) there.1) ∙ kind) (few number leads) way
    ] refl file

-- nothing stands below a path where nothing stands
pub nothing_below : (tree : Fileset) (path rest : Path) → IsValidFileset tree → map.get tree.paths path ≡ None → map.get tree.paths (path ++ rest) ≡ None
nothing_below tree path [] v none = ap (map.get tree.paths) (append-nil path) ∙ none
nothing_below tree path (name ∷ rest) v none =
    let next : map.get tree.paths (path ++ name ∷ []) ≡ None = elim (map.get tree.paths (path ++ name ∷ [])) as (λ o. map.get tree.paths (path ++ name ∷ []) ≡ o → o ≡ None) [
      | None ↦ λ is. refl
      | Some number ↦ λ is. let d = directory_of tree path (v.parents path name (ap is_some is)) in absurd (some≢none d.number (sym d.leads ∙ none))
    ] refl in
    ap (map.get tree.paths) (sym (append_assoc path (name ∷ []) rest)) ∙ nothing_below tree (path ++ name ∷ []) rest v next

-- ---- other limits, and an empty fileset

limits_valid : (tree : Fileset) (limits : map.FinMap owner_cmp Limits) → IsValidFileset tree
    → ((who : Owner) (l : Limits) → map.get limits who ≡ Some l → is_unlimited l ≡ false) → IsValidFileset (record tree { limits = limits })
limits_valid tree limits v limited =
    record { root = v.root; parents = v.parents; one_path = v.one_path; few_paths = v.few_paths; led_to = v.led_to; named = v.named; whole = v.whole; limited = limited }

pub without_limits-valid : (tree : Fileset) → IsValidFileset tree → IsValidFileset (record tree { limits = map.empty })
without_limits-valid tree v = limits_valid tree map.empty v (λ who l at. absurd (some≢none l (sym at ∙ map.get-empty _ who)))

pub with_limits-valid : (tree : Fileset) (who : Owner) (limits : Limits) → IsValidFileset tree → IsValidFileset (record tree { limits = with_limits tree.limits who limits })
with_limits-valid tree who limits v =
    elim (is_unlimited limits) as (λ b. is_unlimited limits ≡ b → IsValidFileset (record tree { limits = if b then map.remove tree.limits who else map.insert tree.limits who limits })) [
      | true ↦ λ is. limits_valid tree (map.remove tree.limits who) v (λ other l at. v.limited other l (got-remove owner_cmp-total owner_cmp-IsAntisymmetric tree.limits who other l at).1)
      | false ↦ λ is. limits_valid tree (map.insert tree.limits who limits) v (λ other l at.
          elim (got-insert owner_cmp-total owner_cmp-IsAntisymmetric tree.limits who limits other _ at) as (λ _. is_unlimited l ≡ false) [
            | inl here ↦ ap is_unlimited (some_inj here.1) ∙ is
            | inr old ↦ v.limited other l old.1
          ])
    ] refl

-- the only entry of a map that has one
only : {K X : Type 0} {R : K → K → Ordering} → IsTotalOrder R → map.IsAntisymmetric R → (k q : K) (v w : X) → map.get (map.insert (map.empty {X = X} {R = R}) k v) q ≡ Some w → (q ≡ k) × (w ≡ v)
only {R = R} o a k q v w is =
    elim (got-insert o a map.empty k v q _ is) as (λ _. (q ≡ k) × (w ≡ v)) [
      | inl here ↦ (here.0, some_inj here.1)
      | inr other ↦ absurd (some≢none w (sym other.1 ∙ map.get-empty R q))
    ]

pub no_child : (q : Path) (name : Name) → q ++ name ∷ [] ≢ []
no_child [] name e = absurd (cc)
no_child (first ∷ q) name e = absurd (cc)

no_paths-few : (k : ℕ) → count_by (λ (e : Path × ℕ). e.1 == k) (map.entries (map.empty {X = ℕ} {R = path_cmp})) ≤ max_links
no_paths-few k = subst (λ n. n ≤ 1000) (sym (no_paths map.empty k (λ q h. some≢none k (sym h ∙ map.get-empty _ q)))) (omega arith)

pub empty_fileset-valid : (root : ℕ) → IsValidFileset (empty_fileset root)
empty_fileset-valid root =
    let tree = empty_fileset root in
    let o = path_cmp-total in
    let a = path_cmp-IsAntisymmetric in
    let node : Node = Directory 0 0 in
    let at_root : map.get tree.nodes root ≡ Some node = get-insert_same nat_cmp_total map.nat_cmp-IsAntisymmetric map.empty root node in
    record {
      root = at_directory tree [] (record { number = root; node = node; leads = get-insert_same o a map.empty [] root; is = at_root; directory = refl });
      parents = λ q name there. let found = some_of _ there in absurd (no_child q name (only o a [] (q ++ name ∷ []) root found.0 found.1).0);
      one_path = λ p q k dir at_p at_q. (only o a [] p root k at_p).0 ∙ sym (only o a [] q root k at_q).0;
      few_paths = λ k. one_more_path map.empty [] root k (no_paths-few k) (no_paths map.empty root (λ q h. some≢none root (sym h ∙ map.get-empty _ q)));
      led_to = λ q k at_q. ap is_some (ap (map.get tree.nodes) (only o a [] q root k at_q).1 ∙ at_root);
      named = λ k n at_k. let here = only nat_cmp_total map.nat_cmp-IsAntisymmetric root k node n at_k in ([], get-insert_same o a map.empty [] root ∙ ap Some (sym here.0));
      whole = λ k n at_k. subst HasWholePages (sym (only nat_cmp_total map.nat_cmp-IsAntisymmetric root k node n at_k).1) tt;
      limited = λ who limits at. absurd (some≢none limits (sym at ∙ map.get-empty _ who));
    }
