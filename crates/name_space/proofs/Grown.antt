-- A tree to which all paths are added, one by one.
use Rattle.std.proofs.Common.{◌≡◌, ◌≢◌, ◌∙◌, ◌⊎◌, inl, inr, ⊎_elim, ℕ, ◌+◌, ◌<◌, ◌≤◌, List, [], ◌∷◌, length, Option, Some, None, slice_get, refl, sym, ap, subst, arith}
use Rattle.std.proofs.lemmas.Bool.{cases_lt}
use Rattle.std.proofs.lemmas.Option.{slice_get_within}
use Rattle.std.specs.FinMap as map
use Rattle.std.specs.Cmp.{nat_cmp_total}
use Rattle.std.specs.Ordering.{nat_cmp}
use Rattle.plain_program.specs.domain_base.declared.place.Kind.{Kind}
use Rattle.plain_program.specs.domain_base.declared.place.Kind.TheVariants.{Directory}
use Rattle.plain_program.specs.domain_base.declared.place.Tag.{Tag}
use Rattle.directory_rows.specs.page_store.Bitfiles.{Bitfiles}
use Rattle.plain_program.proofs.OfLegalHistories.ValidLemmas.{some_inj}
use Rattle.plain_program.proofs.OfFilesetValues.MapLemmas.{get-insert_other, get-insert_same, got-insert}
use Rattle.plain_program.specs.fileset_model.Apply.{empty_fileset, with_node}
use Rattle.plain_program.specs.fileset_model.Fileset.{Fileset}
use Rattle.plain_program.specs.fileset_values.Orders.{Path, path_cmp, path_cmp-total, path_cmp-IsAntisymmetric}
use Rattle.plain_program.specs.fileset_model.declared.node.Node.{Node}
use Rattle.plain_program.specs.fileset_model.declared.node.Node.TheVariants.{Directory as DirectoryNode}
use Rattle.name_space.specs.Names.{led_to, number_of, root_tag}
use Rattle.directory_rows.specs.declared.led.Led.{Led}
use Rattle.name_space.specs.Parts.{node_for}
use Rattle.name_space.specs.Trees.{AreAllOf, IsReached, IsTreeOf}
use Rattle.name_space.specs.declared.parts.TaggedNode.{TaggedNode}
use Rattle.name_space.proofs.Counted.{led_in, led_out}
use Rattle.name_space.proofs.OneWay.{one_kind, one_number}

-- what a path leads to has that number
abbrev pub IsLedTo : Bitfiles → Path → ℕ → Type 0
IsLedTo files path number = (tag : Tag) × (of : Kind) × (number ≡ number_of tag) × (led_to files path ≡ Some (tag, of))

abbrev pub IsNamed : Bitfiles → ℕ → Type 0
IsNamed files number = (tag : Tag) × (of : Kind) × (number ≡ number_of tag) × IsReached files tag of

-- the paths before a place are in the tree, and no other
pub record IsGrown (files : Bitfiles) (nodes : List TaggedNode) (led : List Led) (count : ℕ) (tree : Fileset) : Type 0 where
  pub paths : (j : ℕ) (one : Led) → j < count → slice_get led j ≡ Some one → map.get tree.paths one.path ≡ Some (number_of one.tag)
  pub held : (j : ℕ) (one : Led) → j < count → slice_get led j ≡ Some one → map.get tree.nodes (number_of one.tag) ≡ Some (node_for nodes one.tag one.kind)
  pub only : (path : Path) (number : ℕ) → map.get tree.paths path ≡ Some number → IsLedTo files path number
  pub named : (number : ℕ) (node : Node) → map.get tree.nodes number ≡ Some node → IsNamed files number
  pub limits : tree.limits ≡ map.empty

none_is_some : {P X : Type 0} (x : X) → None ≡ Some x → P
none_is_some x is = absurd (cc)

-- at first it has the root
pub grown_first : (files : Bitfiles) (nodes : List TaggedNode) (led : List Led) (number : ℕ) → number ≡ number_of root_tag → IsGrown files nodes led 0 (empty_fileset number)
grown_first files nodes led number root = record {
  paths = λ j one low. absurd (omega (arith, low));
  held = λ j one low. absurd (omega (arith, low));
  only = λ path n is. elim (got-insert path_cmp-total path_cmp-IsAntisymmetric map.empty [] number path _ is) as (λ _. IsLedTo files path n) [
    | inl here ↦ (root_tag, Directory, some_inj here.1 ∙ root, ap (led_to files) here.0)
    | inr other ↦ none_is_some n (sym (map.get-empty path_cmp path) ∙ other.1)
  ];
  named = λ n node is. elim (got-insert nat_cmp_total map.nat_cmp-IsAntisymmetric map.empty number (DirectoryNode 0 0) n _ is) as (λ _. IsNamed files n) [
    | inl here ↦ (root_tag, Directory, here.0 ∙ root, ([], refl))
    | inr other ↦ none_is_some node (sym (map.get-empty nat_cmp n) ∙ other.1)
  ];
  limits = refl;
}

module _ (files : Bitfiles) (nodes : List TaggedNode) (led : List Led) (are : AreAllOf files nodes led) where
  module _ (count : ℕ) (tree : Fileset) (is : IsGrown files nodes led count tree) (one : Led) (there : slice_get led count ≡ Some one) where
    abbrev number : ℕ
    number = number_of one.tag

    abbrev node : Node
    node = node_for nodes one.tag one.kind

    abbrev more : Fileset
    more = with_node one.path number node tree

    one_led : led_to files one.path ≡ Some (one.tag, one.kind)
    one_led = led_out files nodes led are count one there

    before : {P : Type 0} (j : ℕ) (l : Led) → j < count + 1 → slice_get led j ≡ Some l → (j < count → P) → (one ≡ l → P) → P
    before j l low at early last = ⊎_elim early
        (λ high.
        let same : count ≡ j = omega (arith, low, high) in
        last (some_inj (sym there ∙ ap (slice_get led) same ∙ at)))
        (cases_lt j count)

    -- what has the number of one's tag is that node
    same_node : (l : Led) (j : ℕ) → slice_get led j ≡ Some l → number_of l.tag ≡ number → node ≡ node_for nodes l.tag l.kind
    same_node l j at same =
        let leads = led_out files nodes led are j l at in
        let tags : l.tag ≡ one.tag = one_number files are.good l.path one.path l.tag one.tag l.kind one.kind leads one_led same in
        let kinds : l.kind ≡ one.kind = one_kind files are.good l.path one.path one.tag l.kind one.kind (leads ∙ ap (λ (t : Tag). Some (t, l.kind)) tags) one_led in
        λ i. node_for nodes (sym tags i) (sym kinds i)

    paths_more : (j : ℕ) (l : Led) → j < count + 1 → slice_get led j ≡ Some l → map.get more.paths l.path ≡ Some (number_of l.tag)
    paths_more j l low at = elim (got-insert path_cmp-total path_cmp-IsAntisymmetric tree.paths one.path number l.path _ refl) as (λ _. map.get more.paths l.path ≡ Some (number_of l.tag)) [
      | inl here ↦
          let same : (one.tag, one.kind) ≡ (l.tag, l.kind) = some_inj (sym one_led ∙ ap (led_to files) (sym here.0) ∙ led_out files nodes led are j l at) in
          here.1 ∙ ap (λ (p : Tag × Kind). Some (number_of p.0)) same
      | inr other ↦
          before j l low at (λ early. sym other.1 ∙ is.paths j l early at) (λ last. absurd (other.0 (ap (λ (x : Led). x.path) (sym last))))
    ]

    held_more : (j : ℕ) (l : Led) → j < count + 1 → slice_get led j ≡ Some l → map.get more.nodes (number_of l.tag) ≡ Some (node_for nodes l.tag l.kind)
    held_more j l low at = elim (got-insert nat_cmp_total map.nat_cmp-IsAntisymmetric tree.nodes number node (number_of l.tag) _ refl) as (λ _. map.get more.nodes (number_of l.tag) ≡ Some (node_for nodes l.tag l.kind)) [
      | inl here ↦ here.1 ∙ ap Some (same_node l j at here.0)
      | inr other ↦
          before j l low at (λ early. sym other.1 ∙ is.held j l early at) (λ last. absurd (other.0 (ap (λ (x : Led). number_of x.tag) (sym last))))
    ]

    pub grown_more : IsGrown files nodes led (count + 1) more
    grown_more = record {
      paths = paths_more;
      held = held_more;
      only = λ path n leads. elim (got-insert path_cmp-total path_cmp-IsAntisymmetric tree.paths one.path number path _ leads) as (λ _. IsLedTo files path n) [
        | inl here ↦ (one.tag, one.kind, some_inj here.1, ap (led_to files) here.0 ∙ one_led)
        | inr other ↦ is.only path n other.1
      ];
      named = λ n v leads. elim (got-insert nat_cmp_total map.nat_cmp-IsAntisymmetric tree.nodes number node n _ leads) as (λ _. IsNamed files n) [
        | inl here ↦ (one.tag, one.kind, here.0, (one.path, one_led))
        | inr other ↦ is.named n v other.1
      ];
      limits = is.limits;
    }

  -- at the end it has all
  pub grown_all : (tree : Fileset) → IsGrown files nodes led (length led) tree → IsTreeOf files nodes [] 0 tree
  grown_all tree is = record {
    paths = λ path tag of leads.
        let k = led_in files nodes led are path tag of leads in
        is.paths k.0 (record { path = path; tag = tag; kind = of }) (slice_get_within led k.0 (record { path = path; tag = tag; kind = of }) k.1) k.1;
    only = λ path number leads. let o = is.only path number leads in (o.0, o.1, o.2, (path, o.3), inl o.3);
    held = λ tag of reached.
        let k = led_in files nodes led are reached.0 tag of reached.1 in
        is.held k.0 (record { path = reached.0; tag = tag; kind = of }) (slice_get_within led k.0 (record { path = reached.0; tag = tag; kind = of }) k.1) k.1;
    named = is.named;
    limits = is.limits;
  }
