-- One change of a file after another.
use Rattle.std.proofs.Common.{◌≡◌, ◌∙◌, ℕ, Bool, true, false, cond, IsSome, Ordering, Option, Some, None, refl, slice_get, sym, ap, subst, true≢false, ⊎_elim}
use Rattle.std.specs.Cmp.{IsTotalOrder, nat_cmp_total}
use Rattle.std.specs.FinMap as map
use Rattle.std.specs.FinMap.{FinMap, IsAntisymmetric, get, insert}
use Rattle.std.specs.Option.{option_and_then, option_map_or}
use Rattle.std.specs.Ordering.{eq_by_cmp}
use Rattle.domain_memory.specs.domain_base.declared.place.Tag.{Tag}
use Rattle.domain_memory.specs.fileset_model.Apply.{with_change}
use Rattle.domain_memory.specs.fileset_model.Fileset.{Fileset}
use Rattle.domain_memory.specs.fileset_model.Filesets.{FilesetMap}
use Rattle.domain_memory.specs.fileset_values.Orders.{Path, name_cmp-IsAntisymmetric, name_cmp-total}
use Rattle.domain_memory.specs.fileset_model.Paths.{node_at}
use Rattle.domain_memory.specs.fileset_model.declared.fileset.FilesetSlot.{FilesetSlot}
use Rattle.domain_memory.specs.fileset_model.declared.fileset.Role.{Role}
use Rattle.domain_memory.specs.fileset_model.declared.fileset.Role.TheVariants.{Original}
use Rattle.domain_memory.specs.fileset_model.declared.node.Node.{Node}
use Rattle.domain_memory.specs.legal_histories.Valid.{HasWholePages, IsValidAs, IsValidFileset}
use Rattle.domain_memory.proofs.OfFilesetValues.MapLemmas.{get-insert_same, got-insert}
use Rattle.domain_memory.specs.fileset_table.Table.{Table}
use Rattle.domain_memory.specs.fileset_table.declared.slot.FilesetEntry.{FilesetEntry}
use Rattle.domain_memory.specs.name_space.Names.{number_of}
use Rattle.domain_memory.specs.domain_layout.Filled.{IsRole}
use Rattle.domain_memory.specs.Staged.{IsStaged}
use Rattle.domain_memory.specs.declared.memory.DomainMemory.{DomainMemory}
use Rattle.file_changes.proofs.Changed.{IsStood, is_stood}
use Rattle.file_changes.specs.Stages.{HasFile, StandsChanged}

-- what was put in at a key is gone where something else is
pub insert_again : {K X : Type 0} {R : K → K → Ordering} → IsTotalOrder R → IsAntisymmetric R → (m : FinMap R X) (k : K) (x y : X) → insert (insert m k x) k y ≡ insert m k y
insert_again {R = R} total once m k x y = map.same_map total once (insert (insert m k x) k y) (insert m k y) (λ q.
    map.get-insert total (insert m k x) k y q ∙ ap (cond (eq_by_cmp R q k) (Some y)) (map.get-insert total m k x q) ∙ by_key (eq_by_cmp R q k) (get m q) ∙ sym (map.get-insert total m k y q))
  where
    by_key : (b : Bool) (o : Option _) → cond b (Some y) (cond b (Some x) o) ≡ cond b (Some y) o
    by_key true o = refl
    by_key false o = refl

-- ---- the node at a path

module _ (tree : Fileset) (path : Path) (number : ℕ) (leads : get tree.paths path ≡ Some number) (node : Node) (there : get tree.nodes number ≡ Some node) where
  pub changed_at : (change : Node → Node) → with_change path change tree ≡ record tree { nodes = insert tree.nodes number (change node) }
  changed_at change =
      ap (λ (o : Option ℕ). option_map_or (λ n. option_map_or (λ x. record tree { nodes = insert tree.nodes n (change x) }) (get tree.nodes n) tree) o tree) leads
      ∙ ap (λ (o : Option Node). option_map_or (λ x. record tree { nodes = insert tree.nodes number (change x) }) o tree) there

  pub leads_still : (change : Node → Node) → get (with_change path change tree).paths path ≡ Some number
  leads_still change = ap (λ (t : Fileset). get t.paths path) (changed_at change) ∙ leads

  pub there_now : (change : Node → Node) → get (with_change path change tree).nodes number ≡ Some (change node)
  there_now change = ap (λ (t : Fileset). get t.nodes number) (changed_at change) ∙ get-insert_same nat_cmp_total map.nat_cmp-IsAntisymmetric tree.nodes number (change node)

-- two changes of it are one
pub change_twice : (tree : Fileset) (path : Path) (number : ℕ) → get tree.paths path ≡ Some number → (node : Node) → get tree.nodes number ≡ Some node → (one then both : Node → Node) → then (one node) ≡ both node
    → with_change path then (with_change path one tree) ≡ with_change path both tree
change_twice tree path number leads node there one then both same =
    changed_at (with_change path one tree) path number (leads_still tree path number leads node there one) (one node) (there_now tree path number leads node there one) then
    ∙ ap (λ (t : Fileset). record t { nodes = insert t.nodes number (then (one node)) }) (changed_at tree path number leads node there one)
    ∙ (λ i. record tree { nodes = insert_again nat_cmp_total map.nat_cmp-IsAntisymmetric tree.nodes number (one node) (then (one node)) i })
    ∙ (λ i. record tree { nodes = insert tree.nodes number (same i) })
    ∙ sym (changed_at tree path number leads node there both)

-- ---- memory

module _ (old between : DomainMemory) (number : ℕ) (tag : Tag) (path : Path) (all : FilesetMap) (entry : FilesetEntry) (fileset : FilesetSlot) (has : HasFile old number tag path all entry fileset) (node : Node) (there : node_at fileset.tree path ≡ Some node) where
  pub its_node : get fileset.tree.nodes (number_of tag) ≡ Some node
  its_node = sym (ap (option_and_then (get fileset.tree.nodes)) has.at) ∙ there

  module _ (one : Node → Node) (stands : StandsChanged path one all entry fileset between) (table : between.table ≡ old.table) where
    abbrev fileset_between : FilesetSlot
    fileset_between = record fileset { tree = with_change path one fileset.tree }

    pub has_between : HasFile between number tag path (insert all entry.name fileset_between) entry fileset_between
    has_between = record {
      staged = stands;
      original = ap (λ (t : Table). slice_get t.slots number) table ∙ has.original;
      there = get-insert_same name_cmp-total name_cmp-IsAntisymmetric all entry.name fileset_between;
      at = leads_still fileset.tree path (number_of tag) has.at node its_node one;
    }

    pub node_between : node_at (with_change path one fileset.tree) path ≡ Some (one node)
    node_between =
        ap (option_and_then (get (with_change path one fileset.tree).nodes)) (leads_still fileset.tree path (number_of tag) has.at node its_node one)
        ∙ there_now fileset.tree path (number_of tag) has.at node its_node one

    pub stands_twice : (new : DomainMemory) (then both : Node → Node) → then (one node) ≡ both node → StandsChanged path then (insert all entry.name fileset_between) entry fileset_between new → StandsChanged path both all entry fileset new
    stands_twice new then both same stood =
        subst (λ (tree : Fileset). IsStaged new (insert all entry.name (record fileset { tree = tree })))
        (change_twice fileset.tree path (number_of tag) has.at node its_node one then both same)
        (subst (IsStaged new) (insert_again name_cmp-total name_cmp-IsAntisymmetric all entry.name fileset_between (record fileset { tree = with_change path then (with_change path one fileset.tree) })) stood)

  -- a change is what it makes of the node
  pub stands_as : (new : DomainMemory) (one other : Node → Node) → one node ≡ other node → StandsChanged path one all entry fileset new → StandsChanged path other all entry fileset new
  stands_as new one other same stood =
      subst (λ (tree : Fileset). IsStaged new (insert all entry.name (record fileset { tree = tree })))
      (changed_at fileset.tree path (number_of tag) has.at node its_node one
      ∙ (λ i. record fileset.tree { nodes = insert fileset.tree.nodes (number_of tag) (same i) })
      ∙ sym (changed_at fileset.tree path (number_of tag) has.at node its_node other)) stood

-- ---- no change

pub insert_there : {K X : Type 0} {R : K → K → Ordering} → IsTotalOrder R → IsAntisymmetric R → (m : FinMap R X) (k : K) (v : X) → get m k ≡ Some v → insert m k v ≡ m
insert_there total once m k v there = map.same_map total once (insert m k v) m (λ q.
    ⊎_elim (λ here. here.1 ∙ sym there ∙ ap (get m) (sym here.0)) (λ other. sym other.1) (got-insert total once m k v q (get (insert m k v) q) refl))

-- the node to which the path of a file leads
pub record NodeAt (tree : Fileset) (path : Path) : Type 0 where
  pub node : Node
  pub there : node_at tree path ≡ Some node

module _ (memory : DomainMemory) (number : ℕ) (tag : Tag) (path : Path) (all : FilesetMap) (entry : FilesetEntry) (fileset : FilesetSlot) (has : HasFile memory number tag path all entry fileset) where
  its : IsStood memory number tag path all entry fileset has
  its = is_stood memory number tag path all entry fileset has

  role : fileset.role ≡ Original
  role = subst (λ o. IsRole o fileset.role) its.stood.is.none its.stood.filled.role

  valid : IsValidFileset fileset.tree
  valid = subst (λ (r : Role). IsValidAs r fileset) role its.stood.filled.valid

  pub has_node : NodeAt fileset.tree path
  has_node = by_node (get fileset.tree.nodes (number_of tag)) (valid.led_to path (number_of tag) has.at) refl
    where
      by_node : (o : Option Node) → IsSome o → get fileset.tree.nodes (number_of tag) ≡ o → NodeAt fileset.tree path
      by_node None some is = absurd (true≢false (sym some))
      by_node (Some node) some is = record { node = node; there = ap (option_and_then (get fileset.tree.nodes)) has.at ∙ is }

  -- its pages are whole
  pub whole_node : (node : Node) → node_at fileset.tree path ≡ Some node → HasWholePages node
  whole_node node there = valid.whole (number_of tag) node (its_node memory memory number tag path all entry fileset has node there)

-- memory stands for what it stood for
pub stands_still : (memory : DomainMemory) (number : ℕ) (tag : Tag) (path : Path) (all : FilesetMap) (entry : FilesetEntry) (fileset : FilesetSlot) → HasFile memory number tag path all entry fileset → (change : Node → Node) → ((node : Node) → change node ≡ node) → StandsChanged path change all entry fileset memory
stands_still memory number tag path all entry fileset has change none =
    let n = has_node memory number tag path all entry fileset has in
    let at = its_node memory memory number tag path all entry fileset has n.node n.there in
    let same : with_change path change fileset.tree ≡ fileset.tree =
    changed_at fileset.tree path (number_of tag) has.at n.node at change
    ∙ (λ i. record fileset.tree { nodes = (ap (insert fileset.tree.nodes (number_of tag)) (none n.node) ∙ insert_there nat_cmp_total map.nat_cmp-IsAntisymmetric fileset.tree.nodes (number_of tag) n.node at) i }) in
    subst (λ (tree : Fileset). IsStaged memory (insert all entry.name (record fileset { tree = tree }))) (sym same)
    (subst (IsStaged memory) (sym (insert_there name_cmp-total name_cmp-IsAntisymmetric all entry.name fileset has.there)) has.staged)
