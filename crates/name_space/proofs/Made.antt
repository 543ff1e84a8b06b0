-- The fileset of a set's rows and nodes.
use Rattle.std.proofs.Common.{◌≡◌, ◌≢◌, ◌∙◌, ◌⊎◌, inl, inr, ⊎_elim, ℕ, zero, suc, ◌+◌, ◌-◌, ◌<◌, ◌≤◌, Bool, true, false, cond, not, List, [], ◌∷◌, ◌++◌, length, take, Option, Some, None, IfSome, IsSome, IsSomeAnd, IsTrue, is_some, Contains, slice_get, refl, sym, ap, subst, arith, true≢false}
use Rattle.std.proofs.lemmas.List.{length-append}
use Rattle.std.specs.FinMap as map
use Rattle.std.specs.FinSet.{FinSet}
use Rattle.std.specs.Option.{option_and_then, option_map, option_map_or}
use Rattle.std.specs.Ordering.{nat_cmp}
use Rattle.plain_program.specs.domain_base.Limits.{max_links}
use Rattle.plain_program.specs.domain_base.declared.place.Kind.{Kind}
use Rattle.plain_program.specs.domain_base.declared.place.Kind.TheVariants.{Directory, File}
use Rattle.plain_program.specs.domain_base.declared.place.Tag.{Tag}
use Rattle.directory_rows.specs.page_store.Bitfiles.{Bitfile, Bitfiles, IsDirectory, same_tag}
use Rattle.directory_rows.specs.directory_pages.Rows.{found}
use Rattle.directory_rows.specs.Directory.{rows_in}
use Rattle.plain_program.proofs.OfLegalHistories.ValidCountLemmas.{no_paths}
use Rattle.plain_program.proofs.OfLegalHistories.ValidLemmas.{as_original, from_some_and, some_inj, to_some_and}
use Rattle.plain_program.specs.legal_histories.Valid.{HasWholePages, IsDirectoryAt, IsValidFileset, IsValidSlot}
use Rattle.plain_program.specs.fileset_model.Fileset.{Fileset}
use Rattle.plain_program.specs.fileset_model.LooksLike.{IsShown, LooksLikeSlot}
use Rattle.plain_program.specs.fileset_values.Orders.{Name, Path, owner_cmp}
use Rattle.plain_program.specs.fileset_model.Paths.{is_directory, is_out_of_sync, is_out_of_sync_at, node_at, paths_to}
use Rattle.plain_program.specs.fileset_model.declared.fileset.FilesetSlot.{FilesetSlot}
use Rattle.plain_program.specs.fileset_model.declared.fileset.Role.{Role}
use Rattle.plain_program.specs.fileset_model.declared.fileset.Role.TheVariants.{CloneOf, Original}
use Rattle.plain_program.specs.fileset_model.declared.node.Node.{Node}
use Rattle.plain_program.specs.fileset_model.declared.node.Node.TheVariants as node
use Rattle.name_space.specs.Changes.{new_node}
use Rattle.name_space.specs.Names.{IsNodeOf, IsShownAs, Names, is_directory_kind, led_to, number_of, root_tag}
use Rattle.name_space.proofs.CreatedNames.{fore}
use Rattle.name_space.proofs.Leads.{led-name}
use Rattle.name_space.proofs.Originals.{tag_itself, tags_same}
use Rattle.directory_rows.specs.declared.led.Led.{Led}
use Rattle.directory_rows.proofs.AllLed.{contains_at}
use Rattle.name_space.specs.Parts.{IsNodeFor, IsNodeThere, node_for, node_in}
use Rattle.name_space.specs.Rows.{AreAllThere, AreFilesetRows, AreNamesOf, AreWhole, IsCounted, NameIn, row_of}
use Rattle.name_space.specs.Trees.{AreAllOf, AreMissing, HasItsPaths, HasRoleOf, IsFullTree, IsMissing, IsReached, IsTreeOf, IsWay, MayBeOf, hidden_below, most_paths}
use Rattle.name_space.specs.declared.parts.TaggedNode.{TaggedNode}
use Rattle.name_space.proofs.Counted.{reached_by}
use Rattle.name_space.proofs.OneWay.{IsLedBy, led_by_row, led_kind, one_kind, one_number, one_way, same_fronts}

none_is_some : {P X : Type 0} (x : X) → None ≡ Some x → P
none_is_some x is = absurd (cc)

-- ---- nodes

pub record IsAmong (nodes : List TaggedNode) (tag : Tag) (one : TaggedNode) : Type 0 where
  pub k : ℕ
  pub there : slice_get nodes k ≡ Some one
  pub tag_is : one.tag ≡ tag

pub node_among : (nodes : List TaggedNode) (tag : Tag) (one : TaggedNode) → node_in nodes tag ≡ Some one → IsAmong nodes tag one
node_among [] tag one is = none_is_some one is
node_among (n ∷ nodes) tag one is = by_test (same_tag n.tag tag) refl is (node_among nodes tag one)
  where
    by_test : (b : Bool) → same_tag n.tag tag ≡ b → cond b (Some n) (node_in nodes tag) ≡ Some one → (node_in nodes tag ≡ Some one → IsAmong nodes tag one) → IsAmong (n ∷ nodes) tag one
    by_test true same here later = record { k = 0; there = here; tag_is = ap (λ (x : TaggedNode). x.tag) (sym (some_inj here)) ∙ tags_same n.tag tag same }
    by_test false other there later = let l = later there in record { k = suc l.k; there = l.there; tag_is = l.tag_is }

node_kind : (f : Bitfile) (n : Node) → IsNodeOf f n → is_directory n ≡ is_directory_kind f.kind
node_kind f (node.File uid gid size logged pages) is = sym (ap is_directory_kind is.0)
node_kind f (node.Directory uid gid) is = sym (ap is_directory_kind is.0)

new_kind : (of : Kind) → is_directory (new_node of 0 0) ≡ is_directory_kind of
new_kind File = refl
new_kind Directory = refl

new_whole : (of : Kind) → HasWholePages (new_node of 0 0)
new_whole File = λ q page is. none_is_some page (sym (map.get-empty nat_cmp q) ∙ is)
new_whole Directory = tt

module _ (files : Bitfiles) (nodes : List TaggedNode) (led : List Led) (are : AreAllOf files nodes led) (tree : Fileset) (full : IsFullTree files nodes tree) where
  -- what the tree has of a tag to which a path leads
  record IsHeld (tag : Tag) (of : Kind) : Type 0 where
    pub there : map.get tree.nodes (number_of tag) ≡ Some (node_for nodes tag of)
    pub kind : is_directory (node_for nodes tag of) ≡ is_directory_kind of
    pub file : (f : Bitfile) → files tag ≡ Some f → (f.kind ≡ of) × IsNodeOf f (node_for nodes tag of) × (f.links ≡ paths_to tree (number_of tag))
    pub whole : HasWholePages (node_for nodes tag of)

  held : (tag : Tag) (of : Kind) → IsReached files tag of → IsHeld tag of
  held tag of reached = by_file (files tag) refl (are.has.each tag)
    where
      by_file : (o : Option Bitfile) → files tag ≡ o → IsNodeThere o (node_in nodes tag) → IsHeld tag of
      by_file None none lost =
          let e : new_node of 0 0 ≡ node_for nodes tag of = sym (ap (λ (o : Option TaggedNode). option_map_or (λ (one : TaggedNode). one.node) o (new_node of 0 0)) lost) in
          record {
            there = full.is.held tag of reached;
            kind = subst (λ n. is_directory n ≡ is_directory_kind of) e (new_kind of);
            file = λ f there. none_is_some f (sym none ∙ there);
            whole = subst HasWholePages e (new_whole of);
          }
      by_file (Some file) there found =
          let x = from_some_and (IsNodeFor file) (node_in nodes tag) found in
          let one = x.0 in
          let e : one.node ≡ node_for nodes tag of = sym (ap (λ (o : Option TaggedNode). option_map_or (λ (one : TaggedNode). one.node) o (new_node of 0 0)) x.1) in
          let among = node_among nodes tag one x.1 in
          let kind = led_kind files are.good reached.0 tag of file reached.1 there in
          let links : file.links ≡ paths_to tree (number_of tag) =
          sym x.2.links ∙ sym (full.all one (contains_at nodes among.k one among.there) of (reached.0, reached.1 ∙ ap (λ (t : Tag). Some (t, of)) (sym among.tag_is)))
          ∙ ap (λ (t : Tag). paths_to tree (number_of t)) among.tag_is in
          record {
            there = full.is.held tag of reached;
            kind = subst (λ n. is_directory n ≡ is_directory_kind of) e (node_kind file one.node x.2.is ∙ ap is_directory_kind kind);
            file = λ f there'. subst (λ (g : Bitfile). (g.kind ≡ of) × IsNodeOf g (node_for nodes tag of) × (g.links ≡ paths_to tree (number_of tag))) (some_inj (sym there ∙ there'))
                (kind, subst (IsNodeOf file) e x.2.is, links);
            whole = subst HasWholePages e x.2.whole;
          }

  -- ---- paths

  directory_at : (path : Path) (tag : Tag) → led_to files path ≡ Some (tag, Directory) → IsDirectoryAt tree path
  directory_at path tag leads =
      let h = held tag Directory (path, leads) in
      subst (λ o. IsSomeAnd (option_and_then (map.get tree.nodes) o) (λ n. IsTrue (is_directory n))) (sym (full.is.paths path tag Directory leads))
      (to_some_and (λ n. IsTrue (is_directory n)) (map.get tree.nodes (number_of tag)) (node_for nodes tag Directory) h.there h.kind)

  -- a path of the tree leads there, or it is below a directory that is missing
  abbrev IsBelow : Path → Type 0
  IsBelow path = (below : Path) × (name : Name) × (path ≡ below ++ name ∷ []) × IsMissing files below

  way_or_below : {P : Type 0} (path : Path) (tag : Tag) (of : Kind) → IsWay files full.below full.count path tag of → (led_to files path ≡ Some (tag, of) → P) → (of ≡ File → IsBelow path → P) → P
  way_or_below path tag of way leads hidden = ⊎_elim leads
      (λ h. ⊎_elim (λ none. absurd (omega (arith, none, h.3))) (λ missing. hidden h.0 (full.below, _, h.4, missing)) full.hidden)
      way

  parent_at : (path : Path) (name : Name) (number : ℕ) → map.get tree.paths (path ++ name ∷ []) ≡ Some number → IsDirectoryAt tree path
  parent_at path name number there =
      let o = full.is.only (path ++ name ∷ []) number there in
      way_or_below (path ++ name ∷ []) o.0 o.1 o.4
      (λ leads. ⊎_elim
      (λ root. let e : length path + 1 ≡ 0 = sym (length-append path (name ∷ [])) ∙ ap (λ (p : Path). length p) root.0 in absurd (omega (arith, e)))
      (λ by. subst (IsDirectoryAt tree) (sym (same_fronts path by.front name by.name by.whole)) (directory_at by.front by.dir by.led))
      (led_by_row files are.good (path ++ name ∷ []) o.0 o.1 leads))
      (λ file below. subst (IsDirectoryAt tree) (sym (same_fronts path below.0 name below.1 below.2)) (directory_at below.0 below.3.0 below.3.1))

  directory_kind : (of : Kind) → IsTrue (is_directory_kind of) → of ≡ Directory
  directory_kind Directory is = refl
  directory_kind File is = absurd cc

  one_path : (p q : Path) (number : ℕ) → IsDirectoryAt tree p → map.get tree.paths p ≡ Some number → map.get tree.paths q ≡ Some number → p ≡ q
  one_path p q number directory there there' =
      let o = full.is.only p number there in
      let o' = full.is.only q number there' in
      let h = held o.0 o.1 o.3 in
      let at : IsSomeAnd (map.get tree.nodes number) (λ n. IsTrue (is_directory n)) = subst (λ x. IsSomeAnd (option_and_then (map.get tree.nodes) x) (λ n. IsTrue (is_directory n))) there directory in
      let x = from_some_and (λ n. IsTrue (is_directory n)) (map.get tree.nodes number) at in
      let same_node : x.0 ≡ node_for nodes o.0 o.1 = some_inj (sym x.1 ∙ ap (map.get tree.nodes) o.2 ∙ h.there) in
      let kind : o.1 ≡ Directory = directory_kind o.1 (subst IsTrue (ap is_directory same_node ∙ h.kind) x.2) in
      let tags : o'.0 ≡ o.0 = one_number files are.good o'.3.0 o.3.0 o'.0 o.0 o'.1 o.1 o'.3.1 o.3.1 (sym o'.2 ∙ o.2) in
      let kinds : o'.1 ≡ Directory = one_kind files are.good o'.3.0 o.3.0 o.0 o'.1 o.1 (o'.3.1 ∙ ap (λ (t : Tag). Some (t, o'.1)) tags) o.3.1 ∙ kind in
      way_or_below p o.0 o.1 o.4
      (λ leads. way_or_below q o'.0 o'.1 o'.4
      (λ leads'. one_way files are.good p q o.0 o'.1 (leads ∙ ap (λ (k : Kind). Some (o.0, k)) kind) (leads' ∙ ap (λ (t : Tag). Some (t, o'.1)) tags))
      (λ file below. let e : File ≡ Directory = sym file ∙ kinds in absurd (cc)))
      (λ file below. let e : File ≡ Directory = sym file ∙ kind in absurd (cc))

  few_links : (tag : Tag) → most_paths (files tag) ≤ max_links
  few_links tag = let counted = are.good.counted tag in by_file (files tag) (length counted.0) counted.2
    where
      by_file : (o : Option Bitfile) (count : ℕ) → IsCounted files o count → most_paths o ≤ max_links
      by_file None count counted = omega arith
      by_file (Some file) count counted = counted.0

  few_paths : (number : ℕ) → paths_to tree number ≤ max_links
  few_paths number = by_node (map.get tree.nodes number) refl
    where
      by_node : (o : Option Node) → map.get tree.nodes number ≡ o → paths_to tree number ≤ max_links
      by_node None none =
          let zero' = no_paths tree.paths number (λ q there.
          let o = full.is.only q number there in
          none_is_some (node_for nodes o.0 o.1) (sym none ∙ ap (map.get tree.nodes) o.2 ∙ full.is.held o.0 o.1 o.3)) in
          omega (arith, zero')
      by_node (Some n) there =
          let named = full.is.named number n there in
          let few = full.few.few named.0 named.1 named.3 in
          let least = few_links named.0 in
          subst (λ k. paths_to tree k ≤ max_links) (sym named.2) (omega (arith, few, least))

  pub valid_tree : IsValidFileset tree
  valid_tree = record {
    root = directory_at [] root_tag refl;
    parents = λ path name has. by_key path name (map.get tree.paths (path ++ name ∷ [])) refl has;
    one_path = one_path;
    few_paths = few_paths;
    led_to = λ path number there.
        let o = full.is.only path number there in
        ap (λ k. is_some (map.get tree.nodes k)) o.2 ∙ ap is_some (full.is.held o.0 o.1 o.3);
    named = λ number n there.
        let named = full.is.named number n there in
        let way = named.3 in
        (way.0, full.is.paths way.0 named.0 named.1 way.1 ∙ ap Some (sym named.2));
    whole = λ number n there.
        let named = full.is.named number n there in
        let h = held named.0 named.1 named.3 in
        subst HasWholePages (some_inj (sym h.there ∙ ap (map.get tree.nodes) (sym named.2) ∙ there)) h.whole;
    limited = λ who limits there. none_is_some limits (sym (map.get-empty owner_cmp who) ∙ sym (ap (λ m. map.get m who) full.is.limits) ∙ there);
  }
    where
      by_key : (path : Path) (name : Name) (o : Option ℕ) → map.get tree.paths (path ++ name ∷ []) ≡ o → is_some o ≡ true → IsDirectoryAt tree path
      by_key path name None none has = absurd cc
      by_key path name (Some number) there has = parent_at path name number there

  -- ---- roles

  all_there : AreWhole files → (tag : Tag) (of : Kind) → IsReached files tag of → IsSome (files tag)
  all_there whole tag of reached = ⊎_elim
      (λ root. subst (λ (t : Tag). IsSome (files t)) root.1 whole.root)
      (λ by. whole.rows (record { dir = by.dir; name = by.name }) tag of by.row)
      (led_by_row files are.good reached.0 tag of reached.1)

  none_lost : AreWhole files → AreAllThere files
  none_lost whole = record { root = whole.root; reached = λ path tag leads. all_there whole tag Directory (path, leads) }

  out_is : (original : Option Name) (role : Role) → HasRoleOf files original role → MayBeOf original files → (tag : Tag) (of : Kind) → IsReached files tag of → is_out_of_sync role (number_of tag) ≡ not (is_some (files tag))
  out_is None role is whole tag of reached = ap (λ (r : Role). is_out_of_sync r (number_of tag)) is ∙ ap not (sym (all_there whole tag of reached))
  out_is (Some name) Original is may tag of reached = absurd is
  out_is (Some name) (CloneOf original out) is may tag of reached = by_file (files tag) refl
    where
      by_key : (file : Bitfile) → files tag ≡ Some file → (b : Bool) → map.contains_key out (number_of tag) ≡ b → b ≡ false
      by_key file there false has = refl
      by_key file there true has =
          let lost = (is.1.each (number_of tag)).0 has in
          let way = lost.3 in
          let same : lost.0 ≡ tag = one_number files are.good way.0 reached.0 lost.0 tag lost.1 of way.1 reached.1 (sym lost.2) in
          none_is_some file (sym lost.4 ∙ ap files same ∙ there)

      by_file : (o : Option Bitfile) → files tag ≡ o → map.contains_key out (number_of tag) ≡ not (is_some o)
      by_file None none = (is.1.each (number_of tag)).1 (tag, of, refl, reached, none)
      by_file (Some file) there = by_key file there (map.contains_key out (number_of tag)) refl

  module _ (original : Option Name) (role : Role) (has : HasRoleOf files original role) (may : MayBeOf original files) where
    abbrev slot : FilesetSlot
    slot = record { tree = tree; role = role }

    missing_out : (path : Path) → IsMissing files path → is_out_of_sync_at slot path ≡ true
    missing_out path missing =
        ap (λ o. option_map_or (is_out_of_sync role) o false) (full.is.paths path missing.0 Directory missing.1)
        ∙ out_is original role has may missing.0 Directory (path, missing.1) ∙ ap (λ o. not (is_some o)) missing.2

    -- nothing is shown below what is missing
    below_hidden : {P : Type 0} (path : Path) → IsShown slot path → IsBelow path → P
    below_hidden path shown below =
        let longer : length path ≡ length below.0 + 1 = ap (λ (p : Path). length p) below.2 ∙ length-append below.0 (below.1 ∷ []) in
        let front : take (length path - 1) path ≡ below.0 = ap (λ (p : Path). take (length p - 1) p) below.2 ∙ fore below.0 below.1 in
        let synced : is_out_of_sync_at slot below.0 ≡ false = ap (is_out_of_sync_at slot) (sym front) ∙ shown (length path - 1) (omega (arith, longer)) in
        absurd (true≢false (sym (missing_out below.0 below.3) ∙ synced))

    paths_are : (path : Path) → IsShown slot path → map.get tree.paths path ≡ option_map (λ (l : Tag × Kind). number_of l.0) (led_to files path)
    paths_are path shown = by_led (led_to files path) refl
      where
        by_get : led_to files path ≡ None → (o : Option ℕ) → map.get tree.paths path ≡ o → o ≡ None
        by_get none None is = refl
        by_get none (Some number) is =
            let o = full.is.only path number is in
            way_or_below path o.0 o.1 o.4 (λ leads. none_is_some (o.0, o.1) (sym none ∙ leads)) (λ file below. below_hidden path shown below)

        by_led : (l : Option (Tag × Kind)) → led_to files path ≡ l → map.get tree.paths path ≡ option_map (λ (l : Tag × Kind). number_of l.0) l
        by_led None none = by_get none (map.get tree.paths path) refl
        by_led (Some l) leads = full.is.paths path l.0 l.1 leads

    live_path : AreWhole files → (tag : Tag) (file : Bitfile) → files tag ≡ Some file → (path : Path) × (led_to files path ≡ Some (tag, file.kind))
    live_path whole tag file there = let counted = are.good.counted tag in by_kind file.kind refl counted.0 counted.1 (subst (λ o. IsCounted files o (length counted.0)) there counted.2)
      where
        by_names : (names : List NameIn) → AreNamesOf files tag names → 1 ≤ length names → (path : Path) × (led_to files path ≡ Some (tag, file.kind))
        by_names [] are_names some = absurd (omega (arith, some))
        by_names (at ∷ names) are_names some =
            let row = (are_names.each at).0 (contains_at (at ∷ names) 0 at refl) in
            let way = reached_by files nodes led are (none_lost whole) at.dir (are.good.inside at (ap is_some row.1)) in
            let kind : file.kind ≡ row.0 = subst (λ (o : Option Bitfile). IfSome o (λ f. f.kind ≡ row.0)) there (are.good.kinds at tag row.0 row.1) in (
              way.0 ++ at.name ∷ [],
              led-name files way.0 at.name ∙ ap (option_and_then (λ (l : Tag × Kind). found at.name (rows_in files l.0))) way.1 ∙ row.1 ∙ ap (λ (k : Kind). Some (tag, k)) (sym kind),
            )

        by_kind : (k : Kind) → file.kind ≡ k → (names : List NameIn) → AreNamesOf files tag names → IsCounted files (Some file) (length names) → (path : Path) × (led_to files path ≡ Some (tag, file.kind))
        by_kind Directory kind names are_names counted =
            let way = reached_by files nodes led are (none_lost whole) tag (to_some_and (λ (f : Bitfile). f.kind ≡ Directory) (files tag) file there kind) in
            (way.0, way.1 ∙ ap (λ (k : Kind). Some (tag, k)) (sym kind))
        by_kind File kind names are_names counted =
            let all = (counted.3 kind).1 (none_lost whole) in
            by_names names are_names (omega (arith, counted.1, all))

    live_of : (o : Option Name) (r : Role) → HasRoleOf files o r → MayBeOf o files → r ≡ Original → AreWhole files
    live_of None r is whole same = whole
    live_of (Some name) Original is may' same = absurd is
    live_of (Some name) (CloneOf of out) is may' same = absurd (cc)

    pub has_names : Names files slot
    has_names = record {
      paths = paths_are;
      shown = λ path tag of shown leads.
          let h = held tag of (path, leads) in
          record {
            kind = to_some_and (λ n. is_directory n ≡ is_directory_kind of) (map.get tree.nodes (number_of tag)) (node_for nodes tag of) h.there h.kind;
            out = out_is original role has may tag of (path, leads);
            node = λ file there.
                let f = h.file file there in
                (f.0, to_some_and (IsNodeOf file) (map.get tree.nodes (number_of tag)) (node_for nodes tag of) h.there f.1, f.2);
          };
      directories = are.good.directories;
      live = λ same. live_path (live_of original role has may same);
      seq = are.good.seq;
    }

-- a valid fileset is one of either role
looks_itself : (slot : FilesetSlot) → LooksLikeSlot slot slot
looks_itself slot = record {
  of = refl;
  original = λ _. refl;
  limits = refl;
  paths = λ _ _. refl;
  out = λ _ _. refl;
  kinds = λ _ _. refl;
  nodes = λ _ _ _. refl;
  links = λ _ _ _. refl;
}

pub valid_as : (tree : Fileset) (role : Role) → IsValidFileset tree → IsValidSlot (record { tree = tree; role = role })
valid_as tree Original valid = valid
valid_as tree (CloneOf of out) valid = record { whole = tree; valid = valid; shows = looks_itself (record { tree = tree; role = CloneOf of out }) }
