-- The book of an original: what its files count is what its nodes count.
use Rattle.std.proofs.Common.{◌≡◌, ◌∙◌, ℕ, ◌+◌, ◌*◌, ◌<◌, ◌==◌, ◌^◌, Bool, true, false, not, cond, ◌&&◌, List, [], ◌∷◌, length, filter, Option, Some, None, is_some, slice_get, unwrap_or, refl, sym, ap, subst, arith}
use Rattle.std.proofs.lemmas.Bool.Decides.{nat_tests}
use Rattle.std.proofs.lemmas.List.Sums.{sum_by-cons}
use Rattle.std.specs.List.{sum_by}
use Rattle.std.specs.Option.{option_map, option_map_or}
use Rattle.std.specs.FinMap as map
use Rattle.no_faults.specs.domain_base.Limits.{blocks_per_page}
use Rattle.no_faults.specs.domain_base.declared.place.Kind.{Kind}
use Rattle.no_faults.specs.domain_base.declared.place.Tag.{Tag}
use Rattle.no_faults.specs.page_store.Bitfiles.{Bitfile, same_tag}
use Rattle.no_faults.specs.page_store.Pages.{Pages}
use Rattle.no_faults.specs.fileset_files.declared.attributes.Attributes.{Attributes}
use Rattle.no_faults.specs.domain_layout.Filled.{Contents, Fills, IsFilled, IsRole}
use Rattle.no_faults.specs.domain_layout.Seen.{SeenFile}
use Rattle.no_faults.specs.domain_layout.Shape.{FilesetShape}
use Rattle.no_faults.proofs.OfLegalHistories.ValidLemmas.{from_some_and, some_inj, to_some_and}
use Rattle.no_faults.specs.legal_histories.Valid.{IsValidAs, IsValidFileset}
use Rattle.no_faults.proofs.OfFilesetModel.OwnerLemmas.{owner_cmp-IsAntisymmetric}
use Rattle.no_faults.specs.fileset_model.Fileset.{Fileset}
use Rattle.no_faults.specs.fileset_model.LooksLike.{IsShown}
use Rattle.no_faults.specs.fileset_values.Orders.{Path, owner_cmp, owner_cmp-total}
use Rattle.no_faults.specs.fileset_model.Usage.{blocks_of as node_blocks, counts_for as node_counts, is_owned, is_owners, is_unlimited, used_blocks, used_files}
use Rattle.no_faults.specs.fileset_model.Paths.{is_out_of_sync}
use Rattle.no_faults.specs.fileset_values.declared.command.Owner.{Owner}
use Rattle.no_faults.specs.fileset_model.declared.fileset.FilesetSlot.{FilesetSlot}
use Rattle.no_faults.specs.fileset_model.declared.fileset.Limits.{Limits}
use Rattle.no_faults.specs.fileset_model.declared.fileset.Role.{Role}
use Rattle.no_faults.specs.fileset_model.declared.fileset.Role.TheVariants.{Original}
use Rattle.no_faults.specs.fileset_model.declared.node.Node.{Node}
use Rattle.no_faults.specs.fileset_model.declared.node.Node.TheVariants.{Directory, File}
use Rattle.no_faults.specs.fileset_table.declared.slot.FilesetEntry.{FilesetEntry}
use Rattle.no_faults.specs.filesets_reading.Seen.{IsSeenAs, IsSeenThere}
use Rattle.no_faults.proofs.OfFilesetsFilled.PartsRead.{file_is, file_once}
use Rattle.no_faults.specs.fileset_shapes.Found.{SeesShape, file_at, shown_by}
use Rattle.no_faults.specs.fileset_shapes.declared.found.FilesetSeen.{FilesetSeen}
use Rattle.no_faults.specs.fileset_shapes.declared.found.TaggedFile.{TaggedFile}
use Rattle.no_faults.proofs.OfNameSpace.Originals.{all_shown, one_tag}
use Rattle.no_faults.specs.name_space.Names.{led_to, number_of, root_tag}
use Rattle.no_faults.specs.quota_book.Book.{Book, used}
use Rattle.no_faults.specs.quota_book.Sums.{IsBookOf}
use Rattle.attached_domain.specs.Counted.{CountsAll, blocks_if, blocks_of, blocks_there, counts_for, files_of}
use Rattle.attached_domain.specs.Limits.{HasLimitsAlone}
use Rattle.attached_domain.proofs.Nodes.{NamesEach, pages_counted, summed}

-- ---- one file

-- the root's number is that of its tag alone
root_number : (tag : Tag) → tag.seq < 2 ^ 16 → (number_of root_tag == number_of tag) ≡ same_tag tag root_tag
root_number tag low = grind (arith, nat_tests)

module _ (contents : Contents) (file : TaggedFile) (seen : SeenFile) (like : IsSeenAs seen file.seen) where
  owned_as : (node : Node) → IsFilled contents seen node → (who : Owner) → is_owners who node ≡ is_owned who file.seen.is.uid file.seen.is.gid
  owned_as (File uid gid size logged pages) is who = let uid = sym (ap (λ (a : Attributes). a.uid) like.is ∙ is.1) in let gid = sym (ap (λ (a : Attributes). a.gid) like.is ∙ is.2) in λ i. is_owned who (uid i) (gid i)
  owned_as (Directory uid gid) is who = let uid = sym (ap (λ (a : Attributes). a.uid) like.is ∙ is.1) in let gid = sym (ap (λ (a : Attributes). a.gid) like.is ∙ is.2) in λ i. is_owned who (uid i) (gid i)

  blocks_as : (node : Node) → IsFilled contents seen node → node_blocks node ≡ blocks_there file
  blocks_as (File uid gid size logged pages) is =
      let count = pages_counted contents file.seen.homes.items 0 pages (λ p. (let same : 0 + p ≡ p = omega arith in ap (map.get pages) same) ∙ is.5 p ∙ sym (ap (option_map contents) (like.homes p))) (λ q less. absurd (omega (arith, less))) in
      ap (λ n. blocks_per_page * n) count ∙ sym (ap (λ k. blocks_if k file.seen.homes.items) (ap (λ (a : Attributes). a.kind) like.is ∙ is.0))
  blocks_as (Directory uid gid) is = sym (ap (λ k. blocks_if k file.seen.homes.items) (ap (λ (a : Attributes). a.kind) like.is ∙ is.0))

  counts_as : (root : Option ℕ) → root ≡ Some (number_of root_tag) → file.tag.seq < 2 ^ 16 → (node : Node) → IsFilled contents seen node → (who : Owner) → node_counts who root (number_of file.tag, node) ≡ counts_for who file
  counts_as root is low node filled who =
      ap (λ o. is_owners who node && not (option_map_or (λ number. number == number_of file.tag) o false)) is
      ∙ (λ i. owned_as node filled who i && not (root_number file.tag low i))

-- ---- all of them

module _ (who : Owner) (root : Option ℕ) where
  abbrev counts : ℕ × Node → Bool
  counts = node_counts who root

  abbrev pub files_in : List (ℕ × Node) → ℕ
  files_in es = length (filter counts es)

  abbrev pub blocks_in : List (ℕ × Node) → ℕ
  blocks_in es = sum_by (λ e. node_blocks e.1) (filter counts es)

  files-cons : (e : ℕ × Node) (es : List (ℕ × Node)) → files_in (e ∷ es) ≡ cond (counts e) 1 0 + files_in es
  files-cons e es = by_test (counts e)
    where
      by_test : (b : Bool) → length (cond b (e ∷ filter counts es) (filter counts es)) ≡ cond b 1 0 + files_in es
      by_test true = omega arith
      by_test false = omega arith

  blocks-cons : (e : ℕ × Node) (es : List (ℕ × Node)) → blocks_in (e ∷ es) ≡ cond (counts e) (node_blocks e.1) 0 + blocks_in es
  blocks-cons e es = by_test (counts e)
    where
      by_test : (b : Bool) → sum_by (λ e. node_blocks e.1) (cond b (e ∷ filter counts es) (filter counts es)) ≡ cond b (node_blocks e.1) 0 + blocks_in es
      by_test true = sum_by-cons (λ e. node_blocks e.1) e (filter counts es)
      by_test false = omega arith

one_limit : (a b : Option Limits) → unwrap_or a (record { files = 0; blocks = 0 }) ≡ unwrap_or b (record { files = 0; blocks = 0 })
    → ((limits : Limits) → a ≡ Some limits → is_unlimited limits ≡ false) → ((limits : Limits) → b ≡ Some limits → is_unlimited limits ≡ false) → a ≡ b
one_limit None None same binds binds' = refl
one_limit None (Some l) same binds binds' = let e : true ≡ false = ap is_unlimited same ∙ binds' l refl in absurd (cc)
one_limit (Some l) None same binds binds' = let e : true ≡ false = ap is_unlimited (sym same) ∙ binds l refl in absurd (cc)
one_limit (Some l) (Some m) same binds binds' = ap Some same

role_of : (o : Option _) (role : Role) → o ≡ None → IsRole o role → role ≡ Original
role_of None role none is = is
role_of (Some name) role none is = absurd (cc)

module _ (pages : Pages) (entry : FilesetEntry) (shape : FilesetShape) (found : FilesetSeen) (contents : Contents) (slot : FilesetSlot) (sees : SeesShape pages entry shape found) (none : shape.original ≡ None) (fills : Fills contents shape slot) where
  abbrev files : List TaggedFile
  files = found.files.items

  abbrev tree : Fileset
  tree = slot.tree

  role : slot.role ≡ Original
  role = role_of shape.original slot.role none fills.role

  valid : IsValidFileset tree
  valid = subst (λ r. IsValidAs r slot) role fills.valid

  shown : (path : Path) → IsShown slot path
  shown path = all_shown shape.shown slot fills.names role path

  root_is : map.get tree.paths [] ≡ Some (number_of root_tag)
  root_is = fills.names.paths [] (shown [])

  -- ---- the node of a file

  pub record HasNode (file : TaggedFile) : Type 0 where
    pub seen : SeenFile
    pub like : IsSeenAs seen file.seen
    pub node : Node
    pub there : map.get tree.nodes (number_of file.tag) ≡ Some node
    pub filled : IsFilled contents seen node

  seen_by : (tag : Tag) (file : TaggedFile) → file_at files tag ≡ Some file → (o : Option SeenFile) → shape.files tag ≡ o → IsSeenThere o (option_map (λ (f : TaggedFile). f.seen) (file_at files tag)) → (seen : SeenFile) × (shape.files tag ≡ Some seen) × IsSeenAs seen file.seen
  seen_by tag file at None is sees' = let e : None ≡ Some file.seen = sym sees' ∙ ap (option_map (λ (f : TaggedFile). f.seen)) at in absurd (cc)
  seen_by tag file at (Some seen) is sees' = (seen, is, subst (λ (o : Option TaggedFile). IsSeenThere (Some seen) (option_map (λ (f : TaggedFile). f.seen) o)) at sees')

  node_of : (k : ℕ) (file : TaggedFile) → slice_get files k ≡ Some file → HasNode file
  node_of k file at =
      let once = file_once files sees.once k file at in
      let set : shape.shown file.tag ≡ Some (shown_by pages file) = sees.shown file.tag ∙ ap (option_map (shown_by pages)) once in
      let live = fills.names.live role file.tag (shown_by pages file) set in
      let was = seen_by file.tag file once (shape.files file.tag) refl (sees.files file.tag) in
      let filled = from_some_and (IsFilled contents was.0) (map.get tree.nodes (number_of file.tag)) (fills.files live.0 file.tag file.seen.is.kind was.0 (shown live.0) live.1 was.1) in
      record { seen = was.0; like = was.2; node = filled.0; there = filled.1; filled = filled.2 }

  -- ---- the file of a node

  in_set : (o : Option Bitfile) → false ≡ not (is_some o) → (file : Bitfile) × (o ≡ Some file)
  in_set None is = absurd (cc)
  in_set (Some file) is = (file, refl)

  seen_at : (tag : Tag) (file : Bitfile) → shape.shown tag ≡ Some file → (o : Option TaggedFile) → file_at files tag ≡ o → (one : TaggedFile) × (file_at files tag ≡ Some one)
  seen_at tag file is None at = let e : None ≡ Some file = ap (option_map (shown_by pages)) (sym at) ∙ sym (sees.shown tag) ∙ is in absurd (cc)
  seen_at tag file is (Some one) at = (one, at)

  file_of : (n : ℕ) (node : Node) → map.get tree.nodes n ≡ Some node → (k : ℕ) × (file : TaggedFile) × (slice_get files k ≡ Some file) × (number_of file.tag ≡ n)
  file_of n node there =
      let path = valid.named n node there in
      by_led path.0 (led_to shape.shown path.0) refl (sym (fills.names.paths path.0 (shown path.0)) ∙ path.1)
    where
      by_led : (path : Path) (o : Option (Tag × Kind)) → led_to shape.shown path ≡ o → option_map (λ led. number_of led.0) o ≡ Some n → (k : ℕ) × (file : TaggedFile) × (slice_get files k ≡ Some file) × (number_of file.tag ≡ n)
      by_led path None led is = absurd (cc)
      by_led path (Some at) led is =
          let like = fills.names.shown path at.0 at.1 (shown path) led in
          let out : false ≡ not (is_some (shape.shown at.0)) = ap (λ r. is_out_of_sync r (number_of at.0)) (sym role) ∙ like.out in
          let file = in_set (shape.shown at.0) out in
          let one = seen_at at.0 file.0 file.1 (file_at files at.0) refl in
          let k = file_is files at.0 one.0 one.1 in
          (k.0, one.0, k.1, ap number_of k.2 ∙ some_inj is)

  -- ---- sums

  abbrev key : TaggedFile → ℕ
  key file = number_of file.tag

  own_numbers : (i j : ℕ) (one other : TaggedFile) → slice_get files i ≡ Some one → slice_get files j ≡ Some other → key one ≡ key other → i ≡ j
  own_numbers i j one other at at' same = sees.once i j one other at at' (one_tag one.tag other.tag (sees.small i one at) (sees.small j other at') same)

  module _ (who : Owner) where
    abbrev root : Option ℕ
    root = map.get tree.paths []

    files_named : NamesEach (files_in who root) (λ e. cond (node_counts who root e) 1 0) (files-cons who root) key (files_of who) refl files tree.nodes
    files_named = record {
      once = own_numbers;
      each = λ k file at.
          let has = node_of k file at in
          to_some_and (λ (node : Node). cond (node_counts who root (key file, node)) 1 0 ≡ files_of who file) (map.get tree.nodes (key file)) has.node has.there
          (ap (λ b. cond b 1 0) (counts_as contents file has.seen has.like root root_is (sees.small k file at) has.node has.filled who));
      only = file_of;
    }

    blocks_named : NamesEach (blocks_in who root) (λ e. cond (node_counts who root e) (node_blocks e.1) 0) (blocks-cons who root) key (blocks_of who) refl files tree.nodes
    blocks_named = record {
      once = own_numbers;
      each = λ k file at.
          let has = node_of k file at in
          to_some_and (λ (node : Node). cond (node_counts who root (key file, node)) (node_blocks node) 0 ≡ blocks_of who file) (map.get tree.nodes (key file)) has.node has.there
          (λ i. cond (counts_as contents file has.seen has.like root root_is (sees.small k file at) has.node has.filled who i) (blocks_as contents file has.seen has.like has.node has.filled i) 0);
      only = file_of;
    }

    used_as_files : used_files tree who ≡ sum_by (files_of who) files
    used_as_files = summed (files_in who root) (λ e. cond (node_counts who root e) 1 0) (files-cons who root) key (files_of who) refl files tree.nodes files_named

    used_as_blocks : used_blocks tree who ≡ sum_by (blocks_of who) files
    used_as_blocks = summed (blocks_in who root) (λ e. cond (node_counts who root e) (node_blocks e.1) 0) (blocks-cons who root) key (blocks_of who) refl files tree.nodes blocks_named

  pub is_book : (alone book : Book) → HasLimitsAlone entry found.quotas alone → CountsAll files alone book → IsBookOf book tree
  is_book alone book limits counts = record {
    files = λ who. let a = counts.files_used who in let b = used_as_files who in let c = ap (λ u. u.files) (nothing_used who) in omega (arith, a, b, c);
    blocks = λ who. let a = counts.blocks_used who in let b = used_as_blocks who in let c = ap (λ u. u.blocks) (nothing_used who) in omega (arith, a, b, c);
    limits = counts.limits ∙ map.same_map owner_cmp-total owner_cmp-IsAntisymmetric alone.limits tree.limits (λ who.
        one_limit (map.get alone.limits who) (map.get tree.limits who) (limits.limits who ∙ sym (sees.limits who) ∙ sym (fills.limits who)) (limits.binding who) (valid.limited who));
  }
    where
      nothing_used : (who : Owner) → used alone who ≡ record { files = 0; blocks = 0 }
      nothing_used who = ap (λ o. unwrap_or o (record { files = 0; blocks = 0 })) (ap (λ m. map.get m who) limits.unused ∙ map.get-empty owner_cmp who)
