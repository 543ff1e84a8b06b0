-- Originals: nothing in them is out of sync, so that each path is shown.
use Rattle.std.proofs.Common.{◌≡◌, ◌≢◌, ◌∙◌, ℕ, ◌^◌, ◌<◌, ◌==◌, ◌&&◌, true, false, not, is_some, Option, Some, None, IsSomeAnd, IsTrue, take, refl, sym, ap, subst, arith, eqb-true, true≢false}
use Rattle.std.proofs.lemmas.Bool.{and_parts, eq-eqb}
use Rattle.std.specs.Option.{option_and_then, option_map, option_map_or}
use Rattle.std.specs.FinMap.{get}
use Rattle.plain_program.specs.domain_base.declared.place.Kind.{Kind}
use Rattle.plain_program.specs.domain_base.declared.place.Kind.TheVariants.{Directory, File as FileKind}
use Rattle.plain_program.specs.domain_base.declared.place.Tag.{Tag}
use Rattle.directory_rows.specs.page_store.Bitfiles.{Bitfile, Bitfiles, IsDirectory, same_tag}
use Rattle.directory_rows.specs.Directory.{IsWellFormed}
use Rattle.plain_program.specs.fileset_model.Fileset.{Fileset}
use Rattle.plain_program.specs.fileset_model.LooksLike.{IsShown}
use Rattle.plain_program.specs.fileset_values.Orders.{Path}
use Rattle.plain_program.specs.fileset_model.Paths.{is_directory, is_out_of_sync, paths_to}
use Rattle.plain_program.specs.fileset_model.declared.fileset.FilesetSlot.{FilesetSlot}
use Rattle.plain_program.specs.fileset_model.declared.fileset.Role.{Role}
use Rattle.plain_program.specs.fileset_model.declared.fileset.Role.TheVariants.{Original}
use Rattle.plain_program.specs.fileset_model.declared.node.Node.{Node}
use Rattle.plain_program.specs.fileset_model.declared.node.Node.TheVariants.{File, Directory as DirectoryNode}
use Rattle.plain_program.specs.legal_histories.Valid.{IsDirectoryAt, IsValidFileset}
use Rattle.plain_program.proofs.OfLegalHistories.ValidTreeLemmas.{at_directory}
use Rattle.name_space.specs.Names.{IsNodeOf, Names, is_directory_kind, led_to, number_of}

-- ---- tags

pub tags_same : (a b : Tag) → same_tag a b ≡ true → a ≡ b
tags_same a b h =
    let parts = and_parts (a.slot == b.slot) (a.seq == b.seq) h in
    let slot = eqb-true a.slot b.slot parts.0 in
    let seq = eqb-true a.seq b.seq parts.1 in
    λ i. record { slot = slot i; seq = seq i }

pub tag_itself : (t : Tag) → same_tag t t ≡ true
tag_itself t = ap (λ a. a && (t.seq == t.seq)) (eq-eqb t.slot t.slot refl) ∙ eq-eqb t.seq t.seq refl

pub tags_differ : (a b : Tag) → same_tag a b ≡ false → a ≢ b
tags_differ a b other same = true≢false (sym (tag_itself b) ∙ ap (λ t. same_tag t b) (sym same) ∙ other)

-- no two tags are one number
pub one_tag : (a b : Tag) → a.seq < 2 ^ 16 → b.seq < 2 ^ 16 → number_of a ≡ number_of b → a ≡ b
one_tag a b low low' same =
    let slot : a.slot ≡ b.slot = omega (arith, low, low', same) in
    let seq : a.seq ≡ b.seq = omega (arith, low, low', same) in
    λ i. record { slot = slot i; seq = seq i }

-- ---- what a path leads to in an original

-- what a tag of this kind is: a file that the set has, and the node of its number
pub record IsIn (files : Bitfiles) (tree : Fileset) (tag : Tag) (of : Kind) : Type 0 where
  pub file : Bitfile
  pub there : files tag ≡ Some file
  pub kind : file.kind ≡ of
  pub node : IsSomeAnd (get tree.nodes (number_of tag)) (IsNodeOf file)
  pub links : file.links ≡ paths_to tree (number_of tag)

module _ (files : Bitfiles) (slot : FilesetSlot) (names : Names files slot) (role : slot.role ≡ Original) where
  pub all_shown : (path : Path) → IsShown slot path
  all_shown path count below =
      ap (λ (r : Role). option_map_or (is_out_of_sync r) (get slot.tree.paths (take count path)) false) role ∙ none (get slot.tree.paths (take count path))
    where
      none : (o : Option ℕ) → option_map_or (is_out_of_sync Original) o false ≡ false
      none None = refl
      none (Some number) = refl

  pub path_at : (path : Path) → get slot.tree.paths path ≡ option_map (λ (led : Tag × Kind). number_of led.0) (led_to files path)
  path_at path = names.paths path (all_shown path)

  pub number_at : (path : Path) (tag : Tag) (of : Kind) → led_to files path ≡ Some (tag, of) → get slot.tree.paths path ≡ Some (number_of tag)
  number_at path tag of led = path_at path ∙ ap (option_map (λ (led : Tag × Kind). number_of led.0)) led

  pub is_in : (path : Path) (tag : Tag) (of : Kind) → led_to files path ≡ Some (tag, of) → IsIn files slot.tree tag of
  is_in path tag of led =
      let shows = names.shown path tag of (all_shown path) led in
      let file = live (files tag) (sym shows.out ∙ ap (λ (r : Role). is_out_of_sync r (number_of tag)) role) in
      let node = shows.node file.0 file.1 in
      record { file = file.0; there = file.1; kind = node.0; node = node.1; links = node.2 }
    where
      live : (o : Option Bitfile) → not (is_some o) ≡ false → (file : Bitfile) × (o ≡ Some file)
      live None out = absurd cc
      live (Some file) out = (file, refl)

  -- a directory of the set is one of the fileset
  pub directory_at : (path : Path) (tag : Tag) → led_to files path ≡ Some (tag, Directory) → IsDirectoryAt slot.tree path
  directory_at path tag led =
      subst (λ o. IsSomeAnd (option_and_then (get slot.tree.nodes) o) (λ node. IsTrue (is_directory node))) (sym (number_at path tag Directory led))
      (names.shown path tag Directory (all_shown path) led).kind

  module _ (valid : IsValidFileset slot.tree) where
    -- a directory is at one path
    pub one_way : (place : Path) (dir : Tag) → led_to files place ≡ Some (dir, Directory) → (path : Path) (of : Kind) → led_to files path ≡ Some (dir, of) → path ≡ place
    one_way place dir led path of also =
        let had = is_in place dir Directory led in
        let node = directory had.file had.kind (get slot.tree.nodes (number_of dir)) had.node in
        let leads = number_at place dir Directory led in
        sym (valid.one_path place path (number_of dir) (at_directory slot.tree place (record { number = number_of dir; node = node.0; leads = leads; is = node.1; directory = node.2 })) leads (number_at path dir of also))
      where
        directory : (file : Bitfile) → file.kind ≡ Directory → (o : Option Node) → IsSomeAnd o (IsNodeOf file) → (node : Node) × (o ≡ Some node) × IsTrue (is_directory node)
        directory file kind None is = absurd is
        directory file kind (Some (File uid gid size logged pages)) is = let e : FileKind ≡ Directory = sym is.0 ∙ kind in absurd (cc)
        directory file kind (Some (DirectoryNode uid gid)) is = (DirectoryNode uid gid, refl, refl)

    -- a tag that the set does not have is the number of no node
    pub fresh_number : (tag : Tag) → tag.seq < 2 ^ 16 → files tag ≡ None → get slot.tree.nodes (number_of tag) ≡ None
    fresh_number tag low none = by_node (get slot.tree.nodes (number_of tag)) refl
      where
        by_led : (path : Path) (o : Option (Tag × Kind)) → led_to files path ≡ o → option_map (λ (led : Tag × Kind). number_of led.0) o ≡ Some (number_of tag) → ⊥
        by_led path None led is = absurd cc
        by_led path (Some other) led is =
            let had = is_in path other.0 other.1 led in
            let number : number_of other.0 ≡ number_of tag = ap (λ o. option_map_or (λ n. n) o 0) is in
            let same : other.0 ≡ tag = one_tag other.0 tag (names.seq other.0 had.file had.there) low number in
            let e : Some had.file ≡ None = sym had.there ∙ ap files same ∙ none in
            absurd (cc)

        by_node : (o : Option Node) → get slot.tree.nodes (number_of tag) ≡ o → o ≡ None
        by_node None is = refl
        by_node (Some node) is = let path = valid.named (number_of tag) node is in absurd (by_led path.0 (led_to files path.0) refl (sym (path_at path.0) ∙ path.1))

-- the fileset of an original's rows, told by what is at each path
pub original_names : (files : Bitfiles) (slot : FilesetSlot) → slot.role ≡ Original
    → ((path : Path) → get slot.tree.paths path ≡ option_map (λ (led : Tag × Kind). number_of led.0) (led_to files path))
    → ((path : Path) (tag : Tag) (of : Kind) → led_to files path ≡ Some (tag, of) → IsIn files slot.tree tag of)
    → ((dir : Tag) → IsDirectory files dir → IsWellFormed files dir)
    → ((tag : Tag) (file : Bitfile) → files tag ≡ Some file → (path : Path) × (led_to files path ≡ Some (tag, file.kind)))
    → ((tag : Tag) (file : Bitfile) → files tag ≡ Some file → tag.seq < 2 ^ 16) → Names files slot
original_names files slot role paths each directories live seq = record {
  paths = λ path shown. paths path;
  shown = λ path tag of shown led.
      let is = each path tag of led in record {
        kind = by_node is.file of is.kind (get slot.tree.nodes (number_of tag)) is.node;
        out = ap (λ (r : Role). is_out_of_sync r (number_of tag)) role ∙ sym (ap (λ o. not (is_some o)) is.there);
        node = λ file there.
            let same : is.file ≡ file = ap (λ o. option_map_or (λ f. f) o file) (sym is.there ∙ there) in
            subst (λ f. (f.kind ≡ of) × IsSomeAnd (get slot.tree.nodes (number_of tag)) (IsNodeOf f) × (f.links ≡ paths_to slot.tree (number_of tag))) same (is.kind, is.node, is.links);
      };
  directories = directories;
  live = λ _. live;
  seq = seq;
}
  where
    by_node : (file : Bitfile) (of : Kind) → file.kind ≡ of → (o : Option Node) → IsSomeAnd o (IsNodeOf file) → IsSomeAnd o (λ node. is_directory node ≡ is_directory_kind of)
    by_node file of kind None is = absurd is
    by_node file of kind (Some (File uid gid size logged pages)) is = ap is_directory_kind (sym is.0 ∙ kind)
    by_node file of kind (Some (DirectoryNode uid gid)) is = ap is_directory_kind (sym is.0 ∙ kind)
