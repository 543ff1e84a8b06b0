-- Directories say those in which they stand once names have changed.
use Rattle.std.proofs.Common.{◌≡◌, ◌∙◌, ◌<◌, ◌≤◌, ◌-◌, ◌^◌, length, take, OnOk, ℕ, true, false, [], ◌∷◌, Option, Some, None, Result, Ok, Err, IfOk, OnErr, IsSome, IsSomeAnd, is_some, refl, sym, ap, subst, ⊎_elim, true≢false}
use Rattle.std.proofs.Math.Logic.{∥∥₁_elim}
use Rattle.std.specs.Cmp.{nat_cmp_total}
use Rattle.std.specs.FinMap as map
use Rattle.std.specs.FinMap.{get, insert}
use Rattle.std.specs.Option.{option_and_then, option_map, option_map_or}
use Rattle.fileset_lending.specs.domain_base.declared.place.Kind.{Kind}
use Rattle.fileset_lending.specs.domain_base.declared.place.Kind.TheVariants as kind
use Rattle.fileset_lending.specs.domain_base.declared.place.Tag.{Tag}
use Rattle.fileset_lending.specs.page_store.Bitfiles.{Bitfile, Bitfiles, IsDirectory}
use Rattle.fileset_lending.specs.declared.parts.CallSettings.{CallSettings}
use Rattle.fileset_lending.specs.fileset_model.Apply.{link_checks, linked, links_full, path_taken, read_only, rename_checks, renamed, with_node}
use Rattle.fileset_lending.specs.fileset_model.Fileset.{Fileset}
use Rattle.fileset_lending.specs.fileset_values.Orders.{Path, name_cmp-IsAntisymmetric, name_cmp-total, path_cmp-total, path_cmp-IsAntisymmetric}
use Rattle.fileset_lending.specs.fileset_model.Paths.{directory_here, first_refusal, is_directory, node_at, target_refusal, walk_refusal}
use Rattle.fileset_lending.specs.fileset_values.declared.reply.Refusal.TheVariants as refusal
use Rattle.fileset_lending.specs.legal_histories.Valid.{IsValidFileset}
use Rattle.fileset_lending.proofs.OfLegalHistories.ValidCheckLemmas.{passed_free}
use Rattle.fileset_lending.specs.fileset_model.declared.fileset.FilesetSlot.{FilesetSlot}
use Rattle.fileset_lending.specs.fileset_model.declared.node.Node.{Node}
use Rattle.fileset_lending.specs.fileset_model.declared.node.Node.TheVariants as node
use Rattle.fileset_lending.proofs.OfFilesetValues.MapLemmas.{get-insert_same}
use Rattle.fileset_lending.proofs.OfLegalHistories.ValidLemmas.{passed, passed_test, some_inj}
use Rattle.fileset_lending.specs.name_space.Changes.{Creates, HasOriginal, IsOriginal, Renames, free_checks, new_node}
use Rattle.fileset_lending.specs.name_space.Names.{IsNodeOf, is_directory_kind, led_to, number_of}
use Rattle.fileset_lending.specs.name_space.declared.create.Created.{Created}
use Rattle.fileset_lending.specs.name_space.declared.rename.Renamed.{Renamed}
use Rattle.fileset_lending.proofs.OfNameSpace.Originals.{is_in, one_tag, path_at}
use Rattle.fileset_lending.proofs.OfReleaseList.Spread.{none_not, some_same}
use Rattle.fileset_lending.specs.domain_layout.CellRules.{of_original}
use Rattle.fileset_lending.specs.domain_standing.Domain.{item_in}
use Rattle.fileset_lending.specs.domain_standing.Standing.{HaveParents}
use Rattle.fileset_lending.proofs.OfStandingLaws.FilesetPut.{stood_in}
use Rattle.fileset_lending.specs.set_standing.Follow.{Said}
use Rattle.fileset_lending.specs.set_standing.Directories.{AreTags, DirectoriesFollow, IsDirectoryOf, numbers_of, said_of}
use Rattle.fileset_lending.specs.set_standing.NamesNodes.{NodesFollow}
use Rattle.fileset_lending.proofs.OfSetStanding.MovedStood.{renamed_leads, renamed_stand}
use Rattle.fileset_lending.proofs.OfSetStanding.Nodes.{path_moved}
use Rattle.name_changes.proofs.SaidParents.{parents_follow}
use Rattle.fileset_lending.proofs.OfSetStanding.Stood.{link_stands, new_stands_in}
use Rattle.fileset_lending.specs.domain_memory.Staged.{IsStaged, IsStagedForSome, MayGoBack, staged_in}
use Rattle.fileset_lending.specs.domain_memory.declared.memory.DomainMemory.{DomainMemory}
use Rattle.fileset_lending.specs.Chosen.{AreSettingsOf, CallsChange, Lends, files_in}
use Rattle.fileset_lending.specs.declared.chosen.Chosen.{Chosen}
use Rattle.fileset_lending.proofs.Back.{stays}
use Rattle.fileset_lending.proofs.Named.{lent_names, new_names_staged}
use Rattle.name_changes.specs.Stages.{KeepsParents}
use Rattle.name_changes.proofs.Calls.{its, lends_here}

-- ---- what is said of numbers

pub numbers_said : (of : Kind) (tag dir : Tag) → said_of of (number_of tag) (number_of dir) ≡ numbers_of (said_of of tag dir)
numbers_said kind.File tag dir = refl
numbers_said kind.Directory tag dir = refl

pub tags_of : (of : Kind) (tag dir : Tag) → tag.seq < 2 ^ 16 → dir.seq < 2 ^ 16 → AreTags (said_of of tag dir)
tags_of kind.File tag dir low low_dir = tt
tags_of kind.Directory tag dir low low_dir = (low, low_dir)

-- something was said, if anything was
pub some_calls : {A E : Type 0} (says : A → Said) (chosen after : Chosen) (r : Result A E) → IfOk r (λ a. CallsChange (says a) chosen after) → OnErr r (CallsChange None chosen after) → (said : Said) × CallsChange said chosen after
some_calls says chosen after (Ok a) ok err = (says a, ok)
some_calls says chosen after (Err e) ok err = (None, err)

pub on_ok_by : {A E : Type 0} (P : A → Type 0) (Q : Type 0) (r : Result A E) → IfOk r P → ((a : A) → P a → Q) → OnOk r Q
on_ok_by P Q (Ok a) is by = by a is
on_ok_by P Q (Err e) is by = tt

-- ---- what checks tell

pub made_directories : (path : Path) (of : Kind) (uid gid : ℕ) (fileset : FilesetSlot) (made : Created) → IsValidFileset fileset.tree → first_refusal (free_checks path fileset) ≡ None → get fileset.tree.nodes (number_of made.tag) ≡ None
    → get fileset.tree.paths (take (length path - 1) path) ≡ Some (number_of made.dir) → DirectoriesFollow (numbers_of (said_of of made.tag made.dir)) fileset.tree (with_node path (number_of made.tag) (new_node of uid gid) fileset.tree)
made_directories path of uid gid fileset made valid checks new into =
    let free = passed_free fileset path (passed (path_taken fileset path) [] (passed (walk_refusal fileset path) (path_taken fileset path ∷ []) checks).1).0 in
    subst (λ (s : Option (ℕ × ℕ)). DirectoriesFollow s fileset.tree (with_node path (number_of made.tag) (new_node of uid gid) fileset.tree)) (numbers_said of made.tag made.dir)
    (new_stands_in path of uid gid (number_of made.tag) (number_of made.dir) fileset.tree valid free new into)

pub linked_directories : (path to : Path) (number : ℕ) (fileset : FilesetSlot) → IsValidFileset fileset.tree → first_refusal (link_checks path to fileset) ≡ None → get fileset.tree.paths path ≡ Some number → DirectoriesFollow None fileset.tree (linked path to fileset.tree)
linked_directories path to number fileset valid checks leads =
    let full = links_full fileset path in
    let taken = path_taken fileset to in
    let walk = walk_refusal fileset to in
    let here = directory_here fileset path in
    let a = passed (read_only fileset) (target_refusal fileset path ∷ here ∷ walk ∷ taken ∷ full ∷ []) checks in
    let b = passed (target_refusal fileset path) (here ∷ walk ∷ taken ∷ full ∷ []) a.1 in
    let c = passed here (walk ∷ taken ∷ full ∷ []) b.1 in
    let d = passed walk (taken ∷ full ∷ []) c.1 in
    link_stands path to number fileset.tree valid leads (no_directory (passed_test (option_map_or is_directory (node_at fileset.tree path) false) refusal.IsDirectory c.0)) (passed_free fileset to (passed taken (full ∷ []) d.1).0)
  where
    no_directory : option_map_or is_directory (node_at fileset.tree path) false ≡ false → ¬ IsDirectoryOf fileset.tree number
    no_directory file = by_node (get fileset.tree.nodes number) (ap (λ o. option_map_or is_directory (option_and_then (get fileset.tree.nodes) o) false) (sym leads) ∙ file)
      where
        by_node : (o : Option Node) → option_map_or is_directory o false ≡ false → ¬ IsSomeAnd o (λ n. is_directory n ≡ true)
        by_node None is none = none
        by_node (Some n) is directory = true≢false (sym directory ∙ is)

pub moved_directories : (path to : Path) (fileset : FilesetSlot) (answer : Renamed) → IsValidFileset fileset.tree → first_refusal (rename_checks path to fileset) ≡ None → 1 ≤ length to → get fileset.tree.paths path ≡ Some (number_of answer.moved)
    → option_map is_directory (node_at fileset.tree path) ≡ Some (is_directory_kind answer.kind) → get fileset.tree.paths (take (length to - 1) to) ≡ Some (number_of answer.dir)
    → DirectoriesFollow (numbers_of (said_of answer.kind answer.moved answer.dir)) fileset.tree (renamed path to fileset.tree)
moved_directories path to fileset answer valid checks some leads is into =
    subst (λ (s : Option (ℕ × ℕ)). DirectoriesFollow s fileset.tree (renamed path to fileset.tree)) (numbers_said answer.kind answer.moved answer.dir)
    (renamed_stand path to fileset answer.kind (number_of answer.moved) (number_of answer.dir) valid checks some leads is into)

-- ---- a path of a directory leads to one that the set has

is_one : (file : Bitfile) (n : Node) → IsNodeOf file n → is_directory n ≡ true → file.kind ≡ kind.Directory
is_one file (node.File uid gid size logged pages) is directory = absurd (true≢false (sym directory))
is_one file (node.Directory uid gid) is directory = is.0

module _ (files : Bitfiles) (slot : FilesetSlot) (original : IsOriginal files slot) (path : Path) (tag : Tag) (low : tag.seq < 2 ^ 16) (leads : get slot.tree.paths path ≡ Some (number_of tag)) (n : Node) (there : get slot.tree.nodes (number_of tag) ≡ Some n) (directory : is_directory n ≡ true) where
  by_led : (led : Option (Tag × Kind)) → led_to files path ≡ led → option_map (λ (l : Tag × Kind). number_of l.0) led ≡ Some (number_of tag) → IsDirectory files tag
  by_led None none is = absurd (none_not (number_of tag) is)
  by_led (Some (t, of)) led is =
      let it = is_in files slot original.names original.role path t of led in
      let same : t ≡ tag = one_tag t tag (original.names.seq t it.file it.there) low (some_same (number_of t) (number_of tag) is) in
      let file_node : IsNodeOf it.file n = subst (λ o. IsSomeAnd o (IsNodeOf it.file)) (ap (λ (x : Tag). get slot.tree.nodes (number_of x)) same ∙ there) it.node in
      subst (λ o. IsSomeAnd o (λ (f : Bitfile). f.kind ≡ kind.Directory)) (sym (ap files (sym same) ∙ it.there)) (is_one it.file n file_node directory)

  directory_there : IsDirectory files tag
  directory_there = by_led (led_to files path) refl (sym (path_at files slot original.names original.role path) ∙ leads)

pub made_directory : (path : Path) (of : Kind) (uid gid : ℕ) (old new : Bitfiles) (made : Created) → HasOriginal old → ((slot : FilesetSlot) → IsOriginal old slot → Creates path (new_node of uid gid) slot old new made) → of ≡ kind.Directory → made.tag.seq < 2 ^ 16 → IsDirectory new made.tag
made_directory path of uid gid old new made has creates kind_is low =
    let c = creates has.0 has.1 in
    directory_there new (record has.0 { tree = with_node path (number_of made.tag) (new_node of uid gid) has.0.tree }) c.makes path made.tag low
    (get-insert_same path_cmp-total path_cmp-IsAntisymmetric has.0.tree.paths path (number_of made.tag))
    (new_node of uid gid) (get-insert_same nat_cmp_total map.nat_cmp-IsAntisymmetric has.0.tree.nodes (number_of made.tag) (new_node of uid gid))
    (ap (λ (k : Kind). is_directory (new_node k uid gid)) kind_is)

pub moved_directory : (path to : Path) (old new : Bitfiles) (answer : Renamed) → HasOriginal old → ((slot : FilesetSlot) → IsOriginal old slot → Renames path to slot old new answer) → answer.kind ≡ kind.Directory → answer.moved.seq < 2 ^ 16 → IsDirectory new answer.moved
moved_directory path to old new answer has renames kind_is low =
    directory_there new (record has.0 { tree = renamed path to has.0.tree }) r.makes to answer.moved low leads node_now.0 node_now.1 (its_kind node_now.0 (was_node node_now.0 node_now.1))
  where
    r : Renames path to has.0 old new answer
    r = renames has.0 has.1

    leads : get (renamed path to has.0.tree).paths to ≡ Some (number_of answer.moved)
    leads = renamed_leads path to has.0 (number_of answer.moved) has.1.valid r.allowed r.was

    node_now : (n : Node) × (get (renamed path to has.0.tree).nodes (number_of answer.moved) ≡ Some n)
    node_now = a_node (get (renamed path to has.0.tree).nodes (number_of answer.moved)) (r.makes.valid.led_to to (number_of answer.moved) leads)
      where
        a_node : (o : Option Node) → IsSome o → (n : Node) × (o ≡ Some n)
        a_node None some = absurd (true≢false (sym some))
        a_node (Some n) some = (n, refl)

    was_node : (n : Node) → get (renamed path to has.0.tree).nodes (number_of answer.moved) ≡ Some n → get has.0.tree.nodes (number_of answer.moved) ≡ Some n
    was_node n at = ⊎_elim (λ was. was) (λ new. absurd (true≢false (sym (has.1.valid.led_to path (number_of answer.moved) r.was) ∙ ap is_some new.0))) ((path_moved path to has.0.tree).nodes (number_of answer.moved) n at)

    its_kind : (n : Node) → get has.0.tree.nodes (number_of answer.moved) ≡ Some n → is_directory n ≡ true
    its_kind n at = some_inj (ap (option_map is_directory) (sym (ap (option_and_then (get has.0.tree.nodes)) r.was ∙ at)) ∙ r.kind ∙ ap (λ (k : Kind). Some (is_directory_kind k)) kind_is)

-- ---- the domain

-- the lent set makes another fileset, whose directories stand where they stood or where it is said
pub record NewNames (said : Said) (after : Bitfiles) (fileset : FilesetSlot) : Type 0 where
  pub tree : Fileset
  pub makes : IsOriginal after (record fileset { tree = tree })
  pub nodes : NodesFollow fileset.tree tree
  pub directories : DirectoriesFollow (numbers_of said) fileset.tree tree

module _ (memory : DomainMemory) (number : ℕ) (settings : CallSettings) (chosen : Chosen) (lends : Lends memory number settings chosen) (staged : ∥ IsStagedForSome memory ∥₁) (may : ∥ MayGoBack memory ∥₁) (original : of_original (item_in (staged_in memory) number) ≡ true)
    (right : AreSettingsOf memory settings) (said : Said) (after : Chosen) (now : DomainMemory) (calls : CallsChange said chosen after) (lends_now : Lends now after.rest.number after.set.settings after) (same : after.rest.number ≡ chosen.rest.number) (tags : AreTags said)
    (names : (fileset : FilesetSlot) → IsOriginal (files_in chosen) fileset → NewNames said (files_in after) fileset)
  where
    pub parents_kept : length now.listed.items ≤ now.list.room → KeepsParents memory now
    parents_kept room parents = λ n tag cells seen has directory wrong.
        ∥∥₁_elim staged (λ x y. absurd x) (λ s. ∥∥₁_elim may (λ x y. absurd x) (λ m. keeps s m n tag cells seen has directory wrong))
      where
        keeps : IsStagedForSome memory → MayGoBack memory → HaveParents (staged_in now)
        keeps s m =
            let entry = its memory number settings chosen lends staged may original in
            let here = lends_here memory number settings chosen lends staged may original right after now calls lends_now same in
            let it = stood_in (staged_in memory) s.0 s.1.stands.slots number entry.0 entry.1 in
            let new = names it.fileset_was (lent_names memory number settings chosen entry.0 s.0 s.1 m entry.1 lends it.fileset_was it.filled) in
            let slot_now : FilesetSlot = record it.fileset_was { tree = new.tree } in
            let is : IsStaged now (insert s.0 entry.0.name slot_now) = new_names_staged memory now number settings after.set.settings chosen after entry.0 s.0 s.1 m entry.1 right lends calls here room it.fileset_was slot_now it.filled new.makes new.nodes in
            parents_follow said number entry.0 (staged_in memory) (staged_in now) s.0 (insert s.0 entry.0.name slot_now) it.fileset_was slot_now
            s.1.stands s.1.sound is.stands is.sound
            entry.1 it.filled (get-insert_same name_cmp-total name_cmp-IsAntisymmetric s.0 entry.0.name slot_now)
            (stays memory now number settings after.set.settings chosen after entry.0 s.0 s.1 m entry.1 right lends calls here) tags new.directories parents
