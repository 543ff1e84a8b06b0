-- Each command that is answered keeps all filesets valid.
use Rattle.std.proofs.Common.{◌≡◌, ◌≢◌, ℕ, ◌+◌, ◌<◌, ◌≤◌, Bool, true, false, cond, ◌||◌, nat_le, nat_lt, is_some, List, [], ◌∷◌, ◌++◌, drop, length, length-append, MatchOption, Option, Some, None, refl, sym, ap, subst, ◌∙◌, inl, inr, true≢false, leb-false, ltb-false, arith, if◌then◌else◌}
use Rattle.std.specs.Option.{option_map_or}
use Rattle.std.specs.Cmp.Lexicographic.{bytes_decides}
use Rattle.std.specs.FinMap as map
use Rattle.fileset_model.specs.domain_base.declared.limits.TheConstants.{FILE_BYTES}
use Rattle.fileset_model.specs.fileset_values.Orders.{Name, Path}
use Rattle.fileset_model.specs.Fileset.{Fileset}
use Rattle.fileset_model.specs.domain_base.Limits.{max_links}
use Rattle.fileset_model.specs.Paths.{begins_with, directory_here, file_here, first_refusal, is_directory, names_one, node_at, paths_to, refuse_if, target_refusal, walk_refusal}
use Rattle.fileset_model.specs.Filesets.{FilesetMap}
use Rattle.legal_histories.specs.Valid.{AreValid, HasWholePages, IsValidFileset}
use Rattle.fileset_model.specs.Usage.{quota_refusal, with_limits}
use Rattle.fileset_model.specs.Apply.{Answers, AnswersIfMemory, Changes, IsUnused, MakesNode, answer_of, create_checks, filesets_full, flagged_node, has_clone, in_fileset, is_clone, is_clone_of, linked, links_full, move_checks, moved, renamed, name_taken, not_empty, path_taken, read_only, refusal_of, replace_checks, truncated_node, with_change, with_node, with_tree, without, write_quota, written_node, moved_path}
use Rattle.fileset_model.specs.fileset_values.declared.command.Command.{Command}
use Rattle.fileset_model.specs.fileset_values.declared.command.Command.TheVariants.{Mkfset, Rmfset, Clonefset, Showfsets, Setquota, Showquota, Create, Mkdir, Write, Read, Truncate, Rename, Link, Links, Unlink, Rmdir, List as ListNames, Stat, Fsync, Chfile, Sync, Cancel}
use Rattle.fileset_model.specs.fileset_values.declared.command.Place.{Place}
use Rattle.fileset_model.specs.declared.fileset.FilesetSlot.{FilesetSlot}
use Rattle.fileset_model.specs.declared.fileset.Role.{Role}
use Rattle.fileset_model.specs.declared.fileset.Role.TheVariants.{Original, CloneOf}
use Rattle.fileset_model.specs.declared.node.Node.{Node}
use Rattle.fileset_model.specs.declared.node.Node.TheVariants.{File, Directory}
use Rattle.fileset_model.specs.fileset_values.declared.reply.Refusal.{Refusal}
use Rattle.fileset_model.specs.fileset_values.declared.reply.Refusal.TheVariants.{CloneOfClone, FilesetExists, FilesetsFull, HasClone, IntoItself, IsDirectory, LinksFull, ReadOnly, TooFar}
use Rattle.fileset_model.specs.fileset_values.declared.reply.Reply.{Reply}
use Rattle.fileset_model.specs.fileset_values.declared.reply.Reply.TheVariants.{Refused}
use Rattle.legal_histories.proofs.ValidLemmas.{original_tree, passed, passed_in, passed_test, with_tree-valid}
use Rattle.legal_histories.proofs.ValidCheckLemmas.{IsLeaf, absent, leaf_empty, leaf_file, passed_free, passed_walk}
use Rattle.legal_histories.proofs.ValidMoveLemmas.{begins_of, moved-valid, went}
use Rattle.legal_histories.proofs.ValidPageLemmas.{truncated-whole, written-whole}
use Rattle.legal_histories.proofs.ValidSetLemmas.{clone-joins, insert-valid, new-joins, remove-valid}
use Rattle.legal_histories.proofs.ValidTreeLemmas.{directory_of, linked-valid, nothing_below, some≢none, with_change-valid, with_limits-valid, with_node-valid, without-absent, without-directory, without-valid}
use Rattle.fileset_model.proofs.WholeLemmas.{with_clone-at}

-- ---- commands that change the tree of an original

original_role : (role : Role) → is_clone role ≡ false → role ≡ Original
original_role Original h = refl
original_role (CloneOf original out) h = absurd (true≢false h)

is_original : (slot : FilesetSlot) → read_only slot ≡ None → slot.role ≡ Original
is_original slot h = original_role slot.role (passed_test (is_clone slot.role) ReadOnly h)

-- where the checks begin with that of a clone, and a change of a valid tree that passes them is valid
tree_changes-valid : (all new : FilesetMap) (name : Name) (checks : FilesetSlot → List (Option Refusal)) (change : Fileset → Fileset) → AreValid all
    → in_fileset all name (λ slot. read_only slot ∷ checks slot) ≡ None
    → ((slot : FilesetSlot) → map.get all name ≡ Some slot → IsValidFileset slot.tree → first_refusal (checks slot) ≡ None → IsValidFileset (change slot.tree))
    → new ≡ with_tree all name change → AreValid new
tree_changes-valid all new name checks change v none valid is =
    let at = passed_in all name (λ slot. read_only slot ∷ checks slot) none in
    let slot = at.0 in
    let both = passed (read_only slot) (checks slot) at.2 in
    let original = is_original slot both.0 in
    subst AreValid (sym is) (with_tree-valid all name slot change v at.1 original (valid slot at.1 (original_tree slot original (v.each name slot at.1)) both.1))

-- ---- a new file or directory

pub unused_here : (all : FilesetMap) (name : Name) (slot : FilesetSlot) (number : ℕ) → IsUnused all name number → map.get all name ≡ Some slot → map.get slot.tree.nodes number ≡ None
unused_here all name slot number unused is = unused name slot is (ap (λ b. b || is_clone_of name slot.role) ((bytes_decides name name).1 refl))

makes-valid : (all new : FilesetMap) (place : Place) (uid gid : ℕ) (node : Node) → AreValid all → in_fileset all place.fileset (create_checks place.path uid gid) ≡ None
    → HasWholePages node → MakesNode all place node new → AreValid new
makes-valid all new place uid gid node v none pages makes =
    let path = place.path in
    let checks : FilesetSlot → List (Option Refusal) = λ slot. walk_refusal slot path ∷ path_taken slot path ∷ quota_refusal slot.tree uid gid 1 0 ∷ [] in
    tree_changes-valid all new place.fileset checks (with_node path makes.0 node) v none
    (λ slot is tree h.
    let walk = passed (walk_refusal slot path) (path_taken slot path ∷ quota_refusal slot.tree uid gid 1 0 ∷ []) h in
    let free = passed_free slot path (passed (path_taken slot path) (quota_refusal slot.tree uid gid 1 0 ∷ []) walk.1).0 in
    with_node-valid slot.tree path makes.0 node tree free (unused_here all place.fileset slot makes.0 makes.1 is) pages (λ front name e. passed_walk slot path front name walk.0 e))
    makes.2

-- ---- the content of a file

written_node-kind : (offset : ℕ) (bytes : List ℕ) (node : Node) → is_directory (written_node offset bytes node) ≡ is_directory node
written_node-kind offset bytes (File uid gid size logged pages) = refl
written_node-kind offset bytes (Directory uid gid) = refl

written_node-whole : (offset : ℕ) (bytes : List ℕ) → offset + length bytes ≤ 536870912 → (node : Node) → HasWholePages node → HasWholePages (written_node offset bytes node)
written_node-whole offset bytes fits (File uid gid size logged pages) all = written-whole pages offset bytes fits all
written_node-whole offset bytes fits (Directory uid gid) all = all

truncated_node-kind : (cut : ℕ) (node : Node) → is_directory (truncated_node cut node) ≡ is_directory node
truncated_node-kind cut (File uid gid size logged pages) = refl
truncated_node-kind cut (Directory uid gid) = refl

truncated_node-whole : (cut : ℕ) (node : Node) → HasWholePages node → HasWholePages (truncated_node cut node)
truncated_node-whole cut (File uid gid size logged pages) all = truncated-whole pages cut all
truncated_node-whole cut (Directory uid gid) all = all

flagged_node-kind : (flag : Bool) (node : Node) → is_directory (flagged_node flag node) ≡ is_directory node
flagged_node-kind flag (File uid gid size logged pages) = refl
flagged_node-kind flag (Directory uid gid) = refl

flagged_node-whole : (flag : Bool) (node : Node) → HasWholePages node → HasWholePages (flagged_node flag node)
flagged_node-whole flag (File uid gid size logged pages) all = all
flagged_node-whole flag (Directory uid gid) all = all

fits_in_file : (n : ℕ) → refuse_if (nat_lt FILE_BYTES n) TooFar ≡ None → n ≤ 536870912
fits_in_file n h = ltb-false FILE_BYTES n (passed_test (nat_lt FILE_BYTES n) TooFar h)

-- ---- a rename

longer_path : (path : Path) (name : Name) → path ++ name ∷ [] ≢ path
longer_path path name e = let n : length path + 1 ≡ length path = sym (length-append path (name ∷ [])) ∙ ap length e in absurd (omega arith)

-- what stands at the second path can be taken away, or nothing does
replaced_leaf : (slot : FilesetSlot) (from to : Path) → IsValidFileset slot.tree → (if map.contains_key slot.tree.paths to then first_refusal (replace_checks from to slot) else None) ≡ None → IsLeaf slot.tree to
replaced_leaf slot from to v h =
    elim (map.get slot.tree.paths to) as (λ o. map.get slot.tree.paths to ≡ o → cond (is_some o) (first_refusal (replace_checks from to slot)) None ≡ None → IsLeaf slot.tree to) [
      | None ↦ λ is none. record {
        no_root = λ e. let root = directory_of slot.tree [] v.root in some≢none root.number (sym root.leads ∙ ap (map.get slot.tree.paths) (sym e) ∙ is);
        alone = λ name. nothing_below slot.tree to (name ∷ []) v is;
      }
      | Some number ↦ λ is none.
          elim (option_map_or is_directory (node_at slot.tree from) false) as (λ b. first_refusal (cond b (file_here slot to ∷ not_empty slot to ∷ []) (directory_here slot to ∷ [])) ≡ None → IsLeaf slot.tree to) [
            | true ↦ λ checks. leaf_empty slot to (passed (not_empty slot to) [] (passed (file_here slot to) (not_empty slot to ∷ []) checks).1).0
            | false ↦ λ checks. leaf_file slot to v (passed (directory_here slot to) [] checks).0
          ] none
    ] refl h

renamed-valid : (slot : FilesetSlot) (from to : Path) → IsValidFileset slot.tree → walk_refusal slot to ≡ None → first_refusal (move_checks from to slot) ≡ None → IsValidFileset (moved from to (without to slot.tree))
renamed-valid slot from to v walk h =
    let tree = slot.tree in
    let second : Option Refusal = if map.contains_key tree.paths to then first_refusal (replace_checks from to slot) else None in
    let both = passed (refuse_if (begins_with to from) IntoItself) (second ∷ []) h in
    let apart : begins_with to from ≡ false = passed_test (begins_with to from) IntoItself both.0 in
    let leaf = replaced_leaf slot from to v (passed second [] both.1).0 in
    let left : IsValidFileset (without to tree) = without-valid tree to v leaf.no_root leaf.alone in
    moved-valid (without to tree) from to left
    (λ e. true≢false (sym (begins_of to from to (ap (λ (f : Path). f ++ to) (sym e))) ∙ apart))
    apart
    (λ rest. nothing_below (without to tree) to rest left (without-absent tree to))
    (λ front name e. without-directory tree to front v (λ same. longer_path front name (e ∙ sym same)) (passed_walk slot to front name walk e))

-- what does not begin with the first path, and is not replaced, stays where it is
pub renamed-keeps : (slot : FilesetSlot) (from to : Path) → IsValidFileset slot.tree → walk_refusal slot to ≡ None → first_refusal (move_checks from to slot) ≡ None
    → (path : Path) (number : ℕ) → begins_with path from ≡ false → map.get (without to slot.tree).paths path ≡ Some number
    → map.get (moved from to (without to slot.tree)).paths path ≡ Some number
renamed-keeps slot from to v walk h path number other at =
    let tree = slot.tree in
    let second : Option Refusal = if map.contains_key tree.paths to then first_refusal (replace_checks from to slot) else None in
    let both = passed (refuse_if (begins_with to from) IntoItself) (second ∷ []) h in
    let apart : begins_with to from ≡ false = passed_test (begins_with to from) IntoItself both.0 in
    let leaf = replaced_leaf slot from to v (passed second [] both.1).0 in
    let left : IsValidFileset (without to tree) = without-valid tree to v leaf.no_root leaf.alone in
    let stays : moved_path from to path ≡ path = ap (λ b. cond b (to ++ drop (length from) path) path) other in
    subst (λ p. map.get (moved from to (without to tree)).paths p ≡ Some number) stays
    (went (without to tree) from to left
    (λ e. true≢false (sym (begins_of to from to (ap (λ (f : Path). f ++ to) (sym e))) ∙ apart))
    apart
    (λ rest. nothing_below (without to tree) to rest left (without-absent tree to))
    (λ front name e. without-directory tree to front v (λ same. longer_path front name (e ∙ sym same)) (passed_walk slot to front name walk e))
    path number at)

-- a rename changes nothing where both paths lead to one number
rename-valid : (slot : FilesetSlot) (from to : Path) → IsValidFileset slot.tree → first_refusal (target_refusal slot from ∷ walk_refusal slot to
    ∷ (if names_one slot.tree from to then None else first_refusal (move_checks from to slot)) ∷ []) ≡ None → IsValidFileset (renamed from to slot.tree)
rename-valid slot from to v passes =
    elim (names_one slot.tree from to) as (λ b. first_refusal (target_refusal slot from ∷ walk_refusal slot to ∷ cond b None (first_refusal (move_checks from to slot)) ∷ []) ≡ None
    → IsValidFileset (cond b slot.tree (moved from to (without to slot.tree)))) [
      | true ↦ λ h. v
      | false ↦ λ h.
          let walk = passed (walk_refusal slot to) (first_refusal (move_checks from to slot) ∷ []) (passed (target_refusal slot from) (walk_refusal slot to ∷ first_refusal (move_checks from to slot) ∷ []) h).1 in
          renamed-valid slot from to v walk.0 (passed (first_refusal (move_checks from to slot)) [] walk.1).0
    ] passes

has_place : (slot : FilesetSlot) (path : Path) (number : ℕ) → links_full slot path ≡ None → map.get slot.tree.paths path ≡ Some number → paths_to slot.tree number < 1000
has_place slot path number h leads =
    let few : nat_le max_links (paths_to slot.tree number) ≡ false =
    sym (ap (λ o. option_map_or (λ n. nat_le max_links (paths_to slot.tree n)) o false) leads)
    ∙ passed_test (option_map_or (λ n. nat_le max_links (paths_to slot.tree n)) (map.get slot.tree.paths path) false) LinksFull h in
    leb-false 1000 (paths_to slot.tree number) few

link-valid : (slot : FilesetSlot) (path to : Path) → IsValidFileset slot.tree → first_refusal (target_refusal slot path ∷ directory_here slot path ∷ walk_refusal slot to ∷ path_taken slot to ∷ links_full slot path ∷ []) ≡ None
    → IsValidFileset (linked path to slot.tree)
link-valid slot path to v passes =
    let one = passed (target_refusal slot path) (directory_here slot path ∷ walk_refusal slot to ∷ path_taken slot to ∷ links_full slot path ∷ []) passes in
    let two = passed (directory_here slot path) (walk_refusal slot to ∷ path_taken slot to ∷ links_full slot path ∷ []) one.1 in
    let three = passed (walk_refusal slot to) (path_taken slot to ∷ links_full slot path ∷ []) two.1 in
    let four = passed (path_taken slot to) (links_full slot path ∷ []) three.1 in
    linked-valid slot.tree path to v
    (passed_test (option_map_or is_directory (node_at slot.tree path) false) IsDirectory two.0)
    (passed_free slot to four.0)
    (λ number leads. has_place slot path number (passed (links_full slot path) [] four.1).0 leads)
    (λ front name e. passed_walk slot to front name three.0 e)

-- ---- filesets

pub free_name : (all : FilesetMap) (name : Name) → name_taken all name ≡ None → map.get all name ≡ None
free_name all name h = absent (map.get all name) (passed_test (map.contains_key all name) FilesetExists h)

has_room : (all : FilesetMap) → filesets_full all ≡ None → map.len all < 16
has_room all h = leb-false 16 (map.len all) (passed_test (nat_le 16 (map.len all)) FilesetsFull h)

clones-valid : (all new : FilesetMap) (name new_name : Name) → AreValid all → refusal_of all (Clonefset name new_name) ≡ None → Changes all (Clonefset name new_name) new → AreValid new
clones-valid all new name new_name v none change =
    let checks : FilesetSlot → List (Option Refusal) = λ slot. refuse_if (is_clone slot.role) CloneOfClone ∷ refuse_if (has_clone all name) HasClone ∷ name_taken all new_name ∷ filesets_full all ∷ [] in
    let at = passed_in all name checks none in
    let slot = at.0 in
    let one = passed (refuse_if (is_clone slot.role) CloneOfClone) (refuse_if (has_clone all name) HasClone ∷ name_taken all new_name ∷ filesets_full all ∷ []) at.2 in
    let two = passed (refuse_if (has_clone all name) HasClone) (name_taken all new_name ∷ filesets_full all ∷ []) one.1 in
    let three = passed (name_taken all new_name) (filesets_full all ∷ []) two.1 in
    let original = original_role slot.role (passed_test (is_clone slot.role) CloneOfClone one.0) in
    let alone = passed_test (has_clone all name) HasClone two.0 in
    subst AreValid (sym (change ∙ with_clone-at all name new_name slot at.1))
    (insert-valid all new_name _ v (free_name all new_name three.0) (has_room all (passed (filesets_full all) [] three.1).0) (clone-joins all name slot v at.1 original alone))

-- ---- each command

pub changes-valid : (old new : FilesetMap) (command : Command) → AreValid old → refusal_of old command ≡ None → Changes old command new → AreValid new
changes-valid old new (Mkfset fileset) v none change =
    let both = passed (name_taken old fileset) (filesets_full old ∷ []) none in
    subst AreValid (sym change.1) (insert-valid old fileset _ v (free_name old fileset both.0) (has_room old (passed (filesets_full old) [] both.1).0) (new-joins old change.0))
changes-valid old new (Rmfset fileset) v none change =
    let at = passed_in old fileset (λ slot. refuse_if (has_clone old fileset) HasClone ∷ []) none in
    subst AreValid (sym change) (remove-valid old fileset v (passed_test (has_clone old fileset) HasClone (passed (refuse_if (has_clone old fileset) HasClone) [] at.2).0))
changes-valid old new (Clonefset fileset new_name) v none change = clones-valid old new fileset new_name v none change
changes-valid old new (Setquota fileset who files blocks) v none change =
    tree_changes-valid old new fileset (λ slot. []) (λ tree. record tree { limits = with_limits tree.limits who (record { files = files; blocks = blocks }) }) v none
    (λ slot at tree passes. with_limits-valid slot.tree who (record { files = files; blocks = blocks }) tree) change
changes-valid old new (Create place uid gid) v none change =
    makes-valid old new place uid gid (File uid gid 0 false map.empty) v none (λ q page is. absurd (some≢none page (sym is ∙ map.get-empty _ q))) change
changes-valid old new (Mkdir place uid gid) v none change = makes-valid old new place uid gid (Directory uid gid) v none tt change
changes-valid old new (Write place offset bytes) v none change =
    let path = place.path in
    let quota : FilesetSlot → Option Refusal = λ slot. option_map_or (write_quota slot.tree offset bytes) (node_at slot.tree path) None in
    tree_changes-valid old new place.fileset (λ slot. target_refusal slot path ∷ directory_here slot path ∷ refuse_if (nat_lt FILE_BYTES (offset + length bytes)) TooFar ∷ quota slot ∷ []) (with_change path (written_node offset bytes)) v none
    (λ slot at tree passes.
    let far : Option Refusal = refuse_if (nat_lt FILE_BYTES (offset + length bytes)) TooFar in
    let one = passed (target_refusal slot path) (directory_here slot path ∷ far ∷ quota slot ∷ []) passes in
    let two = passed (directory_here slot path) (far ∷ quota slot ∷ []) one.1 in
    with_change-valid slot.tree path (written_node offset bytes) tree (written_node-kind offset bytes) (written_node-whole offset bytes (fits_in_file (offset + length bytes) (passed far (quota slot ∷ []) two.1).0)))
    change
changes-valid old new (Truncate place size) v none change =
    tree_changes-valid old new place.fileset (λ slot. target_refusal slot place.path ∷ directory_here slot place.path ∷ refuse_if (nat_lt FILE_BYTES size) TooFar ∷ []) (with_change place.path (truncated_node size)) v none
    (λ slot at tree passes. with_change-valid slot.tree place.path (truncated_node size) tree (truncated_node-kind size) (truncated_node-whole size)) change
changes-valid old new (Rename place to) v none change =
    let from = place.path in
    tree_changes-valid old new place.fileset
    (λ slot. target_refusal slot from ∷ walk_refusal slot to ∷ (if names_one slot.tree from to then None else first_refusal (move_checks from to slot)) ∷ []) (renamed from to) v none
    (λ slot at tree passes. rename-valid slot from to tree passes) change
changes-valid old new (Link place to) v none change =
    let path = place.path in
    tree_changes-valid old new place.fileset (λ slot. target_refusal slot path ∷ directory_here slot path ∷ walk_refusal slot to ∷ path_taken slot to ∷ links_full slot path ∷ []) (linked path to) v none
    (λ slot at tree passes. link-valid slot path to tree passes) change
changes-valid old new (Links place) v none change = subst AreValid (sym change) v
changes-valid old new (Unlink place) v none change =
    tree_changes-valid old new place.fileset (λ slot. target_refusal slot place.path ∷ directory_here slot place.path ∷ []) (without place.path) v none
    (λ slot at tree passes.
    let rest = (passed (target_refusal slot place.path) (directory_here slot place.path ∷ []) passes).1 in
    let leaf = leaf_file slot place.path tree (passed (directory_here slot place.path) [] rest).0 in
    without-valid slot.tree place.path tree leaf.no_root leaf.alone)
    change
changes-valid old new (Rmdir place) v none change =
    tree_changes-valid old new place.fileset (λ slot. target_refusal slot place.path ∷ file_here slot place.path ∷ not_empty slot place.path ∷ []) (without place.path) v none
    (λ slot at tree passes.
    let one = passed (target_refusal slot place.path) (file_here slot place.path ∷ not_empty slot place.path ∷ []) passes in
    let two = passed (file_here slot place.path) (not_empty slot place.path ∷ []) one.1 in
    let leaf = leaf_empty slot place.path (passed (not_empty slot place.path) [] two.1).0 in
    without-valid slot.tree place.path tree leaf.no_root leaf.alone)
    change
changes-valid old new (Chfile place logged) v none change =
    tree_changes-valid old new place.fileset (λ slot. target_refusal slot place.path ∷ directory_here slot place.path ∷ []) (with_change place.path (flagged_node logged)) v none
    (λ slot at tree passes. with_change-valid slot.tree place.path (flagged_node logged) tree (flagged_node-kind logged) (flagged_node-whole logged)) change
changes-valid old new Showfsets v none change = subst AreValid (sym change) v
changes-valid old new (Showquota fileset who) v none change = subst AreValid (sym change) v
changes-valid old new (Read place offset count) v none change = subst AreValid (sym change) v
changes-valid old new (ListNames place) v none change = subst AreValid (sym change) v
changes-valid old new (Stat place) v none change = subst AreValid (sym change) v
changes-valid old new (Fsync place) v none change = subst AreValid (sym change) v
changes-valid old new Sync v none change = subst AreValid (sym change) v
changes-valid old new Cancel v none change = subst AreValid (sym change) v
changes-valid old new command v none change = absurd change

pub answered-valid : (old new : FilesetMap) (command : Command) (reply : Reply) → AreValid old → Answers old command reply new → AreValid new
answered-valid old new command reply v answers =
    elim (refusal_of old command) as (λ o. refusal_of old command ≡ o
    → MatchOption o ((reply ≡ answer_of old command) × Changes old command new) (λ refusal. (reply ≡ Refused refusal) × (new ≡ old)) → AreValid new) [
      | None ↦ λ none is. changes-valid old new command v none is.1
      | Some refusal ↦ λ refused is. subst AreValid (sym is.1) v
    ] refl answers

pub answers-valid : (old new : FilesetMap) (command : Command) (reply : Reply) → AreValid old → AnswersIfMemory old command reply new → AreValid new
answers-valid old new command reply v answers = elim answers as (λ _. AreValid new) [
  | inl is ↦ answered-valid old new command reply v is
  | inr unchanged ↦ subst AreValid (sym unchanged.1) v
]
