-- What a command means for filesets without volumes has no cause that lies outside.
use Rattle.std.proofs.Common.{◌≡◌, ◌<◌, ◌*◌, ℕ, inl, inr, nat_lt, not, Bool, true, false, cond, Option, Some, None, MatchOption, List, [], ◌∷◌, length, map, get_or, sym, subst, ◌∙◌, arith}
use Rattle.std.proofs.lemmas.List.{length-map, get_or-map}
use Rattle.std.proofs.lemmas.List.Elements.{All-nil, All-push}
use Rattle.std.specs.List.{All, Contains}
use Rattle.std.specs.Option.{option_map_or}
use Rattle.std.specs.FinMap as finite
use Rattle.fileset_model.specs.domain_base.declared.limits.TheConstants.{BLOCKS_PER_PAGE, FILE_BYTES}
use Rattle.fileset_model.specs.Apply.{AnswersIfMemory, Changes, answer_of, create_checks, filesets_full, has_clone, in_fileset, is_clone, link_checks, links_of, move_checks, name_taken, not_empty, of_node, out_of_sync, quota_of, read_checks, read_of, read_only, refusal_of, rename_checks, replace_checks, stat_of, write_checks, write_quota}
use Rattle.fileset_model.specs.Fileset.{Fileset}
use Rattle.fileset_model.specs.fileset_values.Orders.{Name, Path}
use Rattle.fileset_model.specs.Pages.{absent_pages}
use Rattle.fileset_model.specs.Paths.{directories_to, directory_here, directory_refusal, file_here, first_refusal, is_directory, is_out_of_sync_at, node_at, paths_to, refuse_if, names_one, rows_of, target_refusal, walk_refusal}
use Rattle.fileset_model.specs.Filesets.{FilesetMap}
use Rattle.fileset_model.specs.Usage.{blocks_refusal, files_refusal, quota_refusal}
use Rattle.fileset_model.specs.fileset_values.declared.command.Command.{Command}
use Rattle.fileset_model.specs.fileset_values.declared.command.Command.TheVariants as command
use Rattle.fileset_model.specs.fileset_values.declared.command.Owner.{Owner}
use Rattle.fileset_model.specs.fileset_values.declared.command.Owner.TheVariants.{User, Group, Fileset as WholeFileset}
use Rattle.fileset_model.specs.fileset_values.declared.command.Place.{Place}
use Rattle.fileset_model.specs.fileset_values.declared.entry.Entry.{Entry}
use Rattle.fileset_model.specs.declared.fileset.FilesetSlot.{FilesetSlot}
use Rattle.fileset_model.specs.declared.node.Node.{Node}
use Rattle.fileset_model.specs.declared.node.Node.TheVariants.{File, Directory}
use Rattle.fileset_model.specs.fileset_values.declared.reply.Refusal.{Refusal}
use Rattle.fileset_model.specs.fileset_values.declared.reply.Refusal.TheVariants.{CloneOfClone, HasClone, NoFileset, NoPath, NotDirectory, OutOfSync, Panicked, TooFar}
use Rattle.fileset_model.specs.fileset_values.declared.reply.Reply.{Reply}
use Rattle.fileset_model.specs.fileset_values.declared.reply.Reply.TheVariants as reply
use Rattle.fileset_model.specs.fileset_values.declared.reply.Reply.TheVariants.{Refused}
use Rattle.legal_histories.specs.PlainRun.{IsInside, PlainRun}
use Rattle.legal_histories.specs.PlainRun.PlainRun.{none, entry}

-- no check refuses for such a cause
Check : Option Refusal → Type 0
Check None = Unit {0}
Check (Some refusal) = IsInside (Refused refusal)

Checks : List (Option Refusal) → Type 0
Checks [] = Unit {0}
Checks (check ∷ checks) = Check check × Checks checks

first : (checks : List (Option Refusal)) → Checks checks → Check (first_refusal checks)
unfolding Check Checks
first [] calm = tt
first (None ∷ checks) calm = first checks calm.1
first (Some refusal ∷ checks) calm = calm.0

refused_if : (test : Bool) (refusal : Refusal) → IsInside (Refused refusal) → Check (refuse_if test refusal)
unfolding Check
refused_if true refusal calm = calm
refused_if false refusal calm = tt

map_or : {A B : Type 0} (P : B → Type 0) (f : A → B) (o : Option A) (d : B) → ((a : A) → P (f a)) → P d → P (option_map_or f o d)
map_or P f None d each other = other
map_or P f (Some a) d each other = each a

mapped : {A : Type 0} (f : A → Option Refusal) → ((a : A) → Check (f a)) → (xs : List A) → Checks (map f xs)
unfolding Checks
mapped f each [] = tt
mapped f each (x ∷ xs) = (each x, mapped f each xs)

in_directory : (slot : FilesetSlot) (path : Path) → Check (directory_refusal slot path)
unfolding Check Checks
in_directory slot path =
    map_or Check (λ node. first_refusal (refuse_if (not (is_directory node)) NotDirectory ∷ refuse_if (is_out_of_sync_at slot path) OutOfSync ∷ [])) (node_at slot.tree path) (Some NoPath)
    (λ node. first (refuse_if (not (is_directory node)) NotDirectory ∷ refuse_if (is_out_of_sync_at slot path) OutOfSync ∷ []) (refused_if _ _ tt, (refused_if _ _ tt, tt))) tt

walk : (slot : FilesetSlot) (path : Path) → Check (walk_refusal slot path)
walk slot path = first (map (directory_refusal slot) (directories_to path)) (mapped (directory_refusal slot) (in_directory slot) (directories_to path))

target : (slot : FilesetSlot) (path : Path) → Check (target_refusal slot path)
unfolding Check Checks
target slot path =
    first (walk_refusal slot path ∷ refuse_if (not (finite.contains_key slot.tree.paths path)) NoPath ∷ []) (walk slot path, (refused_if _ _ tt, tt))

owner : (tree : Fileset) (who : Owner) (files blocks : ℕ) → Check (first_refusal (files_refusal tree who files ∷ blocks_refusal tree who blocks ∷ []))
unfolding Check Checks
owner tree who files blocks = first (files_refusal tree who files ∷ blocks_refusal tree who blocks ∷ []) (refused_if _ _ tt, (refused_if _ _ tt, tt))

quota : (tree : Fileset) (uid gid files blocks : ℕ) → Check (quota_refusal tree uid gid files blocks)
unfolding Check Checks
quota tree uid gid files blocks = first (of (User uid) ∷ of (Group gid) ∷ of WholeFileset ∷ [])
    (owner tree (User uid) files blocks, (owner tree (Group gid) files blocks, (owner tree WholeFileset files blocks, tt)))
  where
    of : Owner → Option Refusal
    of who = first_refusal (files_refusal tree who files ∷ blocks_refusal tree who blocks ∷ [])

written : (tree : Fileset) (offset : ℕ) (bytes : List ℕ) (node : Node) → Check (write_quota tree offset bytes node)
unfolding Check
written tree offset bytes (File uid gid size logged pages) = quota tree uid gid 0 (BLOCKS_PER_PAGE * absent_pages pages offset (length bytes))
written tree offset bytes (Directory uid gid) = tt

in_one : (all : FilesetMap) (name : Name) (checks : FilesetSlot → List (Option Refusal)) → ((slot : FilesetSlot) → Checks (checks slot)) → Check (in_fileset all name checks)
unfolding Check
in_one all name checks each = map_or Check (λ slot. first_refusal (checks slot)) (finite.get all name) (Some NoFileset) (λ slot. first (checks slot) (each slot)) tt

replaced : (from to : Path) (slot : FilesetSlot) → Check (first_refusal (replace_checks from to slot))
unfolding Check Checks
replaced from to slot = at (option_map_or is_directory (node_at slot.tree from) false)
  where
    at : (b : Bool) → Check (first_refusal (cond b (file_here slot to ∷ not_empty slot to ∷ []) (directory_here slot to ∷ [])))
    at true = first (file_here slot to ∷ not_empty slot to ∷ []) (refused_if _ _ tt, (refused_if _ _ tt, tt))
    at false = first (directory_here slot to ∷ []) (refused_if _ _ tt, tt)

chosen : (b : Bool) (x y : Option Refusal) → Check x → Check y → Check (cond b x y)
chosen true x y p q = p
chosen false x y p q = q

created : (path : Path) (uid gid : ℕ) (slot : FilesetSlot) → Checks (create_checks path uid gid slot)
unfolding Check Checks
created path uid gid slot = (refused_if _ _ tt, (walk slot path, (refused_if _ _ tt, (quota slot.tree uid gid 1 0, tt))))

moves : (from to : Path) (slot : FilesetSlot) → Checks (move_checks from to slot)
unfolding Check Checks
moves from to slot =
    (refused_if _ _ tt, (chosen (finite.contains_key slot.tree.paths to) (first_refusal (replace_checks from to slot)) None (replaced from to slot) tt, tt))

renamed : (from to : Path) (slot : FilesetSlot) → Checks (rename_checks from to slot)
unfolding Check Checks
renamed from to slot = (
  refused_if _ _ tt,
  (
    target slot from,
    (
      walk slot to,
      (chosen (names_one slot.tree from to) None (first_refusal (move_checks from to slot)) tt (first (move_checks from to slot) (moves from to slot)), tt),
    ),
  ),
)

writes : (path : Path) (offset : ℕ) (bytes : List ℕ) (slot : FilesetSlot) → Checks (write_checks path offset bytes slot)
unfolding Check Checks
writes path offset bytes slot = (
  refused_if _ _ tt,
  (
    target slot path,
    (
      refused_if _ _ tt,
      (
        refused_if _ _ tt,
        (map_or Check (write_quota slot.tree offset bytes) (node_at slot.tree path) None (written slot.tree offset bytes) tt, tt),
      ),
    ),
  ),
)

refusals : (all : FilesetMap) (c : Command) → Check (refusal_of all c)
unfolding Check Checks
refusals all (command.Mkfset fileset) = first (name_taken all fileset ∷ filesets_full all ∷ []) (refused_if _ _ tt, (refused_if _ _ tt, tt))
refusals all (command.Rmfset fileset) = in_one all fileset (λ slot. refuse_if (has_clone all fileset) HasClone ∷ []) (λ slot. (refused_if _ _ tt, tt))
refusals all (command.Clonefset fileset new_name) =
    in_one all fileset (λ slot. refuse_if (is_clone slot.role) CloneOfClone ∷ refuse_if (has_clone all fileset) HasClone ∷ name_taken all new_name ∷ filesets_full all ∷ [])
    (λ slot. (refused_if _ _ tt, (refused_if _ _ tt, (refused_if _ _ tt, (refused_if _ _ tt, tt)))))
refusals all (command.Setquota fileset who files blocks) = in_one all fileset (λ slot. read_only slot ∷ []) (λ slot. (refused_if _ _ tt, tt))
refusals all (command.Showquota fileset who) = in_one all fileset (λ slot. read_only slot ∷ []) (λ slot. (refused_if _ _ tt, tt))
refusals all (command.Create place uid gid) = in_one all place.fileset (create_checks place.path uid gid) (created place.path uid gid)
refusals all (command.Mkdir place uid gid) = in_one all place.fileset (create_checks place.path uid gid) (created place.path uid gid)
refusals all (command.Write place offset bytes) = in_one all place.fileset (write_checks place.path offset bytes) (writes place.path offset bytes)
refusals all (command.Read place offset count) =
    in_one all place.fileset (read_checks place.path) (λ slot. (target slot place.path, (refused_if _ _ tt, (refused_if _ _ tt, tt))))
refusals all (command.Truncate place size) =
    in_one all place.fileset (λ slot. read_only slot ∷ target_refusal slot place.path ∷ directory_here slot place.path ∷ refuse_if (nat_lt FILE_BYTES size) TooFar ∷ [])
    (λ slot. (refused_if _ _ tt, (target slot place.path, (refused_if _ _ tt, (refused_if _ _ tt, tt)))))
refusals all (command.Rename place to) = in_one all place.fileset (rename_checks place.path to) (renamed place.path to)
refusals all (command.Link place to) =
    in_one all place.fileset (link_checks place.path to)
    (λ slot. (refused_if _ _ tt, (target slot place.path, (refused_if _ _ tt, (walk slot to, (refused_if _ _ tt, (refused_if _ _ tt, tt)))))))
refusals all (command.Links place) =
    in_one all place.fileset (read_checks place.path) (λ slot. (target slot place.path, (refused_if _ _ tt, (refused_if _ _ tt, tt))))
refusals all (command.Unlink place) =
    in_one all place.fileset (λ slot. read_only slot ∷ target_refusal slot place.path ∷ directory_here slot place.path ∷ [])
    (λ slot. (refused_if _ _ tt, (target slot place.path, (refused_if _ _ tt, tt))))
refusals all (command.Rmdir place) =
    in_one all place.fileset (λ slot. read_only slot ∷ target_refusal slot place.path ∷ file_here slot place.path ∷ not_empty slot place.path ∷ [])
    (λ slot. (refused_if _ _ tt, (target slot place.path, (refused_if _ _ tt, (refused_if _ _ tt, tt)))))
refusals all (command.List place) =
    in_one all place.fileset (λ slot. target_refusal slot place.path ∷ file_here slot place.path ∷ out_of_sync slot place.path ∷ [])
    (λ slot. (target slot place.path, (refused_if _ _ tt, (refused_if _ _ tt, tt))))
refusals all (command.Stat place) =
    in_one all place.fileset (λ slot. target_refusal slot place.path ∷ out_of_sync slot place.path ∷ []) (λ slot. (target slot place.path, (refused_if _ _ tt, tt)))
refusals all (command.Fsync place) =
    in_one all place.fileset (λ slot. read_only slot ∷ target_refusal slot place.path ∷ []) (λ slot. (refused_if _ _ tt, (target slot place.path, tt)))
refusals all (command.Chfile place logged) =
    in_one all place.fileset (λ slot. read_only slot ∷ target_refusal slot place.path ∷ directory_here slot place.path ∷ [])
    (λ slot. (refused_if _ _ tt, (target slot place.path, (refused_if _ _ tt, tt))))
refusals all c = tt

-- ---- answers

of_one : (all : FilesetMap) (place : Place) (answer : Fileset → Node → Reply) → ((tree : Fileset) (node : Node) → IsInside (answer tree node)) → IsInside (of_node all place answer)
of_one all place answer each =
    map_or IsInside (λ slot. option_map_or (answer slot.tree) (node_at slot.tree place.path) reply.Done) (finite.get all place.fileset) reply.Done
    (λ slot. map_or IsInside (answer slot.tree) (node_at slot.tree place.path) reply.Done (each slot.tree) tt) tt

reads : (offset count : ℕ) (node : Node) → IsInside (read_of offset count node)
reads offset count (File uid gid size logged pages) = tt
reads offset count (Directory uid gid) = tt

stats : (tree : Fileset) (path : Path) (node : Node) → IsInside (stat_of tree path node)
stats tree path (File uid gid size logged pages) = tt
stats tree path (Directory uid gid) = tt

answers : (all : FilesetMap) (c : Command) → IsInside (answer_of all c)
answers all (command.Read place offset count) = of_one all place (λ tree. read_of offset count) (λ tree. reads offset count)
answers all (command.Stat place) = of_one all place (λ tree. stat_of tree place.path) (λ tree. stats tree place.path)
answers all (command.List place) =
    map_or IsInside (λ slot. reply.Names (rows_of slot.tree place.path)) (finite.get all place.fileset) reply.Done (λ slot. tt) tt
answers all (command.Links place) =
    map_or IsInside (λ slot. links_of place.path slot.tree) (finite.get all place.fileset) reply.Done
    (λ slot. map_or IsInside (λ number. reply.Count (paths_to slot.tree number)) (finite.get slot.tree.paths place.path) reply.Done (λ number. tt) tt) tt
answers all (command.Showquota fileset who) = map_or IsInside (λ slot. quota_of slot.tree who) (finite.get all fileset) reply.Done (λ slot. tt) tt
answers all c = tt

-- what a command means for filesets is not refused for such a cause
pub stays_inside : (all : FilesetMap) (c : Command) (r : Reply) (new : FilesetMap) → AnswersIfMemory all c r new → IsInside r
unfolding Check
stays_inside all c r new (inl as_meant) = at (refusal_of all c) (refusals all c) as_meant
  where
    at : (o : Option Refusal) → Check o → MatchOption o ((r ≡ answer_of all c) × Changes all c new) (λ refusal. (r ≡ Refused refusal) × (new ≡ all)) → IsInside r
    at None calm is = subst IsInside (sym is.0) (answers all c)
    at (Some refusal) calm is = subst IsInside (sym is.0) calm
stays_inside all c r new (inr for_memory) = subst IsInside (sym for_memory.0) tt

inside_history : (start : FilesetMap) (history : List Entry) (all : FilesetMap) → PlainRun start history all → All (λ e. IsInside e.reply) history
inside_history start _ _ none = All-nil (λ e. IsInside e.reply)
inside_history start _ _ (entry {history} {all} before e new is) = All-push (λ e. IsInside e.reply) history e (inside_history start history all before) (stays_inside all e.command e.reply new is)

-- no reply of such a history is a panic
pub no_panic : (start : FilesetMap) (history : List Entry) (all : FilesetMap) (e : Entry) (volume : ℕ) → PlainRun start history all
    → Contains (map (λ before. before.reply) history) (Refused (Panicked volume)) → ⊥
no_panic start history all e volume plain found =
    let within : found.0 < length history = omega (arith, found.1, length-map history (λ (before : Entry). before.reply)) in
    let is : (get_or history found.0 e).reply ≡ Refused (Panicked volume) = sym (get_or-map (λ (before : Entry). before.reply) history found.0 e (Refused (Panicked volume)) within) ∙ found.2 in
    subst IsInside is (inside_history start history all plain found.0 e within)
