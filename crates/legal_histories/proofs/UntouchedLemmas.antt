-- An entry that does not touch a file leaves it.
use Rattle.std.proofs.Common.{◌≡◌, ◌≢◌, ℕ, true, false, List, Option, Some, None, refl, sym, ap, subst, ◌∙◌, inl, inr, MatchOption, arith, cond, if◌then◌else◌, ◌∷◌, ◌++◌, []}
use Rattle.std.specs.FinMap as map
use Rattle.std.specs.List.{Contains}
use Rattle.fileset_model.specs.Apply.{Answers, Changes, MakesNode, answer_of, create_checks, filesets_full, flagged_node, has_clone, in_fileset, is_clone, is_named_elsewhere, link_checks, linked, links_full, move_checks, moved, name_taken, links_of, of_node, path_taken, quota_of, read_of, read_only, refusal_of, rename_checks, renamed, stat_of, truncated_node, with_change, with_node, with_tree, without, written_node}
use Rattle.legal_histories.specs.Valid.{AreValid}
use Rattle.legal_histories.proofs.ValidLemmas.{original_tree, passed, passed_in, some_inj}
use Rattle.legal_histories.proofs.ValidAnswerLemmas.{free_name, renamed-keeps, unused_here}
use Rattle.legal_histories.proofs.ValidCheckLemmas.{passed_free}
use Rattle.fileset_model.proofs.WholeLemmas.{with_clone-at}
use Rattle.fileset_model.specs.Paths.{begins_with, directory_here, first_refusal, names_one, node_at, paths_to, refuse_if, rows_of, target_refusal, walk_refusal}
use Rattle.fileset_model.specs.Usage.{quota_refusal}
use Rattle.fileset_model.specs.fileset_values.declared.reply.Refusal.{Refusal}
use Rattle.fileset_model.specs.fileset_values.declared.reply.Refusal.TheVariants.{CloneOfClone, HasClone}
use Rattle.fileset_model.specs.declared.node.Node.TheVariants.{File, Directory}
use Rattle.std.proofs.lemmas.List.Elements.{All-cons, All-contains, All-nil, Contains-append_cases, Contains-append_left, Contains-append_right}
use Rattle.std.specs.FinMap.Entries.{find}
use Rattle.std.specs.List.{cons_option, filter_map}
use Rattle.std.specs.Cmp.{Equal-is}
use Rattle.fileset_model.proofs.OfFilesetValues.MapLemmas.{get-insert_other, get-remove_other, got-insert}
use Rattle.fileset_model.proofs.SlotLemmas.{with_tree-at, with_tree-missing}
use Rattle.legal_histories.specs.Changed.{at, at_and_below, changed_by, parent_of, removed_at}
use Rattle.std.specs.Ordering.{eq_by_cmp}
use Rattle.std.specs.Cmp.{nat_cmp_total}
use Rattle.fileset_model.specs.Fileset.{Fileset}
use Rattle.fileset_model.specs.fileset_values.Orders.{Name, Path, name_cmp-total, name_cmp-IsAntisymmetric, path_cmp, path_cmp-total, path_cmp-IsAntisymmetric}
use Rattle.fileset_model.specs.Filesets.{FilesetMap}
use Rattle.fileset_model.specs.fileset_values.declared.command.Command.{Command}
use Rattle.fileset_model.specs.fileset_values.declared.command.Command.TheVariants as command
use Rattle.fileset_model.specs.fileset_values.declared.command.Place.{Place}
use Rattle.fileset_model.specs.fileset_values.declared.entry.Entry.{Entry}
use Rattle.fileset_model.specs.declared.fileset.FilesetSlot.{FilesetSlot}
use Rattle.fileset_model.specs.declared.fileset.Role.TheVariants.{Original}
use Rattle.fileset_model.specs.declared.node.Node.{Node}
use Rattle.legal_histories.specs.Marks.{GainsMarks, SlotGains}
use Rattle.legal_histories.specs.Point.{Point}
use Rattle.legal_histories.specs.State.{State}
use Rattle.legal_histories.specs.Step.{MayBeMarked, Silent, Step, after_cancel}
use Rattle.legal_histories.specs.Step.Silent.{marks, closes, log_leaves, upgrades}
use Rattle.legal_histories.specs.Step.Step.{applied, on_volumes, no_space, read_fault, panicked, cancelled, out_of_memory}
use Rattle.legal_histories.specs.VolumeReply.{Carries, VolumeReply, judged_in}
use Rattle.legal_histories.specs.Volumes.{volume_refusal, with_stripe}
use Rattle.fileset_model.specs.fileset_values.declared.reply.Reply.{Reply}
use Rattle.fileset_model.specs.fileset_values.declared.reply.Reply.TheVariants.{Count, Done, Names, Refused}
use Rattle.std.specs.FinSet as set
use Rattle.std.specs.Option.{option_map_or}
use Rattle.legal_histories.proofs.MarkedLemmas.{opened_filesets}
use Rattle.legal_histories.specs.Synced.{Leaves, may_have_acted}

none≢some : {X : Type 0} (x : X) → None ≡ Some x → ⊥
none≢some x e = cc

-- the file with a number stands at a place of an original
pub record Has (place : Place) (number : ℕ) (node : Node) (all : FilesetMap) : Type 0 where
  pub slot : FilesetSlot
  pub is : map.get all place.fileset ≡ Some slot
  pub original : slot.role ≡ Original
  pub leads : map.get slot.tree.paths place.path ≡ Some number
  pub stands : map.get slot.tree.nodes number ≡ Some node

-- ---- commands on volumes leave the filesets

same_filesets : (s new : State) → new ≡ s → new.filesets ≡ s.filesets
same_filesets s new same = ap (λ (s : State). s.filesets) same

striped_filesets : (place : Place) (s : State) → (with_stripe place s).filesets ≡ s.filesets
striped_filesets place s = elim (map.get s.filesets place.fileset) as (λ o. (option_map_or (λ slot. option_map_or (λ number. record s { striped = set.insert s.striped (place.fileset, number) })
    (map.get slot.tree.paths place.path) s) o s).filesets ≡ s.filesets) [
      | None ↦ refl
      | Some slot ↦ elim (map.get slot.tree.paths place.path) as (λ o. (option_map_or (λ number. record s { striped = set.insert s.striped (place.fileset, number) }) o s).filesets ≡ s.filesets) [
        | None ↦ refl
        | Some number ↦ refl
      ]
    ]

carried_filesets : (point : Point) (c : Command) (reply : Reply) (new : State) → Carries point c reply new → new.filesets ≡ point.state.filesets
carried_filesets point command.Showfdmn reply new answer = same_filesets point.state new answer.0
carried_filesets point (command.Showfile place) reply new answer = same_filesets point.state new answer.0
carried_filesets point (command.Stripe width place) reply new answer = ap (λ (s : State). s.filesets) answer.1 ∙ striped_filesets place point.state
carried_filesets point (command.Migrate place first count from to) reply new answer = same_filesets point.state new answer.0
carried_filesets point command.Balance reply new answer = same_filesets point.state new answer.0
carried_filesets point (command.Addvol vol) reply new answer = ap (λ (s : State). s.filesets) answer.1
carried_filesets point (command.ChvolA vol) reply new answer = ap (λ (s : State). s.filesets) answer.1 ∙ opened_filesets true vol point.state
carried_filesets point (command.Switchlog vol) reply new (inl done) = ap (λ (s : State). s.filesets) done.1
carried_filesets point (command.Switchlog vol) reply new (inr full) = same_filesets point.state new full.2
carried_filesets point (command.Rmvol vol) reply new (inl done) = ap (λ (s : State). s.filesets) done.1.rest
carried_filesets point (command.Rmvol vol) reply new (inr full) = ap (λ (s : State). s.filesets) full.1 ∙ opened_filesets false vol point.state
carried_filesets point command.Upgrade reply new answer = ap (λ (s : State). s.filesets) answer.1
carried_filesets point (command.Defragment place) reply new answer = same_filesets point.state new answer.0
carried_filesets point c reply new answer = absurd answer

pub volumes_keep : (point : Point) (c : Command) (reply : Reply) (new : State) → VolumeReply point c reply new → new.filesets ≡ point.state.filesets
volumes_keep point c reply new answer =
    elim (volume_refusal (judged_in point c) c) as (λ o. MatchOption o (Carries point c reply new) (λ refusal. (reply ≡ Refused refusal) × (new ≡ point.state)) → new.filesets ≡ point.state.filesets) [
      | None ↦ λ carries. carried_filesets point c reply new carries
      | Some refusal ↦ λ refused. same_filesets point.state new refused.1
    ] answer

pub cancelled_filesets : (c : Command) (s : State) → (after_cancel c s).filesets ≡ s.filesets
cancelled_filesets (command.Rmvol vol) s = opened_filesets false vol s
cancelled_filesets c s = refl

acting : {A : Type 0} (f : A → Reply) (o : Option A) → ((a : A) → may_have_acted (f a) ≡ true) → may_have_acted (option_map_or f o Done) ≡ true
acting f None each = refl
acting f (Some a) each = each a

each_place : (all : FilesetMap) (p : Place) (answer : Fileset → Node → Reply) → ((tree : Fileset) (x : Node) → may_have_acted (answer tree x) ≡ true) → may_have_acted (of_node all p answer) ≡ true
each_place all p answer each =
    acting (λ slot. option_map_or (answer slot.tree) (node_at slot.tree p.path) Done) (map.get all p.fileset) (λ slot. acting (answer slot.tree) (node_at slot.tree p.path) (each slot.tree))

reads : (offset count : ℕ) (x : Node) → may_have_acted (read_of offset count x) ≡ true
reads offset count (File uid gid size logged pages) = refl
reads offset count (Directory uid gid) = refl

stats : (tree : Fileset) (path : Path) (x : Node) → may_have_acted (stat_of tree path x) ≡ true
stats tree path (File uid gid size logged pages) = refl
stats tree path (Directory uid gid) = refl

-- ---- entries of a map, in lists

find-contains : (key : Path) (n : ℕ) (es : List (Path × ℕ)) → find path_cmp key es ≡ Some n → Contains es (key, n)
find-contains key n [] found = absurd (none≢some n found)
find-contains key n (e ∷ es) found = elim (eq_by_cmp path_cmp key e.0) as (λ b. eq_by_cmp path_cmp key e.0 ≡ b → cond b (Some e.1) (find path_cmp key es) ≡ Some n → Contains (e ∷ es) (key, n)) [
  | true ↦ λ tied is. (0, omega arith, λ i. (sym (path_cmp-IsAntisymmetric key e.0 ((Equal-is (path_cmp key e.0)).0 tied)) i, some_inj is i))
  | false ↦ λ apart is. Contains-append_right (e ∷ []) es (key, n) (find-contains key n es is)
] refl found

kept-contains : {X Y : Type 0} (h : X → Option Y) (xs : List X) (x : X) (y : Y) → Contains xs x → h x ≡ Some y → Contains (filter_map h xs) y
kept-contains h [] x y has is = absurd (omega (arith, has.1))
kept-contains h (z ∷ xs) x y has is = elim (Contains-append_cases (z ∷ []) xs x has) as (λ _. Contains (cons_option (h z) (filter_map h xs)) y) [
  | inl first ↦
      let same : z ≡ x = All-contains (λ w. z ≡ w) (z ∷ []) x (All-cons (λ w. z ≡ w) z [] refl (All-nil (λ w. z ≡ w))) first in
      rw (ap h same ∙ is) (0, omega arith, refl)
  | inr later ↦ elim (h z) as (λ o. Contains (cons_option o (filter_map h xs)) y) [
    | None ↦ kept-contains h xs x y later is
    | Some w ↦ Contains-append_right (w ∷ []) (filter_map h xs) y (kept-contains h xs x y later is)
  ]
]

-- an answer is no refusal
answer_acts : (all : FilesetMap) (c : Command) → may_have_acted (answer_of all c) ≡ true
answer_acts all (command.Read p offset count) = each_place all p (λ tree. read_of offset count) (λ tree. reads offset count)
answer_acts all (command.Stat p) = each_place all p (λ tree. stat_of tree p.path) (λ tree. stats tree p.path)
answer_acts all (command.Links p) =
    acting (λ slot. links_of p.path slot.tree) (map.get all p.fileset) (λ slot. acting (λ number. Count (paths_to slot.tree number)) (map.get slot.tree.paths p.path) (λ number. refl))
answer_acts all (command.List p) = acting (λ slot. Names (rows_of slot.tree p.path)) (map.get all p.fileset) (λ slot. refl)
answer_acts all (command.Showquota fileset who) = acting (λ slot. quota_of slot.tree who) (map.get all fileset) (λ slot. refl)
answer_acts all c = refl

module _ (place : Place) (number : ℕ) (node : Node) where
  -- marks leave the files of originals
  marked_keeps : (Allowed : Name → FilesetSlot → ℕ → Type 0) (old new : FilesetMap) → GainsMarks Allowed old new → Has place number node old → Has place number node new
  marked_keeps Allowed old new gains has = at (map.get new place.fileset) refl (rw (has.is) at (gains place.fileset))
    where
      at : (found : Option FilesetSlot) → map.get new place.fileset ≡ found → SlotGains Allowed (Some has.slot) found → Has place number node new
      at None is gained = absurd gained
      at (Some slot) is gained = record {
        slot = slot;
        is = is;
        original = rw (has.original) at gained.1;
        leads = ap (λ (t : Fileset). map.get t.paths place.path) gained.0 ∙ has.leads;
        stands = ap (λ (t : Fileset). map.get t.nodes number) gained.0 ∙ has.stands;
      }

  pub silent_keeps : (point : Point) (new : State) → Silent point new → Has place number node point.state.filesets → Has place number node new.filesets
  silent_keeps point new (marks gains tight rest) has = marked_keeps (MayBeMarked point) point.state.filesets new.filesets gains has
  silent_keeps point new (closes vol removing rest) has = subst (Has place number node) (sym (ap (λ (s : State). s.filesets) rest ∙ opened_filesets false vol point.state)) has
  silent_keeps point new (log_leaves vol other removing on differ is_open rest) has = subst (Has place number node) (sym (ap (λ (s : State). s.filesets) rest)) has
  silent_keeps point new (upgrades runs rest) has = subst (Has place number node) (sym (ap (λ (s : State). s.filesets) rest)) has

  -- ---- a change of one fileset's tree

  module _ (old : FilesetMap) (has : Has place number node old) where
    -- a tree that still has the file
    abbrev Keeps : Fileset → Type 0
    Keeps tree = (map.get tree.paths place.path ≡ Some number) × (map.get tree.nodes number ≡ Some node)

    insert_other : (name : Name) (slot : FilesetSlot) → map.get old name ≡ None → Has place number node (map.insert old name slot)
    insert_other name slot free =
        let apart : place.fileset ≢ name = λ same. none≢some has.slot (sym free ∙ ap (map.get old) (sym same) ∙ has.is) in
        record {
          slot = has.slot;
          is = get-insert_other name_cmp-total name_cmp-IsAntisymmetric old name slot place.fileset apart ∙ has.is;
          original = has.original;
          leads = has.leads;
          stands = has.stands;
        }

    tree_keeps : (name : Name) (change : Fileset → Fileset) → (name ≡ place.fileset → Keeps (change has.slot.tree)) → Has place number node (with_tree old name change)
    tree_keeps name change keeps = elim (map.get old name) as (λ o. map.get old name ≡ o → Has place number node (with_tree old name change)) [
      | None ↦ λ none. subst (Has place number node) (sym (with_tree-missing old name change none)) has
      | Some slot ↦ λ is.
          let slot' : FilesetSlot = record slot { tree = change slot.tree } in
          subst (Has place number node) (sym (with_tree-at old name slot change is))
          (elim (got-insert name_cmp-total name_cmp-IsAntisymmetric old name slot' place.fileset _ refl) as (λ _. Has place number node (map.insert old name slot')) [
            | inl here ↦
                let same : slot ≡ has.slot = some_inj (sym is ∙ ap (map.get old) (sym here.0) ∙ has.is) in
                let kept = keeps (sym here.0) in
                record {
                  slot = slot';
                  is = here.1;
                  original = ap (λ (s : FilesetSlot). s.role) same ∙ has.original;
                  leads = ap (λ (s : FilesetSlot). map.get (change s.tree).paths place.path) same ∙ kept.0;
                  stands = ap (λ (s : FilesetSlot). map.get (change s.tree).nodes number) same ∙ kept.1;
                }
            | inr other ↦ record { slot = has.slot; is = sym other.1 ∙ has.is; original = has.original; leads = has.leads; stands = has.stands }
          ])
    ] refl

    -- what is changed at a path is another number
    apart_at : (name : Name) (q : Path) → (Contains (at old name q) (place.fileset, number) → ⊥) → name ≡ place.fileset
        → (n : ℕ) → map.get has.slot.tree.paths q ≡ Some n → number ≢ n
    apart_at name q untouched same n leads also =
        untouched (rw (same, has.is, leads) (0, omega arith, ap (λ m. (place.fileset, m)) (sym also)))

    -- a change of the node at a path
    change_keeps : (q : Path) (change : Node → Node) → ((n : ℕ) → map.get has.slot.tree.paths q ≡ Some n → number ≢ n) → Keeps (with_change q change has.slot.tree)
    change_keeps q change apart =
        let tree = has.slot.tree in
        elim (map.get tree.paths q) as (λ o. map.get tree.paths q ≡ o
        → Keeps (option_map_or (λ n. option_map_or (λ x. record tree { nodes = map.insert tree.nodes n (change x) }) (map.get tree.nodes n) tree) o tree)) [
          | None ↦ λ is. (has.leads, has.stands)
          | Some n ↦ λ is. elim (map.get tree.nodes n) as (λ o. Keeps (option_map_or (λ x. record tree { nodes = map.insert tree.nodes n (change x) }) o tree)) [
            | None ↦ (has.leads, has.stands)
            | Some x ↦ (has.leads, get-insert_other nat_cmp_total map.nat_cmp-IsAntisymmetric tree.nodes n (change x) number (apart n is) ∙ has.stands)
          ]
        ] refl

    -- another path is taken away
    without_keeps : (q : Path) → ((n : ℕ) → map.get has.slot.tree.paths q ≡ Some n → number ≢ n) → Keeps (without q has.slot.tree)
    without_keeps q apart =
        let tree = has.slot.tree in
        elim (map.get tree.paths q) as (λ o. map.get tree.paths q ≡ o → Keeps (option_map_or (λ n. record tree { paths = map.remove tree.paths q; nodes = if is_named_elsewhere tree q n then tree.nodes else map.remove tree.nodes n }) o tree)) [
          | None ↦ λ is. (has.leads, has.stands)
          | Some n ↦ λ is.
              let other : place.path ≢ q = λ same. apart n is (some_inj (sym has.leads ∙ ap (map.get tree.paths) same ∙ is)) in (
                get-remove_other path_cmp-total path_cmp-IsAntisymmetric tree.paths q place.path other ∙ has.leads,
                elim (is_named_elsewhere tree q n) as (λ b. map.get (if b then tree.nodes else map.remove tree.nodes n) number ≡ Some node) [
                  | true ↦ has.stands
                  | false ↦ get-remove_other nat_cmp_total map.nat_cmp-IsAntisymmetric tree.nodes n number (apart n is) ∙ has.stands
                ],
              )
        ] refl

    -- another path leads to something that is there
    linked_keeps : (q to : Path) → map.get has.slot.tree.paths to ≡ None → Keeps (linked q to has.slot.tree)
    linked_keeps q to free =
        let tree = has.slot.tree in
        elim (map.get tree.paths q) as (λ o. Keeps (option_map_or (λ n. record tree { paths = map.insert tree.paths to n }) o tree)) [
          | None ↦ (has.leads, has.stands)
          | Some n ↦ (
            get-insert_other path_cmp-total path_cmp-IsAntisymmetric tree.paths to n place.path (λ same. none≢some number (sym free ∙ ap (map.get tree.paths) (sym same) ∙ has.leads)) ∙ has.leads,
            has.stands,
          )
        ]

    -- a new node at a free path
    node_keeps : (q : Path) (n : ℕ) (x : Node) → map.get has.slot.tree.paths q ≡ None → map.get has.slot.tree.nodes n ≡ None → Keeps (with_node q n x has.slot.tree)
    node_keeps q n x free unused =
        let tree = has.slot.tree in (
          get-insert_other path_cmp-total path_cmp-IsAntisymmetric tree.paths q n place.path (λ same. none≢some number (sym free ∙ ap (map.get tree.paths) (sym same) ∙ has.leads)) ∙ has.leads,
          get-insert_other nat_cmp_total map.nat_cmp-IsAntisymmetric tree.nodes n x number (λ same. none≢some node (sym unused ∙ ap (map.get tree.nodes) (sym same) ∙ has.stands)) ∙ has.stands,
        )

    -- ---- each command

    -- the fileset of a command that is not refused is the file's, if its name is
    slot_is : (name : Name) (slot : FilesetSlot) → map.get old name ≡ Some slot → name ≡ place.fileset → slot ≡ has.slot
    slot_is name slot is same = some_inj (sym is ∙ ap (map.get old) same ∙ has.is)

    made : (new : FilesetMap) (p : Place) (uid gid : ℕ) → in_fileset old p.fileset (create_checks p.path uid gid) ≡ None → (x : Node) → MakesNode old p x new → Has place number node new
    made new p uid gid none x makes =
        let here = passed_in old p.fileset (create_checks p.path uid gid) none in
        let one = passed (read_only here.0) (walk_refusal here.0 p.path ∷ path_taken here.0 p.path ∷ quota_refusal here.0.tree uid gid 1 0 ∷ []) here.2 in
        let two = passed (walk_refusal here.0 p.path) (path_taken here.0 p.path ∷ quota_refusal here.0.tree uid gid 1 0 ∷ []) one.1 in
        let free = passed_free here.0 p.path (passed (path_taken here.0 p.path) (quota_refusal here.0.tree uid gid 1 0 ∷ []) two.1).0 in
        let unused = unused_here old p.fileset here.0 makes.0 makes.1 here.1 in
        subst (Has place number node) (sym makes.2)
        (tree_keeps p.fileset _ (λ same.
        let s = slot_is p.fileset here.0 here.1 same in
        node_keeps p.path makes.0 x (subst (λ (s : FilesetSlot). map.get s.tree.paths p.path ≡ None) s free) (subst (λ (s : FilesetSlot). map.get s.tree.nodes makes.0 ≡ None) s unused)))

    -- what lies at a path or below it is among what lies there
    not_below : (from : Path) → (Contains (at_and_below old place.fileset from) (place.fileset, number) → ⊥) → begins_with place.path from ≡ false
    not_below from apart = elim (begins_with place.path from) as (λ b. begins_with place.path from ≡ b → b ≡ false) [
      | false ↦ λ _. refl
      | true ↦ λ below. absurd (apart (rw (has.is) (kept-contains _ (map.entries has.slot.tree.paths) (place.path, number) (place.fileset, number)
          (find-contains place.path number (map.entries has.slot.tree.paths) (sym (map.get-entries has.slot.tree.paths place.path) ∙ has.leads)) (rw below refl))))
    ] refl

    renamed_keeps : (p : Place) (to : Path) → AreValid old → in_fileset old p.fileset (rename_checks p.path to) ≡ None
        → (Contains (changed_by old (command.Rename p to)) (place.fileset, number) → ⊥) → p.fileset ≡ place.fileset → Keeps (renamed p.path to has.slot.tree)
    renamed_keeps p to v none untouched same =
        let tree = has.slot.tree in
        let from = p.path in
        let here = passed_in old p.fileset (rename_checks from to) none in
        let checked : first_refusal (rename_checks from to has.slot) ≡ None = subst (λ (s : FilesetSlot). first_refusal (rename_checks from to s) ≡ None) (slot_is p.fileset here.0 here.1 same) here.2 in
        let valid = original_tree has.slot has.original (v.each place.fileset has.slot has.is) in
        elim (names_one tree from to) as (λ b. names_one tree from to ≡ b
        → first_refusal (read_only has.slot ∷ target_refusal has.slot from ∷ walk_refusal has.slot to ∷ (if b then None else first_refusal (move_checks from to has.slot)) ∷ []) ≡ None
        → Keeps (if b then tree else moved from to (without to tree))) [
          | true ↦ λ one h. (has.leads, has.stands)
          | false ↦ λ two h.
              let rest : Option Refusal = first_refusal (move_checks from to has.slot) in
              let one = passed (read_only has.slot) (target_refusal has.slot from ∷ walk_refusal has.slot to ∷ rest ∷ []) h in
              let next = passed (target_refusal has.slot from) (walk_refusal has.slot to ∷ rest ∷ []) one.1 in
              let walk = passed (walk_refusal has.slot to) (rest ∷ []) next.1 in
              let changed : changed_by old (command.Rename p to) ≡ at_and_below old p.fileset from ++ at old p.fileset (parent_of from) ++ removed_at old p.fileset to =
              ap (λ b. if b then [] else at_and_below old p.fileset from ++ at old p.fileset (parent_of from) ++ removed_at old p.fileset to)
              (ap (λ o. option_map_or (λ (slot : FilesetSlot). names_one slot.tree from to) o false) (ap (map.get old) same ∙ has.is) ∙ two) in
              let apart = subst (λ l. Contains l (place.fileset, number) → ⊥) changed untouched in
              let replaced = without_keeps to (apart_at p.fileset to
              (λ c. apart (Contains-append_right (at_and_below old p.fileset from ++ at old p.fileset (parent_of from)) (removed_at old p.fileset to) _ (Contains-append_left (at old p.fileset to) (at old p.fileset (parent_of to)) _ c))) same) in
              let other : begins_with place.path from ≡ false =
              not_below from (λ c. apart (Contains-append_left (at_and_below old p.fileset from ++ at old p.fileset (parent_of from)) (removed_at old p.fileset to) _
              (Contains-append_left (at_and_below old p.fileset from) (at old p.fileset (parent_of from)) _ (subst (λ n. Contains (at_and_below old n from) (place.fileset, number)) (sym same) c)))) in
              (renamed-keeps has.slot from to valid walk.0 (passed rest [] walk.1).0 place.path number other replaced.0, replaced.1)
        ] refl checked

    changes_keep : (new : FilesetMap) (c : Command) → AreValid old → refusal_of old c ≡ None → Changes old c new
        → (Contains (changed_by old c) (place.fileset, number) → ⊥) → c ≢ command.Rmfset place.fileset → Has place number node new
    changes_keep new (command.Mkfset fileset) v none change untouched stays =
        subst (Has place number node) (sym change.1) (insert_other fileset _ (free_name old fileset (passed (name_taken old fileset) (filesets_full old ∷ []) none).0))
    changes_keep new (command.Rmfset fileset) v none change untouched stays =
        let apart : place.fileset ≢ fileset = λ same. stays (ap command.Rmfset (sym same)) in
        subst (Has place number node) (sym change) (record {
          slot = has.slot;
          is = get-remove_other name_cmp-total name_cmp-IsAntisymmetric old fileset place.fileset apart ∙ has.is;
          original = has.original;
          leads = has.leads;
          stands = has.stands;
        })
    changes_keep new (command.Clonefset fileset new_name) v none change untouched stays =
        let checks : FilesetSlot → List (Option Refusal) = λ slot. refuse_if (is_clone slot.role) CloneOfClone ∷ refuse_if (has_clone old fileset) HasClone ∷ name_taken old new_name ∷ filesets_full old ∷ [] in
        let here = passed_in old fileset checks none in
        let one = passed (refuse_if (is_clone here.0.role) CloneOfClone) (refuse_if (has_clone old fileset) HasClone ∷ name_taken old new_name ∷ filesets_full old ∷ []) here.2 in
        let two = passed (refuse_if (has_clone old fileset) HasClone) (name_taken old new_name ∷ filesets_full old ∷ []) one.1 in
        subst (Has place number node) (sym (change ∙ with_clone-at old fileset new_name here.0 here.1))
        (insert_other new_name _ (free_name old new_name (passed (name_taken old new_name) (filesets_full old ∷ []) two.1).0))
    changes_keep new (command.Setquota fileset who files blocks) v none change untouched stays =
        subst (Has place number node) (sym change) (tree_keeps fileset _ (λ same. (has.leads, has.stands)))
    changes_keep new (command.Create p uid gid) v none change untouched stays = made new p uid gid none (File uid gid 0 false map.empty) change
    changes_keep new (command.Mkdir p uid gid) v none change untouched stays = made new p uid gid none (Directory uid gid) change
    changes_keep new (command.Write p offset bytes) v none change untouched stays =
        subst (Has place number node) (sym change) (tree_keeps p.fileset _ (λ same. change_keeps p.path (written_node offset bytes) (apart_at p.fileset p.path untouched same)))
    changes_keep new (command.Truncate p size) v none change untouched stays =
        subst (Has place number node) (sym change) (tree_keeps p.fileset _ (λ same. change_keeps p.path (truncated_node size) (apart_at p.fileset p.path untouched same)))
    changes_keep new (command.Chfile p logged) v none change untouched stays =
        subst (Has place number node) (sym change) (tree_keeps p.fileset _ (λ same. change_keeps p.path (flagged_node logged) (apart_at p.fileset p.path untouched same)))
    changes_keep new (command.Rename p to) v none change untouched stays =
        subst (Has place number node) (sym change) (tree_keeps p.fileset _ (λ same. renamed_keeps p to v none untouched same))
    changes_keep new (command.Link p to) v none change untouched stays =
        let here = passed_in old p.fileset (link_checks p.path to) none in
        let one = passed (read_only here.0) (target_refusal here.0 p.path ∷ directory_here here.0 p.path ∷ walk_refusal here.0 to ∷ path_taken here.0 to ∷ links_full here.0 p.path ∷ []) here.2 in
        let two = passed (target_refusal here.0 p.path) (directory_here here.0 p.path ∷ walk_refusal here.0 to ∷ path_taken here.0 to ∷ links_full here.0 p.path ∷ []) one.1 in
        let three = passed (directory_here here.0 p.path) (walk_refusal here.0 to ∷ path_taken here.0 to ∷ links_full here.0 p.path ∷ []) two.1 in
        let four = passed (walk_refusal here.0 to) (path_taken here.0 to ∷ links_full here.0 p.path ∷ []) three.1 in
        let free = passed_free here.0 to (passed (path_taken here.0 to) (links_full here.0 p.path ∷ []) four.1).0 in
        subst (Has place number node) (sym change)
        (tree_keeps p.fileset _ (λ same. linked_keeps p.path to (subst (λ (s : FilesetSlot). map.get s.tree.paths to ≡ None) (slot_is p.fileset here.0 here.1 same) free)))
    changes_keep new (command.Unlink p) v none change untouched stays =
        subst (Has place number node) (sym change) (tree_keeps p.fileset _ (λ same. without_keeps p.path (apart_at p.fileset p.path (λ c. untouched (Contains-append_left _ _ _ c)) same)))
    changes_keep new (command.Rmdir p) v none change untouched stays =
        subst (Has place number node) (sym change) (tree_keeps p.fileset _ (λ same. without_keeps p.path (apart_at p.fileset p.path (λ c. untouched (Contains-append_left _ _ _ c)) same)))
    changes_keep new (command.Links p) v none change untouched stays = subst (Has place number node) (sym change) has
    changes_keep new command.Showfsets v none change untouched stays = subst (Has place number node) (sym change) has
    changes_keep new (command.Showquota fileset who) v none change untouched stays = subst (Has place number node) (sym change) has
    changes_keep new (command.Read p offset count) v none change untouched stays = subst (Has place number node) (sym change) has
    changes_keep new (command.List p) v none change untouched stays = subst (Has place number node) (sym change) has
    changes_keep new (command.Stat p) v none change untouched stays = subst (Has place number node) (sym change) has
    changes_keep new (command.Fsync p) v none change untouched stays = subst (Has place number node) (sym change) has
    changes_keep new command.Sync v none change untouched stays = subst (Has place number node) (sym change) has
    changes_keep new command.Cancel v none change untouched stays = subst (Has place number node) (sym change) has
    changes_keep new c v none change untouched stays = absurd change

  pub answer_keeps : (old new : FilesetMap) (e : Entry) (before : State) → before.filesets ≡ old → AreValid old → Answers old e.command e.reply new
      → Leaves place (record { entry = e; before = before }) → Has place number node old → Has place number node new
  answer_keeps old new e before same v means leaves has =
      elim (refusal_of old e.command) as (λ o. refusal_of old e.command ≡ o
      → MatchOption o ((e.reply ≡ answer_of old e.command) × Changes old e.command new) (λ refusal. (e.reply ≡ Refused refusal) × (new ≡ old)) → Has place number node new) [
        | Some refusal ↦ λ some refused. subst (Has place number node) (sym refused.1) has
        | None ↦ λ none done.
            let acted : may_have_acted e.reply ≡ true = ap may_have_acted done.0 ∙ answer_acts old e.command in
            let there : Contains (at before.filesets place.fileset place.path) (place.fileset, number) =
            subst (λ all. Contains (at all place.fileset place.path) (place.fileset, number)) (sym same) (rw (has.is, has.leads) (0, omega arith, refl)) in
            changes_keep old has new e.command v none done.1
            (λ changed. leaves.unchanged acted number there (subst (λ all. Contains (changed_by all e.command) (place.fileset, number)) (sym same) changed))
            (leaves.stays acted)
      ] refl means

  pub step_keeps : (point : Point) (e : Entry) (new : State) → AreValid point.state.filesets → Step point e new → Leaves place (record { entry = e; before = point.state })
      → Has place number node point.state.filesets → Has place number node new.filesets
  step_keeps point e new v (applied mid means gains tight rest) leaves has =
      marked_keeps _ mid.filesets new.filesets gains (answer_keeps point.state.filesets mid.filesets e point.state refl v means.0 leaves has)
  step_keeps point e new v (on_volumes answer) leaves has = subst (Has place number node) (sym (volumes_keep point e.command e.reply new answer)) has
  step_keeps point e new v (no_space free is few takes none tight same) leaves has = subst (Has place number node) (sym (ap (λ (s : State). s.filesets) same)) has
  step_keeps point e new v (read_fault volume is same) leaves has = subst (Has place number node) (sym (ap (λ (s : State). s.filesets) same)) has
  step_keeps point e new v (panicked volume is same) leaves has = subst (Has place number node) (sym (ap (λ (s : State). s.filesets) same)) has
  step_keeps point e new v (cancelled may asked begun is same) leaves has = subst (Has place number node) (sym (ap (λ (s : State). s.filesets) same ∙ cancelled_filesets e.command point.state)) has
  step_keeps point e new v (out_of_memory is same) leaves has = subst (Has place number node) (sym (ap (λ (s : State). s.filesets) same)) has
