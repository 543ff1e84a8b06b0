-- A file that was synced is found after a stop.
use Rattle.std.proofs.Common.{◌≡◌, ℕ, suc, ◌<◌, ◌≤◌, Bool, true, false, cond, ◌&&◌, ◌||◌, ◌==◌, List, [], ◌∷◌, ◌++◌, length, map as map_each, Option, Some, None, refl, sym, ap, subst, ◌∙◌, inl, inr, arith, append-nil, append_assoc, length-append, IsSomeAnd}
use Rattle.std.proofs.lemmas.List.{length-map, map-append}
use Rattle.std.proofs.lemmas.List.Elements.{All-nil, All-push, All-contains, All-map, All-take}
use Rattle.std.proofs.Math.Seq.{get_or-append_seam, take_at}
use Rattle.std.specs.FinMap as map
use Rattle.std.specs.List.{All, Contains, before_last, list_any}
use Rattle.std.specs.Option.{option_and_then}
use Rattle.std.specs.Cmp.{nat_cmp_total}
use Rattle.std.specs.Cmp.Lexicographic.{bytes_decides}
use Rattle.std.proofs.lemmas.Bool.{eq-eqb}
use Rattle.std.specs.FinMap.{FinMap}
use Rattle.fileset_model.specs.fileset_values.Orders.{Name, path_cmp}
use Rattle.fileset_model.specs.Pages.{Pages, pages_of}
use Rattle.fileset_model.specs.Paths.{node_at, same_name}
use Rattle.fileset_model.specs.Filesets.{FilesetMap}
use Rattle.fileset_model.specs.fileset_values.declared.command.Command.{Command}
use Rattle.fileset_model.specs.fileset_values.declared.command.Command.TheVariants as command
use Rattle.fileset_model.specs.fileset_values.declared.command.Place.{Place}
use Rattle.fileset_model.specs.fileset_values.declared.entry.Entry.{Entry}
use Rattle.fileset_model.specs.declared.fileset.FilesetSlot.{FilesetSlot}
use Rattle.fileset_model.specs.declared.fileset.Role.TheVariants.{Original}
use Rattle.fileset_model.specs.declared.node.Node.{Node}
use Rattle.fileset_model.specs.declared.node.Node.TheVariants.{File, Directory}
use Rattle.legal_histories.specs.AfterStop.{AfterStop, FilePage, Found, IsLoose, MayHaveWritten, cut_pages, pages_written, syncs_file, unlogged_pages, SameBut, SameNode, SameNodeThere, SamePage, SameSlot, SameTree, is_done_by, is_synced_by, is_synced_command, kept}
use Rattle.legal_histories.specs.AfterStop.Found.{there as as_it_was, done as with_next}
use Rattle.fileset_model.specs.LooksLike.{LooksLike, LooksLikeThere}
use Rattle.legal_histories.proofs.ChainLemmas.{joined}
use Rattle.legal_histories.specs.Changed.{at, changed_by}
use Rattle.fileset_model.specs.fileset_values.declared.command.Command.TheVariants.{Fsync, Rmfset}
use Rattle.fileset_model.specs.fileset_values.declared.reply.Refusal.TheVariants.{Panicked}
use Rattle.fileset_model.specs.fileset_values.declared.reply.Reply.{Reply}
use Rattle.fileset_model.specs.fileset_values.declared.reply.Reply.TheVariants.{Refused}
use Rattle.legal_histories.specs.Legal.{Chain}
use Rattle.legal_histories.specs.Legal.Chain.{stays, begin, silent, entry}
use Rattle.legal_histories.specs.Point.{Answered, Point, history_of, point_after, start_point}
use Rattle.legal_histories.specs.State.{State}
use Rattle.legal_histories.specs.Step.{Step}
use Rattle.legal_histories.specs.Synced.{IsSynced, Leaves, StandsAt, may_have_acted}
use Rattle.legal_histories.proofs.PlaceLemmas.{AtEnd, at_end, has_middle, last_place, order, same_end, some_passes}
use Rattle.legal_histories.proofs.PlaceLemmas.Order.{is_first, is_same, is_second}
use Rattle.legal_histories.proofs.PlaceLemmas.AtEnd.{nothing, one_more}
use Rattle.legal_histories.specs.Valid.{AreValid}
use Rattle.legal_histories.specs.HistoryValid.{IsValid}
use Rattle.legal_histories.proofs.ValidChainLemmas.{chain-valid}
use Rattle.legal_histories.proofs.UntouchedLemmas.{Has, answer_keeps, step_keeps, silent_keeps}
use Rattle.legal_histories.proofs.PlainLemmas.{All-front, All-last}

-- a chain adds entries
grows : (first last : Point) → Chain first last → (more : List Answered) × (last.past ≡ first.past ++ more)
grows first _ stays = ([], sym (append-nil first.past))
grows first _ (begin {point} chain idle c movers) = grows first point chain
grows first _ (silent {point} chain new may) = grows first point chain
grows first _ (entry {point} chain e new follows step) =
    let before = grows first point chain in
    (before.0 ++ record { entry = e; before = point.state } ∷ [], ap (λ p. p ++ record { entry = e; before = point.state } ∷ []) before.1 ∙ append_assoc first.past before.0 _)

-- an entry that was answered in valid filesets with the file
record HasValid (place : Place) (number : ℕ) (node : Node) (a : Answered) : Type 0 where
  file : Has place number node a.before.filesets
  valid : AreValid a.before.filesets

module _ (place : Place) (number : ℕ) (node : Node) where
  -- a chain without entries keeps the file
  settled : (first last : Point) → Chain first last → last.past ≡ first.past → Has place number node first.state.filesets → Has place number node last.state.filesets
  settled first _ stays same has = has
  settled first _ (begin {point} chain idle c movers) same has = settled first point chain same has
  settled first _ (silent {point} chain new may) same has = silent_keeps place number node point new may (settled first point chain same has)
  settled first _ (entry {point} chain e new follows step) same has =
      let more = grows first point chain in
      absurd (omega (arith, ap length same, ap length more.1, length-append first.past more.0, length-append point.past (record { entry = e; before = point.state } ∷ [])))

  module _ (before : List Answered) (sync : Answered) (found : Has place number node sync.before.filesets) (leaves : Leaves place sync) where
    -- what a chain keeps that has the sync, and after it nothing that touches the file
    record Keeps (point : Point) (after : List Answered) : Type 0 where
      now : Has place number node point.state.filesets
      each : All (HasValid place number node) after

    -- one entry more, which is the sync or leaves the file
    grown : (point : Point) (e : Entry) (new : State) → AreValid point.state.filesets → Step point e new
        → ((after : List Answered) → point.past ≡ before ++ sync ∷ after → All (Leaves place) after → Keeps point after)
        → (after : List Answered) → AtEnd after → point.past ++ record { entry = e; before = point.state } ∷ [] ≡ before ++ sync ∷ after → All (Leaves place) after
        → Keeps (point_after point e new) after
    grown point e new v step so_far _ nothing same untouched =
        let last = same_end point.past before _ sync same in
        let leaving = subst (Leaves place) (sym last.1) leaves in
        let has = subst (Has place number node) (sym (ap (λ (a : Answered). a.before.filesets) last.1)) found in
        record { now = step_keeps place number node point e new v step leaving has; each = All-nil (HasValid place number node) }
    grown point e new v step so_far _ (one_more front a) same untouched =
        let last = same_end point.past (before ++ sync ∷ front) _ a (same ∙ sym (append_assoc before (sync ∷ front) (a ∷ []))) in
        let k = so_far front last.0 (All-front (Leaves place) front a untouched) in
        let leaving = subst (Leaves place) (sym last.1) (All-last (Leaves place) front a untouched) in
        let has = subst (Has place number node) (ap (λ (a : Answered). a.before.filesets) last.1) k.now in
        record { now = step_keeps place number node point e new v step leaving k.now; each = All-push (HasValid place number node) front a k.each (record { file = has; valid = subst (λ (a : Answered). AreValid a.before.filesets) last.1 v }) }

    keeps : (start : State) (point : Point) → IsValid start → Chain (start_point start) point → (after : List Answered) → point.past ≡ before ++ sync ∷ after → All (Leaves place) after → Keeps point after
    keeps start _ v stays after same untouched = absurd (omega (arith, ap length same, length-append before (sync ∷ after)))
    keeps start _ v (begin {point} chain idle c movers) after same untouched =
        let k = keeps start point v chain after same untouched in record { now = k.now; each = k.each }
    keeps start _ v (silent {point} chain new may) after same untouched =
        let k = keeps start point v chain after same untouched in record { now = silent_keeps place number node point new may k.now; each = k.each }
    keeps start _ v (entry {point} chain e new follows step) after same untouched = grown point e new (chain-valid start point v chain).valid.filesets step (keeps start point v chain) after (at_end after) same untouched

-- ---- after the stop

-- a file that stands at a place has a number there
has_of : (place : Place) (node : Node) (all : FilesetMap) → StandsAt all place node → (number : ℕ) × Has place number node all
has_of place node all stands = at (map.get all place.fileset) refl stands
  where
    in_tree : (slot : FilesetSlot) → map.get all place.fileset ≡ Some slot → slot.role ≡ Original → (found : Option ℕ) → map.get slot.tree.paths place.path ≡ found
        → option_and_then (map.get slot.tree.nodes) found ≡ Some node → (number : ℕ) × Has place number node all
    in_tree slot is original None leads none = absurd (cc)
    in_tree slot is original (Some number) leads there = (number, record { slot = slot; is = is; original = original; leads = leads; stands = there })

    at : (found : Option FilesetSlot) → map.get all place.fileset ≡ found
        → IsSomeAnd found (λ slot. (slot.role ≡ Original) × (node_at slot.tree place.path ≡ Some node)) → (number : ℕ) × Has place number node all
    at None is none = absurd none
    at (Some slot) is there = in_tree slot is there.0 (map.get slot.tree.paths place.path) refl there.1

stands_of : (place : Place) (number : ℕ) (node : Node) (all : FilesetMap) → Has place number node all → StandsAt all place node
stands_of place number node all has =
    rw (has.is) (has.original, ap (option_and_then (map.get has.slot.tree.nodes)) has.leads ∙ has.stands)

-- an fsync touches nothing
fsync_leaves : (place : Place) (a : Answered) → a.entry.command ≡ Fsync place → Leaves place a
fsync_leaves place a is = record {
  unchanged = λ acted number at changed. no_element (subst (λ c. Contains (changed_by a.before.filesets c) (place.fileset, number)) is changed);
  stays = λ acted removes. fsync_is_not (sym is ∙ removes);
}
  where
    no_element : {X : Type 0} {x : X} → Contains [] x → ⊥
    no_element c = absurd (omega (arith, c.1))

    fsync_is_not : Fsync place ≡ Rmfset place.fileset → ⊥
    fsync_is_not same = cc

-- ---- filesets that differ in the bytes of pages that may differ, if none may

same_pages : (MayDiffer : ℕ → Type 0) → ((q : ℕ) → MayDiffer q → ⊥) → (pages other : Pages) → ((q : ℕ) → SamePage (MayDiffer q) (map.get pages q) (map.get other q)) → other ≡ pages
same_pages MayDiffer none pages other same = map.same_map nat_cmp_total map.nat_cmp-IsAntisymmetric other pages (λ q. at q (map.get pages q) (map.get other q) (same q))
  where
    at : (q : ℕ) (page found : Option (List ℕ)) → SamePage (MayDiffer q) page found → found ≡ page
    at q None found is = is
    at q (Some page) None is = absurd is
    at q (Some page) (Some other) is = elim is.1 as (λ _. Some other ≡ Some page) [
      | inl same ↦ ap Some same
      | inr differs ↦ absurd (none q differs)
    ]

same_node : (MayDiffer : ℕ → Type 0) → ((q : ℕ) → MayDiffer q → ⊥) → (node other : Node) → SameNode MayDiffer node other → other ≡ node
same_node MayDiffer none (File uid gid size logged pages) (File uid' gid' size' logged' pages') same =
    let all = same_pages MayDiffer none pages pages' same.4 in
    λ i. File (same.0 i) (same.1 i) (same.2 i) (same.3 i) (all i)
same_node MayDiffer none (File uid gid size logged pages) (Directory uid' gid') same = same
same_node MayDiffer none (Directory uid gid) other same = same

module _ (place : Place) (number : ℕ) (node : Node) where
  in_same : (free : FilePage → Type 0) (all left : FilesetMap) → ((q : ℕ) → free (place.fileset, number, q) → ⊥) → SameBut free all left
      → Has place number node all → Has place number node left
  in_same free all left none same has = at (map.get left place.fileset) refl (rw (has.is) at (same place.fileset))
    where
      at : (found : Option FilesetSlot) → map.get left place.fileset ≡ found → SameSlot (λ number q. free (place.fileset, number, q)) (Some has.slot) found → Has place number node left
      at None is none = absurd none
      at (Some slot) is there =
          let tree : SameTree (λ number q. free (place.fileset, number, q)) has.slot.tree slot.tree = rw (has.original) at there.1 in
          record {
            slot = slot;
            is = is;
            original = there.0 ∙ has.original;
            leads = ap (λ (p : FinMap path_cmp ℕ). map.get p place.path) tree.paths ∙ has.leads;
            stands = in_node (map.get slot.tree.nodes number) (rw (has.stands) at (tree.nodes number));
          }
        where
          in_node : (found : Option Node) → SameNodeThere (λ q. free (place.fileset, number, q)) (Some node) found → found ≡ Some node
          in_node None none = absurd none
          in_node (Some other) is = ap Some (same_node (λ q. free (place.fileset, number, q)) none node other is)

  in_alike : (all other : FilesetMap) → LooksLike all other → Has place number node all → Has place number node other
  in_alike all other alike has = at (map.get other place.fileset) refl (rw (has.is) at (alike place.fileset))
    where
      at : (found : Option FilesetSlot) → map.get other place.fileset ≡ found → LooksLikeThere (Some has.slot) found → Has place number node other
      at None is none = absurd none
      at (Some slot) is like =
          let same = like.original has.original in
          record {
            slot = slot;
            is = is;
            original = ap (λ (s : FilesetSlot). s.role) same ∙ has.original;
            leads = ap (λ (s : FilesetSlot). map.get s.tree.paths place.path) same ∙ has.leads;
            stands = ap (λ (s : FilesetSlot). map.get s.tree.nodes number) same ∙ has.stands;
          }

-- ---- parts of lists

all_front : {X : Type 0} (P : X → Type 0) (xs ys : List X) → All P (xs ++ ys) → All P xs
all_front P xs ys each = subst (All P) (take_at xs ys (length xs) refl) (All-take P (length xs) (xs ++ ys) each)

all_middle : {X : Type 0} (P : X → Type 0) (xs : List X) (x : X) (ys : List X) → All P (xs ++ x ∷ ys) → P x
all_middle P xs x ys each = subst P (get_or-append_seam xs x ys x) (each (length xs) x (omega (arith, length-append xs (x ∷ ys))))

-- ---- what is found

-- the front that a stop finds has the sync
front_long : (history : List Entry) (t n : ℕ) (place : Place) (before : List Answered) (sync : Answered) (after : List Answered)
    → history_of (before ++ sync ∷ after) ≡ history → sync.entry.command ≡ Fsync place → is_done_by t sync.entry ≡ true → kept history t ≤ n → length before < n
front_long history t n place before sync after whole command done long =
    let p : Entry → Bool = is_synced_by t in
    let passes : p sync.entry ≡ true = ap (λ c. is_synced_command c && is_done_by t sync.entry) command ∙ done in
    let entries : history ≡ history_of before ++ sync.entry ∷ history_of after = sym whole ∙ map-append (λ (a : Answered). a.entry) before (sync ∷ after) in
    let last : length (history_of before) ≤ length (before_last p history) =
    subst (λ h. length (history_of before) ≤ length (before_last p h)) (sym entries) (last_place p (history_of before) sync.entry (history_of after) passes) in
    let kept_is : kept history t ≡ suc (length (before_last p history)) =
    ap (λ b. cond b (suc (length (before_last p history))) 0) (ap (list_any p) entries ∙ some_passes p (history_of before) sync.entry (history_of after) passes) in
    omega (arith, long, kept_is, last, length-map before (λ (a : Answered). a.entry))

-- ---- pages that an entry writes are those of a file that it changes

same_name_itself : (name : Name) → same_name name name ≡ true
same_name_itself name = (bytes_decides name name).1 refl

module _ (all : FilesetMap) (place : Place) (choose : ℕ → Pages → List ℕ) where
  -- pages of one file have its number
  in_pages : (number : ℕ) (qs : List ℕ) (page : FilePage) → Contains (map_each (λ q. (place.fileset, number, q)) qs) page → (page.0 ≡ place.fileset) × (page.1 ≡ number)
  in_pages number qs page wrote =
      All-contains (λ (p : FilePage). (p.0 ≡ place.fileset) × (p.1 ≡ number)) (map_each (λ q. (place.fileset, number, q)) qs) page
      (All-map (λ (p : FilePage). (p.0 ≡ place.fileset) × (p.1 ≡ number)) (λ (q : ℕ). (place.fileset, number, q)) qs (λ k d short. (refl, refl))) wrote

  there_at : (slot : FilesetSlot) (number : ℕ) → map.get all place.fileset ≡ Some slot → map.get slot.tree.paths place.path ≡ Some number
      → (page : FilePage) → (page.0 ≡ place.fileset) × (page.1 ≡ number) → Contains (at all place.fileset place.path) (page.0, page.1)
  there_at slot number is leads page same = rw (same.0, same.1, is, leads) (0, omega arith, refl)

  in_file : (slot : FilesetSlot) (number : ℕ) → map.get all place.fileset ≡ Some slot → map.get slot.tree.paths place.path ≡ Some number → (found : Option Node) → map.get slot.tree.nodes number ≡ found
      → (page : FilePage) → Contains (unlogged_pages all place choose) page → Contains (at all place.fileset place.path) (page.0, page.1)
  in_file slot number is leads None stands page wrote = absurd (omega (arith, (rw (is, leads, stands) at wrote).1))
  in_file slot number is leads (Some (Directory uid gid)) stands page wrote = absurd (omega (arith, (rw (is, leads, stands) at wrote).1))
  in_file slot number is leads (Some (File uid gid size true pages)) stands page wrote = absurd (omega (arith, (rw (is, leads, stands) at wrote).1))
  in_file slot number is leads (Some (File uid gid size false pages)) stands page wrote =
      there_at slot number is leads page (in_pages number (choose size pages) page (rw (is, leads, stands) at wrote))

  in_tree : (slot : FilesetSlot) → map.get all place.fileset ≡ Some slot → (found : Option ℕ) → map.get slot.tree.paths place.path ≡ found
      → (page : FilePage) → Contains (unlogged_pages all place choose) page → Contains (at all place.fileset place.path) (page.0, page.1)
  in_tree slot is None leads page wrote = absurd (omega (arith, (rw (is, leads) at wrote).1))
  in_tree slot is (Some number) leads page wrote = in_file slot number is leads (map.get slot.tree.nodes number) refl page wrote

  in_filesets : (found : Option FilesetSlot) → map.get all place.fileset ≡ found
      → (page : FilePage) → Contains (unlogged_pages all place choose) page → Contains (at all place.fileset place.path) (page.0, page.1)
  in_filesets None is page wrote = absurd (omega (arith, (rw is at wrote).1))
  in_filesets (Some slot) is page wrote = in_tree slot is (map.get slot.tree.paths place.path) refl page wrote

  written_at : (page : FilePage) → Contains (unlogged_pages all place choose) page → Contains (at all place.fileset place.path) (page.0, page.1)
  written_at = in_filesets (map.get all place.fileset) refl

written_changes : (all : FilesetMap) (c : Command) (page : FilePage) → Contains (pages_written all c) page → Contains (changed_by all c) (page.0, page.1)
written_changes all (command.Write place offset bytes) page wrote = written_at all place (λ size pages. pages_of offset (length bytes)) page wrote
written_changes all (command.Truncate place size) page wrote = written_at all place (λ old_size pages. cut_pages size pages) page wrote
written_changes all c page wrote = absurd (omega (arith, wrote.1))

-- what may have written its pages may have acted
written_acted : (before : List Answered) (reply : Reply) → MayHaveWritten before reply → may_have_acted reply ≡ true
written_acted before (Refused (Panicked volume)) may = refl
written_acted before (Refused refusal) may = absurd may
written_acted before reply may = refl

true≢false : true ≡ false → ⊥
true≢false e = cc

module _ (place : Place) (number : ℕ) (node : Node) where
  at_place : (all : FilesetMap) → Has place number node all → Contains (at all place.fileset place.path) (place.fileset, number)
  at_place all has = rw (has.is, has.leads) (0, omega arith, refl)

  found_keeps : (front : Point) (later after : List Answered) (job : Option Command) (state : State) → Found front later job state
      → Has place number node front.state.filesets → All (Leaves place) (after ++ later) → All (HasValid place number node) (after ++ later)
      → Has place number node state.filesets
  found_keeps front later after job state (as_it_was settles) has leaves each =
      subst (λ (s : State). Has place number node s.filesets) settles.ends (settled place number node _ settles.last settles.chain settles.no_entry has)
  found_keeps front later after job state (with_next next rest volume is panic none reply mid means settles) has leaves each =
      let leaving = all_middle (Leaves place) after next rest (subst (λ l. All (Leaves place) (after ++ l)) is leaves) in
      let before = all_middle (HasValid place number node) after next rest (subst (λ l. All (HasValid place number node) (after ++ l)) is each) in
      let acted : may_have_acted next.entry.reply ≡ true = ap may_have_acted panic in
      let e : Entry = record next.entry { reply = reply } in
      let answer : Leaves place (record { entry = e; before = next.before }) = record { unchanged = λ _. leaving.unchanged acted; stays = λ _. leaving.stays acted } in
      let has_mid = answer_keeps place number node next.before.filesets mid.filesets e next.before refl before.valid means.0 answer before.file in
      subst (λ (s : State). Has place number node s.filesets) settles.ends (settled place number node _ settles.last settles.chain settles.no_entry has_mid)

  -- an fsync of it syncs its pages
  fsync_syncs : (all : FilesetMap) (q : ℕ) → Has place number node all → syncs_file all (Fsync place) (place.fileset, number, q) ≡ true
  fsync_syncs all q has =
      let here : at all place.fileset place.path ≡ (place.fileset, number) ∷ [] = rw (has.is, has.leads) refl in
      ap (list_any (λ n. same_name n.0 place.fileset && (n.1 == number))) here
      ∙ ap (λ b. (b && (number == number)) || false) (same_name_itself place.fileset) ∙ ap (λ b. b || false) (eq-eqb number number refl)

  -- its pages are not loose
  not_loose : (past before : List Answered) (sync : Answered) (after : List Answered) (t q : ℕ) → past ≡ before ++ sync ∷ after → sync.entry.command ≡ Fsync place
      → is_done_by t sync.entry ≡ true → Has place number node sync.before.filesets → All (Leaves place) after → All (HasValid place number node) after
      → IsLoose past t (place.fileset, number, q) → ⊥
  not_loose past before sync after t q split command done found leaves each loose =
      elim (order loose.before loose.writer loose.after before sync after (sym loose.split ∙ split)) as (λ _. ⊥) [
        | is_first between is ↦
            let synced_here = all_middle (λ (a : Answered). (is_done_by t a.entry && syncs_file a.before.filesets a.entry.command (place.fileset, number, q)) ≡ false) between sync after
            (subst (All (λ (a : Answered). (is_done_by t a.entry && syncs_file a.before.filesets a.entry.command (place.fileset, number, q)) ≡ false)) is loose.unsynced) in
            let synced : syncs_file sync.before.filesets sync.entry.command (place.fileset, number, q) ≡ true =
            ap (λ c. syncs_file sync.before.filesets c (place.fileset, number, q)) command ∙ fsync_syncs sync.before.filesets q found in
            true≢false (sym (ap (λ b. b && syncs_file sync.before.filesets sync.entry.command (place.fileset, number, q)) done ∙ synced) ∙ synced_here)
        | is_same is ↦
            let wrote : Contains (pages_written loose.writer.before.filesets (Fsync place)) (place.fileset, number, q) =
            subst (λ c. Contains (pages_written loose.writer.before.filesets c) (place.fileset, number, q)) (ap (λ (a : Answered). a.entry.command) is ∙ command) loose.wrote in
            absurd (omega (arith, wrote.1))
        | is_second between is ↦
            let leaving = all_middle (Leaves place) between loose.writer loose.after (subst (All (Leaves place)) is leaves) in
            let has = all_middle (HasValid place number node) between loose.writer loose.after (subst (All (HasValid place number node)) is each) in
            leaving.unchanged (written_acted loose.before loose.writer.entry.reply loose.answered) number (at_place loose.writer.before.filesets has.file)
            (written_changes loose.writer.before.filesets loose.writer.entry.command (place.fileset, number, q) loose.wrote)
      ]

pub outlasts : (start : State) (history : List Entry) (job : Option Command) (t : ℕ) (filesets : FilesetMap) (stop : AfterStop start history job t filesets) (place : Place) (node : Node)
    → IsValid start → IsSynced stop.end.past t place node → StandsAt filesets place node
outlasts start history job t filesets stop place node v synced =
    let long = front_long history t (length stop.front.past) place synced.before synced.sync synced.after (sym (ap history_of synced.split) ∙ stop.whole) synced.command synced.done stop.synced in
    let middle = has_middle stop.front.past stop.later synced.before synced.sync synced.after (sym stop.split ∙ synced.split) long in
    let found = has_of place node synced.sync.before.filesets synced.stood in
    let leaves = fsync_leaves place synced.sync synced.command in
    let untouched = subst (All (Leaves place)) middle.2 synced.untouched in
    let at_front = keeps place found.0 node synced.before synced.sync found.1 leaves start stop.front v stop.begun middle.0 middle.1 (all_front (Leaves place) middle.0 stop.later untouched) in
    let at_end = keeps place found.0 node synced.before synced.sync found.1 leaves start stop.end v (joined _ _ _ stop.begun stop.goes_on) synced.after synced.split synced.untouched in
    let each = subst (All (HasValid place found.0 node)) middle.2 at_end.each in
    let now = found_keeps place found.0 node stop.front stop.later middle.0 job stop.state stop.found at_front.now untouched each in
    let loose : (q : ℕ) → IsLoose stop.end.past t (place.fileset, found.0, q) → ⊥ = λ q. not_loose place found.0 node stop.end.past synced.before synced.sync synced.after t q synced.split synced.command synced.done found.1 synced.untouched at_end.each in
    let left = in_same place found.0 node (IsLoose stop.end.past t) stop.state.filesets stop.left loose stop.same now in
    stands_of place found.0 node filesets (in_alike place found.0 node stop.left filesets stop.looks left)
