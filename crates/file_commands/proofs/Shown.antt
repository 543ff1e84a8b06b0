-- The filesets of a domain, shown in the order of their names.
use Rattle.std.proofs.Common.{◌≡◌, ◌∙◌, ◌||◌, ◌+◌, ◌≤◌, ℕ, suc, Bool, true, false, ◌&&◌, cond, T, List, [], ◌∷◌, Option, Some, None, IsSomeAnd, is_some, get_or, length, map as map_each, slice_get, take, refl, sym, ap, subst, true≢false, arith}
use Rattle.std.specs.BTreeMap.{is_at}
use Rattle.std.specs.BTreeSet.{BTreeSet, IsOrdered, contains}
use Rattle.std.specs.FinMap as map
use Rattle.std.specs.FinMap.Entries.{below_all, is_sorted}
use Rattle.std.specs.Cmp.Lexicographic.{texts_ties}
use Rattle.std.specs.List.{AllByRecursion, list_any}
use Rattle.std.specs.List.Sorted.{IsStrictlySortedBy}
use Rattle.std.specs.Ordering.{eq_by_cmp, is_lt}
use Rattle.std.specs.declared.cmp.Ordering.{Ordering}
use Rattle.std.specs.declared.cmp.Ordering.TheVariants.{Less, Equal, Greater}
use Rattle.std.proofs.lemmas.List.{take_all, take_more}
use Rattle.std.proofs.lemmas.List.Folds.{list_any-append}
use Rattle.std.proofs.lemmas.Map.Lookups.{btree_set_from_contains, exact_bytes}
use Rattle.std.proofs.lemmas.Option.{get_or_from_slice_get, slice_get_within}
use Rattle.name_commands.specs.fileset_model.Apply.{answer_of, original_of}
use Rattle.name_commands.specs.fileset_model.Filesets.{FilesetMap}
use Rattle.name_commands.specs.fileset_values.Orders.{Name, name_cmp, name_cmp-total}
use Rattle.name_commands.specs.fileset_model.Paths.{same_name}
use Rattle.name_commands.specs.fileset_values.declared.command.Command.TheVariants.{Showfsets}
use Rattle.name_commands.specs.fileset_model.declared.fileset.FilesetSlot.{FilesetSlot}
use Rattle.name_commands.specs.fileset_values.declared.reply.FilesetItem.{FilesetItem}
use Rattle.name_commands.specs.fileset_values.declared.reply.Reply.TheVariants.{Filesets}
use Rattle.name_commands.specs.fileset_table.Table.{has_name}
use Rattle.name_commands.specs.fileset_table.declared.slot.SlotItem.{SlotItem}
use Rattle.name_commands.specs.legal_histories.GoingOn.{HaveNoClone}
use Rattle.name_commands.proofs.OfLegalHistories.ImageLemmas.{images}
use Rattle.name_commands.specs.domain_standing.Domain.{DomainNow}
use Rattle.name_commands.specs.domain_standing.Slots.{StandSlots}
use Rattle.name_commands.proofs.Means.{missing, none_original, nothing, there}
use Rattle.name_commands.proofs.Removal.{has_named}

-- ---- names that are noted, slot by slot

-- of the first n slots just the names of filesets are noted; there are 32 slots if there is one
pub record AreNoted (slots : List SlotItem) (n : ℕ) (names : BTreeSet Name) : Type 0 where
  pub has : (name : Name) → contains name_cmp names name ≡ list_any (has_name name) (take n slots)
  pub whole : 1 ≤ n → length slots ≡ 32

none_taken : (slots : List SlotItem) → take 0 slots ≡ []
none_taken [] = refl
none_taken (x ∷ slots) = refl

pub none_noted : (slots : List SlotItem) (names : BTreeSet Name) → names.keys ≡ [] → AreNoted slots 0 names
none_noted slots names none = record {
  has = λ name. ap (list_any (is_at (name_cmp name))) none ∙ sym (ap (list_any (has_name name)) (none_taken slots));
  whole = λ some. absurd (omega (arith, some));
}

swapped : (a b : Bool) → (a || b) ≡ (b || (a || false))
swapped true true = refl
swapped true false = refl
swapped false true = refl
swapped false false = refl

pub noted_more : (slots : List SlotItem) (n : ℕ) (item : SlotItem) (old new : BTreeSet Name) → slice_get slots n ≡ Some item → length slots ≡ 32
    → ((name : Name) → contains name_cmp new name ≡ (has_name name item || contains name_cmp old name)) → AreNoted slots n old → AreNoted slots (n + 1) new
noted_more slots n item old new at whole put noted = record {
  has = λ name. put name ∙ ap (λ b. has_name name item || b) (noted.has name) ∙ swapped (has_name name item) (list_any (has_name name) (take n slots)) ∙ sym (one_more name);
  whole = λ some. whole;
}
  where
    one_more : (name : Name) → list_any (has_name name) (take (n + 1) slots) ≡ (list_any (has_name name) (take n slots) || (has_name name item || false))
    one_more name =
        ap (list_any (has_name name)) (take_more slots n item (slice_get_within slots n item at))
        ∙ list_any-append (has_name name) (take n slots) (get_or slots n item ∷ [])
        ∙ ap (λ x. list_any (has_name name) (take n slots) || (has_name name x || false)) (get_or_from_slice_get slots n item item at)

pub all_noted : (slots : List SlotItem) (n : ℕ) (names : BTreeSet Name) → AreNoted slots n names → 32 ≤ n → (name : Name) → contains name_cmp names name ≡ list_any (has_name name) slots
all_noted slots n names noted far = λ name. noted.has name ∙ ap (list_any (has_name name)) (take_all n slots (omega (arith, far, noted.whole (omega (arith, far)))))

-- one name more
either : (a b : Bool) → cond a true b ≡ (a || b)
either true b = refl
either false b = refl

pub name_put : (key : Name) (old new : BTreeSet Name) → ((q : Name) → contains name_cmp new q ≡ cond (is_at (name_cmp key) q) true (contains name_cmp old q))
    → (q : Name) → contains name_cmp new q ≡ (same_name key q || contains name_cmp old q)
name_put key old new updates q = updates q ∙ either (eq_by_cmp name_cmp key q) (contains name_cmp old q) ∙ ap (λ b. b || contains name_cmp old q) (sym (texts_ties key q))

-- a fileset that is no clone
abbrev pub row_alone : Name → FilesetItem
row_alone name = record { fileset = name; original = None }

-- ---- in their order

below_first : (x y : Name) (o : Ordering) (more : Bool) → name_cmp x y ≡ o → T (is_lt o && more) → (name_cmp x y ≡ Less) × T more
below_first x y Less more is below = (is, below)
below_first x y Equal more is below = absurd below
below_first x y Greater more is below = absurd below

below_so : (x : Name) (es : List (Name × FilesetSlot)) → T (below_all name_cmp x es) → AllByRecursion (λ y. name_cmp x y ≡ Less) (map_each (λ e. e.0) es)
below_so x [] below = tt
below_so x (e ∷ es) below =
    let first = below_first x e.0 (name_cmp x e.0) (below_all name_cmp x es) refl below in
    (first.0, below_so x es first.1)

and_first : (a b : Bool) → T (a && b) → T a
and_first true b is = tt
and_first false b is = absurd is

and_second : (a b : Bool) → T (a && b) → T b
and_second true b is = is
and_second false b is = absurd is

keys_sorted : (es : List (Name × FilesetSlot)) → T (is_sorted name_cmp es) → IsStrictlySortedBy name_cmp (map_each (λ e. e.0) es)
unfolding IsStrictlySortedBy
keys_sorted [] sorted = tt
keys_sorted (e ∷ es) sorted = (below_so e.0 es (and_first (below_all name_cmp e.0 es) (is_sorted name_cmp es) sorted), keys_sorted es (and_second (below_all name_cmp e.0 es) (is_sorted name_cmp es) sorted))

-- a set of names that are those of the filesets
keys_are : (all : FilesetMap) (names : BTreeSet Name) → IsOrdered name_cmp names → ((q : Name) → contains name_cmp names q ≡ is_some (map.get all q)) → names.keys ≡ map.keys all
keys_are all names ordered same =
    btree_set_from_contains name_cmp-total names (record { keys = map.keys all }) ordered (keys_sorted (map.entries all) (map.entries_sorted all)) (λ q. same q ∙ map.contains_key-keys all q) exact_bytes

-- ---- which filesets there are

-- a slot with a fileset of this name
record SlotNamed (name : Name) (xs : List SlotItem) : Type 0 where
  number : ℕ
  item : SlotItem
  at : slice_get xs number ≡ Some item
  named : has_name name item ≡ true

found_at : (name : Name) (xs : List SlotItem) → list_any (has_name name) xs ≡ true → SlotNamed name xs
found_at name [] is = absurd (true≢false (sym is))
found_at name (x ∷ xs) is = by_test (has_name name x) refl is (λ later. found_at name xs later)
  where
    by_test : (b : Bool) → has_name name x ≡ b → (b || list_any (has_name name) xs) ≡ true → (list_any (has_name name) xs ≡ true → SlotNamed name xs) → SlotNamed name (x ∷ xs)
    by_test true has is later = record { number = 0; item = x; at = refl; named = has }
    by_test false has is later = let more = later is in record { number = suc more.number; item = more.item; at = more.at; named = more.named }

named_at : (o : Option SlotItem) (name : Name) (item : SlotItem) → o ≡ Some item → has_name name item ≡ true → IsSomeAnd o (λ x. has_name name x ≡ true)
named_at o name item is has = subst (λ (x : Option SlotItem). IsSomeAnd x (λ i. has_name name i ≡ true)) (sym is) has

module _ (d : DomainNow) (all : FilesetMap) (stand : StandSlots d all) where
  pub shown_names : (q : Name) → list_any (has_name q) d.table.slots ≡ is_some (map.get all q)
  shown_names q = by_test (list_any (has_name q) d.table.slots) refl
    where
      by_test : (b : Bool) → list_any (has_name q) d.table.slots ≡ b → b ≡ is_some (map.get all q)
      by_test false none = sym (ap is_some (missing d all stand q none))
      by_test true is =
          let found = found_at q d.table.slots is in
          let h = has_named (slice_get d.table.slots found.number) q (named_at (slice_get d.table.slots found.number) q found.item found.at found.named) (stand.no_clone found.number) in
          let fileset = there d all stand found.number h.entry h.has in
          sym (ap (λ name. is_some (map.get all name)) (sym h.named) ∙ ap is_some fileset.1)

-- ---- rows

row_of : Name × Option Name → FilesetItem
row_of e = record { fileset = e.0; original = e.1 }

rows_alone : (es : List (Name × FilesetSlot)) → map_each row_alone (map_each (λ e. e.0) es) ≡ map_each row_of (images name_cmp nothing es)
unfolding row_of
rows_alone [] = refl
rows_alone (e ∷ es) = ap (λ rest. record { fileset = e.0; original = None } ∷ rest) (rows_alone es)

rows_so : (es : List (Name × FilesetSlot)) → map_each row_of (images name_cmp (λ (s : FilesetSlot). original_of s.role) es) ≡ map_each (λ e. record { fileset = e.0; original = original_of e.1.role }) es
unfolding row_of
rows_so [] = refl
rows_so (e ∷ es) = ap (λ rest. record { fileset = e.0; original = original_of e.1.role } ∷ rest) (rows_so es)

pub shown : (all : FilesetMap) (names : BTreeSet Name) (rows : List FilesetItem) → HaveNoClone all → IsOrdered name_cmp names → ((q : Name) → contains name_cmp names q ≡ is_some (map.get all q))
    → rows ≡ map_each row_alone names.keys → Filesets rows ≡ answer_of all Showfsets
shown all names rows none ordered same are =
    ap Filesets
    (are ∙ ap (map_each row_alone) (keys_are all names ordered same) ∙ rows_alone (map.entries all) ∙ ap (map_each row_of) (sym (none_original all none)) ∙ rows_so (map.entries all))
