-- What the calls on an order of use make of the frames in it.
use Rattle.std.proofs.Common.{◌≡◌, ◌==◌, ◌∙◌, ◌+◌, ◌-◌, ◌<◌, ℕ, true, false, cond, [], ◌∷◌, ◌++◌, Option, Some, None, IsNone, IsSome, is_none, is_some, length, take, nat_eq, nat_lt, if◌then◌else◌, eqb-true, refl, sym, ap, subst, arith, append-nil, length-append}
use Rattle.std.specs.Cmp.{nat_eq_equiv}
use Rattle.std.specs.List.{AllByRecursion, IsDistinct}
use Rattle.std.specs.Map.{keys_of, lookup, lookup_entry, remove_entry, set_value}
use Rattle.std.specs.Option.{option_and_then, option_map, option_map_or}
use Rattle.std.proofs.lemmas.List.{take_all}
use Rattle.std.proofs.lemmas.Map.{lookup-remove_entry}
use mathlib.Core.Bool.{false≢true}
use Rattle.std.proofs.lemmas.Option.{same_Some}
use Rattle.lru.proofs.Pairs.{cut_end, last_of_push}
use Rattle.lru.specs.LruCache.{demoted, last_entry, lru_cache, promoted, put_entries}
use Rattle.page_cache.specs.declared.frame.Frame.{Frame}
use Rattle.page_cache.specs.Frames.{cleaned, group_of, is_clean, without}
use Rattle.page_cache.specs.Entries.{Becomes, Displaces, Entries, KeepsOrder, behind, clean_in, frame_at, groups_in, last_dirty, one_for, one_if}
use Rattle.page_cache.proofs.Moves.{some_none}

-- no entry has the number
abbrev pub HasNone : ℕ → Entries → Type 0
HasNone number [] = Unit {0}
HasNone number (e ∷ entries) = (nat_eq number e.0 ≡ false) × HasNone number entries

has_none : (number : ℕ) (entries : Entries) → AllByRecursion (λ key. nat_eq number key ≡ false) (keys_of entries) → HasNone number entries
has_none number [] all = tt
has_none number (e ∷ entries) all = (all.0, has_none number entries all.1)

-- the first entry's number is not among the others
rest_none : (e : ℕ × Frame) (entries : Entries) → IsDistinct nat_eq (keys_of (e ∷ entries)) → HasNone e.0 entries
unfolding IsDistinct
rest_none e entries distinct = has_none e.0 entries distinct.0

rest_distinct : (e : ℕ × Frame) (entries : Entries) → IsDistinct nat_eq (keys_of (e ∷ entries)) → IsDistinct nat_eq (keys_of entries)
unfolding IsDistinct
rest_distinct e entries distinct = distinct.1

none_without : (number : ℕ) (entries : Entries) → HasNone number entries → without number (clean_in entries) ≡ clean_in entries
none_without number [] none = refl
none_without number (e ∷ entries) none =
    let rest = none_without number entries none.1 in
    (elim (is_clean (Some e.1)) as (λ b. without number (if b then e.0 ∷ clean_in entries else clean_in entries) ≡ (if b then e.0 ∷ clean_in entries else clean_in entries)) [
      | true ↦ rw none.0 (ap (λ l. e.0 ∷ l) rest)
      | false ↦ rest
    ])

-- the order of the others, once the entry of a number is gone
clean_remove : (number : ℕ) (entries : Entries) → IsDistinct nat_eq (keys_of entries) → clean_in (remove_entry (nat_eq number) entries) ≡ without number (clean_in entries)
clean_remove number [] distinct = refl
clean_remove number (e ∷ entries) distinct =
    let rest = clean_remove number entries (rest_distinct e entries distinct) in
    (elim (nat_eq number e.0) as (λ b. nat_eq number e.0 ≡ b → clean_in (cond b entries (e ∷ remove_entry (nat_eq number) entries)) ≡ without number (clean_in (e ∷ entries))) [
      | true ↦ λ t.
          let same : e.0 ≡ number = sym (eqb-true number e.0 t) in
          let none = none_without number entries (subst (λ n. HasNone n entries) same (rest_none e entries distinct)) in
          (elim (is_clean (Some e.1)) as (λ b. clean_in entries ≡ without number (if b then e.0 ∷ clean_in entries else clean_in entries)) [
            | true ↦ rw t (sym none)
            | false ↦ sym none
          ])
      | false ↦ λ t. (elim (is_clean (Some e.1)) as (λ b. (if b then e.0 ∷ clean_in (remove_entry (nat_eq number) entries) else clean_in (remove_entry (nat_eq number) entries)) ≡ without number (if b then e.0 ∷ clean_in entries else clean_in entries)) [
        | true ↦ rw t (ap (λ l. e.0 ∷ l) rest)
        | false ↦ rest
      ])
    ]) refl

len_remove : (number : ℕ) (entries : Entries) → length (remove_entry (nat_eq number) entries) + one_for (frame_at entries number) ≡ length entries
len_remove number [] = refl
len_remove number (e ∷ entries) =
    let rest = len_remove number entries in
    (elim (nat_eq number e.0) as (λ b. length (cond b entries (e ∷ remove_entry (nat_eq number) entries)) + one_for (cond b (Some e.1) (lookup (nat_eq number) entries)) ≡ length (e ∷ entries)) [
      | true ↦ omega arith
      | false ↦ omega (arith, rest)
    ])

len_clean : (number : ℕ) (entries : Entries) → length (clean_in (remove_entry (nat_eq number) entries)) + one_if (is_clean (frame_at entries number)) ≡ length (clean_in entries)
len_clean number [] = refl
len_clean number (e ∷ entries) =
    let rest = len_clean number entries in
    (elim (nat_eq number e.0) as (λ b. length (clean_in (cond b entries (e ∷ remove_entry (nat_eq number) entries))) + one_if (is_clean (cond b (Some e.1) (lookup (nat_eq number) entries))) ≡ length (clean_in (e ∷ entries))) [
      | true ↦ (elim (is_clean (Some e.1)) as (λ c. length (clean_in entries) + one_if c ≡ length (if c then e.0 ∷ clean_in entries else clean_in entries)) [
        | true ↦ omega arith
        | false ↦ omega arith
      ])
      | false ↦ (elim (is_clean (Some e.1)) as (λ c. length (if c then e.0 ∷ clean_in (remove_entry (nat_eq number) entries) else clean_in (remove_entry (nat_eq number) entries)) + one_if (is_clean (frame_at entries number)) ≡ length (if c then e.0 ∷ clean_in entries else clean_in entries)) [
        | true ↦ omega (arith, rest)
        | false ↦ rest
      ])
    ])

module _ (number : ℕ) (entries : Entries) (distinct : IsDistinct nat_eq (keys_of entries)) where
  abbrev others : Entries
  others = remove_entry (nat_eq number) entries

  frames_without : (q : ℕ) → frame_at others q ≡ (if number == q then None else frame_at entries q)
  frames_without q = lookup-remove_entry nat_eq_equiv (nat_eq number) (λ x y. nat_eq_equiv.congr number x y) q entries distinct

  -- the frame of the number is gone
  pub removed : Becomes number None entries others
  removed = record {
    frames = frames_without;
    order = clean_remove number entries distinct;
    kept = omega (arith, len_remove number entries);
    clean = omega (arith, len_clean number entries);
  }

  -- a frame of the number is the first
  pub fronted : (frame : Frame) → Becomes number (Some frame) entries ((number, frame) ∷ others)
  fronted frame = record {
    frames = λ q. rw (nat_eq_equiv.symm q number) ((elim (nat_eq number q) as (λ b. nat_eq number q ≡ b → frame_at others q ≡ (if b then None else frame_at entries q) → cond b (Some frame) (frame_at others q) ≡ (if b then Some frame else frame_at entries q)) [
      | true ↦ λ t is. refl
      | false ↦ λ t is. is
    ]) refl (frames_without q));
    order = ap (λ l. if is_clean (Some frame) then number ∷ l else l) (clean_remove number entries distinct);
    kept = omega (arith, len_remove number entries);
    clean = (elim (is_clean (Some frame)) as (λ c. length (if c then number ∷ clean_in others else clean_in others) + one_if (is_clean (frame_at entries number)) ≡ length (clean_in entries) + one_if c) [
      | true ↦ omega (arith, len_clean number entries)
      | false ↦ omega (arith, len_clean number entries)
    ]);
  }

pub some_is : (frame : Option Frame) → IsSome frame → (f : Frame) × (frame ≡ Some f)
some_is None some = absurd (false≢true some)
some_is (Some f) some = (f, refl)

entry_there : (number : ℕ) (entries : Entries) (frame : Frame) → frame_at entries number ≡ Some frame → lookup_entry (nat_eq number) entries ≡ Some (number, frame)
entry_there number [] frame is = absurd (some_none _ is)
entry_there number (e ∷ entries) frame is = (elim (nat_eq number e.0) as (λ b. nat_eq number e.0 ≡ b → cond b (Some e.1) (frame_at entries number) ≡ Some frame → cond b (Some e) (lookup_entry (nat_eq number) entries) ≡ Some (number, frame)) [
  | true ↦ λ t is.
      let same : e.0 ≡ number = sym (eqb-true number e.0 t) in
      let one : e.1 ≡ frame = same_Some _ _ is in
      let pair : e ≡ (number, frame) = λ i. (same i, one i) in
      ap Some pair
  | false ↦ λ t is. entry_there number entries frame is
]) refl is

none_there : (number : ℕ) (entries : Entries) → frame_at entries number ≡ None → (lookup_entry (nat_eq number) entries ≡ None) × (remove_entry (nat_eq number) entries ≡ entries)
none_there number [] none = (refl, refl)
none_there number (e ∷ entries) none = (elim (nat_eq number e.0) as (λ b. cond b (Some e.1) (frame_at entries number) ≡ None → (cond b (Some e) (lookup_entry (nat_eq number) entries) ≡ None) × (cond b entries (e ∷ remove_entry (nat_eq number) entries) ≡ e ∷ entries)) [
  | true ↦ λ none. absurd (some_none _ (sym none))
  | false ↦ λ none. let rest = none_there number entries none in (rest.0, ap (λ l. e ∷ l) rest.1)
]) none

module _ (number : ℕ) (entries : Entries) (distinct : IsDistinct nat_eq (keys_of entries)) where
  promoted_is : (frame : Frame) → frame_at entries number ≡ Some frame → promoted (nat_eq number) entries ≡ (number, frame) ∷ remove_entry (nat_eq number) entries
  promoted_is frame is = ap (λ o. option_map_or (λ (e : ℕ × Frame). e ∷ remove_entry (nat_eq number) entries) o entries) (entry_there number entries frame is)

  -- a frame that is used
  pub used : IsSome (frame_at entries number) → Becomes number (frame_at entries number) entries (promoted (nat_eq number) entries)
  used some =
      let there = some_is (frame_at entries number) some in
      subst (λ l. Becomes number (frame_at entries number) entries l) (sym (promoted_is there.0 there.1)) (subst (λ f. Becomes number f entries ((number, there.0) ∷ remove_entry (nat_eq number) entries)) (sym there.1) (fronted number entries distinct there.0))

  -- a frame that is used and written to
  pub used_and_set : (frame to : Frame) → frame_at entries number ≡ Some frame → Becomes number (Some to) entries (set_value (nat_eq number) (promoted (nat_eq number) entries) to)
  used_and_set frame to is =
      let first : set_value (nat_eq number) ((number, frame) ∷ remove_entry (nat_eq number) entries) to ≡ (number, to) ∷ remove_entry (nat_eq number) entries = rw (nat_eq_equiv.refl number) refl in
      subst (λ l. Becomes number (Some to) entries l) (sym (ap (λ l. set_value (nat_eq number) l to) (promoted_is frame is) ∙ first)) (fronted number entries distinct to)

  -- another frame in the place of one
  pub put_again : (frame to : Frame) (cap : ℕ) → frame_at entries number ≡ Some frame → Becomes number (Some to) entries (put_entries nat_eq (lru_cache entries cap) number to)
  put_again frame to cap is = subst (λ l. Becomes number (Some to) entries l) (sym (ap (λ o. option_map_or (λ (e : ℕ × Frame). (e.0, to) ∷ remove_entry (nat_eq number) entries) o ((number, to) ∷ take (cap - 1) entries)) (entry_there number entries frame is))) (fronted number entries distinct to)

  put_new : (to : Frame) (cap : ℕ) → frame_at entries number ≡ None → put_entries nat_eq (lru_cache entries cap) number to ≡ (number, to) ∷ take (cap - 1) entries
  put_new to cap none = ap (λ o. option_map_or (λ (e : ℕ × Frame). (e.0, to) ∷ remove_entry (nat_eq number) entries) o ((number, to) ∷ take (cap - 1) entries)) (none_there number entries none).0

  -- a frame where there was none
  first_of_all : (to : Frame) → frame_at entries number ≡ None → Becomes number (Some to) entries ((number, to) ∷ entries)
  first_of_all to none = subst (λ l. Becomes number (Some to) entries ((number, to) ∷ l)) (none_there number entries none).1 (fronted number entries distinct to)

  pub added : (to : Frame) (cap : ℕ) → frame_at entries number ≡ None → length entries < cap → Becomes number (Some to) entries (put_entries nat_eq (lru_cache entries cap) number to)
  added to cap none fits = subst (λ l. Becomes number (Some to) entries l) (sym (put_new to cap none ∙ ap (λ l. (number, to) ∷ l) (take_all (cap - 1) entries (omega arith)))) (first_of_all to none)

-- ---- the last entry

push_last : (before : Entries) (e : ℕ × Frame) → last_entry (before ++ e ∷ []) ≡ Some e
push_last before e = (last_of_push before e).0

last_apart : (key : ℕ) (before : Entries) (e : ℕ × Frame) → AllByRecursion (λ k. nat_eq key k ≡ false) (keys_of (before ++ e ∷ [])) → nat_eq key e.0 ≡ false
last_apart key [] e all = all.0
last_apart key (x ∷ before) e all = last_apart key before e all.1

-- its number is not among the others
before_none : (before : Entries) (e : ℕ × Frame) → IsDistinct nat_eq (keys_of (before ++ e ∷ [])) → (remove_entry (nat_eq e.0) (before ++ e ∷ []) ≡ before) × HasNone e.0 before
unfolding IsDistinct
before_none [] e distinct = (rw (nat_eq_equiv.refl e.0) refl, tt)
before_none (x ∷ before) e distinct =
    let rest = before_none before e distinct.1 in
    let apart : nat_eq e.0 x.0 ≡ false = nat_eq_equiv.symm e.0 x.0 ∙ last_apart x.0 before e distinct.0 in
    (rw apart (ap (λ l. x ∷ l) rest.0), (apart, rest.1))

clean_push : (before : Entries) (e : ℕ × Frame) → clean_in (before ++ e ∷ []) ≡ clean_in before ++ clean_in (e ∷ [])
clean_push [] e = refl
clean_push (x ∷ before) e = (elim (is_clean (Some x.1)) as (λ b. (if b then x.0 ∷ clean_in (before ++ e ∷ []) else clean_in (before ++ e ∷ [])) ≡ (if b then x.0 ∷ clean_in before else clean_in before) ++ clean_in (e ∷ [])) [
  | true ↦ ap (λ l. x.0 ∷ l) (clean_push before e)
  | false ↦ clean_push before e
])

-- a last entry that is not dirty is clean
not_dirty : (e : ℕ × Frame) → (if is_clean (Some e.1) then None else Some e.0) ≡ None → is_clean (Some e.1) ≡ true
not_dirty e none = (elim (is_clean (Some e.1)) as (λ b. (if b then None else Some e.0) ≡ None → b ≡ true) [
  | true ↦ λ none. refl
  | false ↦ λ none. absurd (some_none _ (sym none))
]) none

found_last : (before : Entries) (e : ℕ × Frame) → HasNone e.0 before → frame_at (before ++ e ∷ []) e.0 ≡ Some e.1
found_last [] e none = rw (nat_eq_equiv.refl e.0) refl
found_last (x ∷ before) e none = rw none.0 (found_last before e none.1)

all_before : (key : ℕ) (before : Entries) (e : ℕ × Frame) → AllByRecursion (λ k. nat_eq key k ≡ false) (keys_of (before ++ e ∷ [])) → AllByRecursion (λ k. nat_eq key k ≡ false) (keys_of before)
all_before key [] e all = tt
all_before key (x ∷ before) e all = (all.0, all_before key before e all.1)

distinct_before : (before : Entries) (e : ℕ × Frame) → IsDistinct nat_eq (keys_of (before ++ e ∷ [])) → IsDistinct nat_eq (keys_of before)
unfolding IsDistinct
distinct_before [] e distinct = tt
distinct_before (x ∷ before) e distinct = (all_before x.0 before e distinct.0, distinct_before before e distinct.1)

module _ (before : Entries) (e : ℕ × Frame) (distinct : IsDistinct nat_eq (keys_of (before ++ e ∷ []))) where
  abbrev all : Entries
  all = before ++ e ∷ []

  last_goes : Becomes e.0 None all before
  last_goes = subst (λ l. Becomes e.0 None all l) (before_none before e distinct).0 (removed e.0 all distinct)

  one_more : length all ≡ length before + 1
  one_more = length-append before (e ∷ [])

  -- a frame in the place of the last one, which is clean
  displaces_last : (number : ℕ) (frame : Frame) → frame_at all number ≡ None → is_clean (Some e.1) ≡ true → Displaces number frame all ((number, frame) ∷ before)
  displaces_last number frame none clean =
      let still_none : frame_at before number ≡ None = last_goes.frames number ∙ (elim (e.0 == number) as (λ b. (if b then None else frame_at all number) ≡ None) [
        | true ↦ refl
        | false ↦ none
      ]) in
      let adds = first_of_all number before (distinct_before before e distinct) frame still_none in
      let alone : clean_in (e ∷ []) ≡ e.0 ∷ [] = rw clean refl in
      record {
        goes = e.0;
        earlier = clean_in before;
        last = clean_push before e ∙ ap (λ l. clean_in before ++ l) alone;
        frames = λ q. adds.frames q ∙ ap (λ o. if number == q then Some frame else o) (last_goes.frames q);
        order = adds.order;
        kept = omega (arith, one_more);
        clean = omega (arith, adds.clean, ap (λ (f : Option Frame). one_if (is_clean f)) still_none, ap length (clean_push before e ∙ ap (λ l. clean_in before ++ l) alone), length-append (clean_in before) (e.0 ∷ []));
        was_clean = ap is_clean (found_last before e (before_none before e distinct).1) ∙ clean;
      }

  -- the last one, which is dirty, is taken to the front
  last_first : promoted (nat_eq e.0) all ≡ e ∷ before
  last_first = promoted_is e.0 all distinct e.1 (found_last before e (before_none before e distinct).1) ∙ ap (λ l. e ∷ l) (before_none before e distinct).0

  clean_same : is_clean (Some e.1) ≡ false → clean_in all ≡ clean_in before
  clean_same dirty = let alone : clean_in (e ∷ []) ≡ [] = rw dirty refl in clean_push before e ∙ ap (λ l. clean_in before ++ l) alone ∙ append-nil (clean_in before)

  keeps_order : is_clean (Some e.1) ≡ false → KeepsOrder all (e ∷ before)
  keeps_order dirty =
      let becomes = used e.0 all distinct (subst IsSome (sym (found_last before e (before_none before e distinct).1)) refl) in
      record {
        frames = λ q. subst (λ l. frame_at l q ≡ frame_at all q) last_first (becomes.frames q ∙ (elim (e.0 == q) as (λ b. (e.0 == q) ≡ b → (if b then frame_at all e.0 else frame_at all q) ≡ frame_at all q) [
          | true ↦ λ t. ap (frame_at all) (eqb-true e.0 q t)
          | false ↦ λ t. refl
        ]) refl);
        order = rw dirty (sym (clean_same dirty));
        kept = omega (arith, one_more);
      }

-- a dirty one at the end is one more after the last clean one
behind_push : (before : Entries) (e : ℕ × Frame) → is_clean (Some e.1) ≡ false → 0 < length (clean_in before) → behind (before ++ e ∷ []) ≡ behind before + 1
behind_push [] e dirty some = absurd (omega (arith, some))
behind_push (x ∷ before) e dirty some =
    let alone : clean_in (e ∷ []) ≡ [] = rw dirty refl in
    let same : clean_in (before ++ e ∷ []) ≡ clean_in before = clean_push before e ∙ ap (λ l. clean_in before ++ l) alone ∙ append-nil (clean_in before) in
    let longer : length (before ++ e ∷ []) ≡ length before + 1 = length-append before (e ∷ []) in
    rw same ((elim (nat_lt 0 (length (clean_in before))) as (λ b. nat_lt 0 (length (clean_in before)) ≡ b → (if b then behind (before ++ e ∷ []) else if is_clean (Some x.1) then length (before ++ e ∷ []) else length (before ++ e ∷ []) + 1) ≡ (if b then behind before else if is_clean (Some x.1) then length before else length before + 1) + 1) [
      | true ↦ λ t. behind_push before e dirty (grind (arith, t))
      | false ↦ λ t. (elim (is_clean (Some x.1)) as (λ b. (if b then length (before ++ e ∷ []) else length (before ++ e ∷ []) + 1) ≡ (if b then length before else length before + 1) + 1) [
        | true ↦ longer
        | false ↦ omega (arith, longer)
      ])
    ]) refl)

-- if one is clean, fewer come after it than there are
pub fewer_behind : (entries : Entries) → 0 < length (clean_in entries) → behind entries < length entries
fewer_behind [] some = absurd (omega (arith, some))
fewer_behind (e ∷ entries) some =
    (elim (nat_lt 0 (length (clean_in entries))) as (λ b. nat_lt 0 (length (clean_in entries)) ≡ b → (if b then behind entries else if is_clean (Some e.1) then length entries else length entries + 1) < length (e ∷ entries)) [
      | true ↦ λ t. let less = fewer_behind entries (grind (arith, t)) in omega (arith, less)
      | false ↦ λ t. (elim (is_clean (Some e.1)) as (λ c. 0 < length (if c then e.0 ∷ clean_in entries else clean_in entries) → (if c then length entries else length entries + 1) < length (e ∷ entries)) [
        | true ↦ λ some. omega arith
        | false ↦ λ some. absurd (grind (arith, t, some))
      ]) some
    ]) refl

-- the last entry, if it is dirty
last_is : (e : ℕ × Frame) (number : ℕ) → (if is_clean (Some e.1) then None else Some e.0) ≡ Some number → (is_clean (Some e.1) ≡ false) × (e.0 ≡ number)
last_is e number is = (elim (is_clean (Some e.1)) as (λ b. (if b then None else Some e.0) ≡ Some number → (b ≡ false) × (e.0 ≡ number)) [
  | true ↦ λ is. absurd (some_none _ is)
  | false ↦ λ is. (refl, same_Some _ _ is)
]) is

-- the last one, which is dirty, passes to the front
pub passes : (number : ℕ) (entries : Entries) → IsDistinct nat_eq (keys_of entries) → last_dirty entries ≡ Some number → 0 < length (clean_in entries) → KeepsOrder entries (promoted (nat_eq number) entries) × (behind (promoted (nat_eq number) entries) + 1 ≡ behind entries)
passes number entries distinct is some =
    let cut = cut_end entries (grind (arith, len_clean number entries, some, fewer_behind entries some)) in
    let before = cut.0 in
    let e = cut.1 in
    let last = last_is e number (sym (ap (option_and_then (λ (x : ℕ × Frame). if is_clean (Some x.1) then None else Some x.0)) (ap last_entry cut.2 ∙ push_last before e)) ∙ is) in
    let distinct_cut = subst (λ (l : Entries). IsDistinct nat_eq (keys_of l)) cut.2 distinct in
    let first : promoted (nat_eq number) entries ≡ e ∷ before = ap (λ (l : Entries). promoted (nat_eq number) l) cut.2 ∙ subst (λ n. promoted (nat_eq n) (before ++ e ∷ []) ≡ e ∷ before) last.1 (last_first before e distinct_cut) in
    let some_before : 0 < length (clean_in before) = subst (λ l. 0 < length l) (ap clean_in cut.2 ∙ clean_same before e distinct_cut last.0) some in
    let front : behind (e ∷ before) ≡ behind before = let t : nat_lt 0 (length (clean_in before)) ≡ true = grind (arith, some_before) in rw t refl in
    let nearer : behind (e ∷ before) + 1 ≡ behind entries = ap (λ n. n + 1) front ∙ sym (behind_push before e last.0 some_before) ∙ ap behind (sym cut.2) in
    let keeps : KeepsOrder entries (e ∷ before) = subst (λ l. KeepsOrder l (e ∷ before)) (sym cut.2) (keeps_order before e distinct_cut last.0) in
    (subst (KeepsOrder entries) (sym first) keeps, subst (λ l. behind l + 1 ≡ behind entries) (sym first) nearer)

-- a new frame in a full list whose last one is clean
pub displaced : (number : ℕ) (frame : Frame) (entries : Entries) (cap : ℕ) → IsDistinct nat_eq (keys_of entries) → frame_at entries number ≡ None → length entries ≡ cap → 0 < cap → last_dirty entries ≡ None → Displaces number frame entries (put_entries nat_eq (lru_cache entries cap) number frame)
displaced number frame entries cap distinct none full some is =
    let cut = cut_end entries (omega (arith, full, some)) in
    let before = cut.0 in
    let e = cut.1 in
    let clean = not_dirty e (sym (ap (option_and_then (λ (x : ℕ × Frame). if is_clean (Some x.1) then None else Some x.0)) (ap last_entry cut.2 ∙ push_last before e)) ∙ is) in
    let distinct_cut = subst (λ (l : Entries). IsDistinct nat_eq (keys_of l)) cut.2 distinct in
    let none_cut = subst (λ l. frame_at l number ≡ None) cut.2 none in
    let left : take (cap - 1) entries ≡ before = ap (λ n. take (n - 1) entries) (sym full) ∙ ap (λ (l : Entries). take (length l - 1) l) cut.2 ∙ (last_of_push before e).1 in
    let is_put : put_entries nat_eq (lru_cache entries cap) number frame ≡ (number, frame) ∷ before = put_new number entries distinct frame cap none ∙ ap (λ (l : Entries). (number, frame) ∷ l) left in
    let displaces : Displaces number frame entries ((number, frame) ∷ before) = subst (λ l. Displaces number frame l ((number, frame) ∷ before)) (sym cut.2) (displaces_last before e distinct_cut number frame none_cut clean) in
    subst (Displaces number frame entries) (sym is_put) displaces

pub none_is : (frame : Option Frame) → IsNone frame → frame ≡ None
none_is None none = refl
none_is (Some f) none = absurd (false≢true (sym none))

-- ---- what waits, and how many there are

pub has_none_of : (number : ℕ) (entries : Entries) → frame_at entries number ≡ None → HasNone number entries
has_none_of number [] none = tt
has_none_of number (e ∷ entries) none = (elim (nat_eq number e.0) as (λ b. nat_eq number e.0 ≡ b → cond b (Some e.1) (frame_at entries number) ≡ None → (nat_eq number e.0 ≡ false) × HasNone number entries) [
  | true ↦ λ t none. absurd (some_none _ (sym none))
  | false ↦ λ t none. (t, has_none_of number entries none)
]) refl none

-- a number without a frame is not in the order of use
pub not_in_order : (number : ℕ) (entries : Entries) → frame_at entries number ≡ None → without number (clean_in entries) ≡ clean_in entries
not_in_order number entries none = none_without number entries (has_none_of number entries none)

-- a clean frame waits for nothing
pub waits_not : (frame : Option Frame) → is_clean frame ≡ true → group_of frame ≡ None
waits_not None clean = refl
waits_not (Some f) clean = (elim f.waits as (λ w. is_none w ≡ true → w ≡ None) [
  | None ↦ λ t. refl
  | Some g ↦ λ t. absurd (false≢true t)
]) clean

pub clean_waits_not : (frame : Frame) → frame.waits ≡ None → is_clean (Some frame) ≡ true
clean_waits_not frame none = ap is_none none

-- a frame is clean, or waits
pub clean_or_waits : (frame : Option Frame) → one_if (is_clean frame) + one_for (group_of frame) ≡ one_for frame
clean_or_waits None = refl
clean_or_waits (Some f) = elim f.waits as (λ w. one_if (is_none w) + one_for w ≡ 1) [
  | None ↦ refl
  | Some g ↦ refl
]

module _ (number : ℕ) (frame : Frame) (old new : Entries) (clean : frame.waits ≡ None) (none : frame_at old number ≡ None) where
  pub added_groups : Becomes number (Some frame) old new → (q : ℕ) → groups_in new q ≡ groups_in old q
  added_groups becomes q = ap group_of (becomes.frames q) ∙ (elim (number == q) as (λ b. (number == q) ≡ b → group_of (if b then Some frame else frame_at old q) ≡ groups_in old q) [
    | true ↦ λ t. clean ∙ sym (ap group_of (ap (frame_at old) (sym (eqb-true number q t)) ∙ none))
    | false ↦ λ t. refl
  ]) refl

  pub added_parts : Becomes number (Some frame) old new → length (clean_in new) + length old ≡ length (clean_in old) + length new
  added_parts becomes = omega (arith, becomes.clean, becomes.kept, ap (λ (f : Option Frame). one_if (is_clean f)) none, ap (λ (f : Option Frame). one_for f) none, ap one_if (clean_waits_not frame clean))

  pub displaced_groups : Displaces number frame old new → (q : ℕ) → groups_in new q ≡ groups_in old q
  displaced_groups displaces q = ap group_of (displaces.frames q) ∙ (elim (number == q) as (λ b. (number == q) ≡ b → group_of (if b then Some frame else if displaces.goes == q then None else frame_at old q) ≡ groups_in old q) [
    | true ↦ λ t. clean ∙ sym (ap group_of (ap (frame_at old) (sym (eqb-true number q t)) ∙ none))
    | false ↦ λ t. (elim (displaces.goes == q) as (λ b. (displaces.goes == q) ≡ b → group_of (if b then None else frame_at old q) ≡ groups_in old q) [
      | true ↦ λ t. sym (ap (groups_in old) (sym (eqb-true displaces.goes q t)) ∙ waits_not (frame_at old displaces.goes) displaces.was_clean)
      | false ↦ λ t. refl
    ]) refl
  ]) refl

  pub displaced_parts : Displaces number frame old new → length (clean_in new) + length old ≡ length (clean_in old) + length new
  displaced_parts displaces = omega (arith, displaces.clean, displaces.kept, ap one_if (clean_waits_not frame clean))

-- ---- the only clean one, after all others

frame_behind : (entries : Entries) (e : ℕ × Frame) (q : ℕ) → frame_at (entries ++ e ∷ []) q ≡ (if is_some (frame_at entries q) then frame_at entries q else if nat_eq q e.0 then Some e.1 else None)
frame_behind [] e q = refl
frame_behind (x ∷ entries) e q = elim (nat_eq q x.0) as (λ b. cond b (Some x.1) (frame_at (entries ++ e ∷ []) q) ≡ (if is_some (cond b (Some x.1) (frame_at entries q)) then cond b (Some x.1) (frame_at entries q) else if nat_eq q e.0 then Some e.1 else None)) [
  | true ↦ refl
  | false ↦ frame_behind entries e q
]

clean_there : (frame : Option Frame) → one_if (is_clean frame) ≡ 1 → (f : Frame) × (frame ≡ Some f) × (is_clean (Some f) ≡ true)
clean_there None is = absurd (omega (arith, is))
clean_there (Some f) is = (
  f,
  refl,
  (elim (is_clean (Some f)) as (λ b. one_if b ≡ 1 → b ≡ true) [
    | true ↦ λ is. refl
    | false ↦ λ is. absurd (omega (arith, is))
  ]) is,
)

or_none : (o : Option Frame) → (if is_some o then o else None) ≡ o
or_none None = refl
or_none (Some f) = refl

module _ (number : ℕ) (entries : Entries) (distinct : IsDistinct nat_eq (keys_of entries)) (alone : clean_in entries ≡ number ∷ []) where
  no_others : clean_in (remove_entry (nat_eq number) entries) ≡ []
  no_others = clean_remove number entries distinct ∙ ap (without number) alone ∙ rw (nat_eq_equiv.refl number) refl

  -- it is there, and clean
  its_frame : (f : Frame) × (frame_at entries number ≡ Some f) × (is_clean (Some f) ≡ true)
  its_frame =
      let lens : one_if (is_clean (frame_at entries number)) ≡ 1 = omega (arith, len_clean number entries, ap length no_others, ap length alone) in
      clean_there (frame_at entries number) lens

  behind_all : Entries
  behind_all = remove_entry (nat_eq number) entries ++ (number, its_frame.0) ∷ []

  behind_frames : (q : ℕ) → frame_at behind_all q ≡ frame_at entries q
  unfolding behind_all
  behind_frames q =
      let gone = (removed number entries distinct).frames q in
      frame_behind (remove_entry (nat_eq number) entries) (number, its_frame.0) q
      ∙ rw (gone, nat_eq_equiv.symm q number) ((elim (nat_eq number q) as (λ b. nat_eq number q ≡ b → (if is_some (if b then None else frame_at entries q) then (if b then None else frame_at entries q) else if b then Some its_frame.0 else None) ≡ frame_at entries q) [
        | true ↦ λ t. sym its_frame.1 ∙ ap (frame_at entries) (eqb-true number q t)
        | false ↦ λ t. or_none (frame_at entries q)
      ]) refl)

  behind_keeps : KeepsOrder entries behind_all
  unfolding behind_all
  behind_keeps =
      let clean = its_frame.2 in
      let last : clean_in ((number, its_frame.0) ∷ []) ≡ number ∷ [] = rw clean refl in
      record {
        frames = behind_frames;
        order = clean_push (remove_entry (nat_eq number) entries) (number, its_frame.0) ∙ ap (λ l. l ++ clean_in ((number, its_frame.0) ∷ [])) no_others ∙ last ∙ sym alone;
        kept = omega (arith, len_remove number entries, length-append (remove_entry (nat_eq number) entries) ((number, its_frame.0) ∷ []), ap (λ (f : Option Frame). one_for f) its_frame.1);
      }

  -- the only clean one is put after all others
  pub demoted_keeps : KeepsOrder entries (demoted (nat_eq number) entries)
  unfolding behind_all
  demoted_keeps = subst (KeepsOrder entries) (sym (ap (λ o. option_map_or (λ (e : ℕ × Frame). remove_entry (nat_eq number) entries ++ e ∷ []) o entries) (entry_there number entries its_frame.0 its_frame.1))) behind_keeps

-- a frame has become another one, and stays so where nothing but the place of a dirty one changes
pub becomes_still : (number : ℕ) (frame : Option Frame) (old next new : Entries) → Becomes number frame old next → KeepsOrder next new → Becomes number frame old new
becomes_still number frame old next new becomes keeps = record {
  frames = λ q. keeps.frames q ∙ becomes.frames q;
  order = keeps.order ∙ becomes.order;
  kept = omega (arith, becomes.kept, keeps.kept);
  clean = omega (arith, becomes.clean, ap length keeps.order);
}

-- where none was clean, one that is made so is alone
pub alone_now : (number : ℕ) (old new : Entries) → IsSome (frame_at old number) → clean_in old ≡ [] → Becomes number (option_map cleaned (frame_at old number)) old new → clean_in new ≡ number ∷ []
alone_now number old new some none becomes =
    let there = some_is (frame_at old number) some in
    becomes.order ∙ rw (there.1, none) refl
