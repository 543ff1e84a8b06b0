-- Runs that are put to others, one list of them after the other.
use Rattle.std.proofs.Common.{◌≡◌, ℕ, ◌+◌, ◌-◌, ◌<◌, ◌≤◌, Bool, true, false, cond, List, [], ◌∷◌, ◌++◌, length, get_or, take, drop, refl, sym, ap, subst, append_assoc, ◌∙◌, Result, Ok, Err, inl, inr, arith}
use Rattle.std.specs.Prelude.{◌↔◌, IfOk, IsTrue}
use Rattle.std.specs.List.{flat_map, AllByRecursion}
use Rattle.std.proofs.lemmas.Bool.{cases_Bool}
use Rattle.std.proofs.lemmas.List.{append-nil, take-append-drop, take_more}
use Rattle.std.proofs.lemmas.Grind.{flat_map-append}
use Rattle.extent_maps.specs.declared.run.Run.{Run}
use Rattle.extent_maps.specs.declared.run.RunPlace.{RunPlace}
use Rattle.extent_maps.specs.declared.run.RunPlace.TheVariants as place
use Rattle.extent_maps.specs.declared.run.PagePlace.{PagePlace}
use Rattle.extent_maps.specs.declared.run.PagePlace.TheVariants.{At, Hole, Absent}
use Rattle.extent_maps.specs.Runs.{IsFree, PutsRun, SamePlaces, behind, covers, place_of, placed}
use Rattle.extent_maps.proofs.EditLemmas.{over, place_append}
use Rattle.extent_records.specs.Rows.{HaveRoom, IsPlaced, Puts, there, times}

there_placed : (x : RunPlace) → there (placed x) ≡ 1
there_placed (place.At home) = refl
there_placed place.Holes = refl

pub times_append : (xs ys : List Run) (p : ℕ) → times (xs ++ ys) p ≡ times xs p + times ys p
times_append [] ys p = omega arith
times_append (x ∷ xs) ys p = let rest = times_append xs ys p in omega (arith, rest)

-- a page that is in one run at most is there if it is in one
pub there_times : (runs : List Run) (p : ℕ) → times runs p ≤ 1 → there (place_of runs p) ≡ times runs p
there_times [] p le = refl
there_times (r ∷ rs) p le = go (covers r p) refl (there_times rs p)
  where
    go : (b : Bool) → covers r p ≡ b → (times rs p ≤ 1 → there (place_of rs p) ≡ times rs p) → there (place_of (r ∷ rs) p) ≡ times (r ∷ rs) p
    go true e more =
        let few : 1 + times rs p ≤ 1 = subst (λ b. cond b 1 0 + times rs p ≤ 1) e le in
        rw e (there_placed (behind (p - r.page) r.first) ∙ omega (arith, few))
    go false e more =
        let few : 0 + times rs p ≤ 1 = subst (λ b. cond b 1 0 + times rs p ≤ 1) e le in
        let rest = more (omega (arith, few)) in
        rw e (rest ∙ omega arith)

there_over : (a b : PagePlace) → there a + there b ≤ 1 → there (over a b) ≡ there a + there b
there_over Absent b le = omega arith
there_over (At home) b le = omega (arith, le)
there_over Hole b le = omega (arith, le)

pub all_append : (P : Run → Type 0) (xs ys : List Run) → AllByRecursion P xs → AllByRecursion P ys → AllByRecursion P (xs ++ ys)
all_append P [] ys a b = b
all_append P (x ∷ xs) ys a b = (a.0, all_append P xs ys a.1 b)

pub all_front : (P : Run → Type 0) (xs ys : List Run) → AllByRecursion P (xs ++ ys) → AllByRecursion P xs
all_front P [] ys a = tt
all_front P (x ∷ xs) ys a = (a.0, all_front P xs ys a.1)

pub all_back : (P : Run → Type 0) (xs ys : List Run) → AllByRecursion P (xs ++ ys) → AllByRecursion P ys
all_back P [] ys a = a
all_back P (x ∷ xs) ys a = all_back P xs ys a.1

-- the room for the first of two lists of runs
room_front : (xs ys a : List Run) → HaveRoom (xs ++ ys) a → HaveRoom xs a
room_front xs ys a room = record {
  placed = all_front IsPlaced xs ys room.placed;
  once = λ p. omega (arith, room.once p, times_append xs ys p);
}

-- what is there once they are put
put_there : (xs a b : List Run) → HaveRoom xs a → SamePlaces (a ++ xs) b → (p : ℕ) → there (place_of b p) ≡ there (place_of a p) + times xs p
put_there xs a b room same p =
    let few = room.once p in
    let is : there (place_of xs p) ≡ times xs p = there_times xs p (omega (arith, few)) in
    ap there (same p ∙ place_append a xs p) ∙ there_over (place_of a p) (place_of xs p) (omega (arith, few, is)) ∙ omega (arith, is)

pub puts_none : (a : List Run) → Puts [] a a true
puts_none a = record {
  room = (λ t. record { placed = tt; once = λ p. few (place_of a p) }, λ r. refl);
  places = λ t p. ap (λ l. place_of l p) (sym (append-nil a));
}
  where
    few : (x : PagePlace) → there x + 0 ≤ 1
    few Absent = omega arith
    few (At home) = omega arith
    few Hole = omega arith

pub puts_then : (xs ys a b c : List Run) (put : Bool) → Puts xs a b true → Puts ys b c put → Puts (xs ++ ys) a c put
puts_then xs ys a b c put first then = record {
  room = (
    λ t.
        let more = then.room.0 t in
        record {
          placed = all_append IsPlaced xs ys room.placed more.placed;
          once = λ p. omega (arith, more.once p, is p, times_append xs ys p);
        },
    λ r. then.room.1 (record {
      placed = all_back IsPlaced xs ys r.placed;
      once = λ p. omega (arith, r.once p, is p, times_append xs ys p);
    }),
  );
  places = λ t p.
      then.places t p ∙ place_append b ys p ∙ ap (λ x. over x (place_of ys p)) (first.places refl p)
      ∙ sym (place_append (a ++ xs) ys p) ∙ ap (λ l. place_of l p) (append_assoc a xs ys);
}
  where
    room : HaveRoom xs a
    room = first.room.0 refl

    is : (p : ℕ) → there (place_of b p) ≡ there (place_of a p) + times xs p
    is = put_there xs a b room (first.places refl)

pub puts_stop : (xs ys a b c : List Run) → Puts xs a b false → Puts (xs ++ ys) a c false
puts_stop xs ys a b c none = record {
  room = (λ t. absurd cc, λ r. none.room.1 (room_front xs ys a r));
  places = λ t. absurd cc;
}

pub puts_unplaced : (run : Run) (a b : List Run) → (IsPlaced run → ⊥) → Puts (run ∷ []) a b false
puts_unplaced run a b never = record {
  room = (λ t. absurd cc, λ r. absurd (never r.placed.0));
  places = λ t. absurd cc;
}

pub puts_run : (run : Run) (a b : List Run) (put : Bool) → IsPlaced run → (IsTrue put ↔ IsFree run a) → (IsTrue put → PutsRun run a b) → Puts (run ∷ []) a b put
puts_run run a b put is free puts = record {
  room = (
    λ t. record { placed = (is, tt); once = λ p. once (free.0 t) p },
    λ r. free.1 (λ p has. is_absent p has (r.once p)),
  );
  places = λ t p. puts t p ∙ same (free.0 t) p (covers run p) refl;
}
  where
    few : (x : PagePlace) → there x ≤ 1
    few Absent = omega arith
    few (At home) = omega arith
    few Hole = omega arith

    once : IsFree run a → (p : ℕ) → there (place_of a p) + times (run ∷ []) p ≤ 1
    once f p = elim (cases_Bool (covers run p)) [
      | inl has ↦ rw (has, f p has) (omega arith)
      | inr lacks ↦ rw lacks (omega (arith, few (place_of a p)))
    ]

    none_there : (x : PagePlace) → there x + 1 ≤ 1 → x ≡ Absent
    none_there Absent le = refl
    none_there (At home) le = absurd (omega (arith, le))
    none_there Hole le = absurd (omega (arith, le))

    is_absent : (p : ℕ) → covers run p ≡ true → there (place_of a p) + times (run ∷ []) p ≤ 1 → place_of a p ≡ Absent
    is_absent p has le =
        let one : there (place_of a p) + (1 + 0) ≤ 1 = subst (λ b. there (place_of a p) + (cond b 1 0 + 0) ≤ 1) has le in
        none_there (place_of a p) (omega (arith, one))

    over_none : (x : PagePlace) → x ≡ over x Absent
    over_none Absent = refl
    over_none (At home) = refl
    over_none Hole = refl

    same : IsFree run a → (p : ℕ) (b : Bool) → covers run p ≡ b
        → cond (covers run p) (placed (behind (p - run.page) run.first)) (place_of a p) ≡ place_of (a ++ run ∷ []) p
    same f p true e = rw (e, place_append a (run ∷ []) p, f p e, e) refl
    same f p false e = rw (e, place_append a (run ∷ []) p, e) (over_none (place_of a p))

pub on_both : {T E : Type 0} {P Q R : T → Type 0} (r : Result T E) → ((x : T) → P x → Q x → R x) → IfOk r P → IfOk r Q → IfOk r R
on_both (Ok x) h p q = h x p q
on_both (Err e) h p q = tt

-- ** Lists of rows

module _ {X : Type 0} (f : X → List Run) where
  flat_next : (xs : List X) (i : ℕ) (d : X) → i < length xs → flat_map f (take (i + 1) xs) ≡ flat_map f (take i xs) ++ f (get_or xs i d)
  flat_next xs i d lt =
      ap (flat_map f) (take_more xs i d lt) ∙ flat_map-append f (take i xs) (get_or xs i d ∷ [])
      ∙ ap (λ l. flat_map f (take i xs) ++ l) (append-nil (f (get_or xs i d)))

  pub puts_more : (xs : List X) (i : ℕ) (d : X) (a b c : List Run) (put : Bool) → i < length xs → Puts (flat_map f (take i xs)) a b true → Puts (f (get_or xs i d)) b c put
      → Puts (flat_map f (take (i + 1) xs)) a c put
  puts_more xs i d a b c put lt first then =
      subst (λ l. Puts l a c put) (sym (flat_next xs i d lt)) (puts_then (flat_map f (take i xs)) (f (get_or xs i d)) a b c put first then)

  pub puts_next : (xs : List X) (i : ℕ) (d : X) (a b c : List Run) (put : Bool) → i < length xs → put ≡ true → Puts (flat_map f (take i xs)) a b true → Puts (f (get_or xs i d)) b c put
      → Puts (flat_map f (take (i + 1) xs)) a c true
  puts_next xs i d a b c put lt e first then = subst (Puts (flat_map f (take (i + 1) xs)) a c) e (puts_more xs i d a b c put lt first then)

  pub puts_not : (xs : List X) (i : ℕ) (d : X) (a b c : List Run) (put : Bool) → i < length xs → put ≡ false → Puts (flat_map f (take i xs)) a b true → Puts (f (get_or xs i d)) b c put
      → Puts (flat_map f xs) a c false
  puts_not xs i d a b c put lt e first then =
      let next : Puts (flat_map f (take (i + 1) xs)) a c false = subst (Puts (flat_map f (take (i + 1) xs)) a c) e (puts_more xs i d a b c put lt first then) in
      let whole : flat_map f (take (i + 1) xs) ++ flat_map f (drop (i + 1) xs) ≡ flat_map f xs = sym (flat_map-append f (take (i + 1) xs) (drop (i + 1) xs)) ∙ ap (flat_map f) (take-append-drop (i + 1) xs) in
      subst (λ l. Puts l a c false) whole (puts_stop (flat_map f (take (i + 1) xs)) (flat_map f (drop (i + 1) xs)) a c c next)
