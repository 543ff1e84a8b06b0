-- A record of a chain that is parted in two.
use Rattle.std.proofs.Common.{◌≡◌, ℕ, ◌+◌, ◌<◌, ◌≤◌, Bool, true, false, cond, ltb, List, [], ◌∷◌, ◌++◌, length, get_or, set, refl, sym, ap, subst, ◌∙◌, ◌⊎◌, inl, inr, arith}
use Rattle.std.specs.List.{AllByRecursion}
use Rattle.std.proofs.lemmas.Grind.{flat_map-append}
use Rattle.std.proofs.lemmas.List.{append-nil}
use Rattle.extent_maps.specs.declared.run.Run.{Run}
use Rattle.extent_maps.specs.declared.run.PagePlace.TheVariants.{Absent}
use Rattle.extent_maps.specs.Runs.{place_of}
use Rattle.extent_maps.proofs.EditLemmas.{over, place_append}
use Rattle.cell_records.specs.declared.record.Record.{Record}
use Rattle.extent_records.specs.Rows.{AreOneMap, IsPlaced, NoPageTwice, runs_in, runs_of, there, times}
use Rattle.extent_records.specs.Writing.{places_in}
use Rattle.extent_records.specs.Chains.{ArePartsOf, ChangesAlone, FollowsChange, KeepsMap}
use Rattle.extent_records.proofs.PutLemmas.{all_append, there_times, times_append}
use Rattle.extent_records.proofs.ChainLemmas.{follows_change, over_absent, shows_record}

no_times : (runs : List Run) (p : ℕ) → NoPageTwice runs → place_of runs p ≡ Absent → times runs p ≡ 0
no_times runs p once e = sym (there_times runs p (once p)) ∙ ap there e

module _ (records : List Record) (i : ℕ) (whole front tail : Record) (from : ℕ) (lt : i < length records) (is : get_or records i whole ≡ whole) (one : AreOneMap records)
    (parts : ArePartsOf from whole front tail) where
  abbrev Shows : ℕ → Type 0
  Shows p = (places_in whole p ≡ Absent) ⊎ (place_of (runs_of records) p ≡ places_in whole p)

  shows : (p : ℕ) → Shows p
  shows p = shows_record records i whole p lt is one

  -- the record has no page there
  front_none : (p : ℕ) → places_in whole p ≡ Absent → places_in front p ≡ Absent
  front_none p e = parts.front_places p ∙ ap (λ x. cond (ltb p from) x Absent) e ∙ go (ltb p from)
    where
      go : (b : Bool) → cond b Absent Absent ≡ Absent
      go true = refl
      go false = refl

  tail_none : (p : ℕ) → places_in whole p ≡ Absent → places_in tail p ≡ Absent
  tail_none p e = parts.tail_places p ∙ ap (λ x. cond (ltb p from) Absent x) e ∙ go (ltb p from)
    where
      go : (b : Bool) → cond b Absent Absent ≡ Absent
      go true = refl
      go false = refl

  -- a page before the one, and one from it on
  front_has : (p : ℕ) → ltb p from ≡ true → places_in front p ≡ places_in whole p
  front_has p e = parts.front_places p ∙ ap (λ b. cond b (places_in whole p) Absent) e

  front_lacks : (p : ℕ) → ltb p from ≡ false → places_in front p ≡ Absent
  front_lacks p e = parts.front_places p ∙ ap (λ b. cond b (places_in whole p) Absent) e

  tail_lacks : (p : ℕ) → ltb p from ≡ true → places_in tail p ≡ Absent
  tail_lacks p e = parts.tail_places p ∙ ap (λ b. cond b Absent (places_in whole p)) e

  tail_has : (p : ℕ) → ltb p from ≡ false → places_in tail p ≡ places_in whole p
  tail_has p e = parts.tail_places p ∙ ap (λ b. cond b Absent (places_in whole p)) e

  alone : ChangesAlone records whole front
  alone p = go (shows p)
    where
      go : Shows p → (places_in front p ≡ places_in whole p) ⊎ (place_of (runs_of records) p ≡ places_in whole p)
      go (inl e) = inl (front_none p e ∙ sym e)
      go (inr e) = inr e

  abbrev after : List Record
  after = set records i front

  follows : FollowsChange records whole front after
  follows = follows_change records i whole front lt is one parts.front_map alone

  list : runs_of (after ++ tail ∷ []) ≡ runs_of after ++ runs_in tail
  list = flat_map-append runs_in after (tail ∷ []) ∙ ap (λ l. runs_of after ++ l) (append-nil (runs_in tail))

  few : (p : ℕ) → times (runs_of after) p + times (runs_in tail) p ≤ 1
  few p = go (shows p) (ltb p from) refl
    where
      first : times (runs_of after) p ≤ 1
      first = follows.one_map.once p

      second : times (runs_in tail) p ≤ 1
      second = parts.tail_map.once p

      go : Shows p → (b : Bool) → ltb p from ≡ b → times (runs_of after) p + times (runs_in tail) p ≤ 1
      go (inl e) b f = let none = no_times (runs_in tail) p parts.tail_map.once (tail_none p e) in omega (arith, first, none)
      go (inr e) true f = let none = no_times (runs_in tail) p parts.tail_map.once (tail_lacks p f) in omega (arith, first, none)
      go (inr e) false f = let none = no_times (runs_of after) p follows.one_map.once (follows.changed p e ∙ front_lacks p f) in omega (arith, second, none)

  places : (p : ℕ) → over (place_of (runs_of after) p) (places_in tail p) ≡ place_of (runs_of records) p
  places p = go (shows p) (ltb p from) refl
    where
      only_front : places_in tail p ≡ Absent → places_in front p ≡ places_in whole p → over (place_of (runs_of after) p) (places_in tail p) ≡ place_of (runs_of records) p
      only_front none same = ap (over (place_of (runs_of after) p)) none ∙ over_absent (place_of (runs_of after) p) ∙ follows.same p same

      go : Shows p → (b : Bool) → ltb p from ≡ b → over (place_of (runs_of after) p) (places_in tail p) ≡ place_of (runs_of records) p
      go (inl e) b f = only_front (tail_none p e) (front_none p e ∙ sym e)
      go (inr e) true f = only_front (tail_lacks p f) (front_has p f)
      go (inr e) false f = ap (λ x. over x (places_in tail p)) (follows.changed p e ∙ front_lacks p f) ∙ tail_has p f ∙ sym e

  pub parts_keep : KeepsMap records (set records i front ++ tail ∷ [])
  parts_keep = record {
    one_map = record {
      placed = subst (AllByRecursion IsPlaced) (sym list) (all_append IsPlaced (runs_of after) (runs_in tail) follows.one_map.placed parts.tail_map.placed);
      once = λ p. let all = ap (λ l. times l p) list ∙ times_append (runs_of after) (runs_in tail) p in omega (arith, all, few p);
    };
    same = λ p. ap (λ l. place_of l p) list ∙ place_append (runs_of after) (runs_in tail) p ∙ places p;
  }
