-- What the change of one record does to the map of its chain.
use Rattle.std.proofs.Common.{◌≡◌, ℕ, suc, ◌+◌, ◌-◌, ◌<◌, ◌≤◌, Bool, true, false, cond, eqb, ltb, List, [], ◌∷◌, ◌++◌, length, get_or, set, take, drop, refl, sym, ap, subst, ◌∙◌, ◌⊎◌, inl, inr, arith}
use Rattle.std.specs.List.{flat_map, AllByRecursion}
use Rattle.std.proofs.lemmas.Grind.{flat_map-append}
use Rattle.std.proofs.lemmas.List.{set_split, take-append-drop, drop_more}
use Rattle.std.proofs.lemmas.Bool.{cases_Bool, eqb-true}
use Rattle.extent_maps.specs.declared.run.Run.{Run}
use Rattle.extent_maps.specs.declared.run.RunPlace.{RunPlace}
use Rattle.extent_maps.specs.declared.run.RunPlace.TheVariants as place
use Rattle.extent_maps.specs.declared.run.PagePlace.{PagePlace}
use Rattle.extent_maps.specs.declared.run.PagePlace.TheVariants.{At, Hole, Absent}
use Rattle.extent_maps.specs.Runs.{Places, behind, covers, place_of, placed, with_place}
use Rattle.extent_maps.proofs.EditLemmas.{over, place_append}
use Rattle.cell_records.specs.declared.record.Record.{Record}
use Rattle.extent_records.specs.Rows.{AreOneMap, IsPlaced, NoPageTwice, runs_in, runs_of, there, times}
use Rattle.extent_records.specs.Writing.{IsMapRecord, places_before, places_in}
use Rattle.extent_records.specs.Chains.{AreCutRecords, ArePartsFor, ChangesAlone, ChangesChain, CutsChain, FollowsChange}
use Rattle.extent_records.proofs.PutLemmas.{all_append, all_back, all_front, there_times, times_append}

none_there : (x : PagePlace) → there x ≡ 0 → x ≡ Absent
none_there Absent e = refl
none_there (At home) e = absurd (omega (arith, e))
none_there Hole e = absurd (omega (arith, e))

pub over_absent : (x : PagePlace) → over x Absent ≡ x
over_absent Absent = refl
over_absent (At home) = refl
over_absent Hole = refl

-- ** Runs before a record's and after them

module _ (front old new back : List Run) (few : NoPageTwice (front ++ (old ++ back))) (once : NoPageTwice new) where
  sum : (p : ℕ) → times front p + (times old p + times back p) ≤ 1
  sum p = omega (arith, few p, times_append front (old ++ back) p, times_append old back p)

  whole : (rows : List Run) (p : ℕ) → place_of (front ++ (rows ++ back)) p ≡ over (place_of front p) (over (place_of rows p) (place_of back p))
  whole rows p = place_append front (rows ++ back) p ∙ ap (over (place_of front p)) (place_append rows back p)

  same_times : (p : ℕ) → place_of new p ≡ place_of old p → times new p ≡ times old p
  same_times p e = sym (there_times new p (once p)) ∙ ap there e ∙ there_times old p (omega (arith, sum p))

  pub stays : (p : ℕ) → place_of new p ≡ place_of old p → place_of (front ++ (new ++ back)) p ≡ place_of (front ++ (old ++ back)) p
  stays p e = whole new p ∙ ap (λ x. over (place_of front p) (over x (place_of back p))) e ∙ sym (whole old p)

  -- a page that the chain has where the record has it is in no other record
  alone : (p : ℕ) → place_of (front ++ (old ++ back)) p ≡ place_of old p → (times front p ≡ 0) × (times back p ≡ 0)
  alone p e = go (place_of front p) (place_of old p) (place_of back p) (sym (whole old p) ∙ e) (there_times front p (omega (arith, sum p))) (there_times old p (omega (arith, sum p))) (there_times back p (omega (arith, sum p)))
    where
      go : (a o b : PagePlace) → over a (over o b) ≡ o → there a ≡ times front p → there o ≡ times old p → there b ≡ times back p → (times front p ≡ 0) × (times back p ≡ 0)
      go a Absent b e x y z = both a b (e) x z
        where
          both : (a b : PagePlace) → over a b ≡ Absent → there a ≡ times front p → there b ≡ times back p → (times front p ≡ 0) × (times back p ≡ 0)
          both Absent Absent e x z = (omega (arith, x), omega (arith, z))
          both Absent (At home) e x z = absurd cc
          both Absent Hole e x z = absurd cc
          both (At home) b e x z = absurd cc
          both Hole b e x z = absurd cc
      go a (At home) b e x y z = (omega (arith, sum p, y), omega (arith, sum p, y))
      go a Hole b e x y z = (omega (arith, sum p, y), omega (arith, sum p, y))

  pub moves : (p : ℕ) → place_of (front ++ (old ++ back)) p ≡ place_of old p → place_of (front ++ (new ++ back)) p ≡ place_of new p
  moves p e =
      let none = alone p e in
      let a : place_of front p ≡ Absent = none_there (place_of front p) (there_times front p (omega (arith, sum p)) ∙ none.0) in
      let b : place_of back p ≡ Absent = none_there (place_of back p) (there_times back p (omega (arith, sum p)) ∙ none.1) in
      whole new p ∙ ap (λ x. over x (over (place_of new p) (place_of back p))) a ∙ ap (over (place_of new p)) b ∙ over_absent (place_of new p)

  pub once_after : (p : ℕ) → (place_of new p ≡ place_of old p) ⊎ (place_of (front ++ (old ++ back)) p ≡ place_of old p) → times (front ++ (new ++ back)) p ≤ 1
  once_after p (inl e) = omega (arith, sum p, same_times p e, times_append front (new ++ back) p, times_append new back p)
  once_after p (inr e) = let none = alone p e in omega (arith, none.0, none.1, once p, times_append front (new ++ back) p, times_append new back p)

-- ** A record of a chain

around : (records : List Record) (i : ℕ) (old : Record) → i < length records → get_or records i old ≡ old
    → runs_of records ≡ flat_map runs_in (take i records) ++ (runs_in old ++ flat_map runs_in (drop (i + 1) records))
around records i old lt is =
    ap (flat_map runs_in) (sym (take-append-drop i records)) ∙ flat_map-append runs_in (take i records) (drop i records)
    ∙ ap (λ l. flat_map runs_in (take i records) ++ flat_map runs_in l) (drop_more records i old lt)
    ∙ ap (λ r. flat_map runs_in (take i records) ++ (runs_in r ++ flat_map runs_in (drop (i + 1) records))) is

after_set : (records : List Record) (i : ℕ) (new : Record) → i < length records
    → runs_of (set records i new) ≡ flat_map runs_in (take i records) ++ (runs_in new ++ flat_map runs_in (drop (i + 1) records))
after_set records i new lt =
    let next : suc i ≡ i + 1 = omega arith in
    ap (flat_map runs_in) (set_split records i new lt) ∙ flat_map-append runs_in (take i records) (new ∷ drop (suc i) records)
    ∙ ap (λ n. flat_map runs_in (take i records) ++ (runs_in new ++ flat_map runs_in (drop n records))) next

pub follows_change : (records : List Record) (i : ℕ) (old new : Record) → i < length records → get_or records i old ≡ old → AreOneMap records → IsMapRecord new → ChangesAlone records old new
    → FollowsChange records old new (set records i new)
follows_change records i old new lt is one map alone = record {
  one_map = record {
    placed = subst (AllByRecursion IsPlaced) (sym after) (all_append IsPlaced front (runs_in new ++ back) (all_front IsPlaced front (runs_in old ++ back) all) (all_append IsPlaced (runs_in new) back map.placed (all_back IsPlaced (runs_in old) back (all_back IsPlaced front (runs_in old ++ back) all))));
    once = subst NoPageTwice (sym after) (λ p. once_after front (runs_in old) (runs_in new) back few map.once p (sides p (alone p)));
  };
  changed = λ p e. at_after p ∙ moves front (runs_in old) (runs_in new) back few map.once p (sym (at_before p) ∙ e);
  same = λ p e. at_after p ∙ stays front (runs_in old) (runs_in new) back few map.once p e ∙ sym (at_before p);
}
  where
    front : List Run
    front = flat_map runs_in (take i records)

    back : List Run
    back = flat_map runs_in (drop (i + 1) records)

    before : runs_of records ≡ front ++ (runs_in old ++ back)
    before = around records i old lt is

    after : runs_of (set records i new) ≡ front ++ (runs_in new ++ back)
    after = after_set records i new lt

    at_before : (p : ℕ) → place_of (runs_of records) p ≡ place_of (front ++ (runs_in old ++ back)) p
    at_before p = ap (λ l. place_of l p) before

    at_after : (p : ℕ) → place_of (runs_of (set records i new)) p ≡ place_of (front ++ (runs_in new ++ back)) p
    at_after p = ap (λ l. place_of l p) after

    all : AllByRecursion IsPlaced (front ++ (runs_in old ++ back))
    all = subst (AllByRecursion IsPlaced) before one.placed

    few : NoPageTwice (front ++ (runs_in old ++ back))
    few = subst NoPageTwice before one.once

    sides : (p : ℕ) → (places_in new p ≡ places_in old p) ⊎ (place_of (runs_of records) p ≡ places_in old p)
        → (places_in new p ≡ places_in old p) ⊎ (place_of (front ++ (runs_in old ++ back)) p ≡ places_in old p)
    sides p (inl e) = inl e
    sides p (inr e) = inr (sym (at_before p) ∙ e)

-- the same where one page has another place
pub one_page_alone : (records : List Record) (old new : Record) (page : ℕ) (x : PagePlace) → place_of (runs_of records) page ≡ places_in old page
    → ((p : ℕ) → places_in new p ≡ with_place page x (places_in old) p) → ChangesAlone records old new
one_page_alone records old new page x there change p = go (eqb p page) refl
  where
    go : (b : Bool) → eqb p page ≡ b → (places_in new p ≡ places_in old p) ⊎ (place_of (runs_of records) p ≡ places_in old p)
    go true e = inr (let is = eqb-true p page e in ap (place_of (runs_of records)) is ∙ there ∙ ap (places_in old) (sym is))
    go false e = inl (change p ∙ ap (λ b. cond b x (places_in old p)) e)

pub one_page_follows : (records : List Record) (i : ℕ) (old new : Record) (page : ℕ) (x : PagePlace) → i < length records → get_or records i old ≡ old → AreOneMap records → IsMapRecord new
    → place_of (runs_of records) page ≡ places_in old page → ((p : ℕ) → places_in new p ≡ with_place page x (places_in old) p)
    → ChangesChain page x records (set records i new)
one_page_follows records i old new page x lt is one map there change = record { one_map = follows.one_map; places = λ p. go p (eqb p page) refl }
  where
    follows : FollowsChange records old new (set records i new)
    follows = follows_change records i old new lt is one map (one_page_alone records old new page x there change)

    go : (p : ℕ) (b : Bool) → eqb p page ≡ b → place_of (runs_of (set records i new)) p ≡ with_place page x (place_of (runs_of records)) p
    go p true e =
        let is = eqb-true p page e in
        follows.changed p (ap (place_of (runs_of records)) is ∙ there ∙ ap (places_in old) (sym is)) ∙ change p ∙ ap (λ b. cond b x (places_in old p)) e ∙ sym (ap (λ b. cond b x (place_of (runs_of records) p)) e)
    go p false e = follows.same p (change p ∙ ap (λ b. cond b x (places_in old p)) e) ∙ sym (ap (λ b. cond b x (place_of (runs_of records) p)) e)

-- ** A page that a record has

pub shows_record : (records : List Record) (i : ℕ) (r : Record) (p : ℕ) → i < length records → get_or records i r ≡ r → AreOneMap records
    → (places_in r p ≡ Absent) ⊎ (place_of (runs_of records) p ≡ places_in r p)
shows_record records i r p lt is one = go (places_in r p) (there_times (runs_in r) p (omega (arith, all, few))) refl
  where
    front : List Run
    front = flat_map runs_in (take i records)

    back : List Run
    back = flat_map runs_in (drop (i + 1) records)

    all : times (runs_of records) p ≡ times front p + (times (runs_in r) p + times back p)
    all = ap (λ l. times l p) (around records i r lt is) ∙ times_append front (runs_in r ++ back) p ∙ ap (λ n. times front p + n) (times_append (runs_in r) back p)

    few : times (runs_of records) p ≤ 1
    few = one.once p

    alone : times (runs_in r) p ≡ 1 → place_of (runs_of records) p ≡ places_in r p
    alone e =
        let a : place_of front p ≡ Absent = none_there (place_of front p) (there_times front p (omega (arith, all, few)) ∙ omega (arith, all, few, e)) in
        let b : place_of back p ≡ Absent = none_there (place_of back p) (there_times back p (omega (arith, all, few)) ∙ omega (arith, all, few, e)) in
        ap (λ l. place_of l p) (around records i r lt is) ∙ place_append front (runs_in r ++ back) p ∙ ap (over (place_of front p)) (place_append (runs_in r) back p)
        ∙ ap (λ x. over x (over (places_in r p) (place_of back p))) a ∙ ap (over (places_in r p)) b ∙ over_absent (places_in r p)

    go : (x : PagePlace) → there x ≡ times (runs_in r) p → places_in r p ≡ x → (places_in r p ≡ Absent) ⊎ (place_of (runs_of records) p ≡ places_in r p)
    go Absent t e = inl e
    go (At home) t e = inr (alone (sym t))
    go Hole t e = inr (alone (sym t))

-- ** All records cut

pub there_few : (runs : List Run) (p : ℕ) → there (place_of runs p) ≤ times runs p
there_few [] p = omega arith
there_few (r ∷ rs) p = go (covers r p) refl (there_few rs p)
  where
    one : (x : RunPlace) → there (placed x) ≤ 1
    one (place.At home) = omega arith
    one place.Holes = omega arith

    go : (b : Bool) → covers r p ≡ b → there (place_of rs p) ≤ times rs p → there (place_of (r ∷ rs) p) ≤ times (r ∷ rs) p
    go true e tail = rw e (omega (arith, one (behind (p - r.page) r.first)))
    go false e tail = rw e (omega (arith, tail))

there_before : (from : ℕ) (places : Places) (p : ℕ) → there (places_before from places p) ≤ there (places p)
there_before from places p = elim (cases_Bool (ltb p from)) [
  | inl lt ↦ rw lt (omega arith)
  | inr ge ↦ rw ge (omega arith)
]

before_over : (from : ℕ) (a b : Places) (p : ℕ) → over (places_before from a p) (places_before from b p) ≡ places_before from (λ q. over (a q) (b q)) p
before_over from a b p = elim (cases_Bool (ltb p from)) [
  | inl lt ↦ rw lt refl
  | inr ge ↦ rw ge refl
]

cut_times : (from : ℕ) (olds news : List Record) (p : ℕ) → AreCutRecords from olds news → times (runs_of news) p ≤ times (runs_of olds) p
cut_times from [] [] p h = omega arith
cut_times from [] (n ∷ ns) p h = absurd h
cut_times from (o ∷ os) [] p h = absurd h
cut_times from (o ∷ os) (n ∷ ns) p h =
    omega (
      arith,
      cut_times from os ns p h.1,
      times_append (runs_in n) (runs_of ns) p,
      times_append (runs_in o) (runs_of os) p,
      there_times (runs_in n) p (h.0.once p),
      ap there (h.0.places p),
      there_before from (places_in o) p,
      there_few (runs_in o) p,
    )

cut_places : (from : ℕ) (olds news : List Record) (p : ℕ) → AreCutRecords from olds news → place_of (runs_of news) p ≡ places_before from (place_of (runs_of olds)) p
cut_places from [] [] p h = elim (cases_Bool (ltb p from)) [
  | inl lt ↦ rw lt refl
  | inr ge ↦ rw ge refl
]
cut_places from [] (n ∷ ns) p h = absurd h
cut_places from (o ∷ os) [] p h = absurd h
cut_places from (o ∷ os) (n ∷ ns) p h =
    place_append (runs_in n) (runs_of ns) p ∙ ap (λ x. over x (place_of (runs_of ns) p)) (h.0.places p)
    ∙ ap (over (places_before from (places_in o) p)) (cut_places from os ns p h.1) ∙ before_over from (places_in o) (place_of (runs_of os)) p
    ∙ ap (λ x. cond (ltb p from) x Absent) (sym (place_append (runs_in o) (runs_of os) p))

cut_placed : (from : ℕ) (olds news : List Record) → AreCutRecords from olds news → AllByRecursion IsPlaced (runs_of news)
cut_placed from [] [] h = tt
cut_placed from [] (n ∷ ns) h = absurd h
cut_placed from (o ∷ os) [] h = absurd h
cut_placed from (o ∷ os) (n ∷ ns) h = all_append IsPlaced (runs_in n) (runs_of ns) h.0.placed (cut_placed from os ns h.1)

pub cuts_chain : (from : ℕ) (olds news : List Record) → AreOneMap olds → AreCutRecords from olds news → CutsChain from olds news
cuts_chain from olds news one h = record {
  one_map = record {
    placed = cut_placed from olds news h;
    once = λ p. omega (arith, cut_times from olds news p h, one.once p);
  };
  places = λ p. cut_places from olds news p h;
}

-- ** A record that is parted, with one page at another place

pub parts_change : (records : List Record) (i : ℕ) (whole front tail : Record) (front_kind tail_kind page : ℕ) (x : PagePlace) → i < length records → get_or records i whole ≡ whole → AreOneMap records
    → place_of (runs_of records) page ≡ places_in whole page → ArePartsFor (with_place page x (places_in whole)) front_kind tail_kind front tail
    → ChangesChain page x records (take i records ++ front ∷ tail ∷ drop (suc i) records)
parts_change records i whole front tail front_kind tail_kind page x lt is one there parts = record {
  one_map = record {
    placed = subst (AllByRecursion IsPlaced) (sym after)
        (all_append IsPlaced before_it (new ++ behind_it) (all_front IsPlaced before_it (runs_in whole ++ behind_it) all)
        (all_append IsPlaced new behind_it parts.one_map.placed (all_back IsPlaced (runs_in whole) behind_it (all_back IsPlaced before_it (runs_in whole ++ behind_it) all))));
    once = subst NoPageTwice (sym after) (λ p. once_after before_it (runs_in whole) new behind_it few parts.one_map.once p (sides p (eqb p page) refl));
  };
  places = λ p. at_after p ∙ each p (eqb p page) refl;
}
  where
    before_it : List Run
    before_it = flat_map runs_in (take i records)

    behind_it : List Run
    behind_it = flat_map runs_in (drop (i + 1) records)

    new : List Run
    new = runs_of (front ∷ tail ∷ [])

    before : runs_of records ≡ before_it ++ (runs_in whole ++ behind_it)
    before = around records i whole lt is

    next : suc i ≡ i + 1
    next = omega arith

    after : runs_of (take i records ++ front ∷ tail ∷ drop (suc i) records) ≡ before_it ++ (new ++ behind_it)
    after =
        flat_map-append runs_in (take i records) (front ∷ tail ∷ drop (suc i) records)
        ∙ ap (λ n. before_it ++ (runs_in front ++ (runs_in tail ++ flat_map runs_in (drop n records)))) next
        ∙ ap (λ l. before_it ++ l) (flat_map-append runs_in (front ∷ tail ∷ []) (drop (i + 1) records))

    at_before : (p : ℕ) → place_of (runs_of records) p ≡ place_of (before_it ++ (runs_in whole ++ behind_it)) p
    at_before p = ap (λ l. place_of l p) before

    at_after : (p : ℕ) → place_of (runs_of (take i records ++ front ∷ tail ∷ drop (suc i) records)) p ≡ place_of (before_it ++ (new ++ behind_it)) p
    at_after p = ap (λ l. place_of l p) after

    all : AllByRecursion IsPlaced (before_it ++ (runs_in whole ++ behind_it))
    all = subst (AllByRecursion IsPlaced) before one.placed

    few : NoPageTwice (before_it ++ (runs_in whole ++ behind_it))
    few = subst NoPageTwice before one.once

    shown : (p : ℕ) → p ≡ page → place_of (before_it ++ (runs_in whole ++ behind_it)) p ≡ places_in whole p
    shown p e = sym (at_before p) ∙ ap (place_of (runs_of records)) e ∙ there ∙ ap (places_in whole) (sym e)

    same_there : (p : ℕ) → eqb p page ≡ false → place_of new p ≡ places_in whole p
    same_there p e = parts.same p ∙ ap (λ b. cond b x (places_in whole p)) e

    sides : (p : ℕ) (b : Bool) → eqb p page ≡ b → (place_of new p ≡ places_in whole p) ⊎ (place_of (before_it ++ (runs_in whole ++ behind_it)) p ≡ places_in whole p)
    sides p true e = inr (shown p (eqb-true p page e))
    sides p false e = inl (same_there p e)

    each : (p : ℕ) (b : Bool) → eqb p page ≡ b → place_of (before_it ++ (new ++ behind_it)) p ≡ with_place page x (place_of (runs_of records)) p
    each p true e =
        moves before_it (runs_in whole) new behind_it few parts.one_map.once p (shown p (eqb-true p page e)) ∙ parts.same p
        ∙ ap (λ b. cond b x (places_in whole p)) e ∙ sym (ap (λ b. cond b x (place_of (runs_of records) p)) e)
    each p false e =
        stays before_it (runs_in whole) new behind_it few parts.one_map.once p (same_there p e) ∙ sym (at_before p)
        ∙ sym (ap (λ b. cond b x (place_of (runs_of records) p)) e)
