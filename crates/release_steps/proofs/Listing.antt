-- A list of the files with one entry, or one page of a tag directory, more.
use Rattle.std.proofs.Common.{◌≡◌, ◌∙◌, ◌⊎◌, ⊎_elim, inl, inr, ℕ, zero, suc, ◌<◌, ◌≤◌, List, [], ◌∷◌, ◌++◌, Option, Some, None, Contains, get_or, length, slice_set, refl, sym, ap, subst, arith, false}
use Rattle.std.proofs.lemmas.Bool.{cases_eq, cases_lt}
use Rattle.std.proofs.lemmas.List.{length-set}
use Rattle.std.proofs.lemmas.List.Edits.{length-swap, swapped_from_swap}
use Rattle.std.specs.List.{swap}
use Rattle.std.specs.Option.{option_and_then}
use Rattle.release_list.specs.domain_base.declared.place.CellAt.{CellAt}
use Rattle.release_list.specs.domain_base.declared.place.Home.{Home}
use Rattle.release_list.specs.domain_base.declared.place.Tag.{Tag}
use Rattle.release_list.specs.domain_base.declared.version.Version.{Version}
use Rattle.release_list.specs.cell_records.declared.record.Leftover.TheVariants.{Remove, Trim}
use Rattle.release_list.specs.cell_records.declared.record.Record.TheVariants as written
use Rattle.release_list.proofs.OfFileChains.Allocated.{there_is}
use Rattle.release_list.specs.fileset_files.Changes.{says_removed, with_first}
use Rattle.release_list.specs.fileset_files.Together.{IsHeldApart}
use Rattle.release_list.specs.fileset_files.Truncation.{says_size, says_truncated}
use Rattle.release_list.proofs.OfFilesetFiles.FirstCell.{find_put}
use Rattle.release_list.specs.free_cells.Cells.{Cells}
use Rattle.release_list.specs.free_space.Spaces.{Spaces}
use Rattle.release_list.specs.page_store.Pages.{Pages}
use Rattle.release_list.specs.file_release.Releases.{AreAllOnce}
use Rattle.release_list.specs.declared.list.Entry.{Entry}
use Rattle.release_list.specs.Listed.{IsEntry, left_of, leftover_in}
use Rattle.release_list.specs.Listing.{Adds, AddsEntry, AreInOrder, ChangesPlaces, HasNoneInFront, Listing, Orders, Puts, SetsEntry}
use Rattle.release_list.specs.Standing.{Files, ReadsThrough, StandTogether}
use Rattle.release_list.specs.Steps.{IsWell, Now}
use Rattle.release_list.proofs.Lists.{AreEntriesOnce, get_front, get_last, longer}
use Rattle.release_list.proofs.Spread.{none_not, some_same}
use Rattle.release_list.proofs.Standings.{file_there}
use Rattle.release_steps.specs.Calls.{Call, Calls, Drops, FilesetNow, SetsFirst, cut, described, dropped, given, indexed, made, moved, no_call, one_more, put_in, refused}
use Rattle.release_steps.specs.Lists.{with_list}
use Rattle.release_steps.specs.Waits.{IsNowhere, StandsApart}
use Rattle.release_list.specs.tag_dirs.declared.dir.TagPlace.{TagPlace}
use Rattle.release_list.specs.tag_dirs.Directory.{has_home}
use Rattle.release_list.specs.fileset_files.Files.{Chains}
use Rattle.release_steps.specs.Tags.{AreAmong, start_of}

-- ---- what is in a list

pub inside_last : {X : Type 0} (xs : List X) (y e : X) → Contains (xs ++ y ∷ []) e → Contains xs e ⊎ (e ≡ y)
inside_last [] y e (zero, within, is) = inr (sym is)
inside_last [] y e (suc k, within, is) = absurd (omega (arith, within))
inside_last (x ∷ xs) y e (zero, within, is) = inl (0, omega arith, is)
inside_last (x ∷ xs) y e (suc k, within, is) =
    ⊎_elim (λ front. inl (suc front.0, omega (arith, front.1), front.2)) (λ last. inr last) (inside_last xs y e (k, omega (arith, within), is))

inside_set : {X : Type 0} (xs : List X) (i : ℕ) (y e : X) → Contains (slice_set xs i y) e → Contains xs e ⊎ (e ≡ y)
inside_set [] i y e inside = inl inside
inside_set (x ∷ xs) zero y e (zero, within, is) = inr (sym is)
inside_set (x ∷ xs) zero y e (suc k, within, is) = inl (suc k, within, is)
inside_set (x ∷ xs) (suc i) y e (zero, within, is) = inl (0, omega arith, is)
inside_set (x ∷ xs) (suc i) y e (suc k, within, is) =
    ⊎_elim (λ was. inl (suc was.0, omega (arith, was.1), was.2)) (λ this. inr this) (inside_set xs i y e (k, omega (arith, within), is))

there : {X : Type 0} (xs : List X) (k : ℕ) (d : X) → k < length xs → Contains xs (get_or xs k d)
there xs k d within = (k, within, there_is xs k (get_or xs k d) d within)

-- ---- no file has two entries

set_files : (xs : List Entry) (i : ℕ) (y : Entry) → ((d : Entry) → (get_or xs i d).at ≡ y.at) → (k : ℕ) (d : Entry) → (get_or (slice_set xs i y) k d).at ≡ (get_or xs k d).at
set_files [] i y was k d = refl
set_files (x ∷ xs) zero y was zero d = sym (was d)
set_files (x ∷ xs) zero y was (suc k) d = refl
set_files (x ∷ xs) (suc i) y was zero d = refl
set_files (x ∷ xs) (suc i) y was (suc k) d = set_files xs i y was k d

once_set : (xs : List Entry) (i : ℕ) (y : Entry) → ((d : Entry) → (get_or xs i d).at ≡ y.at) → AreEntriesOnce xs → AreEntriesOnce (slice_set xs i y)
once_set xs i y was once j k d less_j less_k same =
    once j k d (omega (arith, less_j, length-set xs i y)) (omega (arith, less_k, length-set xs i y))
    (sym (set_files xs i y was j d) ∙ same ∙ set_files xs i y was k d)

data Place (n k : ℕ) : Type 0 where
  before : k < n → Place n k
  at_end : k ≡ n → Place n k

place : (n k : ℕ) → k < suc n → Place n k
place zero zero less = at_end refl
place zero (suc k) less = absurd (omega (arith, less))
place (suc n) zero less = before (omega arith)
place (suc n) (suc k) less = by_rest (place n k (omega (arith, less)))
  where
    by_rest : Place n k → Place (suc n) (suc k)
    by_rest (before l) = before (omega (arith, l))
    by_rest (at_end e) = at_end (ap suc e)

module _ (xs : List Entry) (y : Entry) (none : (e : Entry) → Contains xs e → ¬ e.at ≡ y.at) (once : AreEntriesOnce xs) where
  new_file : (k : ℕ) (d : Entry) → k < length xs → (get_or (xs ++ y ∷ []) k d).at ≡ (get_or (xs ++ y ∷ []) (length xs) d).at → ⊥
  new_file k d less same =
      none (get_or xs k d) (there xs k d less)
      (sym (ap (λ (e : Entry). e.at) (get_front xs (y ∷ []) k d less)) ∙ same ∙ ap (λ (e : Entry). e.at) (get_last xs y d))

  once_more : AreEntriesOnce (xs ++ y ∷ [])
  once_more i j d less_i less_j same = by_places (place (length xs) i (omega (arith, less_i, longer xs y))) (place (length xs) j (omega (arith, less_j, longer xs y)))
    where
      by_places : Place (length xs) i → Place (length xs) j → i ≡ j
      by_places (before a) (before b) = once i j d a b (sym (ap (λ (e : Entry). e.at) (get_front xs (y ∷ []) i d a)) ∙ same ∙ ap (λ (e : Entry). e.at) (get_front xs (y ∷ []) j d b))
      by_places (before a) (at_end b) = absurd (new_file i d a (same ∙ ap (λ k. (get_or (xs ++ y ∷ []) k d).at) b))
      by_places (at_end a) (before b) = absurd (new_file j d b (sym same ∙ ap (λ k. (get_or (xs ++ y ∷ []) k d).at) a))
      by_places (at_end a) (at_end b) = a ∙ sym b

-- ---- entries that change places

set_there : (xs : List Entry) (i : ℕ) (y d : Entry) → i < length xs → get_or (slice_set xs i y) i d ≡ y
set_there [] i y d within = absurd (omega (arith, within))
set_there (x ∷ xs) zero y d within = refl
set_there (x ∷ xs) (suc i) y d within = set_there xs i y d (omega (arith, within))

set_other : (xs : List Entry) (i k : ℕ) (y d : Entry) → ¬ k ≡ i → get_or (slice_set xs i y) k d ≡ get_or xs k d
set_other [] i k y d other = refl
set_other (x ∷ xs) zero zero y d other = absurd (other refl)
set_other (x ∷ xs) zero (suc k) y d other = refl
set_other (x ∷ xs) (suc i) zero y d other = refl
set_other (x ∷ xs) (suc i) (suc k) y d other = set_other xs i k y d (λ same. other (ap suc same))

-- where the entry stood that stands at a place now
data Moved (i j k was : ℕ) : Type 0 where
  first_moved : k ≡ i → was ≡ j → Moved i j k was
  second_moved : k ≡ j → was ≡ i → Moved i j k was
  unmoved : ¬ k ≡ i → ¬ k ≡ j → was ≡ k → Moved i j k was

record HasMoved (xs ys : List Entry) (i j k : ℕ) : Type 0 where
  was : ℕ
  moved : Moved i j k was
  is : (d : Entry) → get_or ys k d ≡ get_or xs was d

module _ (xs ys : List Entry) (i j : ℕ) (ahead : i < j) (within : j < length xs) (is : ys ≡ swap xs i j) where
  swapped_long : length ys ≡ length xs
  swapped_long = ap length is ∙ length-swap xs i j

  has_moved : (k : ℕ) → HasMoved xs ys i j k
  has_moved k = ⊎_elim
      (λ first. record { was = j; moved = first_moved first refl; is = λ d. ap (λ n. get_or ys n d) first ∙ (swapped_from_swap xs ys i j d (omega (arith, ahead, within)) within is).0 })
      (λ not_first. ⊎_elim
      (λ second. record { was = i; moved = second_moved second refl; is = λ d. ap (λ n. get_or ys n d) second ∙ (swapped_from_swap xs ys i j d (omega (arith, ahead, within)) within is).1 })
      (λ not_second. record { was = k; moved = unmoved not_first not_second refl; is = λ d. (swapped_from_swap xs ys i j d (omega (arith, ahead, within)) within is).2 k not_first not_second })
      (cases_eq k j))
      (cases_eq k i)

  moved_within : (k was : ℕ) → Moved i j k was → k < length ys → was < length xs
  moved_within k was (first_moved at is_j) less = omega (arith, is_j, within)
  moved_within k was (second_moved at is_i) less = omega (arith, is_i, ahead, within)
  moved_within k was (unmoved a b same) less = omega (arith, same, less, swapped_long)

  one_moved : (k l was : ℕ) → Moved i j k was → Moved i j l was → k ≡ l
  one_moved k l was (first_moved a b) (first_moved c d) = a ∙ sym c
  one_moved k l was (first_moved a b) (second_moved c d) = absurd (omega (arith, b, d, ahead))
  one_moved k l was (first_moved a b) (unmoved c d e) = absurd (d (sym e ∙ b))
  one_moved k l was (second_moved a b) (first_moved c d) = absurd (omega (arith, b, d, ahead))
  one_moved k l was (second_moved a b) (second_moved c d) = a ∙ sym c
  one_moved k l was (second_moved a b) (unmoved c d e) = absurd (c (sym e ∙ b))
  one_moved k l was (unmoved a b e) (first_moved c d) = absurd (b (sym e ∙ d))
  one_moved k l was (unmoved a b e) (second_moved c d) = absurd (a (sym e ∙ d))
  one_moved k l was (unmoved a b e) (unmoved c d f) = sym e ∙ f

  swapped_inside : (e : Entry) → Contains ys e → Contains xs e
  swapped_inside e (k, less, at) =
      let m = has_moved k in
      (m.was, moved_within k m.was m.moved less, sym (m.is e) ∙ at)

  swapped_once : AreEntriesOnce xs → AreEntriesOnce ys
  swapped_once once k l d less_k less_l same =
      let m = has_moved k in
      let n = has_moved l in
      let all = once m.was n.was d (moved_within k m.was m.moved less_k) (moved_within l n.was n.moved less_l) (sym (ap (λ (e : Entry). e.at) (m.is d)) ∙ same ∙ ap (λ (e : Entry). e.at) (n.is d)) in
      one_moved k l m.was m.moved (subst (Moved i j l) (sym all) n.moved)

-- ---- an entry more

inside_puts : (old new : List Entry) (at : CellAt) (clone : Option CellAt) (place : ℕ) → Puts at clone place old new → (e : Entry) → Contains new e → Contains old e ⊎ (e ≡ record { at = at; clone = clone })
inside_puts old new at clone place puts e inside = ⊎_elim
    (λ s. inside_set old place (record { at = at; clone = clone }) e (subst (λ (es : List Entry). Contains es e) s.is inside))
    (λ s. inside_last old (record { at = at; clone = clone }) e (subst (λ (es : List Entry). Contains es e) s.is inside))
    puts

place_within : (old new : List Entry) (at : CellAt) (clone : Option CellAt) (place : ℕ) → Puts at clone place old new → place < length new
place_within old new at clone place puts = ⊎_elim
    (λ s. let n = ap length s.is ∙ length-set old place (record { at = at; clone = clone }) in omega (arith, n, s.within))
    (λ s. let n = ap length s.is ∙ longer old (record { at = at; clone = clone }) in omega (arith, n, s.behind))
    puts

inside_orders : (clone : Option CellAt) (place : ℕ) (old new : List Entry) → place < length old → Orders clone place old new → (e : Entry) → Contains new e → Contains old e
inside_orders None place old new within same e inside = subst (λ (es : List Entry). Contains es e) same inside
inside_orders (Some c) place old new within orders e inside = ⊎_elim
    (λ s. swapped_inside old new s.front place s.in_front within s.is e inside)
    (λ s. subst (λ (es : List Entry). Contains es e) s.is inside)
    orders

-- an entry was there, or is the one that was added
pub which_entry : (old new : List Entry) (at : CellAt) (clone : Option CellAt) → Adds at clone old new → (e : Entry) → Contains new e → Contains old e ⊎ (e ≡ record { at = at; clone = clone })
which_entry old new at clone adds e inside =
    inside_puts old adds.between at clone adds.place adds.puts e
    (inside_orders clone adds.place adds.between new (place_within old adds.between at clone adds.place adds.puts) adds.orders e inside)

-- the entry stands at its place, and each other one's clone has no entry before it
record IsPut (entry : Entry) (place : ℕ) (entries : List Entry) : Type 0 where
  once : AreEntriesOnce entries
  within : place < length entries
  there : (d : Entry) → get_or entries place d ≡ entry
  order : (i j : ℕ) (d : Entry) → ¬ i ≡ place → i < length entries → j < length entries → (get_or entries i d).clone ≡ Some (get_or entries j d).at → i < j

module _ (old new : List Entry) (at : CellAt) (clone : Option CellAt) (place : ℕ) (once : AreEntriesOnce old) (order : AreInOrder old) where
  abbrev one : Entry
  one = record { at = at; clone = clone }

  is_set : SetsEntry at clone place old (slice_set old place one) → IsPut one place (slice_set old place one)
  is_set s = record {
    once = once_set old place one s.was once;
    within = omega (arith, s.within, length-set old place one);
    there = λ d. set_there old place one d s.within;
    order = λ i j d other less_i less_j same. order i j d (omega (arith, less_i, length-set old place one)) (omega (arith, less_j, length-set old place one))
        (sym (ap (λ (e : Entry). e.clone) (set_other old place i one d other)) ∙ same ∙ ap Some (set_files old place one s.was j d));
  }

  is_added : AddsEntry at clone place old (old ++ one ∷ []) → IsPut one place (old ++ one ∷ [])
  is_added s = record {
    once = once_more old one s.none once;
    within = omega (arith, s.behind, longer old one);
    there = λ d. ap (λ n. get_or (old ++ one ∷ []) n d) s.behind ∙ get_last old one d;
    order = λ i j d other less_i less_j same.
        let ahead : i < length old = omega (arith, less_i, other, s.behind, longer old one) in
        ⊎_elim
        (λ front. order i j d ahead front (sym (ap (λ (e : Entry). e.clone) (get_front old (one ∷ []) i d ahead)) ∙ same ∙ ap (λ (e : Entry). Some e.at) (get_front old (one ∷ []) j d front)))
        (λ behind. omega (arith, ahead, behind))
        (cases_lt j (length old));
  }

  is_put : Puts at clone place old new → IsPut one place new
  is_put puts = ⊎_elim
      (λ s. subst (IsPut one place) (sym s.is) (is_set (record { within = s.within; was = s.was; is = refl })))
      (λ s. subst (IsPut one place) (sym s.is) (is_added (record { none = s.none; behind = s.behind; is = refl })))
      puts

-- no clone's file has an entry before that of the file then
module _ (space : Spaces) (cells : Cells) (pages : Pages) (files : Files) (together : StandTogether space cells pages files) (at c : CellAt) (place : ℕ) (entries new : List Entry) (each : (e : Entry) → Contains entries e → IsEntry files e)
    (put : IsPut (record { at = at; clone = Some c }) place entries) (reads : ReadsThrough files c at) where
  place_at : (d : Entry) → (get_or entries place d).at ≡ at
  place_at d = ap (λ (e : Entry). e.at) (put.there d)

  place_clone : (d : Entry) → (get_or entries place d).clone ≡ Some c
  place_clone d = ap (λ (e : Entry). e.clone) (put.there d)

  entry_at : (k : ℕ) (d : Entry) → k < length entries → IsEntry files (get_or entries k d)
  entry_at k d less = each (get_or entries k d) (there entries k d less)

  in_order : HasNoneInFront c place entries new → AreInOrder entries
  in_order s i j d less_i less_j same = ⊎_elim
      (λ here.
      let is : (get_or entries j d).at ≡ c = some_same (get_or entries j d).at c (sym same ∙ ap (λ n. (get_or entries n d).clone) here ∙ place_clone d) in
      ⊎_elim
      (λ ahead. absurd (s.none j d ahead is))
      (λ from. ⊎_elim
      (λ itself.
      let same_file : at ≡ c = sym (place_at d) ∙ ap (λ n. (get_or entries n d).at) (sym itself) ∙ is in
      let through : ReadsThrough files at at = subst (λ (q : CellAt). ReadsThrough files q at) (sym same_file) reads in
      absurd (together.one_deep at at at through through))
      (λ other. omega (arith, here, from, other))
      (cases_eq j place))
      (cases_lt j place))
      (λ other. put.order i j d other less_i less_j same)
      (cases_eq i place)

  module _ (s : ChangesPlaces c place entries new) where
    front_within : s.front < length entries
    front_within = let w = put.within in omega (arith, s.in_front, w)

    by_moved : (i j p q : ℕ) (d : Entry) → Moved s.front place i p → Moved s.front place j q → p < length entries → q < length entries → (get_or entries p d).clone ≡ Some (get_or entries q d).at → i < j
    by_moved i j p q d (first_moved at_front is_place) from_q less_p less_q same =
        let is : (get_or entries q d).at ≡ c = some_same (get_or entries q d).at c (sym same ∙ ap (λ n. (get_or entries n d).clone) is_place ∙ place_clone d) in
        let q_front : q ≡ s.front = put.once q s.front d less_q front_within (is ∙ sym (s.has d)) in
        let behind : j ≡ place = by_place from_q q_front in
        let ahead = s.in_front in
        omega (arith, at_front, behind, ahead)
      where
        by_place : Moved s.front place j q → q ≡ s.front → j ≡ place
        by_place (first_moved a b) q_front = absurd (let ahead = s.in_front in omega (arith, b, q_front, ahead))
        by_place (second_moved a b) q_front = a
        by_place (unmoved a b e) q_front = absurd (a (sym e ∙ q_front))
    by_moved i j p q d (second_moved at_place is_front) from_q less_p less_q same =
        let through : ReadsThrough files (get_or entries q d).at (get_or entries p d).at = (entry_at p d less_p).given (get_or entries q d).at same in
        let is : (get_or entries p d).at ≡ c = ap (λ n. (get_or entries n d).at) is_front ∙ s.has d in
        absurd (together.one_deep (get_or entries q d).at c at (subst (ReadsThrough files (get_or entries q d).at) is through) reads)
    by_moved i j p q d (unmoved not_front not_place here) (first_moved j_front q_place) less_p less_q same =
        let through : ReadsThrough files (get_or entries q d).at (get_or entries p d).at = (entry_at p d less_p).given (get_or entries q d).at same in
        let is : (get_or entries q d).at ≡ at = ap (λ n. (get_or entries n d).at) q_place ∙ place_at d in
        absurd (together.one_deep c at (get_or entries p d).at reads (subst (λ (x : CellAt). ReadsThrough files x (get_or entries p d).at) is through))
    by_moved i j p q d (unmoved not_front not_place here) (second_moved j_end q_front) less_p less_q same =
        let less : p < q = put.order p q d (λ is. not_place (sym here ∙ is)) less_p less_q same in
        let ahead = s.in_front in
        omega (arith, less, here, j_end, q_front, ahead)
    by_moved i j p q d (unmoved not_front not_place here) (unmoved a b there) less_p less_q same =
        let less : p < q = put.order p q d (λ is. not_place (sym here ∙ is)) less_p less_q same in
        omega (arith, less, here, there)

    order_swapped : AreInOrder new
    order_swapped i j d less_i less_j same =
        let m = has_moved entries new s.front place s.in_front put.within s.is i in
        let n = has_moved entries new s.front place s.in_front put.within s.is j in
        by_moved i j m.was n.was d m.moved n.moved (moved_within entries new s.front place s.in_front put.within s.is i m.was m.moved less_i) (moved_within entries new s.front place s.in_front put.within s.is j n.was n.moved less_j)
        (sym (ap (λ (e : Entry). e.clone) (m.is d)) ∙ same ∙ ap (λ (e : Entry). Some e.at) (n.is d))

-- no file has two entries then, and they are in order
record AreListed (entries : List Entry) : Type 0 where
  once : AreEntriesOnce entries
  order : AreInOrder entries

module _ (now : Now) (at : CellAt) (clone : Option CellAt) (list : Listing) (well : IsWell now) (may : IsEntry now.files (record { at = at; clone = clone })) (adds : Adds at clone now.list.entries list.entries) where
  entry_added : (e : Entry) → Contains now.list.entries e ⊎ (e ≡ record { at = at; clone = clone }) → IsEntry now.files e
  entry_added e which = ⊎_elim (λ was. well.listed.each e was) (λ this. subst (IsEntry now.files) (sym this) may) which

  put : IsPut (record { at = at; clone = clone }) adds.place adds.between
  put = is_put now.list.entries adds.between at clone adds.place well.listed.once well.listed.order adds.puts

  by_clone : (o : Option CellAt) → clone ≡ o → AreListed list.entries
  by_clone None none =
      let orders : list.entries ≡ adds.between = subst (λ o. Orders o adds.place adds.between list.entries) none adds.orders in
      subst AreListed (sym orders) (record {
        once = put.once;
        order = λ i j d less_i less_j same. ⊎_elim
            (λ here. absurd (none_not (get_or adds.between j d).at (sym none ∙ sym (ap (λ (e : Entry). e.clone) (put.there d)) ∙ ap (λ n. (get_or adds.between n d).clone) (sym here) ∙ same)))
            (λ other. put.order i j d other less_i less_j same)
            (cases_eq i adds.place);
      })
  by_clone (Some c) some =
      let orders : Orders (Some c) adds.place adds.between list.entries = subst (λ o. Orders o adds.place adds.between list.entries) some adds.orders in
      let is_put : IsPut (record { at = at; clone = Some c }) adds.place adds.between = subst (λ o. IsPut (record { at = at; clone = o }) adds.place adds.between) some put in
      let reads = may.given c some in
      let each : (e : Entry) → Contains adds.between e → IsEntry now.files e = (λ e inside. entry_added e (inside_puts now.list.entries adds.between at clone adds.place adds.puts e inside)) in
      ⊎_elim
      (λ s. record {
        once = swapped_once adds.between list.entries s.front adds.place s.in_front is_put.within s.is is_put.once;
        order = order_swapped now.space now.cells now.pages now.files well.together at c adds.place adds.between list.entries each is_put reads s;
      })
      (λ s. subst AreListed (sym s.is) (record {
        once = is_put.once;
        order = in_order now.space now.cells now.pages now.files well.together at c adds.place adds.between list.entries each is_put reads s;
      }))
      orders

pub entry_listed : (now : Now) (at : CellAt) (clone : Option CellAt) (list : Listing) → IsWell now → IsEntry now.files (record { at = at; clone = clone }) → Adds at clone now.list.entries list.entries → list.tag_pages ≡ now.list.tag_pages → IsWell (with_list list now)
entry_listed now at clone list well may adds same =
    let all = by_clone now at clone list well may adds clone refl in
    record {
      together = well.together;
      listed = record {
        each = λ e inside. entry_added now at clone list well may adds e (which_entry now.list.entries list.entries at clone adds e inside);
        once = all.once;
        order = all.order;
        pages_once = subst AreAllOnce (sym same) well.listed.pages_once;
        pages_low = λ home is. well.listed.pages_low home (was home is);
        pages_held = λ home is. well.listed.pages_held home (was home is);
        pages_apart = λ home is. well.listed.pages_apart home (was home is);
      };
    }
  where
    was : (home : Home) → Contains list.tag_pages home → Contains now.list.tag_pages home
    was home is = subst (λ (hs : List Home). Contains hs home) same is

-- ---- a page more

homes_more : (xs : List Home) (y : Home) → AreAllOnce xs → ¬ Contains xs y → AreAllOnce (xs ++ y ∷ [])
homes_more [] y once out = ((λ inside. omega (arith, inside.1)), tt)
homes_more (x ∷ xs) y once out = (
  (λ inside. ⊎_elim (λ was. once.0 was) (λ this. out (0, omega arith, this)) (inside_last xs y x inside)),
  homes_more xs y once.1 (λ inside. out (suc inside.0, omega (arith, inside.1), inside.2)),
)

pub page_listed : (now : Now) (home : Home) (list : Listing) → IsWell now → StandsApart now home → list.tag_pages ≡ now.list.tag_pages ++ home ∷ [] → list.entries ≡ now.list.entries → IsWell (with_list list now)
page_listed now home list well may adds same = record {
  together = well.together;
  listed = record {
    each = λ e is. well.listed.each e (was e is);
    once = subst AreEntriesOnce (sym same) well.listed.once;
    order = subst AreInOrder (sym same) well.listed.order;
    pages_once = subst AreAllOnce (sym adds) (homes_more now.list.tag_pages home well.listed.pages_once may.not_listed);
    pages_low = λ h is. ⊎_elim (λ old. well.listed.pages_low h old) (λ this. subst (λ (x : Home). 1 ≤ x.vol) (sym this) may.low) (which h is);
    pages_held = λ h is. ⊎_elim (λ old. well.listed.pages_held h old) (λ this. subst (IsHeldApart now.space now.cells) (sym this) may.apart) (which h is);
    pages_apart = λ h is. ⊎_elim (λ old. well.listed.pages_apart h old) (λ this. subst (IsNowhere now.files) (sym this) may.nowhere) (which h is);
  };
}
  where
    was : (e : Entry) → Contains list.entries e → Contains now.list.entries e
    was e is = subst (λ (es : List Entry). Contains es e) same is

    which : (h : Home) → Contains list.tag_pages h → Contains now.list.tag_pages h ⊎ (h ≡ home)
    which h is = inside_last now.list.tag_pages home h (subst (λ (hs : List Home). Contains hs h) adds is)

-- ---- calls change no list

pub list_call : (fileset : ℕ) (version : Version) (tag : Tag) (old new : FilesetNow) → Call fileset version tag old new → new.domain.list ≡ old.domain.list
list_call fileset version tag old new (refused s) = s.list
list_call fileset version tag old new (given s) = s.puts.list
list_call fileset version tag old new (moved s) = s.puts.list
list_call fileset version tag old new (described value s) = s.list
list_call fileset version tag old new (put_in parent s) = s.list
list_call fileset version tag old new (indexed index s) = s.list
list_call fileset version tag old new (cut size lowered s) = s.list
list_call fileset version tag old new (dropped s) = s.list
list_call fileset version tag old new (made s) = s.list

pub list_stays : (fileset : ℕ) (version : Version) (tag : Tag) (first last : FilesetNow) → Calls fileset version tag first last → last.domain.list ≡ first.domain.list
list_stays fileset version tag first last calls =
    elim calls as (λ last calls. last.domain.list ≡ first.domain.list) [
      | no_call ↦ refl
      | one_more between last (calls → was) call ↦ list_call fileset version tag between last call ∙ was
    ]

-- ---- what calls leave to be done

pub dropped_left : (fileset : ℕ) (tag : Tag) (old new : FilesetNow) → (s : Drops fileset tag old new) → option_and_then left_of (new.domain.files s.at) ≡ Some Remove
dropped_left fileset tag old new s =
    ap (λ files. option_and_then left_of (files s.at)) s.files
    ∙ ap (option_and_then left_of) (file_there s.at (Some (with_first says_removed (s.first ∷ s.rest))) old.domain.files)
    ∙ ap (option_and_then leftover_in) (find_put 6 (Some (written.Pending Remove)) s.first.cell.records refl)

pub cut_left : (fileset : ℕ) (tag : Tag) (size keep : ℕ) (old new : FilesetNow) → (s : SetsFirst fileset tag (says_truncated size (Some keep)) old new) → option_and_then left_of (new.domain.files s.first.at) ≡ Some Trim
cut_left fileset tag size keep old new s =
    ap (λ files. option_and_then left_of (files s.first.at)) s.files
    ∙ ap (option_and_then left_of) (file_there s.first.at (Some (with_first (says_truncated size (Some keep)) (s.first ∷ s.rest))) old.domain.files)
    ∙ ap (option_and_then leftover_in) (find_put 6 (Some (written.Pending Trim)) (says_size size (Some keep) s.first.cell).records refl)

-- ---- the files of a fileset

module _ (now : Now) (list : Listing) (places : List TagPlace) (chains : Chains) (among : AreAmong now places chains) where
  among_list : ((e : Entry) → Contains list.entries e → (tag : Tag) → option_and_then start_of (chains tag) ≡ Some e.at → option_and_then left_of (chains tag) ≡ Some Trim) → ((home : Home) → Contains list.tag_pages home → has_home places home ≡ false)
      → AreAmong (with_list list now) places chains
  among_list trimmed not_listed = record { same = among.same; live = among.live; trimmed = trimmed; low = among.low; no_tags = among.no_tags; not_listed = not_listed }

  pub entry_among : (at : CellAt) (clone : Option CellAt) → Adds at clone now.list.entries list.entries → list.tag_pages ≡ now.list.tag_pages
      → ((tag : Tag) → option_and_then start_of (chains tag) ≡ Some at → option_and_then left_of (chains tag) ≡ Some Trim) → AreAmong (with_list list now) places chains
  entry_among at clone adds same trim = among_list
      (λ e inside tag starts. ⊎_elim
      (λ was. among.trimmed e was tag starts)
      (λ this. subst (λ (x : Entry). option_and_then left_of (chains tag) ≡ Some Trim) (sym this) (trim tag (starts ∙ ap (λ (x : Entry). Some x.at) this)))
      (which_entry now.list.entries list.entries at clone adds e inside))
      (λ home inside. among.not_listed home (subst (λ (hs : List Home). Contains hs home) same inside))

  pub page_among : (home : Home) → list.tag_pages ≡ now.list.tag_pages ++ home ∷ [] → list.entries ≡ now.list.entries → has_home places home ≡ false → AreAmong (with_list list now) places chains
  page_among home adds same none = among_list
      (λ e inside tag starts. among.trimmed e (subst (λ (es : List Entry). Contains es e) same inside) tag starts)
      (λ h inside. ⊎_elim
      (λ was. among.not_listed h was)
      (λ this. ap (has_home places) this ∙ none)
      (inside_last now.list.tag_pages home h (subst (λ (hs : List Home). Contains hs h) adds inside)))
