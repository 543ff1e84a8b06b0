-- Entries that come on the list.
use Rattle.std.proofs.Common.{◌≡◌, ◌∙◌, ℕ, zero, suc, ◌+◌, ◌<◌, ◌≤◌, Bool, true, false, ◌||◌, ◌⊎◌, inl, inr, List, [], ◌∷◌, ◌++◌, length, get_or, take, map, slice_set, Contains, None, if◌then◌else◌, refl, sym, ap, subst, arith, ⊎_elim, true≢false}
use Rattle.std.proofs.lemmas.Bool.{cases_eq, cases_lt, or_left, or_right}
use Rattle.std.proofs.lemmas.List.{ext_get_or, get_or-map, get_or-set_other, get_or-set_same, length-map, length-set, take_more}
use Rattle.standing_laws.specs.domain_base.declared.place.CellAt.{CellAt}
use Rattle.standing_laws.specs.metadata_cells.Chain.{is_at}
use Rattle.standing_laws.specs.release_list.Listing.{Adds, AddsEntry, Listing, SetsEntry}
use Rattle.standing_laws.specs.release_list.declared.list.Entry.{Entry}
use Rattle.standing_laws.proofs.OfFileChains.ChainChanges.{at_same}
use Rattle.standing_laws.proofs.OfReleaseList.Lists.{get_front, get_last, longer}
use Rattle.standing_laws.proofs.OfReleaseList.Standings.{at_itself, differ}
use Rattle.domain_memory.specs.Listing.{HaveOnce, has_entry, list_with, put_all_on, put_on, without_clone_at}

pub put_more : (first : List CellAt) (at : CellAt) (entries : List Entry) → put_all_on (first ++ at ∷ []) entries ≡ put_on at (put_all_on first entries)
put_more [] at entries = refl
put_more (x ∷ first) at entries = put_more first at (put_on x entries)

-- ---- whether an entry has a file

has_none : (at : CellAt) (entries : List Entry) → ((entry : Entry) → Contains entries entry → ¬ entry.at ≡ at) → has_entry at entries ≡ false
has_none at [] none = refl
has_none at (e ∷ entries) none = by_first (is_at e.at at) refl (has_none at entries (λ entry there. none entry (suc there.0, omega (arith, there.1), there.2)))
  where
    by_first : (b : Bool) → is_at e.at at ≡ b → has_entry at entries ≡ false → (b || has_entry at entries) ≡ false
    by_first true is rest = absurd (none e (0, omega arith, refl) (at_same e.at at is))
    by_first false is rest = rest

has_one : (at : CellAt) (entries : List Entry) (place : ℕ) (d : Entry) → place < length entries → (get_or entries place d).at ≡ at → has_entry at entries ≡ true
has_one at [] place d within is = absurd (omega (arith, within))
has_one at (e ∷ entries) zero d within is = or_left (is_at e.at at) (has_entry at entries) (ap (λ a. is_at a at) is ∙ at_itself at)
has_one at (e ∷ entries) (suc place) d within is = or_right (is_at e.at at) (has_entry at entries) (has_one at entries place d (omega (arith, within)) is)

-- ---- an entry whose clone is none

set_there : (at : CellAt) (e : Entry) (b : Bool) → is_at e.at at ≡ b → e.at ≡ at → (if b then record { at = at; clone = None } else e) ≡ record { at = at; clone = None }
set_there at e true is same = refl
set_there at e false is same = absurd (differ e.at at is same)

not_set : (at : CellAt) (e : Entry) (b : Bool) → is_at e.at at ≡ b → ¬ e.at ≡ at → (if b then record { at = at; clone = None } else e) ≡ e
not_set at e true is other = absurd (other (at_same e.at at is))
not_set at e false is other = refl

same_file : (at : CellAt) (e : Entry) (b : Bool) → is_at e.at at ≡ b → (if b then record { at = at; clone = None } else e).at ≡ e.at
same_file at e true is = sym (at_same e.at at is)
same_file at e false is = refl

module _ (at : CellAt) (old : List Entry) (once : HaveOnce old) where
  abbrev entry : Entry
  entry = record { at = at; clone = None }

  set_is_map : (place : ℕ) → place < length old → ((d : Entry) → (get_or old place d).at ≡ at) → slice_set old place entry ≡ map (without_clone_at at) old
  set_is_map place within was =
      ext_get_or entry (slice_set old place entry) (map (without_clone_at at) old) (length-set old place entry ∙ sym (length-map old (without_clone_at at)))
      (λ k below. let low : k < length old = omega (arith, below, length-set old place entry) in ⊎_elim
      (λ here. subst (λ n. get_or (slice_set old place entry) n entry ≡ get_or (map (without_clone_at at) old) n entry) (sym here)
      (get_or-set_same old place entry entry within ∙ sym (get_or-map (without_clone_at at) old place entry entry within ∙ set_there at (get_or old place entry) (is_at (get_or old place entry).at at) refl (was entry))))
      (λ apart. get_or-set_other old place k entry entry apart
      ∙ sym (get_or-map (without_clone_at at) old k entry entry low ∙ not_set at (get_or old k entry) (is_at (get_or old k entry).at at) refl (λ same. apart (once k place entry low within (same ∙ sym (was entry))))))
      (cases_eq k place))

  put_is : (new : List Entry) (place : ℕ) → SetsEntry at None place old new ⊎ AddsEntry at None place old new → new ≡ put_on at old
  put_is new place puts = ⊎_elim
      (λ sets. sets.is ∙ set_is_map place sets.within sets.was ∙ sym (ap (λ b. if b then map (without_clone_at at) old else old ++ entry ∷ []) (has_one at old place entry sets.within (sets.was entry))))
      (λ adds. adds.is ∙ sym (ap (λ b. if b then map (without_clone_at at) old else old ++ entry ∷ []) (has_none at old adds.none)))
      puts

  pub added_is : (new : List Entry) → Adds at None old new → new ≡ put_on at old
  added_is new adds = adds.orders ∙ put_is adds.between adds.place adds.puts

  once_mapped : HaveOnce (map (without_clone_at at) old)
  once_mapped i j d below_i below_j same =
      let low_i : i < length old = omega (arith, below_i, length-map old (without_clone_at at)) in
      let low_j : j < length old = omega (arith, below_j, length-map old (without_clone_at at)) in
      let at_i = ap (λ (e : Entry). e.at) (get_or-map (without_clone_at at) old i d d low_i) ∙ same_file at (get_or old i d) (is_at (get_or old i d).at at) refl in
      let at_j = ap (λ (e : Entry). e.at) (get_or-map (without_clone_at at) old j d d low_j) ∙ same_file at (get_or old j d) (is_at (get_or old j d).at at) refl in
      once i j d low_i low_j (sym at_i ∙ same ∙ at_j)

  once_pushed : has_entry at old ≡ false → HaveOnce (old ++ entry ∷ [])
  once_pushed none i j d below_i below_j same = ⊎_elim
      (λ low_i. ⊎_elim
      (λ low_j. once i j d low_i low_j (sym (front i low_i) ∙ same ∙ front j low_j))
      (λ end_j. absurd (true≢false (sym (has_one at old i d low_i (sym (front i low_i) ∙ same ∙ back j end_j below_j)) ∙ none)))
      (cases_lt j (length old)))
      (λ end_i. ⊎_elim
      (λ low_j. absurd (true≢false (sym (has_one at old j d low_j (sym (front j low_j) ∙ sym same ∙ back i end_i below_i)) ∙ none)))
      (λ end_j. omega (arith, end_i, end_j, below_i, below_j, longer old entry))
      (cases_lt j (length old)))
      (cases_lt i (length old))
    where
      front : (k : ℕ) → k < length old → (get_or (old ++ entry ∷ []) k d).at ≡ (get_or old k d).at
      front k low = ap (λ (e : Entry). e.at) (get_front old (entry ∷ []) k d low)

      back : (k : ℕ) → length old ≤ k → k < length (old ++ entry ∷ []) → (get_or (old ++ entry ∷ []) k d).at ≡ at
      back k from below =
          let is : k ≡ length old = omega (arith, from, below, longer old entry) in
          ap (λ (e : Entry). e.at) (ap (λ n. get_or (old ++ entry ∷ []) n d) is ∙ get_last old entry d)

  pub once_put : HaveOnce (put_on at old)
  once_put = by_test (has_entry at old) refl
    where
      by_test : (b : Bool) → has_entry at old ≡ b → HaveOnce (if b then map (without_clone_at at) old else old ++ entry ∷ [])
      by_test true is = once_mapped
      by_test false is = once_pushed is

-- ---- an entry put on is one that is added

place_of : (at : CellAt) (entries : List Entry) → has_entry at entries ≡ true → (place : ℕ) × (place < length entries) × ((d : Entry) → (get_or entries place d).at ≡ at)
place_of at [] has = absurd (true≢false (sym has))
place_of at (e ∷ entries) has = by_first (is_at e.at at) refl has (place_of at entries)
  where
    by_first : (b : Bool) → is_at e.at at ≡ b → (b || has_entry at entries) ≡ true → (has_entry at entries ≡ true → (place : ℕ) × (place < length entries) × ((d : Entry) → (get_or entries place d).at ≡ at))
        → (place : ℕ) × (place < length (e ∷ entries)) × ((d : Entry) → (get_or (e ∷ entries) place d).at ≡ at)
    by_first true is has_it later = (0, omega arith, λ d. at_same e.at at is)
    by_first false is has_it later = let found = later has_it in (suc found.0, omega (arith, found.1), found.2)

pub put_adds : (at : CellAt) (old : List Entry) → HaveOnce old → Adds at None old (put_on at old)
put_adds at old once = by_test (has_entry at old) refl
  where
    entry : Entry
    entry = record { at = at; clone = None }

    none_there : has_entry at old ≡ false → (e : Entry) → Contains old e → ¬ e.at ≡ at
    none_there none e (k, within, is) same = true≢false (sym (has_one at old k e within (ap (λ (x : Entry). x.at) is ∙ same)) ∙ none)

    by_test : (b : Bool) → has_entry at old ≡ b → Adds at None old (if b then map (without_clone_at at) old else old ++ entry ∷ [])
    by_test true has =
        let it = place_of at old has in
        record { place = it.0; between = map (without_clone_at at) old; puts = inl (record { within = it.1; was = it.2; is = sym (set_is_map at old once it.0 it.1 it.2) }); orders = refl }
    by_test false none = record { place = length old; between = old ++ entry ∷ []; puts = inr (record { none = none_there none; behind = refl; is = refl }); orders = refl }

-- more after others
pub put_both : (first more : List CellAt) (entries : List Entry) → put_all_on (first ++ more) entries ≡ put_all_on more (put_all_on first entries)
put_both [] more entries = refl
put_both (x ∷ first) more entries = put_both first more (put_on x entries)

pub once_all : (listed : List CellAt) (entries : List Entry) → HaveOnce entries → HaveOnce (put_all_on listed entries)
once_all [] entries once = once
once_all (x ∷ listed) entries once = once_all listed (put_on x entries) (once_put x entries once)

-- ---- one after the other

-- so many of the files have come on the list
pub record ListedSoFar (listed : List CellAt) (count : ℕ) (old new : Listing) (old_room room : ℕ) : Type 0 where
  pub is : new ≡ list_with (take count listed) old
  pub once : HaveOnce new.entries
  pub left : old_room ≤ room + count

pub none_listed : (listed : List CellAt) (list : Listing) (room : ℕ) → HaveOnce list.entries → ListedSoFar listed 0 list list room room
none_listed listed list room once = record { is = ap (λ (l : List CellAt). list_with l list) (sym (take_none listed)); once = once; left = omega arith }
  where
    take_none : (l : List CellAt) → take 0 l ≡ []
    take_none [] = refl
    take_none (x ∷ l) = refl

module _ (listed : List CellAt) (count : ℕ) (old mid new : Listing) (old_room mid_room room : ℕ) (d : CellAt) (so_far : ListedSoFar listed count old mid old_room mid_room) (within : count < length listed) where
  pub one_listed : Adds (get_or listed count d) None mid.entries new.entries → new.tag_pages ≡ mid.tag_pages → mid_room ≤ room + 1 → ListedSoFar listed (count + 1) old new old_room room
  one_listed adds same_pages room_left = record {
    is = (λ i. record { entries = entries i; tag_pages = (same_pages ∙ ap (λ (l : Listing). l.tag_pages) so_far.is) i });
    once = subst HaveOnce (sym (added_is (get_or listed count d) mid.entries so_far.once new.entries adds)) (once_put (get_or listed count d) mid.entries so_far.once);
    left = omega (arith, so_far.left, room_left);
  }
    where
      entries : new.entries ≡ put_all_on (take (count + 1) listed) old.entries
      entries =
          added_is (get_or listed count d) mid.entries so_far.once new.entries adds
          ∙ ap (λ (l : Listing). put_on (get_or listed count d) l.entries) so_far.is
          ∙ sym (put_more (take count listed) (get_or listed count d) old.entries)
          ∙ ap (λ (l : List CellAt). put_all_on l old.entries) (sym (take_more listed count d within))

pub all_listed : (listed : List CellAt) (count : ℕ) (old new : Listing) (old_room room : ℕ) → ListedSoFar listed count old new old_room room → length listed ≤ count → new ≡ list_with listed old
all_listed listed count old new old_room room so_far far = so_far.is ∙ ap (λ (l : List CellAt). list_with l old) (whole listed count far)
  where
    whole : (l : List CellAt) (n : ℕ) → length l ≤ n → take n l ≡ l
    whole [] zero far = refl
    whole [] (suc n) far = refl
    whole (x ∷ l) zero far = absurd (omega (arith, far))
    whole (x ∷ l) (suc n) far = ap (λ (xs : List CellAt). x ∷ xs) (whole l n (omega (arith, far)))
