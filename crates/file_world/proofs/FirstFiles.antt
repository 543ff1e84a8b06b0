-- The first pages belong together, with no file.
use Rattle.std.proofs.Common.{◌≡◌, ◌∙◌, ℕ, zero, suc, ◌-◌, ◌/◌, ◌<◌, ◌≤◌, Bool, true, false, cond, nat_eq, List, [], ◌∷◌, length, get_or, Option, Some, None, IsSomeAnd, Contains, refl, sym, ap, subst, arith, ⊎_elim, replicate}
use Rattle.std.proofs.lemmas.Bool.{both_ways, cases_Bool, eq-eqb, eqb-true, false_from_ne_true, or_cases, true≢false}
use Rattle.std.specs.Option.{option_and_then}
use Rattle.std.specs.FinSet.{FinSet, contains, empty, insert}
use Rattle.std.specs.Ordering.{nat_cmp}
use Rattle.index_pages.proofs.OfFreeSpace.Used.{contains-inserted}
use Rattle.index_pages.specs.domain_base.declared.place.CellAt.{CellAt}
use Rattle.index_pages.specs.domain_base.declared.place.Home.{Home}
use Rattle.index_pages.specs.domain_base.declared.place.Tag.{Tag}
use Rattle.index_pages.specs.page_store.Pages.{Pages, same_home}
use Rattle.index_pages.specs.metadata_cells.CellPage.{next_of}
use Rattle.index_pages.proofs.OfMetadataCells.Changed.{homes_same}
use Rattle.index_pages.specs.tag_dirs.declared.dir.TagPlace.{TagPlace}
use Rattle.index_pages.specs.tag_dirs.Directory.{AddsPage, cell_for, cell_of, entry_at, has_home}
use Rattle.index_pages.specs.extent_maps.declared.run.PagePlace.TheVariants.{Absent, At}
use Rattle.index_pages.specs.free_cells.Belong.{LeadsTo, home_at as table_home}
use Rattle.index_pages.specs.free_cells.Cells.{Cells, table_of}
use Rattle.index_pages.proofs.OfFreeCells.Belongs.{belong_beside}
use Rattle.index_pages.specs.free_space.VolumeSpace.{IsFreePage, VolumeSpace}
use Rattle.index_pages.specs.free_space.Spaces.{CanTake, IsHeld, volume_of}
use Rattle.index_pages.specs.file_chains.Allocated.{AreAllocated}
use Rattle.index_pages.specs.fileset_files.Files.{Chains}
use Rattle.index_pages.specs.fileset_files.Together.{AreTogether, HasTogether, IsHeldApart}
use Rattle.file_world.specs.First.{AreFirst, IsEmpty, first_space, home_at}

-- the only volume
abbrev no_volume : Option VolumeSpace
no_volume = None

none_at : (k : ℕ) (n : ℕ) → get_or (replicate n no_volume) k no_volume ≡ no_volume
none_at k zero = refl
none_at zero (suc n) = refl
none_at (suc k) (suc n) = none_at k n

only_one : (count vol : ℕ) → 1 ≤ vol → ¬ vol ≡ 1 → volume_of (first_space count) vol ≡ None
only_one count zero low other = absurd (omega (arith, low))
only_one count (suc zero) low other = absurd (other refl)
only_one count (suc (suc k)) low other = let e : suc (suc k) - 1 ≡ suc k = omega arith in ap (λ i. get_or (first_space count).volumes i no_volume) e ∙ none_at k 7

-- its used pages
abbrev none_used : FinSet nat_cmp
none_used = empty

abbrev one_used : FinSet nat_cmp
one_used = insert none_used 0

abbrev two_used : FinSet nat_cmp
two_used = insert one_used 1

abbrev three_used : FinSet nat_cmp
three_used = insert two_used 2

used_zero : contains three_used 0 ≡ true
used_zero = contains-inserted two_used 2 0 ∙ contains-inserted one_used 1 0 ∙ contains-inserted none_used 0 0

used_one : contains three_used 1 ≡ true
used_one = contains-inserted two_used 2 1 ∙ contains-inserted one_used 1 1

used_two : contains three_used 2 ≡ true
used_two = contains-inserted two_used 2 2

module _ (count : ℕ) where
  is_one : (vol p : ℕ) → 1 ≤ vol → CanTake (first_space count) vol p → vol ≡ 1
  is_one vol p low can = ⊎_elim
      (λ same. eqb-true vol 1 same)
      (λ other. absurd (subst (λ o. IsSomeAnd o (λ (v : VolumeSpace). (v.is_open ≡ true) × IsFreePage v p)) (only_one count vol low (λ same. both_ways (nat_eq vol 1) other (eq-eqb vol 1 same))) can))
      (cases_Bool (nat_eq vol 1))

  held : (p : ℕ) → (p ≡ 1) → IsHeld (first_space count) 1 p
  held p is = subst (IsHeld (first_space count) 1) (sym is) (used_one, refl)

  held_two : IsHeld (first_space count) 1 2
  held_two = (used_two, refl)

  zero_used : (p : ℕ) → p ≡ 0 → CanTake (first_space count) 1 p → ⊥
  zero_used p is can = let at_zero : CanTake (first_space count) 1 0 = subst (CanTake (first_space count) 1) is can in true≢false (sym used_zero ∙ at_zero.1.unused)

  module _ (cells : Cells) (old new : Pages) (first : AreFirst cells old) (place : TagPlace) (there : place ≡ record { index = 0; home = home_at 2 }) (adds : AddsPage place [] old new) where
    -- the page of cells is none of tags
    same_on : (vol k : ℕ) → k < length (table_of cells vol) → new (table_home cells vol k) ≡ old (table_home cells vol k)
    same_on vol k within = ⊎_elim
        (λ same. by_one (eqb-true vol 1 same))
        (λ other. absurd (let none : length (table_of cells vol) ≡ 0 = ap length (first.others vol (λ same. both_ways (nat_eq vol 1) other (eq-eqb vol 1 same))) in omega (arith, within, none)))
        (cases_Bool (nat_eq vol 1))
      where
        by_one : vol ≡ 1 → new (table_home cells vol k) ≡ old (table_home cells vol k)
        by_one is =
            let table : table_of cells vol ≡ 1 ∷ [] = ap (table_of cells) is ∙ first.one in
            let at : k ≡ 0 = omega (arith, within, ap length table) in
            let number : get_or (table_of cells vol) k 0 ≡ 1 = (λ i. get_or (table i) (at i) 0) in
            adds.elsewhere (table_home cells vol k) refl
            (false_from_ne_true (same_home (table_home cells vol k) place.home)
            (λ same. let e : 1 ≡ 2 = sym number ∙ ap (λ (h : Home). h.page) (homes_same (table_home cells vol k) place.home same) ∙ ap (λ (p : TagPlace). p.home.page) there in omega (arith, e)))

    ends_all : (vol : ℕ) → LeadsTo cells vol new 0
    ends_all vol k last = subst (λ o. IsSomeAnd o (λ page. next_of page ≡ 0)) (sym (same_on vol k (omega (arith, last)))) (⊎_elim
        (λ same. (subst (λ (v : ℕ). LeadsTo cells v old 0) (sym (eqb-true vol 1 same)) first.ends) k last)
        (λ other. absurd (let none : length (table_of cells vol) ≡ 0 = ap length (first.others vol (λ same. both_ways (nat_eq vol 1) other (eq-eqb vol 1 same))) in omega (arith, last, none)))
        (cases_Bool (nat_eq vol 1)))

    held_all : (vol k : ℕ) → 1 ≤ vol → k < length (table_of cells vol) → IsHeld (first_space count) vol (get_or (table_of cells vol) k 0)
    held_all vol k low within = ⊎_elim
        (λ same. by_one (eqb-true vol 1 same))
        (λ other. absurd (let none : length (table_of cells vol) ≡ 0 = ap length (first.others vol (λ same. both_ways (nat_eq vol 1) other (eq-eqb vol 1 same))) in omega (arith, within, none)))
        (cases_Bool (nat_eq vol 1))
      where
        by_one : vol ≡ 1 → IsHeld (first_space count) vol (get_or (table_of cells vol) k 0)
        by_one is =
            let table : table_of cells vol ≡ 1 ∷ [] = ap (table_of cells) is ∙ first.one in
            let at : k ≡ 0 = omega (arith, within, ap length table) in
            let number : get_or (table_of cells vol) k 0 ≡ 1 = (λ i. get_or (table i) (at i) 0) in
            subst (λ (v : ℕ). IsHeld (first_space count) v (get_or (table_of cells vol) k 0)) (sym is) (held (get_or (table_of cells vol) k 0) number)

    allocated : AreAllocated (first_space count) cells new
    allocated = record {
      belong = belong_beside cells old new same_on first.belong;
      held = held_all;
      table = λ vol p low can. let table : table_of cells vol ≡ 1 ∷ [] = ap (table_of cells) (is_one vol p low can) ∙ first.one in omega (arith, ap length table);
      opened = λ vol p low can. first.opened vol;
      first = λ vol p low can none. zero_used p none (subst (λ (v : ℕ). CanTake (first_space count) v p) (is_one vol p low can) can);
      ends = ends_all;
    }

    no_at : Option CellAt
    no_at = None

    both_none : (b : Bool) → cond b no_at no_at ≡ no_at
    both_none true = refl
    both_none false = refl

    no_cell : (t : Tag) → cell_of new (place ∷ []) t ≡ None
    unfolding no_at
    no_cell t = ap (option_and_then (cell_for t.seq)) (adds.entries t.slot) ∙ by_index (nat_eq (t.slot / 1022) place.index)
      where
        by_index : (b : Bool) → option_and_then (cell_for t.seq) (cond b (Some (record { seq = 0; at = None })) (entry_at old [] t.slot)) ≡ None
        by_index true = both_none (nat_eq 0 t.seq)
        by_index false = refl

    abbrev no_files : Chains
    no_files = λ t. None

    two_held : (h : Home) → same_home h place.home ≡ true → IsHeldApart (first_space count) cells h
    two_held h same =
        let is : h ≡ home_at 2 = homes_same h place.home same ∙ ap (λ (p : TagPlace). p.home) there in
        subst (IsHeldApart (first_space count) cells) (sym is) (record { held = held_two; off_table = λ on. not_two (subst (λ (t : List ℕ). Contains t 2) first.one on) })
      where
        not_two : Contains {X = ℕ} (1 ∷ []) 2 → ⊥
        not_two (zero, within, is) = omega (arith, is)
        not_two (suc k, within, is) = omega (arith, within)

    at_two : (h : Home) → has_home (place ∷ []) h ≡ true → same_home h place.home ≡ true
    at_two h has = ⊎_elim (λ same. same) (λ later. absurd (true≢false (sym later))) (or_cases (same_home h place.home) false has)

    first_alone : (fileset : ℕ) → AreTogether fileset (place ∷ []) (first_space count) cells new no_files
    first_alone fileset = record {
      files = record { directory = adds.directory; none = λ t is. no_cell t; some = λ t. tt; apart = λ s t other. tt };
      allocated = allocated;
      on_tables = λ t. tt;
      tag_pages = λ h has. two_held h (at_two h has);
      file_pages = λ t p h at. absurd (not_at h at);
      once = λ s t p q h at_s at_t. absurd (not_at h at_s);
    }
      where
        not_at : (h : Home) → Absent ≡ At h → ⊥
        not_at h e = cc

    pub first_empty : (fileset : ℕ) → IsEmpty fileset (place ∷ []) (first_space count) cells new
    first_empty fileset = record {
      together = first_alone fileset;
      low = λ h has. subst (λ (x : Home). 1 ≤ x.vol) (sym (homes_same h place.home (at_two h has) ∙ ap (λ (p : TagPlace). p.home) there)) (omega arith);
    }

    pub first_together : (fileset : ℕ) → HasTogether fileset (place ∷ []) (first_space count) cells new
    first_together fileset = (no_files, first_alone fileset)
