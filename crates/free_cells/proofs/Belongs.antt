-- Free cells and pages stay together.
use Rattle.std.proofs.Common.{◌≡◌, ◌∙◌, ◌⊎◌, inl, inr, ⊎_elim, ℕ, zero, suc, ◌+◌, ◌-◌, ◌<◌, ◌≤◌, Bool, true, false, not, cond, ◌&&◌, ◌||◌, nat_eq, nat_lt, Option, Some, None, IfSome, IsSomeAnd, List, [], ◌∷◌, ◌++◌, length, slice_index, get_or, refl, subst, sym, arith, ap}
use Rattle.std.proofs.lemmas.Bool.{not-true, and_parts, or_cases, cases_Bool, both_ways, and_from, eqb-true, eq-eqb, ltb-true, cases_lt}
use Rattle.std.proofs.lemmas.List.{get_or_append_left, get_or_default, length_push}
use Rattle.std.proofs.Math.Seq.{get_or-append_seam}
use Rattle.std.proofs.lemmas.List.Elements.{Contains-append_left, Contains-get_or, Contains-push}
use Rattle.std.specs.List.{Contains}
use Rattle.std.specs.Option.{option_and_then, option_map}
use Rattle.metadata_cells.specs.domain_base.Page.{zero_bytes}
use Rattle.metadata_cells.specs.domain_base.declared.place.CellAt.{CellAt}
use Rattle.metadata_cells.specs.domain_base.declared.place.Home.{Home}
use Rattle.metadata_cells.specs.page_store.Pages.{Pages, same_home}
use Rattle.metadata_cells.specs.CellPage.{IsCellPage, IsEmptyPage, IsUsedAt, KeepsHeaders, KeepsWellFormed, cell_at, cell_of, header, home_of, index_of, is_cell_page, is_free_in, next_of}
use Rattle.metadata_cells.specs.Chain.{LeavesOthers, is_at}
use Rattle.metadata_cells.proofs.CellKinds.{free_kind, used_not_zeros, zeros_kind}
use Rattle.metadata_cells.proofs.Changed.{homes_same}
use Rattle.free_cells.specs.VolumeTable.{AreOn}
use Rattle.free_cells.specs.Cells.{Cells, Holds, TakesCell, is_closed, is_free, is_on, kept_of, table_of, volume_of, with_page_last}
use Rattle.free_cells.specs.Belong.{Belong, IsNextPage, IsPageOf, LeadsTo, home_at, last_home}

-- the page at a place of a volume's table
abbrev PageThere : Pages → ℕ → ℕ → List ℕ → Type 0
PageThere pages vol place table = place < length table → IsSomeAnd (pages (record { vol = vol; page = slice_index table place })) (IsPageOf table place)

-- fewer cells are free, and a table stays or is forgotten
pub belong_fewer : (old new : Cells) → ((vol : ℕ) → (table_of new vol ≡ table_of old vol) ⊎ (table_of new vol ≡ []))
    → ((at : CellAt) → is_free new at ≡ true → (is_free old at ≡ true) × (table_of new at.vol ≡ table_of old at.vol)) → (pages : Pages) → Belong old pages → Belong new pages
belong_fewer old new tables fewer pages belong = record {
  run = λ vol place. either vol place (tables vol);
  on_table = λ at free. let was = fewer at free in subst (λ t. Contains t at.page) (sym was.1) (belong.on_table at was.0);
  zeros = λ at free. belong.zeros at (fewer at free).0;
}
  where
    either : (vol place : ℕ) → (table_of new vol ≡ table_of old vol) ⊎ (table_of new vol ≡ []) → PageThere pages vol place (table_of new vol)
    either vol place (inl same) = subst (PageThere pages vol place) (sym same) (belong.run vol place)
    either vol place (inr none) = subst (PageThere pages vol place) (sym none) (λ within. absurd (no_place within))
      where
        no_place : place < length {A = ℕ} [] → ⊥
        no_place within = omega (arith, within)

-- ---- other pages

module _ (cells : Cells) (old new : Pages) where
  pub belong_on : ((vol place : ℕ) → place < length (table_of cells vol) → IsSomeAnd (old (home_at cells vol place)) (IsPageOf (table_of cells vol) place)
      → IsSomeAnd (new (home_at cells vol place)) (IsPageOf (table_of cells vol) place))
      → ((at : CellAt) → is_free cells at ≡ true → cell_at new at ≡ cell_at old at) → Belong cells old → Belong cells new
  belong_on pages_stay cells_stay belong = record {
    run = λ vol place within. pages_stay vol place within (belong.run vol place within);
    on_table = belong.on_table;
    zeros = λ at free. cells_stay at free ∙ belong.zeros at free;
  }

  page_stays : (table : List ℕ) (place : ℕ) (o n : Option (List ℕ)) → (IfSome o IsCellPage → IfSome n IsCellPage) → option_map header n ≡ option_map header o
      → IsSomeAnd o (IsPageOf table place) → IsSomeAnd n (IsPageOf table place)
  page_stays table place None n good same is = absurd is
  page_stays table place (Some p) None good same is = absurd (none_is_some same)
    where
      none_is_some : {X : Type 0} {x : X} → None ≡ Some x → ⊥
      none_is_some e = cc
  page_stays table place (Some p) (Some q) good same is =
      let heads : header q ≡ header p = some_is same in
      record {
        good = good is.good;
        indexed = ap (λ (h : ℕ × ℕ). h.0) heads ∙ is.indexed;
        linked = λ within. ap (λ (h : ℕ × ℕ). h.1) heads ∙ is.linked within;
      }
    where
      some_is : {X : Type 0} {x y : X} → Some x ≡ Some y → x ≡ y
      some_is e = cc

  -- a change of cells, none of them free
  pub belong_still : (changed : CellAt → Bool) → LeavesOthers changed old new → KeepsWellFormed old new → KeepsHeaders old new
      → ((at : CellAt) → is_free cells at ≡ true → changed at ≡ false) → Belong cells old → Belong cells new
  belong_still changed others good headers apart = belong_on
      (λ vol place within is. page_stays (table_of cells vol) place (old (home_at cells vol place)) (new (home_at cells vol place)) (good (home_at cells vol place)) (headers (home_at cells vol place)) is)
      (λ at free. others at (apart at free))

  -- a change of pages that stand in no table
  pub belong_beside : ((vol place : ℕ) → place < length (table_of cells vol) → new (home_at cells vol place) ≡ old (home_at cells vol place)) → Belong cells old → Belong cells new
  belong_beside stay belong = belong_on
      (λ vol place within is. subst (λ o. IsSomeAnd o (IsPageOf (table_of cells vol) place)) (sym (stay vol place within)) is)
      (λ at free. let on = belong.on_table at free in
      let page : slice_index (table_of cells at.vol) on.0 ≡ at.page = get_or_default (table_of cells at.vol) on.0 0 at.page on.1 ∙ on.2 in
      let home : home_at cells at.vol on.0 ≡ home_of at = ap (λ p. record { vol = at.vol; page = p }) page in
      ap (option_and_then (λ p. cond (is_cell_page p && nat_lt at.cell 28) (Some (cell_of p at.cell)) None)) (subst (λ h. new h ≡ old h) home (stay at.vol on.0 on.1)))
      belong

-- ---- a cell is freed

place_there : (c : ℕ) (P : List ℕ → Type 0) (o : Option (List ℕ)) → IsSomeAnd (option_and_then (λ page. cond (is_cell_page page && nat_lt c 28) (Some (cell_of page c)) None) o) P
    → IsSomeAnd o (λ page. is_cell_page page ≡ true) × (c < 28)
place_there c P None there = absurd there
place_there c P (Some page) there = by_test (is_cell_page page && nat_lt c 28) refl there
  where
    by_test : (b : Bool) → (is_cell_page page && nat_lt c 28) ≡ b → IsSomeAnd (cond b (Some (cell_of page c)) None) P → (is_cell_page page ≡ true) × (c < 28)
    by_test true is there = let both = and_parts (is_cell_page page) (nat_lt c 28) is in (both.0, ltb-true c 28 both.1)
    by_test false is there = absurd there

module _ (cells : Cells) (pages : Pages) (belong : Belong cells pages) where
  pub free_below : (at : CellAt) → is_free cells at ≡ true → at.cell < 28
  free_below at free =
      (place_there at.cell (λ bytes. bytes ≡ zero_bytes 292) (pages (home_of at)) (subst (λ o. IsSomeAnd o (λ bytes. bytes ≡ zero_bytes 292)) (sym (belong.zeros at free)) refl)).1

  pub used_not_free : (at : CellAt) → IsUsedAt pages at → is_free cells at ≡ false
  used_not_free at used = ⊎_elim (λ free. absurd (used_not_zeros pages at used (belong.zeros at free))) (λ none. none) (cases_Bool (is_free cells at))

  pub all_on : (vol : ℕ) → AreOn (volume_of cells vol)
  all_on vol f free =
      let at : CellAt = record { vol = vol; page = f.page; cell = f.cell } in
      (belong.on_table at free, free_below at free)

at_is : (a b : CellAt) → is_at a b ≡ true → a ≡ b
at_is a b same =
    let vol = and_parts (nat_eq a.vol b.vol) (nat_eq a.page b.page && nat_eq a.cell b.cell) same in
    let rest = and_parts (nat_eq a.page b.page) (nat_eq a.cell b.cell) vol.1 in
    (λ i. record { vol = eqb-true a.vol b.vol vol.0 i; page = eqb-true a.page b.page rest.0 i; cell = eqb-true a.cell b.cell rest.1 i })

pub belong_freed : (old new : Cells) (before after : Pages) (at : CellAt) → Belong old before → IsUsedAt before at → Contains (table_of old at.vol) at.page
    → LeavesOthers (is_at at) before after → KeepsWellFormed before after → KeepsHeaders before after → cell_at after at ≡ Some (zero_bytes 292)
    → Holds (table_of old) (is_closed old) (λ q. is_at at q || is_free old q) (kept_of old) new → Belong new after
belong_freed old new before after at belong used placed others good headers cleared holds =
    let still = belong_still old before after (is_at at) others good headers apart belong in
    record {
      run = λ vol place. subst (PageThere after vol place) (sym (holds.tables vol)) (still.run vol place);
      on_table = λ q free. subst (λ t. Contains t q.page) (sym (holds.tables q.vol)) (⊎_elim (λ here. subst (λ (c : CellAt). Contains (table_of old c.vol) c.page) (at_is at q here) placed) (still.on_table q) (parts q free));
      zeros = λ q free. ⊎_elim (λ here. subst (λ (c : CellAt). cell_at after c ≡ Some (zero_bytes 292)) (at_is at q here) cleared) (still.zeros q) (parts q free);
    }
  where
    parts : (q : CellAt) → is_free new q ≡ true → (is_at at q ≡ true) ⊎ (is_free old q ≡ true)
    parts q free = or_cases (is_at at q) (is_free old q) (sym (holds.cells q) ∙ free)

    apart : (q : CellAt) → is_free old q ≡ true → is_at at q ≡ false
    apart q free = ⊎_elim
        (λ here. absurd (both_ways (is_free old at) (used_not_free old before belong at used) (subst (λ (c : CellAt). is_free old c ≡ true) (sym (at_is at q here)) free)))
        (λ none. none) (cases_Bool (is_at at q))

-- ---- a page is added after the others

pub some_and : {P Q : List ℕ → Type 0} (o : Option (List ℕ)) → ((page : List ℕ) → P page → Q page) → IsSomeAnd o P → IsSomeAnd o Q
some_and None more is = absurd is
some_and (Some page) more is = more page is

pub some_both : {P Q R : List ℕ → Type 0} (o : Option (List ℕ)) → ((page : List ℕ) → P page → Q page → R page) → IsSomeAnd o P → IsSomeAnd o Q → IsSomeAnd o R
some_both None more is also = absurd is
some_both (Some page) more is also = more page is also

zero_default : (xs : List ℕ) (k d : ℕ) → k < length xs → slice_index xs k ≡ get_or xs k d
zero_default [] k d within = absurd (omega (arith, within))
zero_default (x ∷ xs) zero d within = refl
zero_default (x ∷ xs) (suc k) d within = zero_default xs k d (omega (arith, within))

-- what a cell that joins with a page is
on_home_parts : (home : Home) (page : List ℕ) (at : CellAt) → (is_on home at && is_free_in page at.cell) ≡ true
    → (at.vol ≡ home.vol) × (at.page ≡ home.page) × (nat_lt at.cell 28 ≡ true) × (is_free_in page at.cell ≡ true)
on_home_parts home page at joins =
    let first = and_parts (is_on home at) (is_free_in page at.cell) joins in
    let second = and_parts (same_home (home_of at) home) (nat_lt at.cell 28) first.0 in
    let third = and_parts (nat_eq at.vol home.vol) (nat_eq at.page home.page) second.0 in
    (eqb-true at.vol home.vol third.0, eqb-true at.page home.page third.1, second.1, first.1)

-- the place of a page is its index, so that no page stands twice in a table
pub place_is : (cells : Cells) (pages : Pages) → Belong cells pages → (vol i : ℕ) → i < length (table_of cells vol)
    → IsSomeAnd (pages (home_at cells vol i)) (λ page. index_of page ≡ i)
place_is cells pages belong vol i within = some_and (pages (home_at cells vol i)) (λ page is. is.indexed) (belong.run vol i within)

pub one_index : (o : Option (List ℕ)) (i j : ℕ) → IsSomeAnd o (λ page. index_of page ≡ i) → IsSomeAnd o (λ page. index_of page ≡ j) → i ≡ j
one_index None i j a b = absurd a
one_index (Some page) i j a b = sym a ∙ b

-- pages at two places of a table are two
pub no_page_twice : (cells : Cells) (pages : Pages) → Belong cells pages → (vol i j : ℕ) → i < length (table_of cells vol) → j < length (table_of cells vol)
    → slice_index (table_of cells vol) i ≡ slice_index (table_of cells vol) j → i ≡ j
no_page_twice cells pages belong vol i j within within' same =
    one_index (pages (home_at cells vol j)) i j
    (subst (λ (p : ℕ). IsSomeAnd (pages (record { vol = vol; page = p })) (λ page. index_of page ≡ i)) same (place_is cells pages belong vol i within)) (place_is cells pages belong vol j within')

-- the next page of a table is none of its pages
pub next_is_new : (cells : Cells) (pages : Pages) (home : Home) → Belong cells pages → IsSomeAnd (pages home) (λ page. index_of page ≡ length (table_of cells home.vol))
    → ¬ Contains (table_of cells home.vol) home.page
next_is_new cells pages home belong next there =
    let table = table_of cells home.vol in
    let at_place = subst (λ (p : ℕ). IsSomeAnd (pages (record { vol = home.vol; page = p })) (λ page. index_of page ≡ there.0))
    (zero_default table there.0 home.page there.1 ∙ there.2) (place_is cells pages belong home.vol there.0 there.1) in
    let same = one_index (pages home) there.0 (length table) at_place next in
    not_less (subst (λ n. n < length table) same there.1)
  where
    not_less : {n : ℕ} → n < n → ⊥
    not_less less = omega (arith, less)

module _ (old new : Cells) (pages : Pages) (home : Home) (page : List ℕ) (belong : Belong old pages) (there : pages home ≡ Some page) (next : IsNextPage (length (table_of old home.vol)) page)
    (leads : LeadsTo old home.vol pages home.page)
    (holds : Holds (with_page_last home old) (is_closed old) (λ at. is_free old at || (is_on home at && is_free_in page at.cell)) (kept_of old) new) where
  abbrev table : List ℕ
  table = table_of old home.vol

  abbrev longer : List ℕ
  longer = table ++ home.page ∷ []

  long : length longer ≡ length table + 1
  long = length_push table home.page

  -- a page that was on the table
  earlier : (place : ℕ) → place < length table → PageThere pages home.vol place longer
  earlier place within _ =
      let read : slice_index longer place ≡ slice_index table place = get_or_append_left table (home.page ∷ []) 0 place within in
      subst (λ (p : ℕ). IsSomeAnd (pages (record { vol = home.vol; page = p })) (IsPageOf longer place)) (sym read)
      (by_order (cases_lt (place + 1) (length table)))
    where
      was : IsSomeAnd (pages (home_at old home.vol place)) (IsPageOf table place)
      was = belong.run home.vol place within

      by_order : (place + 1 < length table) ⊎ (length table ≤ place + 1) → IsSomeAnd (pages (home_at old home.vol place)) (IsPageOf longer place)
      by_order (inl less) = some_and (pages (home_at old home.vol place))
          (λ p is. record { good = is.good; indexed = is.indexed; linked = λ _. is.linked less ∙ sym (get_or_append_left table (home.page ∷ []) 0 (place + 1) less) }) was
      by_order (inr not_less) =
          let last : place + 1 ≡ length table = omega (arith, not_less, within) in
          some_both (pages (home_at old home.vol place))
          (λ p is leads. record { good = is.good; indexed = is.indexed; linked = λ _. leads ∙ sym (ap (slice_index longer) last ∙ get_or-append_seam table home.page [] 0) }) was (leads place last)

  the_new : PageThere pages home.vol (length table) longer
  the_new _ =
      subst (λ (p : ℕ). IsSomeAnd (pages (record { vol = home.vol; page = p })) (IsPageOf longer (length table))) (sym (get_or-append_seam table home.page [] 0))
      (subst (λ o. IsSomeAnd o (IsPageOf longer (length table))) (sym there) (record { good = next.good; indexed = next.indexed; linked = λ more. absurd (past more) }))
    where
      past : length table + 1 < length longer → ⊥
      past more = omega (arith, more, long)

  there_longer : (place : ℕ) → PageThere pages home.vol place longer
  there_longer place within = ⊎_elim (λ less. earlier place less within)
      (λ not_less. let last : length table ≡ place = omega (arith, not_less, within, long) in subst (λ n. PageThere pages home.vol n longer) last the_new within) (cases_lt place (length table))

  pub belong_grown : Belong new pages
  belong_grown = record {
    run = λ vol place. subst (PageThere pages vol place) (sym (holds.tables vol)) (on vol (nat_eq vol home.vol) refl place);
    on_table = λ at free. subst (λ t. Contains t at.page) (sym (holds.tables at.vol)) (contained at (nat_eq at.vol home.vol) refl (parts at free));
    zeros = λ at free. ⊎_elim (belong.zeros at) (zeros_there at) (parts at free);
  }
    where
      on : (vol : ℕ) (b : Bool) → nat_eq vol home.vol ≡ b → (place : ℕ) → PageThere pages vol place (cond b (table_of old vol ++ home.page ∷ []) (table_of old vol))
      on vol true same place = subst (λ (w : ℕ). PageThere pages w place (table_of old w ++ home.page ∷ [])) (sym (eqb-true vol home.vol same)) (there_longer place)
      on vol false other place = belong.run vol place

      parts : (at : CellAt) → is_free new at ≡ true → (is_free old at ≡ true) ⊎ ((is_on home at && is_free_in page at.cell) ≡ true)
      parts at free = or_cases (is_free old at) (is_on home at && is_free_in page at.cell) (sym (holds.cells at) ∙ free)

      contained : (at : CellAt) (b : Bool) → nat_eq at.vol home.vol ≡ b → (is_free old at ≡ true) ⊎ ((is_on home at && is_free_in page at.cell) ≡ true)
          → Contains (cond b (table_of old at.vol ++ home.page ∷ []) (table_of old at.vol)) at.page
      contained at true same (inl free) = Contains-append_left (table_of old at.vol) (home.page ∷ []) at.page (belong.on_table at free)
      contained at false other (inl free) = belong.on_table at free
      contained at true same (inr joins) =
          subst (λ (p : ℕ). Contains (table_of old at.vol ++ home.page ∷ []) p) (sym (on_home_parts home page at joins).1) (Contains-push (table_of old at.vol) home.page)
      contained at false other (inr joins) = absurd (both_ways (nat_eq at.vol home.vol) other (eq-eqb at.vol home.vol (on_home_parts home page at joins).0))

      zeros_there : (at : CellAt) → (is_on home at && is_free_in page at.cell) ≡ true → cell_at pages at ≡ Some (zero_bytes 292)
      zeros_there at joins =
          let is = on_home_parts home page at joins in
          let home_is : home_of at ≡ home = (λ i. record { vol = is.0 i; page = is.1 i }) in
          let below : nat_lt at.cell 28 ≡ true = is.2 in
          ap (λ h. option_and_then (λ page. cond (is_cell_page page && nat_lt at.cell 28) (Some (cell_of page at.cell)) None) (pages h)) home_is
          ∙ ap (option_and_then (λ page. cond (is_cell_page page && nat_lt at.cell 28) (Some (cell_of page at.cell)) None)) there
          ∙ ap (λ (b : Bool). cond b (Some (cell_of page at.cell)) None) (and_from (is_cell_page page) (nat_lt at.cell 28) next.good.magic below)
          ∙ ap Some (free_kind page at.cell next.good (ltb-true at.cell 28 below) is.3)

-- ---- a new page of free cells

module _ (cells : Cells) (home : Home) (some : 0 < length (table_of cells home.vol)) (fresh : ¬ Contains (table_of cells home.vol) home.page) where
  pub last_apart : same_home (last_home cells home.vol) home ≡ false
  last_apart = ⊎_elim
      (λ same. absurd (fresh (subst (λ (h : Home). Contains (table_of cells home.vol) h.page) (homes_same (last_home cells home.vol) home same)
      (Contains-get_or (table_of cells home.vol) (length (table_of cells home.vol) - 1) 0 (omega (arith, some))))))
      (λ apart. apart) (cases_Bool (same_home (last_home cells home.vol) home))

  module _ (old new : Pages) (belong : Belong cells old) (index : option_map index_of (new (last_home cells home.vol)) ≡ option_map index_of (old (last_home cells home.vol)))
      (others : LeavesOthers (is_on home) old new) (good : KeepsWellFormed old new)
      (elsewhere : (h : Home) → same_home h home ≡ false → same_home h (last_home cells home.vol) ≡ false → new h ≡ old h) where
    not_on : (at : CellAt) → is_free cells at ≡ true → is_on home at ≡ false
    not_on at free = ⊎_elim
        (λ on. let both = and_parts (same_home (home_of at) home) (nat_lt at.cell 28) on in
        absurd (fresh (subst (λ (h : Home). Contains (table_of cells h.vol) h.page) (homes_same (home_of at) home both.0) (belong.on_table at free))))
        (λ none. none) (cases_Bool (is_on home at))

    not_new : (vol place : ℕ) → place < length (table_of cells vol) → same_home (home_at cells vol place) home ≡ false
    not_new vol place within = ⊎_elim
        (λ same. absurd (fresh (subst (λ (h : Home). Contains (table_of cells h.vol) h.page) (homes_same (home_at cells vol place) home same) (Contains-get_or (table_of cells vol) place 0 within))))
        (λ apart. apart) (cases_Bool (same_home (home_at cells vol place) home))

    -- the page at a place other than the last has its next page there
    is_last : (vol place : ℕ) → place < length (table_of cells vol) → home_at cells vol place ≡ last_home cells home.vol → place + 1 < length (table_of cells vol) → ⊥
    is_last vol place within same more =
        let vols : home.vol ≡ vol = sym (ap (λ (h : Home). h.vol) same) in
        let last : slice_index (table_of cells vol) place ≡ slice_index (table_of cells vol) (length (table_of cells vol) - 1)
        = ap (λ (h : Home). h.page) same ∙ ap (λ v. slice_index (table_of cells v) (length (table_of cells v) - 1)) vols in
        let place_is = no_page_twice cells old belong vol place (length (table_of cells vol) - 1) within (omega (arith, within)) last in
        omega (arith, place_is, more)

    page_linked : (table : List ℕ) (place : ℕ) (o n : Option (List ℕ)) → (IfSome o IsCellPage → IfSome n IsCellPage) → option_map index_of n ≡ option_map index_of o
        → (place + 1 < length table → ⊥) → IsSomeAnd o (IsPageOf table place) → IsSomeAnd n (IsPageOf table place)
    page_linked table place None n good same last is = absurd is
    page_linked table place (Some p) None good same last is = absurd (none_is_some same)
      where
        none_is_some : {X : Type 0} {x : X} → None ≡ Some x → ⊥
        none_is_some e = cc
    page_linked table place (Some p) (Some q) good same last is = record { good = good is.good; indexed = some_is same ∙ is.indexed; linked = λ more. absurd (last more) }
      where
        some_is : {X : Type 0} {x y : X} → Some x ≡ Some y → x ≡ y
        some_is e = cc

    pub belong_linked : Belong cells new
    belong_linked = belong_on cells old new
        (λ vol place within is. by_home vol place within is (same_home (home_at cells vol place) (last_home cells home.vol)) refl)
        (λ at free. others at (not_on at free)) belong
      where
        by_home : (vol place : ℕ) → place < length (table_of cells vol) → IsSomeAnd (old (home_at cells vol place)) (IsPageOf (table_of cells vol) place)
            → (b : Bool) → same_home (home_at cells vol place) (last_home cells home.vol) ≡ b → IsSomeAnd (new (home_at cells vol place)) (IsPageOf (table_of cells vol) place)
        by_home vol place within is true same =
            let e = homes_same (home_at cells vol place) (last_home cells home.vol) same in
            page_linked (table_of cells vol) place (old (home_at cells vol place)) (new (home_at cells vol place)) (good (home_at cells vol place))
            (ap (λ h. option_map index_of (new h)) e ∙ index ∙ ap (λ h. option_map index_of (old h)) (sym e)) (is_last vol place within e) is
        by_home vol place within is false apart =
            subst (λ o. IsSomeAnd o (IsPageOf (table_of cells vol) place)) (sym (elsewhere (home_at cells vol place) (not_new vol place within) apart)) is

-- all cells of an empty page join
pub all_join : (old new : Cells) (home : Home) (page : List ℕ) (index : ℕ) → IsEmptyPage index page
    → Holds (with_page_last home old) (is_closed old) (λ at. is_free old at || (is_on home at && is_free_in page at.cell)) (kept_of old) new
    → Holds (with_page_last home old) (is_closed old) (λ at. is_free old at || is_on home at) (kept_of old) new
all_join old new home page index empty holds = record { tables = holds.tables; marks = holds.marks; keeps = holds.keeps; cells = λ at. holds.cells at ∙ ap (λ b. is_free old at || b) (all at (is_on home at) refl) }
  where
    all : (at : CellAt) (b : Bool) → is_on home at ≡ b → (is_on home at && is_free_in page at.cell) ≡ is_on home at
    all at true on =
        let below = ltb-true at.cell 28 (and_parts (same_home (home_of at) home) (nat_lt at.cell 28) on).1 in
        and_from (is_on home at) (is_free_in page at.cell) on (zeros_kind page at.cell (empty.free at.cell below)) ∙ sym on
    all at false off = ap (λ b. b && is_free_in page at.cell) off ∙ sym off

-- the last page leads to what its next page is
pub last_leads : (cells : Cells) (vol : ℕ) (pages : Pages) (next : ℕ) → IsSomeAnd (pages (last_home cells vol)) (λ page. next_of page ≡ next) → LeadsTo cells vol pages next
last_leads cells vol pages next is place last =
    let e : length (table_of cells vol) - 1 ≡ place = omega (arith, last) in
    subst (λ n. IsSomeAnd (pages (home_at cells vol n)) (λ page. next_of page ≡ next)) e is

-- ---- a cell that was handed out is written

pub belong_written : (old new : Cells) (before after : Pages) (at : CellAt) → TakesCell at old new → LeavesOthers (is_at at) before after
    → KeepsWellFormed before after → KeepsHeaders before after → Belong new before → Belong new after
belong_written old new before after at takes others good headers belong = belong_still new before after (is_at at) others good headers other belong
  where
    other : (q : CellAt) → is_free new q ≡ true → is_at at q ≡ false
    other q free = not-true (is_at at q) (and_parts (not (is_at at q)) (is_free old q) (sym (takes.cells q) ∙ free)).0
