-- What free space is after a call, where pages of it were taken.
use Rattle.std.proofs.Common.{◌≡◌, ◌∙◌, ◌⊎◌, ⊎_elim, inl, inr, ℕ, zero, suc, ◌≤◌, Bool, true, false, cond, nat_eq, List, [], ◌∷◌, ◌++◌, Option, Some, None, IsSomeAnd, Contains, refl, sym, ap, subst, arith}
use Rattle.std.proofs.lemmas.Bool.{both_ways, eq-eqb, eqb-true, or_cases, or_right}
use Rattle.std.specs.FinSet.{contains}
use Rattle.std.specs.Option.{option_map}
use Rattle.domain_standing.specs.domain_base.declared.place.Home.{Home}
use Rattle.domain_standing.specs.page_store.Pages.{Pages}
use Rattle.domain_standing.proofs.OfFreeSpace.Used.{contains-inserted}
use Rattle.domain_standing.specs.free_cells.Cells.{Cells, JoinsEmptyPage, table_of, with_page_last}
use Rattle.domain_standing.specs.free_space.VolumeSpace.{IsFreePage, VolumeSpace, is_among, with_page}
use Rattle.domain_standing.specs.free_space.Spaces.{CanTake, Spaces, change_volume, missed, volume_of}
use Rattle.domain_standing.proofs.OfFreeSpace.Places.{volume_of-change_other, volume_of-change_same}
use Rattle.domain_standing.specs.file_chains.MapChanges.{TakesOne}
use Rattle.domain_standing.proofs.OfReleaseSteps.Listing.{inside_last}

-- more pages of a volume are used, each of which is one of these, and all else is as it was
pub record VolumeGrows (vol : ℕ) (taken : Home → Type 0) (v w : VolumeSpace) : Type 0 where
  pub pages : w.pages ≡ v.pages
  pub opened : w.is_open ≡ v.is_open
  pub waiting : w.waiting ≡ v.waiting
  pub stays : (p : ℕ) → contains v.used p ≡ true → contains w.used p ≡ true
  pub only : (p : ℕ) → contains w.used p ≡ true → (contains v.used p ≡ true) ⊎ taken (record { vol = vol; page = p })

abbrev pub ThereGrows : ℕ → (Home → Type 0) → Option VolumeSpace → Option VolumeSpace → Type 0
ThereGrows vol taken None None = Unit {0}
ThereGrows vol taken None (Some w) = ⊥
ThereGrows vol taken (Some v) None = ⊥
ThereGrows vol taken (Some v) (Some w) = VolumeGrows vol taken v w

abbrev pub SpacesGrow : (Home → Type 0) → Spaces → Spaces → Type 0
SpacesGrow taken s t = (vol : ℕ) → 1 ≤ vol → ThereGrows vol taken (volume_of s vol) (volume_of t vol)

there_same : (vol : ℕ) (taken : Home → Type 0) (o : Option VolumeSpace) → ThereGrows vol taken o o
there_same vol taken None = tt
there_same vol taken (Some v) = record { pages = refl; opened = refl; waiting = refl; stays = λ p is. is; only = λ p is. inl is }

pub spaces_same : (taken : Home → Type 0) (s t : Spaces) → t ≡ s → SpacesGrow taken s t
spaces_same taken s t same vol low = subst (λ (x : Spaces). ThereGrows vol taken (volume_of s vol) (volume_of x vol)) (sym same) (there_same vol taken (volume_of s vol))

pub spaces_missed : (taken : Home → Type 0) (s t : Spaces) → t ≡ missed s → SpacesGrow taken s t
spaces_missed taken s t same vol low = subst (λ (x : Spaces). ThereGrows vol taken (volume_of s vol) (volume_of x vol)) (sym same) (there_same vol taken (volume_of s vol))

there_then : (vol : ℕ) (taken : Home → Type 0) (a b c : Option VolumeSpace) → ThereGrows vol taken a b → ThereGrows vol taken b c → ThereGrows vol taken a c
there_then vol taken None None None one two = tt
there_then vol taken None None (Some w) one two = absurd two
there_then vol taken None (Some v) c one two = absurd one
there_then vol taken (Some u) None c one two = absurd one
there_then vol taken (Some u) (Some v) None one two = absurd two
there_then vol taken (Some u) (Some v) (Some w) one two = record {
  pages = two.pages ∙ one.pages;
  opened = two.opened ∙ one.opened;
  waiting = two.waiting ∙ one.waiting;
  stays = λ p is. two.stays p (one.stays p is);
  only = λ p is. ⊎_elim (λ was. one.only p was) (λ fresh. inr fresh) (two.only p is);
}

pub spaces_then : (taken : Home → Type 0) (a b c : Spaces) → SpacesGrow taken a b → SpacesGrow taken b c → SpacesGrow taken a c
spaces_then taken a b c one two vol low = there_then vol taken (volume_of a vol) (volume_of b vol) (volume_of c vol) (one vol low) (two vol low)

there_page : (home : Home) (taken : Home → Type 0) → taken home → (o : Option VolumeSpace) → ThereGrows home.vol taken o (option_map (with_page home.page) o)
there_page home taken is None = tt
there_page home taken is (Some v) = record {
  pages = refl;
  opened = refl;
  waiting = refl;
  stays = λ p used. contains-inserted v.used home.page p ∙ or_right (nat_eq p home.page) (contains v.used p) used;
  only = λ p used. ⊎_elim
      (λ same. inr (subst (λ (q : ℕ). taken (record { vol = home.vol; page = q })) (sym (eqb-true p home.page same)) is))
      (λ was. inl was)
      (or_cases (nat_eq p home.page) (contains v.used p) (sym (contains-inserted v.used home.page p) ∙ used));
}

pub spaces_page : (taken : Home → Type 0) (s : Spaces) (home : Home) → 1 ≤ home.vol → taken home → SpacesGrow taken s (change_volume (with_page home.page) s home.vol)
spaces_page taken s home high is vol low = by_volume (nat_eq vol home.vol) refl
  where
    by_volume : (b : Bool) → nat_eq vol home.vol ≡ b → ThereGrows vol taken (volume_of s vol) (volume_of (change_volume (with_page home.page) s home.vol) vol)
    by_volume true same =
        subst (λ (n : ℕ). ThereGrows n taken (volume_of s n) (volume_of (change_volume (with_page home.page) s home.vol) n)) (sym (eqb-true vol home.vol same))
        (subst (ThereGrows home.vol taken (volume_of s home.vol)) (sym (volume_of-change_same (with_page home.page) s home.vol)) (there_page home taken is (volume_of s home.vol)))
    by_volume false apart =
        subst (ThereGrows vol taken (volume_of s vol))
        (sym (volume_of-change_other (with_page home.page) s home.vol vol (λ same. both_ways (nat_eq vol home.vol) apart (eq-eqb vol home.vol (omega (arith, same, low, high))))))
        (there_same vol taken (volume_of s vol))

-- what may be taken behind a page that was taken might be before it
pub can_before : (s : Spaces) (home : Home) (vol p : ℕ) → 1 ≤ home.vol → 1 ≤ vol → CanTake (change_volume (with_page home.page) s home.vol) vol p → CanTake s vol p
can_before s home vol p high low can = by_growth (volume_of s vol) (volume_of (change_volume (with_page home.page) s home.vol) vol) (spaces_page (λ h. Unit {0}) s home high tt vol low) can
  where
    by_growth : (a b : Option VolumeSpace) → ThereGrows vol (λ h. Unit {0}) a b → IsSomeAnd b (λ v. (v.is_open ≡ true) × IsFreePage v p) → IsSomeAnd a (λ v. (v.is_open ≡ true) × IsFreePage v p)
    by_growth None None grows can = can
    by_growth None (Some w) grows can = absurd grows
    by_growth (Some v) None grows can = absurd grows
    by_growth (Some v) (Some w) grows can = (
      sym grows.opened ∙ can.0,
      record {
        within = (let a = can.1.within in let b = grows.pages in omega (arith, a, b));
        unused = by_used (contains v.used p) refl;
        settled = ap (λ ws. is_among ws p) (sym grows.waiting) ∙ can.1.settled;
      },
    )
      where
        by_used : (b : Bool) → contains v.used p ≡ b → b ≡ false
        by_used true used = absurd (both_ways (contains w.used p) can.1.unused (grows.stays p used))
        by_used false used = refl

-- ---- a cell is handed out

-- a page that joins a table stands on a volume, for no other has a table
joins_low : (home : Home) (old new : Cells) → JoinsEmptyPage home old new → 1 ≤ home.vol
joins_low home old new joins = by_volume home.vol refl
  where
    by_volume : (n : ℕ) → home.vol ≡ n → 1 ≤ n
    by_volume zero is =
        let none : [] ≡ home.page ∷ [] = joins.tables 0 ∙ ap (λ (v : ℕ). with_page_last (record home { vol = v }) old 0) is in
        absurd (let e = none in absurd (cc))
    by_volume (suc n) is = omega arith

in_end : (xs : List ℕ) (p : ℕ) → Contains (xs ++ p ∷ []) p
in_end [] p = (zero, omega arith, refl)
in_end (x ∷ xs) p = let later = in_end xs p in (suc later.0, omega (arith, later.1), later.2)

module _ (prefer : ℕ) (space space_now : Spaces) (cells cells_now : Cells) (old : Pages) (one : TakesOne prefer space space_now cells cells_now old) where
  -- a page of a table was one, or it was taken
  pub one_new : (vol p : ℕ) → Contains (table_of cells_now vol) p → Contains (table_of cells vol) p ⊎ CanTake space vol p
  one_new vol p on =
      let between : Contains (table_of one.takes.between vol) p = subst (λ (t : List ℕ). Contains t p) (one.takes.taken.tables vol) on in
      ⊎_elim
      (λ had. inl (subst (λ (c : Cells). Contains (table_of c vol) p) had.same_cells between))
      (λ none. by_volume none.home none.adds.free (nat_eq vol none.home.vol) refl (subst (λ (t : List ℕ). Contains t p) (none.adds.joins.tables vol) between))
      one.takes.before
    where
      by_volume : (home : Home) → CanTake space home.vol home.page → (b : Bool) → nat_eq vol home.vol ≡ b → Contains (cond b (table_of cells vol ++ home.page ∷ []) (table_of cells vol)) p
          → Contains (table_of cells vol) p ⊎ CanTake space vol p
      by_volume home free true same inside = ⊎_elim
          (λ was. inl was)
          (λ last. inr (subst (λ (q : ℕ). CanTake space vol q) (sym last) (subst (λ (n : ℕ). CanTake space n home.page) (sym (eqb-true vol home.vol same)) free)))
          (inside_last (table_of cells vol) home.page p inside)
      by_volume home free false apart inside = inl inside

  joined_table : (between : Cells) (home : Home) → JoinsEmptyPage home cells between → ((vol : ℕ) → table_of cells_now vol ≡ table_of between vol) → Contains (table_of cells_now home.vol) home.page
  joined_table between home joins same =
      subst (λ (t : List ℕ). Contains t home.page) (sym (same home.vol ∙ joins.tables home.vol ∙ ap (λ (b : Bool). cond b (table_of cells home.vol ++ home.page ∷ []) (table_of cells home.vol)) (eq-eqb home.vol home.vol refl)))
      (in_end (table_of cells home.vol) home.page)

  pub one_spaces : (taken : Home → Type 0) → ((h : Home) → Contains (table_of cells_now h.vol) h.page → taken h) → SpacesGrow taken space space_now
  one_spaces taken on = ⊎_elim
      (λ had. spaces_same taken space space_now had.same_space)
      (λ none.
      subst (SpacesGrow taken space) (sym none.adds.used)
      (spaces_page taken space none.home (joins_low none.home cells one.takes.between none.adds.joins) (on none.home (joined_table one.takes.between none.home none.adds.joins one.takes.taken.tables))))
      one.takes.before
