-- Pages that are given back, and the free space then.
use Rattle.std.proofs.Common.{◌≡◌, ◌∙◌, ℕ, zero, suc, ◌+◌, ◌-◌, ◌≤◌, ◌||◌, get_or, Bool, true, false, List, [], ◌∷◌, ◌++◌, nat_eq, Option, Some, None, IsSomeAnd, Contains, refl, sym, ap, subst, arith, ⊎_elim, ◌⊎◌}
use Rattle.std.proofs.lemmas.Bool.{both_ways, cases_Bool, cases_lt, eq-eqb, eqb-true, or_left}
use Rattle.std.specs.Option.{option_map}
use Rattle.std.proofs.lemmas.List.Elements.{Contains-append_cases, Contains-append_left, Contains-append_right}
use Rattle.std.specs.FinSet.{contains}
use Rattle.fileset_files.specs.domain_base.declared.place.Home.{Home}
use Rattle.fileset_files.specs.page_store.Pages.{Pages}
use Rattle.fileset_files.specs.extent_maps.declared.run.PagePlace.{PagePlace}
use Rattle.fileset_files.specs.extent_maps.declared.run.PagePlace.TheVariants.{Absent, At}
use Rattle.fileset_files.specs.extent_maps.Runs.{Places}
use Rattle.fileset_files.specs.free_cells.Cells.{Cells, table_of}
use Rattle.fileset_files.specs.free_space.declared.waiting.PageUse.{PageUse}
use Rattle.fileset_files.specs.free_space.declared.waiting.Waiting.{Waiting}
use Rattle.fileset_files.specs.free_space.VolumeSpace.{IsFreePage, VolumeSpace, is_among, is_waiting, with_waiting}
use Rattle.fileset_files.specs.free_space.Spaces.{CanTake, IsHeld, Spaces, change_volume, volume_of}
use Rattle.fileset_files.proofs.OfFreeSpace.Places.{volume_of-change_other, volume_of-change_same}
use Rattle.fileset_files.specs.file_chains.Allocated.{AreAllocated}
use Rattle.fileset_files.proofs.OfFileChains.Allocated.{there_is}
use Rattle.fileset_files.proofs.Again.{one_home}
use Rattle.file_release.specs.Releases.{AreAllOnce, GivesBack, with_given}
use Rattle.file_release.specs.Steps.{IsHomeFrom, IsHomeWithin}

-- ---- one page that waits

among_more : (ws : List Waiting) (w : Waiting) (q : ℕ) → is_among ws q ≡ false → nat_eq q w.page ≡ false → is_among (ws ++ w ∷ []) q ≡ false
among_more [] w q none other = ap (λ (b : Bool). b || false) other
among_more (v ∷ ws) w q none other = ⊎_elim
    (λ is. absurd (both_ways (nat_eq q v.page || is_among ws q) none (or_left (nat_eq q v.page) (is_among ws q) is)))
    (λ is_not. ap (λ (b : Bool). b || is_among (ws ++ w ∷ []) q) is_not ∙ among_more ws w q (sym (ap (λ (b : Bool). b || is_among ws q) is_not) ∙ none) other)
    (cases_Bool (nat_eq q v.page))

among_fewer : (ws : List Waiting) (w : Waiting) (q : ℕ) → is_among (ws ++ w ∷ []) q ≡ false → is_among ws q ≡ false
among_fewer [] w q none = refl
among_fewer (v ∷ ws) w q none = ⊎_elim
    (λ is. absurd (both_ways (nat_eq q v.page || is_among (ws ++ w ∷ []) q) none (or_left (nat_eq q v.page) (is_among (ws ++ w ∷ []) q) is)))
    (λ is_not. ap (λ (b : Bool). b || is_among ws q) is_not ∙ among_fewer ws w q (sym (ap (λ (b : Bool). b || is_among (ws ++ w ∷ []) q) is_not) ∙ none))
    (cases_Bool (nat_eq q v.page))

module _ (s : Spaces) (vol : ℕ) (w : Waiting) where
  abbrev waits : Spaces
  waits = change_volume (with_waiting w) s vol

  same_volume : (other : ℕ) → other - 1 ≡ vol - 1 → volume_of waits other ≡ option_map (with_waiting w) (volume_of s other)
  same_volume other same =
      ap (λ i. get_or waits.volumes i None) same ∙ volume_of-change_same (with_waiting w) s vol ∙ ap (λ i. option_map (with_waiting w) (get_or s.volumes i None)) (sym same)

  -- another page stays held
  held_waits : (other q : ℕ) → (other - 1 ≡ vol - 1 → q ≡ w.page → ⊥) → IsHeld s other q → IsHeld waits other q
  held_waits other q apart held = by_volume (nat_eq (other - 1) (vol - 1)) refl
    where
      more : (o : Option VolumeSpace) → nat_eq q w.page ≡ false → IsSomeAnd o (λ v. (contains v.used q ≡ true) × (is_waiting v q ≡ false)) → IsSomeAnd (option_map (with_waiting w) o) (λ v. (contains v.used q ≡ true) × (is_waiting v q ≡ false))
      more None differ held = held
      more (Some v) differ held = (held.0, among_more v.waiting w q held.1 differ)

      by_volume : (b : Bool) → nat_eq (other - 1) (vol - 1) ≡ b → IsHeld waits other q
      by_volume true is =
          let same = eqb-true (other - 1) (vol - 1) is in
          subst (λ o. IsSomeAnd o (λ v. (contains v.used q ≡ true) × (is_waiting v q ≡ false))) (sym (same_volume other same))
          (more (volume_of s other) (⊎_elim (λ yes. absurd (apart same (eqb-true q w.page yes))) (λ is_not. is_not) (cases_Bool (nat_eq q w.page))) held)
      by_volume false differ =
          subst (λ o. IsSomeAnd o (λ v. (contains v.used q ≡ true) × (is_waiting v q ≡ false)))
          (sym (volume_of-change_other (with_waiting w) s vol other (λ same. both_ways (nat_eq (other - 1) (vol - 1)) differ (eq-eqb (other - 1) (vol - 1) same)))) held

  -- what can be taken then could be taken before
  can_waits : (other q : ℕ) → CanTake waits other q → CanTake s other q
  can_waits other q can = by_volume (nat_eq (other - 1) (vol - 1)) refl
    where
      fewer : (o : Option VolumeSpace) → IsSomeAnd (option_map (with_waiting w) o) (λ v. (v.is_open ≡ true) × IsFreePage v q) → IsSomeAnd o (λ v. (v.is_open ≡ true) × IsFreePage v q)
      fewer None can = can
      fewer (Some v) can = (can.0, record { within = can.1.within; unused = can.1.unused; settled = among_fewer v.waiting w q can.1.settled })

      by_volume : (b : Bool) → nat_eq (other - 1) (vol - 1) ≡ b → CanTake s other q
      by_volume true is = fewer (volume_of s other) (subst (λ o. IsSomeAnd o (λ v. (v.is_open ≡ true) × IsFreePage v q)) (same_volume other (eqb-true (other - 1) (vol - 1) is)) can)
      by_volume false differ =
          subst (λ o. IsSomeAnd o (λ v. (v.is_open ≡ true) × IsFreePage v q))
          (volume_of-change_other (with_waiting w) s vol other (λ same. both_ways (nat_eq (other - 1) (vol - 1)) differ (eq-eqb (other - 1) (vol - 1) same))) can

-- ---- some that wait

module _ (kind : PageUse) (group : ℕ) where
  pub held_given : (homes : List Home) (s : Spaces) (h : Home) → ((x : Home) → Contains homes x → 1 ≤ x.vol) → 1 ≤ h.vol → ¬ Contains homes h → IsHeld s h.vol h.page → IsHeld (with_given kind group homes s) h.vol h.page
  held_given [] s h low own apart held = held
  held_given (x ∷ xs) s h low own apart held =
      held_waits (with_given kind group xs s) x.vol (record { page = x.page; kind = kind; group = group }) h.vol h.page
      (λ vol page. apart (0, omega arith, (λ i. record { vol = vol_same vol i; page = sym page i })))
      (held_given xs s h (λ y inside. low y (later inside)) own (λ inside. apart (later inside)) held)
    where
      later : {y : Home} → Contains xs y → Contains (x ∷ xs) y
      later (k, within, is) = (suc k, omega (arith, within), is)

      vol_same : h.vol - 1 ≡ x.vol - 1 → x.vol ≡ h.vol
      vol_same same = omega (arith, same, own, low x (0, omega arith, refl))

  pub can_given : (homes : List Home) (s : Spaces) (vol q : ℕ) → CanTake (with_given kind group homes s) vol q → CanTake s vol q
  can_given [] s vol q can = can
  can_given (x ∷ xs) s vol q can = can_given xs s vol q (can_waits (with_given kind group xs s) x.vol (record { page = x.page; kind = kind; group = group }) vol q can)

  -- homes off the tables
  pub allocated_given : (homes : List Home) (s : Spaces) (cells : Cells) (pages : Pages) → ((x : Home) → Contains homes x → 1 ≤ x.vol) → ((x : Home) → Contains homes x → ¬ Contains (table_of cells x.vol) x.page)
      → AreAllocated s cells pages → AreAllocated (with_given kind group homes s) cells pages
  allocated_given homes s cells pages low off allocated = record {
    belong = allocated.belong;
    held = λ vol place from within. held_given homes s (record { vol = vol; page = get_or (table_of cells vol) place 0 }) low from
        (λ inside. off (record { vol = vol; page = get_or (table_of cells vol) place 0 }) inside (place, within, there_is (table_of cells vol) place (get_or (table_of cells vol) place 0) 0 within)) (allocated.held vol place from within);
    table = λ vol p from can. allocated.table vol p from (can_given homes s vol p can);
    opened = λ vol p from can. allocated.opened vol p from (can_given homes s vol p can);
    first = λ vol p from can. allocated.first vol p from (can_given homes s vol p can);
    ends = allocated.ends;
  }

-- ---- one after the other

module _ (from page : ℕ) (map : Places) (kind : PageUse) (group : ℕ) (s t u : Spaces) (less : from ≤ page) (once : (p q : ℕ) (home : Home) → map p ≡ At home → map q ≡ At home → p ≡ q) where
  abbrev Within : ℕ → Home → Type 0
  Within to = IsHomeWithin from to map

  -- the next page of them has a home and is given too
  pub more_homes : (home : Home) → map page ≡ At home → GivesBack (Within page) kind group s t → u ≡ change_volume (with_waiting (record { page = home.page; kind = kind; group = group })) t home.vol → GivesBack (Within (page + 1)) kind group s u
  more_homes home there so_far more = record {
    homes = home ∷ so_far.homes;
    each = λ h. (forth h, back h);
    once = ((λ inside. let w = (so_far.each home).0 inside in omega (arith, w.ends, once w.page page home w.there there)), so_far.once);
    is = more ∙ ap (λ (x : Spaces). change_volume (with_waiting (record { page = home.page; kind = kind; group = group })) x home.vol) so_far.is;
  }
    where
      forth : (h : Home) → Contains (home ∷ so_far.homes) h → Within (page + 1) h
      forth h (zero, within, is) = record { page = page; begins = less; ends = omega arith; there = there ∙ ap At is }
      forth h (suc k, within, is) = let w = (so_far.each h).0 (k, omega (arith, within), is) in record { page = w.page; begins = w.begins; ends = omega (arith, w.ends); there = w.there }

      back : (h : Home) → Within (page + 1) h → Contains (home ∷ so_far.homes) h
      back h w = ⊎_elim
          (λ before. let inside = (so_far.each h).1 (record { page = w.page; begins = w.begins; ends = before; there = w.there }) in (suc inside.0, omega (arith, inside.1), inside.2))
          (λ past. let e : w.page ≡ page = omega (arith, past, w.ends) in (0, omega arith, one_home home h (sym there ∙ sym (ap map e) ∙ w.there)))
          (cases_lt w.page page)

pub gives_none : (from : ℕ) (map : Places) (kind : PageUse) (group : ℕ) (s : Spaces) (to : ℕ) → to ≤ from → GivesBack (IsHomeWithin from to map) kind group s s
gives_none from map kind group s to less = record {
  homes = [];
  each = λ home. ((λ inside. absurd (omega (arith, inside.1))), (λ w. absurd (omega (arith, w.begins, w.ends, less))));
  once = tt;
  is = refl;
}

pub gives_by : (P Q : Home → Type 0) (kind : PageUse) (group : ℕ) (s t : Spaces) → ((home : Home) → P home → Q home) → ((home : Home) → Q home → P home) → GivesBack P kind group s t → GivesBack Q kind group s t
gives_by P Q kind group s t forth back gives = record {
  homes = gives.homes;
  each = λ home. ((λ inside. forth home ((gives.each home).0 inside)), (λ is. (gives.each home).1 (back home is)));
  once = gives.once;
  is = gives.is;
}

-- a page that is not given yet is held still
pub held_so_far : (from page : ℕ) (map : Places) (kind : PageUse) (group : ℕ) (s t : Spaces) → GivesBack (IsHomeWithin from page map) kind group s t → ((p q : ℕ) (home : Home) → map p ≡ At home → map q ≡ At home → p ≡ q)
    → ((p : ℕ) (home : Home) → map p ≡ At home → 1 ≤ home.vol) → (home : Home) → map page ≡ At home → IsHeld s home.vol home.page → IsHeld t home.vol home.page
held_so_far from page map kind group s t gives once low home there held =
    subst (λ (x : Spaces). IsHeld x home.vol home.page) (sym gives.is)
    (held_given kind group gives.homes s home (λ x inside. let w = (gives.each x).0 inside in low w.page x w.there) (low page home there)
    (λ inside. let w = (gives.each home).0 inside in omega (arith, w.ends, once w.page page home w.there there)) held)

-- nor is one that is none of those that are given
pub held_after : (P : Home → Type 0) (kind : PageUse) (group : ℕ) (s t : Spaces) → GivesBack P kind group s t → ((home : Home) → P home → 1 ≤ home.vol) → (home : Home) → 1 ≤ home.vol → (P home → ⊥) → IsHeld s home.vol home.page → IsHeld t home.vol home.page
held_after P kind group s t gives low home own apart held =
    subst (λ (x : Spaces). IsHeld x home.vol home.page) (sym gives.is)
    (held_given kind group gives.homes s home (λ x inside. low x ((gives.each x).0 inside)) own (λ inside. apart ((gives.each home).0 inside)) held)

pub absent_home : {x : PagePlace} (home : Home) → x ≡ Absent → x ≡ At home → ⊥
absent_home home none there = absent_not home (sym none ∙ there)
  where
    absent_not : (home : Home) → Absent ≡ At home → ⊥
    absent_not home e = cc

-- ---- some and then others

given_append : (kind : PageUse) (group : ℕ) (xs ys : List Home) (s : Spaces) → with_given kind group (xs ++ ys) s ≡ with_given kind group xs (with_given kind group ys s)
given_append kind group [] ys s = refl
given_append kind group (x ∷ xs) ys s =
    ap (λ (t : Spaces). change_volume (with_waiting (record { page = x.page; kind = kind; group = group })) t x.vol) (given_append kind group xs ys s)

once_append : (xs ys : List Home) → AreAllOnce xs → AreAllOnce ys → ((home : Home) → Contains xs home → ¬ Contains ys home) → AreAllOnce (xs ++ ys)
once_append [] ys once other apart = other
once_append (x ∷ xs) ys once other apart = (
  λ inside. ⊎_elim (λ first. once.0 first) (λ second. apart x (0, omega arith, refl) second) (Contains-append_cases xs ys x inside),
  once_append xs ys once.1 other (λ home first. apart home (suc first.0, omega (arith, first.1), first.2)),
)

-- no home is of both, and those of either are all
pub gives_both : (P Q R : Home → Type 0) (kind : PageUse) (group : ℕ) (s t u : Spaces) → ((home : Home) → R home → P home ⊎ Q home) → ((home : Home) → P home → R home) → ((home : Home) → Q home → R home) → ((home : Home) → P home → Q home → ⊥)
    → GivesBack P kind group s t → GivesBack Q kind group t u → GivesBack R kind group s u
gives_both P Q R kind group s t u either first second apart before after = record {
  homes = after.homes ++ before.homes;
  each = λ home. (
    (λ inside. ⊎_elim (λ later. second home ((after.each home).0 later)) (λ earlier. first home ((before.each home).0 earlier)) (Contains-append_cases after.homes before.homes home inside)),
    (λ is. ⊎_elim
        (λ p. Contains-append_right after.homes before.homes home ((before.each home).1 p))
        (λ q. Contains-append_left after.homes before.homes home ((after.each home).1 q))
        (either home is)),
  );
  once = once_append after.homes before.homes after.once before.once (λ home later earlier. apart home ((before.each home).0 earlier) ((after.each home).0 later));
  is = after.is ∙ ap (with_given kind group after.homes) before.is ∙ sym (given_append kind group after.homes before.homes s);
}

-- where no page has a home nothing is given
pub gives_nowhere : (from : ℕ) (map : Places) (kind : PageUse) (group : ℕ) (s : Spaces) → ((page : ℕ) (home : Home) → ¬ map page ≡ At home) → GivesBack (IsHomeFrom from map) kind group s s
gives_nowhere from map kind group s none = record {
  homes = [];
  each = λ home. ((λ inside. absurd (omega (arith, inside.1))), (λ w. absurd (none w.page home w.there)));
  once = tt;
  is = refl;
}
