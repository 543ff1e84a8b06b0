-- What free space is where pages come into an index, or go from one.
use Rattle.std.proofs.Common.{◌≡◌, ◌∙◌, ◌⊎◌, ⊎_elim, inl, inr, ℕ, zero, suc, ◌≤◌, ◌||◌, Bool, true, false, nat_eq, List, [], ◌∷◌, Option, Some, None, IsSomeAnd, Contains, refl, sym, ap, subst, arith}
use Rattle.std.proofs.lemmas.Bool.{both_ways, eq-eqb, eqb-true, false_from_ne_true, or_cases, or_left, or_right, true≢false}
use Rattle.std.proofs.lemmas.List.Folds.{list_any-append}
use Rattle.std.specs.FinSet.{contains}
use Rattle.std.specs.Option.{option_map}
use Rattle.domain_standing.specs.domain_base.declared.place.Home.{Home}
use Rattle.domain_standing.proofs.OfFreeSpace.Used.{contains-inserted}
use Rattle.domain_standing.specs.free_space.declared.waiting.PageUse.TheVariants.{Metadata}
use Rattle.domain_standing.specs.free_space.declared.waiting.Waiting.{Waiting}
use Rattle.domain_standing.specs.free_space.VolumeSpace.{IsFreePage, VolumeSpace, is_waiting, with_page, with_waiting}
use Rattle.domain_standing.specs.free_space.Spaces.{CanTake, IsHeld, Spaces, change_volume, volume_of}
use Rattle.domain_standing.proofs.OfFreeSpace.Places.{volume_of-change_other, volume_of-change_same}
use Rattle.domain_standing.specs.index_pages.Changes.{with_waiting_at}
use Rattle.domain_standing.proofs.OfIndexPages.Homes.{head_there, tail_there}

-- some pages of a volume are used that were not, some wait that did not, and all else is as it was
pub record VolumeMoves (vol : ℕ) (comes goes : Home → Type 0) (v w : VolumeSpace) : Type 0 where
  pub pages : w.pages ≡ v.pages
  pub opened : w.is_open ≡ v.is_open
  pub used_on : (p : ℕ) → contains v.used p ≡ true → contains w.used p ≡ true
  pub used_more : (p : ℕ) → comes (record { vol = vol; page = p }) → contains w.used p ≡ true
  pub used_back : (p : ℕ) → contains w.used p ≡ true → (contains v.used p ≡ true) ⊎ comes (record { vol = vol; page = p })
  pub waits_on : (p : ℕ) → is_waiting v p ≡ true → is_waiting w p ≡ true
  pub waits_more : (p : ℕ) → goes (record { vol = vol; page = p }) → is_waiting w p ≡ true
  pub waits_back : (p : ℕ) → is_waiting w p ≡ true → (is_waiting v p ≡ true) ⊎ goes (record { vol = vol; page = p })

abbrev pub ThereMoves : ℕ → (Home → Type 0) → (Home → Type 0) → Option VolumeSpace → Option VolumeSpace → Type 0
ThereMoves vol comes goes None None = Unit {0}
ThereMoves vol comes goes None (Some w) = ⊥
ThereMoves vol comes goes (Some v) None = ⊥
ThereMoves vol comes goes (Some v) (Some w) = VolumeMoves vol comes goes v w

abbrev pub SpacesMove : (Home → Type 0) → (Home → Type 0) → Spaces → Spaces → Type 0
SpacesMove comes goes s t = (vol : ℕ) → 1 ≤ vol → ThereMoves vol comes goes (volume_of s vol) (volume_of t vol)

abbrev pub NoHome : Home → Type 0
NoHome home = ⊥

-- ---- what follows

module _ (comes goes : Home → Type 0) (s t : Spaces) (moves : SpacesMove comes goes s t) where
  -- a page that is held is held still, but where it goes
  pub held_still : (home : Home) → 1 ≤ home.vol → ¬ goes home → IsHeld s home.vol home.page → IsHeld t home.vol home.page
  held_still home low stays held = by_volumes (volume_of s home.vol) (volume_of t home.vol) (moves home.vol low) held
    where
      by_volumes : (a b : Option VolumeSpace) → ThereMoves home.vol comes goes a b → IsSomeAnd a (λ v. (contains v.used home.page ≡ true) × (is_waiting v home.page ≡ false)) → IsSomeAnd b (λ v. (contains v.used home.page ≡ true) × (is_waiting v home.page ≡ false))
      by_volumes None b there is = absurd is
      by_volumes (Some v) None there is = absurd there
      by_volumes (Some v) (Some w) there is = (
        there.used_on home.page is.0,
        false_from_ne_true (is_waiting w home.page) (λ waits. ⊎_elim (λ did. true≢false (sym did ∙ is.1)) stays (there.waits_back home.page waits)),
      )

  -- what may be taken might be taken before
  pub can_still : (vol p : ℕ) → 1 ≤ vol → CanTake t vol p → CanTake s vol p
  can_still vol p low can = by_volumes (volume_of s vol) (volume_of t vol) (moves vol low) can
    where
      by_volumes : (a b : Option VolumeSpace) → ThereMoves vol comes goes a b → IsSomeAnd b (λ v. (v.is_open ≡ true) × IsFreePage v p) → IsSomeAnd a (λ v. (v.is_open ≡ true) × IsFreePage v p)
      by_volumes a None there is = absurd is
      by_volumes None (Some w) there is = absurd there
      by_volumes (Some v) (Some w) there is = (
        sym there.opened ∙ is.0,
        record {
          within = (let a = is.1.within in let b = there.pages in omega (arith, a, b));
          unused = false_from_ne_true (contains v.used p) (λ used. true≢false (sym (there.used_on p used) ∙ is.1.unused));
          settled = false_from_ne_true (is_waiting v p) (λ waits. true≢false (sym (there.waits_on p waits) ∙ is.1.settled));
        },
      )

-- ---- nothing comes or goes

there_same : (vol : ℕ) (comes goes : Home → Type 0) → ((home : Home) → ¬ comes home) → ((home : Home) → ¬ goes home) → (o : Option VolumeSpace) → ThereMoves vol comes goes o o
there_same vol comes goes none nogo None = tt
there_same vol comes goes none nogo (Some v) = record {
  pages = refl;
  opened = refl;
  used_on = λ p is. is;
  used_more = λ p more. absurd (none (record { vol = vol; page = p }) more);
  used_back = λ p is. inl is;
  waits_on = λ p is. is;
  waits_more = λ p more. absurd (nogo (record { vol = vol; page = p }) more);
  waits_back = λ p is. inl is;
}

pub moves_same : (s t : Spaces) → t ≡ s → SpacesMove NoHome NoHome s t
moves_same s t same vol low = subst (λ (x : Spaces). ThereMoves vol NoHome NoHome (volume_of s vol) (volume_of x vol)) (sym same) (there_same vol NoHome NoHome (λ home is. is) (λ home is. is) (volume_of s vol))

-- ---- a volume alone changes

one_changes : (change : VolumeSpace → VolumeSpace) (s : Spaces) (at : ℕ) (comes goes : Home → Type 0) → 1 ≤ at
    → ((o : Option VolumeSpace) → ThereMoves at comes goes o (option_map change o)) → ((vol p : ℕ) → ¬ vol ≡ at → ¬ comes (record { vol = vol; page = p })) → ((vol p : ℕ) → ¬ vol ≡ at → ¬ goes (record { vol = vol; page = p }))
    → SpacesMove comes goes s (change_volume change s at)
one_changes change s at comes goes high there none nogo vol low = by_volume (nat_eq vol at) refl
  where
    beside : ¬ vol ≡ at → (o : Option VolumeSpace) → ThereMoves vol comes goes o o
    beside apart None = tt
    beside apart (Some v) = record {
      pages = refl;
      opened = refl;
      used_on = λ p is. is;
      used_more = λ p more. absurd (none vol p apart more);
      used_back = λ p is. inl is;
      waits_on = λ p is. is;
      waits_more = λ p more. absurd (nogo vol p apart more);
      waits_back = λ p is. inl is;
    }

    by_volume : (b : Bool) → nat_eq vol at ≡ b → ThereMoves vol comes goes (volume_of s vol) (volume_of (change_volume change s at) vol)
    by_volume true same =
        subst (λ (n : ℕ). ThereMoves n comes goes (volume_of s n) (volume_of (change_volume change s at) n)) (sym (eqb-true vol at same))
        (subst (ThereMoves at comes goes (volume_of s at)) (sym (volume_of-change_same change s at)) (there (volume_of s at)))
    by_volume false apart =
        let differ : ¬ vol ≡ at = λ same. both_ways (nat_eq vol at) apart (eq-eqb vol at same) in
        subst (ThereMoves vol comes goes (volume_of s vol))
        (sym (volume_of-change_other change s at vol (λ same. differ (omega (arith, same, low, high)))))
        (beside differ (volume_of s vol))

-- ---- a page comes

abbrev pub Is : Home → Home → Type 0
Is onto home = home ≡ onto

pub moves_page : (s t : Spaces) (onto : Home) → 1 ≤ onto.vol → t ≡ change_volume (with_page onto.page) s onto.vol → SpacesMove (Is onto) NoHome s t
moves_page s t onto high is = subst (SpacesMove (Is onto) NoHome s) (sym is)
    (one_changes (with_page onto.page) s onto.vol (Is onto) NoHome high there (λ vol p apart same. apart (ap (λ (h : Home). h.vol) same)) (λ vol p apart none. none))
  where
    there : (o : Option VolumeSpace) → ThereMoves onto.vol (Is onto) NoHome o (option_map (with_page onto.page) o)
    there None = tt
    there (Some v) = record {
      pages = refl;
      opened = refl;
      used_on = λ p used. contains-inserted v.used onto.page p ∙ or_right (nat_eq p onto.page) (contains v.used p) used;
      used_more = λ p same. contains-inserted v.used onto.page p ∙ or_left (nat_eq p onto.page) (contains v.used p) (eq-eqb p onto.page (ap (λ (h : Home). h.page) same));
      used_back = λ p used. ⊎_elim
          (λ same. inr (let e : p ≡ onto.page = eqb-true p onto.page same in λ i. record { vol = onto.vol; page = e i }))
          (λ was. inl was)
          (or_cases (nat_eq p onto.page) (contains v.used p) (sym (contains-inserted v.used onto.page p) ∙ used));
      waits_on = λ p is. is;
      waits_more = λ p none. absurd none;
      waits_back = λ p is. inl is;
    }

-- ---- pages go

waits_with : (v : VolumeSpace) (w : Waiting) (p : ℕ) → is_waiting (with_waiting w v) p ≡ (is_waiting v p || (nat_eq p w.page || false))
waits_with v w p = list_any-append (λ (x : Waiting). nat_eq p x.page) v.waiting (w ∷ [])

either : (a b : Bool) → (a || (b || false)) ≡ true → (a ≡ true) ⊎ (b ≡ true)
either true b is = inl refl
either false true is = inr refl
either false false is = absurd (true≢false (sym is))

one_goes : (s : Spaces) (home : Home) (group : ℕ) → 1 ≤ home.vol → SpacesMove NoHome (Is home) s (change_volume (with_waiting (record { page = home.page; kind = Metadata; group = group })) s home.vol)
one_goes s home group high = one_changes (with_waiting one) s home.vol NoHome (Is home) high there (λ vol p apart none. none) (λ vol p apart same. apart (ap (λ (h : Home). h.vol) same))
  where
    one : Waiting
    one = record { page = home.page; kind = Metadata; group = group }

    there : (o : Option VolumeSpace) → ThereMoves home.vol NoHome (Is home) o (option_map (with_waiting one) o)
    there None = tt
    there (Some v) = record {
      pages = refl;
      opened = refl;
      used_on = λ p is. is;
      used_more = λ p none. absurd none;
      used_back = λ p is. inl is;
      waits_on = λ p waits. waits_with v one p ∙ or_left (is_waiting v p) (nat_eq p home.page || false) waits;
      waits_more = λ p same. waits_with v one p ∙ or_right (is_waiting v p) (nat_eq p home.page || false) (or_left (nat_eq p home.page) false (eq-eqb p home.page (ap (λ (h : Home). h.page) same)));
      waits_back = λ p waits. ⊎_elim
          (λ was. inl was)
          (λ same. inr (let e : p ≡ home.page = eqb-true p home.page same in λ i. record { vol = home.vol; page = e i }))
          (either (is_waiting v p) (nat_eq p home.page) (sym (waits_with v one p) ∙ waits));
    }

abbrev pub Among : List Home → Home → Type 0
Among homes home = Contains homes home

there_then : (vol : ℕ) (x : Home) (more : List Home) (a b c : Option VolumeSpace) → ThereMoves vol NoHome (Is x) a b → ThereMoves vol NoHome (Among more) b c → ThereMoves vol NoHome (Among (x ∷ more)) a c
there_then vol x more None None None one two = tt
there_then vol x more None None (Some w) one two = absurd two
there_then vol x more None (Some v) c one two = absurd one
there_then vol x more (Some u) None c one two = absurd one
there_then vol x more (Some u) (Some v) None one two = absurd two
there_then vol x more (Some u) (Some v) (Some w) one two = record {
  pages = two.pages ∙ one.pages;
  opened = two.opened ∙ one.opened;
  used_on = λ p is. two.used_on p (one.used_on p is);
  used_more = λ p none. absurd none;
  used_back = λ p is. ⊎_elim (λ was. one.used_back p was) (λ none. absurd none) (two.used_back p is);
  waits_on = λ p is. two.waits_on p (one.waits_on p is);
  waits_more = λ p inside. by_place p inside;
  waits_back = λ p is. ⊎_elim
      (λ was. ⊎_elim (λ did. inl did) (λ same. inr (subst (Contains (x ∷ more)) (sym same) (head_there x more))) (one.waits_back p was))
      (λ later. inr (tail_there x more (record { vol = vol; page = p }) later))
      (two.waits_back p is);
}
  where
    by_place : (p : ℕ) → Contains (x ∷ more) (record { vol = vol; page = p }) → is_waiting w p ≡ true
    by_place p (zero, within, is) = two.waits_on p (one.waits_more p (sym is))
    by_place p (suc k, within, is) = two.waits_more p (k, omega (arith, within), is)

pub moves_away : (homes : List Home) (group : ℕ) (s : Spaces) → ((home : Home) → Contains homes home → 1 ≤ home.vol) → SpacesMove NoHome (Among homes) s (with_waiting_at homes group s)
moves_away [] group s low vol high = there_same vol NoHome (Among []) (λ home is. is) (λ home inside. omega (arith, inside.1)) (volume_of s vol)
moves_away (x ∷ more) group s low vol high =
    there_then vol x more (volume_of s vol) (volume_of between vol) (volume_of (with_waiting_at more group between) vol)
    (one_goes s x group (low x (head_there x more)) vol high)
    (moves_away more group between (λ home inside. low home (tail_there x more home inside)) vol high)
  where
    between : Spaces
    between = change_volume (with_waiting (record { page = x.page; kind = Metadata; group = group })) s x.vol
