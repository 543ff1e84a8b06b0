-- What has changed on a volume, marked on its bitmap.
use Rattle.std.proofs.Common.{◌≡◌, ◌∙◌, ◌↔◌, ℕ, Bool, true, false, ◌&&◌, ◌||◌, not, List, [], Option, Some, None, IfSome, if◌then◌else◌, refl, sym, ap, true≢false}
use Rattle.std.proofs.lemmas.Bool.{and_parts, eq-eqb, ne_eqb, or_right}
use Rattle.std.proofs.lemmas.List.Folds.{list_any-append}
use Rattle.std.specs.Cmp.{nat_cmp_total}
use Rattle.std.specs.FinSet.{FinSet, contains, contains-difference, contains-from_list_nat, difference, from_list}
use Rattle.std.specs.Option.{option_map}
use Rattle.std.specs.Ordering.{nat_cmp}
use Rattle.metadata_cells.specs.domain_base.declared.place.Home.{Home}
use Rattle.metadata_cells.specs.page_store.Pages.{Pages, same_home}
use Rattle.free_space.specs.Sound.{IsSoundVolume, WasSoundVolume, is_one}
use Rattle.free_space.specs.Spaces.{AreFreedOn, AreGivenBackOn, AreTakenOn}
use Rattle.free_space.specs.VolumeSpace.{VolumeSpace, as_kept, is_among}
use Rattle.free_space.specs.declared.waiting.Waiting.{Waiting}
use Rattle.free_cells.specs.Marks.{bitmap_home, is_marked}
use Rattle.free_cells.specs.Marking.{ChangesBits, IsHeldIn, IsOfBitmap, IsPageIn, MarksAll, SaysHeld}

or_false : (b : Bool) → (b || false) ≡ b
or_false true = refl
or_false false = refl

-- used and kept, waiting when it was kept and since: what the bit is when all is marked
held_by : (u k w g m : Bool) → (w ≡ true → k ≡ true) → ((m ≡ true) ↔ ((k ≡ true) × (w ≡ false)))
    → ((if g then false else (if k && not u then false else (if u && not k then true else m))) ≡ true) ↔ ((u ≡ true) × ((w || g) ≡ false))
held_by u k w true m waits old =
    (λ e. absurd (true≢false (sym e)), λ held. absurd (true≢false (sym (or_right w true refl) ∙ held.1)))
held_by true true w false m waits old =
    (λ e. (refl, or_false w ∙ (old.0 e).1), λ held. old.1 (refl, sym (or_false w) ∙ held.1))
held_by false true w false m waits old =
    (λ e. absurd (true≢false (sym e)), λ held. absurd (true≢false (sym held.0)))
held_by true false true false m waits old = absurd (true≢false (sym (waits refl)))
held_by true false false false m waits old = (λ e. (refl, refl), λ held. refl)
held_by false false w false m waits old =
    (λ e. absurd (true≢false (sym (old.0 e).0)), λ held. absurd (true≢false (sym held.0)))

is_none : (p : ℕ) (pages : List ℕ) → pages ≡ [] → is_one pages p ≡ true → ⊥
is_none p pages none is = true≢false (sym is ∙ ap (λ l. is_one l p) none)

none_among : (p : ℕ) (waiting : List Waiting) → waiting ≡ [] → is_among waiting p ≡ true → ⊥
none_among p waiting none is = true≢false (sym is ∙ ap (λ l. is_among l p) none)

-- a page is one of those that two sets differ in
in_difference : (pages : List ℕ) (p : ℕ) (s t : FinSet nat_cmp) → from_list pages ≡ difference s t → is_one pages p ≡ (contains s p && not (contains t p))
in_difference pages p s t is = sym (contains-from_list_nat pages p) ∙ ap (λ set. contains set p) is ∙ contains-difference nat_cmp_total s t p

pub taken_within : (o : Option VolumeSpace) (taken : List ℕ) → AreTakenOn o taken → IfSome o IsSoundVolume → (p : ℕ) → is_one taken p ≡ true → IsPageIn o p
taken_within None taken none sound p is = absurd (is_none p taken none is)
taken_within (Some v) taken some sound p is =
    sound.within p (and_parts (contains v.used p) (not (contains v.kept_used p)) (sym (in_difference taken p v.used v.kept_used some.0) ∙ is)).0

pub freed_within : (o : Option VolumeSpace) (freed : List ℕ) → AreFreedOn o freed → IfSome o WasSoundVolume → (p : ℕ) → is_one freed p ≡ true → IsPageIn o p
freed_within None freed none was p is = absurd (is_none p freed none is)
freed_within (Some v) freed some was p is =
    was.within p (and_parts (contains v.kept_used p) (not (contains v.used p)) (sym (in_difference freed p v.kept_used v.used some.0) ∙ is)).0

pub given_within : (o : Option VolumeSpace) (given : List Waiting) → AreGivenBackOn o given → IfSome o IsSoundVolume → (p : ℕ) → is_among given p ≡ true → IsPageIn o p
given_within None given none sound p is = absurd (none_among p given none is)
given_within (Some v) given some sound p is =
    sound.within p (sound.held p (ap (λ l. is_among l p) some ∙ list_any-append _ v.kept_waiting given ∙ or_right (is_among v.kept_waiting p) (is_among given p) is))

module _ (vol : ℕ) (o : Option VolumeSpace) (taken freed : List ℕ) (given : List Waiting) (is_taken : AreTakenOn o taken) (is_freed : AreFreedOn o freed) (is_given : AreGivenBackOn o given)
    (sound : IfSome o IsSoundVolume) (was : IfSome o WasSoundVolume)
    (a b c d : Pages) (first : MarksAll vol (is_one taken) true a b) (second : MarksAll vol (is_one freed) false b c) (third : MarksAll vol (is_among given) false c d) where
  at_vol : (p : ℕ) (t f g : Bool) → is_one taken p ≡ t → is_one freed p ≡ f → is_among given p ≡ g
      → is_marked d vol p ≡ (if g then false else (if f then false else (if t then true else is_marked a vol p)))
  at_vol p t f g is_t is_f is_g =
      third.bits vol p
      ∙ (λ i. if eq-eqb vol vol refl i && is_g i then false else is_marked c vol p)
      ∙ ap (λ m. if g then false else m)
      (second.bits vol p ∙ (λ i. if eq-eqb vol vol refl i && is_f i then false else is_marked b vol p)
      ∙ ap (λ m. if f then false else m)
      (first.bits vol p ∙ (λ i. if eq-eqb vol vol refl i && is_t i then true else is_marked a vol p)))

  pub says_held : SaysHeld a vol (option_map as_kept o) → SaysHeld d vol o
  says_held said p = by_volume o is_taken is_freed is_given was said
    where
      by_volume : (o : Option VolumeSpace) → AreTakenOn o taken → AreFreedOn o freed → AreGivenBackOn o given → IfSome o WasSoundVolume → SaysHeld a vol (option_map as_kept o)
          → IsPageIn o p → (is_marked d vol p ≡ true) ↔ IsHeldIn o p
      by_volume None taken_is freed_is given_is was said within = absurd within
      by_volume (Some v) taken_is freed_is given_is was said within =
          let bit = at_vol p _ _ _ (in_difference taken p v.used v.kept_used taken_is.0) (in_difference freed p v.kept_used v.used freed_is.0) refl in
          let waits : is_among v.waiting p ≡ (is_among v.kept_waiting p || is_among given p) = ap (λ l. is_among l p) given_is ∙ list_any-append _ v.kept_waiting given in
          let both = held_by (contains v.used p) (contains v.kept_used p) (is_among v.kept_waiting p) (is_among given p) (is_marked a vol p) (was.held p) (said p within) in
          (λ marked. let held = both.0 (sym bit ∙ marked) in (held.0, waits ∙ held.1), λ held. bit ∙ both.1 (held.0, sym waits ∙ held.1))

  off : (among : ℕ → Bool) → ((p : ℕ) → among p ≡ true → IsPageIn o p) → (home : Home) → (IsOfBitmap vol o home → ⊥) → (p : ℕ) → among p ≡ true → same_home home (bitmap_home vol p) ≡ false
  off among within home apart p is = by_home (same_home home (bitmap_home vol p)) refl
    where
      by_home : (b : Bool) → same_home home (bitmap_home vol p) ≡ b → b ≡ false
      by_home true same = absurd (apart (record { page = p; within = within p is; at = same }))
      by_home false same = refl

  not_among : (among : ℕ → Bool) → ((p : ℕ) → among p ≡ true → IsPageIn o p) → (p : ℕ) → (IsPageIn o p → ⊥) → among p ≡ false
  not_among among within p behind = by_test (among p) refl
    where
      by_test : (b : Bool) → among p ≡ b → b ≡ false
      by_test true is = absurd (behind (within p is))
      by_test false is = refl

  pub changes_bits : ChangesBits vol o a d
  changes_bits = record {
    there = λ home. third.there home ∙ second.there home ∙ first.there home;
    elsewhere = λ home apart.
        third.elsewhere home (off (is_among given) (given_within o given is_given sound) home apart)
        ∙ second.elsewhere home (off (is_one freed) (freed_within o freed is_freed was) home apart)
        ∙ first.elsewhere home (off (is_one taken) (taken_within o taken is_taken sound) home apart);
    others = λ v p other.
        let not_here = ne_eqb v vol other in
        third.bits v p ∙ (λ i. if not_here i && is_among given p then false else is_marked c v p)
        ∙ second.bits v p ∙ (λ i. if not_here i && is_one freed p then false else is_marked b v p)
        ∙ first.bits v p ∙ (λ i. if not_here i && is_one taken p then true else is_marked a v p);
    behind = λ p far. at_vol p false false false (not_among (is_one taken) (taken_within o taken is_taken sound) p far) (not_among (is_one freed) (freed_within o freed is_freed was) p far) (not_among (is_among given) (given_within o given is_given sound) p far);
  }
