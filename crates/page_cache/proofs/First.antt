-- What comes first in the queue.
use Rattle.std.proofs.Common.{◌≡◌, ◌==◌, ◌∙◌, ◌⊎◌, ◌^◌, ◌<◌, ◌≤◌, ℕ, suc, true, false, List, [], ◌∷◌, Option, Some, None, IfSome, IsSome, slice_get, nat_lt, if◌then◌else◌, eqb-true, refl, sym, ap, subst, arith}
use Rattle.std.specs.Option.{option_map}
use mathlib.Core.Bool.{false≢true}
use Rattle.page_store.specs.domain_base.declared.place.Home.{Home}
use Rattle.page_store.specs.sorted_sets.Homes.{number_of}
use Rattle.page_store.specs.sorted_sets.Rising.{IsRising, value_at}
use Rattle.page_cache.specs.Frames.{IsFirst, group_of, groups}
use Rattle.page_cache.specs.Entries.{Entries, frame_at, frames_in, groups_in}
use Rattle.page_cache.specs.Queues.{IsQueueOf, place_at, place_of}
use Rattle.page_cache.proofs.Moves.{at_group, narrow_place, some_none}
use Rattle.page_cache.proofs.Changed.{found}

rest_rises : (e : ℕ × Home) (es : List (ℕ × Home)) → IsRising (e ∷ es) → IsRising es
rest_rises e es rising i j d lt within = rising (suc i) (suc j) d (omega arith) (omega arith)

-- the first entry has the least place
behind : (e : ℕ × Home) (es : List (ℕ × Home)) → IsRising (e ∷ es) → (place : ℕ) → IsSome (value_at es place) → e.0 < place
behind e [] rising place some = absurd (false≢true some)
behind e (x ∷ xs) rising place some =
    let less : e.0 < x.0 = rising 0 1 x (omega arith) (omega arith) in
    (elim (x.0 == place) as (λ b. (x.0 == place) ≡ b → IsSome (if b then Some x.1 else value_at xs place) → e.0 < place) [
      | true ↦ λ t is. subst (λ p. e.0 < p) (eqb-true x.0 place t) less
      | false ↦ λ t is. let further = behind x xs (rest_rises e (x ∷ xs) rising) place is in omega arith
    ]) refl some

least : (e : ℕ × Home) (es : List (ℕ × Home)) → IsRising (e ∷ es) → (place : ℕ) → IsSome (value_at (e ∷ es) place) → e.0 ≤ place
least e es rising place some =
    (elim (e.0 == place) as (λ b. (e.0 == place) ≡ b → IsSome (if b then Some e.1 else value_at es place) → e.0 ≤ place) [
      | true ↦ λ t is. let same = eqb-true e.0 place t in omega (arith, same)
      | false ↦ λ t is. let further = behind e es rising place is in omega arith
    ]) refl some

at_front : (e : ℕ × Home) (es : List (ℕ × Home)) → value_at (e ∷ es) e.0 ≡ Some e.1
at_front e es = let t : (e.0 == e.0) ≡ true = grind arith in rw t refl

empty : (queue : List (ℕ × Home)) → option_map (λ (e : ℕ × Home). e.1) (slice_get queue 0) ≡ None → (place : ℕ) → IsSome (value_at queue place) → ⊥
empty [] none place some = false≢true some
empty (e ∷ es) none place some = some_none _ (sym none)

-- the first entry of a queue whose first home this is
first_entry : (queue : List (ℕ × Home)) (home : Home) → option_map (λ (e : ℕ × Home). e.1) (slice_get queue 0) ≡ Some home → (place : ℕ) × (value_at queue place ≡ Some home) × (IsRising queue → (other : ℕ) → IsSome (value_at queue other) → place ≤ other)
first_entry [] home is = absurd (some_none _ is)
first_entry (e ∷ es) home is = (e.0, at_front e es ∙ is, least e es)

-- the group of a place
place_group : (group : Option ℕ) (number g : ℕ) → place_of group number ≡ Some (place_at g number) → group ≡ Some g
place_group None number g is = absurd (some_none _ is)
place_group (Some q) number g is = let same : q ≡ g = grind (arith, is) in ap Some same

-- places in order are groups in order, and of one group numbers in order
in_order : (g q n m : ℕ) → n < 2 ^ 64 → m < 2 ^ 64 → place_at g n ≤ place_at q m → (g < q) ⊎ ((g ≡ q) × (n ≤ m))
in_order g q n m n_narrow m_narrow le = grind arith

module _ (entries : Entries) (queue : List (ℕ × Home)) (of : IsQueueOf (groups_in entries) queue) where
  -- only a home with a page that a volume may have has a frame
  has_width : (home : Home) (g : ℕ) → groups (frames_in entries) home ≡ Some g → home.page < 2 ^ 32
  has_width home g = (elim (nat_lt home.page (2 ^ 32)) as (λ b. nat_lt home.page (2 ^ 32) ≡ b → group_of (if b then frame_at entries (number_of home) else None) ≡ Some g → home.page < 2 ^ 32) [
    | true ↦ λ t is. grind (arith, t)
    | false ↦ λ t is. absurd (some_none _ is)
  ]) refl

  its_place : (home : Home) (g : ℕ) → groups (frames_in entries) home ≡ Some g → place_of (groups_in entries (number_of home)) (number_of home) ≡ Some (place_at g (number_of home))
  its_place home g is = ap (λ o. place_of o (number_of home)) (sym (ap group_of (found entries home (has_width home g is))) ∙ is)

  -- without a first home none waits
  pub none_waits : option_map (λ (e : ℕ × Home). e.1) (slice_get queue 0) ≡ None → (home : Home) (g : ℕ) → groups (frames_in entries) home ≡ Some g → ⊥
  none_waits none home g is = empty queue none _ (of.listed (number_of home) _ (its_place home g is))

  narrow_home : (home : Home) (g : ℕ) → groups (frames_in entries) home ≡ Some g → number_of home < 2 ^ 64
  narrow_home home g is = narrow_place (groups_in entries) of.narrow (number_of home) _ (its_place home g is)

  -- the first home is the first that waits
  pub waits_first : IsRising queue → (home : Home) → home.page < 2 ^ 32 → option_map (λ (e : ℕ × Home). e.1) (slice_get queue 0) ≡ Some home → (g : ℕ) × IsFirst (groups (frames_in entries)) home g
  waits_first rising home width is =
      let front = first_entry queue home is in
      let its = of.only front.0 home front.1 in
      let at = at_group _ _ _ its in
      let has = place_group (groups_in entries (number_of home)) (number_of home) at.0 (its ∙ ap Some at.1) in
      let waits = ap group_of (found entries home width) ∙ has in (
        at.0,
        record {
          has = waits;
          first = λ other number there.
              let place = of.listed (number_of other) _ (its_place other number there) in
              let le = front.2 rising (place_at number (number_of other)) place in
              in_order at.0 number (number_of home) (number_of other) (narrow_home home at.0 waits) (narrow_home other number there) (subst (λ p. p ≤ place_at number (number_of other)) at.1 le);
        },
      )

pub some_home : (home : Option Home) → IsSome home → (h : Home) × (home ≡ Some h)
some_home None some = absurd (false≢true some)
some_home (Some h) some = (h, refl)

pub if_some_is : (o : Option Home) (home : Home) → o ≡ Some home → IfSome o (λ h. h.page < 2 ^ 32) → home.page < 2 ^ 32
if_some_is o home is width = subst (λ o. IfSome o (λ h. h.page < 2 ^ 32)) is width

-- what no number is given for has none
pub no_number : (group : Option ℕ) → ((g : ℕ) → group ≡ Some g → ⊥) → group ≡ None
no_number None never = refl
no_number (Some g) never = absurd (never g refl)
