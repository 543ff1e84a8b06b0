-- What holds of a turn holds at its start, and what that gives at its end.
use Rattle.std.proofs.Common.{◌≢◌, not, false, true, Bool, ◌≡◌, ℕ, zero, suc, ◌+◌, ◌<◌, ◌≤◌, ◌==◌, List, [], ◌∷◌, length, Contains, Option, Some, None, is_some, refl, ap, sym, ◌∙◌, subst, arith, append-nil, eq-eqb, ne_eqb, nat_lt, ltb→lt, lt→ltb, nltb→le}
use mathlib.Core.Option.{some, some-injective, some-ne-none}
use mathlib.Core.Logic.{dite}
use native.Mathlib.Decide.{ℕ_discrete}
use base.Growing.{prefix_refl}
use lib.ListN.{get_elem?}
use Rattle.atomic_table.specs.Table.{Final, Seen, State, opening}
use Rattle.domain_turn.specs.Kept.{IsShare, Kept, Knows, first_view, resting, shares_from}
use Rattle.domain_turn.specs.Passes.{IsLast}
use Rattle.domain_turn.specs.Telling.{Telling}
use Rattle.domain_turn.specs.Views.{ends_in, holds_in, lefts_in, one_if, passes_in, times_in, total, waits_in}
use Rattle.domain_turn.specs.declared.view.Share.{Share}
use Rattle.domain_turn.specs.declared.view.Beginning.{Beginning}
use Rattle.domain_turn.specs.declared.view.View.{View}
use Rattle.domain_turn.proofs.Totals.{total_alone, total_none, total_one, total_two}

module _ {T : Type 0} (told : Telling T) (value : T) where
  pub length_from : (number : ℕ) (lefts : List ℕ) → length (shares_from told value number lefts) ≡ length lefts
  length_from number [] = refl
  length_from number (left ∷ lefts) = ap suc (length_from (number + 1) lefts)

  lefts_from : (number : ℕ) (lefts : List ℕ) → total (λ (share : Share). share.left) (shares_from told value number lefts) ≡ total (λ (left : ℕ). left) lefts
  lefts_from number [] = refl
  lefts_from number (left ∷ lefts) = let rest = lefts_from (number + 1) lefts in omega (arith, rest)

  none_ended : (number : ℕ) (lefts : List ℕ) → total (λ (share : Share). one_if share.ended) (shares_from told value number lefts) ≡ 0
  none_ended number [] = refl
  none_ended number (left ∷ lefts) = let rest = none_ended (number + 1) lefts in omega (arith, rest)

  -- numbers that come later are not among those before
  times_below : (wanted number : ℕ) (lefts : List ℕ) → wanted < number → total (λ (share : Share). one_if (share.number == wanted)) (shares_from told value number lefts) ≡ 0
  times_below wanted number [] low = refl
  times_below wanted number (left ∷ lefts) low =
      let here : one_if (number == wanted) ≡ 0 = ap one_if (ne_eqb number wanted (λ same. omega (arith, same, low))) in
      let rest = times_below wanted (number + 1) lefts (omega (arith, low)) in omega (arith, here, rest)

  -- numbers that come earlier are not among those after
  times_above : (wanted number : ℕ) (lefts : List ℕ) → number + length lefts ≤ wanted → total (λ (share : Share). one_if (share.number == wanted)) (shares_from told value number lefts) ≡ 0
  times_above wanted number [] high = refl
  times_above wanted number (left ∷ lefts) high =
      let here : one_if (number == wanted) ≡ 0 = ap one_if (ne_eqb number wanted (λ same. omega (arith, same, high))) in
      let rest = times_above wanted (number + 1) lefts (omega (arith, high)) in omega (arith, here, rest)

  -- each number of the range is there once
  times_within : (wanted number : ℕ) (lefts : List ℕ) → number ≤ wanted → wanted < number + length lefts → total (λ (share : Share). one_if (share.number == wanted)) (shares_from told value number lefts) ≡ 1
  times_within wanted number [] low high = absurd (omega (arith, low, high))
  times_within wanted number (left ∷ lefts) low high = dite (ℕ_discrete number wanted)
      (λ same.
      let here : one_if (number == wanted) ≡ 1 = ap one_if (eq-eqb number wanted same) in
      let rest = times_below wanted (number + 1) lefts (omega (arith, same)) in omega (arith, here, rest))
      (λ other.
      let here : one_if (number == wanted) ≡ 0 = ap one_if (ne_eqb number wanted other) in
      let rest = times_within wanted (number + 1) lefts (omega (arith, low, other)) (omega (arith, high)) in omega (arith, here, rest))

  times_from : (wanted : ℕ) (lefts : List ℕ) → total (λ (share : Share). one_if (share.number == wanted)) (shares_from told value 0 lefts) ≡ one_if (nat_lt wanted (length lefts))
  times_from wanted lefts = by_test (nat_lt wanted (length lefts)) refl
    where
      by_test : (b : Bool) → nat_lt wanted (length lefts) ≡ b → total (λ (share : Share). one_if (share.number == wanted)) (shares_from told value 0 lefts) ≡ one_if (nat_lt wanted (length lefts))
      by_test true is = times_within wanted 0 lefts (omega arith) (let low = ltb→lt wanted (length lefts) (subst lib.Dec.T (sym is) tt) in omega (arith, low)) ∙ ap one_if (sym is)
      by_test false is = times_above wanted 0 lefts (let high = nltb→le wanted (length lefts) (subst (λ (b : Bool). lib.Dec.T (not b)) (sym is) tt) in omega (arith, high)) ∙ ap one_if (sym is)

  share_from : (passes durable number : ℕ) (lefts : List ℕ) (share : Share) → told.lasting value ≤ durable → number + length lefts ≤ passes → Contains (shares_from told value number lefts) share
      → IsShare told passes (told.history value) value [] durable 0 share
  share_from passes durable number [] share lasts fits (k, low, is) = absurd (omega (arith, low))
  share_from passes durable number (left ∷ lefts) share lasts fits (zero, low, is) = subst (IsShare told passes (told.history value) value [] durable 0) is record {
    number = omega (arith, fits);
    start = refl;
    seen = prefix_refl (told.history value);
    mine = refl;
    saw = ([], sym (append-nil (told.history value)), refl);
    begun = λ mover. refl;
    lasting = omega arith;
    committed = omega arith;
    durable = lasts;
    ends = omega arith;
  }
  share_from passes durable number (left ∷ lefts) share lasts fits (suc k, low, is) =
      share_from passes durable (number + 1) lefts share lasts (omega (arith, fits)) (k, omega (arith, low), is)

module _ {T : Type 0} (told : Telling T) (start : Beginning T) where
  abbrev V : Type 0
  V = View T

  abbrev begins : T
  begins = start.value.value

  pub opens : (committed durable : ℕ) → committed ≡ length (told.history begins) → durable ≡ told.lasting begins → told.rests begins
      → total (λ (left : ℕ). left) start.lefts.items ≤ told.room begins → length start.lefts.items ≤ 10
      → Kept told start (opening (0 ∷ 0 ∷ committed ∷ durable ∷ 0 ∷ []) (Some begins ∷ []) (first_view told start))
  opens committed durable length_is low rests room few =
      let v : V = first_view told start in
      let ended : total ends_in (v ∷ []) ≡ 0 = let none = none_ended told begins 0 start.lefts.items in omega (arith, none) in record {
        value = begins;
        news = [];
        drawn = 0;
        served = 0;
        durable = durable;
        words = (λ c. 0 ∷ 0 ∷ length_is c ∷ durable ∷ sym ended c ∷ []);
        home = λ nobody. (refl, rests);
        history = sym (append-nil (told.history begins));
        actors = λ entry there. absurd (let (k, in_none, is) = there in omega (arith, in_none));
        lefts = let all = lefts_from told begins 0 start.lefts.items in omega (arith, all, room);
        passes = let all = length_from told begins 0 start.lefts.items in omega (arith, all);
        few = few;
        once = λ number. let exact = times_from told begins number start.lefts.items in omega (arith, exact);
        apart = λ ticket. omega arith;
        queue = refl;
        lasts = omega (arith, low);
        each = λ seat view at. subst (Knows told (length start.lefts.items) (told.history begins) begins [] durable (total ends_in (v ∷ [])) 0 0) (the_one seat view at) record {
          shares = λ share there. subst (λ (ends : ℕ). IsShare told (length start.lefts.items) (told.history begins) begins [] durable ends share) (sym ended)
              (share_from told begins (length start.lefts.items) durable 0 start.lefts.items share (omega (arith, low)) (omega arith) there);
          ticket = λ ticket has. absurd (cc has);
          holds = λ held has. absurd (cc has);
          waits = omega arith;
        };
      }
    where
      the_one : (seat : ℕ) (view : V) → get_elem? (first_view told start ∷ []) seat ≡ some view → first_view told start ≡ view
      the_one zero view at = some-injective _ _ at
      the_one (suc seat) view at = absurd (some-ne-none _ (sym at))

  -- where a seat with all passes has no ticket, the value is at home
  all_home : (s : State (Option T) V) (k : Kept told start s) (id : ℕ) (shares : List Share) → get_elem? s.views id ≡ some (resting shares) → length shares ≡ length start.lefts.items
      → total holds_in s.views ≡ 0
  all_home s k id shares at all = total_none holds_in s.views (λ j u there. empty_handed j u there u.holds refl)
    where
      empty_handed : (j : ℕ) (u : V) → get_elem? s.views j ≡ some u → (held : Option T) → u.holds ≡ held → holds_in u ≡ 0
      empty_handed j u there None is = ap (λ (h : Option T). one_if (is_some h)) is
      empty_handed j u there (Some x) is = absurd (dite (ℕ_discrete j id)
          (λ same. let one : u ≡ resting shares = some-injective u (resting shares) (sym there ∙ ap (get_elem? s.views) same ∙ at) in cc (is, ap (λ (view : V). view.holds) one))
          (λ other.
          let both = total_two passes_in s.views j id u (resting shares) other there at in
          let whole = k.passes in
          let waits = (k.each j u there).waits in
          let mine : waits_in u ≡ 1 = ap (λ (t : Option ℕ). one_if (is_some t)) ((k.each j u there).holds x is).1 in
          omega (arith, both, whole, waits, mine, all)))

  pub closes : (id : ℕ) (shares : List Share) (words : List ℕ) (slots : List (Option T)) → length shares ≡ length start.lefts.items
      → Final (Seen (Kept told start) id (resting shares)) words slots
      → (value : T) × (get_elem? slots 0 ≡ some (Some value)) × IsLast told shares (told.history begins) value
  closes id shares words slots all (s, (k, at), words_are, as_long, at_home) =
      let home = k.home (all_home s k id shares at all) in
      let is : (share : Share) → Contains shares share → IsShare told (length start.lefts.items) (told.history begins) k.value k.news k.durable (total ends_in s.views) share
      = (k.each id (resting shares) at).shares in (
        k.value,
        at_home 0 (Some k.value) (ap (λ homes. get_elem? homes 0) home.0),
        record {
          rests = home.1;
          news = k.news;
          history = k.history;
          seen = λ share there. (is share there).seen;
          mine = λ share there. (is share there).mine;
          actors = λ entry there. let by = k.actors entry there in (by.0, (let low = by.1 in omega (arith, low, all)), by.2);
          all = λ number low.
              let alone = total_alone (times_in number) s.views id (resting shares) at (λ j u other there. no_passes j u other there number) in
              let exact = k.once number in
              let one : one_if (nat_lt number (length start.lefts.items)) ≡ 1 = ap one_if (true_of (nat_lt number (length start.lefts.items)) (lt→ltb number (length start.lefts.items) (omega (arith, low, all)))) in
              omega (arith, alone, exact, one);
          begun = λ share there mover. sym ((is share there).begun mover);
          committed = λ share there. (is share there).committed;
          durable = λ share there. let low = (is share there).durable in let lasts = k.lasts in omega (arith, low, lasts);
          lefts = let mine = total_one lefts_in s.views id (resting shares) at in let room = k.lefts in omega (arith, mine, room);
        },
      )
    where
      true_of : (b : Bool) → lib.Dec.T b → b ≡ true
      true_of true is = refl
      true_of false is = absurd is

      nothing_in : (number : ℕ) (xs : List Share) → length xs ≡ 0 → total (λ (share : Share). one_if (share.number == number)) xs ≡ 0
      nothing_in number [] none = refl
      nothing_in number (x ∷ xs) none = absurd (omega (arith, none))

      no_passes : (j : ℕ) (u : V) → j ≢ id → get_elem? s.views j ≡ some u → (number : ℕ) → times_in number u ≡ 0
      no_passes j u other there number =
          let both = total_two passes_in s.views j id u (resting shares) other there at in
          let whole = k.passes in
          nothing_in number u.shares (omega (arith, both, whole, all))
