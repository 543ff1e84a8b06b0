-- What the kept calls make of the moment at the making of a rack.
use Rattle.std.proofs.Common.{◌≡◌, ◌==◌, ◌&&◌, ℕ, zero, suc, ◌+◌, ◌-◌, ◌*◌, ◌%◌, ◌^◌, ◌<◌, ◌≤◌, min, nat_lt, nat_le, Bool, true, false, cond, IsTrue, Result, Ok, Err, is_err, OnOk, OnErr, List, [], ◌∷◌, ◌++◌, length, get_or, take, drop, refl, sym, ◌∙◌, ap, subst, inl, inr, arith}
use Rattle.std.proofs.lemmas.Bool.{cases_order, cases_lt, eq-eqb, ne_eqb, lt-ltb, le-ltb, le-leb, lt-leb}
use Rattle.std.proofs.lemmas.List.{take_all, drop_more}
use Rattle.volume_disk.specs.domain_base.Counts.{raised}
use Rattle.volume_disk.specs.Disk.{Disk, Moment, moment_at, volume_pages}
use Rattle.memory_disk.specs.Kept.{effect_on, replayed, FitsIn, IsAdded, Adds}
use Rattle.memory_disk.specs.Memory.{past_of}
use Rattle.memory_disk.specs.Moment.{blank}
use Rattle.memory_disk.specs.declared.kept.KeptCall.{KeptCall}

pub from_err : {T E : Type 0} {P : Type 0} (r : Result T E) → is_err r ≡ true → OnErr r P → P
from_err (Ok x) is held = absurd (cc is)
from_err (Err e) is held = held

pub from_ok : {T E : Type 0} {P : Type 0} (r : Result T E) → is_err r ≡ false → OnOk r P → P
from_ok (Ok x) is held = held
from_ok (Err e) is held = absurd (cc is)

-- no call has a greater number
abbrev pub AreUpTo : ℕ → List KeptCall → Type 0
AreUpTo n calls = (k : ℕ) (d : KeptCall) → k < length calls → (get_or calls k d).number ≤ n

-- each call is of blocks of a rack with volumes of these sizes
abbrev pub AreFit : List ℕ → List KeptCall → Type 0
AreFit sizes calls = (k : ℕ) (d : KeptCall) → k < length calls → FitsIn sizes (get_or calls k d)

pub AreFit-same : (sizes others : List ℕ) (calls : List KeptCall) → others ≡ sizes → AreFit sizes calls → AreFit others calls
AreFit-same sizes others calls same fit k d lt = subst (λ (l : List ℕ). FitsIn l (get_or calls k d)) (sym same) (fit k d lt)

pub AreUpTo-later : (n next : ℕ) (calls : List KeptCall) → n ≤ next → AreUpTo n calls → AreUpTo next calls
AreUpTo-later n next calls le up_to k d lt = omega (arith, up_to k d lt)

-- the moment after one call more
abbrev step : Moment → KeptCall → ℕ → Moment
step moment call t = cond (nat_le call.number t) (effect_on moment call.vol call.effect) moment

pub replayed-append : (first : Moment) (calls : List KeptCall) (call : KeptCall) (t : ℕ) → replayed first (calls ++ call ∷ []) t ≡ step (replayed first calls t) call t
replayed-append first [] call t = refl
replayed-append first (c ∷ calls) call t = replayed-append (step first c t) calls call t

-- a call with a number that is not yet reached changes nothing
pub replayed-append_later : (first : Moment) (calls : List KeptCall) (call : KeptCall) (t : ℕ) → t < call.number → replayed first (calls ++ call ∷ []) t ≡ replayed first calls t
replayed-append_later first calls call t lt = replayed-append first calls call t ∙ (let test = lt-leb call.number t lt in rw test refl)

pub replayed-append_now : (first : Moment) (calls : List KeptCall) (call : KeptCall) (t : ℕ) → call.number ≤ t → replayed first (calls ++ call ∷ []) t ≡ effect_on (replayed first calls t) call.vol call.effect
replayed-append_now first calls call t le = replayed-append first calls call t ∙ (let test = le-leb call.number t le in rw test refl)

-- past the last call nothing changes
pub replayed-past : (first : Moment) (calls : List KeptCall) (n t : ℕ) → AreUpTo n calls → n ≤ t → replayed first calls t ≡ replayed first calls n
replayed-past first [] n t up_to le = refl
replayed-past first (c ∷ calls) n t up_to le =
    let at : c.number ≤ n = up_to 0 c (omega arith) in
    let now : nat_le c.number n ≡ true = le-leb c.number n at in
    let then : nat_le c.number t ≡ true = le-leb c.number t (omega arith) in
    rw (now, then) (replayed-past (effect_on first c.vol c.effect) calls n t (λ k d lt. up_to (suc k) d (omega arith)) le)

-- a list with one more
get_or_last : (old : List KeptCall) (call d : KeptCall) (P : KeptCall → Type 0) → ((k : ℕ) → k < length old → P (get_or old k d)) → P call → (k : ℕ) → k < length (old ++ call ∷ []) → P (get_or (old ++ call ∷ []) k d)
get_or_last [] call d P each last zero lt = last
get_or_last [] call d P each last (suc k) lt = absurd (omega arith)
get_or_last (c ∷ old) call d P each last zero lt = each 0 (omega arith)
get_or_last (c ∷ old) call d P each last (suc k) lt = get_or_last old call d P (λ j below. each (suc j) (omega arith)) last k (omega arith)

module _ (old new : List KeptCall) (calls number vol block size : ℕ) (next : Moment → Moment) (one_more : number ≡ calls + 1) (up_to : AreUpTo calls old) where
  module _ (added : IsAdded old new number vol block size next) where
    up_to_last : AreUpTo number new
    up_to_last k d lt = rw added.last (get_or_last old added.call d (λ c. c.number ≤ number) (λ j below. omega (arith, up_to j d below)) (omega (arith, added.number_is)) k (rw (added.last) at lt))

    fit_last : (sizes : List ℕ) → FitsIn sizes added.call → AreFit sizes old → AreFit sizes new
    fit_last sizes fits fit k d lt = rw added.last (get_or_last old added.call d (FitsIn sizes) (λ j below. fit j d below) fits k (rw (added.last) at lt))

    replayed_last : (first : Moment) → replayed first new number ≡ next (replayed first old calls)
    replayed_last first =
        ap (λ (l : List KeptCall). replayed first l number) added.last
        ∙ replayed-append_now first old added.call number (omega (arith, added.number_is))
        ∙ ap (λ (m : Moment). effect_on m added.call.vol added.call.effect) (replayed-past first old calls number up_to (omega arith))
        ∙ added.next_is (replayed first old calls)

    same_last : (first : Moment) (t : ℕ) → t ≤ calls → replayed first new t ≡ replayed first old t
    same_last first t le = ap (λ (l : List KeptCall). replayed first l t) added.last ∙ replayed-append_later first old added.call t (omega (arith, added.number_is))

  pub AreUpTo-added : (keeps : Bool) → Adds keeps old new number vol block size next → AreUpTo number new
  AreUpTo-added true adds k d lt = up_to_last (adds.kept refl) k d lt
  AreUpTo-added false adds k d lt = rw (adds.unkept refl) (omega (arith, up_to k d (rw (adds.unkept refl) at lt)))

  pub AreFit-added : (keeps : Bool) → Adds keeps old new number vol block size next → (sizes : List ℕ) → vol ≤ length sizes → size % 512 ≡ 0 → 512 * block + size ≤ 8192 * volume_pages sizes vol → AreFit sizes old → AreFit sizes new
  AreFit-added true adds sizes in_rack whole within fit k d lt =
      let added = adds.kept refl in
      fit_last added sizes (record {
        in_rack = rw added.vol_is in_rack;
        whole = rw added.size_is whole;
        within = rw (added.size_is, added.block_is, added.vol_is) within;
      }) fit k d lt
  AreFit-added false adds sizes in_rack whole within fit k d lt = rw (adds.unkept refl) (fit k d (rw (adds.unkept refl) at lt))

  pub replayed-added : (keeps : Bool) → Adds keeps old new number vol block size next → (first : Moment) → IsTrue keeps → replayed first new number ≡ next (replayed first old calls)
  replayed-added true adds first _ = replayed_last (adds.kept refl) first
  replayed-added false adds first is = absurd (cc (is))

  pub replayed-added_before : (keeps : Bool) → Adds keeps old new number vol block size next → (first : Moment) (t : ℕ) → t ≤ calls → replayed first new t ≡ replayed first old t
  replayed-added_before true adds first t le = same_last (adds.kept refl) first t le
  replayed-added_before false adds first t le = ap (λ (l : List KeptCall). replayed first l t) (adds.unkept refl)

-- the moments of before, and the one that ends with the next call
abbrev pub with_now : Bool → ℕ → Moment → Moment → List KeptCall → ℕ → Moment
with_now keeps calls now first kept t = cond (keeps && (t == calls) && nat_lt t (2 ^ 64 - 1)) now (past_of keeps calls first kept t)

module _ (keeps : Bool) (calls next : ℕ) (one_more : next ≡ raised calls) (first now : Moment) (kept later : List KeptCall) (range : calls ≤ 2 ^ 64 - 1)
    (same : (t : ℕ) → t ≤ calls → replayed first later t ≡ replayed first kept t) (replays : IsTrue keeps → replayed first kept calls ≡ now) where
  abbrev goes_on : Bool → ℕ → Type 0
  goes_on keeps t = past_of keeps next first later t ≡ with_now keeps calls now first kept t

  here : (t : ℕ) → t ≡ calls → IsTrue true → replayed first kept calls ≡ now → goes_on true t
  here t is _ is_now = elim (cases_lt calls (2 ^ 64 - 1)) [
    | inl lt ↦
        let below : nat_lt t next ≡ true = lt-ltb t next (omega arith) in
        let at : (t == calls) ≡ true = eq-eqb t calls is in
        let before : nat_lt t (2 ^ 64 - 1) ≡ true = lt-ltb t (2 ^ 64 - 1) (omega arith) in
        rw (below, at, before) (same t (omega arith) ∙ ap (replayed first kept) is ∙ is_now)
    | inr last ↦
        let below : nat_lt t next ≡ false = le-ltb t next (omega arith) in
        let at : (t == calls) ≡ true = eq-eqb t calls is in
        let before : nat_lt t (2 ^ 64 - 1) ≡ false = le-ltb t (2 ^ 64 - 1) (omega arith) in
        let past : nat_lt t calls ≡ false = le-ltb t calls (omega arith) in
        rw (below, at, before, past) refl
  ]

  earlier : (t : ℕ) → t < calls → goes_on true t
  earlier t lt =
      let below : nat_lt t next ≡ true = lt-ltb t next (omega arith) in
      let at : (t == calls) ≡ false = ne_eqb t calls (λ e. omega arith) in
      let past : nat_lt t calls ≡ true = lt-ltb t calls lt in
      rw (below, at, past) (same t (omega arith))

  after : (t : ℕ) → calls < t → goes_on true t
  after t lt =
      let below : nat_lt t next ≡ false = le-ltb t next (omega arith) in
      let at : (t == calls) ≡ false = ne_eqb t calls (λ e. omega arith) in
      let past : nat_lt t calls ≡ false = le-ltb t calls (omega arith) in
      rw (below, at, past) refl

  place : (k : Bool) → (IsTrue k → replayed first kept calls ≡ now) → (t : ℕ) → goes_on k t
  place false is_now t = refl
  place true is_now t = elim (cases_order t calls) [
    | inl is ↦ here t is refl (is_now refl)
    | inr other ↦ elim other [ inl lt ↦ earlier t lt | inr lt ↦ after t lt ]
  ]

  pub past_goes_on : past_of keeps next first later ≡ with_now keeps calls now first kept
  past_goes_on = λ i t. place keeps replays t i

-- before the first call there is no moment
pub past_of-none : (keeps : Bool) (first : Moment) (kept : List KeptCall) → past_of keeps 0 first kept ≡ (λ _. blank)
past_of-none keeps first kept = λ i t. place keeps t i
  where
    place : (k : Bool) (t : ℕ) → past_of k 0 first kept t ≡ blank
    place false t = refl
    place true t = let none : nat_lt t 0 ≡ false = le-ltb t 0 (omega arith) in rw none refl

-- at most eight
pub take-eight : (sizes : List ℕ) (n : ℕ) → n ≡ min (length sizes) 8 → take n sizes ≡ take 8 sizes
take-eight sizes n is = elim (cases_lt (length sizes) 8) [
  | inl lt ↦ take_all n sizes (omega arith) ∙ sym (take_all 8 sizes (omega arith))
  | inr le ↦ let eight : n ≡ 8 = omega arith in rw eight refl
]

-- no call is kept yet
pub AreUpTo-none : (n : ℕ) (calls : List KeptCall) → calls ≡ [] → AreUpTo n calls
AreUpTo-none n calls none k d lt = absurd (omega (arith, ap length none))

pub AreFit-none : (sizes : List ℕ) (calls : List KeptCall) → calls ≡ [] → AreFit sizes calls
AreFit-none sizes calls none k d lt = absurd (omega (arith, ap length none))

replayed-drop : (moment : Moment) (kept : List KeptCall) (i : ℕ) (call : KeptCall) (t : ℕ) → i < length kept → call ≡ get_or kept i call → replayed moment (drop i kept) t ≡ replayed (step moment call t) (drop (i + 1) kept) t
replayed-drop moment kept i call t lt read =
    ap (λ (l : List KeptCall). replayed moment l t) (drop_more kept i call lt ∙ ap (λ (c : KeptCall). c ∷ drop (i + 1) kept) (sym read))

-- a kept call up to t is made, and a later one is not
pub replayed-made : (moment : Moment) (kept : List KeptCall) (i : ℕ) (call : KeptCall) (t : ℕ) → i < length kept → call ≡ get_or kept i call → call.number ≤ t → replayed moment (drop i kept) t ≡ replayed (effect_on moment call.vol call.effect) (drop (i + 1) kept) t
replayed-made moment kept i call t lt read le = replayed-drop moment kept i call t lt read ∙ (let test : nat_le call.number t ≡ true = le-leb call.number t le in rw test refl)

pub replayed-passed : (moment : Moment) (kept : List KeptCall) (i : ℕ) (call : KeptCall) (t : ℕ) → i < length kept → call ≡ get_or kept i call → t < call.number → replayed moment (drop i kept) t ≡ replayed moment (drop (i + 1) kept) t
replayed-passed moment kept i call t lt read later = replayed-drop moment kept i call t lt read ∙ (let test : nat_le call.number t ≡ false = lt-leb call.number t later in rw test refl)

-- the moment after a call, from the kept calls
pub moment_at-replayed : (disk : Disk) (first : Moment) (kept : List KeptCall) (t : ℕ) → disk.past ≡ past_of true disk.calls first kept → replayed first kept disk.calls ≡ disk.now → t ≤ disk.calls → moment_at disk t ≡ replayed first kept t
moment_at-replayed disk first kept t past now le = elim (cases_lt t disk.calls) [
  | inl lt ↦
      let at : (t == disk.calls) ≡ false = ne_eqb t disk.calls (λ e. omega arith) in
      let before : nat_lt t disk.calls ≡ true = lt-ltb t disk.calls lt in
      rw at (ap (λ (p : ℕ → Moment). p t) past ∙ (rw before refl))
  | inr ge ↦
      let same : t ≡ disk.calls = omega arith in
      let at : (t == disk.calls) ≡ true = eq-eqb t disk.calls same in
      rw at (sym now ∙ ap (λ (n : ℕ). replayed first kept n) (sym same))
]
