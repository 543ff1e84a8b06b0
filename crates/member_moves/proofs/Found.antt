-- What a search over the volumes has found of the first ones.
use Rattle.std.proofs.Common.{◌≡◌, ◌∙◌, ◌≢◌, ◌⊎◌, inl, inr, ℕ, ◌+◌, ◌<◌, ◌≤◌, List, length, get_or, Option, Some, None, IfNone, IfSome, IsTrue, Bool, false, arith, refl, sym, subst}
use Rattle.std.proofs.lemmas.Bool.{cases_lt, true≢false}
use Rattle.std.proofs.lemmas.List.{get_or_read_under}
use Rattle.std.proofs.lemmas.List.Elements.{All-contains}
use Rattle.member_moves.proofs.Shares.{precedes_itself, precedes_trans}
use Rattle.member_moves.specs.Balance.{AreCounts, IsAtEnd, IsOpenOf, NoneIsOpen, Precedes}
use Rattle.member_moves.specs.declared.balance.End.{End}
use Rattle.member_moves.specs.declared.balance.End.TheVariants.{Fullest, Emptiest}
use Rattle.member_moves.specs.declared.counts.VolCount.{VolCount}

-- no volume below n is open, or this one is taken before each that is
abbrev pub IsFound : End → List VolCount → ℕ → Option VolCount → Type 0
IsFound end counts n None = (k : ℕ) (d : VolCount) → k < n → (get_or counts k d).closed ≢ false
IsFound end counts n (Some c) =
    IsOpenOf counts c
    × ((k : ℕ) (d : VolCount) → k < n → (get_or counts k d).closed ≡ false
    → Precedes end c (get_or counts k d))

-- what holds below n and of the element at n holds below n + 1
below_more : (P : VolCount → Type 0) (xs : List VolCount) (n : ℕ) (x : VolCount)
    → n < length xs → x ≡ get_or xs n x → P x
    → ((k : ℕ) (d : VolCount) → k < n → P (get_or xs k d))
    → (k : ℕ) (d : VolCount) → k < n + 1 → P (get_or xs k d)
below_more P xs n x within is holds below k d less =
    by (cases_lt k n)
  where
    by : (k < n) ⊎ (n ≤ k) → P (get_or xs k d)
    by (inl before) = below k d before
    by (inr behind) =
        let e : k ≡ n = omega arith in
        rw e (subst P (get_or_read_under xs n (length xs) x d is within refl) holds)

-- an open volume has a page
pub size_of : (counts : List VolCount) (c : VolCount) → AreCounts counts → IsOpenOf counts c → 1 ≤ c.pages
size_of counts c sound there =
    All-contains (λ (d : VolCount). 1 ≤ d.pages) counts c sound.sized there.there

-- what was found of all is taken before each open one
precedes_open : (end : End) (counts : List VolCount) (c : VolCount)
    → IsFound end counts (length counts) (Some c)
    → (d : VolCount) → IsOpenOf counts d → Precedes end c d
precedes_open end counts c found d there =
    let at = there.there in
    let open_one : (get_or counts at.0 d).closed ≡ false =
    subst (λ (y : VolCount). y.closed ≡ false) (sym at.2) there.is_open in
    subst (Precedes end c) at.2 (found.1 at.0 d at.1 open_one)

-- a closed volume is passed over
pub found_closed : (end : End) (counts : List VolCount) (n : ℕ) (x : VolCount)
    → (found : Option VolCount) → n < length counts → x ≡ get_or counts n x
    → IsFound end counts n found → x.closed ≢ false → IsFound end counts (n + 1) found
found_closed end counts n x None within is below closed =
    below_more (λ c. c.closed ≢ false) counts n x within is
    closed below
found_closed end counts n x (Some f) within is below closed = (
  below.0,
  below_more (λ c. c.closed ≡ false → Precedes end f c) counts n x within is
      (λ open_one. absurd (closed open_one)) below.1,
)

-- and so is one after the one that was found
pub found_behind : (end : End) (counts : List VolCount) (n : ℕ) (x : VolCount)
    → (found : Option VolCount) → n < length counts → x ≡ get_or counts n x
    → IsFound end counts n found → IfSome found (λ f. Precedes end f x)
    → (before : Bool) → before ≡ false → IfNone found (IsTrue before)
    → IsFound end counts (n + 1) found
found_behind end counts n x None within is below behind before not none =
    absurd (true≢false (sym none ∙ not))
found_behind end counts n x (Some f) within is below behind before not none = (
  below.0,
  below_more (λ c. c.closed ≡ false → Precedes end f c) counts n x within is
      (λ _. behind) below.1,
)

-- an open one before it takes its place
pub found_before : (end : End) (counts : List VolCount) (n : ℕ) (x : VolCount)
    → (found : Option VolCount) → AreCounts counts → n < length counts → x ≡ get_or counts n x
    → IsFound end counts n found → x.closed ≡ false → IfSome found (Precedes end x)
    → IsFound end counts (n + 1) (Some x)
found_before end counts n x None sound within is below open_one before = (
  record { there = (n, within, sym is); is_open = open_one },
  below_more (λ c. c.closed ≡ false → Precedes end x c) counts n x within is
      (λ _. precedes_itself end x) (λ k d less is_open. absurd (below k d less is_open)),
)
found_before end counts n x (Some f) sound within is below open_one before =
    let there : IsOpenOf counts x = record { there = (n, within, sym is); is_open = open_one } in
    let px = size_of counts x sound there in
    let pf = size_of counts f sound below.0 in (
      there,
      below_more (λ c. c.closed ≡ false → Precedes end x c) counts n x within is
          (λ _. precedes_itself end x)
          (λ k d less is_open. precedes_trans end x f (get_or counts k d) px pf
          (sound.sized k d (omega arith)) before (below.1 k d less is_open)),
    )

-- at the end the volume that was found is the first of all
pub found_all : (end : End) (counts : List VolCount) (n : ℕ) (found : Option VolCount)
    → n ≡ length counts → IsFound end counts n found → IfSome found (IsAtEnd end counts)
found_all end counts n None all found = tt
found_all end counts n (Some c) all found =
    at_end end (precedes_open end counts c
    (subst (λ (m : ℕ). IsFound end counts m (Some c)) all found))
  where
    at_end : (e : End) → ((d : VolCount) → IsOpenOf counts d → Precedes e c d) → IsAtEnd e counts c
    at_end Fullest before = record {
      open_volume = found.0;
      greatest = λ d there. (before d there).0;
      first = λ d there. (before d there).1;
    }
    at_end Emptiest before = record {
      open_volume = found.0;
      least = λ d there. (before d there).0;
      first = λ d there. (before d there).1;
    }

-- and where none was found, none is open
pub none_found : (end : End) (counts : List VolCount) (n : ℕ) (found : Option VolCount)
    → n ≡ length counts → IsFound end counts n found → IfNone found (NoneIsOpen counts)
none_found end counts n (Some c) all found = tt
none_found end counts n None all found = λ c there.
    let at = there.there in
    found at.0 c (subst (λ (m : ℕ). at.0 < m) (sym all) at.1)
    (subst (λ (y : VolCount). y.closed ≡ false) (sym at.2) there.is_open)
