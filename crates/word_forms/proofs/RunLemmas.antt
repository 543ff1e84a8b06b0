-- Runs of equal bytes: the first one, and that they are the maximal ones.
use Rattle.std.proofs.Common.{◌≡◌, ◌≢◌, ℕ, suc, zero, ◌+◌, ◌<◌, false, eqb, List, [], ◌∷◌, ◌++◌, length, drop, slice_index, replicate, map, refl, sym, ap, ◌∙◌, arith, append_assoc, add-one, ◌⊎◌, inl, inr}
use Rattle.std.specs.List.{flat_map, join_with_byte, prefix_len}
use Rattle.std.proofs.lemmas.Bool.Decides.{nat_tests}
use Rattle.std.proofs.lemmas.Bool.{eq-eqb}
use Rattle.std.proofs.lemmas.List.{append-nil}
use Rattle.word_forms.proofs.Joined.{join_with_byte-cons, flat_map-map}
use Rattle.word_forms.specs.Runs.{Run, with_byte, runs_of, bytes_of_run, AreMaximal, IsRunLengthForm, run_text, bytes_text}

-- a run
abbrev run : ℕ → ℕ → Run
run b n = record { byte = b; count = n }

neq-eqb : (a b : ℕ) → a ≢ b → eqb a b ≡ false
neq-eqb a b ne = grind (arith, nat_tests)

same_or_not : (a b : ℕ) → (a ≡ b) ⊎ (a ≢ b)
same_or_not a b = grind (arith, nat_tests)

-- a byte before a run of the same byte, or of another
with_byte-same : (b x n : ℕ) (runs : List Run) → b ≡ x → with_byte b (run x n ∷ runs) ≡ run x (n + 1) ∷ runs
with_byte-same b x n runs e = rw (eq-eqb b x e) refl

with_byte-other : (b x n : ℕ) (runs : List Run) → b ≢ x → with_byte b (run x n ∷ runs) ≡ run b 1 ∷ run x n ∷ runs
with_byte-other b x n runs e = rw (neq-eqb b x e) refl

-- how many bytes equal to b stand at the front
abbrev pub front : ℕ → List ℕ → ℕ
front b bytes = prefix_len (λ x. eqb x b) bytes

front-same : (x b : ℕ) (bytes : List ℕ) → x ≡ b → front b (x ∷ bytes) ≡ suc (front b bytes)
front-same x b bytes e = rw (eq-eqb x b e) (omega arith)

front-other : (x b : ℕ) (bytes : List ℕ) → x ≢ b → front b (x ∷ bytes) ≡ zero
front-other x b bytes e = rw (neq-eqb x b e) refl

-- the first run takes in all bytes equal to the first at the front
pub runs_of-front : (bytes : List ℕ) (b : ℕ) → runs_of (b ∷ bytes) ≡ run b (front b bytes + 1) ∷ runs_of (drop (front b bytes) bytes)
runs_of-front [] b = refl
runs_of-front (x ∷ bytes) b = elim (same_or_not x b) [
  | inl same ↦ rw (front-same x b bytes same, runs_of-front bytes x, with_byte-same b x (front x bytes + 1) (runs_of (drop (front x bytes) bytes)) (sym same), same) (simp add-one)
  | inr other ↦ rw (front-other x b bytes other, runs_of-front bytes x, with_byte-other b x (front x bytes + 1) (runs_of (drop (front x bytes) bytes)) (λ e. other (sym e))) refl
]

pub runs_of-first : (bytes : List ℕ) → 0 < length bytes → runs_of bytes ≡ run (slice_index bytes 0) (front (slice_index bytes 0) bytes) ∷ runs_of (drop (front (slice_index bytes 0) bytes) bytes)
runs_of-first [] some = absurd (omega (arith, some))
runs_of-first (b ∷ bytes) some = rw (front-same b b bytes refl) (runs_of-front bytes b ∙ simp add-one)

-- runs stay maximal with one byte more in front
AreMaximal-with_byte : (b : ℕ) (runs : List Run) → AreMaximal runs → AreMaximal (with_byte b runs)
AreMaximal-with_byte b [] h = omega arith
AreMaximal-with_byte b (r ∷ []) h = elim (same_or_not b r.byte) [
  | inl same ↦ rw (with_byte-same b r.byte r.count [] same) (omega (arith, h))
  | inr other ↦ rw (with_byte-other b r.byte r.count [] other) (omega arith, other, h)
]
AreMaximal-with_byte b (r ∷ next ∷ runs) h = elim (same_or_not b r.byte) [
  | inl same ↦ rw (with_byte-same b r.byte r.count (next ∷ runs) same) (omega arith, h.1, h.2)
  | inr other ↦ rw (with_byte-other b r.byte r.count (next ∷ runs) other) (omega arith, other, h)
]

AreMaximal-runs_of : (bytes : List ℕ) → AreMaximal (runs_of bytes)
AreMaximal-runs_of [] = tt
AreMaximal-runs_of (b ∷ bytes) = AreMaximal-with_byte b (runs_of bytes) (AreMaximal-runs_of bytes)

-- the bytes of the runs, with one byte more in front
bytes-with_byte : (b : ℕ) (runs : List Run) → flat_map bytes_of_run (with_byte b runs) ≡ b ∷ flat_map bytes_of_run runs
bytes-with_byte b [] = refl
bytes-with_byte b (r ∷ runs) = elim (same_or_not b r.byte) [
  | inl same ↦ rw (with_byte-same b r.byte r.count runs same, add-one, same) refl
  | inr other ↦ rw (with_byte-other b r.byte r.count runs other) refl
]

bytes-runs_of : (bytes : List ℕ) → flat_map bytes_of_run (runs_of bytes) ≡ bytes
bytes-runs_of [] = refl
bytes-runs_of (b ∷ bytes) = bytes-with_byte b (runs_of bytes) ∙ ap (λ xs. b ∷ xs) (bytes-runs_of bytes)

pub runs_of_is_form : (bytes : List ℕ) → IsRunLengthForm bytes (runs_of bytes)
runs_of_is_form bytes = (AreMaximal-runs_of bytes, bytes-runs_of bytes)

-- the runs are none, or begin with another byte
abbrev BeginsOtherwise : ℕ → List Run → Type 0
BeginsOtherwise b [] = Unit {0}
BeginsOtherwise b (r ∷ runs) = b ≢ r.byte

runs_of-replicate : (n b : ℕ) (bytes : List ℕ) (runs : List Run) → runs_of bytes ≡ runs → BeginsOtherwise b runs → runs_of (replicate (suc n) b ++ bytes) ≡ run b (suc n) ∷ runs
runs_of-replicate zero b bytes [] e h = rw e refl
runs_of-replicate zero b bytes (r ∷ runs) e h = rw e (with_byte-other b r.byte r.count runs h)
runs_of-replicate (suc n) b bytes runs e h = ap (with_byte b) (runs_of-replicate n b bytes runs e h) ∙ with_byte-same b b (suc n) runs refl ∙ rw add-one refl

runs_of-run : (n b : ℕ) (bytes : List ℕ) (runs : List Run) → 0 < n → runs_of bytes ≡ runs → BeginsOtherwise b runs → runs_of (replicate n b ++ bytes) ≡ run b n ∷ runs
runs_of-run zero b bytes runs some e h = absurd (omega (arith, some))
runs_of-run (suc n) b bytes runs some e h = runs_of-replicate n b bytes runs e h

runs_of-form : (runs : List Run) → AreMaximal runs → runs_of (flat_map bytes_of_run runs) ≡ runs
runs_of-form [] h = refl
runs_of-form (r ∷ []) h = runs_of-run r.count r.byte [] [] h refl tt
runs_of-form (r ∷ next ∷ runs) h =
    runs_of-run r.count r.byte (flat_map bytes_of_run (next ∷ runs)) (next ∷ runs) h.0 (runs_of-form (next ∷ runs) h.2) h.1

pub runs_of_is_only : (bytes : List ℕ) (runs : List Run) → IsRunLengthForm bytes runs → runs ≡ runs_of bytes
runs_of_is_only bytes runs h = sym (runs_of-form runs h.0) ∙ ap runs_of h.1

-- each run after a dot
unfoldable pub dotted : List Run → List ℕ
dotted runs = flat_map (λ r. 46 ∷ run_text r) runs

pub dotted-cons : (r : Run) (runs : List Run) → dotted (r ∷ runs) ≡ (46 ∷ run_text r) ++ dotted runs
unfolding dotted
dotted-cons r runs = refl

join-dotted : (r : Run) (runs : List Run) → join_with_byte 46 (map run_text (r ∷ runs)) ≡ run_text r ++ dotted runs
unfolding dotted
join-dotted r runs = join_with_byte-cons 46 (run_text r) (map run_text runs) ∙ ap (λ xs. run_text r ++ xs) (flat_map-map (λ p. 46 ∷ p) run_text runs)

-- bytes are written as their first run, and then each other one after a dot
pub bytes_text-runs : (bytes : List ℕ) (r : Run) (runs : List Run) → 0 < length bytes → runs_of bytes ≡ r ∷ runs → bytes_text bytes ≡ run_text r ++ dotted runs
unfolding bytes_text
bytes_text-runs [] r runs h e = absurd (omega (arith, h))
bytes_text-runs (b ∷ bytes) r runs h e = rw e (join-dotted r runs)

pub bytes_text-none : (bytes : List ℕ) → length bytes ≡ 0 → bytes_text bytes ≡ 45 ∷ []
unfolding bytes_text
bytes_text-none [] e = refl
bytes_text-none (b ∷ bytes) e = absurd (omega (arith, e))

-- one more run was written
pub dotted-step : (out behind_dot next rest after total : List ℕ) (r : Run) → out ++ dotted (runs_of rest) ≡ total → behind_dot ≡ out ++ 46 ∷ [] → next ≡ behind_dot ++ run_text r → runs_of rest ≡ r ∷ runs_of after → next ++ dotted (runs_of after) ≡ total
unfolding dotted
dotted-step out behind_dot next rest after total r before dot more runs =
    rw (more, dot, append_assoc, append_assoc) (ap (λ rs. out ++ flat_map (λ x. 46 ∷ run_text x) rs) (sym runs) ∙ before)

-- the first run was written
pub dotted-start : (start out bytes after : List ℕ) (r : Run) → 0 < length bytes → out ≡ start ++ run_text r → runs_of bytes ≡ r ∷ runs_of after → out ++ dotted (runs_of after) ≡ start ++ bytes_text bytes
dotted-start start out bytes after r some first runs =
    rw (first, append_assoc) (ap (λ xs. start ++ xs) (sym (bytes_text-runs bytes r (runs_of after) some runs)))

pub dotted-end : (out rest total : List ℕ) → length rest ≡ 0 → out ++ dotted (runs_of rest) ≡ total → out ≡ total
unfolding dotted
dotted-end out [] total e h = sym (append-nil out) ∙ h
dotted-end out (b ∷ rest) total e h = absurd (omega (arith, e))
