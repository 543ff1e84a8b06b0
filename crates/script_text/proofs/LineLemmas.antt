-- The lines of a text, one after another.
use Rattle.std.proofs.Common.{◌≡◌, ℕ, suc, zero, ◌+◌, ◌<◌, Bool, false, ◌==◌, List, [], ◌∷◌, length, take, drop, ◌-◌, eqb, refl, ap, ◌∙◌, arith, inl, inr}
use Rattle.std.specs.List.{onto_first, slice_split}
use Rattle.std.proofs.lemmas.Grind.{common_steps}
use Rattle.std.proofs.lemmas.Bool.{cases_Bool}
use Rattle.std.proofs.lemmas.Bool.Decides.{nat_tests}
use Rattle.std.proofs.Math.Seq.{drop-drop}
use Rattle.std.specs.Str.Lines.{lines, lines_of_parts, strip_carriage_return}
use Rattle.script_text.proofs.WordLemmas.{before, before-stop, before-more}

-- where none passes, the list is the one part
split-none : (p : ℕ → Bool) (xs : List ℕ) → length (drop (before p xs) xs) ≡ 0 → slice_split p xs ≡ xs ∷ []
split-none p [] e = refl
split-none p (x ∷ xs) e = elim (cases_Bool (p x)) [
  | inl holds ↦ absurd (let h : length (x ∷ xs) ≡ 0 = rw (before-stop p x xs holds) at e in omega (arith, h))
  | inr fails ↦ rw fails (ap (onto_first x) (split-none p xs (rw (before-more p x xs fails) at e)))
]

-- else the first part ends at the first that passes
split-some : (p : ℕ → Bool) (xs : List ℕ) → 0 < length (drop (before p xs) xs) → slice_split p xs ≡ take (before p xs) xs ∷ slice_split p (drop 1 (drop (before p xs) xs))
split-some p [] some = absurd (omega (arith, some))
split-some p (x ∷ xs) some = elim (cases_Bool (p x)) [
  | inl holds ↦ rw (before-stop p x xs holds) (rw holds refl)
  | inr fails ↦ rw (before-more p x xs fails) (rw fails (ap (onto_first x) (split-some p xs (rw (before-more p x xs fails) at some))))
]

take-none : (n : ℕ) (xs : List ℕ) → length (drop n xs) ≡ 0 → take n xs ≡ xs
take-none zero [] e = refl
take-none zero (x ∷ xs) e = absurd (omega (arith, e))
take-none (suc n) [] e = refl
take-none (suc n) (x ∷ xs) e = ap (λ ys. x ∷ ys) (take-none n xs e)

drop-none : (n : ℕ) (xs : List ℕ) → length (drop n xs) ≡ 0 → drop n xs ≡ []
drop-none zero [] e = refl
drop-none zero (x ∷ xs) e = absurd (omega (arith, e))
drop-none (suc n) [] e = refl
drop-none (suc n) (x ∷ xs) e = drop-none n xs e

-- a last line without a newline
pub lines-last : (text : List ℕ) (n : ℕ) → 0 < length text → n ≡ before (λ b. b == 10) text → length (drop n text) ≡ 0 → lines text ≡ take n text ∷ lines (drop n text)
lines-last text n some e none =
    let t : eqb (length text) 0 ≡ false = grind (arith, nat_tests) in
    rw (take-none n text none, drop-none n text none)
    (ap lines_of_parts (split-none (λ b. b == 10) text (rw e at none)) ∙ rw t refl)

-- parts are never none
first_part : (p : ℕ → Bool) (xs : List ℕ) → (part : List ℕ) × (parts : List (List ℕ)) × (slice_split p xs ≡ part ∷ parts)
first_part p [] = ([], [], refl)
first_part p (x ∷ xs) =
    let h = first_part p xs in
    elim (cases_Bool (p x)) [
      | inl holds ↦ ([], slice_split p xs, rw holds refl)
      | inr fails ↦ (x ∷ h.0, h.1, rw (fails, h.2) refl)
    ]

lines_of_parts-cons : (line : List ℕ) (parts : List (List ℕ)) (part : List ℕ) (more : List (List ℕ)) → parts ≡ part ∷ more → lines_of_parts (line ∷ parts) ≡ strip_carriage_return line ∷ lines_of_parts parts
lines_of_parts-cons line parts part more e = rw e refl

-- a line with its newline
pub lines-first : (text : List ℕ) (n : ℕ) → n ≡ before (λ b. b == 10) text → 0 < length (drop n text) → lines text ≡ strip_carriage_return (take n text) ∷ lines (drop 1 (drop n text))
lines-first text n e some =
    let h = first_part (λ b. b == 10) (drop 1 (drop n text)) in
    let parts : slice_split (λ b. b == 10) text ≡ take n text ∷ slice_split (λ b. b == 10) (drop 1 (drop n text)) =
    rw e (split-some (λ b. b == 10) text (rw e at some)) in
    ap lines_of_parts parts
    ∙ lines_of_parts-cons (take n text) (slice_split (λ b. b == 10) (drop 1 (drop n text))) h.0 h.1 h.2

pub behind_first : (xs : List ℕ) → take (length xs - 1) (drop 1 xs) ≡ drop 1 xs
behind_first xs = grind (arith, common_steps)

pub behind_next : (n : ℕ) (xs : List ℕ) → take (length (drop n xs) - 1) (drop 1 (drop n xs)) ≡ drop (n + 1) xs
behind_next n xs = behind_first (drop n xs) ∙ drop-drop 1 n xs

pub behind_none : (n : ℕ) (xs : List ℕ) → length (drop n xs) ≡ 0 → drop n xs ≡ drop (n + 1) xs
behind_none n xs e = rw (← drop-drop 1 n xs, drop-none n xs e) refl
