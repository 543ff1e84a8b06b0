-- The words of a line, one after another.
use Rattle.std.proofs.Common.{◌≡◌, ◌≢◌, ℕ, suc, zero, ◌+◌, ◌<◌, ◌≤◌, Bool, true, false, not, ◌&&◌, cond, List, [], ◌∷◌, ◌++◌, length, take, drop, slice_index, refl, ap, ◌∙◌, arith, ◌⊎◌, inl, inr}
use Rattle.std.specs.List.{list_any, onto_first, prefix_len}
use Rattle.std.proofs.lemmas.Bool.{cases_Bool, false≢true}
use Rattle.std.proofs.Math.Seq.{take-add, drop-drop}
use Rattle.std.proofs.lemmas.Bool.Decides.{nat_tests}
use Rattle.script_text.specs.Words.{Between, Within, Quoted, is_blank, is_quote, words_from, words_of}

pub one_more : (n : ℕ) → 1 + n ≡ suc n
one_more n = omega arith

-- how many bytes stand before the first that passes
abbrev pub before : (ℕ → Bool) → List ℕ → ℕ
before p bs = prefix_len (λ b. not (p b)) bs

pub before-stop : (p : ℕ → Bool) (b : ℕ) (bs : List ℕ) → p b ≡ true → before p (b ∷ bs) ≡ zero
before-stop p b bs e = rw e refl

pub before-more : (p : ℕ → Bool) (b : ℕ) (bs : List ℕ) → p b ≡ false → before p (b ∷ bs) ≡ suc (before p bs)
before-more p b bs e = rw e (one_more (before p bs))

-- one passes if and only if fewer stand before it than there are
pub any_within : (p : ℕ → Bool) (bs : List ℕ) → before p bs < length bs → list_any p bs ≡ true
any_within p [] some = absurd (omega (arith, some))
any_within p (b ∷ bs) some = elim (cases_Bool (p b)) [
  | inl holds ↦ rw holds refl
  | inr fails ↦ rw fails (any_within p bs (let h : suc (before p bs) < length (b ∷ bs) = rw (before-more p b bs fails) at some in omega (arith, h)))
]

pub none_within : (p : ℕ → Bool) (bs : List ℕ) → length bs ≤ before p bs → list_any p bs ≡ false
none_within p [] all = refl
none_within p (b ∷ bs) all = elim (cases_Bool (p b)) [
  | inl holds ↦ let h : length (b ∷ bs) ≤ zero = rw (before-stop p b bs holds) at all in absurd (omega (arith, h))
  | inr fails ↦ rw fails (none_within p bs (let h : length (b ∷ bs) ≤ suc (before p bs) = rw (before-more p b bs fails) at all in omega (arith, h)))
]

-- within a word, the word goes on up to the next blank
within-blank : (b : ℕ) (bs : List ℕ) → is_blank b ≡ true → words_from Within (b ∷ bs) ≡ [] ∷ words_from Between (b ∷ bs)
within-blank b bs e = rw (e) refl

within-more : (b : ℕ) (bs : List ℕ) → is_blank b ≡ false → words_from Within (b ∷ bs) ≡ onto_first b (words_from Within bs)
within-more b bs e = rw (e) refl

-- the rest of a word and the words after it
abbrev Goes : List ℕ → List ℕ → List (List ℕ)
Goes front rest = (front ++ take (before is_blank rest) rest) ∷ words_from Between (drop (before is_blank rest) rest)

within-goes : (bs : List ℕ) → words_from Within bs ≡ Goes [] bs
within-goes [] = refl
within-goes (b ∷ bs) = elim (cases_Bool (is_blank b)) [
  | inl holds ↦ rw (before-stop is_blank b bs holds) (within-blank b bs holds)
  | inr fails ↦ rw (before-more is_blank b bs fails) (within-more b bs fails ∙ ap (onto_first b) (within-goes bs))
]

-- within quotes, the word goes on after the next quote
quoted-goes : (bs : List ℕ) → list_any is_quote bs ≡ true → words_from Quoted bs ≡ Goes (take (suc (before is_quote bs)) bs) (drop (suc (before is_quote bs)) bs)
quoted-goes [] some = absurd (false≢true some)
quoted-goes (b ∷ bs) some = elim (cases_Bool (is_quote b)) [
  | inl holds ↦ rw (before-stop is_quote b bs holds) (rw holds (ap (onto_first b) (within-goes bs)))
  | inr fails ↦ rw (before-more is_quote b bs fails) (rw fails (ap (onto_first b) (quoted-goes bs (rw (fails) at some))))
]

-- how many bytes of a word are its own in any case
abbrev pub begun : ℕ → List ℕ → ℕ
begun b bs = cond (is_quote b && list_any is_quote bs) (before is_quote bs + 2) 1

two_more : (n : ℕ) → n + 2 ≡ suc (suc n)
two_more n = omega arith

and_right : (a b : Bool) → (a && b) ≡ true → b ≡ true
and_right true b e = e
and_right false b e = absurd (false≢true e)

first_goes : (b : ℕ) (bs : List ℕ) → is_blank b ≡ false → words_of (b ∷ bs) ≡ Goes (take (begun b bs) (b ∷ bs)) (drop (begun b bs) (b ∷ bs))
first_goes b bs word = elim (cases_Bool (is_quote b && list_any is_quote bs)) [
  | inl holds ↦ rw (word, holds, two_more (before is_quote bs)) (ap (onto_first b) (quoted-goes bs (and_right (is_quote b) (list_any is_quote bs) holds)))
  | inr fails ↦ rw (word, fails) (ap (onto_first b) (within-goes bs))
]

-- the first word and those after it
pub words_of-first : (text : List ℕ) (n : ℕ) → 0 < length text → is_blank (slice_index text 0) ≡ false → n ≡ cond (is_quote (slice_index text 0) && list_any is_quote (drop 1 text)) (before is_quote (drop 1 text) + 2) 1 →
    words_of text ≡ take (n + before is_blank (drop n text)) text ∷ words_of (drop (n + before is_blank (drop n text)) text)
words_of-first [] n some word e = absurd (omega (arith, some))
words_of-first (b ∷ bs) n some word e = rw (take-add n (before is_blank (drop n (b ∷ bs))) (b ∷ bs), ← drop-drop (before is_blank (drop n (b ∷ bs))) n (b ∷ bs), e) (first_goes b bs word)

pub begun-quoted : (first n : ℕ) (after : List ℕ) → first ≡ 34 → n ≡ before is_quote after → n < length after → n + 2 ≡ cond (is_quote first && list_any is_quote after) (before is_quote after + 2) 1
begun-quoted first n after quote e some = rw (quote, any_within is_quote after (rw (← e) some), e) refl

pub begun-plain : (first n : ℕ) (after : List ℕ) → n ≡ before is_quote after → ((first ≡ 34) × (length after ≤ n)) ⊎ (first ≢ 34) → 1 ≡ cond (is_quote first && list_any is_quote after) (before is_quote after + 2) 1
begun-plain first n after e (inl quote) = rw (quote.0, none_within is_quote after (rw (← e) quote.1)) refl
begun-plain first n after e (inr other) = let t : is_quote first ≡ false = grind (arith, nat_tests) in rw t refl

blanks-more : (b : ℕ) (bs : List ℕ) → is_blank b ≡ true → prefix_len is_blank (b ∷ bs) ≡ suc (prefix_len is_blank bs)
blanks-more b bs e = rw e (one_more (prefix_len is_blank bs))

blanks-stop : (b : ℕ) (bs : List ℕ) → is_blank b ≡ false → prefix_len is_blank (b ∷ bs) ≡ zero
blanks-stop b bs e = rw e refl

-- blanks before a word do not matter
pub words_of-blanks : (text : List ℕ) → words_of text ≡ words_of (drop (prefix_len is_blank text) text)
words_of-blanks [] = refl
words_of-blanks (b ∷ bs) = elim (cases_Bool (is_blank b)) [
  | inl holds ↦ rw (blanks-more b bs holds, holds) (words_of-blanks bs)
  | inr fails ↦ rw (blanks-stop b bs fails) refl
]

pub no_blank : (text : List ℕ) → 0 < length (drop (prefix_len is_blank text) text) → is_blank (slice_index (drop (prefix_len is_blank text) text) 0) ≡ false
no_blank [] some = absurd (omega (arith, some))
no_blank (b ∷ bs) some = elim (cases_Bool (is_blank b)) [
  | inl holds ↦ rw (blanks-more b bs holds) (no_blank bs (rw (blanks-more b bs holds) at some))
  | inr fails ↦ rw (blanks-stop b bs fails) fails
]
