-- The bytes that a word says in runs, and that a name says.
use Rattle.std.proofs.Common.{◌≡◌, ℕ, ◌+◌, ◌<◌, Bool, true, false, ◌&&◌, cond, eqb, leb, Option, Some, None, option_map, option_and_then, List, [], ◌∷◌, ◌++◌, length, refl, sym, ap, ◌∙◌, arith, append_assoc, length-append}
use Rattle.std.specs.List.{flat_map, slice_split}
use Rattle.std.proofs.lemmas.Bool.Decides.{nat_tests}
use Rattle.std.proofs.lemmas.List.{append-nil, length-replicate}
use Rattle.word_forms.specs.Forms.{each, limited, run_of, runs_of_word}
use Rattle.word_forms.specs.Runs.{Run, bytes_of_run}
use Rattle.word_forms.proofs.EachLemmas.{each-cons}

-- these bytes and those of the runs, if there are any
abbrev pub with_runs : List ℕ → Option (List Run) → Option (List ℕ)
with_runs front runs = option_map (λ rs. front ++ flat_map bytes_of_run rs) runs

pub runs-start : (word : List ℕ) → limited (runs_of_word word) ≡ limited (with_runs [] (each run_of (slice_split (λ b. eqb b 46) word)))
unfolding runs_of_word
runs-start word = ap limited (at (each run_of (slice_split (λ b. eqb b 46) word)))
  where
    at : (o : Option (List Run)) → option_and_then (λ rs. Some (flat_map bytes_of_run rs)) o ≡ with_runs [] o
    at None = refl
    at (Some rs) = refl

with_runs-push : (front : List ℕ) (r : Run) (o : Option (List Run)) → with_runs front (option_map (λ rs. r ∷ rs) o) ≡ with_runs (front ++ bytes_of_run r) o
with_runs-push front r None = refl
with_runs-push front r (Some rs) = ap Some (sym (append_assoc front (bytes_of_run r) (flat_map bytes_of_run rs)))

pub runs-more : (all : Option (List ℕ)) (front : List ℕ) (words : List (List ℕ)) (x : List ℕ) (xs : List (List ℕ)) (r : Run)
    → all ≡ limited (with_runs front (each run_of words)) → words ≡ x ∷ xs → run_of x ≡ Some r → all ≡ limited (with_runs (front ++ bytes_of_run r) (each run_of xs))
runs-more all front words x xs r is first here =
    is ∙ ap (λ ws. limited (with_runs front (each run_of ws))) first ∙ ap (λ o. limited (with_runs front o)) (each-cons run_of x xs r here)
    ∙ ap limited (with_runs-push front r (each run_of xs))

pub runs-none : (all : Option (List ℕ)) (front : List ℕ) (words : List (List ℕ)) (x : List ℕ) (xs : List (List ℕ))
    → all ≡ limited (with_runs front (each run_of words)) → words ≡ x ∷ xs → run_of x ≡ None → all ≡ None
runs-none all front words x xs is first here = is ∙ ap (λ ws. limited (with_runs front (each run_of ws))) first ∙ rw here refl

long : (front : List ℕ) (o : Option (List Run)) → 8_192 < length front → limited (with_runs front o) ≡ None
long front None more = refl
long front (Some rs) more =
    let bound : 8_192 < length (front ++ flat_map bytes_of_run rs) = omega (arith, length-append front (flat_map bytes_of_run rs)) in
    let test : leb (length (front ++ flat_map bytes_of_run rs)) 8_192 ≡ false = grind (arith, nat_tests) in
    rw test (at (leb 1 (length (front ++ flat_map bytes_of_run rs))))
  where
    at : (b : Bool) → cond (b && false) (Some (front ++ flat_map bytes_of_run rs)) None ≡ None
    at true = refl
    at false = refl

pub runs-long : (all : Option (List ℕ)) (front : List ℕ) (words : List (List ℕ)) (x : List ℕ) (xs : List (List ℕ)) (r : Run)
    → all ≡ limited (with_runs front (each run_of words)) → words ≡ x ∷ xs → run_of x ≡ Some r → 8_192 < length front + r.count → all ≡ None
runs-long all front words x xs r is first here more =
    runs-more all front words x xs r is first here
    ∙ long (front ++ bytes_of_run r) (each run_of xs) (omega (arith, length-append front (bytes_of_run r), length-replicate r.count r.byte))

pub runs-end : (all : Option (List ℕ)) (front : List ℕ) (words : List (List ℕ))
    → all ≡ limited (with_runs front (each run_of words)) → words ≡ [] → all ≡ limited (Some front)
runs-end all front words is none = is ∙ ap (λ ws. limited (with_runs front (each run_of ws))) none ∙ ap (λ bs. limited (Some bs)) (append-nil front)
