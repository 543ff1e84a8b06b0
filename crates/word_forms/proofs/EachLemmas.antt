-- The meanings of elements, one after another.
use Rattle.std.proofs.Common.{◌≡◌, ℕ, suc, ◌+◌, ◌<◌, Option, Some, None, option_map, option_and_then, List, [], ◌∷◌, ◌++◌, map, length, drop, get_or, refl, sym, ap, ◌∙◌, append_assoc, drop-cons, add-one}
use Rattle.std.proofs.lemmas.List.{append-nil}
use Rattle.word_forms.specs.Forms.{each}

pub each-cons : {A B : Type 0} (f : A → Option B) (x : A) (xs : List A) (y : B) → f x ≡ Some y → each f (x ∷ xs) ≡ option_map (λ ys. y ∷ ys) (each f xs)
each-cons {A} {B} f x xs y is = rw is (at (each f xs))
  where
    at : (o : Option (List B)) → option_and_then (λ ys. Some (y ∷ ys)) o ≡ option_map (λ ys. y ∷ ys) o
    at None = refl
    at (Some ys) = refl

-- what these and the rest mean together, if the rest has a meaning
abbrev pub behind : {B : Type 0} → List B → Option (List B) → Option (List B)
behind front more = option_map (λ ys. front ++ ys) more

pub behind-nil : {B : Type 0} (o : Option (List B)) → o ≡ behind [] o
behind-nil None = refl
behind-nil (Some ys) = refl

pub behind-push : {B : Type 0} (front : List B) (y : B) (o : Option (List B)) → behind front (option_map (λ ys. y ∷ ys) o) ≡ behind (front ++ y ∷ []) o
behind-push front y None = refl
behind-push front y (Some ys) = ap Some (sym (append_assoc front (y ∷ []) ys))

-- the rest of a list of words, from one of them on
pub words-next : {W A : Type 0} (f : W → A) (words : List W) (i : ℕ) (word : W) → i < length words → word ≡ get_or words i word
    → map f (drop i words) ≡ f word ∷ map f (drop (i + 1) words)
words-next f words i word within here =
    ap (map f) (drop-cons words i word within) ∙ ap (λ w. f w ∷ map f (drop (suc i) words)) (sym here)
    ∙ ap (λ n. f word ∷ map f (drop n words)) (sym (add-one i))

pub each-more : {A B : Type 0} (f : A → Option B) (all : Option (List B)) (front : List B) (words : List A) (x : A) (xs : List A) (y : B)
    → all ≡ behind front (each f words) → words ≡ x ∷ xs → f x ≡ Some y → all ≡ behind (front ++ y ∷ []) (each f xs)
each-more f all front words x xs y is first here =
    is ∙ ap (λ ws. behind front (each f ws)) first ∙ ap (behind front) (each-cons f x xs y here) ∙ behind-push front y (each f xs)

pub each-none : {A B : Type 0} (f : A → Option B) (all : Option (List B)) (front : List B) (words : List A) (x : A) (xs : List A)
    → all ≡ behind front (each f words) → words ≡ x ∷ xs → f x ≡ None → all ≡ None
each-none f all front words x xs is first here = is ∙ ap (λ ws. behind front (each f ws)) first ∙ rw here refl

pub each-end : {A B : Type 0} (f : A → Option B) (all : Option (List B)) (front : List B) (words : List A)
    → all ≡ behind front (each f words) → words ≡ [] → all ≡ Some front
each-end f all front words is none = is ∙ ap (λ ws. behind front (each f ws)) none ∙ ap Some (append-nil front)
