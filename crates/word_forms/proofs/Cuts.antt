-- Parts, none of which has a byte, cut apart at that byte.
use Rattle.std.proofs.Common.{◌≡◌, ℕ, Bool, true, false, ◌&&◌, ◌||◌, not, eqb, List, [], ◌∷◌, ◌++◌, length, drop, take, refl, sym, ap, ◌∙◌, ◌+◌, arith, append_assoc, length-append}
use Rattle.std.specs.List.{list_all, list_any, flat_map, slice_split, onto_first, join_with_byte, before_first, after_first, position_or_len}
use Rattle.std.proofs.Math.Seq.{take-length}
use Rattle.std.proofs.lemmas.List.Splits.{length-slice_split}
use Rattle.std.proofs.lemmas.Bool.{eq-eqb}
use Rattle.std.proofs.lemmas.List.{append-nil, drop_at, take_at}
use Rattle.word_forms.proofs.Joined.{join_with_byte-cons}

pub both : (a b : Bool) → (a && b) ≡ true → (a ≡ true) × (b ≡ true)
both true b e = (refl, e)
both false b e = absurd (grind (arith, e))

pub no : (a : Bool) → not a ≡ true → a ≡ false
no true e = absurd (grind (arith, e))
no false e = refl

-- one test for another
pub weaker : {X : Type 0} (p q : X → Bool) → ((b : X) → p b ≡ true → q b ≡ true) → (bs : List X) → list_all p bs ≡ true → list_all q bs ≡ true
weaker p q f [] e = refl
weaker p q f (b ∷ bs) e = let h = both (p b) (list_all p bs) e in rw (f b h.0, weaker p q f bs h.1) refl

-- no byte of them is this one
abbrev pub lacks : ℕ → List ℕ → Bool
lacks c bs = list_all (λ b. not (eqb b c)) bs

cut : (c : ℕ) (part rest : List ℕ) → lacks c part ≡ true → slice_split (λ b. eqb b c) (part ++ c ∷ rest) ≡ part ∷ slice_split (λ b. eqb b c) rest
cut c [] rest e = rw (eq-eqb c c refl) refl
cut c (b ∷ part) rest e = let h = both (not (eqb b c)) (lacks c part) e in rw (no (eqb b c) h.0, cut c part rest h.1) refl

pub uncut : (c : ℕ) (part : List ℕ) → lacks c part ≡ true → slice_split (λ b. eqb b c) part ≡ part ∷ []
uncut c [] e = refl
uncut c (b ∷ part) e = let h = both (not (eqb b c)) (lacks c part) e in rw (no (eqb b c) h.0, uncut c part h.1) refl

pub cut_parts : (c : ℕ) (part : List ℕ) (parts : List (List ℕ)) → lacks c part ≡ true → list_all (lacks c) parts ≡ true
    → slice_split (λ b. eqb b c) (part ++ flat_map (λ p. c ∷ p) parts) ≡ part ∷ parts
cut_parts c part [] e es = rw (append-nil part) (uncut c part e)
cut_parts c part (next ∷ parts) e es =
    let h = both (lacks c next) (list_all (lacks c) parts) es in
    cut c part (next ++ flat_map (λ p. c ∷ p) parts) e ∙ ap (λ ps. part ∷ ps) (cut_parts c next parts h.0 h.1)

pub cut_joined : (c : ℕ) (part : List ℕ) (parts : List (List ℕ)) → lacks c part ≡ true → list_all (lacks c) parts ≡ true
    → slice_split (λ b. eqb b c) (join_with_byte c (part ∷ parts)) ≡ part ∷ parts
cut_joined c part parts e es = ap (slice_split (λ b. eqb b c)) (join_with_byte-cons c part parts) ∙ cut_parts c part parts e es

first_at : {X : Type 0} (p : X → Bool) (front : List X) (y : X) (back : List X) → list_all (λ x. not (p x)) front ≡ true → p y ≡ true
    → position_or_len p (front ++ y ∷ back) ≡ length front
first_at p [] y back e is = rw is refl
first_at p (x ∷ front) y back e is =
    let h = both (not (p x)) (list_all (λ x. not (p x)) front) e in
    rw (no (p x) h.0) (omega (arith, first_at p front y back h.1 is))

-- what stands before the first element that passes, and after it
pub before_at : {X : Type 0} (p : X → Bool) (front : List X) (y : X) (back : List X) → list_all (λ x. not (p x)) front ≡ true → p y ≡ true
    → before_first p (front ++ y ∷ back) ≡ front
before_at p front y back e is = take_at front (y ∷ back) (position_or_len p (front ++ y ∷ back)) (sym (first_at p front y back e is))

pub after_at : {X : Type 0} (p : X → Bool) (front : List X) (y : X) (back : List X) → list_all (λ x. not (p x)) front ≡ true → p y ≡ true
    → after_first p (front ++ y ∷ back) ≡ back
after_at p front y back e is =
    ap (drop (position_or_len p (front ++ y ∷ back) + 1)) (sym (append_assoc front (y ∷ []) back))
    ∙ drop_at (front ++ y ∷ []) back (position_or_len p (front ++ y ∷ back) + 1)
    (length-append front (y ∷ []) ∙ omega (arith, first_at p front y back e is))

-- the same of a byte
pub before : (c : ℕ) (front back : List ℕ) → lacks c front ≡ true → before_first (λ b. eqb b c) (front ++ c ∷ back) ≡ front
before c front back e = before_at (λ b. eqb b c) front c back e (eq-eqb c c refl)

pub after : (c : ℕ) (front back : List ℕ) → lacks c front ≡ true → after_first (λ b. eqb b c) (front ++ c ∷ back) ≡ back
after c front back e = after_at (λ b. eqb b c) front c back e (eq-eqb c c refl)

-- a text in which a byte is not has no first one
pub all_before : (c : ℕ) (text : List ℕ) → lacks c text ≡ true → before_first (λ b. eqb b c) text ≡ text
all_before c text e = take_all_at (position_or_len (λ b. eqb b c) text) text (all_at text e)
  where
    all_at : (bs : List ℕ) → lacks c bs ≡ true → position_or_len (λ b. eqb b c) bs ≡ length bs
    all_at [] h = refl
    all_at (b ∷ bs) h = let k = both (not (eqb b c)) (lacks c bs) h in rw (no (eqb b c) k.0) (omega (arith, all_at bs k.1))

    take_all_at : (n : ℕ) (bs : List ℕ) → n ≡ length bs → take n bs ≡ bs
    take_all_at n bs h = rw h (take-length bs)

pub lacks-list_any : (c : ℕ) (text : List ℕ) → lacks c text ≡ true → list_any (λ b. eqb b c) text ≡ false
lacks-list_any c [] e = refl
lacks-list_any c (b ∷ text) e = let h = both (not (eqb b c)) (lacks c text) e in rw (no (eqb b c) h.0, lacks-list_any c text h.1) refl

pub list_any-mid : (c : ℕ) (front back : List ℕ) → list_any (λ b. eqb b c) (front ++ c ∷ back) ≡ true
list_any-mid c [] back = rw (eq-eqb c c refl) refl
list_any-mid c (b ∷ front) back = at (eqb b c) (list_any-mid c front back)
  where
    at : (t : Bool) → list_any (λ x. eqb x c) (front ++ c ∷ back) ≡ true → (t || list_any (λ x. eqb x c) (front ++ c ∷ back)) ≡ true
    at true h = refl
    at false h = h

-- the parts of a text are those before and those after an element at which it is cut
pub cut_two : {X : Type 0} (p : X → Bool) (xs : List X) (y : X) (ys : List X) → p y ≡ true → slice_split p (xs ++ y ∷ ys) ≡ slice_split p xs ++ slice_split p ys
cut_two p [] y ys is = rw is refl
cut_two {X} p (x ∷ xs) y ys is = at (p x) refl (cut_two p xs y ys is)
  where
    more : (parts : List (List X)) → slice_split p xs ≡ parts → onto_first x (parts ++ slice_split p ys) ≡ onto_first x parts ++ slice_split p ys
    more [] none = absurd (omega (arith, length-slice_split p xs, ap length none))
    more (part ∷ parts) some = refl

    at : (t : Bool) → p x ≡ t → slice_split p (xs ++ y ∷ ys) ≡ slice_split p xs ++ slice_split p ys
        → slice_split p (x ∷ (xs ++ y ∷ ys)) ≡ slice_split p (x ∷ xs) ++ slice_split p ys
    at true e rest = rw (e, rest) refl
    at false e rest = rw (e, rest) (more (slice_split p xs) refl)
