-- What a word was read as is of the form of its words.
use Rattle.std.proofs.Common.{◌≡◌, ℕ, ◌+◌, ◌*◌, ◌-◌, ◌<◌, ◌≤◌, ◌^◌, Bool, true, false, ◌&&◌, not, cond, eqb, leb, ltb, Option, Some, None, option_map, option_and_then, List, [], ◌∷◌, length, take, drop, get_or, bytes_eq, replicate, suc, zero, codes, refl, subst, ◌∙◌, arith}
use Rattle.std.specs.List.{list_all, flat_map, before_first, after_first, slice_split}
use Rattle.std.specs.Char.{is_ascii_digit}
use Rattle.std.specs.Str.Parse.{digits_value}
use Rattle.std.proofs.lemmas.Bool.Decides.{nat_tests}
use Rattle.std.proofs.lemmas.List.Folds.{list_all-append}
use Rattle.std.proofs.lemmas.Option.{cond_some, option_and_then_some}
use Rattle.fileset_values.specs.declared.command.Place.{Place}
use Rattle.word_forms.specs.Forms.{Spelling, Begins, Percent, Digit, byte_of, bytes_from, bytes_of, each, fileset_of, has_length, hexadecimal_digit, is_escaped, is_name, is_quotable, name_of, named_path_of, named_place_of, number_below, number_within, passing, path_of, place_of, quoted_of, run_of, runs_of_word, stands_for_itself}
use Rattle.word_forms.specs.Runs.{Run, bytes_of_run}
use Rattle.word_forms.specs.WellFormed.{AreBytes, IsContent, IsFileset, IsNamed, IsNamedPath, IsPath, IsPlace, is_name_byte, is_written_name}
use Rattle.word_forms.proofs.Cuts.{both, weaker}

-- ** Options

pub some_same : {A : Type 0} (x y : A) → Some x ≡ Some y → x ≡ y
some_same x y e = (cond_some true x y e).1

-- a mapped value comes from one
pub map_some : {A B : Type 0} (f : A → B) (o : Option A) (y : B) (P : Type 0) → option_map f o ≡ Some y → ((x : A) → o ≡ Some x → f x ≡ y → P) → P
map_some f None y P e k = absurd (cc)
map_some f (Some x) y P e k = k x refl (some_same (f x) y e)

-- ** Numbers

pub below_is : (limit : ℕ) (word : List ℕ) (n : ℕ) → number_below limit word ≡ Some n → n < limit
unfolding number_below
below_is limit word n e =
    let h = cond_some (leb 1 (length word) && list_all is_ascii_digit word && ltb (digits_value 10 word) limit) (digits_value 10 word) n e in
    let small = both (leb 1 (length word) && list_all is_ascii_digit word) (ltb (digits_value 10 word) limit) h.0 in
    grind (arith, nat_tests, small.1, h.1)

pub within_is : (least most : ℕ) (word : List ℕ) (n : ℕ) → number_within least most word ≡ Some n → (least ≤ n) × (n ≤ most)
unfolding number_within
within_is least most word n e =
    option_and_then_some _ (number_below (2 ^ 32) word) n e (λ m is h.
    let c = cond_some (leb least m && leb m most) m n h in
    let t = both (leb least m) (leb m most) c.0 in
    let low : least ≤ n = grind (arith, nat_tests, t.0, c.1) in
    let high : n ≤ most = grind (arith, nat_tests, t.1, c.1) in
    (low, high))

-- ** Names, paths and places

pub fileset_is : (word name : List ℕ) → fileset_of word ≡ Some name → IsFileset name
unfolding fileset_of
fileset_is word name e = let h = cond_some _ word name e in let P : List ℕ → Type 0 = IsFileset in subst P h.1 h.0

digit_small : (b d : ℕ) → hexadecimal_digit b ≡ Some d → d < 16
digit_small b d e = first (leb 48 b && leb b 57) refl
  where
    third : (t : Bool) → (leb 65 b && leb b 70) ≡ t → cond t (Some (b - 55)) None ≡ Some d → d < 16
    third true is h = grind (arith, nat_tests, some_same (b - 55) d h, both (leb 65 b) (leb b 70) is)
    third false is h = absurd (cc)

    second : (t : Bool) → (leb 97 b && leb b 102) ≡ t → cond t (Some (b - 87)) (cond (leb 65 b && leb b 70) (Some (b - 55)) None) ≡ Some d → d < 16
    second true is h = grind (arith, nat_tests, some_same (b - 87) d h, both (leb 97 b) (leb b 102) is)
    second false is h = third (leb 65 b && leb b 70) refl h

    first : (t : Bool) → (leb 48 b && leb b 57) ≡ t → d < 16
    first true is = let h : Some (b - 48) ≡ Some d = rw is at e in grind (arith, nat_tests, some_same (b - 48) d h, both (leb 48 b) (leb b 57) is)
    first false is = second (leb 97 b && leb b 102) refl (rw is at e)

byte_small : (high low b : ℕ) → byte_of high low ≡ Some b → b < 256
unfolding byte_of
byte_small high low b e =
    option_and_then_some _ (hexadecimal_digit high) b e (λ h first more.
    option_and_then_some _ (hexadecimal_digit low) b more (λ l second last.
    omega (arith, digit_small high h first, digit_small low l second, some_same (h * 16 + l) b last)))

-- a value after a test
cond_is : {A : Type 0} (t : Bool) (o : Option A) (x : A) (P : Type 0) → cond t o None ≡ Some x → (t ≡ true → o ≡ Some x → P) → P
cond_is true o x P e k = k refl e
cond_is false o x P e k = absurd (cc)

-- bytes that may stand in a name
abbrev are_name_bytes : List ℕ → Type 0
are_name_bytes name = list_all is_name_byte name ≡ true

plain_byte : (b : ℕ) → (stands_for_itself b && not (eqb b 47)) ≡ true → is_name_byte b ≡ true
plain_byte b e = grind (arith, nat_tests)

escaped_byte : (b : ℕ) → b < 256 → is_escaped b ≡ true → is_name_byte b ≡ true
escaped_byte b small e = grind (arith, nat_tests)

more_are : (b : ℕ) (o : Option (List ℕ)) (name : List ℕ) → is_name_byte b ≡ true → ((rest : List ℕ) → o ≡ Some rest → are_name_bytes rest)
    → option_map (λ more. b ∷ more) o ≡ Some name → are_name_bytes name
more_are b o name is ih e =
    map_some (λ more. b ∷ more) o name (are_name_bytes name) e (λ rest here same.
    let P : List ℕ → Type 0 = are_name_bytes in subst P same (rw (is, ih rest here) refl))

begins_are : (b : ℕ) (percent begins : Option (List ℕ)) (name : List ℕ)
    → ((rest : List ℕ) → percent ≡ Some rest → are_name_bytes rest) → ((rest : List ℕ) → begins ≡ Some rest → are_name_bytes rest)
    → cond (eqb b 37) percent (cond (stands_for_itself b && not (eqb b 47)) (option_map (λ more. b ∷ more) begins) None) ≡ Some name → are_name_bytes name
begins_are b percent begins name behind plain e = at (eqb b 37) e
  where
    at : (t : Bool) → cond t percent (cond (stands_for_itself b && not (eqb b 47)) (option_map (λ more. b ∷ more) begins) None) ≡ Some name → are_name_bytes name
    at true h = behind name h
    at false h =
        cond_is (stands_for_itself b && not (eqb b 47)) (option_map (λ more. b ∷ more) begins) name (are_name_bytes name) h
        (λ t o. more_are b begins name (plain_byte b t) plain o)

bytes_are : (s : Spelling) (word name : List ℕ) → bytes_from s word ≡ Some name → are_name_bytes name
bytes_are Begins [] name e = let P : List ℕ → Type 0 = are_name_bytes in subst P (some_same [] name e) refl
bytes_are Percent [] name e = absurd (cc)
bytes_are (Digit high) [] name e = absurd (cc)
bytes_are Begins (b ∷ bs) name e =
    begins_are b (bytes_from Percent bs) (bytes_from Begins bs) name (λ rest h. bytes_are Percent bs rest h) (λ rest h. bytes_are Begins bs rest h) e
bytes_are Percent (b ∷ bs) name e = bytes_are (Digit b) bs name e
bytes_are (Digit high) (b ∷ bs) name e =
    option_and_then_some _ (byte_of high b) name e (λ byte is more.
    cond_is (is_escaped byte) (option_map (λ rest. byte ∷ rest) (bytes_from Begins bs)) name (are_name_bytes name) more (λ t o.
    more_are byte (bytes_from Begins bs) name (escaped_byte byte (byte_small high b byte is) t) (λ rest h. bytes_are Begins bs rest h) o))

pub name_is : (word name : List ℕ) → name_of word ≡ Some name → is_written_name name ≡ true
unfolding name_of
name_is word name e =
    option_and_then_some _ (bytes_from Begins word) name e (λ said is h.
    let c = cond_some (is_name said) said name h in
    let P : List ℕ → Type 0 = λ n. is_written_name n ≡ true in
    subst P c.1 (rw (c.0, bytes_are Begins word said is) refl))

-- what is true of each that is read is true of all
pub each_are : {A B : Type 0} (f : A → Option B) (p : B → Bool) → ((x : A) (y : B) → f x ≡ Some y → p y ≡ true)
    → (xs : List A) (ys : List B) → each f xs ≡ Some ys → list_all p ys ≡ true
each_are {A} {B} f p one [] ys e = let P : List B → Type 0 = λ l. list_all p l ≡ true in subst P (some_same [] ys e) refl
each_are {A} {B} f p one (x ∷ xs) ys e =
    option_and_then_some _ (f x) ys e (λ y is more.
    option_and_then_some _ (each f xs) ys more (λ zs are last.
    let P : List B → Type 0 = λ l. list_all p l ≡ true in
    subst P (some_same (y ∷ zs) ys last) (rw (one x y is, each_are f p one xs zs are) refl)))

pub path_is : (word : List ℕ) (path : List (List ℕ)) → path_of word ≡ Some path → IsPath path
unfolding path_of
path_is word path e = at (bytes_eq word (codes "/")) e
  where
    said : Option (List (List ℕ))
    said = option_and_then (λ names. passing (leb (length names) 32) names) (each name_of (slice_split (λ b. eqb b 47) (drop 1 word)))

    names : said ≡ Some path → IsPath path
    names h =
        option_and_then_some _ (each name_of (slice_split (λ b. eqb b 47) (drop 1 word))) path h (λ ns are last.
        let c = cond_some (leb (length ns) 32) ns path last in
        let short : length ns ≤ 32 = grind (arith, nat_tests, c.0) in
        subst IsPath c.1 (short, each_are name_of is_written_name name_is (slice_split (λ b. eqb b 47) (drop 1 word)) ns are))

    at : (t : Bool) → cond t (Some []) (cond (eqb (get_or word 0 0) 47) said None) ≡ Some path → IsPath path
    at true h = subst IsPath (some_same [] path h) (omega arith, refl)
    at false h = cond_is (eqb (get_or word 0 0) 47) said path (IsPath path) h (λ t o. names o)

pub place_is : (word : List ℕ) (place : Place) → place_of word ≡ Some place → IsPlace place
unfolding place_of
place_is word place e =
    option_and_then_some _ (fileset_of (before_first (λ b. eqb b 58) word)) place e (λ fileset f more.
    option_and_then_some _ (path_of (after_first (λ b. eqb b 58) word)) place more (λ path p last.
    subst IsPlace (some_same _ place last) (fileset_is (before_first (λ b. eqb b 58) word) fileset f, path_is (after_first (λ b. eqb b 58) word) path p)))

has_some : (n : ℕ) → not (eqb n 0) ≡ true → 0 < n
has_some n e = grind (arith, nat_tests)

pub named_path_is : (word : List ℕ) (path : List (List ℕ)) → named_path_of word ≡ Some path → IsNamedPath path
unfolding named_path_of
named_path_is word path e =
    option_and_then_some _ (path_of word) path e (λ said is last.
    let c = cond_some (not (eqb (length said) 0)) said path last in
    subst IsNamedPath c.1 (path_is word said is, has_some (length said) c.0))

pub named_place_is : (word : List ℕ) (place : Place) → named_place_of word ≡ Some place → IsNamed place
unfolding named_place_of
named_place_is word place e =
    option_and_then_some _ (place_of word) place e (λ said is last.
    let c = cond_some (not (eqb (length said.path) 0)) said place last in
    let h = place_is word said is in
    subst IsNamed c.1 (h.0, (h.1, has_some (length said.path) c.0)))

-- ** Bytes

abbrev is_byte : ℕ → Bool
is_byte b = ltb b 256

digit_byte : (b : ℕ) → is_quotable b ≡ true → is_byte b ≡ true
digit_byte b e = grind (arith, nat_tests)

quoted_are : (word bytes : List ℕ) → quoted_of word ≡ Some bytes → AreBytes bytes
unfolding quoted_of
quoted_are word bytes e =
    let inner = take (length word - 2) (drop 1 word) in
    let front = leb 2 (length word) && eqb (get_or word 0 0) 34 && eqb (get_or word (length word - 1) 0) 34 in
    let c = cond_some (front && list_all is_quotable inner) inner bytes e in
    subst AreBytes c.1 (weaker is_quotable is_byte digit_byte inner (both front (list_all is_quotable inner) c.0).1)

abbrev has_byte : Run → Bool
has_byte run = is_byte run.byte

small_byte : (b : ℕ) → b < 256 → is_byte b ≡ true
small_byte b small = grind (arith, nat_tests)

one_run : (high low byte count : ℕ) (run : Run) → byte_of high low ≡ Some byte → (let r : Run = record { byte = byte; count = count } in r) ≡ run → has_byte run ≡ true
one_run high low byte count run is e = let P : Run → Type 0 = λ r. has_byte r ≡ true in subst P e (small_byte byte (byte_small high low byte is))

run_is : (word : List ℕ) (run : Run) → run_of word ≡ Some run → has_byte run ≡ true
unfolding run_of
run_is [] run e = absurd (cc)
run_is (high ∷ []) run e = absurd (cc)
run_is (high ∷ low ∷ []) run e =
    option_and_then_some _ (byte_of high low) run e (λ byte is last. one_run high low byte 1 run is (some_same _ run last))
run_is (high ∷ low ∷ x ∷ digits) run e =
    option_and_then_some _ (byte_of high low) run e (λ byte is more.
    option_and_then_some _ (number_below (2 ^ 64) digits) run more (λ count counted last.
    one_run high low byte count run is (cond_some _ _ run last).1))

replicate_are : (n b : ℕ) → is_byte b ≡ true → AreBytes (replicate n b)
replicate_are zero b e = refl
replicate_are (suc n) b e = rw (e, replicate_are n b e) refl

runs_are : (runs : List Run) → list_all has_byte runs ≡ true → AreBytes (flat_map bytes_of_run runs)
runs_are [] e = refl
runs_are (run ∷ runs) e =
    let h = both (has_byte run) (list_all has_byte runs) e in
    list_all-append is_byte (bytes_of_run run) (flat_map bytes_of_run runs) ∙ rw (replicate_are run.count run.byte h.0, runs_are runs h.1) refl

word_are : (word bytes : List ℕ) → runs_of_word word ≡ Some bytes → AreBytes bytes
unfolding runs_of_word
word_are word bytes e =
    option_and_then_some _ (each run_of (slice_split (λ b. eqb b 46) word)) bytes e (λ runs are last.
    subst AreBytes (some_same (flat_map bytes_of_run runs) bytes last) (runs_are runs (each_are run_of has_byte run_is (slice_split (λ b. eqb b 46) word) runs are)))

pub content_is : (word bytes : List ℕ) → bytes_of word ≡ Some bytes → IsContent bytes
unfolding bytes_of
content_is word bytes e =
    option_and_then_some _ (cond (eqb (get_or word 0 0) 34) (quoted_of word) (runs_of_word word)) bytes e (λ said is last.
    let c = cond_some (has_length 1 8_192 said) said bytes last in
    subst IsContent c.1 (c.0, at (eqb (get_or word 0 0) 34) said is))
  where
    at : (t : Bool) (said : List ℕ) → cond t (quoted_of word) (runs_of_word word) ≡ Some said → AreBytes said
    at true said h = quoted_are word said h
    at false said h = word_are word said h
