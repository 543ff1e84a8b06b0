-- Names and paths are read back.
use Rattle.std.proofs.Common.{◌≡◌, ℕ, ◌<◌, ◌/◌, ◌%◌, Bool, true, false, not, eqb, leb, Some, List, [], ◌∷◌, ◌++◌, length, map, codes, refl, sym, ap, ◌∙◌, arith, ◌⊎◌, inl, inr}
use Rattle.std.specs.List.{list_all, flat_map, slice_split}
use Rattle.std.specs.Fmt.{digit_glyph}
use Rattle.std.specs.Str.{bytes_eq}
use Rattle.std.proofs.lemmas.Bool.Decides.{nat_tests}
use Rattle.std.proofs.lemmas.List.Folds.{list_all-append}
use Rattle.word_forms.specs.Forms.{Begins, bytes_from, each, is_name, name_of, path_of, named_path_of, stands_for_itself}
use Rattle.word_forms.specs.Runs.{hexadecimal}
use Rattle.word_forms.specs.Texts.{name_byte_text, name_text, path_text}
use Rattle.word_forms.proofs.Joined.{flat_map-map}
use Rattle.word_forms.specs.WellFormed.{is_name_byte, is_written_name, IsPath, IsNamedPath}
use Rattle.word_forms.proofs.HexadecimalRead.{byte_read, digit_range, high_small, low_small}
use Rattle.word_forms.proofs.Cuts.{both, lacks, cut_parts}

byte_small : (b : ℕ) → is_name_byte b ≡ true → b < 256
byte_small b e = grind (arith, nat_tests)

byte_some : (b : ℕ) → is_name_byte b ≡ true → eqb b 0 ≡ false
byte_some b e = grind (arith, nat_tests)

byte_other : (b : ℕ) → is_name_byte b ≡ true → eqb b 47 ≡ false
byte_other b e = grind (arith, nat_tests)

no_percent : (b : ℕ) → stands_for_itself b ≡ true → eqb b 37 ≡ false
no_percent b e = grind (arith, nat_tests)

low : (b : ℕ) → stands_for_itself b ≡ true → leb 33 b ≡ true
low b e = grind (arith, nat_tests)

high : (b : ℕ) → stands_for_itself b ≡ true → leb b 126 ≡ true
high b e = grind (arith, nat_tests)

byte_first : (b : ℕ) (rest name : List ℕ) (s : Bool) → stands_for_itself b ≡ s → is_name_byte b ≡ true
    → bytes_from Begins rest ≡ Some name → bytes_from Begins (name_byte_text b ++ rest) ≡ Some (b ∷ name)
unfolding hexadecimal
byte_first b rest name true s e is = rw (s, no_percent b s, low b s, high b s, byte_other b e, is) refl
byte_first b rest name false s e is = rw (s, byte_read b (byte_small b e), s, byte_some b e, is) refl

bytes_read : (name : List ℕ) → list_all is_name_byte name ≡ true → bytes_from Begins (flat_map name_byte_text name) ≡ Some name
bytes_read [] e = refl
bytes_read (b ∷ name) e =
    let h = both (is_name_byte b) (list_all is_name_byte name) e in
    byte_first b (flat_map name_byte_text name) name (stands_for_itself b) refl h.0 (bytes_read name h.1)

pub name_read : (name : List ℕ) → is_written_name name ≡ true → name_of (name_text name) ≡ Some name
unfolding name_of name_text
name_read name e = let h = both (is_name name) (list_all is_name_byte name) e in rw (bytes_read name h.1, h.0) refl

digit_lacks : (c d : ℕ) → c < 48 → d < 16 → eqb (digit_glyph false d) c ≡ false
digit_lacks c d small digit = grind (arith, nat_tests, digit_range d digit)

byte_lacks : (c b : ℕ) (s : Bool) → (c ≡ 32) ⊎ (c ≡ 47) → stands_for_itself b ≡ s → is_name_byte b ≡ true → lacks c (name_byte_text b) ≡ true
unfolding hexadecimal
byte_lacks c b true is s e = let a : eqb b c ≡ false = grind (arith, nat_tests) in rw (s, a) refl
byte_lacks c b false is s e =
    let p : eqb 37 c ≡ false = grind (arith, nat_tests) in
    let h : eqb (digit_glyph false (b / 16)) c ≡ false = digit_lacks c (b / 16) (grind (arith, is)) (high_small b (byte_small b e)) in
    let l : eqb (digit_glyph false (b % 16)) c ≡ false = digit_lacks c (b % 16) (grind (arith, is)) (low_small b) in
    rw (s, p, h, l) refl

bytes_lack : (c : ℕ) (name : List ℕ) → (c ≡ 32) ⊎ (c ≡ 47) → list_all is_name_byte name ≡ true → lacks c (flat_map name_byte_text name) ≡ true
bytes_lack c [] is e = refl
bytes_lack c (b ∷ name) is e =
    let h = both (is_name_byte b) (list_all is_name_byte name) e in
    list_all-append (λ x. not (eqb x c)) (name_byte_text b) (flat_map name_byte_text name)
    ∙ rw (byte_lacks c b (stands_for_itself b) is refl h.0, bytes_lack c name is h.1) refl

pub name_lacks : (c : ℕ) (name : List ℕ) → (c ≡ 32) ⊎ (c ≡ 47) → is_written_name name ≡ true → lacks c (name_text name) ≡ true
unfolding name_text
name_lacks c name is e = bytes_lack c name is (both (is_name name) (list_all is_name_byte name) e).1

-- a name is written by some byte
written : (b : ℕ) (rest : List ℕ) (s : Bool) → stands_for_itself b ≡ s → bytes_eq (47 ∷ (name_byte_text b ++ rest)) (codes "/") ≡ false
unfolding hexadecimal
written b rest true s = rw s refl
written b rest false s = rw s refl

not_root : (name rest : List ℕ) → is_written_name name ≡ true → bytes_eq (47 ∷ (name_text name ++ rest)) (codes "/") ≡ false
unfolding name_text
not_root [] rest e = absurd (grind (arith, e))
not_root (b ∷ name) rest e = grind (arith, written b (flat_map name_byte_text name ++ rest) (stands_for_itself b) refl)

names_read : (names : List (List ℕ)) → list_all is_written_name names ≡ true → each name_of (map name_text names) ≡ Some names
names_read [] e = refl
names_read (name ∷ names) e =
    let h = both (is_written_name name) (list_all is_written_name names) e in
    rw (name_read name h.0, names_read names h.1) refl

names_lack : (c : ℕ) (names : List (List ℕ)) → (c ≡ 32) ⊎ (c ≡ 47) → list_all is_written_name names ≡ true → list_all (lacks c) (map name_text names) ≡ true
names_lack c [] is e = refl
names_lack c (name ∷ names) is e =
    let h = both (is_written_name name) (list_all is_written_name names) e in
    rw (name_lacks c name is h.0, names_lack c names is h.1) refl

-- the rest of a path, after its first name
abbrev behind_slashes : List (List ℕ) → List ℕ
behind_slashes names = flat_map (λ n. 47 ∷ name_text n) names

names_cut : (name : List ℕ) (names : List (List ℕ)) → is_written_name name ≡ true → list_all is_written_name names ≡ true
    → slice_split (λ b. eqb b 47) (name_text name ++ behind_slashes names) ≡ map name_text (name ∷ names)
names_cut name names e es =
    ap (λ bs. slice_split (λ b. eqb b 47) (name_text name ++ bs)) (sym (flat_map-map (λ p. 47 ∷ p) name_text names))
    ∙ cut_parts 47 (name_text name) (map name_text names) (name_lacks 47 name (inr refl) e) (names_lack 47 names (inr refl) es)

pub path_read : (path : List (List ℕ)) → IsPath path → path_of (path_text path) ≡ Some path
unfolding path_of path_text
path_read [] h = refl
path_read (name ∷ names) h =
    let e = both (is_written_name name) (list_all is_written_name names) h.1 in
    let short : leb (length (name ∷ names)) 32 ≡ true = grind (arith, nat_tests, h.0) in
    rw (not_root name (behind_slashes names) e.0, names_cut name names e.0 e.1, names_read (name ∷ names) h.1, short) refl

pub named_path_read : (path : List (List ℕ)) → IsNamedPath path → named_path_of (path_text path) ≡ Some path
unfolding named_path_of
named_path_read path h =
    let some : eqb (length path) 0 ≡ false = grind (arith, nat_tests, h.1) in
    rw (path_read path h.0, some) refl

slashes_lack : (names : List (List ℕ)) → list_all is_written_name names ≡ true → lacks 32 (behind_slashes names) ≡ true
slashes_lack [] e = refl
slashes_lack (name ∷ names) e =
    let h = both (is_written_name name) (list_all is_written_name names) e in
    list_all-append (λ x. not (eqb x 32)) (47 ∷ name_text name) (behind_slashes names)
    ∙ rw (name_lacks 32 name (inl refl) h.0, slashes_lack names h.1) refl

pub path_lacks : (path : List (List ℕ)) → IsPath path → lacks 32 (path_text path) ≡ true
unfolding path_text
path_lacks [] h = refl
path_lacks (name ∷ names) h = slashes_lack (name ∷ names) h.1
