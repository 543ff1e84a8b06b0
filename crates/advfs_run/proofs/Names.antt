-- What a script writes as a name is one that a row may have.
use Rattle.std.proofs.Common.{◌≡◌, inr, ℕ, ◌-◌, ◌<◌, Bool, true, false, ◌&&◌, not, eqb, leb, List, [], ◌∷◌, length, get_or, bytes_eq, codes, refl, arith}
use Rattle.std.specs.List.{list_all}
use Rattle.std.proofs.lemmas.Bool.Decides.{nat_tests}
use Rattle.std.proofs.lemmas.List.Folds.{list_all_at}
use Rattle.domain_attaching.specs.word_forms.Forms.{has_length, is_name}
use Rattle.domain_attaching.specs.word_forms.WellFormed.{IsNamedPath, is_name_byte as is_written_byte, is_written_name}
use Rattle.domain_attaching.proofs.OfWordForms.Cuts.{both, weaker}
use Rattle.domain_attaching.specs.directory_pages.Rows.{is_dots, is_name_byte, is_row_name}
use Rattle.client_commands.specs.name_commands.Naming.{IsPathToGet}

byte_is : (b : ℕ) → is_written_byte b ≡ true → is_name_byte b ≡ true
byte_is b e = grind (arith, nat_tests)

-- neither one dot nor two
no_dots : (name : List ℕ) → leb 1 (length name) ≡ true → not (bytes_eq name (codes ".")) ≡ true → not (bytes_eq name (codes "..")) ≡ true → not (is_dots name) ≡ true
no_dots [] some one two = absurd (cc)
no_dots (x ∷ []) some one two = at (eqb x 46) refl
  where
    at : (t : Bool) → eqb x 46 ≡ t → not (is_dots (x ∷ [])) ≡ true
    at true is = absurd (grind (arith, nat_tests, one, is))
    at false is = rw is refl
no_dots (x ∷ y ∷ []) some one two = at (eqb x 46) (eqb y 46) refl refl
  where
    at : (s t : Bool) → eqb x 46 ≡ s → eqb y 46 ≡ t → not (is_dots (x ∷ y ∷ [])) ≡ true
    at true true is are = absurd (grind (arith, nat_tests, two, is, are))
    at true false is are = rw (is, are) refl
    at false t is are = rw is refl
no_dots (x ∷ y ∷ z ∷ more) some one two = grind (arith, nat_tests)

pub row_name : (name : List ℕ) → is_written_name name ≡ true → is_row_name name ≡ true
row_name name e =
    let h = both (is_name name) (list_all is_written_byte name) e in
    let k = both (has_length 1 255 name && not (bytes_eq name (codes "."))) (not (bytes_eq name (codes ".."))) h.0 in
    let l = both (has_length 1 255 name) (not (bytes_eq name (codes "."))) k.0 in
    let m = both (leb 1 (length name)) (leb (length name) 255) l.0 in
    rw (m.0, m.1, weaker is_written_byte is_name_byte byte_is name h.1, no_dots name m.0 l.1 k.1) refl

-- so something may get the path
pub gets : (path : List (List ℕ)) → IsNamedPath path → IsPathToGet path
gets path is = inr (is.1, row_name (get_or path (length path - 1) []) (last path is.1 is.0.1))
  where
    last : (names : List (List ℕ)) → 0 < length names → list_all is_written_name names ≡ true → is_written_name (get_or names (length names - 1) []) ≡ true
    last names some all = at (is_written_name (get_or names (length names - 1) [])) refl
      where
        at : (t : Bool) → is_written_name (get_or names (length names - 1) []) ≡ t → t ≡ true
        at true is = refl
        at false is = let bad = list_all_at is_written_name names (length names - 1) [] (omega (arith, some)) is in absurd (cc)
