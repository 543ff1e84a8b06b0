-- Names of filesets and places are read back.
use Rattle.std.proofs.Common.{◌≡◌, ℕ, true, false, not, eqb, Some, List, ◌∷◌, ◌++◌, length, codes, refl, ap, ◌∙◌, arith, append_assoc}
use Rattle.std.specs.List.{list_all}
use Rattle.std.proofs.lemmas.Bool.Decides.{nat_tests}
use Rattle.std.proofs.lemmas.List.Folds.{list_all-append}
use Rattle.fileset_values.specs.declared.command.Place.{Place}
use Rattle.word_forms.specs.Forms.{fileset_of, has_length, is_fileset_character, named_place_of, place_of}
use Rattle.word_forms.specs.Texts.{path_text, place_text}
use Rattle.word_forms.specs.WellFormed.{IsFileset, IsNamed, IsPlace}
use Rattle.word_forms.proofs.Cuts.{both, lacks, weaker, before, after}
use Rattle.word_forms.proofs.NamesRead.{path_lacks, path_read}

pub fileset_read : (name : List ℕ) → IsFileset name → fileset_of name ≡ Some name
unfolding fileset_of
fileset_read name e = rw e refl

colon_other : (b : ℕ) → is_fileset_character b ≡ true → not (eqb b 58) ≡ true
colon_other b e = grind (arith, nat_tests)

space_other : (b : ℕ) → is_fileset_character b ≡ true → not (eqb b 32) ≡ true
space_other b e = grind (arith, nat_tests)

mark_other : (b : ℕ) → is_fileset_character b ≡ true → not (eqb b 60) ≡ true
mark_other b e = grind (arith, nat_tests)

characters : (name : List ℕ) → IsFileset name → list_all is_fileset_character name ≡ true
characters name e = (both (has_length 1 31 name) (list_all is_fileset_character name) e).1

colon_lacks : (name : List ℕ) → IsFileset name → lacks 58 name ≡ true
colon_lacks name e = weaker is_fileset_character (λ b. not (eqb b 58)) colon_other name (characters name e)

pub fileset_lacks : (name : List ℕ) → IsFileset name → lacks 32 name ≡ true
fileset_lacks name e = weaker is_fileset_character (λ b. not (eqb b 32)) space_other name (characters name e)

-- no `<` stands in the name of a fileset
pub mark_lacks : (name : List ℕ) → IsFileset name → lacks 60 name ≡ true
mark_lacks name e = weaker is_fileset_character (λ b. not (eqb b 60)) mark_other name (characters name e)

-- a place is its fileset and its path with a colon between them
parted : (place : Place) → place_text place ≡ place.fileset ++ 58 ∷ path_text place.path
parted place = append_assoc place.fileset (codes ":") (path_text place.path)

pub place_read : (place : Place) → IsPlace place → place_of (place_text place) ≡ Some place
unfolding place_of
place_read place h =
    ap place_of (parted place)
    ∙ rw (
      before 58 place.fileset (path_text place.path) (colon_lacks place.fileset h.0),
      after 58 place.fileset (path_text place.path) (colon_lacks place.fileset h.0),
      fileset_read place.fileset h.0,
      path_read place.path h.1,
    ) refl

pub named_read : (place : Place) → IsNamed place → named_place_of (place_text place) ≡ Some place
unfolding named_place_of
named_read place h =
    let some : eqb (length place.path) 0 ≡ false = grind (arith, nat_tests, h.1.1) in
    rw (place_read place (h.0, h.1.0), some) refl

pub place_lacks : (place : Place) → IsPlace place → lacks 32 (place_text place) ≡ true
place_lacks place h =
    ap (lacks 32) (parted place) ∙ list_all-append (λ x. not (eqb x 32)) place.fileset (58 ∷ path_text place.path)
    ∙ rw (fileset_lacks place.fileset h.0, path_lacks place.path h.1) refl

pub named_lacks : (place : Place) → IsNamed place → lacks 32 (place_text place) ≡ true
named_lacks place h = place_lacks place (h.0, h.1.0)
