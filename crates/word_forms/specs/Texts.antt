-- The text of words, as histories write them.
use Rattle.std.specs.Prelude.{ℕ, if◌then◌else◌, List, [], ◌∷◌, ◌++◌, codes}
use Rattle.std.specs.List.{flat_map, join_with_byte}
use Rattle.fileset_values.specs.declared.command.Place.{Place}
use Rattle.word_forms.specs.Forms.{stands_for_itself}
use Rattle.word_forms.specs.Runs.{hexadecimal}

-- words, with one space between two of them
abbrev pub spaced : List (List ℕ) → List ℕ
spaced words = join_with_byte 32 words

-- each word after a space
abbrev pub behind_spaces : List (List ℕ) → List ℕ
behind_spaces words = flat_map (λ word. 32 ∷ word) words

-- a byte of a name: itself, or `%` and two hexadecimal digits
abbrev pub name_byte_text : ℕ → List ℕ
name_byte_text b = if stands_for_itself b then b ∷ [] else codes "%" ++ hexadecimal b

-- a name as it is written: bytes that may not stand for themselves as `%` and two digits
unfoldable pub name_text : List ℕ → List ℕ
name_text name = flat_map name_byte_text name

-- each name after a `/`; the root is `/` alone
unfoldable pub path_text : List (List ℕ) → List ℕ
path_text [] = codes "/"
path_text (name ∷ names) = flat_map (λ n. codes "/" ++ name_text n) (name ∷ names)

-- the name of the fileset, a colon and the path
abbrev pub place_text : Place → List ℕ
place_text place = place.fileset ++ codes ":" ++ path_text place.path
