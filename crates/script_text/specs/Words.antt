-- The words of a line.
use Rattle.std.specs.Prelude.{ℕ, Bool, ◌&&◌, ◌||◌, ◌==◌, if◌then◌else◌, nat_le, List, [], ◌∷◌}
use Rattle.std.specs.List.{list_any, onto_first}

-- a space or a tab
abbrev pub is_blank : ℕ → Bool
is_blank b = b == 32 || b == 9

-- a printable ASCII character, a space among them
abbrev pub is_printable : ℕ → Bool
is_printable b = nat_le 32 b && nat_le b 126

abbrev pub is_quote : ℕ → Bool
is_quote b = b == 34

-- where a byte of a line stands: between two words, in a word, or in the quotes at a word's
-- beginning
pub data Spot : Type 0 where
  Between : Spot
  Within : Spot
  Quoted : Spot

-- the words of the rest of a line. A word that begins with a quote takes in all up to the next
-- quote, if there is one
abbrev pub words_from : Spot → List ℕ → List (List ℕ)
words_from Between [] = []
words_from Within [] = [] ∷ []
words_from Quoted [] = [] ∷ []
words_from Between (b ∷ bs) =
    if is_blank b then words_from Between bs
    else onto_first b
    (if is_quote b && list_any is_quote bs then words_from Quoted bs else words_from Within bs)
words_from Within (b ∷ bs) = if is_blank b then [] ∷ words_from Between bs
    else onto_first b (words_from Within bs)
words_from Quoted (b ∷ bs) = onto_first b
    (if is_quote b then words_from Within bs else words_from Quoted bs)

-- the words of a line, separated by spaces and tabs; a word that begins with a quote goes on to the
-- next quote
abbrev pub words_of : List ℕ → List (List ℕ)
words_of line = words_from Between line
