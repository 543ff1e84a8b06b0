-- The forms of words: numbers, names of filesets, paths, places and bytes.
use Rattle.std.specs.Prelude.{ℕ, ◌+◌, ◌*◌, ◌-◌, ◌^◌, Bool, true, false, ◌&&◌, ◌||◌, not, ◌==◌, if◌then◌else◌, nat_le, nat_lt, Option, Some, None, option_and_then, option_map, List, [], ◌∷◌, length, take, drop, slice_index, codes}
use Rattle.std.specs.List.{list_all, before_first, after_first, flat_map, slice_split}
use Rattle.std.specs.Char.{is_ascii_digit, is_ascii_alphanumeric}
use Rattle.std.specs.Str.{bytes_eq}
use Rattle.std.specs.Str.Parse.{digits_value}
use Rattle.fileset_values.specs.declared.command.Owner.{Owner}
use Rattle.fileset_values.specs.declared.command.Owner.TheVariants.{User, Group, Fileset}
use Rattle.fileset_values.specs.declared.command.Place.{Place}
use Rattle.word_forms.specs.Runs.{Run, bytes_of_run}

infixl 10 ◌>>=◌
abbrev pub ◌>>=◌ : {A B : Type 0} → Option A → (A → Option B) → Option B
o >>= f = option_and_then f o

-- the value, if the test holds
abbrev pub passing : {A : Type 0} → Bool → A → Option A
passing test x = if test then Some x else None

-- the meaning of each, if each has one
abbrev pub each : {A B : Type 0} → (A → Option B) → List A → Option (List B)
each f [] = Some []
each f (x ∷ xs) = do
  y ← f x
  ys ← each f xs
  Some (y ∷ ys)

-- the length lies within these bounds
abbrev pub has_length : {A : Type 0} → ℕ → ℕ → List A → Bool
has_length least most xs = nat_le least (length xs) && nat_le (length xs) most

-- ** Numbers

-- the number below the limit that the word's decimal digits say
unfoldable pub number_below : ℕ → List ℕ → Option ℕ
number_below limit word =
    if nat_le 1 (length word) && list_all is_ascii_digit word && nat_lt (digits_value 10 word) limit
    then Some (digits_value 10 word) else None

-- the number within these bounds
unfoldable pub number_within : ℕ → ℕ → List ℕ → Option ℕ
number_within least most word = do
  n ← number_below (2 ^ 32) word
  passing (nat_le least n && nat_le n most) n

-- the value of a hexadecimal digit, of either case
abbrev pub hexadecimal_digit : ℕ → Option ℕ
hexadecimal_digit b =
    if nat_le 48 b && nat_le b 57 then Some (b - 48)
    else (if nat_le 97 b && nat_le b 102 then Some (b - 87)
    else (if nat_le 65 b && nat_le b 70 then Some (b - 55) else None))

-- the byte that two hexadecimal digits say
unfoldable pub byte_of : ℕ → ℕ → Option ℕ
byte_of high low = do
  h ← hexadecimal_digit high
  l ← hexadecimal_digit low
  Some (h * 16 + l)

-- ** Names, paths and places

-- a letter, a digit, `_`, `-` or `.`
abbrev pub is_fileset_character : ℕ → Bool
is_fileset_character b = is_ascii_alphanumeric b || b == 95 || b == 45 || b == 46

-- 1 to 31 of these
abbrev pub is_fileset_name : List ℕ → Bool
is_fileset_name name = has_length 1 31 name && list_all is_fileset_character name

-- the name of a fileset that a word says, if it is of the form
unfoldable pub fileset_of : List ℕ → Option (List ℕ)
fileset_of word = passing (is_fileset_name word) word

-- a byte that a path writes as itself: from 0x21 to 0x7E, and no `%`
abbrev pub stands_for_itself : ℕ → Bool
stands_for_itself b = nat_le 33 b && nat_le b 126 && not (b == 37)

-- a byte that a path writes as `%` and two digits: any other, but the zero byte, which no name has
abbrev pub is_escaped : ℕ → Bool
is_escaped b = not (stands_for_itself b) && not (b == 0)

-- where a byte stands: at the beginning of one's spelling, after a `%`, or after a `%` and this
-- digit
pub data Spelling : Type 0 where
  Begins : Spelling
  Percent : Spelling
  Digit : ℕ → Spelling

-- the bytes that the rest of a name says
abbrev pub bytes_from : Spelling → List ℕ → Option (List ℕ)
bytes_from Begins [] = Some []
bytes_from Percent [] = None
bytes_from (Digit high) [] = None
bytes_from Begins (b ∷ bs) =
    if b == 37 then bytes_from Percent bs
    else (if stands_for_itself b && not (b == 47)
    then option_map (λ more. b ∷ more) (bytes_from Begins bs) else None)
bytes_from Percent (b ∷ bs) = bytes_from (Digit b) bs
bytes_from (Digit high) (b ∷ bs) = do
  byte ← byte_of high b
  if is_escaped byte then option_map (λ more. byte ∷ more) (bytes_from Begins bs) else None

-- 1 to 255 bytes, and neither `.` nor `..`
abbrev pub is_name : List ℕ → Bool
is_name name =
    has_length 1 255 name && not (bytes_eq name (codes ".")) && not (bytes_eq name (codes ".."))

-- the name of a file or directory
unfoldable pub name_of : List ℕ → Option (List ℕ)
name_of word = do
  name ← bytes_from Begins word
  passing (is_name name) name

-- the path that the word says: `/`, or up to 32 names, each after a `/`
unfoldable pub path_of : List ℕ → Option (List (List ℕ))
path_of word =
    if bytes_eq word (codes "/") then Some []
    else (if slice_index word 0 == 47
    then names_of (slice_split (λ b. b == 47) (drop 1 word)) else None)
  where
    names_of : List (List ℕ) → Option (List (List ℕ))
    names_of parts = do
      names ← each name_of parts
      passing (nat_le (length names) 32) names

-- the place that the word says: a fileset, `:` and a path
unfoldable pub place_of : List ℕ → Option Place
place_of word = do
  fileset ← fileset_of (before_first (λ b. b == 58) word)
  path ← path_of (after_first (λ b. b == 58) word)
  Some (record { fileset = fileset; path = path })

-- a path, or a place, that is not the root
unfoldable pub named_path_of : List ℕ → Option (List (List ℕ))
named_path_of word = do
  path ← path_of word
  passing (not (length path == 0)) path

-- a place with at least one name
unfoldable pub named_place_of : List ℕ → Option Place
named_place_of word = do
  place ← place_of word
  passing (not (length place.path == 0)) place

-- ** Bytes

-- a byte that stands within quotes: a printable one, and neither a quote nor a backslash
abbrev pub is_quotable : ℕ → Bool
is_quotable b = nat_le 32 b && nat_le b 126 && not (b == 34) && not (b == 92)

-- the bytes that the word says in quotes
unfoldable pub quoted_of : List ℕ → Option (List ℕ)
quoted_of word =
    let inner = take (length word - 2) (drop 1 word) in
    passing
    (nat_le 2 (length word) && slice_index word 0 == 34 && slice_index word (length word - 1) == 34
    && list_all is_quotable inner)
    inner

-- a byte, by two hexadecimal digits, and after an `x` how often it stands in a row; without that,
-- once
unfoldable pub run_of : List ℕ → Option Run
run_of (high ∷ low ∷ []) = do
  byte ← byte_of high low
  Some (record { byte = byte; count = 1 })
run_of (high ∷ low ∷ x ∷ digits) = do
  byte ← byte_of high low
  count ← number_below (2 ^ 64) digits
  passing (x == 120 && nat_le 1 count) (record { byte = byte; count = count })
run_of _ = None

-- the bytes that the word says in runs, with a dot between two of them
unfoldable pub runs_of_word : List ℕ → Option (List ℕ)
runs_of_word word = do
  runs ← each run_of (slice_split (λ b. b == 46) word)
  Some (flat_map bytes_of_run runs)

-- 1 to 8,192 bytes
abbrev pub limited : Option (List ℕ) → Option (List ℕ)
limited bytes = bytes >>= λ bs. passing (has_length 1 8_192 bs) bs

-- bytes, in quotes or in runs, within the limit on their number
unfoldable pub bytes_of : List ℕ → Option (List ℕ)
bytes_of word = limited (if slice_index word 0 == 34 then quoted_of word else runs_of_word word)

-- ** Owners of quotas and switches

-- whose a quota is: `user` and an id, `group` and an id, or `fileset` and 0
unfoldable pub owner_of : List ℕ → List ℕ → Option Owner
owner_of kind id =
    if bytes_eq kind (codes "user") then option_map User (number_below (2 ^ 32) id)
    else (if bytes_eq kind (codes "group") then option_map Group (number_below (2 ^ 32) id)
    else (if bytes_eq kind (codes "fileset")
    then option_map (λ _. Fileset) (number_within 0 0 id) else None))

-- whether the word says `on`
unfoldable pub switch_of : List ℕ → Option Bool
switch_of word =
    if bytes_eq word (codes "on") then Some true
    else (if bytes_eq word (codes "off") then Some false else None)
