-- What is of the form of a word: names, places, bytes, owners and numbers.
use Rattle.std.specs.Prelude.{◌≡◌, ℕ, ◌^◌, ◌<◌, ◌≤◌, ◌==◌, ◌&&◌, not, nat_lt, Bool, true, Option, MatchOption, List, length}
use Rattle.std.specs.List.{list_all}
use Rattle.fileset_values.specs.declared.command.Owner.{Owner}
use Rattle.fileset_values.specs.declared.command.Owner.TheVariants.{User, Group, Fileset}
use Rattle.fileset_values.specs.declared.command.Place.{Place}
use Rattle.word_forms.specs.Forms.{has_length, is_fileset_name, is_name}

-- the name of a fileset is of its form
abbrev pub IsFileset : List ℕ → Type 0
IsFileset name = is_fileset_name name ≡ true

-- a byte of a name: neither zero nor `/`
abbrev pub is_name_byte : ℕ → Bool
is_name_byte b = nat_lt b 256 && not (b == 0) && not (b == 47)

abbrev pub is_written_name : List ℕ → Bool
is_written_name name = is_name name && list_all is_name_byte name

-- at most 32 names, each of the form
abbrev pub IsPath : List (List ℕ) → Type 0
IsPath path = (length path ≤ 32) × (list_all is_written_name path ≡ true)

-- a place whose fileset and path are of their forms
abbrev pub IsPlace : Place → Type 0
IsPlace place = IsFileset place.fileset × IsPath place.path

abbrev pub IsNamedPath : List (List ℕ) → Type 0
IsNamedPath path = IsPath path × (0 < length path)

-- a place whose fileset is of its form, and whose path has at least one name, each of the form
abbrev pub IsNamed : Place → Type 0
IsNamed place = IsFileset place.fileset × IsNamedPath place.path

-- numbers that are bytes
abbrev pub AreBytes : List ℕ → Type 0
AreBytes bytes = list_all (λ b. nat_lt b 256) bytes ≡ true

-- 1 to 8,192 bytes
abbrev pub IsContent : List ℕ → Type 0
IsContent bytes = (has_length 1 8_192 bytes ≡ true) × AreBytes bytes

-- a user or a group with an id below 2^32, or the fileset
abbrev pub IsOwner : Owner → Type 0
IsOwner (User id) = id < 2 ^ 32
IsOwner (Group id) = id < 2 ^ 32
IsOwner Fileset = Unit {0}

-- an id, a volume or a count of pages, and a size
abbrev pub IsSmall : ℕ → Type 0
IsSmall n = n < 2 ^ 32

-- a number of 64 bits
abbrev pub IsLarge : ℕ → Type 0
IsLarge n = n < 2 ^ 64

abbrev pub IsOptional : Option ℕ → Type 0
IsOptional n = MatchOption n (Unit {0}) IsSmall
