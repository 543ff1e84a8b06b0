-- Files and directories in memory, each under the number of its tag.
use Rattle.std.specs.Prelude.{◌≡◌, ◌==◌, ◌+◌, ◌*◌, ◌^◌, ◌≤◌, ℕ, true, false, List, Option, Some, None, IfSome, IsSomeAnd, is_some, nat_lt, refl, if◌then◌else◌}
use Rattle.std.specs.Option.{ForSome, option_map}
use Rattle.sorted_sets.specs.domain_base.declared.place.Tag.{Tag}
use Rattle.sorted_sets.specs.domain_base.declared.place.Kind.TheVariants.{Directory}
use Rattle.page_store.specs.Bitfiles.{Bitfile, Bitfiles, AreBitfiles, IsBitfile, new_file, same_tag}
use Rattle.sorted_sets.specs.Rising.{value_at}

-- a number for each tag, in the order of tags
abbrev pub number_of : Tag → ℕ
number_of tag = tag.slot * 2 ^ 16 + tag.seq

-- what each tag names
abbrev pub files_of : List (ℕ × Bitfile) → Bitfiles
files_of entries tag = if nat_lt tag.seq (2 ^ 16) then value_at entries (number_of tag) else None

-- each file is within its limits
abbrev pub AreSound : List (ℕ × Bitfile) → Type 0
AreSound entries = (key : ℕ) → ForSome (value_at entries key) IsBitfile

-- a directory has the number
abbrev pub IsDirectoryAt : List (ℕ × Bitfile) → ℕ → Type 0
IsDirectoryAt entries key = IsSomeAnd (value_at entries key) (λ file. file.kind ≡ Directory)

-- no tag from this slot on names anything
abbrev pub AreUnused : ℕ → List (ℕ × Bitfile) → Type 0
AreUnused slot entries = (key : ℕ) → slot * 2 ^ 16 ≤ key → is_some (value_at entries key) ≡ false

-- the file of one number is changed, and all others stay
abbrev pub Changes : List (ℕ × Bitfile) → List (ℕ × Bitfile) → ℕ → (Bitfile → Bitfile) → Type 0
Changes old new key change =
    (q : ℕ)
    → value_at new q ≡ (if key == q then option_map change (value_at old key) else value_at old q)

-- the root directory alone, of user 0 and group 0, under the tag of slot 1 and sequence 1
abbrev pub root_alone : Bitfiles
root_alone tag =
    if same_tag tag (record { slot = 1; seq = 1 }) then Some (new_file Directory 0 0) else None

if_some : (found : Option Bitfile) → ForSome found IsBitfile → IfSome found IsBitfile
if_some None sound = tt
if_some (Some file) sound = sound file refl

pub are_bitfiles :
    (entries : List (ℕ × Bitfile)) → AreSound entries → AreBitfiles (files_of entries)
are_bitfiles entries sound tag =
    elim (nat_lt tag.seq (2 ^ 16)) as
    (λ b. IfSome (if b then value_at entries (number_of tag) else None) IsBitfile) [
      | true ↦ if_some _ (sound (number_of tag))
      | false ↦ tt
    ]
