-- Entries of an index: the hash of a name, and the directory page that has a row of that hash.
use Rattle.std.specs.Prelude.{◌≡◌, ◌==◌, ◌&&◌, ◌||◌, ◌+◌, ◌*◌, ◌%◌, ◌^◌, ◌≤◌, ◌⊎◌, ℕ, Bool, true, false, not, List, [], ◌∷◌, ◌++◌, Option, nat_lt, length, take, slice_get, Some}
use Rattle.std.specs.List.{AllByRecursion, find}
use Rattle.directory_pages.specs.declared.entry.IndexEntry.{IndexEntry}

-- the hash of some bytes that follow others with this hash
abbrev pub hash_from : ℕ → List ℕ → ℕ
hash_from hash [] = hash
hash_from hash (byte ∷ bytes) = hash_from ((hash * 31 + byte) % 2 ^ 32) bytes

-- the hash of a name
abbrev pub hash_of : List ℕ → ℕ
hash_of name = hash_from 0 name

-- the order of entries: by hash, and then by page
abbrev pub is_below : IndexEntry → IndexEntry → Bool
is_below a b = nat_lt a.hash b.hash || ((a.hash == b.hash) && nat_lt a.page b.page)

-- entries, none of which is below one before it
abbrev pub Rise : List IndexEntry → Type 0
Rise [] = Unit {0}
Rise (entry ∷ entries) =
    AllByRecursion (λ later. is_below later entry ≡ false) entries × Rise entries

-- an entry with the hash and the page is there
abbrev pub Has : List IndexEntry → ℕ → ℕ → Type 0
Has [] hash page = ⊥
Has (entry ∷ entries) hash page =
    ((entry.hash ≡ hash) × (entry.page ≡ page)) ⊎ Has entries hash page

-- the least page, from one on, that an entry with the hash names
pub record IsNext (hash from : ℕ) (entries : List IndexEntry) (page : ℕ) : Type 0 where
  pub begins : from ≤ page
  pub there : Has entries hash page
  pub least : (other : ℕ) → Has entries hash other → from ≤ other → page ≤ other

-- an entry with the hash names a page from that one on
abbrev pub HasNext : ℕ → ℕ → List IndexEntry → Type 0
HasNext hash from entries = (page : ℕ) × (from ≤ page) × Has entries hash page

-- the first entry that is not below this one
abbrev pub first_from : IndexEntry → List IndexEntry → Option IndexEntry
first_from key entries = find (λ entry. not (is_below entry key)) entries

-- the last of some entries is below this one
pub record EndsBelow (key : IndexEntry) (entries : List IndexEntry) : Type 0 where
  pub front : List IndexEntry
  pub last : IndexEntry
  pub parts : entries ≡ front ++ last ∷ []
  pub below : is_below last key ≡ true

-- how many entries stand before the first that is not below this one
pub record IsPlace (key : IndexEntry) (entries : List IndexEntry) (place : ℕ) : Type 0 where
  pub within : place ≤ length entries
  pub below : AllByRecursion (λ entry. is_below entry key ≡ true) (take place entries)
  pub above : (entry : IndexEntry) → slice_get entries place ≡ Some entry
      → is_below entry key ≡ false
