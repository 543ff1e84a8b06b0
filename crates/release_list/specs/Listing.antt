-- A list of things to be let go of, and what is added to it.
use Rattle.std.specs.List.{swap}
use Rattle.std.specs.Prelude.{◌≡◌, ◌⊎◌, ◌<◌, ◌++◌, ◌∷◌, ℕ, List, [], Option, Some, None, Contains, get_or, length, map, slice_set, if◌then◌else◌}
use Rattle.file_release.specs.domain_base.declared.place.CellAt.{CellAt}
use Rattle.file_release.specs.domain_base.declared.place.Home.{Home}
use Rattle.file_release.specs.metadata_cells.Chain.{is_at}
use Rattle.release_list.specs.declared.list.Entry.{Entry}

-- files that are to lose some of their pages or everything, and pages of tag directories
pub record Listing : Type 0 where
  pub entries : List Entry
  pub tag_pages : List Home

-- a list, and for how many entries more it has room
pub record Roomy : Type 0 where
  pub list : Listing
  pub room : ℕ

-- nothing is on it
abbrev pub IsEmpty : Listing → Type 0
IsEmpty list = (list.entries ≡ []) × (list.tag_pages ≡ [])

-- no entry's clone gives an entry of it that stands in front: what reads through a file goes first
abbrev pub AreInOrder : List Entry → Type 0
AreInOrder entries = (i j : ℕ) (d : Entry) → i < length entries → j < length entries
    → (get_or entries i d).clone ≡ Some (get_or entries j d).at → i < j

-- ** What is added

-- the file had an entry at a place, which has that clone now, and each other one is as it was
pub record SetsEntry (at : CellAt) (clone : Option CellAt) (place : ℕ) (old new : List Entry) : Type 0
  where
    pub within : place < length old
    pub was : (d : Entry) → (get_or old place d).at ≡ at
    pub is : new ≡ slice_set old place (record { at = at; clone = clone })

-- no entry had the file, and one has it now, after all others
pub record AddsEntry (at : CellAt) (clone : Option CellAt) (place : ℕ) (old new : List Entry) : Type 0
  where
    pub none : (entry : Entry) → Contains old entry → ¬ entry.at ≡ at
    pub behind : place ≡ length old
    pub is : new ≡ old ++ record { at = at; clone = clone } ∷ []

-- an entry has the file: one that had it, or a new one after all others
abbrev pub Puts : CellAt → Option CellAt → ℕ → List Entry → List Entry → Type 0
Puts at clone place old new = SetsEntry at clone place old new ⊎ AddsEntry at clone place old new

-- a file has an entry before a place, and the two entries change places
pub record ChangesPlaces (at : CellAt) (place : ℕ) (old new : List Entry) : Type 0 where
  pub front : ℕ
  pub in_front : front < place
  pub has : (d : Entry) → (get_or old front d).at ≡ at
  pub is : new ≡ swap old front place

-- it has none there
pub record HasNoneInFront (at : CellAt) (place : ℕ) (old new : List Entry) : Type 0 where
  pub none : (k : ℕ) (d : Entry) → k < place → ¬ (get_or old k d).at ≡ at
  pub is : new ≡ old

-- the entry of a clone's file does not stand before the entry at a place
abbrev pub Orders : Option CellAt → ℕ → List Entry → List Entry → Type 0
Orders None place old new = new ≡ old
Orders (Some clone) place old new =
    ChangesPlaces clone place old new ⊎ HasNoneInFront clone place old new

-- an entry has the file, with that clone, and that of the clone's file does not stand before it
pub record Adds (at : CellAt) (clone : Option CellAt) (old new : List Entry) : Type 0 where
  pub place : ℕ
  pub between : List Entry
  pub puts : Puts at clone place old between
  pub orders : Orders clone place between new

-- ** What is gone

-- a clone unless it is this one
abbrev pub clone_but : CellAt → Option CellAt → Option CellAt
clone_but at None = None
clone_but at (Some clone) = if is_at clone at then None else Some clone

-- an entry that does not give the file as its clone's
abbrev pub without : CellAt → Entry → Entry
without at entry = record entry { clone = clone_but at entry.clone }

-- the entries, none of which gives the file as its clone's
abbrev pub without_clone : CellAt → List Entry → List Entry
without_clone at entries = map (without at) entries
