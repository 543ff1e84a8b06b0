-- What comes on the list of things to be let go of.
use Rattle.std.specs.Prelude.{◌≡◌, ℕ, ◌<◌, ◌++◌, ◌∷◌, Bool, List, [], None, get_or, if◌then◌else◌, length, map}
use Rattle.std.specs.List.{list_any}
use Rattle.standing_laws.specs.domain_base.declared.place.CellAt.{CellAt}
use Rattle.standing_laws.specs.metadata_cells.Chain.{is_at}
use Rattle.standing_laws.specs.release_list.Listing.{Listing}
use Rattle.standing_laws.specs.release_list.declared.list.Entry.{Entry}

-- an entry has the file that begins there
abbrev pub has_entry : CellAt → List Entry → Bool
has_entry at entries = list_any (λ (e : Entry). is_at e.at at) entries

-- an entry, without its clone if it is the entry of that file
abbrev pub without_clone_at : CellAt → Entry → Entry
without_clone_at at e = if is_at e.at at then record { at = at; clone = None } else e

-- the entries with one of a file that begins there, which no clone reads through: the one that it
-- has, or one after all others
abbrev pub put_on : CellAt → List Entry → List Entry
put_on at entries = if has_entry at entries then map (without_clone_at at) entries
    else entries ++ record { at = at; clone = None } ∷ []

-- and with one of each of these
abbrev pub put_all_on : List CellAt → List Entry → List Entry
put_all_on [] entries = entries
put_all_on (at ∷ more) entries = put_all_on more (put_on at entries)

-- the list with an entry for each of these files
abbrev pub list_with : List CellAt → Listing → Listing
list_with listed list = record list { entries = put_all_on listed list.entries }

-- no file has two entries
abbrev pub HaveOnce : List Entry → Type 0
HaveOnce entries = (i j : ℕ) (d : Entry) → i < length entries → j < length entries
    → (get_or entries i d).at ≡ (get_or entries j d).at → i ≡ j
