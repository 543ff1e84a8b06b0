-- The hashes of rows with the pages on which they stand, by directories.
use Rattle.std.specs.Prelude.{◌≡◌, ◌==◌, ◌&&◌, ℕ, Bool, List, [], Vec, count_by, unwrap_or, vec_items}
use Rattle.std.specs.BTreeMap.{BTreeMap, get, is_at}
use Rattle.std.specs.Option.{option_map}
use Rattle.page_faults.specs.domain_base.contracts.place.TagOrd.TheImpl as tag_ord
use Rattle.page_faults.specs.domain_base.declared.place.Tag.{Tag}
use Rattle.page_faults.specs.directory_pages.Entries.{hash_of}
use Rattle.directory_faults.specs.declared.rows.RowThere.{RowThere}
use Rattle.index_row_faults.specs.Counts.{is_key}

-- what a map has for a directory
abbrev pub keys_in : {Z : Type 0} → BTreeMap Tag (Vec (ℕ × ℕ) Z) → Tag → List (ℕ × ℕ)
keys_in keys dir = unwrap_or (option_map vec_items (get ((tag_ord.ghosts).cmp) keys dir)) []

-- a row stands on this page of the directory, and its name has this hash
abbrev pub has_key : Tag → ℕ → ℕ → RowThere → Bool
has_key dir hash page r = is_at ((tag_ord.ghosts).cmp r.at.dir) dir
    && (hash_of r.row.name == hash) && (r.at.page == page)

-- a map has for each directory each hash and page as often as rows
abbrev pub AreKeys : {Z : Type 0} → List RowThere → BTreeMap Tag (Vec (ℕ × ℕ) Z) → Type 0
AreKeys rows keys = (dir : Tag) (hash page : ℕ)
    → count_by (is_key hash page) (keys_in keys dir) ≡ count_by (has_key dir hash page) rows
