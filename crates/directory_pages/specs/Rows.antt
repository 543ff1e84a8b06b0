-- Rows of a directory: a name, and the tag and kind of what it names.
use Rattle.std.specs.Prelude.{◌≡◌, ◌==◌, ◌&&◌, ◌+◌, ◌^◌, ◌<◌, ℕ, zero, suc, Bool, true, not, List, [], ◌∷◌, ◌++◌, Option, Some, None, length, take, drop, nat_eq, nat_le, if◌then◌else◌}
use Rattle.std.specs.Cmp.Lexicographic.{pointwise}
use Rattle.std.specs.List.{list_all, list_any}
use Rattle.cell_records.specs.domain_base.declared.place.Kind.{Kind}
use Rattle.cell_records.specs.domain_base.declared.place.Kind.TheVariants.{File, Directory}
use Rattle.cell_records.specs.domain_base.declared.place.Tag.{Tag}
use Rattle.cell_records.specs.Fields.{number_at}
use Rattle.cell_records.specs.Records.{spelled}
use Rattle.directory_pages.specs.declared.row.Row.{Row}

-- a byte that a name may have: neither zero nor a slash
abbrev pub is_name_byte : ℕ → Bool
is_name_byte byte = not (byte == 0) && not (byte == 47)

-- dots alone, and two at most
abbrev pub is_dots : List ℕ → Bool
is_dots name = nat_le (length name) 2 && list_all (λ byte. byte == 46) name

-- how many bytes a name may have
abbrev pub is_name_len : ℕ → Bool
is_name_len len = nat_le 1 len && nat_le len 255

-- what a row may be called: 1 to 255 bytes that a name may have, except one dot and two dots
abbrev pub is_row_name : List ℕ → Bool
is_row_name name =
    is_name_len (length name) && list_all is_name_byte name && not (is_dots name)

-- a well-formed row
pub record IsRow (row : Row) : Type 0 where
  pub slot : row.tag.slot < 2 ^ 32
  pub seq : row.tag.seq < 2 ^ 16
  pub named : is_row_name row.name ≡ true

-- the number that stands for a kind
abbrev pub kind_number : Kind → ℕ
kind_number File = 1
kind_number Directory = 2

-- the bytes of a row: tag slot, sequence, kind and length of the name, and then the name
abbrev pub row_widths : List ℕ
row_widths = 4 ∷ 2 ∷ 1 ∷ 1 ∷ []

-- the numbers of a row before its name
abbrev pub row_numbers : Row → List ℕ
row_numbers row = row.tag.slot ∷ row.tag.seq ∷ kind_number row.kind ∷ length row.name ∷ []

-- the bytes of a row
abbrev pub spelled_row : Row → List ℕ
spelled_row row = spelled row_widths (row_numbers row) ++ row.name

-- rows one after the other
abbrev pub spelling : List Row → List ℕ
spelling [] = []
spelling (row ∷ rows) = spelled_row row ++ spelling rows

-- ---- the rows that some bytes begin with

-- the kind that a number stands for
abbrev pub kind_of : ℕ → Kind
kind_of number = if number == 2 then Directory else File

-- how long the name of the first row is
abbrev pub name_len : List ℕ → ℕ
name_len bytes = number_at 1 7 bytes

-- the row at the front of some bytes, well formed or not
abbrev pub first_row : List ℕ → Row
first_row bytes = record {
  tag = record { slot = number_at 4 0 bytes; seq = number_at 2 4 bytes };
  kind = kind_of (number_at 1 6 bytes);
  name = take (name_len bytes) (drop 8 bytes);
}

-- the bytes after the first row
abbrev pub other_rows : List ℕ → List ℕ
other_rows bytes = drop (8 + name_len bytes) bytes

-- the first rows, this number of them
abbrev pub first_rows : ℕ → List ℕ → List Row
first_rows zero bytes = []
first_rows (suc n) bytes = first_row bytes ∷ first_rows n (other_rows bytes)

-- the bytes are enough for this number of rows
abbrev pub fit_rows : ℕ → List ℕ → Bool
fit_rows zero bytes = true
fit_rows (suc n) bytes =
    nat_le (8 + name_len bytes) (length bytes) && fit_rows n (other_rows bytes)

-- the bytes begin with a well-formed row
abbrev pub is_row : List ℕ → Bool
is_row bytes =
    nat_le (8 + name_len bytes) (length bytes)
    && (nat_le 1 (number_at 1 6 bytes) && nat_le (number_at 1 6 bytes) 2)
    && is_row_name (take (name_len bytes) (drop 8 bytes))

-- the bytes are this number of well-formed rows, and nothing else
abbrev pub are_rows : ℕ → List ℕ → Bool
are_rows zero bytes = length bytes == 0
are_rows (suc n) bytes = is_row bytes && are_rows n (other_rows bytes)

-- ---- rows by their names

-- whether a row has this name
abbrev pub has_name : List ℕ → Row → Bool
has_name name row = pointwise nat_eq row.name name

-- one of the rows has the name
abbrev pub is_named : List ℕ → List Row → Bool
is_named name rows = list_any (has_name name) rows

-- the tag and kind of the first row that has the name
abbrev pub found : List ℕ → List Row → Option (Tag × Kind)
found name [] = None
found name (row ∷ rows) = if has_name name row then Some (row.tag, row.kind) else found name rows

-- the rows without the first one that has the name
abbrev pub without : List ℕ → List Row → List Row
without name [] = []
without name (row ∷ rows) = if has_name name row then rows else row ∷ without name rows
