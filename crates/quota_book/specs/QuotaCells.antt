-- How the limits of users and groups stand in the records of quota cells. The fileset's own stand
-- in its slot of the fileset table.
use Rattle.std.specs.Prelude.{◌≡◌, ◌||◌, ℕ, suc, Bool, true, false, nat_lt, length, List, [], ◌∷◌, Option, Some, None, is_some, unwrap_or, slice_index_or, slice_set, if◌then◌else◌}
use Rattle.std.specs.List.{IsDistinct, filter_map, flat_map}
use Rattle.std.specs.Option.{option_map, option_map_or}
use Rattle.std.specs.FinMap as map
use Rattle.std.specs.FinMap.Entries.{find, put}
use Rattle.cell_records.specs.declared.record.Record.{Record}
use Rattle.cell_records.specs.declared.record.Record.TheVariants.{UserQuota, GroupQuota}
use Rattle.fileset_model.specs.fileset_values.Orders.{owner_cmp}
use Rattle.fileset_model.specs.fileset_values.declared.command.Owner.{Owner}
use Rattle.fileset_model.specs.fileset_values.declared.command.Owner.TheVariants.{User, Group}
use Rattle.fileset_model.specs.declared.fileset.Limits.{Limits}
use Rattle.quota_book.specs.Owners.{same_owner}
use Rattle.quota_book.specs.Book.{Book, HasBindingLimits, limits_in}

-- owners with their limits
abbrev pub Said : Type 0
Said = List (Owner × Limits)

-- the owner that a record is of, with the limits that it says
abbrev pub limits_said : Record → Option (Owner × Limits)
limits_said (UserQuota id files blocks) =
    Some (User id, record { files = files; blocks = blocks })
limits_said (GroupQuota id files blocks) =
    Some (Group id, record { files = files; blocks = blocks })
limits_said _ = None

-- what records say, in their order, which is that of owners within a cell
abbrev pub said_by : List Record → Said
said_by records = filter_map limits_said records

-- an owner's limits, which are none if nothing is said of the owner; 0 is none too
abbrev pub limits_at : Said → Owner → Limits
limits_at said who = unwrap_or (find owner_cmp who said) (record { files = 0; blocks = 0 })

-- nothing is said of an owner twice
abbrev pub AreOnce : Said → Type 0
AreOnce said = IsDistinct (λ (a b : Owner × Limits). same_owner a.0 b.0) said

-- owners that were noted; one more is, or it was noted before
abbrev pub Seen : Type 0
Seen = List (Owner × Unit {0})

-- something was said of an owner so far
abbrev pub was_seen : Seen → Owner → Bool
was_seen seen who = is_some (find owner_cmp who seen)

-- an owner is noted, or was noted before
abbrev pub Notes : Owner → Seen → Seen → Bool → Type 0
Notes who old new true = (was_seen old who ≡ false)
    × ((other : Owner) → was_seen new other ≡ (same_owner other who || was_seen old other))
Notes who old new false = was_seen old who ≡ true

-- the owner that a record says is noted so; a record may say none
abbrev pub NotesSaid : Option (Owner × Limits) → Seen → Seen → Bool → Type 0
NotesSaid None old new noted = (noted ≡ true) × (new ≡ old)
NotesSaid (Some said) old new noted = Notes said.0 old new noted

-- a book with no totals, and the limits that are said; those that bind nothing have no entry
pub record HasLimits (said : Said) (book : Book) : Type 0 where
  pub unused : book.totals ≡ map.empty
  pub limits : (who : Owner) → limits_in book who ≡ limits_at said who
  pub binding : HasBindingLimits book

-- a book in which the owner of a record has the limits that it says, if it says any
abbrev pub limits_after : Option (Owner × Limits) → Owner → Limits → Limits
limits_after said who before =
    option_map_or (λ (e : Owner × Limits). if same_owner who e.0 then e.1 else before) said before

-- a book that takes the limits of one record, and no entry of limits that bind nothing
pub record TakesLimits (said : Option (Owner × Limits)) (old new : Book) : Type 0 where
  pub totals : new.totals ≡ old.totals
  pub limits : (who : Owner) → limits_in new who ≡ limits_after said who (limits_in old who)
  pub binding : HasBindingLimits old → HasBindingLimits new

-- ** Which cell a change touches

-- something is said of an owner in a cell; it has room for one more record of 28 bytes among 272
abbrev pub is_said : Owner → Said → Bool
is_said who cell = is_some (find owner_cmp who cell)

-- a cell has room for one more record of limits, of nine
abbrev pub has_room : Said → Bool
has_room cell = nat_lt (length cell) 9

-- the first cell of a chain that passes a test
abbrev pub first_where : (Said → Bool) → List Said → Option ℕ
first_where test [] = None
first_where test (c ∷ cs) = if test c then Some 0 else option_map suc (first_where test cs)

abbrev pub or_else : Option ℕ → Option ℕ → Option ℕ
or_else None other = other
or_else (Some k) other = Some k

-- the cell that a change of an owner's limits touches: the first in which something is said of the
-- owner, or else the first that has room; if there is none, a cell has to be added
abbrev pub touched : List Said → Owner → Option ℕ
touched cells who = or_else (first_where (is_said who) cells) (first_where has_room cells)

-- what all cells of a chain say
abbrev pub all_said : List Said → Said
all_said cells = flat_map (λ (c : Said). c) cells

-- the cells with these limits of an owner in one of them, in its place
abbrev pub with_quota : ℕ → Owner → Limits → List Said → List Said
with_quota k who limits cells =
    slice_set cells k (put owner_cmp who limits (slice_index_or cells k []))
