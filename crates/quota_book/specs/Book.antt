-- What the owners of a fileset use, and their limits.
use Rattle.std.specs.Prelude.{◌≡◌, ◌+◌, ◌-◌, ◌^◌, ◌<◌, ◌≤◌, ◌==◌, ◌&&◌, ℕ, Bool, false, [], ◌∷◌, Option, Some, unwrap_or, refl, if◌then◌else◌}
use Rattle.std.specs.Coded.{Coded, code_by, coded×}
use Rattle.std.specs.FinMap as map
use Rattle.fileset_model.specs.fileset_values.Orders.{owner_cmp}
use Rattle.fileset_model.specs.Paths.{first_refusal, refuse_if}
use Rattle.fileset_model.specs.Usage.{is_owned, is_unlimited, passes}
use Rattle.fileset_model.specs.fileset_values.declared.command.Owner.{Owner}
use Rattle.fileset_model.specs.fileset_values.declared.command.Owner.TheVariants.{User, Group, Fileset}
use Rattle.fileset_model.specs.declared.fileset.Limits.{Limits}
use Rattle.fileset_model.specs.declared.fileset.Usage.{Usage}
use Rattle.fileset_model.specs.fileset_values.declared.reply.Refusal.{Refusal}
use Rattle.fileset_model.specs.fileset_values.declared.reply.Refusal.TheVariants.{QuotaFiles, QuotaBlocks}
use Rattle.fileset_model.specs.fileset_values.contracts.command.Owner as owner
use Rattle.fileset_model.specs.contracts.fileset.Limits as limits
use Rattle.fileset_model.specs.contracts.fileset.Usage as usage
use Rattle.quota_book.specs.Owners.{nothing}

-- from owners to what they use, and to their limits
pub record Book : Type 0 where
  pub totals : map.FinMap owner_cmp Usage
  pub limits : map.FinMap owner_cmp Limits

abbrev pub book_code : Coded Book
book_code =
    code_by (map.FinMap owner_cmp Usage × map.FinMap owner_cmp Limits)
    (coded× (map.code owner.the_row.coded usage.the_row.coded)
    (map.code owner.the_row.coded limits.the_row.coded))
    (λ b. (b.totals, b.limits))
    (λ p. record { totals = p.0; limits = p.1 })
    (λ _. refl)

abbrev pub empty_book : Book
empty_book = record { totals = map.empty; limits = map.empty }

-- a book, and what it was when it was kept
pub record KeptBook : Type 0 where
  pub book : Book
  pub kept : Book

abbrev pub kept_book_code : Coded KeptBook
kept_book_code =
    code_by (Book × Book) (coded× book_code book_code)
    (λ b. (b.book, b.kept))
    (λ p. record { book = p.0; kept = p.1 })
    (λ _. refl)

-- what an owner uses, and their limits
abbrev pub used : Book → Owner → Usage
used book who = unwrap_or (map.get book.totals who) nothing

-- an owner's limits in a book, 0 and 0 if it has no entry
abbrev pub limits_in : Book → Owner → Limits
limits_in book who = unwrap_or (map.get book.limits who) (record { files = 0; blocks = 0 })

-- no owner who uses nothing has an entry
abbrev pub HasNoTrace : Book → Type 0
HasNoTrace book = (who : Owner) → ¬ map.get book.totals who ≡ Some nothing

-- no owner whose limits bind nothing has an entry
abbrev pub HasBindingLimits : Book → Type 0
HasBindingLimits book = (who : Owner) (limits : Limits) → map.get book.limits who ≡ Some limits
    → is_unlimited limits ≡ false

abbrev pub is_nothing : Usage → Bool
is_nothing usage = usage.files == 0 && usage.blocks == 0

-- what the limits of an owner refuse, if `files` more files and `blocks` more blocks are asked for
abbrev pub refusal_in : Book → Owner → ℕ → ℕ → Option Refusal
refusal_in book who files blocks =
    let limits : Limits = limits_in book who in
    let usage : Usage = used book who in
    first_refusal
    (refuse_if (passes limits.files usage.files files) (QuotaFiles limits.files usage.files)
    ∷ refuse_if (passes limits.blocks usage.blocks blocks)
    (QuotaBlocks limits.blocks usage.blocks blocks)
    ∷ [])

-- what an owner uses with `files` more files and `blocks` more blocks
abbrev pub raised : ℕ → ℕ → Usage → Usage
raised files blocks usage = record { files = usage.files + files; blocks = usage.blocks + blocks }

-- what an owner uses with `files` fewer files and `blocks` fewer blocks
abbrev pub lowered : ℕ → ℕ → Usage → Usage
lowered files blocks usage = record { files = usage.files - files; blocks = usage.blocks - blocks }

-- a usage with `files` and `blocks` more is below 2^64; one usage is within another
abbrev pub IsBelow : ℕ → ℕ → Usage → Type 0
IsBelow files blocks usage = (usage.files + files < 2 ^ 64) × (usage.blocks + blocks < 2 ^ 64)

abbrev pub IsWithin : Usage → Usage → Type 0
IsWithin part usage = (part.files ≤ usage.files) × (part.blocks ≤ usage.blocks)

-- what the user, the group and the fileset use with `files` and `blocks` more is below 2^64
pub record FitsAll (uid gid files blocks : ℕ) (uses : Owner → Usage) : Type 0 where
  pub user : IsBelow files blocks (uses (User uid))
  pub group : IsBelow files blocks (uses (Group gid))
  pub all : IsBelow files blocks (uses Fileset)

-- the user, the group and the fileset use at least `files` and `blocks`
pub record HasAll (uid gid files blocks : ℕ) (uses : Owner → Usage) : Type 0 where
  pub user : IsWithin (record { files = files; blocks = blocks }) (uses (User uid))
  pub group : IsWithin (record { files = files; blocks = blocks }) (uses (Group gid))
  pub all : IsWithin (record { files = files; blocks = blocks }) (uses Fileset)

-- each of them uses `files` and `blocks` more, and no other owner does
abbrev pub ChargesAll : ℕ → ℕ → ℕ → ℕ → (Owner → Usage) → (Owner → Usage) → Type 0
ChargesAll uid gid files blocks old new = (who : Owner) → new who
    ≡ (if is_owned who uid gid then raised files blocks (old who) else old who)

-- the user, the group and the fileset use `files` and `blocks` less, and no other owner does
abbrev pub RefundsAll : ℕ → ℕ → ℕ → ℕ → (Owner → Usage) → (Owner → Usage) → Type 0
RefundsAll uid gid files blocks old new = (who : Owner) → new who
    ≡ (if is_owned who uid gid then lowered files blocks (old who) else old who)

-- the book after a charge: its limits stay
pub record Charges (uid gid files blocks : ℕ) (old new : Book) : Type 0 where
  pub totals : ChargesAll uid gid files blocks (used old) (used new)
  pub limits : new.limits ≡ old.limits

-- the book after a refund: its limits stay
pub record Refunds (uid gid files blocks : ℕ) (old new : Book) : Type 0 where
  pub totals : RefundsAll uid gid files blocks (used old) (used new)
  pub limits : new.limits ≡ old.limits
