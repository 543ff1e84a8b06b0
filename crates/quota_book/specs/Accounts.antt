-- The shares of owners, now and as they were kept, and what changes of them do.
use Rattle.std.specs.Prelude.{◌≡◌, ◌+◌, ◌≤◌, ℕ, Bool, true, false, not, List, [], ◌∷◌, ◌++◌, length, map, unwrap_or, IsTrue, if◌then◌else◌}
use Rattle.std.specs.List.{list_any}
use Rattle.std.specs.Option.{ForSome}
use Rattle.std.specs.FinMap as fin_map
use Rattle.std.specs.FinMap.Entries.{find, is_sorted, where_key}
use Rattle.fileset_model.specs.fileset_values.Orders.{owner_cmp}
use Rattle.fileset_model.specs.Usage.{is_unlimited}
use Rattle.fileset_model.specs.fileset_values.declared.command.Owner.{Owner}
use Rattle.fileset_model.specs.declared.fileset.Usage.{Usage}
use Rattle.quota_book.specs.declared.account.Account.{Account}
use Rattle.quota_book.specs.declared.account.Account.TheVariants.{Same, Changed}
use Rattle.quota_book.specs.declared.account.Share.{Share}
use Rattle.quota_book.specs.declared.account.Side.{Side}
pub use Rattle.quota_book.specs.declared.account.Side.TheVariants.{Now, Kept}
use Rattle.quota_book.specs.Owners.{nothing, same_owner}
use Rattle.quota_book.specs.Book.{Book, KeptBook, is_nothing}

-- a list of owners with their accounts
abbrev pub Accounts : Type 0
Accounts = List (Owner × Account)

-- each of an account's two shares
abbrev pub share_on : Side → Account → Share
share_on side (Same share) = share
share_on Now (Changed now was) = now
share_on Kept (Changed now was) = was

-- both are one, as the account says
abbrev pub is_same : Account → Bool
is_same (Same share) = true
is_same (Changed now was) = false

abbrev pub no_share : Share
no_share = record { usage = nothing; limits = record { files = 0; blocks = 0 } }

-- an owner's account, and each of its shares
abbrev pub account_at : Accounts → Owner → Account
account_at accounts who = unwrap_or (find owner_cmp who accounts) (Same no_share)

-- what an owner uses and may use, now or as it was kept
abbrev pub share_at : Side → Accounts → Owner → Share
share_at side accounts who = share_on side (account_at accounts who)

abbrev pub used_at : Accounts → Owner → Usage
used_at accounts who = (share_at Now accounts who).usage

-- ** The books of both sides

-- those who use something, and those whom limits bind
abbrev pub uses_some : Side → Accounts → Owner → Bool
uses_some side accounts who = not (is_nothing (share_at side accounts who).usage)

-- an owner's limits bind, so that the book has an entry of them
abbrev pub is_bound : Side → Accounts → Owner → Bool
is_bound side accounts who = not (is_unlimited (share_at side accounts who).limits)

-- the book that the shares of a side make
abbrev pub book_on : Side → Accounts → Book
book_on side accounts = record {
  totals = fin_map.from_sorted (map (λ (e : Owner × Account). (e.0, (share_on side e.1).usage))
      (where_key owner_cmp (uses_some side accounts) accounts));
  limits = fin_map.from_sorted (map (λ (e : Owner × Account). (e.0, (share_on side e.1).limits))
      (where_key owner_cmp (is_bound side accounts) accounts));
}

-- the two books of a list of accounts, now and as they were kept
abbrev pub books_of : Accounts → KeptBook
books_of accounts = record { book = book_on Now accounts; kept = book_on Kept accounts }

-- ** The list of owners whose accounts may have changed

-- the owner is on the list of those whose two shares may differ
abbrev pub is_listed : List Owner → Owner → Bool
is_listed changed who = list_any (same_owner who) changed

-- the list with an owner after the others, or as it is
abbrev pub with_owner : Bool → Owner → List Owner → List Owner
with_owner true who changed = changed ++ who ∷ []
with_owner false who changed = changed

-- how many accounts have two equal shares
abbrev pub count_same : Accounts → ℕ
count_same [] = 0
count_same (entry ∷ accounts) =
    if is_same entry.1 then 1 + count_same accounts else count_same accounts

-- accounts in the order of owners; those that may have changed are listed, each once
pub record AreAccounts (accounts : Accounts) (changed : List Owner) : Type 0 where
  pub sorted : IsTrue (is_sorted owner_cmp accounts)
  pub listed : (who : Owner) → ForSome (find owner_cmp who accounts)
      (λ account. is_same account ≡ false → is_listed changed who ≡ true)
  pub once : length changed + count_same accounts ≤ length accounts

-- there is room for `many` accounts, and for as many owners on the list
pub record HaveRoom (many room list_room : ℕ) : Type 0 where
  pub fit : many ≤ room
  pub list_fits : many ≤ list_room

-- ** Changes

-- one owner has this share now, and each other one has what it had; what was kept stays
pub record SetsShare (who : Owner) (share : Share) (old new : Accounts) : Type 0 where
  pub now : (other : Owner) → share_at Now new other
      ≡ (if same_owner other who then share else share_at Now old other)
  pub kept : (other : Owner) → share_at Kept new other ≡ share_at Kept old other

-- what the owners that pass a test use has changed so, and nothing else
pub record ChangesUsage (change : Usage → Usage) (is_one : Owner → Bool) (old new : Accounts) : Type 0
  where
    pub used : (who : Owner) → used_at new who
        ≡ (if is_one who then change (used_at old who) else used_at old who)
    pub limits : (who : Owner) → (share_at Now new who).limits ≡ (share_at Now old who).limits
    pub kept : (who : Owner) → share_at Kept new who ≡ share_at Kept old who

-- an owner's account says one share, which it had on a side; the others are as they were
pub record SettlesOne (side : Side) (who : Owner) (old new : Accounts) : Type 0 where
  pub others : (other : Owner) → same_owner other who ≡ false
      → find owner_cmp other new ≡ find owner_cmp other old
  pub same : ForSome (find owner_cmp who new) (λ account. is_same account ≡ true)
  pub share : share_at side new who ≡ share_at side old who
  pub count : count_same new + length old ≤ count_same old + length new + 1

-- all accounts say one share, which they had on a side
pub record SettlesAll (side : Side) (old new : Accounts) : Type 0 where
  pub shares : (who : Owner) → share_at side new who ≡ share_at side old who
  pub same : (who : Owner) → ForSome (find owner_cmp who new)
      (λ account. is_same account ≡ true)
