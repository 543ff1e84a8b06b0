-- How full the volumes of a domain are, one beside the other. A volume's used share is its used
-- pages over its pages; shares are compared by cross products.
use Rattle.std.specs.Prelude.{◌≡◌, ◌≢◌, ◌+◌, ◌-◌, ◌*◌, ◌<◌, ◌≤◌, ℕ, false, List, length, All, AllPairs, Contains, Some, slice_get}
use Rattle.log_recovery.specs.domain_base.declared.place.Home.{Home}
use Rattle.member_moves.specs.declared.balance.End.{End}
use Rattle.member_moves.specs.declared.balance.End.TheVariants.{Fullest, Emptiest}
use Rattle.member_moves.specs.declared.counts.VolCount.{VolCount}

-- counts of distinct volumes, each with pages and no more of them used than it has
pub record AreCounts (counts : List VolCount) : Type 0 where
  pub distinct : AllPairs (λ a b. a.vol ≢ b.vol) counts
  pub sized : All (λ c. 1 ≤ c.pages) counts
  pub within : All (λ c. c.used ≤ c.pages) counts

-- a volume that gives storage
pub record IsOpenOf (counts : List VolCount) (c : VolCount) : Type 0 where
  pub there : Contains counts c
  pub is_open : c.closed ≡ false

-- the used share of the first is at most that of the second
abbrev pub HasShareUpTo : VolCount → VolCount → Type 0
HasShareUpTo a b = a.used * b.pages ≤ b.used * a.pages

-- the open volume with the greatest used share, and the lowest number of those
pub record IsFullest (counts : List VolCount) (f : VolCount) : Type 0 where
  pub open_volume : IsOpenOf counts f
  pub greatest : (c : VolCount) → IsOpenOf counts c → HasShareUpTo c f
  pub first : (c : VolCount) → IsOpenOf counts c → HasShareUpTo f c → f.vol ≤ c.vol

-- the open volume with the least used share, and the lowest number of those
pub record IsEmptiest (counts : List VolCount) (e : VolCount) : Type 0 where
  pub open_volume : IsOpenOf counts e
  pub least : (c : VolCount) → IsOpenOf counts c → HasShareUpTo e c
  pub first : (c : VolCount) → IsOpenOf counts c → HasShareUpTo c e → e.vol ≤ c.vol

-- the first volume is taken before the second, if volumes are taken from this end by their used
-- share, and those with one share by their number
abbrev pub Precedes : End → VolCount → VolCount → Type 0
Precedes Fullest a b = HasShareUpTo b a × (HasShareUpTo a b → a.vol ≤ b.vol)
Precedes Emptiest a b = HasShareUpTo a b × (HasShareUpTo b a → a.vol ≤ b.vol)

-- the open volume at this end
abbrev pub IsAtEnd : End → List VolCount → VolCount → Type 0
IsAtEnd Fullest counts c = IsFullest counts c
IsAtEnd Emptiest counts c = IsEmptiest counts c

-- no volume gives storage
abbrev pub NoneIsOpen : List VolCount → Type 0
NoneIsOpen counts = (c : VolCount) → ¬ IsOpenOf counts c

-- no move of one page from the first, which is no emptier, to the second brings their used shares
-- nearer: the law `nearer` tells it by how far apart they are before and after
abbrev pub IsLevel : VolCount → VolCount → Type 0
IsLevel f e = 2 * (f.used * e.pages - e.used * f.pages) ≤ e.pages + f.pages

-- the fullest and the emptiest open volume are level; this holds also if no volume is open
abbrev pub AreEven : List VolCount → Type 0
AreEven counts = (f e : VolCount) → IsFullest counts f → IsEmptiest counts e → IsLevel f e

-- the fullest and the emptiest open volume, by their numbers, if they are not level
pub record IsUneven (counts : List VolCount) (full empty : ℕ) : Type 0 where
  pub f : VolCount
  pub e : VolCount
  pub fullest : IsFullest counts f
  pub emptiest : IsEmptiest counts e
  pub not_level : ¬ IsLevel f e
  pub is_full : f.vol ≡ full
  pub is_empty : e.vol ≡ empty

-- the home at this index is on the volume, and none before it
pub record IsFirstOn (homes : List Home) (vol i : ℕ) : Type 0 where
  pub within : i < length homes
  pub there : (home : Home) → slice_get homes i ≡ Some home → home.vol ≡ vol
  pub first : (j : ℕ) (home : Home) → j < i → slice_get homes j ≡ Some home → home.vol ≢ vol
