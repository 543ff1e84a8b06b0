-- Sets of first cells of chains, told as far as whether they have one cell alone.
use Rattle.std.specs.Prelude.{◌≡◌, ◌↔◌, ◌⊎◌, ℕ, List, Contains, Option, Some, None, if◌then◌else◌}
use Rattle.metadata_cells.specs.domain_base.declared.place.CellAt.{CellAt}
use Rattle.metadata_cells.specs.Chain.{is_at, key_of}
use Rattle.metadata_cells.specs.sorted_sets.Rising.{Sets, value_at}
use Rattle.cell_chains.specs.Links.{HasLink}
use Rattle.cell_chains.specs.declared.links.CellLink.{CellLink}
use Rattle.cell_chains.specs.declared.links.CellLinks.{CellLinks}
use Rattle.cell_chains.specs.declared.set.CellSet.{CellSet}
use Rattle.cell_chains.specs.Heads.{IsChained}
use Rattle.cell_chains.specs.declared.map.StartMap.{StartMap}
use Rattle.cell_chains.specs.declared.starts.Starts.{Starts}
use Rattle.cell_chains.specs.declared.starts.Starts.TheVariants.{One, Several}

-- what is told under each number
abbrev pub told_in : StartMap → ℕ → Option Starts
told_in map = value_at map.starts.items

-- what is told of a cell
abbrev pub starts_of : StartMap → CellAt → Option Starts
starts_of map at = told_in map (key_of at)

-- that is told of a set of cells: it has none, one alone, or two at least
abbrev pub Tells : Option Starts → (CellAt → Type 0) → Type 0
Tells None Has = (at : CellAt) → ¬ Has at
Tells (Some (One start)) Has = (at : CellAt) → Has at ↔ (at ≡ start)
Tells (Some Several) Has = (a : CellAt) × (b : CellAt) × Has a × Has b × ¬ a ≡ b

-- what is told of a set of one cell joined with another set, and of two sets joined
abbrev pub with_start : CellAt → Starts → Starts
with_start start (One other) = if is_at start other then One start else Several
with_start start Several = Several

-- two sets of first cells as one, of which only none, one alone and several are told apart
abbrev pub joined : Option Starts → Starts → Starts
joined None more = more
joined (Some (One start)) more = with_start start more
joined (Some Several) more = Several

-- a cell of one set is another than some cell of the other set
abbrev pub Differ : Option Starts → Starts → Type 0
Differ None other = ⊥
Differ (Some (One start)) (One other) = ¬ start ≡ other
Differ (Some (One start)) Several = Unit {0}
Differ (Some Several) other = Unit {0}

-- the set that is told under a number is joined with another one, and all others stay
abbrev pub Joins : StartMap → StartMap → ℕ → Starts → Type 0
Joins old new key more =
    Sets old.starts.items new.starts.items key (joined (told_in old key) more)

-- ** A first cell is added to the sets of the cells of its chain

-- a cell of a list stands under a number
abbrev pub HasKey : List CellAt → ℕ → Type 0
HasKey cells key = (at : CellAt) × Contains cells at × (key_of at ≡ key)

-- the set under a number has one cell more, or is as before
abbrev pub AddsOne : CellAt → StartMap → StartMap → ℕ → Type 0
AddsOne start old new key = told_in new key ≡ Some (joined (told_in old key) (One start))

-- nothing else is told under this number
abbrev pub Stays : StartMap → StartMap → ℕ → Type 0
Stays old new key = told_in new key ≡ told_in old key

-- a first cell is added to the sets of the cells of its chain, and to no others
abbrev pub AddsChain : List CellAt → CellAt → StartMap → StartMap → Type 0
AddsChain cells start old new = (key : ℕ) → (HasKey cells key × AddsOne start old new key)
    ⊎ ((¬ HasKey cells key) × Stays old new key)

-- the same by the chain, of cells in use
abbrev pub AddsStart : CellLinks → CellSet → CellAt → CellLink → StartMap → StartMap → Type 0
AddsStart links led start first old new =
    (at : CellAt) (link : CellLink) → HasLink links at link
    → (IsChained links led start first at × AddsOne start old new (key_of at))
    ⊎ ((¬ IsChained links led start first at) × Stays old new (key_of at))
