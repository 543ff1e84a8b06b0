-- The set that a fileset's files are shown as, if it is known that there is one.
use Rattle.std.specs.Prelude.{◌≡◌, ℕ, List}
use Rattle.std.proofs.Common.{subst}
use Rattle.domain_memory.specs.page_store.Bitfiles.{AreBitfiles, Bitfiles}
use Rattle.domain_memory.specs.page_store.Pages.{AreWhole, Pages}
use Rattle.domain_memory.specs.tag_dirs.declared.dir.TagPlace.{TagPlace}
use Rattle.domain_memory.specs.free_cells.Cells.{Cells}
use Rattle.domain_memory.specs.free_space.Spaces.{Spaces}
use Rattle.domain_memory.specs.fileset_files.Shown.{ShowsAt}
use Rattle.domain_memory.proofs.OfFilesetFiles.Created.{one_chains}
use Rattle.domain_memory.proofs.OfFilesetFiles.ShownOnce.{show_once}
use Rattle.domain_memory.specs.stored_set.Sets.{HasSet, StandsAsSet}
use Rattle.domain_memory.proofs.OfStoredSet.Sound.{sound_at}
use Rattle.domain_memory.proofs.OfStoredSet.StableSet.{has_set}

-- two sets that stand on the same pages are the same
pub one_set : (fileset : ℕ) (places : List TagPlace) (space : Spaces) (cells : Cells)
    (pages : Pages) (one other : Bitfiles) → StandsAsSet fileset places space cells pages one
    → StandsAsSet fileset places space cells pages other → one ≡ other
one_set fileset places space cells pages one other a b = λ i tag.
    show_once pages a.chains one other a.stands.shows
    (λ t. subst (λ o. ShowsAt pages o (other t))
    (one_chains pages fileset places b.chains a.chains b.stands.together.files
    a.stands.together.files t) (b.stands.shows t)) tag i

-- the set that they are shown as
abbrev pub shown : (fileset : ℕ) (places : List TagPlace) (space : Spaces) (cells : Cells)
    (pages : Pages) → ∥ HasSet fileset places space cells pages ∥₁ → Bitfiles
shown fileset places space cells pages held = (has_set fileset places space cells pages held).0

-- it stands
pub shown_stands : (fileset : ℕ) (places : List TagPlace) (space : Spaces) (cells : Cells)
    (pages : Pages) (held : ∥ HasSet fileset places space cells pages ∥₁)
    → StandsAsSet fileset places space cells pages (shown fileset places space cells pages held)
shown_stands fileset places space cells pages held =
    (has_set fileset places space cells pages held).1

-- and no other does
pub shown_is : (fileset : ℕ) (places : List TagPlace) (space : Spaces) (cells : Cells)
    (pages : Pages) (held : ∥ HasSet fileset places space cells pages ∥₁) (set : Bitfiles)
    → StandsAsSet fileset places space cells pages set
    → shown fileset places space cells pages held ≡ set
shown_is fileset places space cells pages held set was =
    one_set fileset places space cells pages (shown fileset places space cells pages held) set
    (shown_stands fileset places space cells pages held) was

-- its files are within their limits
pub shown_sound : (fileset : ℕ) (places : List TagPlace) (space : Spaces) (cells : Cells)
    (pages : Pages) (held : ∥ HasSet fileset places space cells pages ∥₁) → AreWhole pages
    → AreBitfiles (shown fileset places space cells pages held)
shown_sound fileset places space cells pages held whole = λ tag.
    sound_at fileset places space cells pages (shown fileset places space cells pages held) whole
    (shown_stands fileset places space cells pages held) tag
