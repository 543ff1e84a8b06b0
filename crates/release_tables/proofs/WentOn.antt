-- Steps go on in a file of the domain, and calls on files lead to where they do so.
use Rattle.std.proofs.Common.{◌≡◌, ◌∙◌, ℕ, Option, None, sym, subst}
use Rattle.release_steps.specs.domain_base.declared.place.Tag.{Tag}
use Rattle.release_steps.specs.domain_base.declared.version.Version.{Version}
use Rattle.release_steps.specs.release_list.declared.cursor.Cursor.{Cursor}
use Rattle.release_steps.specs.release_list.Cursors.{IsAhead, IsOfEntry}
use Rattle.release_steps.specs.release_list.Steps.{now_of}
use Rattle.release_steps.specs.Ahead.{GoesOnIn}
use Rattle.release_steps.specs.Calls.{FilesetNow, StandsWell}
use Rattle.release_steps.proofs.GoneOn.{goes_on_in}
use Rattle.release_steps.proofs.InFiles.{in_a_file}
use Rattle.release_steps.proofs.SourcesStay.{sources_stay}
use Rattle.release_tables.specs.Called.{HasCalled, HasNoClone, Parts, fileset_in}
use Rattle.release_tables.specs.Onward.{IsGoingOn}
use Rattle.release_tables.specs.Stood.{IsStood}
use Rattle.release_tables.proofs.Callings.{stands_now}

-- where steps were done, they go on in the file of an entry
pub onward : (fileset : ℕ) (now : Parts) (cursor : Option Cursor) → IsAhead now.pages cursor → IsOfEntry now.list.entries cursor → IsStood fileset now → IsGoingOn fileset now cursor
onward fileset now cursor ahead on stood = (
  stood.0,
  stood.1,
  stood.2,
  stood.3,
  in_a_file (now_of now.list stood.0 now.space now.cells now.pages) stood.3.well cursor ahead on,
)

-- or from the start of one
pub from_start : (fileset : ℕ) (now : Parts) (cursor : Option Cursor) → cursor ≡ None → IsStood fileset now → IsGoingOn fileset now cursor
from_start fileset now cursor none stood = (
  stood.0,
  stood.1,
  stood.2,
  stood.3,
  subst (λ (o : Option Cursor). GoesOnIn (now_of now.list stood.0 now.space now.cells now.pages) o) (sym none) (tt, tt),
)

pub is_stood : (fileset : ℕ) (now : Parts) (cursor : Option Cursor) → IsGoingOn fileset now cursor → IsStood fileset now
is_stood fileset now cursor on = (on.0, on.1, on.2, on.3)

pub made_on : {a b c : ℕ} {version : Version} {tag : Tag} {first : FilesetNow} {made gave : Parts} → b ≡ a → HasCalled a version tag first made → c ≡ b → (StandsWell b first → HasCalled b version tag first made → HasCalled c version tag first gave)
    → HasNoClone first.domain.files → StandsWell a first → (cursor : Option Cursor) → GoesOnIn first.domain cursor → IsGoingOn c gave cursor
made_on {b = b} {c = c} {version = version} {tag = tag} {first = first} {made = made} {gave = gave} same_b called same_c gives alone stood cursor on =
    let stood_b = subst (λ (f : ℕ). StandsWell f first) (sym same_b) stood in
    let stood_c = subst (λ (f : ℕ). StandsWell f first) (sym same_c) stood_b in
    let now = gives stood_b (subst (λ (f : ℕ). HasCalled f version tag first made) (sym same_b) called) in (
      now.files,
      now.chains,
      (λ a. sources_stay c version tag first (fileset_in gave now.files now.chains) now.calls stood_c a ∙ alone a),
      stands_now c version tag first gave stood_c now,
      goes_on_in c version tag first (fileset_in gave now.files now.chains) now.calls stood_c cursor on,
    )
