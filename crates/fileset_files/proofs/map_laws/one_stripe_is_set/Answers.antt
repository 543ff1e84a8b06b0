use Rattle.std.proofs.Common.{◌≡◌, Bool, true, false, cond, Option, Some, None, refl, subst}
use Rattle.std.specs.Option.{option_map}
use Rattle.file_chains.specs.domain_base.declared.place.Tag.{Tag}
use Rattle.file_chains.specs.page_store.Bitfiles.{same_tag}
use Rattle.fileset_files.specs.State.{FileState, States, with_changed}
use Rattle.fileset_files.specs.States.{HaveStates}
use Rattle.fileset_files.specs.Stripes.{says_stripe}
use Rattle.fileset_files.proofs.Calls.{first_changed}
use Rattle.fileset_files.proofs.FirstCells.{stripe_said}
use Rattle.fileset_files.proofs.map_laws.one_stripe_is_set.Goals as goal

as_it_was : (b : Bool) (o : Option FileState) → cond b (option_map (λ (state : FileState). state) o) o ≡ o
as_it_was true None = refl
as_it_was true (Some state) = refl
as_it_was false o = refl

unchanged : (tag : Tag) (states : States) → with_changed tag (λ (state : FileState). state) states ≡ states
unchanged tag states = λ i t. as_it_was (same_tag t tag) (states t) i

pub returns : goal.returns
returns c = λ fileset places space cells old new tag stripe states was now.
    subst (HaveStates fileset places space cells new) (unchanged tag states)
    (first_changed fileset places space cells old states was tag new (says_stripe stripe) (λ (state : FileState). state) (λ pages first rest file. stripe_said pages first rest file stripe) (now was.chains was.together))
