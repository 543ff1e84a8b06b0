-- What is known of the set once a call has ended.
use Rattle.std.proofs.Common.{◌≡◌, ℕ, List, Result, Ok, Err, IfOk, IfErr, OnOk, OnErr, subst, sym, Option, Some, None, IsSome, IsSomeAnd, refl}
use Rattle.domain_memory.specs.domain_base.declared.place.Kind.TheVariants.{Directory}
use Rattle.domain_memory.specs.page_store.Bitfiles.{Bitfile, Bitfiles}
use Rattle.domain_memory.specs.page_store.Pages.{Pages}
use Rattle.domain_memory.specs.tag_dirs.declared.dir.TagPlace.{TagPlace}
use Rattle.domain_memory.specs.free_cells.Cells.{Cells}
use Rattle.domain_memory.specs.free_space.Spaces.{Spaces}
use Rattle.domain_memory.specs.fileset_files.declared.bitfiles.Bitfiles.{Bitfiles as Files}
use Rattle.domain_memory.specs.stored_set.Sets.{HasSet, StandsAsSet}
use Rattle.fileset_lending.specs.Shown.{shown, shown_is}

pub ok_map : {X E : Type 0} {P Q : X → Type 0} → ((x : X) → P x → Q x) → (r : Result X E) → IfOk r P → IfOk r Q
ok_map f (Ok x) p = f x p
ok_map f (Err e) p = tt

pub err_map : {X E : Type 0} {P Q : E → Type 0} → ((e : E) → P e → Q e) → (r : Result X E) → IfErr r P → IfErr r Q
err_map f (Ok x) p = tt
err_map f (Err e) p = f e p

pub on_ok_map : {X E A B : Type 0} → (A → B) → (r : Result X E) → OnOk r A → OnOk r B
on_ok_map f (Ok x) p = f p
on_ok_map f (Err e) p = tt

pub on_err_map : {X E A B : Type 0} → (A → B) → (r : Result X E) → OnErr r A → OnErr r B
on_err_map f (Ok x) p = tt
on_err_map f (Err e) p = f p

pub on_err_both : {X E A B C : Type 0} → (A → B → C) → (r : Result X E) → OnErr r A → OnErr r B → OnErr r C
on_err_both f (Ok x) a b = tt
on_err_both f (Err e) a b = f a b

-- what both ends lead to
pub at_ends : {X E A N : Type 0} {B : E → Type 0} → (A → N) → ((e : E) → B e → N) → (r : Result X E) → OnOk r A → IfErr r B → N
at_ends ok err (Ok x) a b = ok a
at_ends ok err (Err e) a b = err e b

pub is_there : (o : Option Bitfile) → IsSomeAnd o (λ file. file.kind ≡ Directory) → IsSome o
is_there None directory = absurd directory
is_there (Some file) directory = refl

pub always_err : {X E B : Type 0} → B → (r : Result X E) → OnErr r B
always_err b (Ok x) = tt
always_err b (Err e) = b

pub both_ends : {X E A B N : Type 0} → (A → N) → (B → N) → (r : Result X E) → OnOk r A → OnErr r B → N
both_ends ok err (Ok x) a b = ok a
both_ends ok err (Err e) a b = err b

module _ (fileset : ℕ) (places : List TagPlace) (space : Spaces) (cells : Cells) (pages : Pages) where
  abbrev Stands : Bitfiles → Type 0
  Stands = StandsAsSet fileset places space cells pages

  -- there is a set then, whichever end the call has
  pub made_held : {X E : Type 0} (made : X → Bitfiles) (kept : Bitfiles) (r : Result X E) → IfOk r (λ x. StandsAsSet fileset places space cells pages (made x)) → OnErr r (StandsAsSet fileset places space cells pages kept) → ∥ HasSet fileset places space cells pages ∥₁
  made_held made kept (Ok x) ok err = ∣ (made x, ok) ∣₁
  made_held made kept (Err e) ok err = ∣ (kept, err) ∣₁

  pub changed_held : {X E : Type 0} (changed kept : Bitfiles) (r : Result X E) → OnOk r (StandsAsSet fileset places space cells pages changed) → OnErr r (StandsAsSet fileset places space cells pages kept) → ∥ HasSet fileset places space cells pages ∥₁
  changed_held changed kept (Ok x) ok err = ∣ (changed, ok) ∣₁
  changed_held changed kept (Err e) ok err = ∣ (kept, err) ∣₁

  -- what is so of the set that is shown is so of each that stands
  pub of_each : (held : ∥ HasSet fileset places space cells pages ∥₁) (P : Bitfiles → Type 0) → P (shown fileset places space cells pages held) → (set : Bitfiles) → StandsAsSet fileset places space cells pages set → P set
  of_each held P p set was = subst P (shown_is fileset places space cells pages held set was) p

-- a set still stands if no page, no free space and no name of the files has changed
pub still : (files files_now : Files) (space space_now : Spaces) (cells : Cells) (old new : Pages) (set : Bitfiles) → StandsAsSet files.fileset files.tags space cells old set → files_now ≡ files → space_now ≡ space → new ≡ old
    → StandsAsSet files_now.fileset files_now.tags space_now cells new set
still files files_now space space_now cells old new set was files_are space_is pages_are =
    subst (λ (f : Files). StandsAsSet f.fileset f.tags space_now cells new set) (sym files_are)
    (subst (λ (s : Spaces). StandsAsSet files.fileset files.tags s cells new set) (sym space_is)
    (subst (λ (ps : Pages). StandsAsSet files.fileset files.tags space cells ps set) (sym pages_are) was))
