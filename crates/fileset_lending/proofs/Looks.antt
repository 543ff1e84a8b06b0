-- What has no pages shows none.
use Rattle.std.proofs.Common.{◌≡◌, ◌∙◌, ℕ, zero, suc, Option, Some, None, IfSome, IsSomeAnd, List, [], ◌∷◌, length, slice_get, refl, sym, ap, arith}
use Rattle.std.specs.Option.{option_and_then, option_map, option_map_or}
use Rattle.domain_memory.specs.domain_base.declared.place.Kind.{Kind}
use Rattle.domain_memory.specs.domain_base.declared.place.Kind.TheVariants.{Directory, File}
use Rattle.domain_memory.specs.domain_base.declared.place.Tag.{Tag}
use Rattle.domain_memory.specs.page_store.Bitfiles.{AreBitfiles, Bitfile, Bitfiles, IsBitfile, IsDirectory, count_index, index_at, kind_at, page_at}

none_is_some : {X : Type 0} (x : X) → None ≡ Some x → ⊥
none_is_some x e = cc

same_some : {X : Type 0} (x y : X) → Some x ≡ Some y → x ≡ y
same_some x y is = ap (λ o. option_map_or (λ z. z) o x) is

kinds_differ : File ≡ Directory → ⊥
kinds_differ e = cc

abbrev IsDir : Option Bitfile → Type 0
IsDir o = IsSomeAnd o (λ file. file.kind ≡ Directory)

yes_at : (o : Option Bitfile) → Some Directory ≡ option_map (λ (file : Bitfile). file.kind) o → IsDir o
yes_at None e = none_is_some _ (sym e)
yes_at (Some file) e = same_some file.kind Directory (sym e)

file_at : (o : Option Bitfile) → Some File ≡ option_map (λ (file : Bitfile). file.kind) o → IsDir o → ⊥
file_at None e d = d
file_at (Some file) e d = kinds_differ (same_some File file.kind e ∙ d)

nothing_at : (o : Option Bitfile) → None ≡ option_map (λ (file : Bitfile). file.kind) o → IsDir o → ⊥
nothing_at None e d = d
nothing_at (Some file) e d = none_is_some file.kind e

pub yes_directory : (set : Bitfiles) (tag : Tag) → Some Directory ≡ kind_at set tag → IsDirectory set tag
yes_directory set tag e = yes_at (set tag) e

pub is_file : (set : Bitfiles) (tag : Tag) → Some File ≡ kind_at set tag → ¬ IsDirectory set tag
is_file set tag e = file_at (set tag) e

pub is_nothing : (set : Bitfiles) (tag : Tag) → None ≡ kind_at set tag → ¬ IsDirectory set tag
is_nothing set tag e = nothing_at (set tag) e

no_length : (n : ℕ) → suc n ≡ 0 → ⊥
no_length n e = omega (arith, e)

none_there : (pages : List (List ℕ)) (k : ℕ) → length pages ≡ 0 → slice_get pages k ≡ None
none_there [] zero e = refl
none_there [] (suc k) e = refl
none_there (page ∷ more) k e = absurd (no_length (length more) e)

page_none : (o : Option Bitfile) → IfSome o IsBitfile → (IsDir o → ⊥) → (page : ℕ) → option_and_then (λ (file : Bitfile). slice_get file.pages page) o ≡ None
page_none None sound never page = refl
page_none (Some file) sound never page = by_kind file.kind refl
  where
    by_kind : (kind : Kind) → file.kind ≡ kind → slice_get file.pages page ≡ None
    by_kind Directory is = absurd (never is)
    by_kind File is = none_there file.pages page (sound.no_pages is)

index_none : (o : Option Bitfile) → IfSome o IsBitfile → (IsDir o → ⊥) → (page : ℕ) → option_and_then (λ (file : Bitfile). slice_get file.index page) o ≡ None
index_none None sound never page = refl
index_none (Some file) sound never page = by_kind file.kind refl
  where
    by_kind : (kind : Kind) → file.kind ≡ kind → slice_get file.index page ≡ None
    by_kind Directory is = absurd (never is)
    by_kind File is = none_there file.index page (sound.no_index is)

count_none : (o : Option Bitfile) → IfSome o IsBitfile → (IsDir o → ⊥) → option_map_or (λ (file : Bitfile). length file.index) o 0 ≡ 0
count_none None sound never = refl
count_none (Some file) sound never = by_kind file.kind refl
  where
    by_kind : (kind : Kind) → file.kind ≡ kind → length file.index ≡ 0
    by_kind Directory is = absurd (never is)
    by_kind File is = sound.no_index is

pub no_page : (set : Bitfiles) (tag : Tag) (page : ℕ) → AreBitfiles set → ¬ IsDirectory set tag → page_at set tag page ≡ None
no_page set tag page sound never = page_none (set tag) (sound tag) never page

pub no_index_page : (set : Bitfiles) (tag : Tag) (page : ℕ) → AreBitfiles set → ¬ IsDirectory set tag → index_at set tag page ≡ None
no_index_page set tag page sound never = index_none (set tag) (sound tag) never page

pub no_index : (set : Bitfiles) (tag : Tag) → AreBitfiles set → ¬ IsDirectory set tag → count_index set tag ≡ 0
no_index set tag sound never = count_none (set tag) (sound tag) never
