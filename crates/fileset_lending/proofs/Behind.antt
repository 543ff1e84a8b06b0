-- A page that is put after the last one of an index is inserted there.
use Rattle.std.proofs.Common.{◌≡◌, ◌∙◌, ◌+◌, ◌≤◌, ℕ, zero, suc, Option, Some, None, List, [], ◌∷◌, ◌++◌, length, take, drop, insert, refl, sym, ap, arith}
use Rattle.std.specs.Option.{option_map_or}
use Rattle.domain_memory.specs.domain_base.declared.place.Tag.{Tag}
use Rattle.domain_memory.specs.page_store.Bitfiles.{Bitfile, Bitfiles, count_index, insert_index, put_index, with_change, with_entry, with_file}

none_behind : (i : ℕ) (pages : List (List ℕ)) → length pages ≤ i → drop i pages ≡ []
none_behind zero [] least = refl
none_behind (suc i) [] least = refl
none_behind zero (page ∷ more) least = absurd (omega (arith, least))
none_behind (suc i) (page ∷ more) least = none_behind i more (omega (arith, least))

at_end : (i : ℕ) (page : List ℕ) (pages : List (List ℕ)) → length pages ≤ i → insert pages i page ≡ with_entry i page pages
at_end i page pages least = ap (λ rest. take i pages ++ page ∷ rest) (none_behind i pages least ∙ sym (none_behind (i + 1) pages (omega (arith, least))))

pub put_behind : (set : Bitfiles) (tag : Tag) (i : ℕ) (page : List ℕ) → count_index set tag ≤ i → with_change tag (insert_index i page) set ≡ with_change tag (put_index i page) set
put_behind set tag i page least = at_file (set tag) least
  where
    at_file : (o : Option Bitfile) → option_map_or (λ (file : Bitfile). length file.index) o 0 ≤ i
        → option_map_or (λ file. with_file tag (insert_index i page file) set) o set ≡ option_map_or (λ file. with_file tag (put_index i page file) set) o set
    at_file None less = refl
    at_file (Some file) less = ap (λ (pages : List (List ℕ)). with_file tag (record file { index = pages }) set) (at_end i page file.index less)
