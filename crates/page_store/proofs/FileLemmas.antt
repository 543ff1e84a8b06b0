-- What an edit of a list of files does to what the tags name.
use Rattle.std.proofs.Common.{◌≡◌, ◌==◌, ◌+◌, ◌*◌, ◌^◌, ◌<◌, ℕ, true, false, List, Option, Some, None, get_or, is_some, set, nat_lt, if◌then◌else◌, eqb-true, refl, sym, ap, subst, ◌∙◌, arith}
use Rattle.std.proofs.lemmas.List.{set-get_or}
use Rattle.std.proofs.lemmas.Bool.Decides.{nat_tests}
use Rattle.std.specs.Option.{option_map, option_map_or}
use Rattle.sorted_sets.specs.domain_base.declared.place.Tag.{Tag}
use Rattle.page_store.specs.Bitfiles.{Bitfile, IsBitfile, same_tag, with_change, with_file, without_file}
use Rattle.sorted_sets.specs.Rising.{value_at, IsRising, IsPlaceOf, IsGapFor, Sets, Drops}
use Rattle.page_store.specs.Tags.{AreSound, AreUnused, Changes, files_of, number_of}
use Rattle.sorted_sets.proofs.Search.{value_at_place, value_in_gap, sets_at_place}

-- what stands at a place is what the number has
pub found_at_place : (es : List (ℕ × Bitfile)) (key at : ℕ) → IsPlaceOf es key at → IsRising es → (item : ℕ × Bitfile) → item ≡ get_or es at item → value_at es key ≡ Some item.1
found_at_place es key at place rising item is = value_at_place es key at place rising item ∙ ap (λ (e : ℕ × Bitfile). Some e.1) (sym is)

-- the file at a place is changed
pub changes_at_place : (es : List (ℕ × Bitfile)) (key at : ℕ) → IsPlaceOf es key at → IsRising es → (item : ℕ × Bitfile) → item ≡ get_or es at item → (change : Bitfile → Bitfile) → Changes es (set es at (item.0, change item.1)) key change
changes_at_place es key at place rising item is change q =
    let number : item.0 ≡ key = ap (λ (e : ℕ × Bitfile). e.0) is ∙ place.has_key item in
    let there = found_at_place es key at place rising item is in
    ap (λ n. value_at (set es at (n, change item.1)) q) number
    ∙ sets_at_place es key at place rising (change item.1) item q
    ∙ ap (λ found. if key == q then found else value_at es q) (sym (ap (option_map change) there))

-- where no file is, none is changed
pub changes_in_gap : (es : List (ℕ × Bitfile)) (key at : ℕ) → IsGapFor es key at → (change : Bitfile → Bitfile) → Changes es es key change
changes_in_gap es key at gap change q =
    elim (key == q) as (λ b. (key == q) ≡ b → value_at es q ≡ (if b then option_map change (value_at es key) else value_at es q)) [
      | true ↦ λ t. ap (value_at es) (sym (eqb-true key q t)) ∙ value_in_gap es key at gap ∙ sym (ap (option_map change) (value_in_gap es key at gap))
      | false ↦ λ t. refl
    ] refl

-- a file within its limits keeps all so
pub sound_set : (old new : List (ℕ × Bitfile)) (key : ℕ) (file : Bitfile) → AreSound old → Sets old new key file → IsBitfile file → AreSound new
sound_set old new key file sound sets holds q f some =
    elim (key == q) as (λ b. value_at new q ≡ (if b then Some file else value_at old q) → IsBitfile f) [
      | true ↦ λ v. let same : Some f ≡ Some file = sym some ∙ v in let is_file : f ≡ file = cc in subst IsBitfile (sym is_file) holds
      | false ↦ λ v. sound q f (sym v ∙ some)
    ] (sets q)

pub sound_at_place : (es : List (ℕ × Bitfile)) (key at : ℕ) → IsPlaceOf es key at → IsRising es → AreSound es → (item : ℕ × Bitfile) → item ≡ get_or es at item → (file : Bitfile) → IsBitfile file → AreSound (set es at (item.0, file))
sound_at_place es key at place rising sound item is file holds =
    let number : key ≡ item.0 = sym (ap (λ (e : ℕ × Bitfile). e.0) is ∙ place.has_key item) in
    subst (λ n. AreSound (set es at (n, file))) number (sound_set es (set es at (key, file)) key file sound (sets_at_place es key at place rising file item) holds)

pub sound_drop : (old new : List (ℕ × Bitfile)) (key : ℕ) → AreSound old → Drops old new key → AreSound new
sound_drop old new key sound drops q f some =
    elim (key == q) as (λ b. value_at new q ≡ (if b then None else value_at old q) → IsBitfile f) [
      | true ↦ λ v. let none : Some f ≡ None = sym some ∙ v in absurd (cc)
      | false ↦ λ v. sound q f (sym v ∙ some)
    ] (drops q)

-- what is not used stays so where files are taken away, and from the next slot on where one is added
pub unused_drop : (slot : ℕ) (old new : List (ℕ × Bitfile)) (key : ℕ) → AreUnused slot old → Drops old new key → AreUnused slot new
unused_drop slot old new key unused drops q above =
    elim (key == q) as (λ b. value_at new q ≡ (if b then None else value_at old q) → is_some (value_at new q) ≡ false) [
      | true ↦ λ v. ap is_some v
      | false ↦ λ v. ap is_some v ∙ unused q above
    ] (drops q)

pub unused_set : (slot : ℕ) (old new : List (ℕ × Bitfile)) (key : ℕ) (file : Bitfile) → AreUnused slot old → Sets old new key file → key < (slot + 1) * 2 ^ 16 → AreUnused (slot + 1) new
unused_set slot old new key file unused sets below q above =
    let differ : (key == q) ≡ false = grind (arith, nat_tests) in
    ap is_some (sets q ∙ ap (λ b. if b then Some file else value_at old q) differ) ∙ unused q (omega arith)

-- a file put back where it stood
pub set_back : (es : List (ℕ × Bitfile)) (at : ℕ) (item : ℕ × Bitfile) → item ≡ get_or es at item → (file : Bitfile) → file ≡ item.1 → set es at (item.0, file) ≡ es
set_back es at item is file same = ap (λ f. set es at (item.0, f)) same ∙ ap (set es at) is ∙ set-get_or es at item

-- the numbers of two tags are the same where the tags are
same_number : (tag t : Tag) → tag.seq < 2 ^ 16 → t.seq < 2 ^ 16 → (number_of tag == number_of t) ≡ same_tag t tag
same_number tag t fits t_fits = grind (arith, nat_tests)

-- a tag whose sequence does not fit is none of the others
other_tag : (tag t : Tag) → tag.seq < 2 ^ 16 → nat_lt t.seq (2 ^ 16) ≡ false → same_tag t tag ≡ false
other_tag tag t fits wide = grind (arith, nat_tests)

fits_of : (n : ℕ) → nat_lt n (2 ^ 16) ≡ true → n < 2 ^ 16
fits_of n h = grind (arith, nat_tests)

-- a new list that has `found` at the number and is as the old one elsewhere
edited : (old new : List (ℕ × Bitfile)) (tag : Tag) (found : Option Bitfile) → tag.seq < 2 ^ 16 → ((q : ℕ) → value_at new q ≡ (if number_of tag == q then found else value_at old q)) → (t : Tag) → files_of new t ≡ (if same_tag t tag then found else files_of old t)
edited old new tag found fits gives t =
    elim (nat_lt t.seq (2 ^ 16)) as (λ b. nat_lt t.seq (2 ^ 16) ≡ b → (if b then value_at new (number_of t) else None) ≡ (if same_tag t tag then found else (if b then value_at old (number_of t) else None))) [
      | true ↦ λ narrow. gives (number_of t) ∙ ap (λ b. if b then found else value_at old (number_of t)) (same_number tag t fits (fits_of t.seq narrow))
      | false ↦ λ wide. sym (ap (λ b. if b then found else None) (other_tag tag t fits wide))
    ] refl

-- what a tag that fits names
pub files_at : (es : List (ℕ × Bitfile)) (tag : Tag) → tag.seq < 2 ^ 16 → files_of es tag ≡ value_at es (number_of tag)
files_at es tag fits = grind (arith, nat_tests)

pub files-set : (old new : List (ℕ × Bitfile)) (tag : Tag) (file : Bitfile) → tag.seq < 2 ^ 16 → Sets old new (number_of tag) file → files_of new ≡ with_file tag file (files_of old)
files-set old new tag file fits sets = λ i t. edited old new tag (Some file) fits sets t i

pub files-drop : (old new : List (ℕ × Bitfile)) (tag : Tag) → tag.seq < 2 ^ 16 → Drops old new (number_of tag) → files_of new ≡ without_file tag (files_of old)
files-drop old new tag fits drops = λ i t. edited old new tag None fits drops t i

pub files-change : (old new : List (ℕ × Bitfile)) (tag : Tag) (change : Bitfile → Bitfile) → tag.seq < 2 ^ 16 → Changes old new (number_of tag) change → files_of new ≡ with_change tag change (files_of old)
files-change old new tag change fits changes =
    let split : (found : Option Bitfile) → found ≡ value_at old (number_of tag) → files_of new ≡ option_map_or (λ file. with_file tag (change file) (files_of old)) found (files_of old) = λ found is. elim found as (λ o. o ≡ value_at old (number_of tag) → files_of new ≡ option_map_or (λ file. with_file tag (change file) (files_of old)) o (files_of old)) [
      | None ↦ λ none i t. unchanged none t i
      | Some file ↦ λ some. files-set old new tag (change file) fits (λ q. changes q ∙ ap (λ o. if number_of tag == q then option_map change o else value_at old q) (sym some))
    ] is in
    split (files_of old tag) (files_at old tag fits)
  where
    none_at : (q : ℕ) → None ≡ value_at old (number_of tag) → (if number_of tag == q then option_map change (value_at old (number_of tag)) else value_at old q) ≡ value_at old q
    none_at q none =
        elim (number_of tag == q) as (λ b. (number_of tag == q) ≡ b → (if b then option_map change (value_at old (number_of tag)) else value_at old q) ≡ value_at old q) [
          | true ↦ λ t. ap (option_map change) (sym none) ∙ none ∙ ap (value_at old) (eqb-true (number_of tag) q t)
          | false ↦ λ t. refl
        ] refl

    unchanged : None ≡ value_at old (number_of tag) → (t : Tag) → files_of new t ≡ files_of old t
    unchanged none t = ap (λ found. if nat_lt t.seq (2 ^ 16) then found else None) (changes (number_of t) ∙ none_at (number_of t) none)
