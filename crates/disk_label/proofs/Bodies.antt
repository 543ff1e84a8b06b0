-- What the fields of a body are, byte by byte and as they were written.
use Rattle.std.proofs.Common.{◌≡◌, ◌⊎◌, ℕ, zero, suc, ◌+◌, ◌*◌, ◌^◌, ◌%◌, ◌/◌, ◌<◌, ◌≤◌, List, [], ◌∷◌, ◌++◌, length, get_or, take, drop, replicate, Option, Some, None, IsSome, IfSome, true, nat_le, refl, sym, ◌∙◌, ap, inl, inr, arith}
use Rattle.std.proofs.lemmas.Bool.{le-leb}
use Rattle.std.proofs.lemmas.List.{get_or-drop}
use Rattle.std.specs.List.{flat_map}
use Rattle.byteorder.specs.Endian.{little_number, little_bytes}
use Rattle.byteorder.specs.Numbers.{little_number-reads_back}
use Rattle.volume_disk.specs.domain_base.Page.{zero_bytes}
use Rattle.volume_disk.specs.domain_base.Version.{bitmap_pages, number_of}
use Rattle.volume_disk.specs.domain_base.declared.place.Home.{Home}
use Rattle.volume_disk.specs.domain_base.declared.version.Version.{Version}
use Rattle.volume_disk.specs.domain_base.declared.version.Version.TheVariants.{Three, Four}
use Rattle.disk_label.specs.Body.{word_at, long_at, home_from, member_from, anchor_from}
use Rattle.disk_label.specs.Label.{IsLabelOf, label_bytes}
use Rattle.disk_label.specs.Words.{words_of, home_words, member_words, body_bytes}
use Rattle.disk_label.specs.declared.anchor.Anchor.{Anchor}
use Rattle.disk_label.specs.declared.anchor.Member.{Member}
use Rattle.disk_label.specs.declared.label.Label.{Label}

-- two bodies agree in the bytes that are in use
abbrev pub SameFields : List ℕ → List ℕ → Type 0
SameFields xs ys = (i : ℕ) → i < 112 → get_or xs i 0 ≡ get_or ys i 0

word_at-bytes : (xs : List ℕ) (k : ℕ) → word_at xs k ≡ get_or xs (4 * k + 0) 0 + 256 * (get_or xs (4 * k + 1) 0 + 256 * (get_or xs (4 * k + 2) 0 + 256 * (get_or xs (4 * k + 3) 0 + 256 * 0)))
word_at-bytes xs k =
    rw (sym (get_or-drop (4 * k) xs 0 0), sym (get_or-drop (4 * k) xs 1 0), sym (get_or-drop (4 * k) xs 2 0), sym (get_or-drop (4 * k) xs 3 0)) refl

pub word_at-same : (xs ys : List ℕ) (k : ℕ) → SameFields xs ys → k < 28 → word_at xs k ≡ word_at ys k
word_at-same xs ys k same lt =
    word_at-bytes xs k
    ∙ (rw (same (4 * k + 0) (omega arith), same (4 * k + 1) (omega arith), same (4 * k + 2) (omega arith), same (4 * k + 3) (omega arith)) (sym (word_at-bytes ys k)))

pub anchor_from-same : (xs ys : List ℕ) (slot : ℕ) → SameFields xs ys → anchor_from xs slot ≡ anchor_from ys slot
unfolding anchor_from
anchor_from-same xs ys slot same = λ i. record {
  number = word 0 (omega arith) i + 2 ^ 32 * word 1 (omega arith) i;
  version = word 2 (omega arith) i;
  log_vol = word 3 (omega arith) i;
  log_page = word 4 (omega arith) i;
  log_pages = word 5 (omega arith) i;
  start = word 6 (omega arith) i;
  group = word 8 (omega arith) i + 2 ^ 32 * word 9 (omega arith) i;
  table = home_from (word 10 (omega arith) i) (word 11 (omega arith) i);
  members = member 0 (omega arith) i ∷ member 1 (omega arith) i ∷ member 2 (omega arith) i ∷ member 3 (omega arith) i ∷ member 4 (omega arith) i ∷ member 5 (omega arith) i ∷ member 6 (omega arith) i ∷ member 7 (omega arith) i ∷ [];
  slot = slot;
}
  where
    word : (k : ℕ) → k < 28 → word_at xs k ≡ word_at ys k
    word k lt = word_at-same xs ys k same lt

    member : (k : ℕ) → k < 8 → member_from xs k ≡ member_from ys k
    member k lt = λ i. record { pages = word (12 + 2 * k) (omega arith) i; state = word (13 + 2 * k) (omega arith) i }

-- each number of a list is read where it was written
pub word_at-written : (words rest : List ℕ) (k : ℕ) → k < length words → ((i : ℕ) → get_or words i 0 < 2 ^ 32) → word_at (flat_map (little_bytes 4) words ++ rest) k ≡ get_or words k 0
word_at-written [] rest k lt fits = absurd (omega arith)
word_at-written (w ∷ words) rest zero lt fits = little_number-reads_back 4 w (flat_map (little_bytes 4) words ++ rest) (fits 0)
word_at-written (w ∷ words) rest (suc k) lt fits =
    let skip : 4 * suc k ≡ suc (suc (suc (suc (4 * k)))) = omega arith in
    ap (λ (n : ℕ). little_number 4 (drop n (flat_map (little_bytes 4) (w ∷ words) ++ rest))) skip ∙ word_at-written words rest k (omega arith) (λ i. fits (suc i))

-- the words before the table's home
abbrev front_of : Anchor → List ℕ
front_of a = a.number % 2 ^ 32 ∷ a.number / 2 ^ 32 ∷ a.version ∷ a.log_vol ∷ a.log_page ∷ a.log_pages ∷ a.start ∷ 0 ∷ a.group % 2 ^ 32 ∷ a.group / 2 ^ 32 ∷ []

module _ (a : Anchor) (body : List ℕ) (home : Home) where
  abbrev Reads : List Member → Type 0
  Reads members = (k : ℕ) → k < 28 → word_at body k ≡ get_or (front_of a ++ home_words (Some home) ++ flat_map member_words members) k 0

  members_back : (members : List Member) → length members ≡ 8 → Reads members
      → member_from body 0 ∷ member_from body 1 ∷ member_from body 2 ∷ member_from body 3 ∷ member_from body 4 ∷ member_from body 5 ∷ member_from body 6 ∷ member_from body 7 ∷ [] ≡ members
  members_back (m0 ∷ m1 ∷ m2 ∷ m3 ∷ m4 ∷ m5 ∷ m6 ∷ m7 ∷ []) size reads =
      λ i.
      record { pages = reads 12 (omega arith) i; state = reads 13 (omega arith) i }
      ∷ record { pages = reads 14 (omega arith) i; state = reads 15 (omega arith) i }
      ∷ record { pages = reads 16 (omega arith) i; state = reads 17 (omega arith) i }
      ∷ record { pages = reads 18 (omega arith) i; state = reads 19 (omega arith) i }
      ∷ record { pages = reads 20 (omega arith) i; state = reads 21 (omega arith) i }
      ∷ record { pages = reads 22 (omega arith) i; state = reads 23 (omega arith) i }
      ∷ record { pages = reads 24 (omega arith) i; state = reads 25 (omega arith) i }
      ∷ record { pages = reads 26 (omega arith) i; state = reads 27 (omega arith) i }
      ∷ []
  members_back other size reads = absurd (omega arith)

home_back : (home : Home) → 1 ≤ home.vol → home.vol ≤ 8 → home_from home.vol home.page ≡ Some home
home_back home low high = let a : nat_le 1 home.vol ≡ true = le-leb 1 home.vol low in let b : nat_le home.vol 8 ≡ true = le-leb home.vol 8 high in rw (a, b) refl

-- an anchor is read back from its words
pub anchor_from-words : (a : Anchor) (body : List ℕ) (home : Home) → a.table ≡ Some home → 1 ≤ home.vol → home.vol ≤ 8 → length a.members ≡ 8 → Reads a body home a.members → anchor_from body a.slot ≡ a
unfolding anchor_from
anchor_from-words a body home table low high size reads = λ i. record {
  number = number i;
  version = reads 2 (omega arith) i;
  log_vol = reads 3 (omega arith) i;
  log_page = reads 4 (omega arith) i;
  log_pages = reads 5 (omega arith) i;
  start = reads 6 (omega arith) i;
  group = group i;
  table = table_back i;
  members = members_back a body home a.members size reads i;
  slot = a.slot;
}
  where
    number : long_at body 0 ≡ a.number
    number = let p = reads 0 (omega arith) in let q = reads 1 (omega arith) in omega (arith, p, q)

    group : long_at body 8 ≡ a.group
    group = let p = reads 8 (omega arith) in let q = reads 9 (omega arith) in omega (arith, p, q)

    table_back : home_from (word_at body 10) (word_at body 11) ≡ a.table
    table_back = (λ i. home_from (reads 10 (omega arith) i) (reads 11 (omega arith) i)) ∙ home_back home low high ∙ sym table

pub length-written : (words : List ℕ) → length (flat_map (little_bytes 4) words) ≡ 4 * length words
length-written [] = refl
length-written (w ∷ words) = let rest = length-written words in omega (arith, rest)

abbrev none : List ℕ
none = replicate 3584 0

abbrev IsZeros : List ℕ → Type 0
IsZeros zeros = zeros ≡ none

-- what is written over them has zeros after it
pub body_is : (dst zeros words : List ℕ) → dst ≡ flat_map (little_bytes 4) words → IsZeros zeros → dst ++ drop 112 zeros ≡ flat_map (little_bytes 4) words ++ zero_bytes 3472
unfolding zero_bytes
body_is dst zeros words written is = (λ i. written i ++ drop 112 (is i)) ∙ (λ i. flat_map (little_bytes 4) words ++ drop 112 none)

pub body_bytes-words : (a : Anchor) (body words : List ℕ) → body ≡ flat_map (little_bytes 4) words ++ zero_bytes 3472 → words ≡ words_of a → body ≡ body_bytes a
unfolding body_bytes
body_bytes-words a body words written is = written ∙ (λ i. flat_map (little_bytes 4) (is i) ++ zero_bytes 3472)

pub slot_is-anchor_from : (body : List ℕ) (slot : ℕ) → (anchor_from body slot).slot ≡ slot
unfolding anchor_from
slot_is-anchor_from body slot = refl

-- zeros name no volume
pub log_vol-zeros : (body : List ℕ) (slot : ℕ) → ((i : ℕ) → i < 112 → get_or body i 0 ≡ 0) → (anchor_from body slot).log_vol ≡ 0
unfolding anchor_from
log_vol-zeros body slot zeros =
    let a = zeros 12 (omega arith) in
    let b = zeros 13 (omega arith) in
    let c = zeros 14 (omega arith) in
    let d = zeros 15 (omega arith) in
    let word = word_at-bytes body 3 in
    omega (arith, a, b, c, d, word)

pub anchor_from-encoded : (a : Anchor) (body words rest : List ℕ) → body ≡ flat_map (little_bytes 4) words ++ rest → words ≡ words_of a → ((i : ℕ) → get_or words i 0 < 2 ^ 32) → IsSome a.table → IfSome a.table (λ home. (1 ≤ home.vol) × (home.vol ≤ 8)) → length a.members ≡ 8 → length words ≡ 28
    → anchor_from body a.slot ≡ a
anchor_from-encoded a body words rest written is fits has_table in_range members count = go a.table refl has_table in_range
  where
    reads : (home : Home) → a.table ≡ Some home → Reads a body home a.members
    reads home table k lt =
        ap (λ (l : List ℕ). word_at l k) written ∙ word_at-written words rest k (omega arith) fits
        ∙ ap (λ (l : List ℕ). get_or l k 0) is
        ∙ ap (λ (t : Option Home). get_or (front_of a ++ home_words t ++ flat_map member_words a.members) k 0) table

    go : (t : Option Home) → a.table ≡ t → IsSome t → IfSome t (λ home. (1 ≤ home.vol) × (home.vol ≤ 8)) → anchor_from body a.slot ≡ a
    go (Some home) table has within = anchor_from-words a body home table within.0 within.1 members (reads home table)
    go None table has within = absurd (cc has)

abbrev page_zeros : List ℕ
page_zeros = replicate 8192 0

-- The label's fields.
abbrev label_words : ℕ → ℕ → ℕ → ℕ → List ℕ
label_words number vol pages bitmap = 0x46564441 ∷ 0x42414c53 ∷ number ∷ vol ∷ pages ∷ bitmap ∷ []

-- the page with a label
pub label_is : (dst zeros : List ℕ) (number volume bitmap vol pages : ℕ) (version : Version) → dst ≡ flat_map (little_bytes 4) (label_words number volume pages bitmap) → number ≡ number_of version → volume ≡ vol → bitmap ≡ bitmap_pages version pages → zeros ≡ page_zeros
    → dst ++ drop 24 zeros ≡ label_bytes vol pages version
unfolding label_bytes
label_is dst zeros number volume bitmap vol pages version written is_number is_volume is_bitmap none =
    (λ i. written i ++ drop 24 (none i)) ∙ (λ i. flat_map (little_bytes 4) (label_words (is_number i) (is_volume i) pages (is_bitmap i)) ++ drop 24 page_zeros)

fits : (number vol pages bitmap : ℕ) → number < 2 ^ 32 → vol < 2 ^ 32 → pages < 2 ^ 32 → bitmap < 2 ^ 32 → (i : ℕ) → get_or (label_words number vol pages bitmap) i 0 < 2 ^ 32
fits number vol pages bitmap n v p b zero = omega arith
fits number vol pages bitmap n v p b (suc zero) = omega arith
fits number vol pages bitmap n v p b (suc (suc zero)) = n
fits number vol pages bitmap n v p b (suc (suc (suc zero))) = v
fits number vol pages bitmap n v p b (suc (suc (suc (suc zero)))) = p
fits number vol pages bitmap n v p b (suc (suc (suc (suc (suc zero))))) = b
fits number vol pages bitmap n v p b (suc (suc (suc (suc (suc (suc i)))))) = omega arith

number_small : (version : Version) → number_of version < 2 ^ 32
number_small Three = omega arith
number_small Four = omega arith

bitmap_small : (version : Version) (pages : ℕ) → pages < 2 ^ 32 → bitmap_pages version pages < 2 ^ 32
bitmap_small Three pages small = omega arith
bitmap_small Four pages small = omega arith

-- a version is known by its number
pub number_of-same : (one other : Version) → number_of one ≡ number_of other → one ≡ other
number_of-same Three Three same = refl
number_of-same Three Four same = absurd (omega arith)
number_of-same Four Three same = absurd (omega arith)
number_of-same Four Four same = refl

-- and has one of two
pub number_of-cases : (version : Version) → (number_of version ≡ 3) ⊎ (number_of version ≡ 4)
number_of-cases Three = inl refl
number_of-cases Four = inr refl

-- the label that is written is the volume's
pub IsLabelOf-label_bytes : (most vol : ℕ) (label : Label) → vol < 2 ^ 32 → label.pages < 2 ^ 32 → label.pages ≤ most → IsLabelOf most vol (take 512 (label_bytes vol label.pages label.version)) (Some label)
unfolding label_bytes
IsLabelOf-label_bytes most vol label a b few = record {
  magic_low = reads 0 (omega arith);
  magic_high = reads 1 (omega arith);
  version = reads 2 (omega arith);
  volume = reads 3 (omega arith);
  pages = reads 4 (omega arith);
  there = few;
  bitmap = reads 5 (omega arith);
}
  where
    reads : (k : ℕ) → k < 6 → word_at (take 512 (flat_map (little_bytes 4) (label_words (number_of label.version) vol label.pages (bitmap_pages label.version label.pages)) ++ replicate 8168 0)) k
        ≡ get_or (label_words (number_of label.version) vol label.pages (bitmap_pages label.version label.pages)) k 0
    reads k lt =
        word_at-written (label_words (number_of label.version) vol label.pages (bitmap_pages label.version label.pages)) (replicate 488 0) k lt
        (fits (number_of label.version) vol label.pages (bitmap_pages label.version label.pages) (number_small label.version) a b (bitmap_small label.version label.pages b))
