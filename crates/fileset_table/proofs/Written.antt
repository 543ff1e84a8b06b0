-- A slot's bytes as they are written.
use Rattle.std.proofs.Common.{◌≡◌, ◌∙◌, ℕ, true, ◌+◌, ◌-◌, ◌≤◌, Option, Some, List, [], ◌∷◌, ◌++◌, length, take, drop, get_or, slice_set, refl, sym, ap, subst, arith, length-append, length-drop, length-take}
use Rattle.std.proofs.lemmas.List.{append-nil, drop_all, drop_at, drop-append-le, drop-drop, take-append-le, take-replicate, take-append-drop}
use borrow.Rule.Slice.PartMut.{put_mid, post_of}
use Rattle.std.proofs.Math.Seq.{take-append-add}
use Rattle.byteorder.specs.Endian.{little_number}
use Rattle.metadata_cells.specs.domain_base.Page.{zero_bytes, length-zero_bytes}
use Rattle.metadata_cells.specs.domain_base.declared.place.CellAt.{CellAt}
use Rattle.metadata_cells.specs.domain_base.declared.place.Home.{Home}
use Rattle.metadata_cells.specs.cell_records.Fields.{Fit, number_at}
use Rattle.metadata_cells.specs.cell_records.Records.{spelled}
use Rattle.metadata_cells.specs.cell_records.Rules.{nothing_seen}
use Rattle.metadata_cells.proofs.OfCellRecords.Bytes.{little_number-take}
use Rattle.metadata_cells.proofs.OfCellRecords.Scan.{decoded, decoded_again}
use Rattle.metadata_cells.specs.Cell.{IsAddress}
use Rattle.metadata_cells.proofs.Written.{any_of, pass_any, zeros_left}
use Rattle.fileset_table.specs.declared.writing.SlotNumbers.{SlotNumbers}
use Rattle.word_forms.specs.Forms.{is_fileset_name}
use Rattle.fileset_table.specs.declared.slot.FilesetEntry.{FilesetEntry}
use Rattle.fileset_table.specs.Slot.{HasFirstTag, HasQuota, IsEntry, IsHome, IsNamed}
use Rattle.fileset_table.specs.Writing.{HasNumbers, HasParts, number_list, number_widths}

-- ---- the numbers after the name

home_same : (v v' p p' : ℕ) (home : Option Home) → v' ≡ v → p' ≡ p → IsHome v p home → IsHome v' p' home
home_same v v' p p' home of_v of_p is = subst (λ x. IsHome x p' home) (sym of_v) (subst (λ x. IsHome v x home) (sym of_p) is)

address_same : (v v' c c' p p' : ℕ) (at : Option CellAt) → v' ≡ v → c' ≡ c → p' ≡ p → IsAddress v c p at → IsAddress v' c' p' at
address_same v v' c c' p p' at of_v of_c of_p is =
    subst (λ x. IsAddress x c' p' at) (sym of_v) (subst (λ x. IsAddress v x p' at) (sym of_c) (subst (λ x. IsAddress v c x at) (sym of_p) is))

module _ (n1 n2 n3 n4 n5 n6 n7 n8 n9 : ℕ) (rest out : List ℕ) (written : out ≡ spelled number_widths (number_list n1 n2 n3 n4 n5 n6 n7 n8 n9) ++ rest)
    (fit : Fit number_widths (number_list n1 n2 n3 n4 n5 n6 n7 n8 n9)) where
  back : decoded number_widths 0 out ≡ number_list n1 n2 n3 n4 n5 n6 n7 n8 n9
  back = ap (decoded number_widths 0) written
      ∙ decoded_again number_widths (any_of number_widths) nothing_seen (number_list n1 n2 n3 n4 n5 n6 n7 n8 n9) [] rest 0 (pass_any number_widths (number_list n1 n2 n3 n4 n5 n6 n7 n8 n9) fit) refl

  at : (k : ℕ) → get_or (decoded number_widths 0 out) k 0 ≡ get_or (number_list n1 n2 n3 n4 n5 n6 n7 n8 n9) k 0
  at k = ap (λ ns. get_or ns k 0) back

  pub numbers_are : (numbers : SlotNumbers) → n1 ≡ numbers.original → n2 ≡ numbers.number → IsHome n3 n4 numbers.first_tag → n5 ≡ numbers.files_limit → n6 ≡ numbers.blocks_limit
      → IsAddress n7 n8 n9 numbers.quota → HasNumbers out numbers
  numbers_are numbers original number first_tag files blocks quota = record {
    original = at 0 ∙ original;
    number = at 2 ∙ number;
    first_tag = home_same n3 (number_at 4 16 out) n4 (number_at 4 20 out) numbers.first_tag (at 3) (at 4) first_tag;
    files_limit = at 5 ∙ files;
    blocks_limit = at 6 ∙ blocks;
    zero = at 7;
    quota = address_same n7 (number_at 1 42 out) n8 (number_at 1 43 out) n9 (number_at 4 44 out) numbers.quota (at 8) (at 9) (at 10) quota;
  }

-- ---- the state and the name

state_at : (state : ℕ) (rest : List ℕ) → number_at 1 0 (state ∷ rest) ≡ state
unfolding number_at
state_at state rest = omega arith

size_at : (state size : ℕ) (rest : List ℕ) → number_at 1 1 (state ∷ size ∷ rest) ≡ size
unfolding number_at
size_at state size rest = omega arith

zeros_first : (n m : ℕ) → n ≤ m → take n (zero_bytes m) ≡ zero_bytes n
unfolding zero_bytes
zeros_first n m le = take-replicate n m 0 le

two : zero_bytes 128 ≡ 0 ∷ 0 ∷ zero_bytes 126
unfolding zero_bytes
two = refl

pub zero_state : (out : List ℕ) → out ≡ zero_bytes 128 → number_at 1 0 out ≡ 0
zero_state out zeros = ap (number_at 1 0) (zeros ∙ two) ∙ state_at 0 (0 ∷ zero_bytes 126)

pub name_written : (state : ℕ) (name part out : List ℕ) → out ≡ zero_bytes 128 → length name ≤ 31 → part ≡ name
    → put_mid 2 (2 + length name - 2) (slice_set (slice_set out 0 state) 1 (length name)) part ≡ state ∷ length name ∷ (name ++ zero_bytes (126 - length name))
name_written state name part out zeros few is =
    let e : 2 + length name - 2 ≡ length name = omega arith in
    let rest : drop (2 + length name - 2) (zero_bytes 126) ≡ zero_bytes (126 - length name) = ap (λ n. drop n (zero_bytes 126)) e ∙ zeros_left (length name) 126 (omega (arith, few)) in
    ap (λ bs. put_mid 2 (2 + length name - 2) (slice_set (slice_set bs 0 state) 1 (length name)) part) (zeros ∙ two)
    ∙ (λ i. state ∷ length name ∷ (is i ++ rest i))

module _ (state : ℕ) (name front part out : List ℕ) (few : length name ≤ 31) (front_is : front ≡ state ∷ length name ∷ (name ++ zero_bytes (126 - length name)))
    (part_len : length part ≡ 88) (out_is : out ≡ put_mid 40 (length front - 40) front part) where
  front_len : length front ≡ 128
  front_len = ap length front_is ∙ omega (arith, length-append name (zero_bytes (126 - length name)), length-zero_bytes (126 - length name), few)

  forty : length (take 40 front) ≡ 40
  forty = omega (arith, length-take 40 front, front_len)

  none : post_of 40 (length front - 40) front ≡ []
  none = drop_all (length front - 40) (drop 40 front) (omega (arith, length-drop 40 front))

  whole : out ≡ take 40 front ++ part
  whole = out_is ∙ ap (λ (bs : List ℕ). take 40 front ++ (part ++ bs)) none ∙ ap (λ (bs : List ℕ). take 40 front ++ bs) (append-nil part)

  -- what stands in the first 40 bytes is the front's
  piece : (a n : ℕ) → a + n ≤ 40 → take n (drop a out) ≡ take n (drop a front)
  piece a n le = here (out) part whole ∙ sym (here front (drop 40 front) (sym (take-append-drop 40 front)))
    where
      here : (bs rest : List ℕ) → bs ≡ take 40 front ++ rest → take n (drop a bs) ≡ take n (drop a (take 40 front))
      here bs rest is =
          ap (λ xs. take n (drop a xs)) is ∙ ap (take n) (drop-append-le a (take 40 front) rest (omega (arith, forty, le)))
          ∙ take-append-le n (drop a (take 40 front)) rest (omega (arith, length-drop a (take 40 front), forty, le))

  number_same : (w a : ℕ) → a + w ≤ 40 → number_at w a out ≡ number_at w a front
  unfolding number_at
  number_same w a le = little_number-take w (drop a out) (drop a front) (piece a w le)

  pub out_len : length out ≡ 128
  out_len = ap length whole ∙ omega (arith, length-append (take 40 front) part, forty, part_len)

  behind : drop 40 out ≡ part
  behind = ap (drop 40) whole ∙ drop_at (take 40 front) part 40 forty

  name_piece : take 31 (drop 2 front) ≡ name ++ zero_bytes (31 - length name)
  name_piece =
      let e : length name + (31 - length name) ≡ 31 = omega (arith, few) in
      let zeros = zero_bytes (126 - length name) in
      ap (λ (bs : List ℕ). take 31 (drop 2 bs)) front_is ∙ ap (λ n. take n (name ++ zeros)) (sym e) ∙ take-append-add name zeros (31 - length name)
      ∙ ap (λ (bs : List ℕ). name ++ bs) (zeros_first (31 - length name) (126 - length name) (omega arith))

  pub parts_are : (numbers : SlotNumbers) → HasNumbers part numbers → HasParts state name numbers out
  parts_are numbers are = record {
    begins = number_same 1 0 (omega arith) ∙ ap (number_at 1 0) front_is ∙ state_at state (length name ∷ (name ++ zero_bytes (126 - length name)));
    size = number_same 1 1 (omega arith) ∙ ap (number_at 1 1) front_is ∙ size_at state (length name) (name ++ zero_bytes (126 - length name));
    spelled = piece 2 31 (omega arith) ∙ name_piece;
    behind = subst (λ bs. HasNumbers bs numbers) (sym behind) are;
  }

-- ---- what the parts say

in_part : (w o a : ℕ) (bytes : List ℕ) → a ≡ 40 + o → number_at w a bytes ≡ number_at w o (drop 40 bytes)
unfolding number_at
in_part w o a bytes is = ap (λ n. little_number w (drop n bytes)) is ∙ ap (little_number w) (sym (drop-drop o 40 bytes))

module _ (state : ℕ) (name : List ℕ) (numbers : SlotNumbers) (out : List ℕ) (parts : HasParts state name numbers out) where
  pub original_there : number_at 4 40 out ≡ numbers.original
  original_there = in_part 4 0 40 out (omega arith) ∙ parts.behind.original

  pub number_there : number_at 8 48 out ≡ numbers.number
  number_there = in_part 8 8 48 out (omega arith) ∙ parts.behind.number

  pub first_tag_there : HasFirstTag out numbers.first_tag
  first_tag_there =
      home_same (number_at 4 16 (drop 40 out)) (number_at 4 56 out) (number_at 4 20 (drop 40 out)) (number_at 4 60 out) numbers.first_tag
      (in_part 4 16 56 out (omega arith)) (in_part 4 20 60 out (omega arith)) parts.behind.first_tag

  pub quota_there : HasQuota out numbers.quota
  quota_there = record {
    zero = in_part 2 40 80 out (omega arith) ∙ parts.behind.zero;
    address = address_same (number_at 1 42 (drop 40 out)) (number_at 1 82 out) (number_at 1 43 (drop 40 out)) (number_at 1 83 out) (number_at 4 44 (drop 40 out)) (number_at 4 84 out) numbers.quota
        (in_part 1 42 82 out (omega arith)) (in_part 1 43 83 out (omega arith)) (in_part 4 44 84 out (omega arith)) parts.behind.quota;
  }

  pub entry_there : (entry : FilesetEntry) → is_fileset_name name ≡ true → name ≡ entry.name → numbers.first_tag ≡ Some entry.first_tag → numbers.files_limit ≡ entry.files_limit
      → numbers.blocks_limit ≡ entry.blocks_limit → numbers.quota ≡ entry.quota → IsEntry out entry
  entry_there entry form of_name of_tag of_files of_blocks of_quota = record {
    named = subst (IsNamed out) of_name (record { form = form; size = parts.size; spelled = parts.spelled });
    first_tag = subst (HasFirstTag out) of_tag first_tag_there;
    files_limit = in_part 8 24 64 out (omega arith) ∙ parts.behind.files_limit ∙ of_files;
    blocks_limit = in_part 8 32 72 out (omega arith) ∙ parts.behind.blocks_limit ∙ of_blocks;
    quota = subst (HasQuota out) of_quota quota_there;
  }
